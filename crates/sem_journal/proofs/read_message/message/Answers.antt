use Rattle.std.proofs.lemmas.List.Elements.{All-contains}
use Rattle.std.proofs.lemmas.Result.{err_from_is_err_and}
use Rattle.sem_trace.specs.MessageForms.{messages, message_form, IsMessageRow}
use Rattle.sem_journal.specs.EntryText.{message_words}
use Rattle.sem_journal.specs.EntryRanges.{MessageFits}
use Rattle.sem_journal.proofs.NamedParts.{message_rows, named_read, named_refused, name_refused}
use Rattle.sem_journal.proofs.read_message.message.Goals as goal

pub returns-in_default : goal.returns-in_default
unfolding message_form
returns-in_default c = name_refused c.args.version c.args.words.now c.messages.result.now (messages c.args.version c.args.words.now) message_words
    (MessageFits c.args.version) _ _ _ c.in_ok-name.ensures.ok (c.messages.ensures.table c.args.version c.args.words.now) c.in_default.ensures

pub returns : goal.returns
unfolding message_form
returns c =
    let row : IsMessageRow c.in-Some.form.now = All-contains IsMessageRow _ _ c.messages.ensures.rows c.in-Some.ensures.0 in
    named_read message_rows c.args.version message_words MessageFits c.in-Some.form.now _ _ _ _ _ _ row.name row.parts c.in-Some.ensures.1
    c.in_ok-name.ensures.ok c.in_ok-values.ensures c.message_from.ensures.words c.message_from.ensures.fits

pub returns-in_err-values : goal.returns-in_err-values
unfolding message_form
returns-in_err-values c =
    let row : IsMessageRow c.in-Some.form.now = All-contains IsMessageRow _ _ c.messages.ensures.rows c.in-Some.ensures.0 in
    let p = err_from_is_err_and c.from_residual-in_err-values.result c.from_residual-in_err-values.ensures.1 in
    rw (p.1, p.2) (named_refused message_rows c.args.version message_words (MessageFits c.args.version) c.in-Some.form.now _ _ _ _ _ row.name row.parts
    c.in-Some.ensures.1 c.in_ok-name.ensures.ok c.in_err-values.ensures)
