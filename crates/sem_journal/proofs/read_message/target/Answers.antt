use Rattle.std.proofs.Common.{[]}
use Rattle.std.proofs.lemmas.List.Elements.{All-contains}
use Rattle.sem_trace.specs.MessageForms.{targets, IsTargetRow}
use Rattle.sem_journal.specs.EntryText.{target_words}
use Rattle.sem_journal.specs.EntryRanges.{TargetFits}
use Rattle.sem_journal.proofs.NamedParts.{target_rows, plain_target, named_read, name_refused}
use Rattle.sem_journal.proofs.read_message.target.Goals as goal

pub returns-in_default : goal.returns-in_default
returns-in_default c = name_refused c.args.version [] c.targets.result.now (targets c.args.version) target_words (TargetFits c.args.version) _ _ _
    c.in_ok-name.ensures.ok (c.targets.ensures.table c.args.version) c.in_default.ensures

pub plain_parts-requires : goal.plain_parts-requires
plain_parts-requires c =
    let row : IsTargetRow c.in-Some.form.now = All-contains IsTargetRow _ _ c.targets.ensures.rows c.in-Some.ensures.0 in
    let plain = plain_target c.in-Some.form.now.kind c.in-Some.form.now.parts.now row.parts in
    record { few = plain.0; plain = plain.1 }

pub returns : goal.returns
returns c =
    let row : IsTargetRow c.in-Some.form.now = All-contains IsTargetRow _ _ c.targets.ensures.rows c.in-Some.ensures.0 in
    named_read target_rows c.args.version target_words TargetFits c.in-Some.form.now _ _ _ _ _ _ row.name row.parts c.in-Some.ensures.1
    c.in_ok-name.ensures.ok c.in_ok-values.ensures c.target_from.ensures.words c.target_from.ensures.fits
