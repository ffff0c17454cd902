use Rattle.std.proofs.Common.{[]}
use Rattle.std.proofs.lemmas.List.Elements.{All-contains}
use Rattle.sem_trace.specs.MessageForms.{objects, IsObjectRow}
use Rattle.sem_trace.specs.Words.{object_words}
use Rattle.sem_journal.specs.EntryRanges.{ObjectFits}
use Rattle.sem_journal.proofs.NamedParts.{object_rows, plain_object, named_read, name_refused}
use Rattle.sem_journal.proofs.read_message.object.Goals as goal

pub returns-in_default : goal.returns-in_default
returns-in_default c = name_refused c.args.version [] c.objects.result.now (objects c.args.version) object_words (ObjectFits c.args.version) _ _ _
    c.in_ok-name.ensures.ok (c.objects.ensures.table c.args.version) c.in_default.ensures

pub plain_parts-requires : goal.plain_parts-requires
plain_parts-requires c =
    let row : IsObjectRow c.in-Some.form.now = All-contains IsObjectRow _ _ c.objects.ensures.rows c.in-Some.ensures.0 in
    let plain = plain_object c.in-Some.form.now.kind c.in-Some.form.now.parts.now row.parts in
    record { few = plain.0; plain = plain.1 }

pub returns : goal.returns
returns c =
    let row : IsObjectRow c.in-Some.form.now = All-contains IsObjectRow _ _ c.objects.ensures.rows c.in-Some.ensures.0 in
    named_read object_rows c.args.version object_words ObjectFits c.in-Some.form.now _ _ _ _ _ _ row.name row.parts c.in-Some.ensures.1
    c.in_ok-name.ensures.ok c.in_ok-values.ensures c.object_from.ensures.words c.object_from.ensures.fits
