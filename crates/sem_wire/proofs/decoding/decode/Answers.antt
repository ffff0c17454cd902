use Rattle.std.proofs.Common.{◌≡◌, Some, Ok, Err, ap, sym, subst, ◌∙◌}
use Rattle.std.specs.Prelude.{◌↔◌}
use Rattle.sem_msg.specs.Message.{Fits}
use Rattle.sem_wire.specs.Records.{record_of, rows_in}
use Rattle.sem_wire.specs.Grammar.{wire_fault}
use Rattle.sem_wire.specs.Reading.{message_read}
use Rattle.sem_wire.proofs.Records.{read_exactly, refused_exactly}
use Rattle.sem_wire.proofs.decoding.decode.Goals as goal

pub returns-clause-read : goal.returns-clause-read
returns-clause-read c m =
    let bytes = c.args.bytes.now in
    subst (λ r. (r ≡ Ok m) ↔ (Fits m × (record_of m ≡ bytes))) (sym (c.message.ensures ∙ ap message_read c.read_rows.ensures))
    (read_exactly bytes c.told-bytes c.fits-bytes m)

pub returns-clause-refused : goal.returns-clause-refused
returns-clause-refused c f =
    subst (λ r. (r ≡ Err f) ↔ (wire_fault (rows_in c.args.bytes.now) ≡ Some f)) (sym (c.message.ensures ∙ ap message_read c.read_rows.ensures))
    (refused_exactly (rows_in c.args.bytes.now) f)
