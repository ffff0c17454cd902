use Rattle.std.proofs.Common.{Err, ap}
use Rattle.semper_example.proofs.confirm.Goals as goal

-- an entry that differs contradicts the schedule
pub unreachable-requires : goal.unreachable-requires
unreachable-requires c =
    let e = c.in-Err-Differs in
    c.a_journal_has_one_verdict.ensures.schedule _ _ _ _ _ (e.ensures.differs e.field-0-0 e.field-0-1 e.field-0-2 (ap Err e.field-0-is)) c.requires.schedule
