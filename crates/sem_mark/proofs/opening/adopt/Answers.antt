use Rattle.std.proofs.Common.{arith}
use Rattle.sem_mark.proofs.Opened.{adopted-count, count-less}
use Rattle.sem_mark.proofs.opening.adopt.Goals as goal

-- a job that waits for another has as many tokens out as before
pub add_outstanding-requires : goal.add_outstanding-requires
add_outstanding-requires c =
    rw c.set_up.ensures (count-less c.args.adopter 18446744073709551614 18446744073709551615 _ (omega arith)
    (adopted-count c.args.adopter c.args.marker _ _ c.args.jobs.now.jobs c.requires))
