use Rattle.std.proofs.Common.{◌<◌, length, None, sym, arith}
use Rattle.sem_key.proofs.Puts.{put-set}
use Rattle.sem_park.proofs.park.Park.clear.Goals as goal

pub returns-clause-states : goal.returns-clause-states
returns-clause-states c =
    let within : c.args.vpe < length c.self.inside.states = omega (arith, c.self.invariant, c.requires) in
    rw (← c.self.view_is, c.from.ensures) (sym (put-set None c.self.inside.states c.args.vpe None within))
