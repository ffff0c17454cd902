use Rattle.std.proofs.Common.{◌+◌, sym, ◌∙◌}
use Rattle.sem_mem.specs.Meeting.{IsMetPart}
use Rattle.sem_mem.proofs.Meeting.{runs-within, looked-middle}
use Rattle.sem_mem.proofs.looks.look_into.Goals as goal

pub look_in-requires-clause-runs : goal.look_in-requires-clause-runs
look_in-requires-clause-runs c = runs-within c.met_by-from.result.0 c.met_by-from.result.1 c.args.runs.now c.requires.runs

-- the runs that the range meets tell of it what all runs tell
pub returns : goal.returns
returns c =
    let met : IsMetPart c.args.runs.now c.args.base (c.args.base + c.args.len) c.met_by-from.result.0 c.met_by-from.result.1 =
    rw (sym c.from.ensures) c.met_by-from.ensures in
    c.look_in.ensures ∙ looked-middle c.args.runs.now c.args.base c.args.len c.met_by-from.result.0 c.met_by-from.result.1 c.requires.runs met
