use Rattle.std.proofs.Common.{◌∷◌, []}
use Rattle.std.proofs.lemmas.Result.{on_ok_weaker}
use Rattle.sem_outcomes.proofs.Searching.{met-same}
use Rattle.sem_outcomes.proofs.meetings.meet.Goals as goal

pub returns-clause-met : goal.returns-clause-met
returns-clause-met c =
    on_ok_weaker c.put.result (λ is. met-same c.args.setup.now c.args.limit c.args.at (c.args.event ∷ []) c.args.histories.now c.numbers_after.new.histories
    c.put.new.histories
    c.numbers_after.ensures.steps is) c.put.ensures.met
