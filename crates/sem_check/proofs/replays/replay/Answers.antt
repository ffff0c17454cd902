use Rattle.std.proofs.Common.{◌∙◌, ap, subst, take}
use Rattle.std.proofs.lemmas.Result.{IfOk-weaker}
use Rattle.sem_check.specs.Replays.{IsLongestSchedule}
use Rattle.sem_check.proofs.replays.replay.Goals as goal

pub repeat-requires : goal.repeat-requires
repeat-requires c = c.in_ok-count.ensures.schedule

pub returns-clause-longest : goal.returns-clause-longest
returns-clause-longest c =
    let T = c.args.setup.now in
    let count = c.in_ok-count.count in
    IfOk-weaker c.repeat.result _ _
    (λ r is. record {
      count = count;
      longest = subst (λ J. IsLongestSchedule T J count) c.as_slice-entries.ensures c.in_ok-count.ensures;
      prefix = is ∙ ap (take count) c.as_slice-entries.ensures;
    })
    c.repeat.ensures.journal
