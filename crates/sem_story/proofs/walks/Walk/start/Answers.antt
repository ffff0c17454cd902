use Rattle.std.proofs.Common.{◌≡◌, [], refl, ap, ◌∙◌, arith}
use Rattle.sem_msg.specs.Setup.{Setup, IsSetup}
use Rattle.sem_msg.specs.Lookups.{owner_of}
use Rattle.sem_machine.specs.Machine.{side, start}
use Rattle.sem_machine.proofs.Pushing.{schedule-empty}
use Rattle.sem_kernel.specs.Worlds.{WorldValue}
use Rattle.sem_story.specs.Stages.{seen_by, stage_in}
use Rattle.sem_story.proofs.First.{stage-first}
use Rattle.sem_story.proofs.walks.Walk.start.Goals as goal

pub returns : goal.returns
returns c =
    let T : Setup = c.args.setup.now in
    let valid : IsSetup T = c.keeps_its_rules.ensures in
    let told = stage-first T c.args.key (c.lives_go_on.ensures.first T)
    (c.lives_tell_where_keys_are.ensures.told T valid [] (schedule-empty T [] refl) c.args.key 0 (omega arith)) in
    let stage : c.seen_at_home-stage.result ≡ stage_in T (start T) c.args.key = c.seen_at_home-stage.ensures
    ∙ (ap (λ (w : WorldValue). seen_by c.args.key (side w.world (owner_of T c.args.key))) c.in_ok-world.ensures ∙ told) in
    record {
      world = c.in_ok-world.ensures;
      stage = stage;
      rows = c.in_ok-first_rows.ensures T c.args.key stage;
    }
