use Rattle.std.proofs.Common.{refl, ap, ◌∙◌}
use Rattle.sem_msg.specs.Setup.{Setup, IsSetup}
use Rattle.sem_msg.specs.declared.entry.Entry.{Entry}
use Rattle.sem_story.specs.declared.stages.Stage.{Stage}
use Rattle.sem_story.specs.declared.walks.Walk.{Walk}
use Rattle.sem_story.specs.Changes.{stage_after}
use Rattle.sem_story.proofs.Walking.{walked}
use Rattle.sem_story.proofs.walks.Walk.go_on.Goals as goal

pub returns : goal.returns
returns c = λ J before later runs parts number after.
    let T : Setup = c.args.setup.now in
    let valid : IsSetup T = c.keeps_its_rules.ensures in
    let e : Entry = c.args.entry.now in
    let old : Walk = c.args.self.now in
    walked T before e c.args.key old _ (record { number = c.args.number; stage = c.stage_after-self.result }) c.note_grant.new.rows.items
    c.note_bindings.new.rows.items after
    c.in_ok-advance.ensures.ok
    (record {
      moves = c.entries_move_few_keys.ensures.moves T valid J before later e c.args.key runs parts;
      home = c.moved_keys_are_seen_at_home.ensures.seen T valid J before later e c.args.key runs parts;
      passes = c.keys_live_once.ensures.passes T valid J before later e c.args.key runs parts;
    })
    (c.stage_after-self.ensures ∙ ap (λ (s : Stage). stage_after T c.args.key e old.stage s) c.seen_at_home-seen.ensures)
    refl number c.in_ok-note_grant.ensures.notes c.in_ok-note_bindings.ensures.notes c.in_ok-note_stage.ensures.notes c.in_ok-note_grant.ensures.last
    c.in_ok-note_bindings.ensures.last c.in_ok-note_stage.ensures.last
