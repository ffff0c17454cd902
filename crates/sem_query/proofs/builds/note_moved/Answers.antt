use Rattle.std.proofs.Common.{List, ◌++◌, sym, ap, ◌∙◌, append-nil}
use Rattle.std.specs.List.{flat_map}
use Rattle.std.proofs.lemmas.List.{take_all}
use Rattle.sem_key.specs.KeyName.{KeyName}
use Rattle.sem_query.specs.Building.{noted_of}
use Rattle.sem_query.specs.MarkedKeys.{marking}
use Rattle.sem_query.proofs.Beginning.{noted-none, noted-more, noted-all, marked-more}
use Rattle.sem_query.proofs.builds.note_moved.Goals as goal

pub loop-key-init : goal.loop-key-init
loop-key-init c = record {
  index = noted-none c.args.setup.now c.args.world.now.world c.args.n c.args.moved.now c.args.index.now;
  marked = sym (append-nil c.args.marked.now.items);
}

pub loop-key-preserved : goal.loop-key-preserved
loop-key-preserved c = record {
  index =
      noted-more c.args.setup.now c.args.world.now.world c.args.n c.args.moved.now c.args.index.now c.loop-key.key-index c.key-item.result c.loop-key.index
      c.note.new.self c.loop-key-test.true c.key-item.is c.loop-key.invariant.index
      (c.in_ok-note.ensures ∙ ap (λ h. noted_of c.key-item.result c.args.n h c.loop-key.index) c.see.ensures);
  marked = marked-more c.args.setup.now c.args.world.now.world c.args.moved.now c.loop-key.key-index c.key-item.result c.args.marked.now.items
      c.loop-key.marked.items c.push_marked.new.marked.items c.loop-key-test.true c.key-item.is c.loop-key.invariant.marked c.in_ok-push_marked.ensures;
}

pub returns-clause-index : goal.returns-clause-index
returns-clause-index c = c.loop-key.invariant.index
    ∙ noted-all c.args.setup.now c.args.world.now.world c.args.n c.args.moved.now c.args.index.now c.loop-key.key-index c.loop-key-test.false

pub returns-clause-marked : goal.returns-clause-marked
returns-clause-marked c = c.loop-key.invariant.marked
    ∙ ap (λ (ks : List KeyName). c.args.marked.now.items ++ flat_map (marking c.args.setup.now c.args.world.now.world) ks)
    (take_all c.loop-key.key-index c.args.moved.now c.loop-key-test.false)
