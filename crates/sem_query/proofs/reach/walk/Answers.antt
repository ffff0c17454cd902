use Rattle.std.proofs.Common.{List, subst, arith}
use Rattle.sem_key.specs.KeyName.{KeyName}
use Rattle.sem_query.specs.Reaching.{Lists}
use Rattle.sem_query.proofs.Walking.{walk-start, walk-next, walk-end, words-none}
use Rattle.sem_query.proofs.reach.walk.Goals as goal

pub list_all-requires : goal.list_all-requires
list_all-requires c = record { words = words-none c.new-words.result c.new-keys.result.items c.new-words.ensures.empty c.new-keys.ensures.items }

pub loop-at-init : goal.loop-at-init
loop-at-init c = record {
  walk = walk-start c.args.kernel.now.side.caps c.args.roots.now c.list_all.new.keys.items
      (subst (λ (ks : List KeyName). Lists c.args.kernel.now.side.caps c.args.roots.now ks c.list_all.new.keys.items) c.new-keys.ensures.items
      c.in_ok-list_all.ensures.listed);
  words = c.in_ok-list_all.ensures.words;
}

-- each key that is listed was not listed before
pub loop-at-smaller : goal.loop-at-smaller
loop-at-smaller c =
    let room = c.in_ok-list_children.ensures.listed.room in
    let more = c.loop-at-test.true in
    omega (arith, room, more, c.len.ensures)

pub loop-at-preserved : goal.loop-at-preserved
loop-at-preserved c = record {
  walk = walk-next c.args.kernel.now.side.caps c.args.roots.now c.loop-at.keys.items c.list_children.new.keys.items c.loop-at.at c.index-key.result.now
      c.loop-at.invariant.walk (omega (arith, c.loop-at-test.true, c.len.ensures)) c.index-key.ensures c.in_ok-list_children.ensures.listed;
  words = c.in_ok-list_children.ensures.words;
}

pub returns : goal.returns
returns c = walk-end c.args.kernel.now.side.caps c.args.roots.now c.loop-at.keys.items c.loop-at.at c.loop-at.invariant.walk
    (omega (arith, c.loop-at-test.false, c.len.ensures))
