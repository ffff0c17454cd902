use Rattle.sem_query.proofs.Walking.{lists-none, lists-more, lists-all}
use Rattle.sem_query.proofs.reach.list_all.Goals as goal

pub loop-key-init : goal.loop-key-init
loop-key-init c = record { listed = lists-none c.args.kernel.now.side.caps c.args.keys.now.items; words = c.requires.words }

pub loop-key-preserved : goal.loop-key-preserved
loop-key-preserved c = record {
  listed = lists-more c.args.kernel.now.side.caps c.args.more.now c.loop-key.key-index c.key-item.result c.args.keys.now.items c.loop-key.keys.items
      c.list.new.keys.items c.loop-key-test.true c.key-item.is c.loop-key.invariant.listed c.in_ok-list.ensures.listed;
  words = c.in_ok-list.ensures.words;
}

pub returns-clause-listed : goal.returns-clause-listed
returns-clause-listed c = lists-all c.args.kernel.now.side.caps c.args.more.now c.loop-key.key-index c.args.keys.now.items c.loop-key.keys.items
    c.loop-key-test.false c.loop-key.invariant.listed
