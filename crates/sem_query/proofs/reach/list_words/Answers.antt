use Rattle.std.proofs.Common.{[], ◌∷◌, subst}
use Rattle.sem_key.specs.KeyName.{KeyName}
use Rattle.sem_query.specs.Reaching.{Lists}
use Rattle.sem_query.proofs.Walking.{lists-none, lists-more, lists-all}
use Rattle.sem_query.proofs.reach.list_words.Goals as goal

pub loop-word-init : goal.loop-word-init
loop-word-init c = record { listed = lists-none c.args.kernel.now.side.caps c.args.keys.now.items; words = c.requires.words }

-- the key of the word is listed
pub loop-word-preserved : goal.loop-word-preserved
loop-word-preserved c =
    let caps = c.args.kernel.now.side.caps in
    let one = subst (λ (k : KeyName). Lists caps (k ∷ []) c.loop-word.keys.items c.list.new.keys.items) c.key.ensures.key c.in_ok-list.ensures.listed in
    record {
      listed = lists-more caps c.as_slice-word-items.result.now c.loop-word.word-index c.word-item.result c.args.keys.now.items c.loop-word.keys.items
          c.list.new.keys.items c.loop-word-test.true c.word-item.is c.loop-word.invariant.listed one;
      words = c.in_ok-list.ensures.words;
    }

pub returns-clause-listed : goal.returns-clause-listed
returns-clause-listed c =
    let all = lists-all c.args.kernel.now.side.caps c.as_slice-word-items.result.now c.loop-word.word-index c.args.keys.now.items c.loop-word.keys.items
    c.loop-word-test.false c.loop-word.invariant.listed in
    rw c.as_slice-word-items.ensures.keys at all
