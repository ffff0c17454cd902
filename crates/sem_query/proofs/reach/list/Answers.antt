use Rattle.std.proofs.Common.{List, sym, subst, ◌∙◌, ◌∷◌, []}
use Rattle.std.proofs.lemmas.Bool.{true≢false}
use Rattle.sem_key.specs.KeyName.{KeyName}
use Rattle.sem_key.specs.Region.{has_key}
use Rattle.sem_key.proofs.KeyTests.{Contains-from_has_key}
use Rattle.sem_query.specs.Reaching.{Lists, HasWords}
use Rattle.sem_query.proofs.Walking.{lists-no, lists-push, words-push}
use Rattle.sem_query.proofs.reach.list.Goals as goal
use Rattle.sem_query.proofs.reach.list.Goals.{else-is_open-via-then-is_open+else-not-has_word, else-is_open-via-else-is_open}

-- the key is held unmarked, and not listed yet
pub returns-in_ok-push-clause-listed : goal.returns-in_ok-push-clause-listed
returns-in_ok-push-clause-listed c =
    let caps = c.args.kernel.now.side.caps in
    let ks = c.args.keys.now.items in
    subst (Lists caps (c.args.key ∷ []) ks) (sym c.in_ok-push.ensures.items)
    (lists-push caps c.args.key ks (sym c.is_open.ensures ∙ c.if-is_open.true) (sym (c.requires.words c.args.key c.has_word.ensures.valid)
    ∙ (sym c.has_word.ensures.word ∙ c.if-not-has_word.true)))

pub returns-in_ok-push-clause-words : goal.returns-in_ok-push-clause-words
returns-in_ok-push-clause-words c =
    subst (λ (ks : List KeyName). HasWords c.add_word.new.words (has_key ks)) (sym c.in_ok-push.ensures.items)
    (words-push c.args.words.now c.add_word.new.words c.args.keys.now.items c.args.key c.requires.words c.in_ok-add_word.ensures)

-- it is listed, or not held unmarked
pub returns-else-is_open-clause-listed : goal.returns-else-is_open-clause-listed
returns-else-is_open-clause-listed c =
    let caps = c.args.kernel.now.side.caps in
    let ks = c.args.keys.now.items in
    elim c.else-is_open.branch [
      | else-is_open-via-then-is_open+else-not-has_word w ↦
          lists-no caps c.args.key ks (λ _. Contains-from_has_key ks c.args.key (sym (c.requires.words c.args.key w.has_word.ensures.valid)
          ∙ (sym w.has_word.ensures.word ∙ w.if-not-has_word.false)))
      | else-is_open-via-else-is_open w ↦
          lists-no caps c.args.key ks (λ open'. absurd (true≢false (sym open' ∙ (sym c.is_open.ensures ∙ w.if-is_open.false))))
    ]
