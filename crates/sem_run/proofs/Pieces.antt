-- How a text is written a piece at a time.
use Rattle.std.proofs.Common.{◌≡◌, ℕ, ◌+◌, ◌<◌, List, ◌++◌, length, take, drop, map, get_or, Option, Result, Ok, Err, OnErr, refl, sym, ◌∙◌, ap, subst, arith}
use Rattle.std.proofs.Common.{append_assoc, length-append}
use Rattle.std.proofs.lemmas.List.{at_drop_more, take-append-le}
use Rattle.std.proofs.Math.Seq.{take-append-add}
use Rattle.sem_msg.specs.declared.entry.Entry.{Entry}
use Rattle.sem_io.specs.SinkBytes.{Appends, AppendsPrefix}
use Rattle.sem_io.proofs.Moves.{Appends-append}
use Rattle.sem_text.specs.Lines.{line, text}
use Rattle.sem_journal.specs.EntryText.{entry_words}

-- a prefix of a text that goes on
pub prefix-more : (before after : Option (List ℕ)) (xs rest whole : List ℕ) → whole ≡ xs ++ rest → AppendsPrefix before after xs →
    AppendsPrefix before after whole
prefix-more before after xs rest whole is (n, within, given) = (
  n,
  (let sum = ap length is ∙ length-append xs rest in omega (arith, sum)),
  subst (Appends before after) (sym (ap (take n) is ∙ take-append-le n xs rest within)) given,
)

-- a prefix of what comes behind a text
pub prefix-behind : (before now after : Option (List ℕ)) (xs ys whole : List ℕ) → whole ≡ xs ++ ys → Appends before now xs → AppendsPrefix now after ys →
    AppendsPrefix before after whole
prefix-behind before now after xs ys whole is first (n, within, given) = (
  length xs + n,
  (let sum = ap length is ∙ length-append xs ys in omega (arith, sum)),
  subst (Appends before after) (sym (ap (take (length xs + n)) is ∙ take-append-add xs ys n)) (Appends-append before now after xs (take n ys) first given),
)

regrouped : (xs ys zs ws : List ℕ) → xs ++ ys ++ (zs ++ ws) ≡ xs ++ (ys ++ zs) ++ ws
regrouped xs ys zs ws = simp append_assoc

-- what follows from what an `Err` says
pub OnErr-then : {T E P Q : Type 0} (r : Result T E) → OnErr r P → (P → Q) → OnErr r Q
OnErr-then (Ok value) p follows = tt
OnErr-then (Err error) p follows = follows p

-- between two lines: `kept` is to be written next and then `rest`, and no write has failed
pub record IsOnWay (before now : Option (List ℕ)) (faults_before faults_now : ℕ) (whole kept rest : List ℕ) : Type 0 where
  pub done : List ℕ
  pub given : Appends before now done
  pub parts : whole ≡ done ++ kept ++ rest
  pub quiet : faults_now ≡ faults_before

module _ (before now : Option (List ℕ)) (faults_before faults_now : ℕ) (whole kept rest : List ℕ) where
  -- the front of what was kept and of one line more was written
  pub line-more : (after : Option (List ℕ)) (faults_after : ℕ) (kept' more rest' : List ℕ) →
      IsOnWay before now faults_before faults_now whole kept rest → ((front : List ℕ) × Appends now after front × (kept ++ more ≡ front ++ kept')) →
      faults_after ≡ faults_now → rest ≡ more ++ rest' → IsOnWay before after faults_before faults_after whole kept' rest'
  line-more after faults_after kept' more rest' way (front, given, split) quiet taken = record {
    done = way.done ++ front;
    given = Appends-append before now after way.done front way.given given;
    parts =
        way.parts ∙ (ap (λ r. way.done ++ kept ++ r) taken ∙ (regrouped way.done kept more rest' ∙ (ap (λ k. way.done ++ k ++ rest') split
        ∙ ap (λ k. k ++ rest') (sym (append_assoc way.done front kept')))));
    quiet = quiet ∙ way.quiet;
  }

  -- a write of what was kept failed
  pub cut-short : (after : Option (List ℕ)) → IsOnWay before now faults_before faults_now whole kept rest → AppendsPrefix now after kept →
      AppendsPrefix before after whole
  cut-short after way failed = prefix-more before after (way.done ++ kept) rest whole way.parts
      (prefix-behind before now after way.done kept (way.done ++ kept) refl way.given failed)

-- the lines of the entries from a place on
pub lines-from : (entries : List Entry) (i : ℕ) (x : Entry) → i < length entries → x ≡ get_or entries i x →
    text (map entry_words (drop i entries)) ≡ line (entry_words x) ++ text (map entry_words (drop (i + 1) entries))
lines-from entries i x within is = at_drop_more (λ es. text (map entry_words es)) entries i x within
    ∙ ap (λ y. line (entry_words y) ++ text (map entry_words (drop (i + 1) entries))) (sym is)
