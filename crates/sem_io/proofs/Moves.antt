-- How takings from a source and givings to a sink add up over several calls.
use Rattle.std.proofs.Common.{◌≡◌, ℕ, ◌+◌, ◌≤◌, List, [], ◌++◌, length, take, drop, Option, Some, None, IfSome, Result, Ok, Err, OnErr, refl, sym, ap, arith}
use Rattle.std.proofs.Common.{append_assoc, append-nil, length-append, length-take, length-drop, drop-drop, inl, inr}
use Rattle.std.proofs.lemmas.List.{take_at, take_all, take_rest, take-append-drop}
use Rattle.std.specs.List.{slice_range}
use Rattle.std.proofs.lemmas.Bool.{cases_lt}
use Rattle.std.proofs.Math.Seq.{take-add}
use Rattle.std.proofs.lemmas.Grind.{common_steps}
use Rattle.sem_io.specs.SourceBytes.{Takes, TakesAtMost}
use Rattle.sem_io.specs.SinkBytes.{Appends}

-- what holds, holds on an error
pub holds_on_err : {T E P : Type 0} (r : Result T E) → P → OnErr r P
holds_on_err (Ok value) p = tt
holds_on_err (Err error) p = p

-- no bytes were taken
pub Takes-nil : (left : Option (List ℕ)) → Takes left left []
Takes-nil None = refl
Takes-nil (Some xs) = refl

-- first these bytes were taken, then those
pub Takes-append : (before between after : Option (List ℕ)) (xs ys : List ℕ) → Takes before between xs → Takes between after ys → Takes before after (xs ++ ys)
Takes-append before between None xs ys first second = grind arith
Takes-append before between (Some rest) xs ys first second = grind (arith, append_assoc)

-- the same of one list
whole_of : (xs rest : List ℕ) (limit : ℕ) → length xs ≤ limit + 1 → (length xs ≤ limit → rest ≡ []) → xs ≡ take (limit + 1) (xs ++ rest)
whole_of xs rest limit within ended = elim (cases_lt limit (length xs)) [
  | inl long ↦ sym (take_at xs rest (limit + 1) (omega arith))
  | inr short ↦ rw (ended short, append-nil) (sym (take_all (limit + 1) xs (omega arith)))
]

-- what was taken from a source that tells is the first limit + 1 bytes, where it stops short of that only at the end
pub Takes-whole : (before after : Option (List ℕ)) (xs : List ℕ) (limit : ℕ) → Takes before after xs → length xs ≤ limit + 1 →
    (length xs ≤ limit → IfSome after (λ rest. rest ≡ [])) → IfSome before (λ left. xs ≡ take (limit + 1) left)
Takes-whole before None xs limit taken within ended = rw taken tt
Takes-whole before (Some rest) xs limit taken within ended = rw taken (whole_of xs rest limit within ended)

-- no bytes were given
pub Appends-nil : (written : Option (List ℕ)) → Appends written written []
Appends-nil None = refl
Appends-nil (Some xs) = grind (arith, common_steps)

-- first these bytes were given, then those
pub Appends-append : (before between after : Option (List ℕ)) (xs ys : List ℕ) → Appends before between xs → Appends between after ys →
    Appends before after (xs ++ ys)
Appends-append None between after xs ys first second = grind arith
Appends-append (Some written) between after xs ys first second = grind (arith, append_assoc)

-- between two reads: these bytes were taken, one more than the limit at most
pub record IsReading (before now : Option (List ℕ)) (faults_before faults_now : ℕ) (bytes : List ℕ) (limit : ℕ) : Type 0 where
  pub taken : Takes before now bytes
  pub within : length bytes ≤ limit + 1
  pub quiet : faults_now ≡ faults_before

-- between two writes: the first bytes were given, as many as are done
pub record IsWriting (before now : Option (List ℕ)) (faults_before faults_now : ℕ) (bytes : List ℕ) (done : ℕ) : Type 0 where
  pub given : Appends before now (take done bytes)
  pub within : done ≤ length bytes
  pub quiet : faults_now ≡ faults_before

-- after one more write of `count` bytes
pub writes_on : (before now after : Option (List ℕ)) (faults_before faults_now faults_after : ℕ) (bytes : List ℕ) (done count : ℕ) →
    IsWriting before now faults_before faults_now bytes done → Appends now after (take count (slice_range bytes done (length bytes))) →
    count ≤ length (slice_range bytes done (length bytes)) → faults_after ≡ faults_now → IsWriting before after faults_before faults_after bytes (done + count)
writes_on before now after faults_before faults_now faults_after bytes done count writing given within rise =
    let given' : Appends now after (take count (drop done bytes)) = rw take_rest at given in
    let within' : count ≤ length (drop done bytes) = rw take_rest at within in
    record {
      given = rw take-add (Appends-append before now after (take done bytes) (take count (drop done bytes)) writing.given given');
      within = omega (arith, length-drop done bytes, writing.within);
      quiet = omega (arith, writing.quiet);
    }

-- after one more read that did not go past the limit
pub reads_at_most : (before now after : Option (List ℕ)) (faults_before faults_now : ℕ) (bytes piece : List ℕ) (limit : ℕ) →
    IsReading before now faults_before faults_now bytes limit → Takes now after piece → length bytes + length piece ≤ limit + 1 →
    TakesAtMost before after (limit + 1)
reads_at_most before now after faults_before faults_now bytes piece limit reading taken within = (
  bytes ++ piece,
  omega (arith, length-append bytes piece),
  Takes-append before now after bytes piece reading.taken taken,
)

-- a copied piece at the front of a buffer, and what comes after it in the input
pub piece_then_rest : (input copied rest : List ℕ) (at count : ℕ) → copied ≡ slice_range input at (at + count) → at + count ≤ length input →
    drop at input ≡ take count (copied ++ rest) ++ drop (at + count) input
piece_then_rest input copied rest at count same within =
    let taken : copied ≡ take count (drop at input) = rw same (ap (λ n. take n (drop at input)) (omega arith)) in
    let long : length copied ≡ count = rw (taken, length-take, length-drop) (omega arith) in
    rw (take_at copied rest count long, taken, ← drop-drop count at input) (sym (take-append-drop count (drop at input)))
