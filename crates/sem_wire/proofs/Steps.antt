-- One row at a time: what a reader says of a row is what the grammar says of it.
use Rattle.std.proofs.Common.{◌≡◌, ℕ, ◌+◌, ◌^◌, Bool, true, false, List, [], ◌∷◌, Option, Some, None, Result, Ok, Err, refl, sym, ap, subst, ◌∙◌}
use Rattle.std.specs.Prelude.{◌&&◌, ◌==◌, if◌then◌else◌}
use Rattle.std.specs.Int.{is_in_range}
use Rattle.std.proofs.lemmas.Bool.{eqb-true}
use Rattle.sem_key.specs.KeyName.{KeyName, kind_number}
use Rattle.sem_key.specs.PlaceName.{PlaceName}
use Rattle.sem_wire.specs.declared.fault.WireFault.{WireFault}
use Rattle.sem_wire.specs.declared.fault.WireFault.TheVariants.{Field, Padding}
use Rattle.sem_wire.specs.Grammar.{Row, row_with, first_wire_fault, kind_in, is_key, is_key_of, is_place, is_owned}
use Rattle.sem_wire.specs.Reading.{◌>>=◌, allowed, unused, key_in, kind_at, key_at, kind_key_at, place_at}
use Rattle.sem_wire.proofs.Words.{both, apart, renumbered, place_key}

-- the fault that was met, if one was
abbrev pub fault_in : {X : Type 0} → Result X WireFault → Option WireFault
fault_in (Ok x) = None
fault_in (Err f) = Some f

-- the place that a key of any kind is at
abbrev pub place_of : KeyName → PlaceName
place_of key = record { pe = key.pe; vpe = key.vpe; number = key.number }

-- an equal test
tells : (a b : ℕ) → (a == b) ≡ true → a ≡ b
tells a b e = eqb-true a b e

-- the reader meets the first fault of the rows
pub record Says {X : Type 0} (r : Result X WireFault) (rows : List Row) : Type 0 where
  pub fault : fault_in r ≡ first_wire_fault rows

pub then_says : {A B : Type 0} (r : Result A WireFault) (g : A → B) (rows : List Row) → Says r rows → Says (r >>= λ x. Ok (g x)) rows
then_says (Ok x) g rows says = record { fault = says.fault }
then_says (Err f) g rows says = record { fault = says.fault }

pub done_says : {B : Type 0} (x : B) → Says (Ok x) []
unfolding first_wire_fault
done_says x = record { fault = refl }

module _ {B : Type 0} where
  pub allowed_step : (at n : ℕ) (b : Bool) (f : Unit {0} → Result B WireFault) (rows : List Row) → (b ≡ true → Says (f tt) rows) →
      Says (allowed at b >>= f) (row_with at n true b ∷ rows)
  unfolding first_wire_fault
  allowed_step at n true f rows go = record { fault = (go refl).fault }
  allowed_step at n false f rows go = record { fault = refl }

  pub unused_step : (at n : ℕ) (b : Bool) (f : Unit {0} → Result B WireFault) (rows : List Row) → Says (f tt) rows →
      Says (unused at n >>= f) (row_with at n false b ∷ rows)
  unfolding first_wire_fault
  unused_step at n b f rows go = record { fault = by_test (n == 0) }
    where
      by_test : (zero_is : Bool) →
          fault_in ((if zero_is then Ok (tt {0}) else Err (Padding at)) >>= f) ≡ elim (if zero_is then None else Some (Padding at)) [
            | Some fault ↦ Some fault
            | None ↦ first_wire_fault rows
          ]
      by_test true = go.fault
      by_test false = refl

  pub key_step : (at w : ℕ) (f : KeyName → Result B WireFault) (rows : List Row) → (is_key w ≡ true → Says (f (key_in w)) rows) →
      Says (key_at at w >>= f) (row_with at w true (is_key w) ∷ rows)
  unfolding first_wire_fault
  key_step at w f rows go = record { fault = by_test (is_key w) refl }
    where
      by_test : (b : Bool) → is_key w ≡ b → fault_in ((if b then Ok (key_in w) else Err (Field at)) >>= f) ≡ first_wire_fault (row_with at w true b ∷ rows)
      by_test true e = (go e).fault
      by_test false e = refl

  pub kind_key_step : (at kind w : ℕ) → is_in_range 1 5 kind ≡ true → (f : KeyName → Result B WireFault) (rows : List Row) →
      (is_key_of kind w ≡ true → Says (f (key_in w)) rows) → Says (kind_key_at at kind w >>= f) (row_with at w true (is_key_of kind w) ∷ rows)
  unfolding kind_key_at first_wire_fault
  kind_key_step at kind w ranged f rows go = record { fault = by_key (is_key w) refl }
    where
      by_kind : (b n : ℕ) (owned same : Bool) → owned ≡ true → (b == kind) ≡ same → n ≡ b →
          ((same && owned) ≡ true → fault_in (f (key_in w)) ≡ first_wire_fault rows) →
          fault_in ((allowed at (n == kind) >>= λ agrees. Ok (key_in w)) >>= f) ≡ first_wire_fault (row_with at w true (same && owned) ∷ rows)
      by_kind b n owned true o e same go = rw (same, e, o) (go o)
      by_kind b n owned false o e same go = rw (same, e) refl

      by_key : (b : Bool) → is_key w ≡ b →
          fault_in (((if b then Ok (key_in w) else Err (Field at)) >>= λ key. allowed at (kind_number key.kind == kind) >>= λ agrees. Ok key) >>= f)
          ≡ first_wire_fault (row_with at w true (is_key_of kind w) ∷ rows)
      by_key true e =
          let h = both (is_in_range 1 5 (kind_in w)) (is_owned w) e in
          by_kind (kind_in w) (kind_number (kind_at (kind_in w))) (is_owned w) (kind_in w == kind) h.1 refl (renumbered (kind_in w) h.0) (λ e. (go e).fault)
      by_key false e = ap (λ b. first_wire_fault (row_with at w true b ∷ rows)) (sym (by_same (kind_in w == kind) (is_owned w) refl refl))
        where
          by_same : (same owned : Bool) → (kind_in w == kind) ≡ same → is_owned w ≡ owned → (same && owned) ≡ false
          by_same false owned p q = refl
          by_same true false p q = refl
          by_same true true p q = absurd (apart (sym e ∙ rw (tells (kind_in w) kind p, ranged, q) refl))

  pub place_step : (at w : ℕ) (f : PlaceName → Result B WireFault) (rows : List Row) → (is_place w ≡ true → Says (f (place_of (key_in (w + 2 ^ 32)))) rows) →
      Says (place_at at w >>= f) (row_with at w true (is_place w) ∷ rows)
  unfolding place_at first_wire_fault
  place_step at w f rows go = record { fault = by_kind (kind_in w == 0) refl }
    where
      by_owned : (b : Bool) → is_key (w + 2 ^ 32) ≡ b → is_owned w ≡ b →
          (is_place w ≡ true → fault_in (f (place_of (key_in (w + 2 ^ 32)))) ≡ first_wire_fault rows) → (kind_in w == 0) ≡ true →
          fault_in (((if b then Ok (key_in (w + 2 ^ 32)) else Err (Field at)) >>= λ key. Ok (place_of key)) >>= f)
          ≡ first_wire_fault (row_with at w true (true && b) ∷ rows)
      by_owned true p q go e = go (rw (e, q) refl)
      by_owned false p q go e = refl

      by_kind : (b : Bool) → (kind_in w == 0) ≡ b → fault_in ((allowed at b >>= λ no_kind. key_at at (w + 2 ^ 32) >>= λ key. Ok (place_of key)) >>= f)
          ≡ first_wire_fault (row_with at w true (b && is_owned w) ∷ rows)
      by_kind false e = refl
      by_kind true e =
          let same = place_key w (tells (kind_in w) 0 e) in
          rw same (by_owned (is_owned w) same refl (λ e. (go e).fault) e)

-- the last row
pub unused_end : (at n : ℕ) (b : Bool) → Says (unused at n) (row_with at n false b ∷ [])
unfolding first_wire_fault
unused_end at n b = record { fault = by_test (n == 0) }
  where
    by_test : (zero_is : Bool) →
        fault_in (if zero_is then Ok (tt {0}) else Err (Padding at)) ≡ elim (if zero_is then None else Some (Padding at)) [
          | Some fault ↦ Some fault
          | None ↦ None
        ]
    by_test true = refl
    by_test false = refl

-- the same where the row is the first of several that are read together
module _ {A B : Type 0} where
  one_by_one : {C : Type 0} (r : Result A WireFault) (f : A → Result B WireFault) (g : B → Result C WireFault) → ((r >>= f) >>= g) ≡ (r >>= λ x. f x >>= g)
  one_by_one (Ok x) f g = refl
  one_by_one (Err e) f g = refl

  pub then_step : {C : Type 0} (r : Result A WireFault) (f : A → Result B WireFault) (g : B → Result C WireFault) (rows : List Row) →
      Says (r >>= λ x. f x >>= g) rows → Says ((r >>= f) >>= g) rows
  then_step r f g rows says = record { fault = ap fault_in (one_by_one r f g) ∙ says.fault }

-- a row that is right, or wrong, whatever is read
pub passed : {B : Type 0} (at n : ℕ) (r : Result B WireFault) (rows : List Row) → Says r rows → Says r (row_with at n true true ∷ rows)
unfolding first_wire_fault
passed at n r rows says = record { fault = says.fault }

pub failed : {B : Type 0} (at n : ℕ) (rows : List Row) → Says {X = B} (Err (Field at)) (row_with at n true false ∷ rows)
unfolding first_wire_fault
failed at n rows = record { fault = refl }

-- a test that is said otherwise
pub allowed_as : {B : Type 0} (at n : ℕ) (b c : Bool) → b ≡ c → (f : Unit {0} → Result B WireFault) (rows : List Row) → (c ≡ true → Says (f tt) rows) →
    Says (allowed at b >>= f) (row_with at n true c ∷ rows)
allowed_as at n b c e f rows go = subst (λ x. Says (allowed at x >>= f) (row_with at n true c ∷ rows)) (sym e) (allowed_step at n c f rows go)
