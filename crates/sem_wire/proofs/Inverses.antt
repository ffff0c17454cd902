-- What is known of a row that was read.
use Rattle.std.proofs.Common.{◌≡◌, ℕ, ◌+◌, ◌^◌, Bool, true, false, Result, Ok, Err, refl, ap, ◌∙◌, arith}
use Rattle.std.specs.Prelude.{◌==◌, if◌then◌else◌}
use Rattle.std.proofs.lemmas.Bool.{eqb-true}
use Rattle.sem_key.specs.KeyName.{KeyName, kind_number}
use Rattle.sem_key.specs.PlaceName.{PlaceName, IsValidPlace}
use Rattle.sem_wire.specs.declared.fault.WireFault.{WireFault}
use Rattle.sem_wire.specs.declared.fault.WireFault.TheVariants.{Field, Padding}
use Rattle.sem_wire.specs.declared.rows.Rows.{Rows}
use Rattle.sem_wire.specs.Records.{packed_place}
use Rattle.sem_wire.specs.Grammar.{kind_in, is_key}
use Rattle.sem_wire.specs.Reading.{◌>>=◌, allowed, unused, key_in, kind_at, key_at, kind_key_at, place_at, no_index, no_object, no_job}
use Rattle.sem_wire.proofs.Words.{word_again}
use Rattle.sem_wire.proofs.Steps.{place_of}

abbrev done : {A : Type 0} → A → Result A WireFault
done x = Ok x

pub ok_is : {A : Type 0} (x y : A) → done x ≡ done y → x ≡ y
ok_is x y e = cc

module _ {B : Type 0} where
  pub bind_ok : {A : Type 0} (r : Result A WireFault) (f : A → Result B WireFault) (y : B) → (r >>= f) ≡ Ok y → (x : A) × (r ≡ Ok x) × (f x ≡ Ok y)
  bind_ok (Ok x) f y e = (x, refl, e)
  bind_ok (Err d) f y e = absurd cc

  pub allowed_ok : (at : ℕ) (b : Bool) (f : Unit {0} → Result B WireFault) (y : B) → (allowed at b >>= f) ≡ Ok y → (b ≡ true) × (f tt ≡ Ok y)
  allowed_ok at true f y e = (refl, e)
  allowed_ok at false f y e = absurd cc

  pub unused_ok : (at n : ℕ) (f : Unit {0} → Result B WireFault) (y : B) → (unused at n >>= f) ≡ Ok y → (n ≡ 0) × (f tt ≡ Ok y)
  unused_ok at n f y e = by_test (n == 0) refl e
    where
      by_test : (b : Bool) → (n == 0) ≡ b → ((if b then Ok (tt {0}) else Err (Padding at)) >>= f) ≡ Ok y → (n ≡ 0) × (f tt ≡ Ok y)
      by_test true q e = (eqb-true n 0 q, e)
      by_test false q e = absurd cc

  pub key_ok : (at w : ℕ) (f : KeyName → Result B WireFault) (y : B) → (key_at at w >>= f) ≡ Ok y → (is_key w ≡ true) × (f (key_in w) ≡ Ok y)
  key_ok at w f y e = by_test (is_key w) refl e
    where
      by_test : (b : Bool) → is_key w ≡ b → ((if b then Ok (key_in w) else Err (Field at)) >>= f) ≡ Ok y → (is_key w ≡ true) × (f (key_in w) ≡ Ok y)
      by_test true q e = (q, e)
      by_test false q e = absurd cc

module _ {B : Type 0} where
  pub kind_key_ok : (at kind w : ℕ) (f : KeyName → Result B WireFault) (y : B) → (kind_key_at at kind w >>= f) ≡ Ok y →
      (is_key w ≡ true) × (kind_number (key_in w).kind ≡ kind) × (f (key_in w) ≡ Ok y)
  unfolding kind_key_at
  kind_key_ok at kind w f y e =
      let b = bind_ok (kind_key_at at kind w) f y e in
      let k = key_ok at w (λ key. allowed at (kind_number key.kind == kind) >>= λ agrees. Ok key) b.0 b.1 in
      let a = allowed_ok at (kind_number (key_in w).kind == kind) (λ agrees. Ok (key_in w)) b.0 k.1 in
      (k.0, eqb-true _ _ a.0, ap f (ok_is (key_in w) b.0 a.1) ∙ b.2)

  pub place_ok : (at w : ℕ) (f : PlaceName → Result B WireFault) (y : B) → (place_at at w >>= f) ≡ Ok y → (kind_in w ≡ 0) × (is_key (w + 2 ^ 32) ≡ true)
      × (f (place_of (key_in (w + 2 ^ 32))) ≡ Ok y)
  unfolding place_at
  place_ok at w f y e =
      let b = bind_ok (place_at at w) f y e in
      let a = allowed_ok at (kind_in w == 0) (λ no_kind. key_at at (w + 2 ^ 32) >>= λ key. Ok (place_of key)) b.0 b.1 in
      let k = key_ok at (w + 2 ^ 32) (λ key. Ok (place_of key)) b.0 a.1 in
      (eqb-true _ _ a.0, k.0, ap f (ok_is (place_of (key_in (w + 2 ^ 32))) b.0 k.1) ∙ b.2)

-- the place of such a word
pub place_again : (w : ℕ) → kind_in w ≡ 0 → is_key (w + 2 ^ 32) ≡ true → IsValidPlace (place_of (key_in (w + 2 ^ 32)))
    × (packed_place (place_of (key_in (w + 2 ^ 32))) ≡ w)
place_again w none is =
    let kind : kind_in (w + 2 ^ 32) ≡ 1 = omega (arith, none) in
    let found = word_again (w + 2 ^ 32) is in
    let number : kind_number (kind_at (kind_in (w + 2 ^ 32))) ≡ 1 = ap (λ n. kind_number (kind_at n)) kind in
    (found.0, omega (arith, number, found.1))

pub record HasNoIndex (r : Rows) : Type 0 where
  pub vpe : r.vpe ≡ 0
  pub index : r.index ≡ 0
  pub after_index : r.after_index ≡ 0

pub record HasNoObject (r : Rows) : Type 0 where
  pub kind : r.kind ≡ 0
  pub after_kind : r.after_kind ≡ 0
  pub main : r.main ≡ 0
  pub more : r.more ≡ 0
  pub last : r.last ≡ 0
  pub after_last : r.after_last ≡ 0

pub none_of : (at n : ℕ) (x : Unit {0}) → unused at n ≡ Ok x → n ≡ 0
none_of at n x e = (unused_ok at n (λ y. Ok y) x (ap (λ r. r >>= λ y. Ok y) e)).0

module _ {B : Type 0} where
  pub no_index_ok : (r : Rows) (f : Unit {0} → Result B WireFault) (y : B) → (no_index r >>= f) ≡ Ok y → HasNoIndex r × (f tt ≡ Ok y)
  unfolding no_index
  no_index_ok r f y e =
      let b = bind_ok (no_index r) f y e in
      let vpe = unused_ok 2 r.vpe (λ _. unused 4 r.index >>= λ _. unused 6 r.after_index) b.0 b.1 in
      let index = unused_ok 4 r.index (λ _. unused 6 r.after_index) b.0 vpe.1 in
      (record { vpe = vpe.0; index = index.0; after_index = none_of 6 r.after_index b.0 index.1 }, b.2)

pub no_object_ok : (r : Rows) (x : Unit {0}) → no_object r ≡ Ok x → HasNoObject r
unfolding no_object
no_object_ok r x e =
    let kind = unused_ok 28 r.kind (λ _. unused 29 r.after_kind >>= λ _. unused 32 r.main >>= λ _. unused 40 r.more >>= λ _. unused 48 r.last >>= λ _. unused 56
    r.after_last) x e in
    let gap = unused_ok 29 r.after_kind (λ _. unused 32 r.main >>= λ _. unused 40 r.more >>= λ _. unused 48 r.last >>= λ _. unused 56 r.after_last) x kind.1 in
    let main = unused_ok 32 r.main (λ _. unused 40 r.more >>= λ _. unused 48 r.last >>= λ _. unused 56 r.after_last) x gap.1 in
    let more = unused_ok 40 r.more (λ _. unused 48 r.last >>= λ _. unused 56 r.after_last) x main.1 in
    let last = unused_ok 48 r.last (λ _. unused 56 r.after_last) x more.1 in
    record { kind = kind.0; after_kind = gap.0; main = main.0; more = more.0; last = last.0; after_last = none_of 56 r.after_last x last.1 }

module _ {B : Type 0} where
  -- what was read is the last word
  pub end_ok : (r : Rows) (z y : B) → (no_object r >>= λ rest. Ok z) ≡ Ok y → HasNoObject r × (z ≡ y)
  end_ok r z y e = let b = bind_ok (no_object r) (λ rest. Ok z) y e in (no_object_ok r b.0 b.1, ok_is z y b.2)

  pub rest_ok : (r : Rows) (z y : B) → (no_job r >>= λ rest. Ok z) ≡ Ok y → (r.job ≡ 0) × HasNoObject r × (z ≡ y)
  unfolding no_job
  rest_ok r z y e =
      let b = bind_ok (no_job r) (λ rest. Ok z) y e in
      let job = unused_ok 24 r.job (λ _. no_object r) b.0 b.1 in
      (job.0, no_object_ok r b.0 job.1, ok_is z y b.2)
