-- The words of keys and places, and the tests of records on them.
use Rattle.std.proofs.Common.{◌≡◌, ℕ, ◌+◌, ◌^◌, ◌<◌, ◌≤◌, ◌/◌, ◌%◌, Bool, true, false, Option, Some, None, Ok, Err, refl, sym, ap, subst, ◌∙◌, arith}
use Rattle.std.proofs.Common.{zero, suc}
use Rattle.std.specs.Prelude.{◌&&◌, nat_lt, nat_le, ◌↔◌, IfSome, if◌then◌else◌}
use Rattle.std.specs.Int.{is_in_range}
use Rattle.std.proofs.Math.Bool.{and-false}
use Rattle.std.proofs.lemmas.Bool.{lt-ltb, ltb-true, le-leb, leb-true, lt-leb}
use Rattle.sem_key.specs.declared.limits.TheConstants.{PES, VPES, NUMBERS}
use Rattle.sem_key.specs.declared.key.Kind.{Kind}
use Rattle.sem_key.specs.declared.key.Kind.TheVariants.{Mem as MemKind, Recv as RecvKind, Send as SendKind, Serv as ServKind, Sess as SessKind}
use Rattle.sem_key.specs.KeyName.{KeyName, IsValidKey, kind_number, packed}
use Rattle.std.specs.Option.{ok_or}
use Rattle.sem_wire.specs.declared.fault.WireFault.TheVariants.{Field}
use Rattle.sem_wire.specs.Grammar.{kind_in, is_key, is_owned}
use Rattle.sem_wire.specs.Reading.{key_in, key_at, kind_at}

-- the four fields of a packed key
pub packed_fields : (k : KeyName) → IsValidKey k → (packed k / 2 ^ 56 ≡ k.pe) × (packed k / 2 ^ 40 % 2 ^ 16 ≡ k.vpe) × (kind_in (packed k) ≡ kind_number k.kind)
    × (packed k % 2 ^ 32 ≡ k.number)
packed_fields k v =
    let small : kind_number k.kind ≤ 5 = kind_small k.kind in
    (omega (arith, v.0, v.1, v.2, small), omega (arith, v.0, v.1, v.2, small), omega (arith, v.0, v.1, v.2, small), omega (arith, v.0, v.1, v.2, small))
  where
    kind_small : (kind : Kind) → kind_number kind ≤ 5
    kind_small MemKind = omega arith
    kind_small RecvKind = omega arith
    kind_small SendKind = omega arith
    kind_small ServKind = omega arith
    kind_small SessKind = omega arith

-- a kind by its number
numbered : (kind : Kind) → kind_at (kind_number kind) ≡ kind
numbered MemKind = refl
numbered RecvKind = refl
numbered SendKind = refl
numbered ServKind = refl
numbered SessKind = refl

-- a key is read off its word
pub key_again : (k : KeyName) → IsValidKey k → key_in (packed k) ≡ k
key_again k v =
    let f = packed_fields k v in
    λ i. record { pe = f.0 i; vpe = f.1 i; kind = (ap kind_at f.2 ∙ numbered k.kind) i; number = f.3 i }

owned_so : (a b c : ℕ) → a < PES → b < VPES → c < NUMBERS → (nat_lt a PES && nat_lt b VPES && nat_lt c NUMBERS) ≡ true
owned_so a b c p q r = rw (lt-ltb a PES p, lt-ltb b VPES q, lt-ltb c NUMBERS r) refl

pub apart : false ≡ true → ⊥
apart e = absurd cc

pub both : (a b : Bool) → (a && b) ≡ true → (a ≡ true) × (b ≡ true)
both true b e = (refl, e)
both false b e = absurd cc

-- the word of a key passes, by its kind
pub owned_passes : (k : KeyName) → IsValidKey k → is_owned (packed k) ≡ true
owned_passes k v =
    let f = packed_fields k v in
    owned_so (packed k / 2 ^ 56) (packed k / 2 ^ 40 % 2 ^ 16) (packed k % 2 ^ 32)
    (subst (λ n. n < PES) (sym f.0) v.0) (subst (λ n. n < VPES) (sym f.1) v.1) (subst (λ n. n < NUMBERS) (sym f.3) v.2)

ranged : (kind : Kind) → is_in_range 1 5 (kind_number kind) ≡ true
ranged MemKind = refl
ranged RecvKind = refl
ranged SendKind = refl
ranged ServKind = refl
ranged SessKind = refl

pub key_passes : (k : KeyName) → IsValidKey k → is_key (packed k) ≡ true
key_passes k v =
    let f = packed_fields k v in
    rw (owned_passes k v, ap (is_in_range 1 5) f.2, ranged k.kind) refl

-- what the tests say of a word
pub owned_fields : (w : ℕ) → is_owned w ≡ true → (w / 2 ^ 56 < PES) × (w / 2 ^ 40 % 2 ^ 16 < VPES) × (w % 2 ^ 32 < NUMBERS)
owned_fields w e =
    let h = both (nat_lt (w / 2 ^ 56) PES && nat_lt (w / 2 ^ 40 % 2 ^ 16) VPES) (nat_lt (w % 2 ^ 32) NUMBERS) e in
    let t = both (nat_lt (w / 2 ^ 56) PES) (nat_lt (w / 2 ^ 40 % 2 ^ 16) VPES) h.0 in
    (ltb-true _ _ t.0, ltb-true _ _ t.1, ltb-true _ _ h.1)

-- a number in a range, and the test that says so
pub in_range : (low high n : ℕ) → is_in_range low high n ≡ true → (low ≤ n) × (n ≤ high)
in_range low high n e = let h = both (nat_le low n) (nat_le n high) e in (leb-true _ _ h.0, leb-true _ _ h.1)

pub range_in : (low high n : ℕ) → low ≤ n → n ≤ high → is_in_range low high n ≡ true
range_in low high n p q = rw (le-leb low n p, le-leb n high q) refl

pub out_of_range : (low high n : ℕ) → high < n → is_in_range low high n ≡ false
out_of_range low high n p = ap (λ b. nat_le low n && b) (lt-leb n high p) ∙ and-false (nat_le low n)

-- the number of a kind again
pub renumbered : (n : ℕ) → is_in_range 1 5 n ≡ true → kind_number (kind_at n) ≡ n
renumbered zero e = absurd cc
renumbered (suc zero) e = refl
renumbered (suc (suc zero)) e = refl
renumbered (suc (suc (suc zero))) e = refl
renumbered (suc (suc (suc (suc zero)))) e = refl
renumbered (suc (suc (suc (suc (suc zero))))) e = refl
renumbered (suc (suc (suc (suc (suc (suc n)))))) e = absurd (let h = in_range 1 5 (suc (suc (suc (suc (suc (suc n)))))) e in omega (arith, h.1))

pub word_again : (w : ℕ) → is_key w ≡ true → IsValidKey (key_in w) × (packed (key_in w) ≡ w)
word_again w e =
    let h = both (is_in_range 1 5 (kind_in w)) (is_owned w) e in
    let f = owned_fields w h.1 in
    let kind : kind_number (kind_at (w / 2 ^ 32 % 2 ^ 8)) ≡ w / 2 ^ 32 % 2 ^ 8 = renumbered (kind_in w) h.0 in
    ((f.0, f.1, f.2), omega (arith, kind))

-- the key of a word, if it is one
pub unpacked : (w : ℕ) (answer : Option KeyName) → ((key : KeyName) → IsValidKey key → ((answer ≡ Some key) ↔ (packed key ≡ w))) → IfSome answer IsValidKey →
    answer ≡ (if is_key w then Some (key_in w) else None)
unpacked w answer exact valid = by_test w answer exact valid (is_key w) refl
  where
    by_test : (w : ℕ) (answer : Option KeyName) → ((key : KeyName) → IsValidKey key → ((answer ≡ Some key) ↔ (packed key ≡ w))) → IfSome answer IsValidKey →
        (b : Bool) → is_key w ≡ b → answer ≡ (if is_key w then Some (key_in w) else None)
    by_test w answer exact valid true e = let f = word_again w e in (exact (key_in w) f.0).1 f.1 ∙ rw e refl
    by_test w None exact valid false e = rw e refl
    by_test w (Some key) exact valid false e =
        let found : packed key ≡ w = (exact key valid).0 refl in
        absurd (apart (sym e ∙ sym (ap is_key found) ∙ key_passes key valid))

pub key_or_fault : (at w : ℕ) → ok_or (if is_key w then Some (key_in w) else None) (Field at) ≡ key_at at w
key_or_fault at w = by_test (is_key w)
  where
    by_test : (b : Bool) → ok_or (if b then Some (key_in w) else None) (Field at) ≡ (if b then Ok (key_in w) else Err (Field at))
    by_test true = refl
    by_test false = refl

-- moved to the word of a key of kind 1, the word of a place keeps its fields
pub place_key : (w : ℕ) → kind_in w ≡ 0 → is_key (w + 2 ^ 32) ≡ is_owned w
place_key w e =
    let kind : kind_in (w + 2 ^ 32) ≡ 1 = omega (arith, e) in
    let pe : (w + 2 ^ 32) / 2 ^ 56 ≡ w / 2 ^ 56 = omega (arith, e) in
    let vpe : (w + 2 ^ 32) / 2 ^ 40 % 2 ^ 16 ≡ w / 2 ^ 40 % 2 ^ 16 = omega (arith, e) in
    let number : (w + 2 ^ 32) % 2 ^ 32 ≡ w % 2 ^ 32 = omega (arith, e) in
    ap (λ n. is_in_range 1 5 n && is_owned (w + 2 ^ 32)) kind
    ∙ ap (λ n. nat_lt n PES && nat_lt ((w + 2 ^ 32) / 2 ^ 40 % 2 ^ 16) VPES && nat_lt ((w + 2 ^ 32) % 2 ^ 32) NUMBERS) pe
    ∙ ap (λ n. nat_lt (w / 2 ^ 56) PES && nat_lt n VPES && nat_lt ((w + 2 ^ 32) % 2 ^ 32) NUMBERS) vpe
    ∙ ap (λ n. nat_lt (w / 2 ^ 56) PES && nat_lt (w / 2 ^ 40 % 2 ^ 16) VPES && nat_lt n NUMBERS) number
