-- What is in hand, what a change of a list does to counts, and elements that are counted once.
use Rattle.std.proofs.Common.{◌≡◌, ℕ, ◌+◌, ◌<◌, ◌≤◌, Bool, not, ◌&&◌, List, [], ◌∷◌, length, Some, refl, sym, ap, ◌∙◌, inl, inr, arith, eq-eqb}
use Rattle.std.specs.Prelude.{◌==◌}
use Rattle.std.specs.List.{Contains, filter, sum_by}
use Rattle.std.proofs.lemmas.Bool.{cond_both, ne_eqb, and_left}
use Rattle.std.proofs.lemmas.List.Sums.{sum_by-cons, sum_by-append}
use Rattle.std.proofs.lemmas.List.{length-set}
use Rattle.sem_key.specs.KeyName.{key_lt}
use Rattle.sem_key.specs.Capability.{Capability}
use Rattle.sem_key.specs.CapList.{with_cap}
use Rattle.sem_key.specs.Lists.{put}
use Rattle.sem_key.proofs.Members.{Contains-nil, Contains-head, Contains-tail, Contains-cons_cases}
use Rattle.sem_key.proofs.Puts.{put-set}
use Rattle.sem_machine.proofs.Weighing.{weigh-parts, weigh-among}
use Rattle.sem_machine.specs.Sound.{bit, in_hand}

pub bit-most : (b : Bool) → bit b ≤ 1
bit-most b = cond_both b 1 0 (λ n. n ≤ 1) (λ _. omega arith) (λ _. omega arith)

pub in_hand-same : (v m n : ℕ) → in_hand (Some (v, m)) v n ≡ bit (m == n)
in_hand-same v m n = ap (λ b. bit (b && (m == n))) (eq-eqb v v refl)

pub in_hand-other : (v m w n : ℕ) → (w ≡ v → ⊥) → in_hand (Some (v, m)) w n ≡ 0
in_hand-other v m w n other = ap bit (and_left (v == w) (m == n) (ne_eqb v w (λ same. other (sym same))))

pub in_hand-here : (v m : ℕ) → in_hand (Some (v, m)) v m ≡ 1
in_hand-here v m = in_hand-same v m m ∙ ap bit (eq-eqb m m refl)

-- a capability more
pub added-sum : (w : Capability → ℕ) (cs : List Capability) (c : Capability) → sum_by w (with_cap cs c) ≡ sum_by w cs + w c
added-sum w cs c =
    let parts = weigh-parts w (λ x. key_lt x.key c.key) cs in
    let joined = sum_by-append w (filter (λ x. key_lt x.key c.key) cs) (c ∷ filter (λ x. not (key_lt x.key c.key)) cs) in
    let first = sum_by-cons w c (filter (λ x. not (key_lt x.key c.key)) cs) in
    omega (arith, parts, joined, first)

-- a write within the list leaves its length
pub length-put : {X : Type 0} (d : X) (xs : List X) (n i : ℕ) (x : X) → length xs ≡ n → i < n → length (put d xs i x) ≡ n
length-put d xs n i x long within = ap length (put-set d xs i x (omega (arith, long, within))) ∙ (length-set xs i x ∙ long)

-- of elements that count, where they are counted once at most, two are the same
pub one-alone : {X : Type 0} (u : X → ℕ) (xs : List X) → sum_by u xs ≤ 1 → (a b : X) → Contains xs a → Contains xs b → u a ≡ 1 → u b ≡ 1 → a ≡ b
one-alone u [] few a b in_a in_b at_a at_b = absurd (Contains-nil a in_a)
one-alone u (x ∷ xs) few a b in_a in_b at_a at_b =
    let all = sum_by-cons u x xs in
    elim (Contains-cons_cases x xs a in_a) [
      | inl same_a ↦ elim (Contains-cons_cases x xs b in_b) [
        | inl same_b ↦ sym same_a ∙ same_b
        | inr later ↦ let more = weigh-among u xs b later in let here : u x ≡ 1 = ap u same_a ∙ at_a in absurd (omega (arith, few, all, more, here, at_b))
      ]
      | inr before ↦ elim (Contains-cons_cases x xs b in_b) [
        | inl same_b ↦ let more = weigh-among u xs a before in let here : u x ≡ 1 = ap u same_b ∙ at_b in absurd (omega (arith, few, all, more, here, at_a))
        | inr later ↦ one-alone u xs (omega (arith, few, all)) a b before later at_a at_b
      ]
    ]

-- a list of elements that count, counted once, with one of them, is that one
pub only-one : {X : Type 0} (u : X → ℕ) (xs : List X) → sum_by u xs ≤ 1 → ((x : X) → Contains xs x → u x ≡ 1) → (a : X) → Contains xs a → xs ≡ a ∷ []
only-one u [] few each a among = absurd (Contains-nil a among)
only-one u (x ∷ []) few each a among = elim (Contains-cons_cases x [] a among) [
  | inl same ↦ ap (λ y. y ∷ []) same
  | inr none ↦ absurd (Contains-nil a none)
]
only-one u (x ∷ y ∷ ys) few each a among =
    let all = sum_by-cons u x (y ∷ ys) in
    let rest = sum_by-cons u y ys in
    let one = each x (Contains-head x (y ∷ ys)) in
    let two = each y (Contains-tail x (y ∷ ys) y (Contains-head y ys)) in
    absurd (omega (arith, few, all, rest, one, two))
