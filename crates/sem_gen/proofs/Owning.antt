-- The owners of the first PEs.
use Rattle.std.proofs.Common.{◌≡◌, ℕ, zero, suc, ◌+◌, ◌%◌, ◌<◌, ◌≤◌, ltb, List, map, get_or, Option, Some, None, refl, ap, sym, ◌∙◌, zero-add, arith, inl, inr}
use Rattle.std.proofs.Math.ListN.{replicate, set as slice_set}
use Rattle.std.proofs.lemmas.Bool.{lt-ltb, le-ltb, cases_lt}
use Rattle.std.specs.List.{range_with_len}
use Rattle.std.specs.Option.{IsSome}
use Rattle.std.proofs.lemmas.List.FromFn.{get_or-map-range_with_len}
use Rattle.std.specs.Prelude.{◌↔◌, Result, Ok, Err}
use Rattle.std.specs.Option.{is_some}
use Rattle.std.specs.Result.{IsOk, IsErr, OnOk}
use Rattle.std.proofs.lemmas.Bool.{false≢true}
use Rattle.sem_key.specs.MembershipTable.{MembershipTable, owner_at, with_owner}
use Rattle.sem_key.specs.declared.limits.TheConstants.{PES}
use Rattle.sem_gen.specs.Generated.{pe_owner_of, owners_of}

map-same : {X : Type 0} (f g : ℕ → X) (a n : ℕ) → ((q : ℕ) → a ≤ q → g q ≡ f q) → map f (range_with_len a n) ≡ map g (range_with_len a n)
map-same f g a zero same = refl
map-same f g a (suc n) same = rw (same a (omega arith), map-same f g (a + 1) n (λ q low. same q (omega arith))) refl

-- a table with another value at one place
set-table : {X : Type 0} (f g : ℕ → X) (a n p : ℕ) (x : X) → p < n → g (a + p) ≡ x → ((q : ℕ) → (q ≡ a + p → ⊥) → g q ≡ f q) →
    slice_set (map f (range_with_len a n)) p x ≡ map g (range_with_len a n)
set-table f g a zero p x within new same = absurd (omega arith)
set-table f g a (suc n) zero x within new same =
    let e : a + 0 ≡ a = omega arith in
    let here : g a ≡ x = rw e at new in
    rw (here, map-same f g (a + 1) n (λ q low. same q (λ is. absurd (omega arith)))) refl
set-table f g a (suc n) (suc p) x within new same =
    let e : a + suc p ≡ (a + 1) + p = omega arith in
    let rest = set-table f g (a + 1) n p x (omega arith) (rw e at new) (λ q other. same q (λ is. other (is ∙ e))) in
    rw (same a (λ is. absurd (omega arith)), rest) refl

pub owners-none : (kernels : ℕ) → replicate PES None ≡ owners_of kernels 0
unfolding owners_of
owners-none kernels = refl

-- the PE that is next has no owner yet
pub owner-none : (kernels p : ℕ) → p < PES → get_or (owners_of kernels p) p None ≡ None
unfolding owners_of
owner-none kernels p small =
    let at : get_or (map (pe_owner_of kernels p) (range_with_len 0 PES)) p None ≡ pe_owner_of kernels p p =
    get_or-map-range_with_len (pe_owner_of kernels p) 0 PES p p None small (zero-add p) in
    at ∙ (rw (le-ltb p p (omega arith)) refl)

pub owners-more : (kernels p : ℕ) → p < PES → slice_set (owners_of kernels p) p (Some (p % kernels)) ≡ owners_of kernels (p + 1)
unfolding owners_of
owners-more kernels p small =
    set-table (pe_owner_of kernels p) (pe_owner_of kernels (p + 1)) 0 PES p (Some (p % kernels)) small
    (let e : 0 + p ≡ p = omega arith in rw (e, lt-ltb p (p + 1) (omega arith)) refl)
    (λ q other. let same : ltb q (p + 1) ≡ ltb q p = same-test q p (λ is. other (is ∙ sym (zero-add p))) in rw same refl)
  where
    same-test : (q p : ℕ) → (q ≡ p → ⊥) → ltb q (p + 1) ≡ ltb q p
    same-test q p other = elim (cases_lt q p) [
      | inl less ↦ lt-ltb q (p + 1) (omega arith) ∙ sym (lt-ltb q p less)
      | inr not_less ↦ le-ltb q (p + 1) (omega (arith, other)) ∙ sym (le-ltb q p not_less)
    ]

-- the table of the first p owners
abbrev pub first_owners : ℕ → ℕ → MembershipTable
first_owners kernels p = record { kernels = kernels; owners = owners_of kernels p }

none-there : (kernels p : ℕ) (m : MembershipTable) → m ≡ first_owners kernels p → p < PES → owner_at m p ≡ None
none-there kernels p m so_far small = ap (λ (t : MembershipTable). owner_at t p) so_far ∙ owner-none kernels p small

-- so the next PE can be given to its kernel
pub is_set : {A E : Type 0} (kernels p : ℕ) (m : MembershipTable) (r : Result A E) → m ≡ first_owners kernels p → p < PES → (IsErr r ↔ IsSome (owner_at m p)) →
    IsOk r
is_set kernels p m (Ok a) so_far small taken = refl
is_set kernels p m (Err e) so_far small taken = absurd (false≢true (sym (ap is_some (none-there kernels p m so_far small)) ∙ taken.0 refl))

pub set-more : {A E : Type 0} (kernels p : ℕ) (m n : MembershipTable) (r : Result A E) → m ≡ first_owners kernels p → p < PES →
    (IsErr r ↔ IsSome (owner_at m p)) → OnOk r (n ≡ with_owner m p (p % kernels)) → n ≡ first_owners kernels (p + 1)
set-more kernels p m n (Ok a) so_far small taken set_there =
    set_there
    ∙ (ap (λ (t : MembershipTable). with_owner t p (p % kernels)) so_far
    ∙ ap (λ (os : List (Option ℕ)). record { kernels = kernels; owners = os }) (owners-more kernels p small))
set-more kernels p m n (Err e) so_far small taken set_there = absurd (false≢true (sym (ap is_some (none-there kernels p m so_far small)) ∙ taken.0 refl))
