-- How often clients are given to, and how many numbers they draw, by the commands.
use Rattle.std.proofs.Common.{◌≡◌, ℕ, suc, ◌+◌, ◌<◌, ◌≤◌, ◌++◌, Bool, true, false, List, [], ◌∷◌, filter, length, length-append, refl, sym, ap, ◌∙◌, inl, inr}
use Rattle.std.proofs.Common.{arith, append_assoc, append-nil, eq-eqb}
use Rattle.std.specs.Prelude.{◌==◌, if◌then◌else◌}
use Rattle.std.specs.List.{AllPairs, Contains, sum_by}
use Rattle.std.proofs.lemmas.Bool.{cases_Bool, cases_eq, cond-true, cond-false, cond_both, ne_eqb}
use Rattle.std.proofs.lemmas.List.Elements.{filter-append}
use Rattle.std.proofs.lemmas.List.Sums.{sum_by-cons}
use Rattle.sem_key.proofs.Members.{Contains-head, Contains-tail}
use Rattle.sem_msg.specs.declared.call.Call.{Call}
use Rattle.sem_files.specs.declared.files.Command.{Command}
use Rattle.sem_files.specs.Files.{Files, IsCommand}
use Rattle.sem_files.specs.Compiled.{calls_of_command, calls_from, AreFiles}
use Rattle.sem_fs.proofs.Rising.{Less, pairs-head, pairs-tail}

-- Counting in lists.

abbrev pub tally : (Call → Bool) → List Call → ℕ
tally p cs = length (filter p cs)

pub tally-append : (p : Call → Bool) (xs ys : List Call) → tally p (xs ++ ys) ≡ tally p xs + tally p ys
tally-append p xs ys = ap length (filter-append p xs ys) ∙ length-append (filter p xs) (filter p ys)

pub tally-cons : (p : Call → Bool) (c : Call) (cs : List Call) → tally p (c ∷ cs) ≡ (if p c then 1 else 0) + tally p cs
tally-cons p c cs = elim (cases_Bool (p c)) [
  | inl yes' ↦ (let a = ap length (cond-true (p c) (c ∷ filter p cs) (filter p cs) yes') in let b = cond-true {A = ℕ} (p c) 1 0 yes' in omega (arith, a, b))
  | inr no' ↦ (let a = ap length (cond-false (p c) (c ∷ filter p cs) (filter p cs) no') in let b = cond-false {A = ℕ} (p c) 1 0 no' in omega (arith, a, b))
]

pub tally-none : (p : Call → Bool) (cs : List Call) → ((c : Call) → Contains cs c → p c ≡ false) → tally p cs ≡ 0
tally-none p [] none = refl
tally-none p (c ∷ cs) none =
    let a = tally-cons p c cs in
    let b = cond-false {A = ℕ} (p c) 1 0 (none c (Contains-head c cs)) in
    let rest = tally-none p cs (λ x among. none x (Contains-tail c cs x among)) in
    omega (arith, a, b, rest)

pub tally-most : (p : Call → Bool) (cs : List Call) → tally p cs ≤ length cs
tally-most p [] = omega arith
tally-most p (c ∷ cs) =
    let a = tally-cons p c cs in
    let rest = tally-most p cs in
    cond_both (p c) 1 0 (λ n. tally p (c ∷ cs) ≡ n + tally p cs → tally p (c ∷ cs) ≤ suc (length cs)) (λ _ is. omega (arith, is, rest))
    (λ _ is. omega (arith, is, rest)) a

module _ {X : Type 0} where
  pub sum-plus : (f g : X → ℕ) (xs : List X) → sum_by (λ x. f x + g x) xs ≡ sum_by f xs + sum_by g xs
  sum-plus f g [] = refl
  sum-plus f g (x ∷ xs) =
      let a = sum_by-cons (λ x. f x + g x) x xs in
      let b = sum_by-cons f x xs in
      let c = sum_by-cons g x xs in
      let rest = sum-plus f g xs in
      omega (arith, a, b, c, rest)

  pub sum-none : (f : X → ℕ) (xs : List X) → ((x : X) → Contains xs x → f x ≡ 0) → sum_by f xs ≡ 0
  sum-none f [] none = refl
  sum-none f (x ∷ xs) none =
      let a = sum_by-cons f x xs in
      let b = none x (Contains-head x xs) in
      let rest = sum-none f xs (λ y among. none y (Contains-tail x xs y among)) in
      omega (arith, a, b, rest)

-- in a list that rises only one is a given number
pub sum-once : (f : ℕ → ℕ) (u n : ℕ) (vs : List ℕ) → AllPairs Less vs → ((v : ℕ) → (u ≡ v → ⊥) → f v ≡ 0) → (f u ≤ n) → sum_by f vs ≤ n
sum-once f u n [] rise others most = omega arith
sum-once f u n (v ∷ vs) rise others most =
    let a = sum_by-cons f v vs in
    elim (cases_eq u v) [
      | inl same ↦
          let rest = sum-none f vs (λ w among. others w (λ same'. later v w (pairs-head Less v vs rise w among) (sym same ∙ same'))) in
          let here = ap f same in
          omega (arith, a, rest, here, most)
      | inr other ↦
          let rest = sum-once f u n vs (pairs-tail Less v vs rise) others most in
          let here = others v other in
          omega (arith, a, rest, here)
    ]
  where
    later : (a b : ℕ) → a < b → a ≡ b → ⊥
    later a b less same = omega (arith, less, same)

module _ (F : Files) (AF : AreFiles F) (p : Call → Bool) where
  -- how many of the calls of the commands behind others pass
  pub total : List Command → List Command → ℕ
  total before [] = 0
  total before (c ∷ cs) = tally p (calls_of_command F before c) + total (before ++ c ∷ []) cs

  these-tally : (before : List Command) (c : Command) (v : ℕ) → tally p (if c.client == v then calls_of_command F before c else []) ≡
      (if c.client == v then tally p (calls_of_command F before c) else 0)
  these-tally before c v = by (c.client == v)
    where
      by : (b : Bool) → tally p (if b then calls_of_command F before c else []) ≡ (if b then tally p (calls_of_command F before c) else 0)
      by true = refl
      by false = refl

  -- over all clients
  pub all-tally : (vs : List ℕ) → AllPairs Less vs → (before cs : List Command) → sum_by (λ v. tally p (calls_from F v before cs)) vs ≤ total before cs
  unfolding calls_from total
  all-tally vs rise before [] = (let none = sum-none (λ (v : ℕ). 0) vs (λ v among. refl) in omega (arith, none))
  all-tally vs rise before (c ∷ cs) =
      let one : ℕ → ℕ = λ v. tally p (if c.client == v then calls_of_command F before c else []) in
      let two : ℕ → ℕ = λ v. tally p (calls_from F v (before ++ c ∷ []) cs) in
      let parts = same-sum (λ v. tally p ((if c.client == v then calls_of_command F before c else []) ++ calls_from F v (before ++ c ∷ []) cs))
      (λ v. one v + two v) vs
      (λ v. tally-append p (if c.client == v then calls_of_command F before c else []) (calls_from F v (before ++ c ∷ []) cs)) in
      let sums = sum-plus one two vs in
      let first = sum-once one c.client (tally p (calls_of_command F before c)) vs rise
      (λ v other. these-tally before c v ∙ cond-false (c.client == v) (tally p (calls_of_command F before c)) 0 (ne_eqb c.client v other))
      (at-most (these-tally before c c.client ∙ cond-true (c.client == c.client) (tally p (calls_of_command F before c)) 0 (eq-eqb c.client c.client refl))) in
      let rest = all-tally vs rise (before ++ c ∷ []) cs in
      omega (arith, parts, sums, first, rest)
    where
      at-most : {a b : ℕ} → a ≡ b → a ≤ b
      at-most {a} {b} same = omega (arith, same)

      same-sum : (f g : ℕ → ℕ) (xs : List ℕ) → ((x : ℕ) → f x ≡ g x) → sum_by f xs ≡ sum_by g xs
      same-sum f g [] same = refl
      same-sum f g (x ∷ xs) same =
          let a = sum_by-cons f x xs in
          let b = sum_by-cons g x xs in
          let here = same x in
          let rest = same-sum f g xs same in
          omega (arith, a, b, here, rest)

  -- A measure of commands that grows by as much bounds them.
  pub total-most : (U : List Command → ℕ)
      → ((before : List Command) (c : Command) → IsCommand F before c → tally p (calls_of_command F before c) + U before ≤ U (before ++ c ∷ []))
      → (before later : List Command) → F.commands ≡ before ++ later → total before later + U before ≤ U F.commands
  unfolding total
  total-most U grows before [] parts = (let same = ap U (parts ∙ append-nil before) in omega (arith, same))
  total-most U grows before (c ∷ cs) parts =
      let here = grows before c (AF.commands before cs c parts) in
      let rest = total-most U grows (before ++ c ∷ []) cs (parts ∙ sym (append_assoc before (c ∷ []) cs)) in
      omega (arith, here, rest)

  -- and those of one client alone
  pub client-most : (v : ℕ) (U : List Command → ℕ)
      → ((before : List Command) (c : Command) → IsCommand F before c → tally p (if c.client == v then calls_of_command F before c else []) + U before ≤ U
      (before ++ c ∷ [])) → (before later : List Command) → F.commands ≡ before ++ later → tally p (calls_from F v before later) + U before ≤ U F.commands
  unfolding calls_from
  client-most v U grows before [] parts = (let same = ap U (parts ∙ append-nil before) in omega (arith, same))
  client-most v U grows before (c ∷ cs) parts =
      let here = grows before c (AF.commands before cs c parts) in
      let rest = client-most v U grows (before ++ c ∷ []) cs (parts ∙ sym (append_assoc before (c ∷ []) cs)) in
      let both = tally-append p (if c.client == v then calls_of_command F before c else []) (calls_from F v (before ++ c ∷ []) cs) in
      omega (arith, here, rest, both)
