-- What a call can bring is one entry at least, and 21 at most; and the sum over a setup, VPE by VPE.
use Rattle.std.proofs.Common.{◌≡◌, ℕ, ◌+◌, ◌*◌, ◌≤◌, List, [], ◌∷◌, ◌++◌, length, map, refl, arith}
use Rattle.std.specs.Prelude.{◌==◌}
use Rattle.std.specs.List.{flat_map, sum, sum_by}
use Rattle.std.proofs.lemmas.Bool.{cond_both}
use Rattle.std.proofs.lemmas.List.Sums.{sum-map, sum_by-cons, sum_by-append}
use Rattle.sem_msg.specs.declared.call.Call.{Call}
use Rattle.sem_msg.specs.declared.call.Call.TheVariants.{Derive, Gate, Obtain, Delegate, OpenSession, AskOffer}
use Rattle.sem_msg.specs.declared.call.Call.TheVariants.{Revoke, Bind, Read, Write, Send, Credit, Exit, Clear}
use Rattle.sem_msg.specs.declared.setup.Service.{Service}
use Rattle.sem_msg.specs.declared.setup.VpeDecl.{VpeDecl}
use Rattle.sem_msg.specs.Setup.{Setup, call_count}
use Rattle.sem_msg.specs.Lookups.{kernel_of, service_named}
use Rattle.sem_machine.proofs.Folds.{option-keeps}
use Rattle.sem_bound.specs.Costs.{exchange_entries, most_entries, costs_declared}

module _ (T : Setup) (i : ℕ) where
  exchange-least : (w far : ℕ) → 3 ≤ far → 3 ≤ exchange_entries T i w far
  exchange-least w far more = cond_both (kernel_of T w == i) 3 far (λ n. 3 ≤ n) (λ _. omega arith) (λ _. more)

  pub exchange-most : (w far : ℕ) → 3 ≤ far → exchange_entries T i w far ≤ far
  exchange-most w far more = cond_both (kernel_of T w == i) 3 far (λ n. n ≤ far) (λ _. more) (λ _. omega arith)

  abbrev Within : ℕ → Type 0
  Within n = (1 ≤ n) × (n ≤ 21)

  exchange-within : (w far : ℕ) → 3 ≤ far → far ≤ 21 → Within (exchange_entries T i w far)
  exchange-within w far more few = let least = exchange-least w far more in let most = exchange-most w far more in
      (omega (arith, least), omega (arith, most, few))

  pub entries-within : (c : Call) → (1 ≤ most_entries T i c) × (most_entries T i c ≤ 21)
  entries-within (Obtain dst w src) = exchange-within w 18 (omega arith) (omega arith)
  entries-within (OpenSession dst name) =
      option-keeps Within (λ (x : Service). exchange_entries T i x.key.vpe 18) (service_named T name) 1
      (λ x there. exchange-within x.key.vpe 18 (omega arith) (omega arith)) (omega arith, omega arith)
  entries-within (AskOffer dst session index) = (omega arith, omega arith)
  entries-within (Delegate src w dst) = exchange-within w 21 (omega arith) (omega arith)
  entries-within (Revoke src) = (omega arith, omega arith)
  entries-within (Clear src) = (omega arith, omega arith)
  entries-within (Derive src dst off len rights) = (omega arith, omega arith)
  entries-within (Gate src dst label credits) = (omega arith, omega arith)
  entries-within (Bind ep src) = (omega arith, omega arith)
  entries-within (Read ep off len) = (omega arith, omega arith)
  entries-within (Write ep off len) = (omega arith, omega arith)
  entries-within (Send ep len) = (omega arith, omega arith)
  entries-within (Credit ep) = (omega arith, omega arith)
  entries-within Exit = (omega arith, omega arith)

-- what the calls of a VPE can bring
abbrev pub of_calls : Setup → VpeDecl → ℕ
of_calls T d = sum_by (most_entries T (kernel_of T d.vpe)) d.calls

pub declared-sums : (T : Setup) → costs_declared T ≡ sum_by (of_calls T) T.vpes
declared-sums T = from T.vpes
  where
    from : (ds : List VpeDecl) →
        sum (flat_map (λ (d : VpeDecl). map (most_entries T (kernel_of T d.vpe)) d.calls) ds) ≡ sum_by (of_calls T) ds
    from [] = refl
    from (d ∷ ds) =
        let here : List ℕ = map (most_entries T (kernel_of T d.vpe)) d.calls in
        let later : List ℕ = flat_map (λ (x : VpeDecl). map (most_entries T (kernel_of T x.vpe)) x.calls) ds in
        let joined : sum (here ++ later) ≡ sum here + sum later = sum_by-append (λ (n : ℕ). n) here later in
        let mapped = sum-map (most_entries T (kernel_of T d.vpe)) d.calls in
        let rest = from ds in
        let all = sum_by-cons (of_calls T) d ds in
        omega (arith, joined, mapped, rest, all)

-- 21 for each call are enough
pub declared-few : (T : Setup) → costs_declared T ≤ 21 * call_count T
declared-few T = let sums = declared-sums T in let few = from T.vpes in omega (arith, sums, few)
  where
    calls-few : (i : ℕ) (cs : List Call) → sum_by (most_entries T i) cs ≤ 21 * length cs
    calls-few i [] = omega arith
    calls-few i (c ∷ cs) =
        let rest = calls-few i cs in
        let all = sum_by-cons (most_entries T i) c cs in
        let few = (entries-within T i c).1 in
        omega (arith, rest, all, few)

    from : (ds : List VpeDecl) → sum_by (of_calls T) ds ≤ 21 * sum_by (λ (d : VpeDecl). length d.calls) ds
    from [] = omega arith
    from (d ∷ ds) =
        let rest = from ds in
        let costs = sum_by-cons (of_calls T) d ds in
        let calls = sum_by-cons (λ (x : VpeDecl). length x.calls) d ds in
        let few = calls-few (kernel_of T d.vpe) d.calls in
        omega (arith, rest, costs, calls, few)
