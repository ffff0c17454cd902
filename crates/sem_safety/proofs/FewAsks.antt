-- A VPE is asked by each VPE once at most, so its queue is never full when it is asked: no ask is ever lost.
use Rattle.std.proofs.Common.{◌≡◌, ℕ, zero, suc, ◌+◌, ◌<◌, ◌≤◌, List, [], ◌∷◌, length, map, get_or, Some, refl, sym, ◌∙◌, ap, inl, inr, arith, eq-eqb}
use Rattle.std.specs.Prelude.{◌==◌, if◌then◌else◌}
use Rattle.std.specs.List.{All, AllPairs, sum_by}
use Rattle.std.proofs.lemmas.Bool.{cases_Bool, cond-true, cond-false, eqb-true}
use Rattle.std.proofs.lemmas.List.Sums.{sum_by-cons}
use Rattle.sem_msg.specs.declared.entry.Entry.{Entry}
use Rattle.sem_msg.specs.declared.message.Message.{Message}
use Rattle.sem_msg.specs.declared.setup.VpeDecl.{VpeDecl}
use Rattle.sem_msg.specs.declared.state.Ask.{Ask}
use Rattle.sem_msg.specs.Rows.{no_vpe}
use Rattle.sem_msg.proofs.Declared.{most_vpes-le}
use Rattle.sem_msg.specs.declared.limits.TheConstants.{ASKS}
use Rattle.sem_msg.specs.Setup.{Setup, IsSetup}
use Rattle.sem_machine.specs.Asks.{asker}
use Rattle.sem_machine.specs.Sides.{Side, no_side, row, parked}
use Rattle.sem_machine.specs.Machine.{side}
use Rattle.sem_machine.specs.Schedules.{IsSchedule, world_after}
use Rattle.sem_safety.proofs.HeldOnce.{weigh-at}
use Rattle.sem_safety.proofs.LiveWorlds.{sum-of_map}
use Rattle.sem_safety.proofs.AskWeights.{free, here, of_message, of_asks, of_inbox}
use Rattle.sem_safety.proofs.AskWorlds.{of_world, world-side, one-exchange}

-- Lists of numbers.

-- the list without the first x
without_one : ℕ → List ℕ → List ℕ
without_one x [] = []
without_one x (y ∷ ys) = if y == x then ys else y ∷ without_one x ys

there-is : (x : ℕ) (ys : List ℕ) → 1 ≤ sum_by (here x) ys → (length (without_one x ys) + 1 ≡ length ys)
    × ((v : ℕ) → sum_by (here v) (without_one x ys) + here v x ≡ sum_by (here v) ys)
unfolding without_one
there-is x [] some = absurd (omega (arith, some))
there-is x (y ∷ ys) some = elim (cases_Bool (y == x)) [
  | inl same ↦
      let rest : without_one x (y ∷ ys) ≡ ys = cond-true (y == x) ys (y ∷ without_one x ys) same in
      let count = ap length rest in (
        omega (arith, count),
        λ v.
            let sum = ap (sum_by (here v)) rest in
            let all = sum_by-cons (here v) y ys in
            let equal : here v x ≡ here v y = ap (here v) (sym (eqb-true y x same)) in
            omega (arith, sum, all, equal),
      )
  | inr other ↦
      let rest : without_one x (y ∷ ys) ≡ y ∷ without_one x ys = cond-false (y == x) ys (y ∷ without_one x ys) other in
      let first = sum_by-cons (here x) y ys in
      let none : here x y ≡ 0 = cond-false (y == x) 1 0 other in
      let inner = there-is x ys (omega (arith, some, first, none)) in
      let count = ap length rest in
      let fewer = inner.0 in (
        omega (arith, count, fewer),
        λ v.
            let sum = ap (sum_by (here v)) rest in
            let all = sum_by-cons (here v) y ys in
            let less = sum_by-cons (here v) y (without_one x ys) in
            let within = inner.1 v in
            omega (arith, sum, all, less, within),
      )
]

-- what counts each number no more often is no longer
pub counted-shorter : (xs ys : List ℕ) → ((v : ℕ) → sum_by (here v) xs ≤ sum_by (here v) ys) → length xs ≤ length ys
counted-shorter [] ys few = omega arith
counted-shorter (x ∷ xs) ys few =
    let first = sum_by-cons (here x) x xs in
    let one : here x x ≡ 1 = cond-true (x == x) 1 0 (eq-eqb x x refl) in
    let whole = few x in
    let inner = there-is x ys (omega (arith, first, one, whole)) in
    let count = inner.0 in
    let rest = counted-shorter xs (without_one x ys) (λ v. let all = sum_by-cons (here v) x xs in let part = inner.1 v in let fewer = few v in
    omega (arith, all, part, fewer)) in
    omega (arith, rest, count)

-- a rising list of numbers below n has no more than n
rising-short : (n a : ℕ) (ds : List VpeDecl) → AllPairs (λ (x y : VpeDecl). x.vpe < y.vpe) ds → All (λ (x : VpeDecl). (a ≤ x.vpe) × (x.vpe < n)) ds → a ≤ n →
    length ds + a ≤ n
rising-short n a [] rise all few = omega (arith, few)
rising-short n a (d ∷ ds) rise all few =
    let here' : (a ≤ d.vpe) × (d.vpe < n) = all zero d (omega arith) in
    let low = here'.0 in
    let high = here'.1 in
    let rest = rising-short n (d.vpe + 1) ds (λ i j e lt within. rise (suc i) (suc j) e (omega (arith, lt)) (omega (arith, within))) (λ k e within. let above =
    rise zero (suc k) e (omega arith) (omega (arith, within)) in let next : (a ≤ (get_or ds k e).vpe)
    × ((get_or ds k e).vpe < n) = all (suc k) e (omega (arith, within)) in let below = next.1 in (omega (arith, above), below)) (omega (arith, high)) in
    omega (arith, rest, low)

pub few-vpes : (T : Setup) → IsSetup T → length T.vpes ≤ 128
few-vpes T valid =
    let all = rising-short 128 0 T.vpes valid.vpes_rise (λ k d within. let declared = valid.vpes k d within in let few = declared.vpe in
    let most = most_vpes-le T.version in (omega arith, omega (arith, few, most))) (omega arith) in
    omega (arith, all)

module _ (T : Setup) (J : List Entry) (runs : IsSchedule T J) where
  abbrev askers : ℕ → ℕ → List ℕ
  askers i w = map asker (row (side (world_after T J) i) w).asks

  abbrev vpes : List ℕ
  vpes = map (λ (d : VpeDecl). d.vpe) T.vpes

  -- a queue, with one more ask that is under way, has no more asks than there are VPEs
  with-one : (i w v : ℕ) → ((v0 : ℕ) → here v0 v + of_asks v0 (row (side (world_after T J) i) w) ≤ of_world v0 (world_after T J)) →
      length (row (side (world_after T J) i) w).asks + 1 ≤ length T.vpes
  with-one i w v under_way =
      let asks : List Ask = (row (side (world_after T J) i) w).asks in
      let shorter = counted-shorter (v ∷ askers i w) vpes (λ v0.
      let first = sum_by-cons (here v0) v (askers i w) in
      let queue : sum_by (here v0) (askers i w) ≡ of_asks v0 (row (side (world_after T J) i) w) = sum-of_map (here v0) asker asks in
      let declared : sum_by (here v0) vpes ≡ sum_by (λ (d : VpeDecl). here v0 d.vpe) T.vpes = sum-of_map (here v0) (λ (d : VpeDecl). d.vpe) T.vpes in
      let most = one-exchange v0 T J runs in
      let given = under_way v0 in
      omega (arith, first, queue, declared, most, given)) in
      let one = length-map asker asks in
      let two = length-map (λ (d : VpeDecl). d.vpe) T.vpes in
      omega (arith, shorter, one, two)
    where
      length-map : {X Y : Type 0} (f : X → Y) (xs : List X) → length (map f xs) ≡ length xs
      length-map f [] = refl
      length-map f (x ∷ xs) = let rest = length-map f xs in omega (arith, rest)

  -- what stands in an inbox is under way beside every queue of the same kernel
  inbox-beside : (v0 i w : ℕ) → of_inbox v0 (side (world_after T J) i).inbox + of_asks v0 (row (side (world_after T J) i) w) ≤ of_world v0 (world_after T J)
  inbox-beside v0 i w =
      let s : Side = side (world_after T J) i in
      let queue = weigh-at (of_asks v0) no_vpe refl s.vpes w in
      let part = world-side v0 (world_after T J) i no_side in
      omega (arith, queue, part)

  -- where a message of an asker is handled, no queue of its kernel is full
  pub room-at-handling : IsSetup T → (i w v from : ℕ) (m : Message) → (side (world_after T J) i).inbox ≡ Some (from, m) →
      ((v0 : ℕ) → of_message v0 m ≡ here v0 v) → length (row (side (world_after T J) i) w).asks < ASKS
  room-at-handling valid i w v from m fetched of_asker =
      let few = few-vpes T valid in
      let one = with-one i w v (λ v0.
      let beside = inbox-beside v0 i w in
      let weighs : of_inbox v0 (side (world_after T J) i).inbox ≡ of_message v0 m = ap (of_inbox v0) fetched in
      let same = of_asker v0 in
      omega (arith, beside, weighs, same)) in
      omega (arith, few, one)

  -- nor where a VPE that may call asks one of its own kernel
  pub room-at-call : IsSetup T → (i w v : ℕ) → free (row (side (world_after T J) i) v) (parked (side (world_after T J) i) v) ≡ 1 →
      length (row (side (world_after T J) i) w).asks < ASKS
  room-at-call valid i w v may =
      let few = few-vpes T valid in
      let one = with-one i w v (λ v0. beside v0) in
      omega (arith, few, one)
    where
      beside : (v0 : ℕ) → here v0 v + of_asks v0 (row (side (world_after T J) i) w) ≤ of_world v0 (world_after T J)
      beside v0 =
          let s : Side = side (world_after T J) i in
          let queue = weigh-at (of_asks v0) no_vpe refl s.vpes w in
          let part = world-side v0 (world_after T J) i no_side in
          elim (cases_Bool (v == v0)) [
            | inl same ↦
                let one : here v0 v ≡ 1 = cond-true (v == v0) 1 0 same in
                let frees : free (row s v0) (parked s v0) ≡ 1 = ap (λ u. free (row s u) (parked s u)) (sym (eqb-true v v0 same)) ∙ may in
                omega (arith, queue, part, one, frees)
            | inr other ↦
                let none : here v0 v ≡ 0 = cond-false (v == v0) 1 0 other in
                omega (arith, queue, part, none)
          ]

  -- and no queue ever has more asks than there are VPEs
  pub few-asks : (i w : ℕ) → length (row (side (world_after T J) i) w).asks ≤ length T.vpes
  few-asks i w =
      let asks : List Ask = (row (side (world_after T J) i) w).asks in
      let shorter = counted-shorter (askers i w) vpes (λ v0.
      let queue : sum_by (here v0) (askers i w) ≡ of_asks v0 (row (side (world_after T J) i) w) = sum-of_map (here v0) asker asks in
      let declared : sum_by (here v0) vpes ≡ sum_by (λ (d : VpeDecl). here v0 d.vpe) T.vpes = sum-of_map (here v0) (λ (d : VpeDecl). d.vpe) T.vpes in
      let most = one-exchange v0 T J runs in
      let beside = inbox-beside v0 i w in
      omega (arith, queue, declared, most, beside)) in
      let one = length-map asker asks in
      let two = length-map (λ (d : VpeDecl). d.vpe) T.vpes in
      omega (arith, shorter, one, two)
    where
      length-map : {X Y : Type 0} (f : X → Y) (xs : List X) → length (map f xs) ≡ length xs
      length-map f [] = refl
      length-map f (x ∷ xs) = let rest = length-map f xs in omega (arith, rest)
