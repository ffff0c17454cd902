-- What the calls of a setup that are left can bring, and the kills that are left: each call takes what it can bring,
-- each kill one, and no event gives any back.
use Rattle.std.proofs.Common.{◌≡◌, ℕ, zero, suc, ◌+◌, ◌*◌, ◌≤◌, ◌&&◌, true, false, List, [], ◌∷◌, ◌++◌, length, drop}
use Rattle.std.proofs.Common.{slice_get, Option, Some, None, is_some, is_none, refl, sym, ◌∙◌, ap, subst, inl, inr}
use Rattle.std.proofs.Common.{arith, append-nil, append_assoc}
use Rattle.std.specs.Prelude.{◌==◌, nat_lt, if◌then◌else◌}
use Rattle.std.specs.List.{Contains, find, sum_by}
use Rattle.std.specs.Option.{option_map, option_map_or}
use Rattle.std.proofs.lemmas.Bool.{cases_Bool, and_parts, cond_both, cond-true, cond-false, eqb-true}
use Rattle.std.proofs.lemmas.List.Sums.{sum_by-cons, sum_by_push}
use Rattle.std.proofs.lemmas.Option.{same_Some, slice_get_within}
use Rattle.sem_msg.specs.declared.call.Call.{Call}
use Rattle.sem_msg.specs.declared.entry.Consent.{Consent}
use Rattle.sem_msg.specs.declared.entry.Detail.TheVariants.{Called, Carried, Asked, Nothing}
use Rattle.sem_msg.specs.declared.entry.Entry.{Entry}
use Rattle.sem_msg.specs.declared.event.Act.{Act}
use Rattle.sem_msg.specs.declared.event.Act.TheVariants.{Call as Calls, Fetch, Handle, Upcall, Resume, Flush, Kill}
use Rattle.sem_msg.specs.declared.event.Event.{Event}
use Rattle.sem_msg.specs.declared.message.Message.{Message}
use Rattle.sem_msg.specs.declared.setup.VpeDecl.{VpeDecl}
use Rattle.sem_msg.specs.Rows.{VpeRow, no_vpe}
use Rattle.sem_msg.specs.Setup.{Setup, kill_count}
use Rattle.sem_msg.specs.Journal.{kill_number}
use Rattle.sem_msg.specs.Lookups.{decl, calls_of, kernel_of}
use Rattle.sem_machine.specs.Sides.{Side, row, parked, outbox, is_alive, call_counted}
use Rattle.sem_machine.specs.Steps.{Step, unshown}
use Rattle.sem_machine.specs.Calls.{call_row}
use Rattle.sem_machine.specs.Upcalls.{upcall_row}
use Rattle.sem_machine.specs.Machine.{World, side, link, start, next_call, local_step, local_entry, input_of, after}
use Rattle.sem_machine.specs.Machine.{entry_of, event, is_enabled, is_locally_enabled}
use Rattle.sem_machine.specs.Schedules.{IsSchedule, world_after}
use Rattle.sem_machine.specs.Seeded.{is_call, is_kill}
use Rattle.sem_key.proofs.Members.{found, Contains-cons_cases}
use Rattle.sem_key.proofs.Puts.{get_or-put_same}
use Rattle.sem_safety.specs.Onward.{IsOnward}
use Rattle.sem_safety.proofs.Drawers.{side-after}
use Rattle.sem_safety.proofs.GoingOn.{AnyVpe, any_grant, any_cut, after-onward, run-append, entry-enabled}
use Rattle.sem_safety.proofs.KeptRows.{call_row-keeps}
use Rattle.sem_safety.proofs.KeptSteps.{blind-call, facts-blind}
use Rattle.sem_safety.proofs.Layers.{facts}
use Rattle.sem_safety.proofs.LiveWorlds.{sum-le}
use Rattle.sem_safety.proofs.Onwards.{Any, AnyPlace, onward-same, onward}
use Rattle.sem_safety.proofs.EndedVpes.{killed-dead}
use Rattle.sem_bound.specs.Counts.{kills_made}
use Rattle.sem_bound.specs.Costs.{most_entries, call_entries, costs_made, costs_declared}
use Rattle.sem_bound.proofs.CostRanges.{of_calls, declared-sums, entries-within}

-- where no weight is greater and one is less by n, the sum is less by n
sum-less : {X : Type 0} (w u : X → ℕ) (n : ℕ) → ((x : X) → w x ≤ u x) → (xs : List X) (x : X) → Contains xs x →
    w x + n ≤ u x → sum_by w xs + n ≤ sum_by u xs
sum-less w u n less [] x (k, within, same) one = absurd (omega (arith, within))
sum-less w u n less (y ∷ ys) x among one =
    let new = sum_by-cons w y ys in
    let old = sum_by-cons u y ys in
    elim (Contains-cons_cases y ys x among) [
      | inl same ↦
          let here : w y + n ≤ u y = subst (λ z. w z + n ≤ u z) (sym same) one in
          let rest = sum-le w u less ys in
          omega (arith, new, old, here, rest)
      | inr later ↦
          let here = less y in
          let rest = sum-less w u n less ys x later one in
          omega (arith, new, old, here, rest)
    ]

-- What is left of a list weighs less the more is dropped.
module _ {X : Type 0} (w : X → ℕ) where
  drop-all : (xs : List X) (n : ℕ) → sum_by w (drop n xs) ≤ sum_by w xs
  drop-all xs zero = omega arith
  drop-all [] (suc n) = omega arith
  drop-all (x ∷ xs) (suc n) = let rest = drop-all xs n in let all = sum_by-cons w x xs in omega (arith, rest, all)

  drop-less : (xs : List X) (n m : ℕ) → n ≤ m → sum_by w (drop m xs) ≤ sum_by w (drop n xs)
  drop-less xs zero m less = drop-all xs m
  drop-less xs (suc n) zero less = absurd (omega (arith, less))
  drop-less [] (suc n) (suc m) less = omega arith
  drop-less (x ∷ xs) (suc n) (suc m) less = drop-less xs n m (omega (arith, less))

  drop-takes : (xs : List X) (n m : ℕ) (x : X) → slice_get xs n ≡ Some x → n + 1 ≤ m →
      sum_by w (drop m xs) + w x ≤ sum_by w (drop n xs)
  drop-takes [] n m x none less = absurd cc
  drop-takes (y ∷ ys) zero zero x some less = absurd (omega (arith, less))
  drop-takes (y ∷ ys) zero (suc m) x some less =
      let rest = drop-all ys m in
      let all = sum_by-cons w y ys in
      let same : w y ≡ w x = ap w (same_Some y x some) in
      omega (arith, rest, all, same)
  drop-takes (y ∷ ys) (suc n) zero x some less = absurd (omega (arith, less))
  drop-takes (y ∷ ys) (suc n) (suc m) x some less = drop-takes ys n m x some (omega (arith, less))

module _ (T : Setup) where
  -- what is read of a VPE at its kernel
  abbrev vpe_row : World → ℕ → VpeRow
  vpe_row W v = row (side W (kernel_of T v)) v

  -- what the calls can bring that a VPE has left
  abbrev call_left : World → VpeDecl → ℕ
  call_left W d = sum_by (most_entries T (kernel_of T d.vpe)) (drop (vpe_row W d.vpe).next_call d.calls)

  abbrev pub calls_left : World → ℕ
  calls_left W = sum_by (call_left W) T.vpes

  abbrev kill_left : World → ℕ × ℕ → ℕ
  kill_left W k = if (vpe_row W k.0).alive then 1 else 0

  abbrev pub kills_left : World → ℕ
  kills_left W = sum_by (kill_left W) T.kills

  -- No event gives any back.
  call-less : (W : World) (e : Event) (d : VpeDecl) → call_left (after T W e) d ≤ call_left W d
  call-less W e d = drop-less (most_entries T (kernel_of T d.vpe)) d.calls (vpe_row W d.vpe).next_call
      (vpe_row (after T W e) d.vpe).next_call (((after-onward T W e).sides (kernel_of T d.vpe)).calls d.vpe)

  kill-less : (W : World) (e : Event) (k : ℕ × ℕ) → kill_left (after T W e) k ≤ kill_left W k
  kill-less W e k = elim (cases_Bool (vpe_row (after T W e) k.0).alive) [
    | inl lives ↦
        let before : kill_left W k ≡ 1 =
        cond-true (vpe_row W k.0).alive 1 0 (((after-onward T W e).sides (kernel_of T k.0)).dead k.0 lives) in
        let now : kill_left (after T W e) k ≡ 1 = cond-true (vpe_row (after T W e) k.0).alive 1 0 lives in
        omega (arith, before, now)
    | inr dead ↦ let now : kill_left (after T W e) k ≡ 0 = cond-false (vpe_row (after T W e) k.0).alive 1 0 dead in
        omega (arith, now)
  ]

  -- A call takes what it can bring.
  counted-on : (i : ℕ) (s : Side) (v : ℕ) (c : Call) →
      IsOnward (call_counted v s) (call_row T i (call_counted v s) v c).side
  counted-on i s v c =
      let t : Side = call_counted v s in
      let x : Step = call_row T i t v c in
      call_row-keeps (facts Any AnyPlace) AnyVpe (IsOnward t) (onward t).kept T i t v c tt (onward-same t)
      (λ exit k same. tt) (λ k p held. tt)
      (blind-call (facts Any AnyPlace) (facts-blind Any AnyPlace (λ p k. Unit {0}) (λ k. Unit {0})) t v c)
      (any_grant x.outcome.grant, λ w n may low below. tt, any_cut x.outcome.cut)

  called-more : (i : ℕ) (s : Side) (v : ℕ) (input : Option Message) → is_some (next_call T s v) ≡ true →
      (row s v).next_call + 1 ≤ (row (local_step T i s (Calls v) input).side v).next_call
  unfolding local_step
  called-more i s v input some = from (next_call T s v) some
    where
      from : (o : Option Call) → is_some o ≡ true →
          (row s v).next_call + 1
          ≤ (row (option_map_or (call_row T i (call_counted v s) v) o (unshown s)).side v).next_call
      from None some = absurd cc
      from (Some c) some =
          let on = (counted-on i s v c).calls v in
          let one : (row (call_counted v s) v).next_call ≡ (row s v).next_call + 1 =
          ap (λ (r : VpeRow). r.next_call)
          (get_or-put_same no_vpe s.vpes v (record (row s v) { next_call = (row s v).next_call + 1 })) in
          omega (arith, on, one)

  pub call-takes : (W : World) (i v : ℕ) (c : Call) → is_enabled T W (event i (Calls v)) ≡ true →
      next_call T (side W i) v ≡ Some c →
      calls_left (after T W (event i (Calls v))) + most_entries T i c ≤ calls_left W
  unfolding is_enabled is_locally_enabled
  call-takes W i v c enabled next =
      let s : Side = side W i in
      let e : Event = event i (Calls v) in
      let here = (and_parts
      ((kernel_of T v == i) && (is_alive s v && (is_none (parked s v) && is_some (next_call T s v)))) _
      (and_parts (nat_lt i T.kernels) _ enabled).1).0 in
      let kernel : kernel_of T v ≡ i =
      eqb-true (kernel_of T v) i
      (and_parts (kernel_of T v == i)
      (is_alive s v && (is_none (parked s v) && is_some (next_call T s v))) here).0 in
      let more = called-more i s v (input_of W i (Calls v)) (ap is_some next) in
      let now : (row (side (after T W e) i) v).next_call
      ≡ (row (local_step T i s (Calls v) (input_of W i (Calls v))).side v).next_call =
      ap (λ (t : Side). (row t v).next_call) (side-after T W e) in
      let takes : (row s v).next_call + 1 ≤ (row (side (after T W e) i) v).next_call = omega (arith, more, now) in
      by_decl (decl T v) refl kernel
      (subst (λ j. (row (side W j) v).next_call + 1 ≤ (row (side (after T W e) j) v).next_call)
      (sym kernel) takes)
    where
      W2 : World
      W2 = after T W (event i (Calls v))

      by_decl : (o : Option VpeDecl) → decl T v ≡ o → kernel_of T v ≡ i →
          (vpe_row W v).next_call + 1 ≤ (vpe_row W2 v).next_call → calls_left W2 + most_entries T i c ≤ calls_left W
      by_decl None none kernel takes =
          let calls : calls_of T v ≡ [] =
          ap (λ (x : Option VpeDecl). option_map_or (λ (d : VpeDecl). d.calls) x []) none in
          let within = slice_get_within (calls_of T v) (row (side W i) v).next_call c next in
          let few = ap length calls in
          let zero' : length {A = Call} [] ≡ 0 = refl in
          absurd (omega (arith, within, few, zero'))
      by_decl (Some d) found' kernel takes =
          let there = found (λ (x : VpeDecl). x.vpe == v) T.vpes d found' in
          let at : d.vpe ≡ v = eqb-true d.vpe v there.1 in
          let calls : calls_of T v ≡ d.calls =
          ap (λ (x : Option VpeDecl). option_map_or (λ (y : VpeDecl). y.calls) x []) found' in
          let own' : kernel_of T d.vpe ≡ i = ap (kernel_of T) at ∙ kernel in
          let moved : (vpe_row W d.vpe).next_call + 1 ≤ (vpe_row W2 d.vpe).next_call =
          subst (λ w. (vpe_row W w).next_call + 1 ≤ (vpe_row W2 w).next_call) (sym at) takes in
          let front : slice_get d.calls (vpe_row W d.vpe).next_call ≡ Some c =
          ap (λ w. slice_get d.calls (vpe_row W w).next_call) at
          ∙ (ap (λ j. slice_get d.calls (row (side W j) v).next_call) kernel
          ∙ (ap (λ cs. slice_get cs (row (side W i) v).next_call) (sym calls) ∙ next)) in
          let same = ap (λ j. most_entries T j c) own' in
          let one = drop-takes (most_entries T (kernel_of T d.vpe)) d.calls (vpe_row W d.vpe).next_call
          (vpe_row W2 d.vpe).next_call c front moved in
          sum-less (call_left W2) (call_left W) (most_entries T i c)
          (call-less W (event i (Calls v))) T.vpes d there.0 (omega (arith, one, same))

  -- A kill takes one.
  pub kill-takes : (W : World) (i v : ℕ) → is_enabled T W (event i (Kill v)) ≡ true →
      kills_left (after T W (event i (Kill v))) + 1 ≤ kills_left W
  unfolding is_enabled is_locally_enabled local_step
  kill-takes W i v enabled =
      let s : Side = side W i in
      let e : Event = event i (Kill v) in
      let here = (and_parts ((kernel_of T v == i) && (is_alive s v && is_some (kill_number T v))) _
      (and_parts (nat_lt i T.kernels) _ enabled).1).0 in
      let two = and_parts (kernel_of T v == i) (is_alive s v && is_some (kill_number T v)) here in
      let kernel : kernel_of T v ≡ i = eqb-true (kernel_of T v) i two.0 in
      let three = and_parts (is_alive s v) (is_some (kill_number T v)) two.1 in
      let before : (vpe_row W v).alive ≡ true = ap (λ j. (row (side W j) v).alive) kernel ∙ three.0 in
      let now : (vpe_row (after T W e) v).alive ≡ false =
      ap (λ j. (row (side (after T W e) j) v).alive) kernel
      ∙ (ap (λ (t : Side). (row t v).alive) (side-after T W e) ∙ killed-dead T i v s) in
      by_kill (find (λ k. k.0 == v) T.kills) refl three.1 before now
    where
      by_kill : (o : Option (ℕ × ℕ)) → find (λ k. k.0 == v) T.kills ≡ o →
          is_some (option_map {T = ℕ × ℕ} (λ k. k.1) o) ≡ true → (vpe_row W v).alive ≡ true →
          (vpe_row (after T W (event i (Kill v))) v).alive ≡ false →
          kills_left (after T W (event i (Kill v))) + 1 ≤ kills_left W
      by_kill None none some before now = absurd cc
      by_kill (Some k) found' some before now =
          let there = found (λ (x : ℕ × ℕ). x.0 == v) T.kills k found' in
          let at : k.0 ≡ v = eqb-true k.0 v there.1 in
          let one : kill_left W k ≡ 1 =
          cond-true (vpe_row W k.0).alive 1 0 (ap (λ w. (vpe_row W w).alive) at ∙ before) in
          let none : kill_left (after T W (event i (Kill v))) k ≡ 0 =
          cond-false (vpe_row (after T W (event i (Kill v))) k.0).alive 1 0
          (ap (λ w. (vpe_row (after T W (event i (Kill v))) w).alive) at ∙ now) in
          sum-less (kill_left (after T W (event i (Kill v)))) (kill_left W) 1
          (kill-less W (event i (Kill v))) T.kills k there.0 (omega (arith, one, none))

  -- An event takes what it counts for.
  abbrev kill_one : Act → ℕ
  kill_one a = if is_kill a then 1 else 0

  abbrev brings : World → ℕ → Act → ℕ
  brings W i a = call_entries T i (entry_of T W (event i a)).detail

  -- what is no call brings nothing
  brings-none : (W : World) (i : ℕ) (a : Act) → is_call a ≡ false → brings W i a ≡ 0
  unfolding entry_of local_entry local_step
  brings-none W i (Calls v) no' = absurd cc
  brings-none W i (Fetch j) no' = from (slice_get (link W j i) 0)
    where
      from : (o : Option Message) → call_entries T i (option_map_or (λ m. Carried j m) o Nothing) ≡ 0
      from None = refl
      from (Some m) = refl
  brings-none W i Handle no' = from (side W i).inbox
    where
      from : (o : Option (ℕ × Message)) → call_entries T i (option_map_or (λ m. Carried m.0 m.1) o Nothing) ≡ 0
      from None = refl
      from (Some m) = refl
  brings-none W i (Upcall v) no' = from (upcall_row T i (side W i) v).outcome.asked
    where
      from : (o : Option (ℕ × Consent)) → call_entries T i (option_map_or (λ a. Asked a.0 a.1) o Nothing) ≡ 0
      from None = refl
      from (Some a) = refl
  brings-none W i (Resume v) no' = refl
  brings-none W i (Flush j) no' = from (slice_get (outbox (side W i) j) 0)
    where
      from : (o : Option Message) → call_entries T i (option_map_or (λ m. Carried j m) o Nothing) ≡ 0
      from None = refl
      from (Some m) = refl
  brings-none W i (Kill v) no' = refl

  called-brings : (W : World) (i v : ℕ) (o : Option Call) → next_call T (side W i) v ≡ o →
      brings W i (Calls v) ≡ option_map_or (most_entries T i) o 0
  unfolding entry_of local_entry local_step
  called-brings W i v o next =
      from (next_call T (side W i) v) ∙ ap (λ (x : Option Call). option_map_or (most_entries T i) x 0) next
    where
      from : (x : Option Call) →
          call_entries T i (option_map_or (λ c. Called (row (side W i) v).next_call c) x Nothing)
          ≡ option_map_or (most_entries T i) x 0
      from None = refl
      from (Some c) = refl

  calls-same : (W : World) (i : ℕ) (a : Act) → is_call a ≡ false →
      calls_left (after T W (event i a)) + brings W i a ≤ calls_left W
  calls-same W i a no' =
      let less = sum-le (call_left (after T W (event i a))) (call_left W) (call-less W (event i a)) T.vpes in
      let none = brings-none W i a no' in
      omega (arith, less, none)

  calls-after : (W : World) (i : ℕ) (a : Act) → is_enabled T W (event i a) ≡ true →
      calls_left (after T W (event i a)) + brings W i a ≤ calls_left W
  calls-after W i (Calls v) enabled = from (next_call T (side W i) v) refl
    where
      from : (o : Option Call) → next_call T (side W i) v ≡ o →
          calls_left (after T W (event i (Calls v))) + brings W i (Calls v) ≤ calls_left W
      from None next =
          let less = sum-le (call_left (after T W (event i (Calls v)))) (call_left W)
          (call-less W (event i (Calls v))) T.vpes in
          let none : brings W i (Calls v) ≡ 0 = called-brings W i v None next in
          omega (arith, less, none)
      from (Some c) next =
          let takes = call-takes W i v c enabled next in
          let one : brings W i (Calls v) ≡ most_entries T i c = called-brings W i v (Some c) next in
          omega (arith, takes, one)
  calls-after W i (Fetch j) enabled = calls-same W i (Fetch j) refl
  calls-after W i Handle enabled = calls-same W i Handle refl
  calls-after W i (Upcall v) enabled = calls-same W i (Upcall v) refl
  calls-after W i (Resume v) enabled = calls-same W i (Resume v) refl
  calls-after W i (Flush j) enabled = calls-same W i (Flush j) refl
  calls-after W i (Kill v) enabled = calls-same W i (Kill v) refl

  -- an entry brings 21 at most, and nothing if it is no call
  pub brings-few : (W : World) (i : ℕ) (a : Act) → brings W i a ≤ 21 * (if is_call a then 1 else 0)
  brings-few W i (Calls v) = from (next_call T (side W i) v) refl
    where
      from : (o : Option Call) → next_call T (side W i) v ≡ o → brings W i (Calls v) ≤ 21
      from None next = let none : brings W i (Calls v) ≡ 0 = called-brings W i v None next in omega (arith, none)
      from (Some c) next =
          let one : brings W i (Calls v) ≡ most_entries T i c = called-brings W i v (Some c) next in
          let few = (entries-within T i c).1 in
          omega (arith, one, few)
  brings-few W i (Fetch j) = let none = brings-none W i (Fetch j) refl in omega (arith, none)
  brings-few W i Handle = let none = brings-none W i Handle refl in omega (arith, none)
  brings-few W i (Upcall v) = let none = brings-none W i (Upcall v) refl in omega (arith, none)
  brings-few W i (Resume v) = let none = brings-none W i (Resume v) refl in omega (arith, none)
  brings-few W i (Flush j) = let none = brings-none W i (Flush j) refl in omega (arith, none)
  brings-few W i (Kill v) = let none = brings-none W i (Kill v) refl in omega (arith, none)

  kills-after : (W : World) (i : ℕ) (a : Act) → is_enabled T W (event i a) ≡ true →
      kills_left (after T W (event i a)) + kill_one a ≤ kills_left W
  kills-after W i (Kill v) enabled = kill-takes W i v enabled
  kills-after W i (Calls v) enabled = let less =
      sum-le (kill_left (after T W (event i (Calls v)))) (kill_left W) (kill-less W (event i (Calls v))) T.kills in
      omega (arith, less)
  kills-after W i (Fetch j) enabled = let less =
      sum-le (kill_left (after T W (event i (Fetch j)))) (kill_left W) (kill-less W (event i (Fetch j))) T.kills in
      omega (arith, less)
  kills-after W i Handle enabled = let less =
      sum-le (kill_left (after T W (event i Handle))) (kill_left W) (kill-less W (event i Handle)) T.kills in
      omega (arith, less)
  kills-after W i (Upcall v) enabled = let less =
      sum-le (kill_left (after T W (event i (Upcall v)))) (kill_left W) (kill-less W (event i (Upcall v))) T.kills in
      omega (arith, less)
  kills-after W i (Resume v) enabled = let less =
      sum-le (kill_left (after T W (event i (Resume v)))) (kill_left W) (kill-less W (event i (Resume v))) T.kills in
      omega (arith, less)
  kills-after W i (Flush j) enabled = let less =
      sum-le (kill_left (after T W (event i (Flush j)))) (kill_left W) (kill-less W (event i (Flush j))) T.kills in
      omega (arith, less)

  -- A schedule.
  calls-first : calls_left (start T) ≤ costs_declared T
  calls-first =
      let sums = declared-sums T in
      let left : VpeDecl → ℕ = call_left (start T) in
      let less = sum-le left (of_calls T)
      (λ d. drop-all (most_entries T (kernel_of T d.vpe)) d.calls (vpe_row (start T) d.vpe).next_call) T.vpes in
      omega (arith, sums, less)

  kills-first : kills_left (start T) ≤ kill_count T
  kills-first = from T.kills
    where
      from : (ks : List (ℕ × ℕ)) → sum_by (kill_left (start T)) ks ≤ length ks
      from [] = omega arith
      from (k ∷ ks) =
          let all = sum_by-cons (kill_left (start T)) k ks in
          let rest = from ks in
          let one : kill_left (start T) k ≤ 1 =
          cond_both (vpe_row (start T) k.0).alive 1 0 (λ n. n ≤ 1) (λ _. omega arith) (λ _. omega arith) in
          omega (arith, all, rest, one)

  abbrev Within : List Entry → Type 0
  Within J = (costs_made T J + calls_left (world_after T J) ≤ costs_declared T) ×
      (kills_made J + kills_left (world_after T J) ≤ kill_count T)

  pub few-made : (J : List Entry) → IsSchedule T J → Within J
  few-made J runs = from [] J refl (
    let calls = calls-first in omega (arith, calls),
    let kills = kills-first in
        omega (arith, kills),
  )
    where
      from : (before later : List Entry) → J ≡ before ++ later → Within before → Within J
      from before [] parts is = subst Within (sym (parts ∙ append-nil before)) is
      from before (e ∷ es) parts is =
          let W : World = world_after T before in
          let at = entry-enabled T before (start T) e es (subst (IsSchedule T) parts runs) in
          let calls = calls-after W e.event.kernel e.event.act at.1 in
          let kills = kills-after W e.event.kernel e.event.act at.1 in
          let called = ap calls_left (sym (run-append T before (e ∷ []) (start T))) in
          let killed = ap kills_left (sym (run-append T before (e ∷ []) (start T))) in
          let one = sum_by_push (λ (x : Entry). call_entries T x.event.kernel x.detail) before e in
          let shown = ap (λ (x : Entry). call_entries T e.event.kernel x.detail) at.2 in
          let two = sum_by_push (λ (x : Entry). kill_one x.event.act) before e in
          let first = is.0 in
          let second = is.1 in
          from (before ++ e ∷ []) es (parts ∙ sym (append_assoc before (e ∷ []) es))
          (omega (arith, calls, called, one, shown, first), omega (arith, kills, killed, two, second))
