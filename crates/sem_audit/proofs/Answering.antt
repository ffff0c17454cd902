-- In a setup in which no VPE ends a complete schedule has a reply to each call: each VPE is alive, so each of its calls is answered, and
-- each reply is to one of them.
use Rattle.std.proofs.Common.{◌≡◌, ◌≢◌, ℕ, suc, ◌+◌, ◌<◌, Bool, true, false, cond, List, [], ◌∷◌, length, Option, Some, None, is_some, refl, sym, ap, ◌∙◌}
use Rattle.std.proofs.Common.{subst, inl, inr, arith, eq-eqb}
use Rattle.std.specs.Prelude.{◌==◌, ◌&&◌, nat_lt, sum_by}
use Rattle.std.specs.List.{filter, filter_map, cons_option, find, slice_get, Contains, AllPairs}
use Rattle.std.specs.Option.{option_map, option_map_or}
use Rattle.std.proofs.lemmas.Bool.{cases_Bool, and_parts, cond-true, cond-false, ne_eqb, ltb-true, true≢false, false_from_ne_true}
use Rattle.std.proofs.lemmas.List.Elements.{All-contains}
use Rattle.std.proofs.lemmas.List.Sums.{sum_by-cons}
use Rattle.std.proofs.lemmas.Option.{same_Some}
use Rattle.sem_key.proofs.Members.{Contains-nil, Contains-cons_cases, Contains-head, Contains-tail, found, list_any-some}
use Rattle.sem_msg.specs.declared.call.Call.{Call}
use Rattle.sem_msg.specs.declared.call.Call.TheVariants.{Derive, Gate, Obtain, Delegate, OpenSession, AskOffer, Revoke, Bind, Read, Write, Send as SendCall}
use Rattle.sem_msg.specs.declared.call.Call.TheVariants.{Credit, Exit, Clear}
use Rattle.sem_msg.specs.declared.event.Act.{Act}
use Rattle.sem_msg.specs.declared.event.Act.TheVariants.{Call as Calls, Fetch, Handle, Upcall, Resume, Flush, Kill}
use Rattle.sem_msg.specs.declared.entry.Detail.TheVariants.{Called, Nothing}
use Rattle.sem_msg.specs.declared.entry.Entry.{Entry}
use Rattle.sem_msg.specs.declared.entry.Reply.{Reply}
use Rattle.sem_msg.specs.declared.setup.VpeDecl.{VpeDecl}
use Rattle.sem_msg.specs.Journal.{replies, kill_number}
use Rattle.sem_msg.specs.Lookups.{kernel_of, calls_of, decl, pe_owner}
use Rattle.sem_msg.specs.Setup.{Setup, IsSetup, call_count}
use Rattle.sem_machine.specs.Sides.{Side, row, is_alive, ask_taken}
use Rattle.sem_machine.specs.Steps.{Step, unshown}
use Rattle.sem_machine.specs.Upcalls.{ask_decided, upcall_row}
use Rattle.sem_machine.specs.Machine.{World, side, start, after, entry_of, is_enabled, is_locally_enabled, local_step, detail_of, input_of, next_call}
use Rattle.sem_machine.specs.Machine.{replied_vpe}
use Rattle.sem_machine.specs.Schedules.{IsRun, world_after}
use Rattle.sem_machine.specs.Journals.{ends, has_ended}
use Rattle.sem_machine.specs.Living.{IsComplete}
use Rattle.sem_machine.proofs.Folds.{option-keeps}
use Rattle.sem_safety.proofs.CarryingWorlds.{stepped}
use Rattle.sem_safety.proofs.Skeleton.{decided-by}
use Rattle.sem_machine.proofs.FirstNumbers.{find-decl}
use Rattle.sem_reader.proofs.Enumerated.{pairs_head, pairs_tail}
use Rattle.sem_reader.proofs.Printed.{get_contains}
use Rattle.sem_sound.proofs.Named.{kernel-decl}
use Rattle.sem_revoke.proofs.AddressedWorlds.{vpe-local}
use Rattle.sem_revoke.proofs.Dying.{dead-ended}
use Rattle.sem_revoke.proofs.Serving.{tells}

-- an entry that an event makes in some world in which it is enabled
record IsMade (T : Setup) (e : Entry) : Type 0 where
  world : World
  enabled : is_enabled T world e.event ≡ true
  made_so : e ≡ entry_of T world e.event

-- each entry of a run is
run-made : (T : Setup) (J : List Entry) (W : World) → IsRun T W J → (e : Entry) → Contains J e → IsMade T e
unfolding IsRun
run-made T [] W runs e among = absurd (Contains-nil e among)
run-made T (x ∷ xs) W runs e among = elim (Contains-cons_cases x xs e among) [
  | inl same ↦ subst (IsMade T) same (record { world = W; enabled = runs.0; made_so = runs.1 })
  | inr later ↦ run-made T xs (after T W x.event) runs.2 e later
]

-- what is chosen of a list is so of an element
module _ {X Y : Type 0} (h : X → Option Y) where
  abbrev IsChosen : List X → Y → Type 0
  IsChosen xs y = (x : X) × Contains xs x × (h x ≡ Some y)

  chosen-from : (xs : List X) (y : Y) → Contains (filter_map h xs) y → IsChosen xs y
  chosen-from [] y among = absurd (Contains-nil y among)
  chosen-from (x ∷ xs) y among = from (h x) refl (λ rest. let z = chosen-from xs y rest in (z.0, Contains-tail x xs z.0 z.1, z.2)) among
    where
      from : (o : Option Y) → h x ≡ o → (Contains (filter_map h xs) y → IsChosen (x ∷ xs) y) → Contains (filter_map h (x ∷ xs)) y → IsChosen (x ∷ xs) y
      from None none later there = later (subst (λ (o : Option Y). Contains (cons_option o (filter_map h xs)) y) none there)
      from (Some w) some later there =
          elim (Contains-cons_cases w (filter_map h xs) y (subst (λ (o : Option Y). Contains (cons_option o (filter_map h xs)) y) some there)) [
            | inl same ↦ (x, Contains-head x xs, some ∙ ap Some same)
            | inr rest ↦ later rest
          ]

sum-same : {X : Type 0} (f g : X → ℕ) (xs : List X) → ((x : X) → Contains xs x → f x ≡ g x) → sum_by f xs ≡ sum_by g xs
sum-same f g [] same = refl
sum-same f g (x ∷ xs) same = let here = same x (Contains-head x xs) in let rest = sum-same f g xs (λ z among. same z (Contains-tail x xs z among)) in
    sum_by-cons f x xs ∙ (ap (λ n. n + sum_by f xs) here ∙ (ap (λ n. g x + n) rest ∙ sym (sum_by-cons g x xs)))

-- The replies to each of some VPEs.
abbrev to : ℕ → List Reply → ℕ
to v rs = length (filter (λ r. r.vpe == v) rs)

abbrev bit : Bool → ℕ
bit b = cond b 1 0

to-more : (v : ℕ) (r : Reply) (rs : List Reply) → to v (r ∷ rs) ≡ bit (r.vpe == v) + to v rs
to-more v r rs =
    let rest : List Reply = filter (λ q. q.vpe == v) rs in
    elim (cases_Bool (r.vpe == v)) [
      | inl same ↦
          let long : to v (r ∷ rs) ≡ suc (length rest) = ap (λ (xs : List Reply). length xs) (cond-true {A = List Reply} (r.vpe == v) (r ∷ rest) rest same) in
          let one : bit (r.vpe == v) ≡ 1 = cond-true {A = ℕ} (r.vpe == v) 1 0 same in
          omega (arith, long, one)
      | inr other ↦
          let short : to v (r ∷ rs) ≡ length rest = ap (λ (xs : List Reply). length xs) (cond-false {A = List Reply} (r.vpe == v) (r ∷ rest) rest other) in
          let none : bit (r.vpe == v) ≡ 0 = cond-false {A = ℕ} (r.vpe == v) 1 0 other in
          omega (arith, short, none)
    ]

sum-two : {X : Type 0} (f g h : X → ℕ) → ((x : X) → f x ≡ g x + h x) → (xs : List X) → sum_by f xs ≡ sum_by g xs + sum_by h xs
sum-two f g h same [] = refl
sum-two f g h same (x ∷ xs) =
    let here = same x in
    let rest = sum-two f g h same xs in
    let one = sum_by-cons f x xs in
    let two = sum_by-cons g x xs in
    let three = sum_by-cons h x xs in
    omega (arith, here, rest, one, two, three)

-- a VPE that is not declared among these is none of them
none-of : (v : ℕ) (ds : List VpeDecl) → ((d : VpeDecl) → Contains ds d → v ≢ d.vpe) → sum_by (λ d. bit (v == d.vpe)) ds ≡ 0
none-of v [] other = refl
none-of v (d ∷ ds) other =
    let here = cond-false {A = ℕ} (v == d.vpe) 1 0 (ne_eqb v d.vpe (other d (Contains-head d ds))) in
    let rest = none-of v ds (λ x among. other x (Contains-tail d ds x among)) in
    let sum = sum_by-cons (λ (x : VpeDecl). bit (v == x.vpe)) d ds in
    omega (arith, here, rest, sum)

-- of VPEs that differ a declared one is just one
one-of : (v : ℕ) (ds : List VpeDecl) → AllPairs (λ a b. a.vpe < b.vpe) ds → (d : VpeDecl) → Contains ds d → d.vpe ≡ v → sum_by (λ x. bit (v == x.vpe)) ds ≡ 1
one-of v [] rise d among same = absurd (Contains-nil d among)
one-of v (x ∷ xs) rise d among same = elim (Contains-cons_cases x xs d among) [
  | inl here ↦
      let is : x.vpe ≡ v = ap (λ (y : VpeDecl). y.vpe) here ∙ same in
      let first = cond-true {A = ℕ} (v == x.vpe) 1 0 (eq-eqb v x.vpe (sym is)) in
      let rest = none-of v xs (λ y later equal. let below =
      All-contains (λ (b : VpeDecl). x.vpe < b.vpe) xs y (pairs_head (λ (a b : VpeDecl). a.vpe < b.vpe) x xs rise) later in
      omega (arith, below, is, equal)) in
      let sum = sum_by-cons (λ (y : VpeDecl). bit (v == y.vpe)) x xs in
      omega (arith, first, rest, sum)
  | inr later ↦
      let below = All-contains (λ (b : VpeDecl). x.vpe < b.vpe) xs d (pairs_head (λ (a b : VpeDecl). a.vpe < b.vpe) x xs rise) later in
      let first = cond-false {A = ℕ} (v == x.vpe) 1 0 (ne_eqb v x.vpe (λ equal. omega (arith, below, same, equal))) in
      let rest = one-of v xs (pairs_tail (λ (a b : VpeDecl). a.vpe < b.vpe) x xs rise) d later same in
      let sum = sum_by-cons (λ (y : VpeDecl). bit (v == y.vpe)) x xs in
      omega (arith, first, rest, sum)
]

-- replies that are all to VPEs that differ are as many as those to each of them together
all-counted : (ds : List VpeDecl) → AllPairs (λ a b. a.vpe < b.vpe) ds → (rs : List Reply) →
    ((r : Reply) → Contains rs r → (d : VpeDecl) × Contains ds d × (d.vpe ≡ r.vpe)) → sum_by (λ d. to d.vpe rs) ds ≡ length rs
all-counted ds rise [] to_them = none ds
  where
    none : (xs : List VpeDecl) → sum_by (λ (d : VpeDecl). to d.vpe []) xs ≡ 0
    none [] = refl
    none (x ∷ xs) = none xs
all-counted ds rise (r ∷ rs) to_them =
    let d = to_them r (Contains-head r rs) in
    let one = one-of r.vpe ds rise d.0 d.1 d.2 in
    let rest = all-counted ds rise rs (λ q among. to_them q (Contains-tail r rs q among)) in
    let both = sum-two (λ (x : VpeDecl). to x.vpe (r ∷ rs)) (λ (x : VpeDecl). bit (r.vpe == x.vpe)) (λ (x : VpeDecl). to x.vpe rs)
    (λ x. to-more x.vpe r rs) ds in
    omega (arith, one, rest, both)

-- An upcall answers no call.
upcall-silent : (T : Setup) (i u : ℕ) (s : Side) → (upcall_row T i s u).outcome.reply ≡ None
unfolding upcall_row
upcall-silent T i u s = option-keeps (λ (x : Step). x.outcome.reply ≡ None) (λ a. ask_decided T i u a (ask_taken u s)) (slice_get (row s u).asks 0) (unshown s)
    (λ a there. decided-by (λ (x : Step). x.outcome.reply ≡ None) (λ w x is. is) (λ w x is. is) (λ w x is. is) T i u a (ask_taken u s)
    (record {
      nothing = refl;
      refused = λ code. refl;
      given = λ place target p of. refl;
      here = λ parent object sel of. refl;
      prepared = λ parent object sel of. refl;
    }))
    refl

module _ (T : Setup) (valid : IsSetup T) where
  -- Each reply is to a declared VPE.
  reply-declared : (e : Entry) → IsMade T e → (r : Reply) → e.reply ≡ Some r → (d : VpeDecl) × Contains T.vpes d × (d.vpe ≡ r.vpe)
  unfolding is_enabled local_step
  reply-declared e made r some = by e.event.act refl
    where
      W : World
      W = made.world

      i : ℕ
      i = e.event.kernel

      told : option_map (λ code. record { vpe = replied_vpe e.event.act; code = code }) (stepped T W e.event).outcome.reply ≡ Some r
      told = sym (tells T W e made.made_so).reply ∙ some

      parts : (nat_lt i T.kernels ≡ true) × (is_locally_enabled T i (side W i) e.event.act ≡ true)
      parts = let both = and_parts (nat_lt i T.kernels) _ made.enabled in (both.0, (and_parts (is_locally_enabled T i (side W i) e.event.act) _ both.1).0)

      who : (o : Option ℕ) → option_map (λ code. record { vpe = replied_vpe e.event.act; code = code }) o ≡ Some r → replied_vpe e.event.act ≡ r.vpe
      who None is = absurd cc
      who (Some code) is = ap (λ (q : Reply). q.vpe) (same_Some (record { vpe = replied_vpe e.event.act; code = code }) r is)

      silent : (stepped T W e.event).outcome.reply ≡ None → ⊥
      silent none = let no' : None ≡ Some r = sym (ap (option_map (λ code. record { vpe = replied_vpe e.event.act; code = code })) none) ∙ told in absurd cc

      declared : (v : ℕ) → kernel_of T v ≡ i → replied_vpe e.event.act ≡ v → (d : VpeDecl) × Contains T.vpes d × (d.vpe ≡ r.vpe)
      declared v here is =
          let low : kernel_of T v < T.kernels = let below = ltb-true i T.kernels parts.0 in omega (arith, below, here) in
          let d = kernel-decl T valid v low in
          (d.0, d.2, d.3 ∙ (sym is ∙ who (stepped T W e.event).outcome.reply told))

      by : (a : Act) → e.event.act ≡ a → (d : VpeDecl) × Contains T.vpes d × (d.vpe ≡ r.vpe)
      by (Calls v) act = declared v (vpe-local T i (side W i) e.event.act parts.1 v (inl act)) (ap replied_vpe act)
      by (Resume v) act = declared v (vpe-local T i (side W i) e.event.act parts.1 v (inr (inr (inl act)))) (ap replied_vpe act)
      by (Upcall v) act = absurd (silent (ap (λ a. (local_step T i (side W i) a (input_of W i a)).outcome.reply) act ∙ upcall-silent T i v (side W i)))
      by (Fetch j) act = absurd (silent (ap (λ a. (local_step T i (side W i) a (input_of W i a)).outcome.reply) act))
      by Handle act = absurd (silent (ap (λ a. (local_step T i (side W i) a (input_of W i a)).outcome.reply) act))
      by (Flush j) act = absurd (silent (ap (λ a. (local_step T i (side W i) a (input_of W i a)).outcome.reply) act))
      by (Kill v) act = absurd (silent (ap (λ a. (local_step T i (side W i) a (input_of W i a)).outcome.reply) act))

  -- Where nobody is killed and nobody calls `exit`, no entry ends a VPE.
  module _ (no_kills : T.kills ≡ []) (no_exits : (d : VpeDecl) → Contains T.vpes d → Contains d.calls Exit → ⊥) where
    calls-no_exit : (v n : ℕ) → slice_get (calls_of T v) n ≡ Some Exit → ⊥
    calls-no_exit v n there = from (decl T v) refl
      where
        from : (o : Option VpeDecl) → decl T v ≡ o → ⊥
        from None none = let no' : slice_get [] n ≡ Some Exit = ap (λ (o : Option VpeDecl). slice_get (option_map_or (λ d. d.calls) o []) n) (sym none)
            ∙ there in absurd cc
        from (Some d) some =
            let at : slice_get d.calls n ≡ Some Exit = ap (λ (o : Option VpeDecl). slice_get (option_map_or (λ d. d.calls) o []) n) (sym some) ∙ there in
            no_exits d (found (λ (x : VpeDecl). x.vpe == v) T.vpes d some).0 (get_contains d.calls n Exit at)

    call-goes_on : (v w n : ℕ) (c : Call) → (c ≡ Exit → ⊥) → ends v (Calls w) (Called n c) ≡ false
    call-goes_on v w n (Derive src dst off len rights) other = refl
    call-goes_on v w n (Gate src dst label credits) other = refl
    call-goes_on v w n (Obtain dst u src) other = refl
    call-goes_on v w n (Delegate src u dst) other = refl
    call-goes_on v w n (OpenSession dst name) other = refl
    call-goes_on v w n (AskOffer dst session index) other = refl
    call-goes_on v w n (Revoke src) other = refl
    call-goes_on v w n (Bind ep src) other = refl
    call-goes_on v w n (Read ep off len) other = refl
    call-goes_on v w n (Write ep off len) other = refl
    call-goes_on v w n (SendCall ep len) other = refl
    call-goes_on v w n (Credit ep) other = refl
    call-goes_on v w n Exit other = absurd (other refl)
    call-goes_on v w n (Clear src) other = refl

    entry-goes_on : (v : ℕ) (e : Entry) → IsMade T e → ends v e.event.act e.detail ≡ false
    unfolding is_enabled is_locally_enabled
    entry-goes_on v e made = by e.event.act refl
      where
        W : World
        W = made.world

        s : Side
        s = side W e.event.kernel

        locally : is_locally_enabled T e.event.kernel s e.event.act ≡ true
        locally = (and_parts (is_locally_enabled T e.event.kernel s e.event.act) _ (and_parts (nat_lt e.event.kernel T.kernels) _ made.enabled).1).0

        told : e.detail ≡ detail_of T s e.event.act (input_of W e.event.kernel e.event.act) (stepped T W e.event).outcome
        told = (tells T W e made.made_so).detail

        by : (a : Act) → e.event.act ≡ a → ends v e.event.act e.detail ≡ false
        by (Kill w) act =
            let is : ((kernel_of T w == e.event.kernel) && (is_alive s w && is_some (kill_number T w))) ≡ true =
            ap (is_locally_enabled T e.event.kernel s) (sym act) ∙ locally in
            let number = (and_parts (is_alive s w) _ (and_parts (kernel_of T w == e.event.kernel) _ is).1).1 in
            let none : is_some (kill_number T w) ≡ false = ap (λ (ks : List (ℕ × ℕ)). is_some (option_map (λ k. k.1) (find (λ k. k.0 == w) ks))) no_kills in
            absurd (true≢false (sym number ∙ none))
        by (Calls w) act =
            ap (ends v e.event.act) told
            ∙ (ap (λ b. ends v b (detail_of T s b (input_of W e.event.kernel b) (stepped T W e.event).outcome)) act ∙ called (next_call T s w) refl)
          where
            called : (o : Option Call) → next_call T s w ≡ o → ends v (Calls w) (option_map_or (λ call. Called (row s w).next_call call) o Nothing) ≡ false
            called None none = refl
            called (Some c) some = call-goes_on v w (row s w).next_call c (λ is. calls-no_exit w (row s w).next_call (some ∙ ap Some is))
        by (Fetch j) act = rw act refl
        by Handle act = rw act refl
        by (Upcall w) act = rw act refl
        by (Resume w) act = rw act refl
        by (Flush j) act = rw act refl

    module _ (J : List Entry) (complete : IsComplete T J) where
      made-at : (e : Entry) → Contains J e → IsMade T e
      made-at = run-made T J (start T) complete.schedule

      goes-on : (v : ℕ) → has_ended J v ≡ false
      goes-on v = false_from_ne_true (has_ended J v) (λ over.
          let some = list_any-some (λ (e : Entry). ends v e.event.act e.detail) J over in
          true≢false (sym some.2 ∙ entry-goes_on v some.0 (made-at some.0 some.1)))

      -- so each VPE is alive, and has as many replies as calls
      vpe-answered : (d : VpeDecl) → Contains T.vpes d → to d.vpe (replies J) ≡ length d.calls
      vpe-answered d among =
          let known : decl T d.vpe ≡ Some d = find-decl T.vpes d valid.vpes_rise among in
          let alive : is_alive (side (world_after T J) (kernel_of T d.vpe)) d.vpe ≡ true =
          elim (cases_Bool (is_alive (side (world_after T J) (kernel_of T d.vpe)) d.vpe)) [
            | inl lives ↦ lives
            | inr dead ↦
                let home : kernel_of T d.vpe ≡ pe_owner T d.pe = ap (λ (o : Option VpeDecl). option_map_or (λ x. pe_owner T x.pe) o T.kernels) known in
                absurd (true≢false (sym (dead-ended T valid J complete.schedule d among (ap (λ k. is_alive (side (world_after T J) k) d.vpe) (sym home) ∙ dead))
                ∙ goes-on d.vpe))
          ] in
          complete.all_answered d.vpe alive ∙ ap (λ (o : Option VpeDecl). length (option_map_or (λ x. x.calls) o [])) known

      pub all-answered : length (replies J) ≡ call_count T
      all-answered =
          sym (all-counted T.vpes valid.vpes_rise (replies J) (λ r among.
          let e = chosen-from (λ (x : Entry). x.reply) J r among in
          reply-declared e.0 (made-at e.0 e.1) r e.2))
          ∙ sum-same (λ (d : VpeDecl). to d.vpe (replies J)) (λ (d : VpeDecl). length d.calls) T.vpes vpe-answered
