-- What an ObtainOk brings is not lost: its VPE waits for it, or has ended.
use Rattle.std.proofs.Common.{◌≡◌, ◌⊎◌, ℕ, ◌≤◌, ◌++◌, Bool, true, false, not, ◌&&◌, ◌||◌, List, [], ◌∷◌, Option, Some, None, append-nil}
use Rattle.std.proofs.Common.{append_assoc, refl, sym, ap, ◌∙◌, subst, inl, inr, arith, eq-eqb, length}
use Rattle.std.specs.Prelude.{◌==◌, if◌then◌else◌}
use Rattle.std.specs.List.{Contains}
use Rattle.std.specs.Option.{option_map_or}
use Rattle.std.proofs.lemmas.Bool.{cases_Bool, cond-true, cond-false, and_parts, ne_eqb, eqb-true, true≢false}
use Rattle.std.proofs.lemmas.List.Elements.{Contains-append_left, filter_map-append}
use Rattle.sem_key.specs.declared.object.Object.{Object}
use Rattle.sem_key.specs.declared.object.Object.TheVariants.{Mem, Recv, Send, Serv, Sess}
use Rattle.sem_key.specs.KeyName.{KeyName, key_eq}
use Rattle.sem_key.specs.ObjectRanges.{narrows}
use Rattle.sem_key.specs.Capability.{Capability}
use Rattle.sem_key.proofs.KeyTests.{key_eq-true, key_eq-same}
use Rattle.sem_key.proofs.Members.{found, list_any-some, list_any-at}
use Rattle.sem_msg.specs.declared.entry.Entry.{Entry}
use Rattle.sem_msg.specs.declared.event.Act.TheVariants.{Handle}
use Rattle.sem_msg.specs.declared.message.Message.{Message}
use Rattle.sem_msg.specs.declared.message.Message.TheVariants.{ObtainOk, Orphan}
use Rattle.sem_msg.specs.declared.setup.VpeDecl.{VpeDecl}
use Rattle.sem_msg.specs.declared.state.Parked.TheVariants.{ObtainWait, ObtainReady}
use Rattle.sem_msg.specs.Setup.{Setup, IsSetup}
use Rattle.sem_msg.specs.Lookups.{decl, pe_owner, owner_of, kernel_of}
use Rattle.sem_machine.specs.Sides.{Side, cap, parked, is_alive, send, with_inbox}
use Rattle.sem_machine.specs.Asks.{is_obtain_wait}
use Rattle.sem_machine.specs.Handles.{is_key_declared, is_object_declared, is_here, lives_without, is_stray, obtain_ready, handle_row, handled}
use Rattle.sem_machine.specs.Machine.{World, side, local_step, input_of}
use Rattle.sem_machine.specs.Schedules.{IsSchedule, world_after}
use Rattle.sem_machine.specs.Journals.{grants, ends, has_ended}
use Rattle.sem_machine.specs.Living.{way, InFlight, IsLive}
use Rattle.sem_machine.specs.Living.HasObject.{as_granted}
use Rattle.sem_machine.specs.Sound.{IsObjectNamed}
use Rattle.sem_machine.proofs.Weighing.{weigh-among}
use Rattle.sem_safety.proofs.GrownLines.{line-self}
use Rattle.sem_safety.proofs.Lives.{at_message}
use Rattle.sem_sound.proofs.Scheduling.{schedule-sound}
use Rattle.sem_safety.proofs.AskWeights.{here, of_message, of_inbox}
use Rattle.sem_revoke.specs.Revocation.{IsDoomed}
use Rattle.sem_revoke.proofs.Arriving.{schedule-revokes}
use Rattle.sem_revoke.proofs.Asking.{Waits, rest, HasAbout, waits-on, all-awaited}
use Rattle.sem_revoke.proofs.Dying.{dead-ended}
use Rattle.sem_revoke.proofs.Flights.{flight-weighs}
use Rattle.sem_revoke.proofs.Lasting.{all-caused, at, side-here}
use Rattle.sem_revoke.proofs.Narrowness.{all-narrowing}
use Rattle.sem_revoke.proofs.Readying.{enabled-low, schedule-tidy, schedule-homes}
use Rattle.sem_revoke.proofs.ReadyCalls.{here-one, ready-lasts}
use Rattle.sem_revoke.proofs.Waits.{parked-here}
use Rattle.sem_revoke.proofs.Ways.{goes}

pub or-false : (a b : Bool) → a ≡ false → b ≡ false → (a || b) ≡ false
or-false true b no' is = absurd (true≢false no')
or-false false b no' is = is

-- of a message in flight something is about
pub flight-about : (W : World) (v a b : ℕ) (m : Message) → Contains (way W a b) m → 1 ≤ of_message v m → HasAbout W v
flight-about W v = flight-weighs (of_message v) (of_inbox v) (rest v) refl (λ x. omega arith) (λ s. omega arith) W

-- the kernel of a VPE owns its keys
pub kernel-owner : (T : Setup) (k : KeyName) → is_key_declared T k ≡ true → kernel_of T k.vpe ≡ owner_of T k
kernel-owner T k declared = from (decl T k.vpe) declared
  where
    from : (o : Option VpeDecl) → option_map_or (λ (d : VpeDecl). d.pe == k.pe) o false ≡ true →
        option_map_or (λ (d : VpeDecl). pe_owner T d.pe) o T.kernels ≡ owner_of T k
    from None none = absurd cc
    from (Some d) same = ap (pe_owner T) (eqb-true d.pe k.pe same)

-- what narrows a named object below a named key is named
narrowed-named : (T : Setup) (o : Object) (p : KeyName) (q : Object) → narrows o p q ≡ true → IsObjectNamed T q → is_key_declared T p ≡ true →
    is_object_declared T o ≡ true
narrowed-named T (Mem base len rights) p q less named declared = refl
narrowed-named T (Recv slots) p q less named declared = refl
narrowed-named T (Serv name) p q less named declared = refl
narrowed-named T (Send gate label credits) p (Recv slots) less named declared =
    subst (λ z. is_key_declared T z ≡ true) (sym (key_eq-true gate p (and_parts (key_eq gate p) _ less).0)) declared
narrowed-named T (Send gate label credits) p (Send gate' label' credits') less named declared =
    subst (λ z. is_key_declared T z ≡ true)
    (sym (key_eq-true gate gate' (and_parts (key_eq gate gate') _ (and_parts (key_eq gate gate' && (label == label')) _ less).0).0)) named.1
narrowed-named T (Send gate label credits) p (Mem base len rights) less named declared = absurd cc
narrowed-named T (Send gate label credits) p (Serv name) less named declared = absurd cc
narrowed-named T (Send gate label credits) p (Sess service ident) less named declared = absurd cc
narrowed-named T (Sess service ident) p (Serv name) less named declared = subst (λ z. is_key_declared T z ≡ true) (sym (key_eq-true service p less)) declared
narrowed-named T (Sess service ident) p (Mem base len rights) less named declared = absurd cc
narrowed-named T (Sess service ident) p (Recv slots) less named declared = absurd cc
narrowed-named T (Sess service ident) p (Send gate label credits) less named declared = absurd cc
narrowed-named T (Sess service ident) p (Sess service' ident') less named declared = absurd cc

-- a declared VPE
declared-as : (T : Setup) (k : KeyName) → is_key_declared T k ≡ true → (d : VpeDecl) × Contains T.vpes d × (d.vpe ≡ k.vpe) × (pe_owner T d.pe ≡ owner_of T k)
declared-as T k declared = from (decl T k.vpe) refl declared
  where
    from : (o : Option VpeDecl) → decl T k.vpe ≡ o → option_map_or (λ (d : VpeDecl). d.pe == k.pe) o false ≡ true →
        (d : VpeDecl) × Contains T.vpes d × (d.vpe ≡ k.vpe) × (pe_owner T d.pe ≡ owner_of T k)
    from None is none = absurd cc
    from (Some d) is same = let there = found (λ (x : VpeDecl). x.vpe == k.vpe) T.vpes d is in
        (d, there.0, eqb-true d.vpe k.vpe there.1, ap (pe_owner T) (eqb-true d.pe k.pe same))

-- a key of a VPE that is dead is doomed
pub dead-doomed : (T : Setup) → IsSetup T → (J : List Entry) → IsSchedule T J → (before later : List Entry) → J ≡ before ++ later → IsSchedule T before →
    (k : KeyName) (i : ℕ)
    → is_key_declared T k ≡ true → owner_of T k ≡ i → is_alive (side (world_after T before) i) k.vpe ≡ false → IsDoomed J k
dead-doomed T valid J runs before later parts begun k i declared home dead =
    let W : World = world_after T before in
    let d = declared-as T k declared in
    let down : is_alive (side W (pe_owner T d.0.pe)) d.0.vpe ≡ false = ap (λ n. is_alive (side W n) d.0.vpe) (d.3 ∙ home)
    ∙ (ap (is_alive (side W i)) d.2 ∙ dead) in
    let ended = dead-ended T valid before begun d.0 d.1 down in
    let x = list_any-some (λ (x : Entry). ends d.0.vpe x.event.act x.detail) before ended in (
      k,
      line-self (length J) (grants J) k,
      inr (ap (has_ended J) (sym d.2)
          ∙ list_any-at (λ (y : Entry). ends d.0.vpe y.event.act y.detail) J x.0
          (subst (λ ys. Contains ys x.0) (sym parts) (Contains-append_left before later x.0 x.1)) x.2),
    )

-- An event.
module _ (T : Setup) (valid : IsSetup T) (J : List Entry) (runs : IsSchedule T J) (before : List Entry) (e : Entry) (later : List Entry) (parts : J ≡ before
    ++ e ∷ later) (p k : KeyName) (o : Object) where
  abbrev W : World
  W = world_after T before

  abbrev V : World
  V = world_after T (before ++ e ∷ [])

  abbrev i : ℕ
  i = e.event.kernel

  abbrev s : Side
  s = side W i

  abbrev m : Message
  m = ObtainOk p k o

  begun : IsSchedule T before
  begun = (at T valid J runs before e later parts).0

  -- it stands in the inbox: the VPE is ready to install it, or is dead, and an orphan is sent
  pub ok-handled : (a : ℕ) → Contains (grants before) (p, k) → s.inbox ≡ Some (a, m) → e.event.act ≡ Handle → Contains (way W a i) m → Waits T W k.vpe k.number
      → ((sel : ℕ) × (parked (side V i) k.vpe ≡ Some (ObtainReady k p o sel)) × (is_alive (side V i) k.vpe ≡ true))
      ⊎ ((is_key_declared T k ≡ true) × (owner_of T k ≡ i) × (is_alive s k.vpe ≡ false) × (side V i ≡ send (owner_of T p) (Orphan p k) (with_inbox None s)))
  unfolding local_step handle_row
  ok-handled a granted full act among q =
      let world = schedule-sound T valid before begun in
      let here-sound = world.sides i (enabled-low T W e.event (at T valid J runs before e later parts).1) in
      let msg = here-sound.inbox a m full in
      let weighs = weigh-among (at_message k) (way W a i) m among in
      let one : at_message k m ≡ 1 = cond-true (key_eq k k) 1 0 (key_eq-same k) in
      let place = (schedule-revokes T valid before begun).1.place p k a i granted (omega (arith, weighs, one)) in
      let dk = (schedule-tidy T valid before begun p k granted).0 in
      let home : kernel_of T k.vpe ≡ i = kernel-owner T k dk ∙ place.1 in
      let flight : InFlight W m = (a, i, among) in
      let narrow = all-narrowing T valid before begun p k (inr (inl (record { parent = p; object = o; arriving = flight }))) granted in
      let at_a : narrow.kernel ≡ a = sym (schedule-homes T valid before begun narrow.kernel p narrow.parent narrow.held) ∙ place.0 in
      let there = found (λ (x : Capability). key_eq x.key p) (side W a).caps narrow.parent (ap (λ n. cap (side W n) p) (sym at_a) ∙ narrow.held) in
      let parent = (world.sides a msg.1).caps narrow.parent there.0 in
      let dp : is_key_declared T p ≡ true = subst (λ z. is_key_declared T z ≡ true) (key_eq-true narrow.parent.key p there.1) parent.own.0.1 in
      let dob = narrowed-named T o p narrow.parent.object (narrow.narrower o (as_granted p flight)) parent.object.1 dp in
      let away : (kernel_of T p.vpe == i) ≡ false = ne_eqb (kernel_of T p.vpe) i (λ same. msg.2 (sym place.0 ∙ (sym (kernel-owner T p dp) ∙ same))) in
      elim (cases_Bool (is_alive s k.vpe)) [
        | inr dead ↦ inr (dk, place.1, dead, gone home dk dp dob away dead)
        | inl alive ↦ inl (ready home dk dp dob away alive (q (ap (λ n. is_alive (side W n) k.vpe) home ∙ alive)))
      ]
    where
      u : Side
      u = with_inbox None s

      -- it is no stray
      step-is : kernel_of T k.vpe ≡ i → is_key_declared T k ≡ true → is_key_declared T p ≡ true → is_object_declared T o ≡ true →
          (kernel_of T p.vpe == i) ≡ false
          → lives_without (is_obtain_wait k.number) u k.vpe ≡ false
          → side V i ≡ (if is_alive u k.vpe then obtain_ready p k o (parked u k.vpe) u else send (owner_of T p) (Orphan p k) u)
      step-is home dk dp dob away busy =
          let stray : is_stray T i u m ≡ false =
          or-false (not (is_key_declared T p)) _ (ap not dp)
          (or-false (not (is_key_declared T k)) _ (ap not dk) (or-false (not (is_object_declared T o)) _ (ap not dob)
          (or-false (not (is_here T i k.vpe)) _ (ap not (eq-eqb (kernel_of T k.vpe) i home)) (or-false (is_here T i p.vpe) _ away busy)))) in
          side-here T valid J runs before e later parts (all-caused T valid J runs before (e ∷ later) parts) i refl
          ∙ (ap (λ n. (local_step T i s n (input_of W i n)).side) act ∙ (ap (λ x. option_map_or (λ y. handled T i (with_inbox None s) y.0 y.1) x s) full
          ∙ cond-false (is_stray T i u m) u (handle_row T i u a m) stray))

      gone : kernel_of T k.vpe ≡ i → is_key_declared T k ≡ true → is_key_declared T p ≡ true → is_object_declared T o ≡ true → (kernel_of T p.vpe == i) ≡ false
          → is_alive s k.vpe ≡ false → side V i ≡ send (owner_of T p) (Orphan p k) u
      gone home dk dp dob away dead =
          step-is home dk dp dob away (ap (λ b. b && not (is_obtain_wait k.number (parked s k.vpe))) dead)
          ∙ cond-false (is_alive u k.vpe) (obtain_ready p k o (parked u k.vpe) u) (send (owner_of T p) (Orphan p k) u) dead

      ready : kernel_of T k.vpe ≡ i → is_key_declared T k ≡ true → is_key_declared T p ≡ true → is_object_declared T o ≡ true → (kernel_of T p.vpe == i) ≡ false
          → is_alive s k.vpe ≡ true
          → (sel : ℕ) × (parked (side W (kernel_of T k.vpe)) k.vpe ≡ Some (ObtainWait k.number sel)) →
          (sel : ℕ) × (parked (side V i) k.vpe ≡ Some (ObtainReady k p o sel)) × (is_alive (side V i) k.vpe ≡ true)
      ready home dk dp dob away alive (sel, there) =
          let now : parked s k.vpe ≡ Some (ObtainWait k.number sel) = ap (λ n. parked (side W n) k.vpe) (sym home) ∙ there in
          let waits : is_obtain_wait k.number (parked s k.vpe) ≡ true = ap (is_obtain_wait k.number) now ∙ eq-eqb k.number k.number refl in
          let busy : lives_without (is_obtain_wait k.number) u k.vpe ≡ false = ap (λ b. is_alive s k.vpe && not b) waits ∙ ap (λ b. b && false) alive in
          let v : side V i ≡ obtain_ready p k o (Some (ObtainWait k.number sel)) u =
          step-is home dk dp dob away busy ∙ (cond-true (is_alive u k.vpe) (obtain_ready p k o (parked u k.vpe) u) _ alive
          ∙ ap (λ x. obtain_ready p k o x u) now) in
          (sel, ap (λ (x : Side). parked x k.vpe) v ∙ parked-here u k.vpe (Some (ObtainReady k p o sel)), ap (λ (x : Side). is_alive x k.vpe) v ∙ alive)

  handled-ok : (a : ℕ) → Contains (grants before) (p, k) → s.inbox ≡ Some (a, m) → e.event.act ≡ Handle → Contains (way W a i) m → Waits T W k.vpe k.number
      → ((sel : ℕ) × (parked (side V i) k.vpe ≡ Some (ObtainReady k p o sel)) × (is_alive (side V i) k.vpe ≡ true)) ⊎ IsDoomed J k
  handled-ok a granted full act among q = elim (ok-handled a granted full act among q) [
    | inl ready ↦ inl ready
    | inr (declared, home, dead, gone) ↦ inr (dead-doomed T valid J runs before (e ∷ later) parts begun k i declared home dead)
  ]

-- Along the journal.
pub obtained-lasts : (T : Setup) → IsSetup T → (J : List Entry) → IsSchedule T J → (before later : List Entry) (p k : KeyName) (o : Object) →
    J ≡ before ++ later → Contains (grants before) (p, k)
    → InFlight (world_after T before) (ObtainOk p k o) → Waits T (world_after T before) k.vpe k.number → IsLive (world_after T J) k ⊎ IsDoomed J k
obtained-lasts T valid J runs before [] p k o parts granted flight q =
    inl (inr (inl (record {
      parent = p;
      object = o;
      arriving = subst (λ K. InFlight (world_after T K) (ObtainOk p k o)) (sym (parts ∙ append-nil before)) flight;
    })))
obtained-lasts T valid J runs before (e ∷ later) p k o parts granted (a, b, among) q =
    let next : J ≡ (before ++ e ∷ []) ++ later = parts ∙ sym (append_assoc before (e ∷ []) later) in
    elim (goes T valid J runs before e later parts a b (ObtainOk p k o) among) [
      | inl still ↦
          let one = here-one k.vpe in
          let about' = flight-about (world_after T (before ++ e ∷ [])) k.vpe a b (ObtainOk p k o) still (omega (arith, one)) in
          obtained-lasts T valid J runs (before ++ e ∷ []) later p k o next
          (subst (λ gs. Contains gs (p, k)) (sym (filter_map-append (λ (x : Entry). x.grant) before (e ∷ [])))
          (Contains-append_left (grants before) (grants (e ∷ [])) (p, k) granted))
          (a, b, still) (waits-on T valid J runs before e later parts (all-awaited T valid before (at T valid J runs before e later parts).0) k.vpe k.number
          about' q)
      | inr (
        here,
        full,
        act,
      ) ↦ elim (handled-ok T valid J runs before e later parts p k o a granted full act
          (subst (λ n. Contains (way (world_after T before) a n) (ObtainOk p k o)) here among) q) [
            | inl (sel, parks, alive) ↦ ready-lasts T valid J runs (before ++ e ∷ []) later e.event.kernel k.vpe sel k p o next parks alive
            | inr doomed ↦ inr doomed
          ]
    ]
