-- What is given finds room, and numbers are left, in every schedule of a file service that goes well.
use Rattle.std.proofs.Common.{◌≡◌, ℕ, zero, suc, ◌+◌, ◌≤◌, ◌<◌, ◌++◌, Bool, true, false, List, [], ◌∷◌, drop, filter, length, replicate, get_or, Option, Some}
use Rattle.std.proofs.Common.{None, slice_get, refl, sym, ap, ◌∙◌, subst, inl, inr, arith}
use Rattle.std.specs.Prelude.{◌==◌, if◌then◌else◌}
use Rattle.std.specs.List.{Contains, sum_by}
use Rattle.std.proofs.lemmas.Bool.{cases_eq}
use Rattle.sem_key.specs.declared.limits.TheConstants.{NUMBERS}
use Rattle.sem_key.specs.declared.object.Object.{Object}
use Rattle.sem_key.specs.KeyName.{KeyName}
use Rattle.sem_key.proofs.Members.{Contains-nil, Contains-head, Contains-flat_map}
use Rattle.sem_msg.specs.declared.call.Call.{Call}
use Rattle.sem_msg.specs.declared.limits.TheConstants.{SELECTORS}
use Rattle.sem_msg.specs.declared.entry.Entry.{Entry}
use Rattle.sem_msg.specs.declared.setup.Root.{Root}
use Rattle.sem_msg.specs.declared.setup.VpeDecl.{VpeDecl}
use Rattle.sem_msg.specs.declared.state.Ask.TheVariants.{Delegate as DelegateAsk}
use Rattle.sem_msg.specs.declared.state.Slot.TheVariants.{Free}
use Rattle.sem_msg.specs.Rows.{VpeRow}
use Rattle.sem_msg.specs.VpeRows.{new_vpe, root_held}
use Rattle.sem_msg.specs.Setup.{Setup, root_key}
use Rattle.sem_msg.specs.Lookups.{decl, kernel_of, calls_of}
use Rattle.sem_machine.specs.Sides.{row}
use Rattle.sem_machine.specs.Journals.{root_keys_from}
use Rattle.sem_machine.specs.Machine.{World, start, side, next_call, after}
use Rattle.sem_machine.specs.Schedules.{IsSchedule, world_after}
use Rattle.sem_fs.proofs.Unending.{entered}
use Rattle.sem_sound.proofs.Scheduling.{schedule-sound}
use Rattle.sem_files.specs.Compiled.{SERVER}
use Rattle.sem_fs.specs.Service.{GIVEN, IsService, any, is_ask, draws, times_given_by, numbers_wanted, times_given}
use Rattle.sem_fs.specs.Holding.{home}
use Rattle.sem_fs.specs.Supplies.{ClientHasRoom, HasRooms}
use Rattle.sem_fs.specs.Going.{IsGoing}
use Rattle.sem_fs.proofs.Lifting.{world-next}
use Rattle.sem_fs.proofs.Sparing.{lives}
use Rattle.sem_fs.proofs.ServedSteps.{ask-among}
use Rattle.sem_fs.proofs.Claims.{IsClaim}
use Rattle.sem_fs.proofs.ClaimWorlds.{claimed, after-less}
use Rattle.sem_fs.proofs.ClaimStarts.{brings, start-claimed, sum-le-among}
use Rattle.sem_fs.proofs.ClaimKinds.{used, at_room, room_used, rooms, room-left, numbers_used, numbers, number-left, number-asked, nothing_used, gifts}
use Rattle.sem_fs.proofs.ClaimKinds.{gift-told}

drop-none : (cs : List Call) → drop 0 cs ≡ cs
drop-none [] = refl
drop-none (c ∷ cs) = refl

-- a VPE with roots has a key
roots-keyed : (d : VpeDecl) (rs : List Root) (n : ℕ) (r : Root) → Contains rs r → (k : KeyName) × Contains (root_keys_from d n rs) k × (k.vpe ≡ d.vpe)
unfolding root_keys_from
roots-keyed d [] n r among = absurd (Contains-nil r among)
roots-keyed d (x ∷ rs) n r among = (root_key d n x, Contains-head (root_key d n x) (root_keys_from d (n + 1) rs), refl)

module _ (T : Setup) (S : IsService T) where
  -- an entry makes no claim greater
  module _ (w0 : ℕ) (m : ℕ → Bool) (k : ℕ) (h : VpeRow → ℕ) (C : IsClaim T w0 m k h) where
    claim-next : (J : List Entry) (e : Entry) (n : ℕ) → IsSchedule T (J ++ e ∷ []) → IsGoing T J → claimed T w0 m k h C (world_after T J) ≤ n
        → claimed T w0 m k h C (world_after T (J ++ e ∷ [])) ≤ n
    claim-next J e n runs' I is =
        let x = entered T J [] e runs' in
        let less = after-less T w0 m k h C S (world_after T J) I.served (λ i low. (schedule-sound T S.setup J x.0).sides i low) e.event.kernel e.event.act x.1
        in
        subst (λ V. claimed T w0 m k h C V ≤ n) (sym (world-next T J e))
        (both (claimed T w0 m k h C (after T (world_after T J) e.event)) (claimed T w0 m k h C (world_after T J)) n less is)
      where
        both : (a b c : ℕ) → a ≤ b → b ≤ c → a ≤ c
        both a b c one two = omega (arith, one, two)

  -- what is claimed of clients is there
  pub record IsFit (J : List Entry) : Type 0 where
    pub once : (w sel : ℕ) (far : GIVEN ≤ sel) → (w ≡ SERVER → ⊥) →
        claimed T w (at_room T w sel far) 0 (room_used T w sel far) (rooms T w sel far) (world_after T J) ≤
        1
    pub few : (w : ℕ) → (w ≡ SERVER → ⊥) → claimed T w any 1 (numbers_used T w) (numbers T w) (world_after T J) ≤ NUMBERS
    pub none : claimed T SERVER any 0 (nothing_used T SERVER) (gifts T SERVER) (world_after T J) ≤ 0

  pub fit-next : (J : List Entry) (e : Entry) → IsSchedule T (J ++ e ∷ []) → IsGoing T J → IsFit J → IsFit (J ++ e ∷ [])
  fit-next J e runs' I F = record {
    once = λ w sel far client. claim-next w (at_room T w sel far) 0 (room_used T w sel far) (rooms T w sel far) J e 1 runs' I (F.once w sel far client);
    few = λ w client. claim-next w any 1 (numbers_used T w) (numbers T w) J e NUMBERS runs' I (F.few w client);
    none = claim-next SERVER any 0 (nothing_used T SERVER) (gifts T SERVER) J e 0 runs' I F.none;
  }

  -- a client has no roots
  client-free : (w : ℕ) (h : VpeRow → ℕ) → (w ≡ SERVER → ⊥) → (d : VpeDecl) → Contains T.vpes d → d.vpe ≡ w → (r : Root) → Contains d.roots r → (x : VpeRow)
      → h (root_held d r x) ≤ h x
  client-free w h client d among here r root x =
      let q = roots-keyed d d.roots 0 r root in
      absurd (client (sym here ∙ (sym q.2 ∙ S.roots q.0 (Contains-flat_map (λ (y : VpeDecl). root_keys_from y 0 y.roots) T.vpes d q.0 among q.1))))

  free-first : (n sel : ℕ) → get_or (replicate n Free) sel Free ≡ Free
  free-first zero sel = refl
  free-first (suc n) zero = refl
  free-first (suc n) (suc sel) = free-first n sel

  unused : (w sel : ℕ) (far : GIVEN ≤ sel) → room_used T w sel far new_vpe ≡ 0
  unused w sel far = ap used (free-first SELECTORS sel)

  new-used : (w : ℕ) → numbers_used T w new_vpe ≡ length (filter is_ask (calls_of T w))
  new-used w = plus (length (filter is_ask (drop 0 (calls_of T w)))) (length (filter is_ask (calls_of T w)))
      (ap (λ cs. length (filter is_ask cs)) (drop-none (calls_of T w)))
    where
      plus : (a b : ℕ) → a ≡ b → 0 + a ≡ b
      plus a b same = omega (arith, same)

  as-much : (b : Bool) (a n n' : ℕ) → n ≡ n' → a + (if b then n else 0) ≤ a + (if b then n' else 0)
  as-much true a n n' same = omega (arith, same)
  as-much false a n n' same = omega arith

  no-more : (b : Bool) (a n : ℕ) → n ≡ 0 → a + (if b then n else 0) ≤ a
  no-more true a n none = omega (arith, none)
  no-more false a n none = omega arith

  pub start-fit : IsFit []
  start-fit = record {
    once = λ w sel far client.
        both (claimed T w (at_room T w sel far) 0 (room_used T w sel far) (rooms T w sel far) (start T))
        (sum_by (brings T w (at_room T w sel far) 0 (room_used T w sel far) (rooms T w sel far)) T.vpes) (times_given T w (λ n. n == sel)) 1
        (start-claimed T w (at_room T w sel far) 0 (room_used T w sel far) (rooms T w sel far) (client-free w (room_used T w sel far) client))
        (sum-le-among (brings T w (at_room T w sel far) 0 (room_used T w sel far) (rooms T w sel far)) (times_given_by T w (λ n. n == sel)) T.vpes
        (λ d among. no-more (d.vpe == w) (times_given_by T w (λ n. n == sel) d) (room_used T w sel far new_vpe) (unused w sel far)))
        (S.given_once w sel far);
    few = λ w client. both (claimed T w any 1 (numbers_used T w) (numbers T w) (start T)) (sum_by (brings T w any 1 (numbers_used T w) (numbers T w)) T.vpes)
        (numbers_wanted T w) NUMBERS (start-claimed T w any 1 (numbers_used T w) (numbers T w) (client-free w (numbers_used T w) client))
        (sum-le-among (brings T w any 1 (numbers_used T w) (numbers T w)) (draws T w) T.vpes
        (λ d among. as-much (d.vpe == w) (times_given_by T w any d) (numbers_used T w new_vpe) (length (filter is_ask (calls_of T w))) (new-used w)))
        (S.numbers w client);
    none =
        both (claimed T SERVER any 0 (nothing_used T SERVER) (gifts T SERVER) (start T))
        (sum_by (brings T SERVER any 0 (nothing_used T SERVER) (gifts T SERVER)) T.vpes) (times_given T SERVER any) 0
        (start-claimed T SERVER any 0 (nothing_used T SERVER) (gifts T SERVER) (λ d among here r root x. omega arith))
        (sum-le-among (brings T SERVER any 0 (nothing_used T SERVER) (gifts T SERVER)) (times_given_by T SERVER any) T.vpes
        (λ d among. no-more (d.vpe == SERVER) (times_given_by T SERVER any d) 0 refl))
        (zero-less (times_given T SERVER any) S.ungiven);
  }
    where
      both : (a b c n : ℕ) → a ≤ b → b ≤ c → c ≤ n → a ≤ n
      both a b c n one two' three = omega (arith, one, two', three)

      zero-less : (a : ℕ) → a ≡ 0 → a ≤ 0
      zero-less a is = omega (arith, is)

  -- so there is room
  pub fit-rooms : (J : List Entry) → IsSchedule T J → IsGoing T J → IsFit J → HasRooms T J
  fit-rooms J runs I F = record { given = given'; numbers = numbers' }
    where
      given' : (u : ℕ) (d : VpeDecl) (parent : KeyName) (object : Object) (sel : ℕ) → decl T u ≡ Some d
          → slice_get (row (home T (world_after T J) u) u).asks 0 ≡ Some (DelegateAsk parent object sel) → ClientHasRoom T (world_after T J) u parent object sel
      given' u d parent object sel at head =
          let i : ℕ = kernel_of T u in
          let W : World = world_after T J in
          let far : GIVEN ≤ sel = (I.served.sides i).asks u (DelegateAsk parent object sel) (ask-among T u (DelegateAsk parent object sel) (side W i) head) in
          elim (cases_eq u SERVER) [
            | inl same ↦ absurd (gift-told T SERVER W i parent object sel F.none
                (subst (λ w. slice_get (row (side W i) w).asks 0 ≡ Some (DelegateAsk parent object sel)) same head))
            | inr client ↦ record {
              room = room-left T u sel far W i parent object (F.once u sel far client) head;
              number =
                  number-left T u W i parent object sel (lives T S J runs u d at) (F.few u client) head;
            }
          ]

      numbers' : (v : ℕ) (d : VpeDecl) (c : Call) → decl T v ≡ Some d → next_call T (home T (world_after T J) v) v ≡ Some c → is_ask c ≡ true
          → (row (home T (world_after T J) v) v).next_number < NUMBERS
      numbers' v d c at next asks = elim (cases_eq v SERVER) [
        | inl same ↦ let none : ◌≡◌ {A = Option Call} None (Some c) = sym
            (ap (λ cs. slice_get cs (row (home T (world_after T J) v) v).next_call) (ap (calls_of T) same ∙ S.rests)) ∙ next in absurd cc
        | inr client ↦ number-asked T v (world_after T J) (kernel_of T v) c (lives T S J runs v d at) (F.few v client) next asks
      ]
