-- After every schedule what a job has marked has no unmarked child at its own kernel: a kernel asks others alone.
use Rattle.std.proofs.Common.{◌≡◌, ℕ, ◌≤◌, Bool, true, false, not, ◌&&◌, List, Option, Some, None, IsSome, refl, sym, ap, ◌∙◌, subst, inl, inr, arith, eq-eqb}
use Rattle.std.specs.Prelude.{◌==◌}
use Rattle.std.specs.List.{Contains}
use Rattle.std.proofs.lemmas.Bool.{and_parts, eqb-true, true≢false}
use Rattle.sem_key.specs.KeyName.{KeyName, key_eq}
use Rattle.sem_key.specs.Capability.{Capability}
use Rattle.sem_key.proofs.KeyTests.{key_eq-true}
use Rattle.sem_key.proofs.Members.{found, not_found}
use Rattle.sem_msg.specs.declared.entry.Entry.{Entry}
use Rattle.sem_msg.specs.declared.message.Message.{Message}
use Rattle.sem_msg.specs.declared.message.Message.TheVariants.{ObtainReq, ObtainOk, ObtainNo, DelegateReq, DelegatePrepared, DelegateNo, Ack, Orphan, RevokeReq}
use Rattle.sem_msg.specs.declared.message.Message.TheVariants.{RevokeDone, Unlink}
use Rattle.sem_msg.specs.Rows.{JobRow}
use Rattle.sem_msg.specs.Setup.{Setup, IsSetup}
use Rattle.sem_msg.specs.Lookups.{owner_of}
use Rattle.sem_machine.specs.Sides.{Side, cap, job}
use Rattle.sem_machine.specs.Machine.{World, side, start}
use Rattle.sem_machine.specs.Living.{HoldsCap}
use Rattle.sem_machine.specs.Schedules.{IsSchedule, world_after}
use Rattle.sem_safety.proofs.JobIds.{HasIds, ids, start-ids}
use Rattle.sem_safety.proofs.SideLayers.{run-kept}
use Rattle.sem_sound.proofs.Jobbing.{same-id}
use Rattle.sem_revoke.specs.Scales.{requesting_message, requesting, stray_message, straying, names, bit}
use Rattle.sem_revoke.proofs.JobTokens.{HasWeight, world-some}
use Rattle.sem_revoke.proofs.Linking.{holds, way-weighs}
use Rattle.sem_revoke.proofs.Marking.{marks-spread, roots-marked}
use Rattle.sem_revoke.proofs.Readying.{schedule-homes}
use Rattle.sem_revoke.proofs.Viewing.{one-more}

-- a job among those of a side is open under its id
pub job-found : (s : Side) → HasIds s → (x : JobRow) → Contains s.jobs x → job s x.id ≡ Some x
job-found s is x among = from (job s x.id) refl
  where
    from : (o : Option JobRow) → job s x.id ≡ o → o ≡ Some x
    from (Some z) some =
        let there = found (λ (y : JobRow). y.id == x.id) s.jobs z some in
        ap Some (same-id s.jobs is.rise z x there.0 among (eqb-true z.id x.id there.1))
    from None none = absurd (true≢false (sym (eq-eqb x.id x.id refl) ∙ not_found (λ (y : JobRow). y.id == x.id) s.jobs x none among))

-- a request of the kernel that owns its key is a stray
stray-at_home : (owner : KeyName → ℕ) (k : KeyName) (i n from to : ℕ) (m : Message) → owner k ≡ i → 1 ≤ requesting_message k i n from to m →
    1 ≤ stray_message owner from to m
stray-at_home owner k i n from to (RevokeReq key j) home some =
    let outer = and_parts (key_eq key k) ((from == i) && (j == n)) (one-more (key_eq key k && ((from == i) && (j == n))) some) in
    let inner = and_parts (from == i) (j == n) outer.1 in
    let same : owner key ≡ from = ap owner (key_eq-true key k outer.0) ∙ (home ∙ sym (eqb-true from i inner.0)) in
    apart (owner key == to) (owner key == from) (eq-eqb (owner key) from same)
  where
    apart : (a b : Bool) → b ≡ true → 1 ≤ bit (not (a && not b))
    apart true true is = omega arith
    apart false true is = omega arith
    apart true false is = absurd cc
    apart false false is = absurd cc
stray-at_home owner k i n from to (ObtainReq place target) home some = absurd (omega (arith, some))
stray-at_home owner k i n from to (ObtainOk parent key object) home some = absurd (omega (arith, some))
stray-at_home owner k i n from to (ObtainNo place code) home some = absurd (omega (arith, some))
stray-at_home owner k i n from to (DelegateReq parent object vpe sel) home some = absurd (omega (arith, some))
stray-at_home owner k i n from to (DelegatePrepared parent key) home some = absurd (omega (arith, some))
stray-at_home owner k i n from to (DelegateNo parent code) home some = absurd (omega (arith, some))
stray-at_home owner k i n from to (Ack key accepted) home some = absurd (omega (arith, some))
stray-at_home owner k i n from to (Orphan parent key) home some = absurd (omega (arith, some))
stray-at_home owner k i n from to (RevokeDone j) home some = absurd (omega (arith, some))
stray-at_home owner k i n from to (Unlink parent key) home some = absurd (omega (arith, some))

module _ (T : Setup) (valid : IsSetup T) (J : List Entry) (runs : IsSchedule T J) where
  abbrev W : World
  W = world_after T J

  -- what is held unmarked by the kernel that owns it has no mark
  unmarked : (k : KeyName) (d : Capability) → HoldsCap W (owner_of T k) k d → d.mark ≡ None → (n : ℕ) (c : Capability) → HoldsCap W (owner_of T k) k c →
      c.mark ≡ Some n → ⊥
  unmarked k d held none n c held' some =
      let marks = ap (λ (o : Option Capability). mark_in o) (sym held ∙ held') in
      let clash : ◌≡◌ {A = Option ℕ} None (Some n) = sym none ∙ (marks ∙ some) in
      absurd cc
    where
      mark_in : Option Capability → Option ℕ
      mark_in None = None
      mark_in (Some x) = x.mark

  pub marked-children : (i : ℕ) (p k : KeyName) (c d : Capability) (n : ℕ) → HoldsCap W i p c → c.mark ≡ Some n → Contains c.children k → HoldsCap W i k d →
      d.mark ≡ None → ⊥
  marked-children i p k c d n held_p marked child held none =
      elim (marks-spread T valid J runs p k c n (ap (λ a. cap (side W a) p) home_p
      ∙ held_p) marked child (inl (i, subst (λ (o : Option Capability). IsSome o) (sym held) refl))) [
        | inl (same, (e, held', some)) ↦ unmarked k d at_home none n e held' some
        | inr asked ↦ by (world-some (requesting k (owner_of T p) n) W asked)
      ]
    where
      home_p : owner_of T p ≡ i
      home_p = schedule-homes T valid J runs i p c held_p

      home : owner_of T k ≡ i
      home = schedule-homes T valid J runs i k d held

      at_home : HoldsCap W (owner_of T k) k d
      at_home = ap (λ a. cap (side W a) k) home ∙ held

      by : HasWeight (requesting k (owner_of T p) n) W → ⊥
      by (inl (a, b, m, among, some)) =
          let stray = stray-at_home (owner_of T) k (owner_of T p) n a b m (home ∙ sym home_p) some in
          let weighs = way-weighs T valid J runs (straying (owner_of T)) a b m among in
          let placed = (holds T valid J runs).placed in
          omega (arith, stray, weighs, placed)
      by (inr (a, x, among, some)) =
          let parts = and_parts (key_eq x.root k) (names a x.up (owner_of T p) n) (one-more (key_eq x.root k && names a x.up (owner_of T p) n) some) in
          let root : x.root ≡ k = key_eq-true x.root k parts.0 in
          let open_so = job-found (side W a) (run-kept HasIds ids T J (start T) (start-ids T) a) x among in
          let is = (roots-marked T valid J runs a x.id x open_so).1 in
          unmarked k d at_home none x.id is.0 (ap (λ q. cap (side W (owner_of T q)) q) (sym root) ∙ is.1) is.2
