-- In an idle world after a schedule no job is open, since below each there would be another, deeper among the grants; so nothing is marked, no call is parked,
-- and no delegation is pending.
use Rattle.std.proofs.Common.{◌≡◌, ℕ, zero, suc, ◌+◌, ◌≤◌, true, false, List, [], ◌∷◌, ◌++◌, length, Option, Some, None, is_some, refl, ap, subst, ◌∙◌, inl}
use Rattle.std.proofs.Common.{inr, arith}
use Rattle.std.specs.List.{Contains}
use Rattle.std.specs.Option.{option_map_or}
use Rattle.sem_key.specs.KeyName.{KeyName}
use Rattle.sem_key.specs.Capability.{Capability}
use Rattle.sem_key.proofs.Members.{Contains-nil}
use Rattle.sem_msg.specs.declared.entry.Entry.{Entry}
use Rattle.sem_msg.specs.declared.state.Parked.{Parked}
use Rattle.sem_msg.specs.declared.state.Parked.TheVariants.{ObtainWait, ObtainReady, ObtainCancelled, DelegateWait, DelegateReady, RevokeWait, Ready}
use Rattle.sem_msg.specs.declared.state.Pending.{Pending}
use Rattle.sem_msg.specs.Rows.{JobRow}
use Rattle.sem_msg.specs.Setup.{Setup, IsSetup}
use Rattle.sem_machine.specs.Sides.{parked, pending, job, outbox}
use Rattle.sem_machine.specs.Resumes.{can_resume}
use Rattle.sem_machine.specs.Machine.{World, side, link}
use Rattle.sem_machine.specs.Schedules.{IsSchedule, world_after}
use Rattle.sem_machine.specs.Journals.{grants, root_keys, parent_in, ancestry_in}
use Rattle.sem_machine.specs.Living.{way, fetched_from, HoldsCap, IsIdle}
use Rattle.sem_safety.proofs.GrownLines.{parent-grown, line-enough, parent-is, few-grants}
use Rattle.sem_safety.proofs.OneLife.{all-grown}
use Rattle.sem_revoke.proofs.OpenRows.{awaited-so, marks-open}
use Rattle.sem_revoke.specs.Resting.{IsStirring, HasMarkedParent, HasJobBelow}
use Rattle.sem_revoke.specs.Resting.IsStirring.{by_message, by_ask, by_call}
use Rattle.sem_revoke.specs.Rest.{WaitsForNothing}
use Rattle.sem_revoke.proofs.Above.{waited-below, marked-below}
use Rattle.sem_revoke.proofs.JobTokens.{jobs-owed}
use Rattle.sem_revoke.proofs.Owing.{exchanges-owed}
use Rattle.sem_revoke.proofs.PendingOwed.{pendings-owed}

-- An idle world does not stir.
pub still : (W : World) → IsIdle W → IsStirring W → ⊥
still W idle (by_ask i v some) = some (idle.asks i v)
still W idle (by_call i v can) = let not_so = idle.calls i v in absurd (cc (can, not_so))
still W idle (by_message m (i, j, among)) = Contains-nil m (subst (λ ms. Contains ms m) empty among)
  where
    none : {X : Type 0} (o : Option X) → is_some o ≡ false → o ≡ None
    none None h = refl
    none (Some x) h = absurd cc

    empty : way W i j ≡ []
    empty = ap (λ o. (fetched_from i o ++ link W i j) ++ outbox (side W i) j) (none (side W j).inbox (idle.inboxes j))
        ∙ (ap (λ ms. ms ++ outbox (side W i) j) (idle.links i j) ∙ idle.outboxes i j)

-- a line is no longer than the bound by which it is read
line-short : (n : ℕ) (gs : List (KeyName × KeyName)) (k : KeyName) → length (ancestry_in n gs k) ≤ n + 1
unfolding ancestry_in
line-short zero gs k = omega arith
line-short (suc n) gs k = from (parent_in gs k) (λ p. line-short n gs p)
  where
    from : (o : Option KeyName) → ((p : KeyName) → length (ancestry_in n gs p) ≤ n + 1) → length (k ∷ option_map_or (ancestry_in n gs) o []) ≤ suc n + 1
    from None rest = omega arith
    from (Some p) rest = let few = rest p in omega (arith, few)

module _ (T : Setup) (valid : IsSetup T) (J : List Entry) (runs : IsSchedule T J) where
  abbrev gs : List (KeyName × KeyName)
  gs = grants J

  abbrev depth : KeyName → ℕ
  depth k = length (ancestry_in (suc (length J)) gs k)

  -- a child is one deeper than its parent
  pub deeper : (p k : KeyName) → Contains gs (p, k) → depth k ≡ depth p + 1
  unfolding ancestry_in
  deeper p k granted =
      let grown_so = all-grown T valid J runs in
      let few = few-grants J in
      let at : option_map_or (ancestry_in (length J) gs) (parent_in gs k) [] ≡ ancestry_in (length J) gs p =
      ap (λ o. option_map_or (ancestry_in (length J) gs) o []) (parent-is (root_keys T) gs grown_so p k granted) in
      let enough : ancestry_in (length J) gs p ≡ ancestry_in (suc (length J)) gs p =
      line-enough (root_keys T) gs grown_so (length J) (suc (length J)) p few (omega (arith, few)) (parent-grown (root_keys T) gs grown_so p k granted) in
      let count = ap length (at ∙ enough) in
      omega (arith, count)

  module _ (idle : IsIdle (world_after T J)) where
    abbrev W : World
    W = world_after T J

    -- what a job marks is no less deep than its root
    below-step : (i j : ℕ) (x : JobRow) → job (side W i) j ≡ Some x → (k : KeyName) (c : Capability) → HoldsCap W i k c → c.mark ≡ Some j →
        ((up : HasMarkedParent J W i j k) → depth x.root ≤ depth up.parent) → depth x.root ≤ depth k
    below-step i j x open_so k c held marked rest = elim (marked-below T valid J runs i k c j x held marked open_so) [
      | inl same ↦ let equal = ap depth same in omega (arith, equal)
      | inr up ↦ let more = deeper up.parent k up.granted in let above = rest up in omega (arith, more, above)
    ]

    below-root : (n i j : ℕ) (x : JobRow) → job (side W i) j ≡ Some x → (k : KeyName) (c : Capability) → HoldsCap W i k c → c.mark ≡ Some j → depth k ≤ n →
        depth x.root ≤ depth k
    below-root zero i j x open_so k c held marked small = below-step i j x open_so k c held marked (λ up. let more = deeper up.parent k up.granted in
        absurd (omega (arith, more, small)))
    below-root (suc n) i j x open_so k c held marked small = below-step i j x open_so k c held marked (λ up. let more = deeper up.parent k up.granted in
        below-root n i j x open_so up.parent up.capability up.held up.marked (omega (arith, more, small)))

    -- so there is no job: below each there would be a deeper one
    job-step : (i j : ℕ) (x : JobRow) → job (side W i) j ≡ Some x → ((lower : HasJobBelow W i j) → depth x.root + 1 ≤ depth lower.below.root → ⊥) → ⊥
    job-step i j x open_so rest = elim (jobs-owed T valid J runs i j x open_so) [
      | inl stirs ↦ still W idle stirs
      | inr lower ↦
          let up = waited-below T valid J runs lower.kernel lower.id lower.below lower.open_below i j lower.names in
          let more = deeper up.parent lower.below.root up.granted in
          let under = below-root (depth up.parent) i j x open_so up.parent up.capability up.held up.marked (omega arith) in
          rest lower (omega (arith, more, under))
    ]

    no-job : (n i j : ℕ) (x : JobRow) → job (side W i) j ≡ Some x → length J + 3 ≤ depth x.root + n → ⊥
    no-job zero i j x open_so deep = let short = line-short (suc (length J)) gs x.root in omega (arith, short, deep)
    no-job (suc n) i j x open_so deep =
        job-step i j x open_so (λ lower step. no-job n lower.kernel lower.id lower.below lower.open_below (omega (arith, deep, step)))

    pub no-jobs : (i j : ℕ) → job (side W i) j ≡ None
    no-jobs i j = from (job (side W i) j) refl
      where
        from : (o : Option JobRow) → job (side W i) j ≡ o → o ≡ None
        from None at = refl
        from (Some x) at = absurd (no-job (length J + 3) i j x at (omega arith))

    pub no-marks : (i : ℕ) (k : KeyName) (c : Capability) → HoldsCap W i k c → c.mark ≡ None
    no-marks i k c held = from c.mark refl
      where
        from : (m : Option ℕ) → c.mark ≡ m → m ≡ None
        from None at = refl
        from (Some j) at = let open_so = marks-open T J i k c j held at in let none = no-jobs i j in absurd (cc (none, open_so.1))

    pub no-pendings : (i : ℕ) (k : KeyName) → pending (side W i) k ≡ None
    no-pendings i k = from (pending (side W i) k) refl
      where
        from : (o : Option Pending) → pending (side W i) k ≡ o → o ≡ None
        from None at = refl
        from (Some p) at = absurd (still W idle (pendings-owed T valid J runs i k p at))

    pub unparked-so : (i v : ℕ) → parked (side W i) v ≡ None
    unparked-so i v = from (parked (side W i) v) refl
      where
        resumes : (p : Option Parked) → parked (side W i) v ≡ p → can_resume p ≡ true → p ≡ None
        resumes p at can = absurd (still W idle (by_call i v (ap can_resume at ∙ can)))

        from : (p : Option Parked) → parked (side W i) v ≡ p → p ≡ None
        from None at = refl
        from (Some (ObtainWait number sel)) at = absurd (still W idle (exchanges-owed T valid J runs i v (ObtainWait number sel) at tt))
        from (Some (ObtainReady key parent object sel)) at = resumes (Some (ObtainReady key parent object sel)) at refl
        from (Some ObtainCancelled) at = resumes (Some ObtainCancelled) at refl
        from (Some (DelegateWait parent)) at = absurd (still W idle (exchanges-owed T valid J runs i v (DelegateWait parent) at tt))
        from (Some (DelegateReady parent key)) at = resumes (Some (DelegateReady parent key)) at refl
        from (Some (RevokeWait j)) at = let open_so = awaited-so T J i v j at in let none = no-jobs i j in absurd (cc (none, open_so.1))
        from (Some (Ready code)) at = resumes (Some (Ready code)) at refl

    pub waits-for-nothing : WaitsForNothing (world_after T J)
    waits-for-nothing = record { unparked = unparked-so; no_jobs = no-jobs; no_marks = no-marks; no_pendings = no-pendings }
