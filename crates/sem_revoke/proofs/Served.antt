-- What the layers say of those who wait.
use Rattle.std.proofs.Common.{◌≡◌, ◌⊎◌, ℕ, ◌≤◌, true, false, List, Option, Some, None, refl, ap, ◌∙◌, subst, inl, inr, arith}
use Rattle.std.specs.Prelude.{◌==◌}
use Rattle.std.specs.List.{Contains}
use Rattle.std.proofs.lemmas.Bool.{cases_order, eqb-true}
use Rattle.sem_key.specs.KeyName.{KeyName}
use Rattle.sem_msg.specs.declared.entry.Entry.{Entry}
use Rattle.sem_msg.specs.declared.state.Parked.{Parked}
use Rattle.sem_msg.specs.declared.state.Parked.TheVariants.{ObtainWait, ObtainReady, ObtainCancelled, DelegateWait, DelegateReady, RevokeWait, Ready}
use Rattle.sem_msg.specs.Rows.{JobRow}
use Rattle.sem_msg.specs.Setup.{Setup, IsSetup}
use Rattle.sem_msg.specs.Lookups.{owner_of}
use Rattle.sem_machine.specs.Sides.{Side, job, parked, is_alive}
use Rattle.sem_machine.specs.Machine.{side}
use Rattle.sem_machine.specs.Schedules.{IsSchedule, world_after}
use Rattle.sem_machine.specs.Journals.{grants}
use Rattle.sem_key.proofs.Members.{found, Contains-nil}
use Rattle.sem_safety.specs.History.{history}
use Rattle.sem_sound.proofs.Scheduling.{schedule-sound}
use Rattle.sem_revoke.specs.Revocation.{IsWaiting}
use Rattle.sem_revoke.proofs.Events.{Par, Made}
use Rattle.sem_revoke.proofs.Readying.{schedule-past}
use Rattle.sem_revoke.proofs.Linking.{live-alive}
use Rattle.sem_revoke.proofs.Waits.{Resting}
use Rattle.sem_revoke.proofs.Serving.{Waits, schedule-served, ends-dead}

module _ (T : Setup) (valid : IsSetup T) (J : List Entry) (runs : IsSchedule T J) where
  -- the states in which a call that waits is parked
  rest-state : (s : Side) (k r : KeyName) (v : ℕ) (p : Option Parked) → parked s v ≡ p → Resting None s k r v p →
      (is_alive s v ≡ false) ⊎ (((n : ℕ) × (parked s v ≡ Some (RevokeWait n))) ⊎ ((code : ℕ) × (parked s v ≡ Some (Ready code))))
  rest-state s k r v None at is = inl is
  rest-state s k r v (Some (ObtainWait number sel)) at is = absurd is
  rest-state s k r v (Some (ObtainReady key parent object sel)) at is = absurd is
  rest-state s k r v (Some ObtainCancelled) at is = absurd is
  rest-state s k r v (Some (DelegateWait parent)) at is = absurd is
  rest-state s k r v (Some (DelegateReady parent key)) at is = absurd is
  rest-state s k r v (Some (RevokeWait n)) at is = inr (inl (n, at))
  rest-state s k r v (Some (Ready code)) at is = inr (inr (code, at))

  is-waiting : (v : ℕ) (k r : KeyName) → Waits T J v k r → IsWaiting T J v k r
  is-waiting v k r w = record {
    key = w.key;
    home = w.home;
    rest = rest-state at-home k r v (parked at-home v) refl w.rest;
    marked = λ n c waits held.
        let served = (subst (Resting None at-home k r v) waits w.rest).1 (λ none. none) c held in (
          served.0,
          λ x open_. let there = found (λ (y : JobRow). y.id == n) at-home.jobs x open_ in served.1 x there.0 (eqb-true x.id n there.1),
        );
    ready = λ ready live. ends-dead T valid J runs v k r w (λ c held. (subst (Resting None at-home k r v) ready w.rest).1 c held)
        (live-alive T valid J runs (Par (grants J)) (Made T (grants J)) k live);
  }
    where
      at-home : Side
      at-home = side (world_after T J) (owner_of T r)

  pub revokers-wait : (v : ℕ) (ks : List KeyName) (k : KeyName) → Contains (history J).waiting (v, ks) → Contains ks k → (r : KeyName) × IsWaiting T J v k r
  revokers-wait v ks k among cuts = let w = (schedule-served T valid J runs).rest v ks k among cuts in (w.0, is-waiting v k w.0 w.1)

  pub keepers-waited_for : (i n : ℕ) (x : JobRow) → job (side (world_after T J) i) n ≡ Some x → x.keep ≡ true →
      parked (side (world_after T J) i) x.root.vpe ≡ Some (RevokeWait n)
  keepers-waited_for i n x open_ keeps = elim (cases_order i T.kernels) [
    | inl same ↦ past (omega (arith, same))
    | inr (inl below) ↦
        ((schedule-sound T valid J runs).sides i below).waiters x x.root.vpe there.0 (λ none. absurd cc)
        ((schedule-served T valid J runs).keepers i x there.0 keeps)
        ∙ ap (λ m. Some (RevokeWait m)) (eqb-true x.id n there.1)
    | inr (inr above) ↦ past (omega (arith, above))
  ]
    where
      there : Contains (side (world_after T J) i).jobs x × ((x.id == n) ≡ true)
      there = found (λ (y : JobRow). y.id == n) (side (world_after T J) i).jobs x open_

      past : T.kernels ≤ i → parked (side (world_after T J) i) x.root.vpe ≡ Some (RevokeWait n)
      past beyond = absurd (Contains-nil x (subst (λ (s : Side). Contains s.jobs x) (schedule-past T J runs i beyond) there.0))
