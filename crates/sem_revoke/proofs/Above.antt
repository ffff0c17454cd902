-- Above each job for which another one waits, and above each mark but that of a root, there is a mark of the same job: facts of idle worlds.
use Rattle.std.proofs.Common.{◌≡◌, ◌⊎◌, ℕ, true, ◌&&◌, List, Option, Some, None, sym, ap, ◌∙◌, subst, inl, inr, arith, eq-eqb}
use Rattle.std.specs.Prelude.{◌==◌}
use Rattle.std.proofs.lemmas.Bool.{and_from}
use Rattle.std.proofs.lemmas.Option.{same_Some}
use Rattle.sem_key.specs.KeyName.{KeyName, key_eq}
use Rattle.sem_key.specs.Capability.{Capability}
use Rattle.sem_key.proofs.KeyTests.{key_eq-same}
use Rattle.sem_key.proofs.Members.{found}
use Rattle.sem_msg.specs.declared.entry.Entry.{Entry}
use Rattle.sem_msg.specs.declared.state.Up.{Up}
use Rattle.sem_msg.specs.declared.state.Up.TheVariants.{Local, Remote}
use Rattle.sem_msg.specs.Rows.{JobRow}
use Rattle.sem_msg.specs.Setup.{Setup, IsSetup}
use Rattle.sem_msg.specs.Lookups.{owner_of}
use Rattle.sem_machine.specs.Sides.{cap, job}
use Rattle.sem_machine.specs.Machine.{World, side}
use Rattle.sem_machine.specs.Schedules.{IsSchedule, world_after}
use Rattle.sem_machine.specs.Journals.{grants}
use Rattle.sem_machine.specs.Living.{HoldsCap}
use Rattle.sem_machine.proofs.Weighing.{weigh-among}
use Rattle.sem_revoke.specs.Resting.{Names, HasMarkedParent}
use Rattle.sem_revoke.specs.Scales.{names, requesting}
use Rattle.sem_revoke.specs.Views.{Under}
use Rattle.sem_revoke.proofs.Events.{Par, Made}
use Rattle.sem_revoke.proofs.Linking.{holds}
use Rattle.sem_revoke.proofs.Ordering.{jobs-part}
use Rattle.sem_revoke.proofs.Readying.{schedule-homes}
use Rattle.sem_revoke.proofs.Viewing.{one-true}
use Rattle.sem_revoke.proofs.Worlds.{whole}

-- an `up` that names a job is one by the test
named : (up : Option Up) (i' i j : ℕ) → Names up i' i j → names i' up i j ≡ true
named None i' i j no' = absurd no'
named (Some (Local n)) i' i j (same, id) = and_from (i' == i) (n == j) (eq-eqb i' i same) (eq-eqb n j id)
named (Some (Remote kernel n)) i' i j (same, id) = and_from (kernel == i) (n == j) (eq-eqb kernel i same) (eq-eqb n j id)

module _ (T : Setup) (valid : IsSetup T) (J : List Entry) (runs : IsSchedule T J) where
  abbrev W : World
  W = world_after T J

  under-parent : (k : KeyName) (a b : ℕ) → Under (owner_of T) (Par (grants J)) (Made T (grants J)) (whole T W) k a b → HasMarkedParent J W a b k
  under-parent k a b (p, granted, at, (c, held, marked)) = record {
    parent = p;
    granted = granted;
    capability = c;
    held = ap (λ n. cap (side W n) p) (sym at)
        ∙ held;
    marked = marked;
  }

  pub waited-below : (i' n : ℕ) (y : JobRow) → job (side W i') n ≡ Some y → (i j : ℕ) → Names y.up i' i j → HasMarkedParent J W i j y.root
  waited-below i' n y open_ i j named_so =
      let there = found (λ (x : JobRow). x.id == n) (side W i').jobs y open_ in
      let one = one-true (key_eq y.root y.root && names i' y.up i j) (and_from (key_eq y.root y.root) (names i' y.up i j) (key_eq-same y.root)
      (named y.up i' i j named_so)) in
      let among = weigh-among ((requesting y.root i j).job i') (side W i').jobs y there.0 in
      let part = jobs-part (requesting y.root i j) W i' in
      under-parent y.root i j ((holds T valid J runs).asking y.root i j (omega (arith, one, among, part)))

  pub marked-below : (i : ℕ) (k : KeyName) (c : Capability) (j : ℕ) (x : JobRow) → HoldsCap W i k c → c.mark ≡ Some j → job (side W i) j ≡ Some x →
      (k ≡ x.root) ⊎ HasMarkedParent J W i j k
  marked-below i k c j x held marked open_ =
      let home : owner_of T k ≡ i = schedule-homes T valid J runs i k c held in
      let y = (holds T valid J runs).marks k j (c, ap (λ a. cap (side W a) k) home ∙ held, marked) in
      let same : y.0 ≡ x = same_Some y.0 x (sym y.1 ∙ (ap (λ a. job (side W a) j) home ∙ open_)) in
      elim y.2 [
        | inl root ↦ inl (sym root ∙ ap (λ (z : JobRow). z.root) same)
        | inr under ↦ inr (under-parent k i j (subst (λ a. Under (owner_of T) (Par (grants J)) (Made T (grants J)) (whole T W) k a j) home under))
      ]
