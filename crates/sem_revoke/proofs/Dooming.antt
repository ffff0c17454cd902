-- What is marked is doomed, but for a root that is kept; what a kernel asks another to revoke is doomed.
use Rattle.sem_safety.proofs.GoingOn.{entry-enabled}
use Rattle.std.proofs.Common.{◌≡◌, ◌⊎◌, ℕ, ◌≤◌, zero, suc, ◌<◌, true, List, [], ◌&&◌, Some, append-nil, refl, sym, ap, ◌∙◌, subst, inl, inr, arith, eq-eqb}
use Rattle.std.proofs.Common.{◌++◌, ◌∷◌}
use Rattle.std.specs.Prelude.{◌==◌}
use Rattle.std.proofs.lemmas.Bool.{cases_Bool, and_from}
use Rattle.sem_key.specs.KeyName.{KeyName, key_eq}
use Rattle.sem_key.specs.Capability.{Capability}
use Rattle.sem_key.proofs.KeyTests.{key_eq-same}
use Rattle.sem_msg.specs.declared.entry.Entry.{Entry}
use Rattle.sem_msg.specs.declared.message.Message.TheVariants.{RevokeReq}
use Rattle.sem_msg.specs.Rows.{JobRow}
use Rattle.sem_msg.specs.Setup.{Setup, IsSetup}
use Rattle.sem_msg.specs.Lookups.{owner_of}
use Rattle.sem_machine.specs.Sides.{cap, job}
use Rattle.sem_machine.specs.Machine.{World, side, start}
use Rattle.sem_machine.specs.Schedules.{IsSchedule, world_after}
use Rattle.sem_machine.specs.Journals.{grants}
use Rattle.sem_machine.specs.Living.{HoldsCap, InFlight}
use Rattle.sem_safety.proofs.OneLife.{all-grown}
use Rattle.sem_revoke.specs.Revocation.{IsDoomed}
use Rattle.sem_revoke.specs.Scales.{requesting}
use Rattle.sem_revoke.specs.Views.{Marked, Under}
use Rattle.sem_revoke.proofs.Events.{Par, Made, ranked, Ranks}
use Rattle.sem_revoke.proofs.Lasting.{Caused, all-caused, lower-all, grants-on}
use Rattle.sem_revoke.proofs.Linking.{holds, way-weighs}
use Rattle.sem_revoke.proofs.Readying.{schedule-homes}
use Rattle.sem_revoke.proofs.Viewing.{one-true}
use Rattle.sem_revoke.proofs.Worlds.{whole}

-- a beginning of a schedule is one
pub beginning : (T : Setup) (before later : List Entry) → IsSchedule T (before ++ later) → IsSchedule T before
beginning T before [] runs = subst (IsSchedule T) (append-nil before) runs
beginning T before (e ∷ later) runs = (entry-enabled T before (start T) e later runs).0

-- At a beginning of the journal, by what is doomed at its end.
module _ (T : Setup) (valid : IsSetup T) (J : List Entry) (runs : IsSchedule T J) (before later : List Entry) (parts : J ≡ before ++ later) where
  abbrev W : World
  W = world_after T before

  begun : IsSchedule T before
  begun = beginning T before later (subst (IsSchedule T) parts runs)

  abbrev IsMarkedBy : KeyName → ℕ → Type 0
  IsMarkedBy k n = Marked (owner_of T) (Par (grants before)) (Made T (grants before)) (whole T W) k n

  abbrev IsUnder : KeyName → ℕ → ℕ → Type 0
  IsUnder k a b = Under (owner_of T) (Par (grants before)) (Made T (grants before)) (whole T W) k a b

  ranks : Ranks (grants before)
  ranks = ranked T (grants before) (all-grown T valid before begun)

  abbrev rank : KeyName → ℕ
  rank = ranks.0

  older : (p k : KeyName) → Par (grants before) p k → rank p < rank k
  older = ranks.1

  caused : Caused T valid J runs before
  caused = all-caused T valid J runs before later parts

  -- a child of what is marked is doomed
  below-mark : (m : ℕ) (p k : KeyName) (n : ℕ) → rank p ≤ m → IsMarkedBy p n → Par (grants before) p k → IsDoomed J k
  below-mark zero p k n few marked granted =
      let x = (holds T valid before begun).marks p n marked in
      elim x.2 [
        | inl root ↦ (caused (owner_of T p) n x.0 x.1).1 k (subst (λ q. Par (grants before) q k) (sym root) granted)
        | inr (q, above, at, marked') ↦ let less = older q p above in absurd (omega (arith, few, less))
      ]
  below-mark (suc m) p k n few marked granted =
      let x = (holds T valid before begun).marks p n marked in
      elim x.2 [
        | inl root ↦ (caused (owner_of T p) n x.0 x.1).1 k (subst (λ q. Par (grants before) q k) (sym root) granted)
        | inr (q, above, at, marked') ↦ lower-all T valid J runs p k (grants-on T valid J runs before later parts p k granted)
            (below-mark m q p n (let less = older q p above in omega (arith, few, less)) marked' above)
      ]

  under-doomed : (k : KeyName) (a b : ℕ) → IsUnder k a b → IsDoomed J k
  under-doomed k a b (p, granted, at, marked) = below-mark (rank p) p k b (omega arith) marked granted

  pub marked-doomed : (i n : ℕ) (k : KeyName) (c : Capability) → HoldsCap W i k c → c.mark ≡ Some n →
      IsDoomed J k ⊎ ((x : JobRow) × (job (side W i) n ≡ Some x) × (x.root ≡ k) × (x.keep ≡ true))
  marked-doomed i n k c held marked =
      let home : owner_of T k ≡ i = schedule-homes T valid before begun i k c held in
      let x = (holds T valid before begun).marks k n (c, ap (λ a. cap (side W a) k) home ∙ held, marked) in
      elim x.2 [
        | inl root ↦ elim (cases_Bool x.0.keep) [
          | inl keeps ↦ inr (x.0, ap (λ a. job (side W a) n) (sym home) ∙ x.1, root, keeps)
          | inr leaves ↦ inl (subst (IsDoomed J) root ((caused (owner_of T k) n x.0 x.1).0 leaves))
        ]
        | inr under ↦ inl (under-doomed k (owner_of T k) n under)
      ]

  pub asked-doomed : (k : KeyName) (j : ℕ) → InFlight W (RevokeReq k j) → IsDoomed J k
  asked-doomed k j (a, b, among) =
      let weighs = way-weighs T valid before begun (requesting k a j) a b (RevokeReq k j) among in
      let one = one-true ((key_eq k k) && ((a == a) && (j == j)))
      (and_from (key_eq k k) ((a == a) && (j == j)) (key_eq-same k) (and_from (a == a) (j == j) (eq-eqb a a refl) (eq-eqb j j refl))) in
      under-doomed k a j ((holds T valid before begun).asking k a j (omega (arith, weighs, one)))

pub mark-doomed : (T : Setup) → IsSetup T → (J : List Entry) → IsSchedule T J → (i n : ℕ) (k : KeyName) (c : Capability) → HoldsCap (world_after T J) i k c →
    c.mark ≡ Some n
    → IsDoomed J k ⊎ ((x : JobRow) × (job (side (world_after T J) i) n ≡ Some x) × (x.root ≡ k) × (x.keep ≡ true))
mark-doomed T valid J runs = marked-doomed T valid J runs J [] (sym (append-nil J))

pub request-doomed : (T : Setup) → IsSetup T → (J : List Entry) → IsSchedule T J → (k : KeyName) (j : ℕ) → InFlight (world_after T J) (RevokeReq k j) →
    IsDoomed J k
request-doomed T valid J runs = asked-doomed T valid J runs J [] (sym (append-nil J))
