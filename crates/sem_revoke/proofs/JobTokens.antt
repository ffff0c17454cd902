-- An open job has a token out: a message on its way, or a job below it that names it.
use Rattle.std.proofs.Common.{◌≡◌, refl, ◌⊎◌, ℕ, zero, suc, ◌+◌, ◌≤◌, ◌<◌, true, ◌&&◌, List, [], ◌∷◌, ◌++◌, get_or, Option, Some, None, sym, ap, ◌∙◌, subst}
use Rattle.std.proofs.Common.{inl, inr, arith, eq-eqb}
use Rattle.std.specs.Prelude.{◌==◌, if◌then◌else◌}
use Rattle.std.specs.List.{Contains, sum_by}
use Rattle.std.proofs.lemmas.Bool.{cases_eq, cases_lt, cond-true, and_from, and_parts, eqb-true, true≢false}
use Rattle.std.proofs.lemmas.List.Elements.{Contains-append_left, Contains-append_right}
use Rattle.sem_key.proofs.Members.{Contains-head, found, not_found}
use Rattle.sem_msg.specs.declared.entry.Entry.{Entry}
use Rattle.sem_msg.specs.declared.message.Message.{Message}
use Rattle.sem_msg.specs.declared.state.Up.{Up}
use Rattle.sem_msg.specs.declared.state.Up.TheVariants.{Local, Remote}
use Rattle.sem_msg.specs.Rows.{JobRow}
use Rattle.sem_msg.specs.Setup.{Setup, IsSetup}
use Rattle.sem_machine.specs.Sides.{Side, no_side, job, outbox}
use Rattle.sem_machine.specs.Machine.{World, side, link}
use Rattle.sem_machine.specs.Living.{fetched_from, way}
use Rattle.sem_machine.specs.Schedules.{IsSchedule, world_after}
use Rattle.sem_machine.proofs.Weighing.{weigh-among}
use Rattle.sem_sound.proofs.Jobbing.{same-id}
use Rattle.sem_sound.proofs.Scheduling.{schedule-sound}
use Rattle.sem_revoke.specs.Resting.{IsStirring, Names, HasJobBelow}
use Rattle.sem_revoke.specs.Resting.IsStirring.{by_message}
use Rattle.sem_revoke.specs.Scales.{Scale, sum_from, of_messages, of_inbox, of_side, of_world, names, naming, counting}
use Rattle.sem_revoke.proofs.Alive.{some-in}
use Rattle.sem_revoke.proofs.Keeping.{cases_Option}
use Rattle.sem_revoke.proofs.Marking.{tokens-counted}
use Rattle.sem_revoke.proofs.Ordering.{jobs-part}
use Rattle.sem_revoke.proofs.Readying.{schedule-past}
use Rattle.sem_revoke.proofs.Viewing.{one-more}

-- Where a sum is more than 0, something weighs.

pub positive : (n : ℕ) → (n ≡ 0 → ⊥) → 1 ≤ n
positive zero never = absurd (never refl)
positive (suc n) never = omega arith

from-some : {X : Type 0} (f : ℕ → X → ℕ) (d : X) (n : ℕ) (xs : List X) → 1 ≤ sum_from f n xs → (i : ℕ) × (1 ≤ f (n + i) (get_or xs i d))
from-some f d n [] some = absurd (omega (arith, some))
from-some f d n (x ∷ xs) some = elim (cases_eq (f n x) 0) [
  | inl none ↦
      let rest = from-some f d (n + 1) xs (omega (arith, some, none)) in
      (suc rest.0, subst (λ m. 1 ≤ f m (get_or xs rest.0 d)) (omega arith) rest.1)
  | inr more ↦ (zero, subst (λ m. 1 ≤ f m x) (omega arith) (positive (f n x) more))
]

pub from-some0 : {X : Type 0} (f : ℕ → X → ℕ) (d : X) (xs : List X) → 1 ≤ sum_from f 0 xs → (i : ℕ) × (1 ≤ f i (get_or xs i d))
from-some0 f d xs some = let is = from-some f d 0 xs some in (is.0, subst (λ m. 1 ≤ f m (get_or xs is.0 d)) (omega arith) is.1)

module _ (S : Scale) (W : World) where
  -- a message on a way weighs
  abbrev pub HasMessage : Type 0
  HasMessage = (a b : ℕ) × (m : Message) × Contains (way W a b) m × (1 ≤ S.message a b m)

  -- or a job does
  abbrev pub HasWeight : Type 0
  HasWeight = HasMessage ⊎ ((i : ℕ) × (x : JobRow) × Contains (side W i).jobs x × (1 ≤ S.job i x))

  inbox-some : (i : ℕ) (o : Option (ℕ × Message)) → (side W i).inbox ≡ o → 1 ≤ of_inbox S i o → HasMessage
  inbox-some i None is some = absurd (omega (arith, some))
  inbox-some i (Some m) is some = (
    m.0,
    i,
    m.1,
    Contains-append_left (fetched_from m.0 (side W i).inbox ++ link W m.0 i) (outbox (side W m.0) i) m.1
        (Contains-append_left (fetched_from m.0 (side W i).inbox) (link W m.0 i) m.1
        (subst (λ ms. Contains ms m.1) (sym (ap (fetched_from m.0) is ∙ cond-true (m.0 == m.0) (m.1 ∷ []) [] (eq-eqb m.0 m.0 refl))) (Contains-head m.1 []))),
    some,
  )

  outs-some : (i : ℕ) → 1 ≤ sum_from (of_messages S i) 0 (side W i).outs → HasMessage
  outs-some i some =
      let j = from-some0 (of_messages S i) [] (side W i).outs some in
      let m = some-in (S.message i j.0) (outbox (side W i) j.0) j.1 in
      (i, j.0, m.0, Contains-append_right (fetched_from i (side W j.0).inbox ++ link W i j.0) (outbox (side W i) j.0) m.0 m.1, m.2)

  links-some : 1 ≤ sum_from (λ i ls. sum_from (of_messages S i) 0 ls) 0 W.links → HasMessage
  links-some some =
      let i = from-some0 (λ i ls. sum_from (of_messages S i) 0 ls) [] W.links some in
      let j = from-some0 (of_messages S i.0) [] (get_or W.links i.0 []) i.1 in
      let m = some-in (S.message i.0 j.0) (link W i.0 j.0) j.1 in (
        i.0,
        j.0,
        m.0,
        Contains-append_left (fetched_from i.0 (side W j.0).inbox ++ link W i.0 j.0) (outbox (side W i.0) j.0) m.0
            (Contains-append_right (fetched_from i.0 (side W j.0).inbox) (link W i.0 j.0) m.0 m.1),
        m.2,
      )

  side-some : (i : ℕ) → 1 ≤ of_side S i (side W i) → HasWeight
  side-some i some = elim (cases_eq (sum_by (S.job i) (side W i).jobs) 0) [
    | inr jobs ↦ let x = some-in (S.job i) (side W i).jobs (positive (sum_by (S.job i) (side W i).jobs) jobs) in inr (i, x.0, x.1, x.2)
    | inl no-jobs ↦ elim (cases_eq (of_inbox S i (side W i).inbox) 0) [
      | inr inbox ↦ inl (inbox-some i (side W i).inbox refl (positive (of_inbox S i (side W i).inbox) inbox))
      | inl no-inbox ↦ inl (outs-some i (omega (arith, some, no-jobs, no-inbox)))
    ]
  ]

  pub world-some : 1 ≤ of_world S W → HasWeight
  world-some some = elim (cases_eq (sum_from (of_side S) 0 W.sides) 0) [
    | inl none ↦ inl (links-some (omega (arith, some, none)))
    | inr more ↦ let i = from-some0 (of_side S) no_side W.sides (positive (sum_from (of_side S) 0 W.sides) more) in side-some i.0 i.1
  ]

-- an `up` that is job j of kernel i by the test names it
named-by : (up : Option Up) (i' i j : ℕ) → names i' up i j ≡ true → Names up i' i j
named-by None i' i j no' = absurd cc
named-by (Some (Local n)) i' i j pass = let parts = and_parts (i' == i) (n == j) pass in (eqb-true i' i parts.0, eqb-true n j parts.1)
named-by (Some (Remote kernel n)) i' i j pass = let parts = and_parts (kernel == i) (n == j) pass in (eqb-true kernel i parts.0, eqb-true n j parts.1)

module _ (T : Setup) (valid : IsSetup T) (J : List Entry) (runs : IsSchedule T J) where
  abbrev W : World
  W = world_after T J

  -- a kernel that has a job is one of the setup
  kernel-low : (i j : ℕ) (x : JobRow) → job (side W i) j ≡ Some x → i < T.kernels
  kernel-low i j x open_ = elim (cases_lt i T.kernels) [
    | inl low ↦ low
    | inr high ↦ let none : None ≡ Some x = sym (ap (λ (s : Side). job s j) (schedule-past T J runs i high)) ∙ open_ in absurd cc
  ]

  -- a job among those of a kernel is open under its id
  job-found : (i : ℕ) (y : JobRow) → Contains (side W i).jobs y → job (side W i) y.id ≡ Some y
  job-found i y among = elim (cases_Option (job (side W i) y.id)) [
    | inl (z, open_) ↦
        let there = found (λ (x : JobRow). x.id == y.id) (side W i).jobs z open_ in
        let sound = (schedule-sound T valid J runs).sides i (kernel-low i y.id z open_) in
        open_ ∙ ap Some (same-id (side W i).jobs sound.jobs_rise z y there.0 among (eqb-true z.id y.id there.1))
    | inr none ↦ absurd (true≢false (sym (eq-eqb y.id y.id refl) ∙ not_found (λ (x : JobRow). x.id == y.id) (side W i).jobs y none among))
  ]

  -- an open job has a token out
  pub job-owed : (i j : ℕ) (x : JobRow) → job (side W i) j ≡ Some x → 1 ≤ of_world (naming i j) W
  job-owed i j x open_ =
      let there = found (λ (y : JobRow). y.id == j) (side W i).jobs x open_ in
      let sound = (schedule-sound T valid J runs).sides i (kernel-low i j x open_) in
      let some : 0 < x.count = elim (sound.counted x there.0 (λ no'. absurd cc)) [ inl is ↦ is | inr no' ↦ absurd cc ] in
      let weight : (if (i == i) && (x.id == j) then x.count else 0) ≡ x.count =
      cond-true ((i == i) && (x.id == j)) x.count 0 (and_from (i == i) (x.id == j) (eq-eqb i i refl) there.1) in
      let among = weigh-among ((counting i j).job i) (side W i).jobs x there.0 in
      let part = jobs-part (counting i j) W i in
      let same = tokens-counted T valid J runs i j in
      omega (arith, some, weight, among, part, same)

  -- so something is on its way, or a job below it is open
  pub jobs-owed : (i j : ℕ) (x : JobRow) → job (side W i) j ≡ Some x → IsStirring W ⊎ HasJobBelow W i j
  jobs-owed i j x open_ = elim (world-some (naming i j) W (job-owed i j x open_)) [
    | inl (a, b, m, among, some) ↦ inl (by_message m (a, b, among))
    | inr (i', y, among, some) ↦ inr (record {
      kernel = i';
      id = y.id;
      below = y;
      open_below = job-found i' y among;
      names = named-by y.up i' i j (one-more (names i' y.up i j) some);
    })
  ]
