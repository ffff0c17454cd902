-- After every schedule a held capability has the parent that its grant tells.
use Rattle.std.proofs.Common.{◌≡◌, ◌⊎◌, ℕ, ◌≤◌, true, List, [], ◌∷◌, ◌++◌, Option, Some, None, map, append-nil, append_assoc, refl, sym, ap, ◌∙◌, subst, inl}
use Rattle.std.proofs.Common.{inr, arith}
use Rattle.std.specs.List.{Contains, sum_by, All}
use Rattle.std.specs.Prelude.{IsSome}
use Rattle.std.proofs.lemmas.Bool.{cases_eq, true≢false}
use Rattle.std.proofs.lemmas.List.Elements.{Contains-append_left, Contains-append_right, filter_map-append, All-contains, All-nil, Contains-push_cases}
use Rattle.sem_key.specs.KeyName.{KeyName, key_eq}
use Rattle.sem_key.specs.Capability.{Capability}
use Rattle.sem_key.specs.declared.object.Object.{Object}
use Rattle.sem_key.proofs.KeyTests.{key_eq-true, key_eq-same}
use Rattle.sem_key.proofs.Members.{Contains-head, Contains-nil, found, not_found}
use Rattle.sem_msg.specs.declared.entry.Entry.{Entry}
use Rattle.sem_msg.specs.declared.event.Act.{Act}
use Rattle.sem_msg.specs.declared.event.Act.TheVariants.{Call as Calls, Fetch, Handle, Upcall, Resume, Flush, Kill}
use Rattle.sem_msg.specs.declared.message.Message.TheVariants.{Ack}
use Rattle.sem_msg.specs.declared.state.Parked.TheVariants.{ObtainReady}
use Rattle.sem_msg.specs.Rows.{JobRow}
use Rattle.sem_msg.specs.Setup.{Setup, IsSetup}
use Rattle.sem_machine.specs.Sides.{Side, cap, parked}
use Rattle.sem_machine.specs.Machine.{World, side, start, local_entry, entry_of, input_of, local_step, after, event, is_enabled}
use Rattle.sem_machine.specs.Schedules.{IsRun, IsSchedule, world_after}
use Rattle.sem_machine.specs.Journals.{grants, root_keys}
use Rattle.sem_machine.specs.Living.{HoldsCap}
use Rattle.sem_machine.proofs.Weighing.{weigh-none}
use Rattle.sem_safety.specs.Growth.{IsGrown}
use Rattle.sem_safety.specs.Growth.IsGrown.{no_grants, granted_next}
use Rattle.sem_safety.proofs.CarryingWorlds.{stepped, among-grants, used-made}
use Rattle.sem_safety.proofs.Drawers.{side-after}
use Rattle.sem_safety.proofs.GoingOn.{entry-enabled, run-append}
use Rattle.sem_safety.proofs.OneLife.{all-grown}
use Rattle.sem_revoke.specs.Scales.{of_world}
use Rattle.sem_revoke.proofs.AckedParents.{acked-parent}
use Rattle.sem_revoke.proofs.Events.{one-parent}
use Rattle.sem_revoke.proofs.ExchangeWorlds.{start-unparked, side-elsewhere}
use Rattle.sem_revoke.proofs.Moving.{Moves, moved-sum}
use Rattle.sem_revoke.proofs.Ordering.{side-part}
use Rattle.sem_revoke.proofs.Parenting.{IsRight, Parented, giving, step-parented}
use Rattle.sem_revoke.proofs.PendingOwed
use Rattle.sem_revoke.proofs.PendingOwed.{in-way}
use Rattle.sem_msg.specs.ParkedStates.{state_of}
use Rattle.sem_revoke.proofs.Revoking.{world-none, start-each}
use Rattle.sem_safety.proofs.FirstCaps.{IsFirst, first-bare}

-- no entry is a schedule
no-entries : (T : Setup) → IsSchedule T []
unfolding IsRun
no-entries T = tt

module _ (T : Setup) (valid : IsSetup T) where
  abbrev G : List Entry → KeyName → KeyName → Type 0
  G K p k = Contains (grants K) (p, k)

  abbrev R : KeyName → Type 0
  R k = Contains (root_keys T) k

  pub record AllParented (K : List Entry) : Type 0 where
    pub caps : (i : ℕ) (c : Capability) → Contains (side (world_after T K) i).caps c → IsRight T i (G K) R c.parent c.key
    pub calls : (i w : ℕ) (k p : KeyName) (o : Object) (sel : ℕ) → parked (side (world_after T K) i) w ≡ Some (ObtainReady k p o sel) → G K p k
    pub gives : (p k : KeyName) → 1 ≤ of_world (giving p k) (world_after T K) → G K p k

  no-jobs : (xs : List JobRow) → sum_by (λ (x : JobRow). 0) xs ≡ 0
  no-jobs xs = weigh-none (λ (x : JobRow). 0) xs (λ x among. refl)

  module _ (J : List Entry) (runs : IsSchedule T J) (before : List Entry) (e : Entry) (later : List Entry) (parts : J ≡ before ++ e ∷ later)
      (I : AllParented before) where
    abbrev W : World
    W = world_after T before

    abbrev now' : List Entry
    now' = before ++ e ∷ []

    abbrev V : World
    V = world_after T now'

    abbrev i : ℕ
    i = e.event.kernel

    abbrev s : Side
    s = side W i

    abbrev t : Side
    t = (stepped T W e.event).side

    entry : IsSchedule T before × (is_enabled T W e.event ≡ true) × (e ≡ entry_of T W e.event)
    entry = entry-enabled T before (start T) e later (subst (IsSchedule T) parts runs)

    entry-grant : ◌≡◌ {A = Option (KeyName × KeyName)} e.grant (stepped T W e.event).outcome.grant
    unfolding entry_of local_entry
    entry-grant = ap (λ (x : Entry). x.grant) entry.2

    world-is : V ≡ after T W e.event
    world-is = run-append T before (e ∷ []) (start T)

    more : (p k : KeyName) → G before p k → G now' p k
    more p k among = subst (λ gs. Contains gs (p, k)) (sym (filter_map-append (λ (x : Entry). x.grant) before (e ∷ [])))
        (Contains-append_left (grants before) (grants (e ∷ [])) (p, k) among)

    right-more : (o : Option KeyName) (k : KeyName) → IsRight T i (G before) R o k → IsRight T i (G now') R o k
    right-more None k is = is
    right-more (Some p) k is = more p k is

    -- the side before the step, by the grants after it
    side-parented : Parented T i (G now') R s
    side-parented = record {
      caps = λ c among. right-more c.parent c.key (I.caps i c among);
      calls = λ w k p o sel there. more p k (I.calls i w k p o sel there);
      gives = λ p k some. let part = side-part (giving p k) W i in more p k (I.gives p k (omega (arith, some, part)));
    }

    moves-or : (a : Act) → Moves a ⊎ (Moves a → ⊥)
    moves-or (Calls w) = inr (λ no'. no')
    moves-or (Upcall w) = inr (λ no'. no')
    moves-or (Resume w) = inr (λ no'. no')
    moves-or (Kill w) = inr (λ no'. no')
    moves-or Handle = inr (λ no'. no')
    moves-or (Fetch j) = inl tt
    moves-or (Flush j) = inl tt

    moved-same : (a : Act) → Moves a → ((stepped T W (event i a)).side.caps ≡ s.caps) × ((stepped T W (event i a)).side.parks ≡ s.parks)
    unfolding local_step
    moved-same (Fetch j) moves = (refl, refl)
    moved-same (Flush j) moves = (refl, refl)
    moved-same (Calls w) moves = absurd moves
    moved-same (Upcall w) moves = absurd moves
    moved-same (Resume w) moves = absurd moves
    moved-same (Kill w) moves = absurd moves
    moved-same Handle moves = absurd moves

    stepped-parented : (Moves e.event.act → ⊥) → Parented T i (G now') R t
    stepped-parented still = step-parented T i (G now') R s e.event.act (input_of W i e.event.act) still side-parented
        (λ from key p full there. more p.parent key
        (acked-parent key T valid before entry.0 i from i p there
        (in-way T valid key J runs before e later parts (λ j q pend. PendingOwed.all-pend T valid key before entry.0 j q pend) from (Ack key true) full)))
        (λ p k some. among-grants now' e (p, k) (Contains-append_right before (e ∷ []) e (Contains-head e [])) (entry-grant ∙ some))

    at-i : side V i ≡ t
    at-i = ap (λ (X : World). side X i) world-is ∙ side-after T W e.event

    not-at : (j : ℕ) → (j ≡ i → ⊥) → side V j ≡ side W j
    not-at j away = ap (λ (X : World). side X j) world-is ∙ side-elsewhere T W i e.event.act j away

    caps-now : (c : Capability) → Contains t.caps c → IsRight T i (G now') R c.parent c.key
    caps-now c among = elim (moves-or e.event.act) [
      | inl moves ↦ side-parented.caps c (subst (λ cs. Contains cs c) (moved-same e.event.act moves).0 among)
      | inr still ↦ (stepped-parented still).caps c among
    ]

    calls-now : (w : ℕ) (k p : KeyName) (o : Object) (sel : ℕ) → parked t w ≡ Some (ObtainReady k p o sel) → G now' p k
    calls-now w k p o sel there = elim (moves-or e.event.act) [
      | inl moves ↦ side-parented.calls w k p o sel (ap (λ ps. state_of ps w) (sym (moved-same e.event.act moves).1) ∙ there)
      | inr still ↦ (stepped-parented still).calls w k p o sel there
    ]

    pub next-parented : AllParented now'
    next-parented = record {
      caps = λ j c among. elim (cases_eq j i) [
        | inl same ↦ caps-now c (subst (λ (x : Side). Contains x.caps c) (ap (side V) same ∙ at-i) among)
        | inr away ↦ right-more c.parent c.key (I.caps j c (subst (λ (x : Side). Contains x.caps c) (not-at j away) among))
      ];
      calls = λ j w k p o sel there. elim (cases_eq j i) [
        | inl same ↦ calls-now w k p o sel (ap (λ (x : Side). parked x w) (sym (ap (side V) same ∙ at-i)) ∙ there)
        | inr away ↦ more p k (I.calls j w k p o sel (ap (λ (x : Side). parked x w) (sym (not-at j away)) ∙ there))
      ];
      gives = λ p k some. elim (moved-sum (giving p k) T W i e.event.act entry.1) [
        | inr (moves, same) ↦ (let is = ap (of_world (giving p k)) world-is in more p k (I.gives p k (omega (arith, some, same, is))))
        | inl (still, acted) ↦ elim (cases_eq (of_world (giving p k) W) 0) [
          | inr was ↦ more p k (I.gives p k (omega (arith, was)))
          | inl none ↦
              let is = ap (of_world (giving p k)) world-is in
              let part = side-part (giving p k) W i in
              let one = no-jobs t.jobs in
              (stepped-parented still).gives p k (omega (arith, some, acted, is, none, part, one))
        ]
      ];
    }

  pub all-parented : (J : List Entry) → IsSchedule T J → AllParented J
  all-parented J runs = from [] J refl start-parented
    where
      -- what is held at the start is a root
      first : (i : ℕ) (c : Capability) → Contains (side (start T) i).caps c → c.parent ≡ None → IsRight T i (G []) R c.parent c.key
      first i c among none =
          subst (λ o. IsRight T i (G []) R o c.key) (sym none)
          (subst (λ ks. Contains ks c.key) (append-nil (root_keys T))
          (used-made T [] (no-entries T) c.key (inl (inl (i, some (cap (side (start T) i) c.key) refl)))))
        where
          some : (o : Option Capability) → cap (side (start T) i) c.key ≡ o → IsSome (cap (side (start T) i) c.key)
          some (Some d) is = subst IsSome (sym is) refl
          some None is = absurd (true≢false (sym (key_eq-same c.key) ∙ not_found (λ (x : Capability). key_eq x.key c.key) (side (start T) i).caps c is among))

      start-parented : AllParented []
      start-parented = record {
        caps = λ i c among. first i c among
            (All-contains IsFirst (side (start T) i).caps c (start-each T (λ (x : Side). All IsFirst x.caps) (All-nil IsFirst) (λ n. first-bare T n) i)
            among).parentless;
        calls = λ i w k p o sel there. let none : None ≡ Some (ObtainReady k p o sel) = sym (start-unparked T i w) ∙ there in absurd cc;
        gives = λ p k some. let none = world-none T (giving p k) in absurd (omega (arith, none, some));
      }

      from : (before later : List Entry) → J ≡ before ++ later → AllParented before → AllParented J
      from before [] parts is = subst AllParented (sym (parts ∙ append-nil before)) is
      from before (e ∷ later) parts is = from (before ++ e ∷ []) later (parts
          ∙ sym (append_assoc before (e ∷ []) later)) (next-parented J runs before e later parts is)

-- no root is the child of a grant
root-apart : (roots : List KeyName) (gs : List (KeyName × KeyName)) → IsGrown roots gs → (k : KeyName) → Contains roots k → (p : KeyName) → Contains gs (p, k) →
    ⊥
root-apart roots _ no_grants k root p among = absurd (Contains-nil (p, k) among)
root-apart roots _ (granted_next gs q c grown' above new) k root p among = elim (Contains-push_cases gs (q, c) (p, k) among) [
  | inl before ↦ root-apart roots gs grown' k root p before
  | inr same ↦ new (Contains-append_left roots (map (λ (g : KeyName × KeyName). g.1) gs) c
      (subst (Contains roots) (sym (ap (λ (g : KeyName × KeyName). g.1) same)) root))
]

-- a held capability has the parent of its grant
pub parent-held : (T : Setup) → IsSetup T → (J : List Entry) → IsSchedule T J → (i : ℕ) (p k : KeyName) (c : Capability) → HoldsCap (world_after T J) i k c →
    Contains (grants J) (p, k) → c.parent ≡ Some p
parent-held T valid J runs i p k c held granted =
    let there = found (λ (x : Capability). key_eq x.key k) (side (world_after T J) i).caps c held in
    let key : c.key ≡ k = key_eq-true c.key k there.1 in
    by c.parent refl (subst (IsRight T i (G T valid J) (R T valid) c.parent) key ((all-parented T valid J runs).caps i c there.0))
  where
    by : (o : Option KeyName) → c.parent ≡ o → IsRight T i (G T valid J) (R T valid) o k → c.parent ≡ Some p
    by None none root = absurd (root-apart (root_keys T) (grants J) (all-grown T valid J runs) k root p granted)
    by (Some q) some is = some ∙ ap Some (one-parent T (grants J) (all-grown T valid J runs) q p k is granted)
