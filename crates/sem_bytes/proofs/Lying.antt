-- An access that lies in the object of a key lies in the objects of all that are above it.
use Rattle.std.proofs.Common.{◌≡◌, ℕ, zero, suc, ◌+◌, ◌≤◌, true, List, [], ◌∷◌, ◌++◌, length, take, refl, sym, ◌∙◌, ap, subst, inl, inr, arith, cond, IsSome}
use Rattle.std.proofs.Common.{◌⊎◌}
use Rattle.std.specs.List.{Contains}
use Rattle.std.specs.Prelude.{◌==◌, nat_le, ◌&&◌, bit_and}
use Rattle.std.proofs.lemmas.Bool.{and_parts, and_from, or_cases, or_left, or_right, leb-true, le-leb, eqb-true, eq-eqb}
use Rattle.std.proofs.lemmas.Nat.{and_assoc}
use Rattle.sem_key.specs.declared.object.Object.{Object}
use Rattle.sem_key.specs.declared.object.Object.TheVariants.{Mem, Recv, Send, Serv, Sess}
use Rattle.sem_key.specs.KeyName.{KeyName}
use Rattle.sem_key.specs.ObjectRanges.{range_within, is_subset, narrows}
use Rattle.sem_key.proofs.Members.{Contains-nil, Contains-cons_cases}
use Rattle.sem_msg.specs.declared.entry.Entry.{Entry}
use Rattle.sem_msg.specs.Setup.{Setup, IsSetup}
use Rattle.sem_machine.specs.Machine.{World, side, start}
use Rattle.sem_machine.specs.Schedules.{IsSchedule, world_after}
use Rattle.sem_machine.specs.Journals.{grants, root_keys, ancestry_in}
use Rattle.sem_machine.specs.Living.{HoldsCap, IsLive, as_held}
use Rattle.sem_machine.specs.Safety.{IsInUse, IsLineage, IsSafe, IsNarrowed, IsSoundBinding, narrowing}
use Rattle.sem_safety.proofs.GoingOn.{entry-enabled}
use Rattle.sem_revoke.proofs.Safe.{all-safe}
use Rattle.sem_access.specs.declared.access.Access.{Access}
use Rattle.sem_access.specs.Accesses.{base_of, accesses}
use Rattle.sem_bytes.specs.Owning.{right_of, LiesIn, LiesInHeld, IsOwned}
use Rattle.sem_access.proofs.Placing.{StandsIn, stands, before-is}
use Rattle.sem_access.proofs.Passing.{Passes, GoesThrough, entry-through}

-- Ranges in ranges.

abbrev Inside : ℕ → ℕ → ℕ → ℕ → Type 0
Inside base len outer size = (outer ≤ base) × (base + len ≤ outer + size)

within-cases : (base len outer size : ℕ) → range_within base len outer size ≡ true → (len ≡ 0) ⊎ Inside base len outer size
within-cases base len outer size test = elim (or_cases (len == 0) (nat_le outer base && nat_le (base + len) (outer + size)) test) [
  | inl none ↦ inl (eqb-true len 0 none)
  | inr both ↦
      let parts = and_parts (nat_le outer base) (nat_le (base + len) (outer + size)) both in
      inr (leb-true outer base parts.0, leb-true (base + len) (outer + size) parts.1)
]

empty-within : (base len outer size : ℕ) → len ≡ 0 → range_within base len outer size ≡ true
empty-within base len outer size none = or_left (len == 0) (nat_le outer base && nat_le (base + len) (outer + size)) (eq-eqb len 0 none)

inside-within : (base len outer size : ℕ) → Inside base len outer size → range_within base len outer size ≡ true
inside-within base len outer size inside = or_right (len == 0) (nat_le outer base && nat_le (base + len) (outer + size))
    (and_from (nat_le outer base) (nat_le (base + len) (outer + size)) (le-leb outer base inside.0) (le-leb (base + len) (outer + size) inside.1))

within-trans : (base len mid many outer size : ℕ) → range_within base len mid many ≡ true → range_within mid many outer size ≡ true →
    range_within base len outer size ≡ true
within-trans base len mid many outer size one two = elim (within-cases base len mid many one) [
  | inl none ↦ empty-within base len outer size none
  | inr inner ↦ elim (within-cases mid many outer size two) [
    | inl none ↦ empty-within base len outer size (omega (arith, inner.0, inner.1, none))
    | inr middle ↦ inside-within base len outer size (omega (arith, inner.0, middle.0), omega (arith, inner.1, middle.1))
  ]
]

-- rights among rights
subset-trans : (a b c : ℕ) → is_subset a b ≡ true → is_subset b c ≡ true → is_subset a c ≡ true
subset-trans a b c one two =
    let first : bit_and a b ≡ a = eqb-true (bit_and a b) a one in
    let second : bit_and b c ≡ b = eqb-true (bit_and b c) b two in
    eq-eqb (bit_and a c) a (ap (λ n. bit_and n c) (sym first) ∙ (and_assoc c a b ∙ (ap (bit_and a) second ∙ first)))

-- the parent's object has what the child's object has
above-lies : (x : Access) (child above : Object) (p : KeyName) → narrows child p above ≡ true → LiesIn x child → LiesIn x above
above-lies x (Mem base len rights) (Mem base' len' rights') p narrow lies =
    let parts = and_parts (range_within base len base' len') (is_subset rights rights') narrow in
    (within-trans x.base x.len base len base' len' lies.0 parts.0, subset-trans (right_of x) rights rights' lies.1 parts.1)
above-lies x (Mem base len rights) (Recv slots) p narrow lies = absurd (cc)
above-lies x (Mem base len rights) (Send gate label credits) p narrow lies = absurd (cc)
above-lies x (Mem base len rights) (Serv name) p narrow lies = absurd (cc)
above-lies x (Mem base len rights) (Sess service ident) p narrow lies = absurd (cc)
above-lies x (Recv slots) above p narrow lies = absurd lies
above-lies x (Send gate label credits) above p narrow lies = absurd lies
above-lies x (Serv name) above p narrow lies = absurd lies
above-lies x (Sess service ident) above p narrow lies = absurd lies

-- Along a line.
module _ (T : Setup) (before : List Entry) (narrow : narrowing T before) (x : Access) where
  abbrev W : World
  W = world_after T before

  parent-lies : (p k : KeyName) → Contains (grants before) (p, k) → LiesInHeld W x k → LiesInHeld W x p
  parent-lies p k granted lies =
      let live : IsLive W k = inl (lies.kernel, subst IsSome (sym lies.held) refl) in
      let above : IsNarrowed W p k = narrow p k live granted in
      record {
        kernel = above.kernel;
        capability = above.parent;
        held = above.held;
        within = above-lies x lies.capability.object above.parent.object p
            (above.narrower lies.capability.object (as_held lies.kernel lies.capability lies.held refl)) lies.within;
      }

  lineage-lies : (roots : List KeyName) (k : KeyName) (ks : List KeyName) → IsLineage roots (grants before) (k ∷ ks) → LiesInHeld W x k → (a : KeyName) →
      Contains (k ∷ ks) a → LiesInHeld W x a
  unfolding IsLineage
  lineage-lies roots k [] is lies a among = elim (Contains-cons_cases k [] a among) [
    | inl same ↦ subst (LiesInHeld W x) same lies
    | inr rest ↦ absurd (Contains-nil a rest)
  ]
  lineage-lies roots k (p ∷ ks) is lies a among = elim (Contains-cons_cases k (p ∷ ks) a among) [
    | inl same ↦ subst (LiesInHeld W x) same lies
    | inr rest ↦ lineage-lies roots p ks is.1 (parent-lies p k is.0 lies) a rest
  ]

  line-lies : (roots : List KeyName) (n : ℕ) (k : KeyName) → IsLineage roots (grants before) (ancestry_in n (grants before) k) → LiesInHeld W x k → (a : KeyName) →
      Contains (ancestry_in n (grants before) k) a → LiesInHeld W x a
  unfolding ancestry_in
  line-lies roots zero k is lies a among = lineage-lies roots k [] is lies a among
  line-lies roots (suc n) k is lies a among = lineage-lies roots k _ is lies a among

-- an access lies in the object of what its endpoint is bound to
passes-lies : (x : Access) (off : ℕ) (o : Object) → x.base ≡ base_of o + off → Passes (cond x.write 2 1) off x.len o → LiesIn x o
passes-lies x off (Mem base size rights) from passes = (inside-within x.base x.len base size (omega (arith, from), omega (arith, from, passes.0)), passes.1)
passes-lies x off (Recv slots) from passes = absurd passes
passes-lies x off (Send gate label credits) from passes = absurd passes
passes-lies x off (Serv name) from passes = absurd passes
passes-lies x off (Sess service ident) from passes = absurd passes

-- an access through an endpoint owns what it reads or writes, where all is safe
through-owns : (T : Setup) (J : List Entry) (i : ℕ) (x : Access) → IsSafe T J → GoesThrough (side (world_after T J) i) x → IsOwned T J x
through-owns T J i x safe at =
    let W : World = world_after T J in
    let sound : IsSoundBinding W i x.vpe at.bound = safe.sound_endpoints i x.vpe at.number at.bound at.at_endpoint in
    let key : x.key ≡ at.bound.key = ap (λ (y : Access). y.key) at.through in
    let base : x.base ≡ base_of at.bound.object + at.offset = ap (λ (y : Access). y.base) at.through in
    let held : HoldsCap W i x.key sound.capability = subst (λ k. HoldsCap W i k sound.capability) (sym key) sound.held in
    let used : IsInUse W x.key = inl (inl (i, subst IsSome (sym held) refl)) in
    let lineage = safe.lineage x.key used in
    let lies : LiesInHeld W x x.key = record {
      kernel = i;
      capability = sound.capability;
      held = held;
      within = subst (LiesIn x) (sym sound.object) (passes-lies x at.offset at.bound.object base at.passes);
    } in
    record {
      own = subst (λ (k : KeyName). k.vpe ≡ x.vpe) (sym key) sound.own;
      held = (i, (sound.capability, held, sound.unmarked));
      lineage = lineage;
      within = line-lies T J safe.narrowing x (root_keys T) (length J) x.key lineage lies;
      unrevoked = λ k among gone. safe.revoked_is_gone x.key k used among gone;
    }

pub all-owned : (T : Setup) → IsSetup T → (J : List Entry) → IsSchedule T J → (x : Access) → Contains (accesses T J) x → IsOwned T (take x.entry J) x
all-owned T valid J runs x among =
    let at : StandsIn T (start T) 0 J x = stands T J x among in
    let runs' : IsSchedule T (at.before ++ at.entry ∷ at.later) = subst (IsSchedule T) at.parts runs in
    let on = entry-enabled T at.before (start T) at.entry at.later runs' in
    let through : GoesThrough (side (world_after T at.before) at.entry.event.kernel) x =
    entry-through T (world_after T at.before) x.entry at.entry x on.2 at.is in
    subst (λ K. IsOwned T K x) (sym (before-is T J x at)) (through-owns T at.before at.entry.event.kernel x (all-safe T valid at.before on.0) through)
