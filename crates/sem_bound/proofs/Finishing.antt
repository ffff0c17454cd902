-- Closing a job makes a side no heavier, and so does finishing one after the other: the job pays for its waiters, for
-- the job above it, and for the parent of its root.
use Rattle.std.proofs.Common.{◌≡◌, ℕ, zero, suc, ◌+◌, ◌≤◌, Bool, true, false, List, [], ◌∷◌, length, Option, Some}
use Rattle.std.proofs.Common.{None, refl, sym, ap, ◌∙◌, arith}
use Rattle.std.specs.Prelude.{if◌then◌else◌}
use Rattle.std.specs.List.{Contains}
use Rattle.std.specs.Option.{option_and_then}
use Rattle.std.proofs.lemmas.Bool.{cond-false, cond_both}
use Rattle.sem_key.specs.KeyName.{KeyName, key_eq}
use Rattle.sem_key.specs.Lists.{in_turn}
use Rattle.sem_key.specs.Capability.{Capability}
use Rattle.sem_key.specs.CapList.{marked_by}
use Rattle.sem_msg.specs.declared.message.Message.TheVariants.{RevokeDone, Unlink}
use Rattle.sem_msg.specs.declared.state.Parked.TheVariants.{Ready}
use Rattle.sem_msg.specs.declared.state.Slot.TheVariants.{Free}
use Rattle.sem_msg.specs.declared.state.Up.{Up}
use Rattle.sem_msg.specs.declared.state.Up.TheVariants.{Local, Remote}
use Rattle.sem_msg.specs.Rows.{JobRow}
use Rattle.sem_msg.specs.Setup.{Setup}
use Rattle.sem_msg.specs.VpeRows
use Rattle.sem_msg.specs.Lookups.{owner_of, is_local}
use Rattle.sem_msg.specs.declared.code.Code.TheVariants.{Ok as OkCode}
use Rattle.sem_msg.specs.JobRows.{if_done, next_done}
use Rattle.sem_msg.specs.Codes.{code_number}
use Rattle.sem_machine.specs.Sides.{Side, cap, job, job_removed, ready, freed, unlinked, send}
use Rattle.sem_machine.specs.Revokes.{root_spared, selectors_freed, swept, woken, parent_left, left_parent, up_told}
use Rattle.sem_machine.specs.Revokes.{closed_here, closed, finish, settled}
use Rattle.sem_key.proofs.KeyTests.{key_eq-true}
use Rattle.sem_key.proofs.Members.{found}
use Rattle.sem_safety.specs.Observations.{AreDistinct}
use Rattle.sem_safety.proofs.Layers.{facts}
use Rattle.sem_machine.proofs.Folds.{in_turn-keeps}
use Rattle.sem_safety.proofs.Onwards.{AnyPlace}
use Rattle.sem_safety.proofs.KeptRevokes.{closed-in}
use Rattle.sem_bound.proofs.Weights.{of_key, of_keep, of_up, side-spared, of_side, side-slot, side-parked}
use Rattle.sem_bound.proofs.Weights.{side-removed, side-unlinked, side-send, side-counted_down, side-closed}
use Rattle.sem_bound.proofs.Weights.{id-weighs}
use Rattle.sem_bound.proofs.Layering.{NoKey, IsCalm, calm}
use Rattle.sem_safety.proofs.JobIds.{done-among, next-among}

module _ (T : Setup) (near : KeyName → Bool) (i : ℕ) where
  -- no heavier than m
  abbrev pub Bounded : ℕ → Side → Type 0
  Bounded m t = of_side T near i t ≤ m

  freed-bounded : (m v sel : ℕ) (t : Side) → Bounded m t → Bounded m (freed v sel t)
  freed-bounded m v sel t light = let here = side-slot T near i t v sel Free in omega (arith, light, here)

  pub swept-bounded : (x : JobRow) (s : Side) → AreDistinct s.caps →
      Bounded (of_side T near i s + of_keep T near i x.root x.keep) (swept x s)
  swept-bounded x s distinct =
      let t : Side = root_spared x s in
      let m : ℕ = of_side T near i t in
      let light : Bounded m (selectors_freed x.id t) =
      in_turn-keeps (λ rows. Bounded m (record t { vpes = rows }))
      (λ (c : Capability) rows. VpeRows.freed c.key.vpe c.selector rows)
      (λ c rows here. freed-bounded m c.key.vpe c.selector (record t { vpes = rows }) here)
      (marked_by x.id t.caps) t.vpes (omega arith) in
      let removed = side-removed T near i (selectors_freed x.id t) x.id in
      let first = side-spared T near i s x distinct in
      omega (arith, light, removed, first)

  pub woken-bounded : (vs : List ℕ) (t : Side) → Bounded (of_side T near i t + length vs) (woken vs t)
  unfolding in_turn
  woken-bounded [] t = omega arith
  woken-bounded (v ∷ vs) t =
      let light : of_side T near i (woken (v ∷ vs) t) ≤ of_side T near i (ready (code_number OkCode) v t)
      + length vs = woken-bounded vs (ready (code_number OkCode) v t) in
      let here : of_side T near i (ready (code_number OkCode) v t) ≤ of_side T near i t + 1 =
      side-parked T near i t v (Ready (code_number OkCode)) in
      omega (arith, light, here)

  -- the parts of what a job weighs by its `up`: for its parent, for the job above it, and for its root
  abbrev leaving : KeyName → Bool → Option Up → ℕ
  leaving root keep None = if keep then 0 else of_key T near i root
  leaving root keep (Some (Local j)) = of_key T near i root
  leaving root keep (Some (Remote kernel j)) = 0

  abbrev telling : Option Up → ℕ
  telling None = 0
  telling (Some (Local j)) = 0
  telling (Some (Remote kernel j)) = 3

  up-parts : (root : KeyName) (keep : Bool) (up : Option Up) →
      leaving root keep up + telling up + of_keep T near i root keep ≡ of_up T near i root keep up
  up-parts root true None = omega arith
  up-parts root false None = omega arith
  up-parts root keep (Some (Local j)) = omega arith
  up-parts root keep (Some (Remote kernel j)) = omega arith

  -- a parent of another kernel is told by what its child weighs
  told-parent : (root p : KeyName) (t : Side) → (is_local T i p ≡ false → near root ≡ false) →
      Bounded (of_side T near i t + of_key T near i root)
      (if is_local T i p then unlinked p root t else send (owner_of T p) (Unlink p root) t)
  told-parent root p t late =
      cond_both (is_local T i p) (unlinked p root t) (send (owner_of T p) (Unlink p root) t)
      (Bounded (of_side T near i t + of_key T near i root))
      (λ _. let less = side-unlinked T near i t p root in omega (arith, less))
      (λ remote.
      let three : of_key T near i root ≡ 3 = cond-false (near root) 0 3 (late remote) in
      let more : of_side T near i (send (owner_of T p) (Unlink p root) t) ≡ of_side T near i t + 3 =
      side-send T near i t (owner_of T p) (Unlink p root) in
      omega (arith, more, three))

  -- what is known of a parent that a root leaves
  abbrev Leaves : KeyName → Bool → Option KeyName → Type 0
  Leaves root keep o = (p : KeyName) → o ≡ Some p → (is_local T i p ≡ false → near root ≡ false) × (keep ≡ false)

  left-bounded : (id count : ℕ) (root : KeyName) (up : Option Up) (waiters : List ℕ) (keep : Bool)
      (o : Option KeyName) (t : Side) → Leaves root keep o →
      Bounded (of_side T near i t + leaving root keep up)
      (parent_left T i (record
      { id = id; root = root; up = up; waiters = waiters; count = count; keep = keep }) o t)
  left-bounded id count root up waiters keep None t late = omega arith
  left-bounded id count root None waiters keep (Some p) t late =
      let more = told-parent root p t (late p refl).0 in
      let gone : leaving root keep None ≡ of_key T near i root =
      cond-false keep 0 (of_key T near i root) (late p refl).1 in
      omega (arith, more, gone)
  left-bounded id count root (Some (Local j)) waiters keep (Some p) t late = told-parent root p t (late p refl).0
  left-bounded id count root (Some (Remote kernel j)) waiters keep (Some p) t late =
      cond_both (is_local T i p) (unlinked p root t) t (Bounded (of_side T near i t + 0))
      (λ _. let less = side-unlinked T near i t p root in omega (arith, less)) (λ _. omega arith)

  told-bounded : (up : Option Up) (t : Side) → of_side T near i (up_told up t) ≤ of_side T near i t + telling up
  told-bounded None t = omega arith
  told-bounded (Some (Local j)) t = let less = side-counted_down T near i t j in omega (arith, less)
  told-bounded (Some (Remote kernel j)) t =
      let more : of_side T near i (send kernel (RevokeDone j) t) ≡ of_side T near i t + 3 =
      side-send T near i t kernel (RevokeDone j) in omega (arith, more)

  -- the root of a job with a parent of another kernel
  parent-late : (s : Side) → IsCalm T near i s → (root : KeyName) (o : Option Capability) → cap s root ≡ o →
      (p : KeyName) → option_and_then (λ (c : Capability). c.parent) o ≡ Some p → is_local T i p ≡ false →
      near root ≡ false
  parent-late s calm' root None none p parent remote = absurd cc
  parent-late s calm' root (Some c) some p parent remote =
      let there = found (λ (x : Capability). key_eq x.key root) s.caps c some in
      ap near (sym (key_eq-true c.key root there.1)) ∙ calm'.0 c there.0 p parent remote

  -- a root that leaves its parent is not kept
  not-kept : (b : Bool) (o : Option KeyName) (p : KeyName) → (if b then None else o) ≡ Some p →
      (o ≡ Some p) × (b ≡ false)
  not-kept true o p none = absurd cc
  not-kept false o p some = (some, refl)

  leaves-late : (r : Side) (x : JobRow) → IsCalm T near i r → Leaves x.root x.keep (left_parent r x)
  leaves-late r x calm' = λ p some.
      let kept = not-kept x.keep (option_and_then (λ (c : Capability). c.parent) (cap r x.root)) p some in
      (parent-late r calm' x.root (cap r x.root) refl p kept.0, kept.1)

  pub closed-lighter : (x : JobRow) (s : Side) → IsCalm T near i s → Contains s.jobs x →
      of_side T near i (closed T i x s) ≤ of_side T near i s
  unfolding closed_here
  closed-lighter x s calm' among =
      let r : Side = job_removed x.id s in
      let a : Side = swept x r in
      let b : Side = woken x.waiters a in
      let c : Side = parent_left T i x (left_parent r x) b in
      let out = side-closed T near i s x.id in
      let w1 = swept-bounded x r calm'.1 in
      let w2 = woken-bounded x.waiters a in
      let w3 : Bounded (of_side T near i b + leaving x.root x.keep x.up) c =
      left-bounded x.id x.count x.root x.up x.waiters x.keep (left_parent r x) b (leaves-late r x calm') in
      let w4 = told-bounded x.up c in
      let pays = id-weighs T near i s.jobs x among in
      let parts = up-parts x.root x.keep x.up in
      omega (arith, w1, w2, w3, w4, out, pays, parts)

  -- The chain.
  pub finish-lighter : (n : ℕ) (o : Option JobRow) (s : Side) → IsCalm T near i s →
      ((x : JobRow) → o ≡ Some x → Contains s.jobs x) → of_side T near i (finish T i n o s) ≤ of_side T near i s
  unfolding finish
  finish-lighter zero o s calm' among = omega arith
  finish-lighter (suc n) None s calm' among = omega arith
  finish-lighter (suc n) (Some x) s calm' among =
      let s2 : Side = closed T i x s in
      let first = closed-lighter x s calm' (among x refl) in
      let rest = finish-lighter n (next_done x.up s2.jobs) s2
      (closed-in (facts NoKey AnyPlace) (IsCalm T near i) (calm T near i) T i x s calm')
      (λ y next. next-among x.up s2 y next) in
      omega (arith, first, rest)

  pub settled-lighter : (j : ℕ) (s : Side) → IsCalm T near i s →
      of_side T near i (settled T i j s) ≤ of_side T near i s
  settled-lighter j s calm' =
      finish-lighter (length s.jobs) (if_done (job s j)) s calm' (λ x done. done-among s j x done)
