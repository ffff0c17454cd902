-- What a job that is closed sweeps: the parent is swept too, or leads to it no more, or an Unlink is sent, or another kernel has marked the parent.
use Rattle.std.proofs.Common.{◌≡◌, ◌⊎◌, ℕ, zero, suc, Bool, true, false, not, ◌&&◌, List, [], ◌∷◌, find, filter, length, Option, Some, None, refl, sym, ap, ◌∙◌}
use Rattle.std.proofs.Common.{subst, inl, inr, arith, eq-eqb}
use Rattle.std.specs.Prelude.{◌==◌, if◌then◌else◌}
use Rattle.std.specs.List.{Contains, list_any}
use Rattle.std.specs.Option.{option_map_or, option_and_then}
use Rattle.std.proofs.lemmas.Bool.{cases_Bool, cases_eq, cond-true, cond-false, cond_both, eqb-true, eqb-false, and_from, true≢false}
use Rattle.std.proofs.lemmas.Option.{same_Some}
use Rattle.sem_key.specs.KeyName.{KeyName, key_eq}
use Rattle.sem_key.specs.Region.{region, children_of}
use Rattle.sem_key.specs.Capability.{Capability}
use Rattle.sem_key.specs.CapList.{is_marked_by, restored, with_mark}
use Rattle.sem_key.proofs.KeyTests.{key_eq-true, key_eq-from}
use Rattle.sem_key.proofs.Members.{Contains-nil, Contains-cons_cases, Contains-filter, Contains-map, found}
use Rattle.sem_msg.specs.declared.message.Message.TheVariants.{Unlink, RevokeDone}
use Rattle.sem_msg.specs.declared.state.Up.{Up}
use Rattle.sem_msg.specs.declared.state.Up.TheVariants.{Local, Remote}
use Rattle.sem_msg.specs.JobRows.{if_done, next_done}
use Rattle.sem_msg.specs.Rows.{JobRow}
use Rattle.sem_msg.specs.Setup.{Setup}
use Rattle.sem_msg.specs.Lookups.{owner_of, is_local}
use Rattle.sem_machine.specs.Sides.{Side, cap, job, mark_all, unbind_all, job_opened, job_removed}
use Rattle.sem_machine.specs.Machine.{side}
use Rattle.sem_machine.specs.Revokes.{other_marker, adopted, request_or_adopt, spared, swept, woken, parent_left, left_parent, up_told, count_lowered}
use Rattle.sem_machine.specs.Revokes.{closed_here, closed, finish, settled, opened, begin}
use Rattle.sem_machine.proofs.Folds.{in_turn-keeps}
use Rattle.sem_safety.specs.Observations.{AreDistinct}
use Rattle.sem_revoke.specs.Views.{no_obligations}
use Rattle.sem_revoke.specs.Scales.{requesting, names}
use Rattle.sem_revoke.proofs.Chaining.{done-is, next-is, row-closed}
use Rattle.sem_revoke.proofs.Leading.{Has, Below, IsKept, Off, off-steady, off-kept, has-kept, has-mapped, either-kept, linking-cut, below-steady}
use Rattle.sem_revoke.proofs.Pendings.{outbox-sent}
use Rattle.sem_revoke.proofs.Scaling.{pairs-head, pairs-tail}
use Rattle.sem_revoke.proofs.Steady.{IsSteady, closed-steady, opened-steady}
use Rattle.sem_revoke.proofs.Viewing.{Scene, owner, view, Row, IsMarked, IsUnder, hold-here, hold-away, job-here, job-weighs, rises_distinct, one-true}

-- a capability of distinct ones is the one of its key
pub only-one : (k : KeyName) (cs : List Capability) → AreDistinct cs → (c : Capability) → Contains cs c → c.key ≡ k
    → find (λ (x : Capability). key_eq x.key k) cs ≡ Some c
only-one k [] distinct c among key = absurd (Contains-nil c among)
only-one k (x ∷ xs) distinct c among key = elim (cases_Bool (key_eq x.key k)) [
  | inl pass ↦ cond-true (key_eq x.key k) (Some x) (find (λ (y : Capability). key_eq y.key k) xs) pass ∙ elim (Contains-cons_cases x xs c among) [
    | inl same ↦ ap Some same
    | inr later ↦ absurd (true≢false (sym (key_eq-from x.key c.key (key_eq-true x.key k pass ∙ sym key))
        ∙ pairs-head (λ (a b : Capability). key_eq a.key b.key ≡ false) x xs distinct c later))
  ]
  | inr fail ↦ cond-false (key_eq x.key k) (Some x) (find (λ (y : Capability). key_eq y.key k) xs) fail ∙ elim (Contains-cons_cases x xs c among) [
    | inl same ↦ absurd (true≢false (sym (key_eq-from x.key k (ap (λ (y : Capability). y.key) same ∙ key)) ∙ fail))
    | inr later ↦ only-one k xs (pairs-tail (λ (a b : Capability). key_eq a.key b.key ≡ false) x xs distinct) c later key
  ]
]

-- What each change keeps that no link is made by, the end of a job keeps.
module _ (G : KeyName → KeyName → Type 0) (P : Side → Type 0) (K : IsKept G P) where
  left-kept : (T : Setup) (i id count : ℕ) (root : KeyName) (up : Option Up) (ws : List ℕ) (keep : Bool) (o : Option KeyName) (t : Side) → P t
      → P (parent_left T i (record { id = id; root = root; up = up; waiters = ws; count = count; keep = keep }) o t)
  left-kept T i id count root up ws keep None t is = is
  left-kept T i id count root None ws keep (Some p) t is =
      cond_both (is_local T i p) _ _ P (λ _. K.unlinks t p root is) (λ _. K.sends t (owner_of T p) (Unlink p root) is)
  left-kept T i id count root (Some (Local j)) ws keep (Some p) t is =
      cond_both (is_local T i p) _ _ P (λ _. K.unlinks t p root is) (λ _. K.sends t (owner_of T p) (Unlink p root) is)
  left-kept T i id count root (Some (Remote kernel j)) ws keep (Some p) t is = cond_both (is_local T i p) _ _ P (λ _. K.unlinks t p root is) (λ _. is)

  told-kept : (up : Option Up) (t : Side) → P t → P (up_told up t)
  told-kept None t is = is
  told-kept (Some (Local j)) t is = K.other t (count_lowered j t) refl refl is
  told-kept (Some (Remote kernel j)) t is = K.sends t kernel (RevokeDone j) is

-- p is the parent of k by a grant.
module _ (C : Scene) (p k : KeyName) (granted : C.parent p k) where
  abbrev i : ℕ
  i = C.kernel

  -- the parent is held and marked by another kernel
  abbrev pub Away : Type 0
  Away = (owner C p ≡ i → ⊥) × (c : Capability) × (cap (side C.world (owner C p)) p ≡ Some c) × (m : ℕ) × (c.mark ≡ Some m)

  -- or this kernel owns it
  abbrev pub Near : Type 0
  Near = owner C p ≡ i

  -- the key is there, or it is gone and so is its link
  abbrev pub Leads : Side → Type 0
  Leads t = Has k t ⊎ Off p k (owner C p) Near Away t

  abbrev pub NoGrant : KeyName → KeyName → Type 0
  NoGrant q r = q ≡ p → r ≡ k → ⊥

  pub leads-kept : IsKept NoGrant Leads
  leads-kept = either-kept NoGrant (Has k) (Off p k (owner C p) Near Away) (has-kept k NoGrant)
      (off-kept p k (owner C p) Near Away NoGrant (λ q r apart. apart))

  steady : IsSteady (Off p k (owner C p) Near Away)
  steady = off-steady p k (owner C p) Near Away

  -- where another kernel marks the parent, it is so there
  marked-away : (t : Side) (n : ℕ) → IsMarked C t p n → (owner C p ≡ i → ⊥) → Away
  marked-away t n (d, held, marked) away = (away, d, sym (hold-away C t p away) ∙ held, n, marked)

  -- where a job of this kernel marks it, no unmarked one leads to the key
  marked-off : (t : Side) (n : ℕ) → Row C no_obligations t → IsMarked C t p n → Off p k (owner C p) Near Away t
  marked-off t n R (d, held, marked) = elim (cases_eq (owner C p) i) [
    | inl here ↦ inr (inl (
      here,
      λ c among key unmarked child.
          let is : cap t p ≡ Some c = only-one p t.caps (rises_distinct t.caps R.rises) c among key in
          let same : d ≡ c = same_Some d c (sym held ∙ (hold-here C t p here ∙ is)) in
          let none : None ≡ Some n = sym unmarked ∙ (ap (λ (x : Capability). x.mark) (sym same) ∙ marked) in
          absurd cc,
    ))
    | inr away ↦ inr (inr (marked-away t n (d, held, marked) away))
  ]

  -- what is above the key is its parent
  under-off : (t : Side) (a n : ℕ) → Row C no_obligations t → IsUnder C t k a n → Off p k (owner C p) Near Away t
  under-off t a n R (q, above, at, marked) = marked-off t n R (subst (λ z. IsMarked C t z n) (C.one_parent q p k above granted) marked)

  -- A job that is closed.
  module _ (x : JobRow) (t : Side) (open_ : job t x.id ≡ Some x) (done : x.count ≡ 0) (R : Row C no_obligations t) (below : Below p k t) where
    -- what it does not sweep stays
    has-swept : (u : Side) (c : Capability) → Contains u.caps c → c.key ≡ k → (b : Bool) → x.keep ≡ b
        → (is_marked_by x.id c ≡ false) ⊎ ((b ≡ true) × (key_eq c.key x.root ≡ true)) → Has k (swept x u)
    has-swept u c among key b keeps stays = subst (λ v. (d : Capability) × Contains (filter (λ y. not (is_marked_by x.id y)) (spared v x.root u.caps)) d
        × (d.key ≡ k)) (sym keeps) (by b stays)
      where
        f : Capability → Capability
        f d = record d { children = []; mark = None }

        e : Capability
        e = if key_eq c.key x.root then f c else c

        by : (v : Bool) → (is_marked_by x.id c ≡ false) ⊎ ((v ≡ true) × (key_eq c.key x.root ≡ true))
            → (d : Capability) × Contains (filter (λ y. not (is_marked_by x.id y)) (spared v x.root u.caps)) d × (d.key ≡ k)
        by false (inl off) = (c, Contains-filter (λ (y : Capability). not (is_marked_by x.id y)) u.caps c among (ap not off), key)
        by false (inr (no', at)) = absurd cc
        by true here =
            let unmarked : is_marked_by x.id e ≡ false = elim here [
              | inl off ↦ cond_both (key_eq c.key x.root) (f c) c (λ (y : Capability). is_marked_by x.id y ≡ false) (λ _. refl) (λ _. off)
              | inr (yes', at) ↦ ap (is_marked_by x.id) (cond-true (key_eq c.key x.root) (f c) c at)
            ] in
            let same : e.key ≡ c.key = cond_both (key_eq c.key x.root) (f c) c (λ (y : Capability). y.key ≡ c.key) (λ _. refl) (λ _. refl) in (
              e,
              Contains-filter (λ (y : Capability). not (is_marked_by x.id y)) (restored u.caps x.root) e
                  (Contains-map (λ (y : Capability). if key_eq y.key x.root then f y else y) u.caps c among) (ap not unmarked),
              same ∙ key,
            )

    -- and is there when the job is closed
    has-closed : (c : Capability) → Contains t.caps c → c.key ≡ k → (is_marked_by x.id c ≡ false) ⊎ ((x.keep ≡ true) × (key_eq c.key x.root ≡ true))
        → Has k (closed C.setup i x t)
    unfolding closed_here
    has-closed c among key stays =
        let u : Side = job_removed x.id t in
        told-kept NoGrant (Has k) (has-kept k NoGrant) x.up (closed_here C.setup i x u)
        (left-kept NoGrant (Has k) (has-kept k NoGrant) C.setup i x.id x.count x.root x.up x.waiters x.keep (left_parent u x) (woken x.waiters (swept x u))
        (has-swept u c among key x.keep refl stays))

    -- The root is swept: its parent is left.
    -- a job that another kernel waits for is below a mark of it
    asked-away : x.root ≡ k → (a n : ℕ) → x.up ≡ Some (Remote a n) → (owner C p ≡ i → ⊥) → Away
    asked-away root a n up away =
        let weighs = job-weighs C (requesting k a n) t x.id x open_ in
        let named : names i x.up a n ≡ true = ap (λ u. names i u a n) up ∙ and_from (a == a) (n == n) (eq-eqb a a refl) (eq-eqb n n refl) in
        let one = one-true (key_eq x.root k && names i x.up a n) (and_from (key_eq x.root k) (names i x.up a n) (key_eq-from x.root k root) named) in
        let under = R.revokes.asking k a n (omega (arith, weighs, one)) in
        marked-away t n (subst (λ z. IsMarked C t z n) (C.one_parent under.0 p k under.1 granted) under.3) away

    -- the job is given by its parts; what is off by its up is off
    left-off : (id count : ℕ) (up : Option Up) (ws : List ℕ) (keep : Bool) (u : Side)
        → ((a n : ℕ) → up ≡ Some (Remote a n) → (is_local C.setup i p ≡ false) → Off p k (owner C p) Near Away u)
        → Off p k (owner C p) Near Away (parent_left C.setup i (record { id = id; root = k; up = up; waiters = ws; count = count; keep = keep }) (Some p) u)
    left-off id count None ws keep u by_up =
        cond_both (is_local C.setup i p) _ _ (Off p k (owner C p) Near Away) (λ local. inr (inl (eqb-true (owner C p) i local, linking-cut p k ⊥ u)))
        (λ _. inl (outbox-sent u (owner C p) (Unlink p k)))
    left-off id count (Some (Local j)) ws keep u by_up =
        cond_both (is_local C.setup i p) _ _ (Off p k (owner C p) Near Away) (λ local. inr (inl (eqb-true (owner C p) i local, linking-cut p k ⊥ u)))
        (λ _. inl (outbox-sent u (owner C p) (Unlink p k)))
    left-off id count (Some (Remote a n)) ws keep u by_up =
        cond_both (is_local C.setup i p) _ _ (Off p k (owner C p) Near Away) (λ local. inr (inl (eqb-true (owner C p) i local, linking-cut p k ⊥ u)))
        (λ away. by_up a n refl away)

    -- so where the root is the key, and is swept
    root-off : x.root ≡ k → x.keep ≡ false → (c : Capability) → Contains t.caps c → c.key ≡ k → Off p k (owner C p) Near Away (closed C.setup i x t)
    unfolding closed_here
    root-off root leaves c among key =
        let u : Side = job_removed x.id t in
        let w : Side = woken x.waiters (swept x u) in
        let held : cap t x.root ≡ Some c = ap (cap t) root ∙ only-one k t.caps (rises_distinct t.caps R.rises) c among key in
        let left : left_parent u x ≡ Some p = cond-false x.keep None (option_and_then (λ (d : Capability). d.parent) (cap t x.root)) leaves
        ∙ (ap (option_and_then (λ (d : Capability). d.parent)) held ∙ below c among key) in
        told-kept NoGrant (Off p k (owner C p) Near Away) (off-kept p k (owner C p) Near Away NoGrant (λ q r apart. apart)) x.up (closed_here C.setup i x u)
        (subst (λ o. Off p k (owner C p) Near Away (parent_left C.setup i x o w)) (sym left)
        (subst (λ r. Off p k (owner C p) Near Away
        (parent_left C.setup i (record { id = x.id; root = r; up = x.up; waiters = x.waiters; count = x.count; keep = x.keep }) (Some p) w)) (sym root)
        (left-off x.id x.count x.up x.waiters x.keep w (λ a n up away. inr (inr (asked-away root a n up (λ here. eqb-false (owner C p) i away here)))))))

    mark-is : (m : Option ℕ) → option_map_or (λ q. q == x.id) m false ≡ true → m ≡ Some x.id
    mark-is None none = absurd cc
    mark-is (Some q) same = ap Some (eqb-true q x.id same)

    -- the key is there still, or its link is gone
    pub leads-closed : Leads t → Leads (closed C.setup i x t)
    leads-closed (inr off) =
        inr (closed-steady (Off p k (owner C p) Near Away) steady C.setup i x t (found (λ (y : JobRow). y.id == x.id) t.jobs x open_).0 off)
    leads-closed (inl (c, among, key)) = elim (cases_Bool (is_marked_by x.id c)) [
      | inr off ↦ inl (has-closed c among key (inl off))
      | inl on ↦
          let held : cap t k ≡ Some c = only-one k t.caps (rises_distinct t.caps R.rises) c among key in
          let home : owner C k ≡ i = R.homes k c held in
          let y = R.revokes.marks k x.id (c, hold-here C t k home ∙ held, mark-is c.mark on) in
          let same : y.0 ≡ x = same_Some y.0 x (sym y.1 ∙ (ap (λ a. (view C t).job a x.id) home ∙ (job-here C t x.id ∙ open_))) in
          elim y.2 [
            | inr under ↦ inr (closed-steady (Off p k (owner C p) Near Away) steady C.setup i x t (found (λ (z : JobRow). z.id == x.id) t.jobs x open_).0
                (under-off t (owner C k) x.id R under))
            | inl is_root ↦
                let root : x.root ≡ k = ap (λ (z : JobRow). z.root) (sym same) ∙ is_root in
                elim (cases_Bool x.keep) [
                  | inl keeps ↦ inl (has-closed c among key (inr (keeps, key_eq-from c.key x.root (key ∙ sym root))))
                  | inr leaves ↦ inr (root-off root leaves c among key)
                ]
          ]
    ]

  -- The chain of those that are done.
  leads-finish : (n : ℕ) (o : Option JobRow) (s : Side) → ((x : JobRow) → o ≡ Some x → (job s x.id ≡ Some x) × (x.count ≡ 0)) → Row C no_obligations s → Below p k s
      → Leads s → Leads (finish C.setup i n o s)
  unfolding finish
  leads-finish zero o s is R below L = L
  leads-finish (suc n) None s is R below L = L
  leads-finish (suc n) (Some x) s is R below L =
      let s2 : Side = closed C.setup i x s in
      let at = is x refl in
      leads-finish n (next_done x.up s2.jobs) s2 (λ y next. next-is C x.up s2 y next) (row-closed C x s at.0 at.1 R)
      (closed-steady (Below p k) (below-steady p k) C.setup i x s (found (λ (y : JobRow). y.id == x.id) s.jobs x at.0).0 below)
      (leads-closed x s at.0 at.1 R below L)

  pub leads-settled : (j : ℕ) (s : Side) → Row C no_obligations s → Below p k s → Leads s → Leads (settled C.setup i j s)
  leads-settled j s R below L = leads-finish (length s.jobs) (if_done (job s j)) s (λ x done. done-is C s j x done) R below L

  -- A job that begins.
  adopts : (j : ℕ) (o : Option ℕ) (t : Side) → Has k t → Has k (adopted j o t)
  adopts j None t is = is
  adopts j (Some m) t is = is

  has-opened : (root : KeyName) (up : Option Up) (ws : List ℕ) (keep : Bool) (s : Side) → Has k s → Has k (opened C.setup i root up ws keep s)
  unfolding opened
  has-opened root up ws keep s is =
      let j : ℕ = s.next_job in
      let ks : List KeyName = region s.caps root in
      let marked : Side = unbind_all ks (mark_all ks j (job_opened root up ws keep s)) in
      in_turn-keeps (Has k) (request_or_adopt C.setup i j)
      (λ q t here. cond_both (is_local C.setup i q) _ _ (Has k) (λ _. adopts j (other_marker j (cap t q)) t here) (λ _. here))
      (children_of s.caps ks) marked
      (has-mapped k (λ c. list_any (key_eq c.key) ks) (with_mark j) (λ c. refl) s.caps is)

  leads-opened : (root : KeyName) (up : Option Up) (ws : List ℕ) (keep : Bool) (s : Side) → Leads s → Leads (opened C.setup i root up ws keep s)
  leads-opened root up ws keep s (inr off) = inr (opened-steady (Off p k (owner C p) Near Away) steady C.setup i root up ws keep s off)
  leads-opened root up ws keep s (inl has) = inl (has-opened root up ws keep s has)

  pub leads-begun : (root : KeyName) (up : Option Up) (ws : List ℕ) (keep : Bool) (s : Side) → Row C no_obligations (opened C.setup i root up ws keep s) →
      Below p k s
      → Leads s → Leads (begin C.setup i root up ws keep s)
  leads-begun root up ws keep s R below L =
      leads-settled s.next_job (opened C.setup i root up ws keep s) R (opened-steady (Below p k) (below-steady p k) C.setup i root up ws keep s below)
      (leads-opened root up ws keep s L)
