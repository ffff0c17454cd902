-- What sweeping leaves of capabilities, VPEs, waiting calls and jobs.
use Rattle.std.proofs.Common.{◌≡◌, ℕ, zero, suc, ◌+◌, ◌-◌, ◌<◌, ◌≤◌, Bool, true, false, not, cond, List, [], ◌∷◌, ◌++◌, length, map, get_or, Option, Some, None}
use Rattle.std.proofs.Common.{refl, sym, ◌∙◌, ap, subst, inl, inr, arith}
use Rattle.std.specs.Prelude.{nat_lt, ◌==◌, IfSome, if◌then◌else◌}
use Rattle.std.specs.List.{All, AllPairs, Contains, filter}
use Rattle.std.specs.Option.{option_and_then}
use Rattle.std.proofs.lemmas.Bool.{eqb-true, cases_Bool, cases_order, cond-true, cond-false}
use Rattle.std.proofs.lemmas.Bool.Decides.{nat_tests}
use Rattle.std.proofs.lemmas.List.Elements.{All-filter, All-map, All-contains}
use Rattle.std.proofs.lemmas.List.{length-map}
use Rattle.sem_key.specs.KeyName.{KeyName, key_eq}
use Rattle.sem_key.specs.KeyList.{without_key}
use Rattle.sem_key.specs.Capability.{Capability}
use Rattle.sem_key.specs.CapList.{cap_of, unlinked, restored}
use Rattle.sem_key.specs.Lists.{in_turn}
use Rattle.sem_key.proofs.Members.{found, Contains-head, Contains-tail, Contains-nil, Contains-cons_cases}
use Rattle.sem_key.proofs.OnePasses.{change-absent}
use Rattle.sem_msg.specs.declared.state.Up.{Up}
use Rattle.sem_msg.specs.declared.state.Up.TheVariants.{Local, Remote}
use Rattle.sem_msg.specs.Setup.{Setup}
use Rattle.sem_msg.specs.Rows.{JobRow, VpeRow}
use Rattle.sem_msg.specs.JobRows.{job_of, job_removed, count_lowered, token_given_back, next_done}
use Rattle.sem_vpe.specs.VpeTable.{VpeTable, AreOurs, IsOurs}
use Rattle.sem_caps.specs.CapStore.{key_and_selector}
use Rattle.sem_machine.specs.Sides.{Side}
use Rattle.sem_machine.specs.Revokes.{HasOwner, all_freed, closed, closed_here, finish, left_parent, parent_left, spared, swept, woken}
use Rattle.sem_sweep.specs.Sweeping.{CanSweepCap, IsUpOf, pairs_freed, parent_messages, up_messages}

pub filter-length : {X : Type 0} (p : X → Bool) (xs : List X) → length (filter p xs) ≤ length xs
filter-length p [] = omega arith
filter-length p (x ∷ xs) = elim (cases_Bool (p x)) [
  | inl pass ↦ let rest = filter-length p xs in rw (cond-true (p x) (x ∷ filter p xs) (filter p xs) pass) (omega arith)
  | inr fail ↦ let rest = filter-length p xs in rw (cond-false (p x) (x ∷ filter p xs) (filter p xs) fail) (omega arith)
]

-- Selectors.

pub pairs_freed-caps : (cs : List Capability) (rows : List VpeRow) → pairs_freed (map key_and_selector cs) rows ≡ all_freed cs rows
unfolding in_turn
pairs_freed-caps [] rows = refl
pairs_freed-caps (c ∷ cs) rows = pairs_freed-caps cs _

pub pairs-ours : (vpes : VpeTable) (p : Capability → Bool) (cs : List Capability) → All (λ c. IsOurs vpes c.key.vpe) cs →
    All (λ (q : KeyName × ℕ). IsOurs vpes q.0.vpe) (map key_and_selector (filter p cs))
pairs-ours vpes p cs ours = All-map (λ (q : KeyName × ℕ). IsOurs vpes q.0.vpe) key_and_selector (filter p cs)
    (All-filter p (λ c. IsOurs vpes c.key.vpe) cs ours)

-- Capabilities.

-- a capability with other children is swept as before
unlinked-cap : (T : Setup) (i : ℕ) (c : Capability) (t : Bool) (ks : List KeyName) → CanSweepCap T i c →
    CanSweepCap T i (cond {A = Capability} t (record c { children = ks }) c)
unlinked-cap T i c true ks can = record { own = can.own; parent = can.parent }
unlinked-cap T i c false ks can = can

pub unlinked-kept : (T : Setup) (i : ℕ) (cs : List Capability) (parent child : KeyName) → All (CanSweepCap T i) cs →
    All (CanSweepCap T i) (unlinked cs parent child)
unlinked-kept T i cs parent child can =
    All-map (CanSweepCap T i) (λ c. cond {A = Capability} (key_eq c.key parent) (record c { children = without_key c.children child }) c) cs
    (λ k d lt. unlinked-cap T i _ _ _ (can k d lt))

-- and one without mark and children
restored-cap : (T : Setup) (i : ℕ) (c : Capability) (t : Bool) → CanSweepCap T i c →
    CanSweepCap T i (cond {A = Capability} t (record c { children = []; mark = None }) c)
restored-cap T i c true can = record { own = can.own; parent = can.parent }
restored-cap T i c false can = can

pub restored-kept : (T : Setup) (i : ℕ) (cs : List Capability) (root : KeyName) → All (CanSweepCap T i) cs → All (CanSweepCap T i) (restored cs root)
restored-kept T i cs root can = All-map (CanSweepCap T i) (λ c. cond {A = Capability} (key_eq c.key root) (record c { children = []; mark = None }) c) cs
    (λ k d lt. restored-cap T i _ _ (can k d lt))

-- a root that is not held is spared as it is
pub restored-absent : (cs : List Capability) (root : KeyName) → cap_of cs root ≡ None → restored cs root ≡ cs
restored-absent cs root none = change-absent (λ c. key_eq c.key root) _ cs none

-- a capability without mark and children is of the same VPE
restored-owned : (vpes : VpeTable) (c : Capability) (t : Bool) → IsOurs vpes c.key.vpe →
    IsOurs vpes (cond {A = Capability} t (record c { children = []; mark = None }) c).key.vpe
restored-owned vpes c true ours = ours
restored-owned vpes c false ours = ours

pub spared-ours : (vpes : VpeTable) (cs : List Capability) (root : KeyName) (keep : Bool) → All (λ c. IsOurs vpes c.key.vpe) cs →
    All (λ c. IsOurs vpes c.key.vpe) (spared keep root cs)
spared-ours vpes cs root true ours = All-map (λ c. IsOurs vpes c.key.vpe) (λ c. cond {A = Capability} (key_eq c.key root) (record c { children = []; mark = None }) c) cs
    (λ k d lt. restored-owned vpes _ _ (ours k d lt))
spared-ours vpes cs root false ours = ours

-- what can be swept is of VPEs of this kernel
pub can-ours : (T : Setup) (i : ℕ) (vpes : VpeTable) (cs : List Capability) → AreOurs T i vpes → All (CanSweepCap T i) cs → All (λ c. IsOurs vpes c.key.vpe) cs
can-ours T i vpes cs home can k d lt = home _ (can k d lt).own

-- Waiters.

abbrev below : ℕ → List ℕ → List ℕ
below v ws = filter (λ w. nat_lt w v) ws

abbrev pub Rises : List ℕ → Type 0
Rises ws = AllPairs (λ a b. a < b) ws

pub rises-tail : (w : ℕ) (ws : List ℕ) → Rises (w ∷ ws) → Rises ws
rises-tail w ws rises i j d lt within = rises (suc i) (suc j) d (omega arith) (omega arith)

pub rises-head : (w : ℕ) (ws : List ℕ) → Rises (w ∷ ws) → (x : ℕ) → Contains ws x → w < x
rises-head w ws rises x (k, within, here) = let step : w < get_or ws k x = rises 0 (suc k) x (omega arith) (omega arith) in rw here at step

below-cons : (v w : ℕ) (ws : List ℕ) → w < v → below v (w ∷ ws) ≡ w ∷ below v ws
below-cons v w ws lt = cond-true (nat_lt w v) (w ∷ below v ws) (below v ws) (grind (arith, nat_tests))

below-skip : (v w : ℕ) (ws : List ℕ) → v ≤ w → below v (w ∷ ws) ≡ below v ws
below-skip v w ws le = cond-false (nat_lt w v) (w ∷ below v ws) (below v ws) (grind (arith, nat_tests))

-- none is below
pub below-none : (v : ℕ) (ws : List ℕ) → ((x : ℕ) → Contains ws x → v ≤ x) → below v ws ≡ []
below-none v [] above = refl
below-none v (w ∷ ws) above = below-skip v w ws (above w (Contains-head w ws)) ∙ below-none v ws (λ x there. above x (Contains-tail w ws x there))

-- all are below
pub below-all : (v : ℕ) (ws : List ℕ) → All (λ w. w < v) ws → below v ws ≡ ws
below-all v [] few = refl
below-all v (w ∷ ws) few = below-cons v w ws (few 0 w (omega arith)) ∙ ap (λ xs. w ∷ xs) (below-all v ws (λ k d lt. few (suc k) d (omega arith)))

-- one more is below, where it is there
pub below-there : (v : ℕ) (ws : List ℕ) → Rises ws → Contains ws v → below (v + 1) ws ≡ below v ws ++ v ∷ []
below-there v [] rises there = absurd (Contains-nil v there)
below-there v (w ∷ ws) rises there = elim (Contains-cons_cases w ws v there) [
  | inl same ↦
      let later : (x : ℕ) → Contains ws x → w < x = rises-head w ws rises in
      let none : below v ws ≡ [] = below-none v ws (λ x at. let lt = later x at in omega arith) in
      let none' : below (v + 1) ws ≡ [] = below-none (v + 1) ws (λ x at. let lt = later x at in omega arith) in
      below-cons (v + 1) w ws (omega arith)
      ∙ (ap (λ xs. w ∷ xs) none' ∙ (ap (λ x. x ∷ []) same ∙ sym (ap (λ xs. xs ++ v ∷ []) (below-skip v w ws (omega arith) ∙ none))))
  | inr rest ↦
      let lt = rises-head w ws rises v rest in
      below-cons (v + 1) w ws (omega arith)
      ∙ (ap (λ xs. w ∷ xs) (below-there v ws (rises-tail w ws rises) rest) ∙ sym (ap (λ xs. xs ++ v ∷ []) (below-cons v w ws lt)))
]

-- and none, where it is not
pub below-absent : (v : ℕ) (ws : List ℕ) → (Contains ws v → ⊥) → below (v + 1) ws ≡ below v ws
below-absent v [] absent = refl
below-absent v (w ∷ ws) absent =
    let rest = below-absent v ws (λ there. absent (Contains-tail w ws v there)) in
    elim (cases_order w v) [
      | inl same ↦ absurd (absent (subst (Contains (w ∷ ws)) same (Contains-head w ws)))
      | inr (inl lt) ↦ below-cons (v + 1) w ws (omega arith) ∙ (ap (λ xs. w ∷ xs) rest ∙ sym (below-cons v w ws lt))
      | inr (inr gt) ↦ below-skip (v + 1) w ws (omega arith) ∙ (rest ∙ sym (below-skip v w ws (omega arith)))
    ]

-- The parent of a job's root.

-- a parent that is left has an owner
pub left-owner : (T : Setup) (i : ℕ) (cs : List Capability) (x : JobRow) (o : Option KeyName) → All (CanSweepCap T i) cs →
    o ≡ (if x.keep then None else option_and_then (λ c. c.parent) (cap_of cs x.root)) → IfSome o (HasOwner T)
left-owner T i cs x o can is = rw is (from x.keep (cap_of cs x.root) refl)
  where
    from : (keep : Bool) (o : Option Capability) → cap_of cs x.root ≡ o → IfSome (if keep then None else option_and_then (λ c. c.parent) o) (HasOwner T)
    from true o is = tt
    from false None none = tt
    from false (Some c) some = let there = found (λ y. key_eq y.key x.root) cs c some in (All-contains (CanSweepCap T i) cs c can there.0).parent

-- Jobs.

lowered-up : (T : Setup) (x : JobRow) (t : Bool) (n : ℕ) → IsUpOf T x.up → IsUpOf T (cond {A = JobRow} t (record x { count = n }) x).up
lowered-up T x true n is = is
lowered-up T x false n is = is

abbrev UpsOf : Setup → List JobRow → Type 0
UpsOf T xs = All (λ (x : JobRow). IsUpOf T x.up) xs

lowered-kept : (T : Setup) (j : ℕ) (xs : List JobRow) → UpsOf T xs → UpsOf T (count_lowered j xs)
lowered-kept T j xs ups = All-map (λ (x : JobRow). IsUpOf T x.up) (λ x. cond {A = JobRow} (x.id == j) (record x { count = x.count - 1 }) x) xs
    (λ k d lt. lowered-up T _ _ _ (ups k d lt))

pub removed-kept : (T : Setup) (j : ℕ) (xs : List JobRow) → UpsOf T xs → UpsOf T (job_removed j xs)
removed-kept T j xs ups = All-filter (λ x. not (x.id == j)) (λ (x : JobRow). IsUpOf T x.up) xs ups

-- the job that was found
pub up-found : (T : Setup) (j : ℕ) (xs : List JobRow) (x : JobRow) → UpsOf T xs → job_of xs j ≡ Some x → IsUpOf T x.up
up-found T j xs x ups some = let there = found (λ y. y.id == j) xs x some in All-contains (λ (x : JobRow). IsUpOf T x.up) xs x ups there.0

pub told-kept : (T : Setup) (up : Option Up) (xs : List JobRow) → UpsOf T xs → UpsOf T (token_given_back up xs)
told-kept T None xs ups = ups
told-kept T (Some (Local j)) xs ups = lowered-kept T j xs ups
told-kept T (Some (Remote kernel j)) xs ups = ups

pub told-length : (up : Option Up) (xs : List JobRow) → length (token_given_back up xs) ≡ length xs
told-length None xs = refl
told-length (Some (Local j)) xs = length-map xs _
told-length (Some (Remote kernel j)) xs = refl

-- the id of the job that was found
pub job-id : (j : ℕ) (xs : List JobRow) (x : JobRow) → job_of xs j ≡ Some x → x.id ≡ j
job-id j xs x some = eqb-true x.id j (found (λ y. y.id == j) xs x some).1

-- one message at most is sent for a job
pub one-message : (up : Option Up) → parent_messages up + up_messages up ≡ 1
one-message None = refl
one-message (Some (Local j)) = refl
one-message (Some (Remote kernel j)) = refl

-- the same VPEs are of this kernel
pub home-same : (T : Setup) (i : ℕ) (old new : VpeTable) → new.ours ≡ old.ours → AreOurs T i old → AreOurs T i new
home-same T i old new same home v here = rw same (home v here)

-- The turns of a sweep.

-- a job is closed once its marks are swept, the calls that wait for it go on, and its root left its
-- parent
pub closed-here : (T : Setup) (i : ℕ) (x : JobRow) (s s1 s2 : Side) (o : Option KeyName) → s1 ≡ woken x.waiters (swept x s) → o ≡ left_parent s x →
    s2 ≡ parent_left T i x o s1 → s2 ≡ closed_here T i x s
unfolding closed_here
closed-here T i x s s1 s2 o here parent left = rw (left, parent, here) refl

pub finish-none : (T : Setup) (i n : ℕ) (s : Side) → finish T i n None s ≡ s
unfolding finish
finish-none T i zero s = refl
finish-none T i (suc n) s = refl

-- what is finished next, after a job was closed
pub finish-turn : (T : Setup) (i n m : ℕ) (x : JobRow) (up : Option Up) (s s3 : Side) (o p : Option JobRow) → m ≡ suc n → p ≡ Some x → up ≡ x.up →
    s3 ≡ closed T i x s → o ≡ next_done up s3.jobs → finish T i n o s3 ≡ finish T i m p s
unfolding finish
finish-turn T i n m x up s s3 o p one is same here next = rw (one, is, next, here, same) refl
