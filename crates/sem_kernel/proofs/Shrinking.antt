-- What a job that is opened or finished leaves of the capabilities: no more of them, of their links, and of the links of unmarked ones.
use Rattle.std.proofs.Common.{◌≡◌, ℕ, zero, suc, ◌+◌, ◌≤◌, Bool, true, false, not, is_none, ◌&&◌, List, [], ◌∷◌, length, Option, Some, None, refl, ap}
use Rattle.std.proofs.Common.{if◌then◌else◌, inl, inr, arith, length-append}
use Rattle.std.specs.List.{filter, flat_map, sum_by, list_any}
use Rattle.std.proofs.lemmas.Bool.{cases_Bool, cond_both, cond-true, cond-false}
use Rattle.std.proofs.lemmas.List.Sums.{sum_by-cons}
use Rattle.sem_key.specs.KeyName.{KeyName, key_eq}
use Rattle.sem_key.specs.KeyList.{without_key}
use Rattle.sem_key.specs.Capability.{Capability}
use Rattle.sem_key.specs.CapList.{link_count, is_marked_by, with_mark}
use Rattle.sem_key.specs.Region.{has_key, region, linked_from, children_of, all_marked}
use Rattle.sem_msg.specs.declared.state.Up.{Up}
use Rattle.sem_msg.specs.declared.state.Up.TheVariants.{Local, Remote}
use Rattle.sem_msg.specs.declared.message.Message.TheVariants.{Unlink}
use Rattle.sem_msg.specs.Rows.{JobRow}
use Rattle.sem_msg.specs.JobRows.{next_done}
use Rattle.sem_msg.specs.Setup.{Setup}
use Rattle.sem_msg.specs.Lookups.{is_local, owner_of}
use Rattle.sem_machine.specs.Sides.{Side, unlinked, job_removed, send}
use Rattle.sem_machine.specs.Revokes.{spared, swept, woken, parent_left, left_parent, up_told, closed_here, closed, finish}
use Rattle.sem_machine.proofs.Weighing.{weigh-filter, change-less}
use Rattle.sem_machine.proofs.Lengths.{key_set-shorter}
use Rattle.sem_kernel.specs.Rooms.{open_links}

-- Finished: whatever a capability weighs, if it is no more where it loses its links and mark, or a link.
module _ (w : Capability → ℕ) (restores : (c : Capability) → w (record c { children = []; mark = None }) ≤ w c) (unlinks : (c : Capability) (k : KeyName) →
    w (record c { children = without_key c.children k }) ≤ w c) (T : Setup) (i : ℕ) where
  abbrev all : List Capability → ℕ
  all cs = sum_by w cs

  spared-less : (keep : Bool) (root : KeyName) (cs : List Capability) → all (spared keep root cs) ≤ all cs
  spared-less true root cs = change-less w (λ (c : Capability). key_eq c.key root) (λ c. record c { children = []; mark = None }) cs restores
  spared-less false root cs = omega arith

  swept-less : (x : JobRow) (s : Side) → all (swept x s).caps ≤ all s.caps
  swept-less x s =
      let left = weigh-filter w (λ (c : Capability). not (is_marked_by x.id c)) (spared x.keep x.root s.caps) in
      let spares = spared-less x.keep x.root s.caps in
      omega (arith, left, spares)

  -- the kernel of a remote parent is told, or not
  remote-caps : (id count : ℕ) (root : KeyName) (up : Option Up) (waiters : List ℕ) (keep : Bool) (p : KeyName) (s : Side) → is_local T i p ≡ false →
      (parent_left T i (record { id = id; root = root; up = up; waiters = waiters; count = count; keep = keep }) (Some p) s).caps ≡ s.caps
  remote-caps id count root None waiters keep p s remote =
      ap (λ (u : Side). u.caps) (cond-false (is_local T i p) (unlinked p root s) (send (owner_of T p) (Unlink p root) s) remote)
  remote-caps id count root (Some (Local j)) waiters keep p s remote =
      ap (λ (u : Side). u.caps) (cond-false (is_local T i p) (unlinked p root s) (send (owner_of T p) (Unlink p root) s) remote)
  remote-caps id count root (Some (Remote kernel j)) waiters keep p s remote =
      ap (λ (u : Side). u.caps) (cond-false (is_local T i p) (unlinked p root s) s remote)

  local-caps : (id count : ℕ) (root : KeyName) (up : Option Up) (waiters : List ℕ) (keep : Bool) (p : KeyName) (s : Side) → is_local T i p ≡ true →
      (parent_left T i (record { id = id; root = root; up = up; waiters = waiters; count = count; keep = keep }) (Some p) s).caps ≡ (unlinked p root s).caps
  local-caps id count root None waiters keep p s here =
      ap (λ (u : Side). u.caps) (cond-true (is_local T i p) (unlinked p root s) (send (owner_of T p) (Unlink p root) s) here)
  local-caps id count root (Some (Local j)) waiters keep p s here =
      ap (λ (u : Side). u.caps) (cond-true (is_local T i p) (unlinked p root s) (send (owner_of T p) (Unlink p root) s) here)
  local-caps id count root (Some (Remote kernel j)) waiters keep p s here = ap (λ (u : Side). u.caps) (cond-true (is_local T i p) (unlinked p root s) s here)

  left-less : (x : JobRow) (o : Option KeyName) (s : Side) → all (parent_left T i x o s).caps ≤ all s.caps
  left-less x None s = omega arith
  left-less x (Some p) s = elim (cases_Bool (is_local T i p)) [
    | inl here ↦
        let whole = ap all (local-caps x.id x.count x.root x.up x.waiters x.keep p s here) in
        let less = change-less w (λ (c : Capability). key_eq c.key p) (λ c. record c { children = without_key c.children x.root }) s.caps
        (λ c. unlinks c x.root) in
        omega (arith, whole, less)
    | inr remote ↦
        let whole = ap all (remote-caps x.id x.count x.root x.up x.waiters x.keep p s remote) in
        omega (arith, whole)
  ]

  up_told-caps : (up : Option Up) (s : Side) → (up_told up s).caps ≡ s.caps
  up_told-caps None s = refl
  up_told-caps (Some (Local j)) s = refl
  up_told-caps (Some (Remote kernel j)) s = refl

  closed-less : (x : JobRow) (s : Side) → all (closed T i x s).caps ≤ all s.caps
  unfolding closed_here
  closed-less x s =
      let r : Side = job_removed x.id s in
      let sweeps = swept-less x r in
      let leaves = left-less x (left_parent r x) (woken x.waiters (swept x r)) in
      let told = ap all (up_told-caps x.up (closed_here T i x r)) in
      omega (arith, sweeps, leaves, told)

  pub finish-less : (n : ℕ) (o : Option JobRow) (s : Side) → all (finish T i n o s).caps ≤ all s.caps
  unfolding finish
  finish-less zero o s = omega arith
  finish-less (suc n) None s = omega arith
  finish-less (suc n) (Some x) s =
      let one = closed-less x s in
      let rest = finish-less n (next_done x.up (closed T i x s).jobs) (closed T i x s) in
      omega (arith, one, rest)

-- Links of unmarked capabilities.

abbrev open_weight : Capability → ℕ
open_weight c = if is_none c.mark then length c.children else 0

-- what is marked has no open links any more
pub opened-links : (ks : List KeyName) (j : ℕ) (cs : List Capability) → open_links (all_marked ks j cs) + length (linked_from cs ks) ≤ open_links cs
opened-links ks j [] = omega arith
opened-links ks j (c ∷ cs) =
    let f : Capability → Capability = λ x. if list_any (key_eq x.key) ks then with_mark j x else x in
    let new = sum_by-cons open_weight (f c) (all_marked ks j cs) in
    let old = sum_by-cons open_weight c cs in
    let rest = opened-links ks j cs in
    let passes : Bool = is_none c.mark && has_key ks c.key in
    elim (cases_Bool (has_key ks c.key)) [
      | inl has ↦
          let marked : open_weight (f c) ≡ 0 = ap open_weight (cond-true (has_key ks c.key) (with_mark j c) c has) in
          elim (cases_Bool (is_none c.mark)) [
            | inl unmarked ↦
                let takes : linked_from (c ∷ cs) ks ≡ flat_map (λ (x : Capability). x.children) (c ∷ filter (λ x. is_none x.mark && has_key ks x.key) cs) =
                ap (λ (xs : List Capability). flat_map (λ (x : Capability). x.children) xs)
                (cond-true passes _ _ (both (is_none c.mark) (has_key ks c.key) unmarked has)) in
                let more = length-append c.children (linked_from cs ks) in
                let weighs : open_weight c ≡ length c.children = cond-true (is_none c.mark) (length c.children) 0 unmarked in
                omega (arith, new, old, rest, marked, ap length takes, more, weighs)
            | inr was ↦
                let passed : linked_from (c ∷ cs) ks ≡ linked_from cs ks = ap (λ (xs : List Capability). flat_map (λ (x : Capability). x.children) xs)
                (cond-false passes _ _ (first_fails (is_none c.mark) (has_key ks c.key) was)) in
                omega (arith, new, old, rest, marked, ap length passed)
          ]
      | inr other ↦
          let same : open_weight (f c) ≡ open_weight c = ap open_weight (cond-false (has_key ks c.key) (with_mark j c) c other) in
          let passed : linked_from (c ∷ cs) ks ≡ linked_from cs ks = ap (λ (xs : List Capability). flat_map (λ (x : Capability). x.children) xs)
          (cond-false passes _ _ (second_fails (is_none c.mark) (has_key ks c.key) other)) in
          omega (arith, new, old, rest, same, ap length passed)
    ]
  where
    both : (a b : Bool) → a ≡ true → b ≡ true → (a && b) ≡ true
    both a b holds also = cc

    first_fails : (a b : Bool) → a ≡ false → (a && b) ≡ false
    first_fails a b fails = cc

    second_fails : (a b : Bool) → b ≡ false → (a && b) ≡ false
    second_fails true b fails = fails
    second_fails false b fails = refl

pub children-links : (j : ℕ) (cs : List Capability) (root : KeyName) →
    open_links (all_marked (region cs root) j cs) + length (children_of cs (region cs root)) ≤ open_links cs
children-links j cs root =
    let set = key_set-shorter (linked_from cs (region cs root)) in
    let links = opened-links (region cs root) j cs in
    omega (arith, set, links)

pub open-few : (cs : List Capability) → open_links cs ≤ link_count cs
open-few [] = omega arith
open-few (c ∷ cs) =
    let new = sum_by-cons open_weight c cs in
    let old = sum_by-cons (λ (x : Capability). length x.children) c cs in
    let here : open_weight c ≤ length c.children = cond_both (is_none c.mark) (length c.children) 0 (λ n. n ≤ length c.children) (λ _. omega arith)
    (λ _. omega arith) in
    let rest = open-few cs in
    omega (arith, new, old, here, rest)
