-- What no part of a revoke changes: where it is so of a side, it is so after each step of revokes, clears, requests and tokens, and of the end of what a VPE
-- holds.
use Rattle.std.proofs.Common.{◌≡◌, sym, ap, ◌∙◌, subst, is_some, refl, ℕ, ◌+◌, ◌-◌, Bool, true, false, not, ◌&&◌, List, [], ◌∷◌}
use Rattle.std.proofs.Common.{filter, map, Option, Some, None}
use Rattle.std.specs.Prelude.{◌==◌, if◌then◌else◌}
use Rattle.std.specs.List.{Contains, list_any}
use Rattle.std.proofs.lemmas.Bool.{cond_both, and_parts}
use Rattle.sem_key.specs.declared.object.Object.{Object}
use Rattle.sem_key.specs.KeyName.{KeyName}
use Rattle.sem_key.specs.Lists.{change, put}
use Rattle.sem_key.specs.Capability.{Capability}
use Rattle.sem_key.specs.CapList.{marked_by, restored, with_mark, is_marked_by}
use Rattle.sem_key.specs.KeyList.{without_key}
use Rattle.sem_key.specs.KeyName.{key_eq}
use Rattle.sem_key.specs.Region.{region, has_key}
use Rattle.sem_key.proofs.KeyTests.{Contains-from_has_key, has_key-from_Contains}
use Rattle.sem_key.proofs.Members.{Contains-from_filter, Contains-from_map}
use Rattle.sem_msg.specs.declared.code.Code.TheVariants.{Ok as OkCode}
use Rattle.sem_msg.specs.Codes.{code_number}
use Rattle.sem_msg.specs.declared.message.Message.{Message}
use Rattle.sem_msg.specs.declared.state.Parked.{Parked}
use Rattle.sem_msg.specs.declared.state.Parked.TheVariants.{ObtainWait, ObtainReady, ObtainCancelled, DelegateWait, DelegateReady, RevokeWait, Ready}
use Rattle.sem_msg.specs.declared.state.Up.{Up}
use Rattle.sem_msg.specs.Rows.{JobRow, Endpoint}
use Rattle.sem_msg.specs.JobRows.{with_number, without_number}
use Rattle.sem_msg.specs.VpeRows
use Rattle.sem_msg.specs.ParkedStates.{is_ready_with}
use Rattle.sem_msg.specs.Setup.{Setup}
use Rattle.sem_machine.specs.Sides.{Side, cap, parked, freed, parked_as, unlinked, mark_all, job_opened, job_removed, send}
use Rattle.sem_machine.specs.Revokes.{request_or_adopt, spared, root_spared, selectors_freed}
use Rattle.sem_machine.specs.Revokes.{all_freed, swept, woken, closed, settled, opened, begin}
use Rattle.sem_machine.specs.Revokes.{waiter_left, revoke_begun, clear_begun, revoke_requested, revoke_done}
use Rattle.sem_machine.specs.Asks.{promise_freed}
use Rattle.sem_machine.specs.Handles.{obtain_ready}
use Rattle.sem_machine.specs.Ends.{revoked_if_left}
use Rattle.sem_machine.proofs.Folds.{in_turn-keeps, option-keeps}
use Rattle.sem_revoke.proofs.Growing.{is_plain}
use Rattle.sem_revoke.proofs.Rowing.{revoked_if_there}
use Rattle.sem_revoke.proofs.KeptJobs.{region_marked, KeepsJobs, closed-kept, settled-kept, asks_for-kept, opened-kept, begin-kept, requested-kept, done-kept}

-- One capability comes of another: with its key, parent and object, no link more, and marked if the other was.
pub record IsThinned (d c : Capability) : Type 0 where
  pub key : c.key ≡ d.key
  pub parent : c.parent ≡ d.parent
  pub children : (k : KeyName) → has_key c.children k ≡ true → has_key d.children k ≡ true
  pub marks : is_some d.mark ≡ true → is_some c.mark ≡ true

abbrev pub Thins : List Capability → List Capability → Type 0
Thins xs ys = (c : Capability) → Contains ys c → (d : Capability) × Contains xs d × IsThinned d c

-- and one job of another: with its id and root, and keeping its root only if the other did
abbrev pub KeepsLess : List JobRow → List JobRow → Type 0
KeepsLess xs ys = (y : JobRow) → Contains ys y → (x : JobRow) × Contains xs x × (y.id ≡ x.id) × (y.root ≡ x.root) × (y.keep ≡ true → x.keep ≡ true)

itself : (c : Capability) → IsThinned c c
itself c = record { key = refl; parent = refl; children = λ k has. has; marks = λ is. is }

thin-change : (test : Capability → Bool) (f : Capability → Capability) → ((c : Capability) → IsThinned c (f c)) → (xs : List Capability) →
    Thins xs (change test f xs)
thin-change test f thin xs = λ c among.
    let o = Contains-from_map (λ (x : Capability). if test x then f x else x) xs c among in
    (o.0, o.1, subst (IsThinned o.0) o.2 (cond_both (test o.0) (f o.0) o.0 (IsThinned o.0) (λ _. thin o.0) (λ _. itself o.0)))

thin-filter : (test : Capability → Bool) (xs : List Capability) → Thins xs (filter test xs)
thin-filter test xs = λ c among. (c, (Contains-from_filter test xs c among).0, itself c)

thin-unlinked : (k : KeyName) (c : Capability) → IsThinned c (record c { children = without_key c.children k })
thin-unlinked k c =
    record {
      key = refl;
      parent = refl;
      children = λ q has. has_key-from_Contains c.children q
          (Contains-from_filter (λ x. not (key_eq x k)) c.children q (Contains-from_has_key (without_key c.children k) q has)).0;
      marks = λ is. is;
    }

thin-marked : (j : ℕ) (c : Capability) → IsThinned c (with_mark j c)
thin-marked j c = record { key = refl; parent = refl; children = λ q has. has; marks = λ is. refl }

less-change : (test : JobRow → Bool) (f : JobRow → JobRow) → ((x : JobRow) → ((f x).id ≡ x.id) × ((f x).root ≡ x.root) × ((f x).keep ≡ true → x.keep ≡ true)) →
    (xs : List JobRow) → KeepsLess xs (change test f xs)
less-change test f so xs = λ y among.
    let o = Contains-from_map (λ (x : JobRow). if test x then f x else x) xs y among in
    let is = cond_both (test o.0) (f o.0) o.0 (λ (z : JobRow). (z.id ≡ o.0.id) × (z.root ≡ o.0.root) × (z.keep ≡ true → o.0.keep ≡ true)) (λ _. so o.0)
    (λ _. (refl, refl, λ k. k)) in (
      o.0,
      o.1,
      ap (λ (z : JobRow). z.id) (sym o.2) ∙ is.0,
      ap (λ (z : JobRow). z.root) (sym o.2)
          ∙ is.1,
      λ keeps. is.2 (ap (λ (z : JobRow). z.keep) o.2 ∙ keeps),
    )

less-filter : (test : JobRow → Bool) (xs : List JobRow) → KeepsLess xs (filter test xs)
less-filter test xs = λ y among. (y, (Contains-from_filter test xs y among).0, refl, refl, λ k. k)

less-map : (f : JobRow → JobRow) → ((x : JobRow) → ((f x).id ≡ x.id) × ((f x).root ≡ x.root) × ((f x).keep ≡ true → x.keep ≡ true)) → (xs : List JobRow) →
    KeepsLess xs (map f xs)
less-map f so xs = λ y among.
    let o = Contains-from_map f xs y among in
    let is = so o.0 in (
      o.0,
      o.1,
      ap (λ (z : JobRow). z.id) (sym o.2) ∙ is.0,
      ap (λ (z : JobRow). z.root) (sym o.2)
          ∙ is.1,
      λ keeps. is.2 (ap (λ (z : JobRow). z.keep) o.2 ∙ keeps),
    )

-- the changes of a side that a revoke is made of
pub record IsSteady (P : Side → Type 0) : Type 0 where
  pub caps : (s : Side) (cs : List Capability) → Thins s.caps cs → P s → P (record s { caps = cs })
  -- the root of a job that was open, and kept its root
  pub restores : (s t : Side) (x : JobRow) → P s → Contains s.jobs x → x.keep ≡ true → P t → P (record t { caps = restored t.caps x.root })
  pub bound : (s : Side) (es : List (List (Option Endpoint))) → P s → P (record s { endpoints = es })
  pub jobs : (s : Side) (js : List JobRow) → KeepsLess s.jobs js → P s → P (record s { jobs = js })
  pub opens : (s : Side) (root : KeyName) (up : Option Up) (ws : List ℕ) → P s → P (job_opened root up ws false s)
  pub frees : (s : Side) (v sel : ℕ) → P s → P (freed v sel s)
  pub wakes : (s : Side) (v : ℕ) → P s → P (parked_as v (Ready (code_number OkCode)) s)
  pub sends : (s : Side) (j : ℕ) (m : Message) → is_plain m ≡ false → P s → P (send j m s)

module _ (P : Side → Type 0) (S : IsSteady P) where
  changed-steady : (t : Side) → P t → (j : ℕ) (f : JobRow → JobRow) →
      ((x : JobRow) → ((f x).id ≡ x.id) × ((f x).root ≡ x.root) × ((f x).keep ≡ true → x.keep ≡ true)) →
      P (record t { jobs = change (λ (x : JobRow). x.id == j) f t.jobs })
  changed-steady t is j f so = S.jobs t (change (λ (x : JobRow). x.id == j) f t.jobs) (less-change (λ (x : JobRow). x.id == j) f so t.jobs) is

  freed_rows-steady : (cs : List Capability) (t : Side) → P t → P (record t { vpes = all_freed cs t.vpes })
  freed_rows-steady cs t is = in_turn-keeps (λ rows. P (record t { vpes = rows })) (λ c rows. VpeRows.freed c.key.vpe c.selector rows)
      (λ c rows here. S.frees (record t { vpes = rows }) c.key.vpe c.selector here) cs t.vpes is

  pub unlinked-steady : (p k : KeyName) (t : Side) → P t → P (unlinked p k t)
  unlinked-steady p k t is =
      S.caps t (unlinked p k t).caps (thin-change (λ c. key_eq c.key p) (λ c. record c { children = without_key c.children k }) (thin-unlinked k) t.caps) is

  -- x is a job of a side before
  swept-steady : (x : JobRow) (s t : Side) → P s → Contains s.jobs x → P t → P (swept x t)
  swept-steady x s t was among is =
      let spares : P (root_spared x t) = spare x.keep refl in
      let free : P (selectors_freed x.id (root_spared x t)) = freed_rows-steady (marked_by x.id (root_spared x t).caps) (root_spared x t) spares in
      S.caps (selectors_freed x.id (root_spared x t)) (swept x t).caps (thin-filter (λ c. not (is_marked_by x.id c)) (root_spared x t).caps) free
    where
      spare : (b : Bool) → x.keep ≡ b → P (record t { caps = spared b x.root t.caps })
      spare true keeps = S.restores s t x was among keeps is
      spare false leaves = is

  woken-steady : (vs : List ℕ) (t : Side) → P t → P (woken vs t)
  woken-steady vs t is = in_turn-keeps (λ ps. P (record t { parks = ps })) (λ w ps. put None ps w (Some (Ready (code_number OkCode))))
      (λ w ps here. S.wakes (record t { parks = ps }) w here) vs t.parks is

  region_marked-steady : (root : KeyName) (up : Option Up) (ws : List ℕ) (keep : Bool) (t : Side) → P (job_opened root up ws keep t) →
      P (region_marked root up ws keep t)
  region_marked-steady root up ws keep t opens =
      let ks : List KeyName = region t.caps root in
      let one : Side = job_opened root up ws keep t in
      let marks : Side = mark_all ks t.next_job one in
      S.bound marks (region_marked root up ws keep t).endpoints
      (S.caps one marks.caps (thin-change (λ c. list_any (key_eq c.key) ks) (with_mark t.next_job) (thin-marked t.next_job) t.caps) opens)

  kept : KeepsJobs P
  kept = record {
    raises = λ t is j. changed-steady t is j (λ x. record x { count = x.count + 1 }) (λ x. (refl, refl, λ k. k));
    lowers = λ t is j. changed-steady t is j (λ x. record x { count = x.count - 1 }) (λ x. (refl, refl, λ k. k));
    ups = λ t is up m. changed-steady t is m (λ x. record x { up = Some up; keep = false }) (λ x. (refl, refl, λ k. absurd cc));
    marks = λ t is root up. region_marked-steady root up [] false t (S.opens t root up [] is);
    sweeps = λ t is x among. woken-steady x.waiters (swept x (job_removed x.id t)) (swept-steady x t (job_removed x.id t) is among
        (S.jobs t (job_removed x.id t).jobs (less-filter (λ (y : JobRow). not (y.id == x.id)) t.jobs) is));
    frees = λ t is v sel. S.frees t v sel is;
    unlinks = λ t is p k. unlinked-steady p k t is;
    sends = λ t is j m plain. S.sends t j m plain is;
  }

  pub closed-steady : (T : Setup) (i : ℕ) (x : JobRow) (t : Side) → Contains t.jobs x → P t → P (closed T i x t)
  closed-steady = closed-kept P kept

  pub settled-steady : (T : Setup) (i j : ℕ) (t : Side) → P t → P (settled T i j t)
  settled-steady = settled-kept P kept

  pub asks_for-steady : (T : Setup) (i j : ℕ) (k : KeyName) (t : Side) → P t → P (request_or_adopt T i j k t)
  asks_for-steady = asks_for-kept P kept

  -- a job is opened
  pub opened-steady : (T : Setup) (i : ℕ) (root : KeyName) (up : Option Up) (ws : List ℕ) (keep : Bool) (t : Side) → P (job_opened root up ws keep t) →
      P (opened T i root up ws keep t)
  opened-steady T i root up ws keep t opens = opened-kept P kept T i root up ws keep t (region_marked-steady root up ws keep t opens)

  pub begin-steady : (T : Setup) (i : ℕ) (root : KeyName) (up : Option Up) (ws : List ℕ) (t : Side) → P t → P (begin T i root up ws false t)
  begin-steady T i root up ws t is = begin-kept P kept T i root up ws false t (region_marked-steady root up ws false t (S.opens t root up ws is))

  -- a waiting obtain gives its promise up
  pub promise_freed-steady : (t : Side) → P t → (p : Option Parked) (v : ℕ) → P (promise_freed p v t)
  promise_freed-steady t is None v = is
  promise_freed-steady t is (Some (ObtainWait number sel)) v = S.frees t v sel is
  promise_freed-steady t is (Some (ObtainReady key parent object sel)) v = is
  promise_freed-steady t is (Some ObtainCancelled) v = is
  promise_freed-steady t is (Some (DelegateWait parent)) v = is
  promise_freed-steady t is (Some (DelegateReady parent key)) v = is
  promise_freed-steady t is (Some (RevokeWait j)) v = is
  promise_freed-steady t is (Some (Ready number)) v = is

  -- a waiting obtain turns ready
  pub obtain_ready-steady : (parent key : KeyName) (object : Object) (t : Side) → P t → ((sel : ℕ) → P (parked_as key.vpe (ObtainReady key parent object sel) t)) →
      (p : Option Parked) → P (obtain_ready parent key object p t)
  obtain_ready-steady parent key object t is readies None = is
  obtain_ready-steady parent key object t is readies (Some (ObtainWait number sel)) = readies sel
  obtain_ready-steady parent key object t is readies (Some (ObtainReady key' parent' object' sel)) = is
  obtain_ready-steady parent key object t is readies (Some ObtainCancelled) = is
  obtain_ready-steady parent key object t is readies (Some (DelegateWait parent')) = is
  obtain_ready-steady parent key object t is readies (Some (DelegateReady parent' key')) = is
  obtain_ready-steady parent key object t is readies (Some (RevokeWait j)) = is
  obtain_ready-steady parent key object t is readies (Some (Ready number)) = is

  -- what a VPE holds still when it ends
  pub rest-steady : (T : Setup) (i : ℕ) (k : KeyName) (t : Side) → P t → P (revoked_if_left T i k t)
  rest-steady T i k t is = by_cap (cap t k)
    where
      by_cap : (o : Option Capability) → P (revoked_if_there T i k o t)
      by_cap None = is
      by_cap (Some c) = option-keeps P (λ (m : ℕ). t) c.mark (begin T i k None [] false t) (λ m marked. is) (begin-steady T i k None [] t is)

  -- the VPE waits, and then the job begins, or is waited for
  pub revoked-steady : (T : Setup) (i u : ℕ) (k : KeyName) (m : Option ℕ) (t : Side) → ((j : ℕ) → P (parked_as u (RevokeWait j) t)) →
      P (revoke_begun T i u k m t)
  revoked-steady T i u k None t waits = begin-steady T i k None (u ∷ []) (parked_as u (RevokeWait t.next_job) t) (waits t.next_job)
  revoked-steady T i u k (Some j) t waits = changed-steady (parked_as u (RevokeWait j) t) (waits j) j (λ x. record x { waiters = with_number x.waiters u })
      (λ x. (refl, refl, λ keeps. keeps))

  pub cleared-steady : (T : Setup) (i u : ℕ) (k : KeyName) (t : Side) → P (job_opened k None (u ∷ []) true (parked_as u (RevokeWait t.next_job) t)) →
      P (clear_begun T i u k t)
  cleared-steady T i u k t opens = begin-kept P kept T i k None (u ∷ []) true (parked_as u (RevokeWait t.next_job) t)
      (region_marked-steady k None (u ∷ []) true (parked_as u (RevokeWait t.next_job) t) opens)

  pub requested-steady : (T : Setup) (i from j : ℕ) (k : KeyName) (o : Option Capability) (t : Side) →
      ((u : Side) → is_ready_with k (parked t k.vpe) ≡ true → u.parks ≡ t.parks → P u → P (parked_as k.vpe ObtainCancelled u)) → P t →
      P (revoke_requested T i from j k o t)
  requested-steady = requested-kept P kept

  pub done-steady : (T : Setup) (i j : ℕ) (t : Side) → P t → P (revoke_done T i j t)
  done-steady = done-kept P kept

  pub left_job-steady : (j v : ℕ) (t : Side) → P t → P (waiter_left j v t)
  left_job-steady j v t is =
      S.jobs t (waiter_left j v t).jobs
      (less-map (λ (x : JobRow). record x { waiters = without_number x.waiters v; keep = x.keep && not ((x.id == j) && (x.root.vpe == v)) })
      (λ x. (refl, refl, λ keeps. (and_parts x.keep (not ((x.id == j) && (x.root.vpe == v))) keeps).0)) t.jobs) is
