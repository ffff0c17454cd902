-- Who revokes waits until what the call cuts off is gone: in the middle of a row a call that waits has its key marked by its job, or gone, and one that will
-- succeed has done its work.
use Rattle.std.proofs.Common.{◌≡◌, ◌⊎◌, ℕ, zero, suc, ◌+◌, ◌-◌, ◌<◌, Bool, true, false, not, ◌&&◌, List, [], ◌∷◌, length, Option, Some, None, refl, sym, ap}
use Rattle.std.proofs.Common.{◌∙◌, subst, inl, inr, arith, eq-eqb}
use Rattle.std.specs.Prelude.{◌==◌, if◌then◌else◌}
use Rattle.std.specs.List.{Contains, list_any}
use Rattle.std.specs.Option.{option_map, option_map_or}
use Rattle.std.proofs.lemmas.Bool.{cases_eq, false_from_ne_true, not_from_false, ne_eqb, and_parts, and_from, cases_Bool, cond-true, cond-false, cond_both}
use Rattle.std.proofs.lemmas.Bool.{eqb-true, true≢false, not-true}
use Rattle.std.proofs.lemmas.Option.{same_Some}
use Rattle.std.proofs.lemmas.List.Elements.{Contains-append_cases}
use Rattle.sem_key.specs.KeyName.{KeyName, key_eq}
use Rattle.sem_key.specs.KeyList.{without_key}
use Rattle.sem_key.specs.Lists.{change, put}
use Rattle.sem_key.specs.Capability.{Capability}
use Rattle.sem_key.specs.CapList.{is_marked_by, marked_by}
use Rattle.sem_msg.specs.declared.message.Message.{Message}
use Rattle.sem_msg.specs.declared.message.Message.TheVariants.{RevokeReq, RevokeDone, Unlink}
use Rattle.sem_msg.specs.declared.state.Ask.{Ask}
use Rattle.sem_msg.specs.declared.state.Ask.TheVariants.{Obtain as ObtainAsk, Delegate as DelegateAsk}
use Rattle.sem_msg.specs.declared.state.Parked.{Parked}
use Rattle.sem_msg.specs.declared.state.Parked.TheVariants.{ObtainWait, ObtainReady, ObtainCancelled, DelegateWait, DelegateReady, RevokeWait, Ready}
use Rattle.sem_msg.specs.declared.state.Slot.TheVariants.{Free}
use Rattle.sem_msg.specs.declared.state.Up.{Up}
use Rattle.sem_msg.specs.declared.state.Up.TheVariants.{Local, Remote}
use Rattle.sem_msg.specs.Rows.{JobRow, VpeRow}
use Rattle.sem_msg.specs.JobRows.{without_number}
use Rattle.sem_msg.specs.ParkedStates.{is_ready_with}
use Rattle.sem_msg.specs.Setup.{Setup}
use Rattle.sem_msg.specs.Lookups.{owner_of, is_local, kernel_of}
use Rattle.sem_machine.specs.Sides.{Side, row, is_alive, cap, job, parked, freed, ready, parked_as, unparked, with_row, unlinked, mark_all, unbind_all}
use Rattle.sem_machine.specs.Sides.{job_opened, job_removed, send}
use Rattle.sem_machine.specs.Asks.{asker, is_unawaited, waits_for, promise_freed, call_refused, refusal_sent, ask_refused}
use Rattle.sem_key.specs.Region.{has_key, region, children_of}
use Rattle.sem_machine.specs.Revokes.{count_raised, count_lowered, with_up, other_marker, adopted, request_or_adopt, spared, swept, woken, parent_left}
use Rattle.sem_machine.specs.Revokes.{left_parent, waiter_left, up_told, closed, finish, settled, begin, ready_freed, obtain_cancelled, request_begun}
use Rattle.sem_machine.specs.Revokes.{revoke_requested, revoke_done, closed_here, opened}
use Rattle.sem_msg.specs.JobRows.{if_done, next_done}
use Rattle.sem_machine.specs.Ends.{call_ended, revoked_if_left}
use Rattle.sem_key.proofs.Members.{Contains-nil, Contains-cons_cases, Contains-filter, Contains-from_filter, Contains-from_map}
use Rattle.sem_key.proofs.Regions.{reached_cap, region-exact}
use Rattle.sem_safety.proofs.JobIds.{done-among, next-among}
use Rattle.sem_safety.specs.Observations.{ObservedSide, at}
use Rattle.sem_machine.proofs.Folds.{in_turn-keeps}
use Rattle.sem_safety.proofs.Updates.{seen-mark_all, seen-cap_changed}
use Rattle.sem_revoke.proofs.Viewing.{Rises, rises_distinct}
use Rattle.sem_revoke.proofs.Closing.{changed-rises}
use Rattle.sem_revoke.proofs.Chaining.{back-swept}
use Rattle.sem_sound.proofs.Rising.{filtered-rises}
use Rattle.sem_machine.proofs.Late.{closed_here-late}
use Rattle.sem_key.proofs.Puts.{get_or-put_same, get_or-put_other}
use Rattle.sem_key.proofs.KeyTests.{key_eq-true}
use Rattle.sem_key.specs.Region.Reached.{at_root}
use Rattle.sem_msg.specs.declared.code.Code.{Code}
use Rattle.sem_msg.specs.Codes.{code_number}
use Rattle.sem_msg.specs.VpeRows
use Rattle.sem_msg.specs.Rows.{Endpoint, no_vpe}
use Rattle.sem_revoke.proofs.Rowing.{settled_if_there, revoked_if_there}
use Rattle.sem_revoke.proofs.Waits.{Serves, IsClosing, Resting, CapsOn, JobsOn, same-caps, same-jobs, resting-on, asks-rest, asks-wait, ready-rest}
use Rattle.sem_revoke.proofs.Waits.{unlinked-caps, parked-here, parked-other, woken-at, wait-id, row-at}

-- pend tells which call cuts off which key, by its own key
module _ (pend : ℕ → KeyName → KeyName → Type 0) where
  -- closes is the job that has swept what it marked
  pub record Waiting (closes : Option JobRow) (s : Side) : Type 0 where
    pub rests : (v : ℕ) (k r : KeyName) → pend v k r → Resting closes s k r v (parked s v)
    pub waiters : (x : JobRow) → Contains s.jobs x → (IsClosing closes x.id → ⊥) → (v : ℕ) → Contains x.waiters v → parked s v ≡ Some (RevokeWait x.id)
    -- a root that is kept is one of a VPE that waits
    pub keepers : (x : JobRow) → Contains s.jobs x → x.keep ≡ true → Contains x.waiters x.root.vpe
    -- the root of a job is marked by it, if it is held
    pub roots : (x : JobRow) → Contains s.jobs x → (IsClosing closes x.id → ⊥) → (c : Capability) → cap s x.root ≡ Some c → c.mark ≡ Some x.id
    pub drawn : (x : JobRow) → Contains s.jobs x → x.id < s.next_job
    pub rises : Rises s.caps

  module _ (closes : Option JobRow) (s : Side) (R : Waiting closes s) where
    -- what is kept of the VPEs changes, and nobody comes back to life
    pub waiting-rows : (vs : List VpeRow) (es : List (List (Option Endpoint))) →
        ((w : ℕ) → is_alive s w ≡ false → is_alive (record s { vpes = vs; endpoints = es }) w ≡ false) → Waiting closes (record s { vpes = vs; endpoints = es })
    waiting-rows vs es dead = record {
      rests = λ w k r is. resting-on closes s (record s { vpes = vs; endpoints = es }) k r w (parked s w)
          (same-caps k r s (record s { vpes = vs; endpoints = es }) (λ q. refl)) (same-jobs k r w s (record s { vpes = vs; endpoints = es }) refl) (omega arith)
          (dead w) (R.rests w k r is);
      waiters = R.waiters;
      keepers = R.keepers;
      roots = R.roots;
      drawn = R.drawn;
      rises = R.rises;
    }

    -- a row that changes
    pub row-kept : (v : ℕ) (f : VpeRow → VpeRow) → ((row s v).alive ≡ false → (f (row s v)).alive ≡ false) → Waiting closes (with_row v f s)
    row-kept v f dead = waiting-rows (put no_vpe s.vpes v (f (row s v))) s.endpoints (λ w down. ap (λ (r : VpeRow). r.alive) (row-at v f s w)
        ∙ alive-same w down)
      where
        alive-same : (w : ℕ) → (row s w).alive ≡ false → (at v (f (row s v)) (row s) w).alive ≡ false
        alive-same w down = elim (cases_Bool (w == v)) [
          | inl here ↦ ap (λ (r : VpeRow). r.alive) (cond-true (w == v) (f (row s v)) (row s w) here)
              ∙ dead (ap (λ n. (row s n).alive) (sym (eqb-true w v here)) ∙ down)
          | inr other ↦ ap (λ (r : VpeRow). r.alive) (cond-false (w == v) (f (row s v)) (row s w) other) ∙ down
        ]

    -- the call of a VPE comes into a state that suits those that wait there
    pub waiting-parked : (v : ℕ) (p : Option Parked) → ((k r : KeyName) → pend v k r → Resting closes s k r v p) →
        ((x : JobRow) → Contains s.jobs x → (IsClosing closes x.id → ⊥) → Contains x.waiters v → p ≡ Some (RevokeWait x.id)) →
        Waiting closes (record s { parks = put None s.parks v p })
    waiting-parked v p suits waits' = record {
      rests = λ w k r is. elim (cases_eq w v) [
        | inl here ↦ subst (Rests w k r) (sym (ap (parked t) here ∙ parked-here s v p))
            (on w k r p (subst (λ z. Resting closes s k r z p) (sym here) (suits k r (subst (λ z. pend z k r) here is))))
        | inr other ↦ subst (Rests w k r) (sym (parked-other s v p w other)) (on w k r (parked s w) (R.rests w k r is))
      ];
      waiters = λ x among open_ w waits. elim (cases_eq w v) [
        | inl here ↦ ap (parked t) here ∙ (parked-here s v p ∙ waits' x among open_ (subst (Contains x.waiters) here waits))
        | inr other ↦ parked-other s v p w other ∙ R.waiters x among open_ w waits
      ];
      keepers = R.keepers;
      roots = R.roots;
      drawn = R.drawn;
      rises = R.rises;
    }
      where
        t : Side
        t = record s { parks = put None s.parks v p }

        Rests : ℕ → KeyName → KeyName → Option Parked → Type 0
        Rests w k r q = Resting closes t k r w q

        on : (w : ℕ) (k r : KeyName) (q : Option Parked) → Resting closes s k r w q → Resting closes t k r w q
        on w k r q is = resting-on closes s t k r w q (same-caps k r s t (λ z. refl)) (same-jobs k r w s t refl) (omega arith) (λ down. down) is

    pub waiting-freed : (v sel : ℕ) → Waiting closes (freed v sel s)
    waiting-freed v sel = row-kept v (λ r. record r { slots = put Free r.slots sel Free }) (λ down. down)

    pub waiting-send : (j : ℕ) (m : Message) → Waiting closes (send j m s)
    waiting-send j m =
        record {
          rests = λ v k r is. resting-on closes s (send j m s) k r v (parked s v) (same-caps k r s (send j m s) (λ q. refl))
              (same-jobs k r v s (send j m s) refl) (omega arith) (λ down. down) (R.rests v k r is);
          waiters = R.waiters;
          keepers = R.keepers;
          roots = R.roots;
          drawn = R.drawn;
          rises = R.rises;
        }

    -- the jobs change: each was there, with the same root and the same who wait, and keeps nothing that it did not keep
    pub waiting-jobs : (xs : List JobRow)
        → ((y : JobRow) → Contains xs y → (x : JobRow) × Contains s.jobs x × (x.id ≡ y.id) × (x.root ≡ y.root) × (y.keep ≡ true → x.keep ≡ true)
        × (y.waiters ≡ x.waiters))
        → Waiting closes (record s { jobs = xs })
    waiting-jobs xs was = record {
      rests = λ v k r is. resting-on closes s (record s { jobs = xs }) k r v (parked s v) (same-caps k r s (record s { jobs = xs }) (λ q. refl)) (jobs k r v)
          (omega arith) (λ down. down) (R.rests v k r is);
      waiters = λ y among open_ v waits. let x = was y among in
          R.waiters x.0 x.1 (λ closing. open_ (subst (IsClosing closes) x.2 closing)) v (subst (λ ws. Contains ws v) x.5 waits)
          ∙ ap (λ n. Some (RevokeWait n)) x.2;
      keepers = λ y among keeps. let x = was y among in
          subst (λ ws. Contains ws y.root.vpe) (sym x.5) (subst (λ (q : KeyName). Contains x.0.waiters q.vpe) x.3 (R.keepers x.0 x.1 (x.4 keeps)));
      roots = λ y among open_ c held. let x = was y among in R.roots x.0 x.1 (λ closing. open_ (subst (IsClosing closes) x.2 closing)) c (ap (cap s) x.3 ∙ held)
          ∙ ap Some x.2;
      drawn = λ y among. let x = was y among in let low = R.drawn x.0 x.1 in let same = x.2 in omega (arith, low, same);
      rises = R.rises;
    }
      where
        jobs : (k r : KeyName) (v : ℕ) → JobsOn k r v s (record s { jobs = xs })
        jobs k r v y among low =
            let x = was y among in (
              x.0,
              x.1,
              x.2,
              λ (waits, leaves). (
                subst (λ ws. Contains ws v) (sym x.5) waits,
                λ same root. false_from_ne_true y.keep (λ keeps. true≢false (sym (x.4 keeps) ∙ leaves same (x.3 ∙ root))),
              ),
            )

    -- a change of one job
    pub waiting-changed : (j : ℕ) (f : JobRow → JobRow) →
        ((x : JobRow) → ((f x).id ≡ x.id) × ((f x).root ≡ x.root) × ((f x).keep ≡ true → x.keep ≡ true) × ((f x).waiters ≡ x.waiters)) →
        Waiting closes (record s { jobs = change (λ x. x.id == j) f s.jobs })
    waiting-changed j f same = waiting-jobs (change (λ x. x.id == j) f s.jobs) (λ y among.
        let origin = Contains-from_map (λ (x : JobRow). if x.id == j then f x else x) s.jobs y among in
        let x : JobRow = origin.0 in
        let keeps : ((if x.id == j then f x else x).id ≡ x.id) × ((if x.id == j then f x else x).root ≡ x.root) × ((if x.id == j then f x else x).keep ≡ true →
        x.keep ≡ true) × ((if x.id == j then f x else x).waiters ≡ x.waiters) =
        cond_both (x.id == j) (f x) x (λ (z : JobRow). (z.id ≡ x.id) × (z.root ≡ x.root) × (z.keep ≡ true → x.keep ≡ true)
        × (z.waiters ≡ x.waiters)) (λ _. same x) (λ _. (refl, refl, λ keep. keep, refl)) in (
          x,
          origin.1,
          sym keeps.0 ∙ ap (λ (z : JobRow). z.id) origin.2,
          sym keeps.1 ∙ ap (λ (z : JobRow). z.root) origin.2,
          λ kept. keeps.2 (ap (λ (z : JobRow). z.keep) origin.2 ∙ kept),
          ap (λ (z : JobRow). z.waiters) (sym origin.2) ∙ keeps.3,
        ))

    pub waiting-unlinked : (p q : KeyName) → Waiting closes (unlinked p q s)
    waiting-unlinked p q = record {
      rests = λ v k r is. resting-on closes s (unlinked p q s) k r v (parked s v) (unlinked-caps s p q k r) (same-jobs k r v s (unlinked p q s) refl)
          (omega arith) (λ down. down) (R.rests v k r is);
      waiters = R.waiters;
      keepers = R.keepers;
      roots = λ x among open_ c held. let d = unlinked-caps s p q x.root x.root c held in d.2 x.id (R.roots x among open_ d.0 d.1);
      drawn = R.drawn;
      rises = changed-rises (λ c. key_eq c.key p) (λ (c : Capability). record c { children = without_key c.children q }) (λ c. refl) s.caps R.rises;
    }

  -- A job begins: it is opened, and its region marked.
  module _ (s : Side) (root : KeyName) (up : Option Up) (vs : List ℕ) (keep : Bool) (R : Waiting None s) (parks : (v : ℕ) → Contains vs v →
      parked s v ≡ Some (RevokeWait s.next_job)) (keeper : keep ≡ true → Contains vs root.vpe) (fresh_root : (c : Capability) → cap s root ≡ Some c →
      c.mark ≡ None) where
    abbrev j : ℕ
    j = s.next_job

    abbrev ks : List KeyName
    ks = region s.caps root

    abbrev new : JobRow
    new = record { id = j; root = root; up = up; waiters = vs; count = 0; keep = keep }

    abbrev pub begun : Side
    begun = unbind_all ks (mark_all ks j (job_opened root up vs keep s))

    -- what is in the region was not marked, and is now; the rest is as it was
    begun-caps : (q : KeyName) (c : Capability) → cap begun q ≡ Some c → (d : Capability) × (cap s q ≡ Some d)
        × (((d.mark ≡ None) × (c.mark ≡ Some j)) ⊎ (c.mark ≡ d.mark)) × (c.children ≡ d.children)
    begun-caps q c held =
        let seen = ap (λ (z : ObservedSide). z.cap q) (seen-mark_all ks j (job_opened root up vs keep s)) in
        elim (cases_Bool (has_key ks q)) [
          | inl inside ↦
              let d = reached_cap s.caps root q ((region-exact s.caps root q R.rises).0 inside) in
              let same : record d.0 { mark = Some j } ≡ c =
              same_Some (record d.0 { mark = Some j }) c (sym (ap (option_map {T = Capability} (λ x. record x { mark = Some j })) d.1)
              ∙ (sym (seen ∙ cond-true (has_key ks q) (option_map {T = Capability} (λ x. record x { mark = Some j }) (cap s q)) (cap s q) inside)
              ∙ held)) in
              (d.0, d.1, inl (d.2, ap (λ (x : Capability). x.mark) (sym same)), ap (λ (x : Capability). x.children) (sym same))
          | inr out ↦ (
            c,
            sym (seen ∙ cond-false (has_key ks q) (option_map {T = Capability} (λ x. record x { mark = Some j }) (cap s q)) (cap s q) out)
                ∙ held,
            inr refl,
            refl,
          )
        ]

    begun-on : (k r : KeyName) → CapsOn k r s begun
    begun-on k r c held =
        let d = begun-caps r c held in (
          d.0,
          d.1,
          λ n marked. elim d.2 [
            | inl (none, now) ↦ let no' : None ≡ Some n = sym none ∙ marked in absurd cc
            | inr same ↦ same ∙ marked
          ],
          λ none. ap (λ xs. has_key xs k) d.3 ∙ none,
        )

    pub begun-jobs : (x : JobRow) → Contains begun.jobs x → Contains s.jobs x ⊎ (new ≡ x)
    begun-jobs x among = elim (Contains-append_cases s.jobs (new ∷ []) x among) [
      | inl before ↦ inl before
      | inr last ↦ elim (Contains-cons_cases new [] x last) [ inl same ↦ inr same | inr none ↦ absurd (Contains-nil x none) ]
    ]

    -- the root, which is held unmarked, is marked now
    pub root-begun : (c : Capability) → cap begun root ≡ Some c → c.mark ≡ Some j
    root-begun c held =
        let d = begun-caps root c held in
        let none = fresh_root d.0 d.1 in
        let inside : has_key ks root ≡ true = (region-exact s.caps root root R.rises).1 (at_root d.0 d.1 none) in
        let seen = ap (λ (z : ObservedSide). z.cap root) (seen-mark_all ks j (job_opened root up vs keep s)) in
        let is : Some (record d.0 { mark = Some j }) ≡ Some c = sym (ap (option_map {T = Capability} (λ x. record x { mark = Some j })) d.1)
        ∙ (sym (seen ∙ cond-true (has_key ks root) (option_map {T = Capability} (λ x. record x { mark = Some j }) (cap s root)) (cap s root) inside)
        ∙ held) in
        ap (λ (x : Capability). x.mark) (sym (same_Some (record d.0 { mark = Some j }) c is))

    pub waiting-begun : Waiting None begun
    waiting-begun = record {
      rests = λ v k r is. resting-on None s begun k r v (parked s v) (begun-on k r) (jobs k r v) (omega arith) (λ down. down) (R.rests v k r is);
      waiters = λ x among open_ v waits. elim (begun-jobs x among) [
        | inl before ↦ R.waiters x before open_ v waits
        | inr same ↦ parks v (subst (λ ws. Contains ws v) (ap (λ (z : JobRow). z.waiters) (sym same)) waits) ∙ ap (λ (z : JobRow). Some (RevokeWait z.id)) same
      ];
      keepers = λ x among keeps. elim (begun-jobs x among) [
        | inl before ↦ R.keepers x before keeps
        | inr same ↦ subst (λ (z : JobRow). Contains z.waiters z.root.vpe) same (keeper (ap (λ (z : JobRow). z.keep) same ∙ keeps))
      ];
      roots = λ x among open_ c held. elim (begun-jobs x among) [
        | inl before ↦ let d = begun-on x.root x.root c held in d.2 x.id (R.roots x before open_ d.0 d.1)
        | inr same ↦ root-begun c (ap (λ (z : JobRow). cap begun z.root) same ∙ held) ∙ ap (λ (z : JobRow). Some z.id) same
      ];
      drawn = λ x among. elim (begun-jobs x among) [
        | inl before ↦ let low = R.drawn x before in omega (arith, low)
        | inr same ↦ let id : j ≡ x.id = ap (λ (z : JobRow). z.id) same in omega (arith, id)
      ];
      rises = changed-rises (λ c. list_any (key_eq c.key) ks) (λ (c : Capability). record c { mark = Some j }) (λ c. refl) s.caps R.rises;
    }
      where
        jobs : (k r : KeyName) (v : ℕ) → JobsOn k r v s begun
        jobs k r v y among low = elim (begun-jobs y among) [
          | inl before ↦ (y, before, refl, λ is. is)
          | inr same ↦ let id : j ≡ y.id = ap (λ (z : JobRow). z.id) same in absurd (omega (arith, id, low))
        ]

  waiting-adopted : (j : ℕ) (o : Option ℕ) (s : Side) → Waiting None s → Waiting None (adopted j o s)
  waiting-adopted j None s R = R
  waiting-adopted j (Some m) s R =
      waiting-changed None (with_up (Local j) m s) (waiting-changed None s R m (λ x. record x { up = Some (Local j); keep = false })
      (λ x. (refl, refl, λ no'. absurd cc, refl))) j (λ x. record x { count = x.count + 1 }) (λ x. (refl, refl, λ keep. keep, refl))

  pub waiting-settling : (T : Setup) (i j : ℕ) (k : KeyName) (s : Side) → Waiting None s → Waiting None (request_or_adopt T i j k s)
  waiting-settling T i j k s R =
      cond_both (is_local T i k) (adopted j (other_marker j (cap s k)) s) (count_raised j (send (owner_of T k) (RevokeReq k j) s)) (Waiting None)
      (λ _. waiting-adopted j (other_marker j (cap s k)) s R)
      (λ _. waiting-changed None (send (owner_of T k) (RevokeReq k j) s) (waiting-send None s R (owner_of T k) (RevokeReq k j)) j
      (λ x. record x { count = x.count + 1 }) (λ x. (refl, refl, λ keep. keep, refl)))

  -- A job is closed: those who wait for it are awake.
  pub record Clearing (x : JobRow) (s : Side) : Type 0 where
    pub waiting : Waiting (Some x) s
    pub awake : (v : ℕ) → Contains x.waiters v → parked s v ≡ Some (Ready 0)

  -- What it marked is swept.
  module _ (x : JobRow) (s : Side) (among_x : Contains s.jobs x) (R : Waiting None s) where
    abbrev swept_side : Side
    swept_side = swept x s

    spared-rises : (keep : Bool) → Rises (spared keep x.root s.caps)
    spared-rises true = changed-rises (λ c. key_eq c.key x.root) (λ (c : Capability). record c { children = []; mark = None }) (λ c. refl) s.caps R.rises
    spared-rises false = R.rises

    -- what is held now was so, and not marked by the job; or it is the root, which is kept
    abbrev Was : KeyName → Capability → Type 0
    Was q c = ((cap s q ≡ Some c) × (c.mark ≡ Some x.id → ⊥)) ⊎ ((x.keep ≡ true) × (q ≡ x.root) × ((d : Capability) × (cap s q ≡ Some d)) × (c.children ≡ []))

    cleared-from : (q : KeyName) (c : Capability) → q ≡ x.root → x.keep ≡ true → (o : Option Capability) → cap s q ≡ o →
        option_map {T = Capability} (λ d. record d { children = []; mark = None }) o ≡ Some c → Was q c
    cleared-from q c root keeps None held none = absurd cc
    cleared-from q c root keeps (Some d) held some =
        inr (keeps, root, (d, held), ap (λ (y : Capability). y.children) (sym (same_Some (record d { children = []; mark = None }) c some)))

    swept-was : (q : KeyName) (c : Capability) → cap swept_side q ≡ Some c → Was q c
    swept-was q c held =
        by x.keep refl (back-swept x.id (record s { caps = spared x.keep x.root s.caps }) (rises_distinct (spared x.keep x.root s.caps) (spared-rises x.keep)) q
        c held)
      where
        by : (keep : Bool) → x.keep ≡ keep → (cap (record s { caps = spared keep x.root s.caps }) q ≡ Some c) × (c.mark ≡ Some x.id → ⊥) → Was q c
        by false leaves (before, unmarked) = inl (before, unmarked)
        by true keeps (before, unmarked) =
            let f : Capability → Capability = λ d. record d { children = []; mark = None } in
            let seen = ap (λ (z : ObservedSide). z.cap q) (seen-cap_changed x.root f s (λ d. refl)) in
            elim (cases_Bool (key_eq q x.root)) [
              | inl same ↦ cleared-from q c (key_eq-true q x.root same) keeps (cap s q) refl (sym (seen
                  ∙ cond-true (key_eq q x.root) (option_map f (cap s q)) (cap s q) same) ∙ before)
              | inr differ ↦ inl (sym (seen ∙ cond-false (key_eq q x.root) (option_map f (cap s q)) (cap s q) differ) ∙ before, unmarked)
            ]

    -- the root is marked by the job
    root-mark : (q : KeyName) (d : Capability) → q ≡ x.root → cap s q ≡ Some d → d.mark ≡ Some x.id
    root-mark q d root held = R.roots x among_x (λ none. none) d (ap (cap s) (sym root) ∙ held)

    rests-swept : (k r : KeyName) (v : ℕ) (p : Option Parked) → Resting None s k r v p → Resting (Some x) swept_side k r v p
    rests-swept k r v None is =
        in_turn-keeps (λ (rows : List VpeRow). VpeRows.is_alive rows v ≡ false) (λ (c : Capability) rows. VpeRows.freed c.key.vpe c.selector rows)
        (λ c rows down. freed-dead rows c.key.vpe c.selector v down) (marked_by x.id (spared x.keep x.root s.caps)) s.vpes is
      where
        freed-dead : (rows : List VpeRow) (w sel v : ℕ) → VpeRows.is_alive rows v ≡ false → VpeRows.is_alive (VpeRows.freed w sel rows) v ≡ false
        freed-dead rows w sel v down = elim (cases_eq v w) [
          | inl here ↦ ap (VpeRows.is_alive (VpeRows.freed w sel rows)) here
              ∙ (ap (λ (q : VpeRow). q.alive)
              (get_or-put_same no_vpe rows w (record (VpeRows.row rows w) { slots = put Free (VpeRows.row rows w).slots sel Free }))
              ∙ (ap (VpeRows.is_alive rows) (sym here) ∙ down))
          | inr away ↦ ap (λ (q : VpeRow). q.alive)
              (get_or-put_other no_vpe rows w v (record (VpeRows.row rows w) { slots = put Free (VpeRows.row rows w).slots sel Free }) away) ∙ down
        ]
    rests-swept k r v (Some (ObtainWait number sel)) is = is
    rests-swept k r v (Some (ObtainReady key parent object sel)) is = is
    rests-swept k r v (Some ObtainCancelled) is = is
    rests-swept k r v (Some (DelegateWait parent)) is = is
    rests-swept k r v (Some (DelegateReady parent key)) is = is
    rests-swept k r v (Some (RevokeWait n)) is = (
      is.0,
      λ open_ c held. elim (swept-was r c held) [
        | inl (before, unmarked) ↦ is.1 (λ none. none) c before
        | inr (keeps, root, (d, before), childless) ↦
            let served = is.1 (λ none. none) d before in
            absurd (open_ (same_Some x.id n (sym (root-mark r d root before) ∙ served.0)))
      ],
      λ y closing same c held.
          let is_x : x ≡ y = same_Some x y closing in
          let id : x.id ≡ n = ap (λ (z : JobRow). z.id) is_x ∙ same in
          elim (swept-was r c held) [
            | inl (before, unmarked) ↦ absurd (unmarked ((is.1 (λ none. none) c before).0 ∙ ap Some (sym id)))
            | inr (keeps, root, (d, before), childless) ↦
                let served = (is.1 (λ none. none) d before).1 x among_x id in (
                  (λ own. true≢false (sym keeps ∙ served.1 own (sym root)), ap (λ xs. has_key xs k) childless),
                  subst (λ (z : JobRow). Contains z.waiters v) is_x served.0,
                )
          ],
    )
    rests-swept k r v (Some (Ready code)) is = (
      is.0,
      λ c held. elim (swept-was r c held) [
        | inl (before, unmarked) ↦ is.1 c before
        | inr (keeps, root, (d, before), childless) ↦ ((is.1 d before).0, ap (λ xs. has_key xs k) childless)
      ],
    )

    waiting-swept : Waiting (Some x) swept_side
    waiting-swept = record {
      rests = λ v k r pends. rests-swept k r v (parked s v) (R.rests v k r pends);
      waiters = λ y among open_ v waits. R.waiters y among (λ none. none) v waits;
      keepers = R.keepers;
      roots = λ y among open_ c held. elim (swept-was y.root c held) [
        | inl (before, unmarked) ↦ R.roots y among (λ none. none) c before
        | inr (
          keeps,
          root,
          (d, before),
          childless,
        ) ↦ absurd (open_ (same_Some x.id y.id (sym (root-mark y.root d root before) ∙ R.roots y among (λ none. none) d before)))
      ];
      drawn = R.drawn;
      rises = filtered-rises (λ c. not (is_marked_by x.id c)) (spared x.keep x.root s.caps) (spared-rises x.keep);
    }

  waiting-woken : (x : JobRow) (s : Side) → ((v : ℕ) → Contains x.waiters v → parked s v ≡ Some (RevokeWait x.id)) → Waiting (Some x) s →
      Clearing x (woken x.waiters s)
  waiting-woken x s own' R = record {
    waiting = record {
      rests = λ v k r pends. elim (woken-at x.waiters s.parks v) [
        | inl (among, ready) ↦ subst (Resting (Some x) t k r v) (sym ready) (
          refl,
          λ c held. ((subst (Resting (Some x) s k r v) (own' v among) (R.rests v k r pends)).2 x refl refl c held).0,
        )
        | inr (others, same) ↦ subst (Resting (Some x) t k r v) (sym same) (resting-on (Some x) s t k r v (parked s v) (same-caps k r s t (λ q. refl))
            (same-jobs k r v s t refl) (omega arith) (λ down. down) (R.rests v k r pends))
      ];
      waiters = λ y among open_ v waits. elim (woken-at x.waiters s.parks v) [
        | inl (among', ready) ↦ absurd (open_ (wait-id x.id y.id (sym (own' v among') ∙ R.waiters y among open_ v waits)))
        | inr (others, same) ↦ same ∙ R.waiters y among open_ v waits
      ];
      keepers = R.keepers;
      roots = R.roots;
      drawn = R.drawn;
      rises = R.rises;
    };
    awake = λ v waits. elim (woken-at x.waiters s.parks v) [ inl (among, ready) ↦ ready | inr (others, same) ↦ absurd (others waits) ];
  }
    where
      t : Side
      t = woken x.waiters s

  -- the parent of the root is left; the job is given by its parts
  clearing-unlinked : (x : JobRow) (s : Side) (p : KeyName) → Clearing x s → Clearing x (unlinked p x.root s)
  clearing-unlinked x s p K = record { waiting = waiting-unlinked (Some x) s K.waiting p x.root; awake = K.awake }

  clearing-send : (x : JobRow) (s : Side) (j : ℕ) (m : Message) → Clearing x s → Clearing x (send j m s)
  clearing-send x s j m K = record { waiting = waiting-send (Some x) s K.waiting j m; awake = K.awake }

  clearing-left : (T : Setup) (i id count : ℕ) (root : KeyName) (up : Option Up) (vs : List ℕ) (keep : Bool) (o : Option KeyName) (s : Side)
      → Clearing (record { id = id; root = root; up = up; waiters = vs; count = count; keep = keep }) s
      → Clearing (record { id = id; root = root; up = up; waiters = vs; count = count; keep = keep })
      (parent_left T i (record { id = id; root = root; up = up; waiters = vs; count = count; keep = keep }) o s)
  clearing-left T i id count root up vs keep None s K = K
  clearing-left T i id count root (Some (Remote kernel j)) vs keep (Some p) s K =
      let x : JobRow = record { id = id; root = root; up = Some (Remote kernel j); waiters = vs; count = count; keep = keep } in
      cond_both (is_local T i p) (unlinked p root s) s (Clearing x) (λ _. clearing-unlinked x s p K) (λ _. K)
  clearing-left T i id count root (Some (Local j)) vs keep (Some p) s K =
      let x : JobRow = record { id = id; root = root; up = Some (Local j); waiters = vs; count = count; keep = keep } in
      cond_both (is_local T i p) (unlinked p root s) (send (owner_of T p) (Unlink p root) s) (Clearing x) (λ _. clearing-unlinked x s p K)
      (λ _. clearing-send x s (owner_of T p) (Unlink p root) K)
  clearing-left T i id count root None vs keep (Some p) s K =
      let x : JobRow = record { id = id; root = root; up = None; waiters = vs; count = count; keep = keep } in
      cond_both (is_local T i p) (unlinked p root s) (send (owner_of T p) (Unlink p root) s) (Clearing x) (λ _. clearing-unlinked x s p K)
      (λ _. clearing-send x s (owner_of T p) (Unlink p root) K)

  waiting-told : (up : Option Up) (s : Side) → Waiting None s → Waiting None (up_told up s)
  waiting-told None s R = R
  waiting-told (Some (Local j)) s R = waiting-changed None s R j (λ x. record x { count = x.count - 1 }) (λ x. (refl, refl, λ keep. keep, refl))
  waiting-told (Some (Remote kernel j)) s R = waiting-send None s R kernel (RevokeDone j)

  -- the job goes, and nobody waits for it
  waiting-without : (x : JobRow) (s : Side) → Clearing x s → Waiting None (job_removed x.id s)
  waiting-without x s K = record {
    rests = λ v k r pends. on k r v (parked s v) refl (K.waiting.rests v k r pends);
    waiters = λ y among open_ v waits. let kept = left y among in K.waiting.waiters y kept.0 kept.1 v waits;
    keepers = λ y among keeps. K.waiting.keepers y (left y among).0 keeps;
    roots = λ y among open_ c held. let kept = left y among in K.waiting.roots y kept.0 kept.1 c held;
    drawn = λ y among. K.waiting.drawn y (left y among).0;
    rises = K.waiting.rises;
  }
    where
      t : Side
      t = job_removed x.id s

      -- a job that is left is another one
      left : (y : JobRow) → Contains t.jobs y → Contains s.jobs y × (x.id ≡ y.id → ⊥)
      left y among =
          let kept = Contains-from_filter (λ (z : JobRow). not (z.id == x.id)) s.jobs y among in
          (kept.0, λ same. true≢false (sym (eq-eqb y.id x.id (sym same)) ∙ not-true (y.id == x.id) kept.1))

      on : (k r : KeyName) (v : ℕ) (p : Option Parked) → parked s v ≡ p → Resting (Some x) s k r v p → Resting None t k r v p
      on k r v None at is = is
      on k r v (Some (ObtainWait number sel)) at is = is
      on k r v (Some (ObtainReady key parent object sel)) at is = is
      on k r v (Some ObtainCancelled) at is = is
      on k r v (Some (DelegateWait parent)) at is = is
      on k r v (Some (DelegateReady parent key)) at is = is
      on k r v (Some (RevokeWait n)) at is = (
        is.0,
        λ open_ c held. elim (cases_eq x.id n) [
          | inl same ↦ let two : Some (Ready 0) ≡ Some (RevokeWait n) = sym (K.awake v (is.2 x refl same c held).1) ∙ at in absurd cc
          | inr other ↦ let served = is.1 other c held in (served.0, λ y among same. served.1 y (left y among).0 same)
        ],
        λ y none. let no' : None ≡ Some y = none in absurd cc,
      )
      on k r v (Some (Ready code)) at is = is

  waiting-closed_here : (T : Setup) (i : ℕ) (x : JobRow) (s : Side) → Contains s.jobs x → Waiting None s → Clearing x (closed_here T i x s)
  unfolding closed_here
  waiting-closed_here T i x s among R =
      clearing-left T i x.id x.count x.root x.up x.waiters x.keep (left_parent s x) (woken x.waiters (swept x s))
      (waiting-woken x (swept x s) (λ v waits. R.waiters x among (λ none. none) v waits) (waiting-swept x s among R))

  waiting-closed : (T : Setup) (i : ℕ) (x : JobRow) (s : Side) → Contains s.jobs x → Waiting None s → Waiting None (closed T i x s)
  waiting-closed T i x s among R =
      subst (λ t. Waiting None (up_told x.up t)) (sym (closed_here-late T i x x.id s))
      (waiting-told x.up (job_removed x.id (closed_here T i x s)) (waiting-without x (closed_here T i x s) (waiting-closed_here T i x s among R)))

  waiting-finish : (T : Setup) (i n : ℕ) (o : Option JobRow) (s : Side) → ((x : JobRow) → o ≡ Some x → Contains s.jobs x) → Waiting None s →
      Waiting None (finish T i n o s)
  unfolding finish
  waiting-finish T i zero o s is R = R
  waiting-finish T i (suc n) None s is R = R
  waiting-finish T i (suc n) (Some x) s is R =
      let s2 : Side = closed T i x s in
      waiting-finish T i n (next_done x.up s2.jobs) s2 (λ y next. next-among x.up s2 y next) (waiting-closed T i x s (is x refl) R)

  pub waiting-settled : (T : Setup) (i j : ℕ) (s : Side) → Waiting None s → Waiting None (settled T i j s)
  waiting-settled T i j s R = waiting-finish T i (length s.jobs) (if_done (job s j)) s (λ x done. done-among s j x done) R

  -- The rows.

  waiting-begin : (T : Setup) (i : ℕ) (root : KeyName) (up : Option Up) (vs : List ℕ) (keep : Bool) (s : Side) → Waiting None s →
      ((v : ℕ) → Contains vs v → parked s v ≡ Some (RevokeWait s.next_job)) → (keep ≡ true → Contains vs root.vpe) →
      ((c : Capability) → cap s root ≡ Some c → c.mark ≡ None) → Waiting None (begin T i root up vs keep s)
  unfolding opened
  waiting-begin T i root up vs keep s R parks keeper fresh_root =
      waiting-settled T i s.next_job _
      (in_turn-keeps (Waiting None) (request_or_adopt T i s.next_job) (λ k t here. waiting-settling T i s.next_job k t here)
      (children_of s.caps (region s.caps root)) _ (waiting-begun s root up vs keep R parks keeper fresh_root))

  -- what is held is that
  held-unmarked : (s : Side) (k : KeyName) (c : Capability) → cap s k ≡ Some c → c.mark ≡ None → (d : Capability) → cap s k ≡ Some d → d.mark ≡ None
  held-unmarked s k c held unmarked d held' = ap (λ (x : Capability). x.mark) (same_Some d c (sym held' ∙ held)) ∙ unmarked

  pub waiting-requested : (T : Setup) (i from j : ℕ) (k : KeyName) (o : Option Capability) (s : Side) → cap s k ≡ o → Waiting None s →
      Waiting None (revoke_requested T i from j k o s)
  waiting-requested T i from j k (Some c) s held R = by_mark c.mark refl
    where
      by_mark : (m : Option ℕ) → c.mark ≡ m → Waiting None (request_begun T i from j k m s)
      by_mark None unmarked = waiting-begin T i k (Some (Remote from j)) [] false s R (λ v none. absurd (Contains-nil v none)) (λ no'. absurd cc)
          (held-unmarked s k c held unmarked)
      by_mark (Some m) marked = waiting-changed None s R m (λ x. record x { up = Some (Remote from j); keep = false }) (λ x. (
        refl,
        refl,
        λ no'. absurd cc,
        refl,
      ))
  waiting-requested T i from j k None s held R = waiting-send None (obtain_cancelled k s) (elim (cases_Bool (is_ready_with k (parked s k.vpe))) [
    | inl ready' ↦ subst (Waiting None)
        (sym (cond-true (is_ready_with k (parked s k.vpe)) (parked_as k.vpe ObtainCancelled (ready_freed (parked s k.vpe) k.vpe s)) s ready'))
        (cancelled ready' (parked s k.vpe) refl)
    | inr unready ↦ subst (Waiting None)
        (sym (cond-false (is_ready_with k (parked s k.vpe)) (parked_as k.vpe ObtainCancelled (ready_freed (parked s k.vpe) k.vpe s)) s unready)) R
  ]) from (RevokeDone j)
    where
      ready-wait : (n : ℕ) → is_ready_with k (Some (RevokeWait n)) ≡ true → ⊥
      ready-wait n no' = absurd cc

      cancelled : is_ready_with k (parked s k.vpe) ≡ true → (p : Option Parked) → parked s k.vpe ≡ p →
          Waiting None (parked_as k.vpe ObtainCancelled (ready_freed p k.vpe s))
      cancelled ready' p is =
          waiting-parked None (ready_freed p k.vpe s) (freeing p) k.vpe (Some ObtainCancelled)
          (λ q r waits. absurd (ready-rest s q r k k.vpe (parked s k.vpe) ready' (R.rests k.vpe q r waits)))
          (λ x among open_ waits. absurd (ready-wait x.id (ap (is_ready_with k) (sym (R.waiters x (in_jobs p x among) open_ k.vpe waits)) ∙ ready')))
        where
          in_jobs : (p : Option Parked) (x : JobRow) → Contains (ready_freed p k.vpe s).jobs x → Contains s.jobs x
          in_jobs None x among = among
          in_jobs (Some (ObtainReady key parent object sel)) x among = among
          in_jobs (Some (ObtainWait number sel)) x among = among
          in_jobs (Some ObtainCancelled) x among = among
          in_jobs (Some (DelegateWait parent)) x among = among
          in_jobs (Some (DelegateReady parent key)) x among = among
          in_jobs (Some (RevokeWait n)) x among = among
          in_jobs (Some (Ready code)) x among = among

          freeing : (p : Option Parked) → Waiting None (ready_freed p k.vpe s)
          freeing None = R
          freeing (Some (ObtainReady key parent object sel)) = waiting-freed None s R k.vpe sel
          freeing (Some (ObtainWait number sel)) = R
          freeing (Some ObtainCancelled) = R
          freeing (Some (DelegateWait parent)) = R
          freeing (Some (DelegateReady parent key)) = R
          freeing (Some (RevokeWait n)) = R
          freeing (Some (Ready code)) = R

  pub waiting-done : (T : Setup) (i j : ℕ) (s : Side) → Waiting None s → Waiting None (revoke_done T i j s)
  waiting-done T i j s R = from (job s j)
    where
      from : (o : Option JobRow) → Waiting None (settled_if_there T i j o s)
      from None = R
      from (Some x) = waiting-settled T i j (count_lowered j s)
          (waiting-changed None s R j (λ x. record x { count = x.count - 1 }) (λ x. (refl, refl, λ keep. keep, refl)))

  -- The end of a VPE.

  pub waiting-refused : (T : Setup) (i : ℕ) (code : Code) (a : Ask) (s : Side) → (kernel_of T (asker a) == i ≡ true → waits_for a (parked s (asker a)) ≡ true) →
      Waiting None s → Waiting None (ask_refused T i code a s)
  waiting-refused T i code a s waits R = cond_both (kernel_of T (asker a) == i) (call_refused (code_number code) (asker a) s) (refusal_sent T code a s)
      (Waiting None) (λ here. refused (waits here) (parked s (asker a)) refl) (λ _. refusal a)
    where
      refusal : (a : Ask) → Waiting None (refusal_sent T code a s)
      refusal (ObtainAsk place target) = waiting-send None s R _ _
      refusal (DelegateAsk parent object sel) = waiting-send None s R _ _

      refused : waits_for a (parked s (asker a)) ≡ true → (p : Option Parked) → parked s (asker a) ≡ p →
          Waiting None (ready (code_number code) (asker a) (promise_freed p (asker a) s))
      refused waiting' p is =
          waiting-parked None (promise_freed p (asker a) s) (freeing p) (asker a) (Some (Ready (code_number code)))
          (λ q r pends. absurd (asks-rest s q r (asker a) a (parked s (asker a)) waiting' (R.rests (asker a) q r pends)))
          (λ x among open_ waits'. absurd (asks-wait a x.id (ap (waits_for a) (sym (R.waiters x (in_jobs p x among) open_ (asker a) waits')) ∙ waiting')))
        where
          in_jobs : (p : Option Parked) (x : JobRow) → Contains (promise_freed p (asker a) s).jobs x → Contains s.jobs x
          in_jobs None x among = among
          in_jobs (Some (ObtainReady key parent object sel)) x among = among
          in_jobs (Some (ObtainWait number sel)) x among = among
          in_jobs (Some ObtainCancelled) x among = among
          in_jobs (Some (DelegateWait parent)) x among = among
          in_jobs (Some (DelegateReady parent key)) x among = among
          in_jobs (Some (RevokeWait n)) x among = among
          in_jobs (Some (Ready code')) x among = among

          freeing : (p : Option Parked) → Waiting None (promise_freed p (asker a) s)
          freeing None = R
          freeing (Some (ObtainReady key parent object sel)) = R
          freeing (Some (ObtainWait number sel)) = waiting-freed None s R (asker a) sel
          freeing (Some ObtainCancelled) = R
          freeing (Some (DelegateWait parent)) = R
          freeing (Some (DelegateReady parent key)) = R
          freeing (Some (RevokeWait n)) = R
          freeing (Some (Ready code')) = R

  -- an ask that is awaited waits
  pub awaited : (T : Setup) (i : ℕ) (s : Side) (a : Ask) → is_unawaited T i s a ≡ false → (kernel_of T (asker a) == i) ≡ true →
      waits_for a (parked s (asker a)) ≡ true
  awaited T i s a no' here = by (waits_for a (parked s (asker a))) (sym (ap (λ b. b && not (waits_for a (parked s (asker a)))) here) ∙ no')
    where
      by : (b : Bool) → (true && not b) ≡ false → b ≡ true
      by true is = refl
      by false is = absurd cc

  -- v leaves the job, which keeps no root of it
  module _ (v : ℕ) (s : Side) (dead : is_alive s v ≡ false) (R : Waiting None s) (j : ℕ) (is : parked s v ≡ Some (RevokeWait j)) where
    abbrev leaves : JobRow → JobRow
    leaves x = record x { waiters = without_number x.waiters v; keep = x.keep && not ((x.id == j) && (x.root.vpe == v)) }

    abbrev u : Side
    u = waiter_left j v (unparked v s)

    stays : (ws : List ℕ) (w : ℕ) → Contains ws w → (w ≡ v → ⊥) → Contains (without_number ws v) w
    stays ws w among other = Contains-filter (λ n. not (n == v)) ws w among (not_from_false (w == v) (ne_eqb w v other))

    was : (y : JobRow) → Contains u.jobs y → (x : JobRow) × Contains s.jobs x × (leaves x ≡ y)
    was y among = Contains-from_map leaves s.jobs y among

    jobs : (k r : KeyName) (w : ℕ) → (w ≡ v → ⊥) → JobsOn k r w s u
    jobs k r w other y among low =
        let x = was y among in (
          x.0,
          x.1,
          ap (λ (z : JobRow). z.id) x.2,
          λ (waits, not_kept). subst (λ (z : JobRow). Serves z k r w) x.2 (
            stays x.0.waiters w waits other,
            λ own root. ap (λ b. b && not ((x.0.id == j) && (x.0.root.vpe == v))) (not_kept own root),
          ),
        )

    unwaited : Waiting None u
    unwaited = record {
      rests = λ w k r pends. elim (cases_eq w v) [
        | inl here ↦ subst (Resting None u k r w) (sym (ap (parked u) here ∙ parked-here s v None)) (ap (is_alive s) here ∙ dead)
        | inr other ↦ subst (Resting None u k r w) (sym (parked-other s v None w other))
            (resting-on None s u k r w (parked s w) (same-caps k r s u (λ q. refl)) (jobs k r w other) (omega arith) (λ down. down) (R.rests w k r pends))
      ];
      waiters = λ y among open_ w waits.
          let x = was y among in
          let kept = Contains-from_filter (λ n. not (n == v)) x.0.waiters w (subst (λ ws. Contains ws w) (ap (λ (z : JobRow). z.waiters) (sym x.2)) waits) in
          parked-other s v None w (λ same. true≢false (sym (eq-eqb w v same) ∙ not-true (w == v) kept.1))
          ∙ (R.waiters x.0 x.1 (λ none. none) w kept.0 ∙ ap (λ (z : JobRow). Some (RevokeWait z.id)) x.2);
      keepers = λ y among keeps.
          let x = was y among in
          let both = and_parts x.0.keep (not ((x.0.id == j) && (x.0.root.vpe == v))) (ap (λ (z : JobRow). z.keep) x.2 ∙ keeps) in
          let waits = R.keepers x.0 x.1 both.0 in
          subst (λ (z : JobRow). Contains z.waiters z.root.vpe) x.2 (stays x.0.waiters x.0.root.vpe waits (λ same.
          let id : x.0.id ≡ j = wait-id x.0.id j (sym (R.waiters x.0 x.1 (λ none. none) v (subst (Contains x.0.waiters) same waits)) ∙ is) in
          true≢false (sym (and_from (x.0.id == j) (x.0.root.vpe == v) (eq-eqb x.0.id j id) (eq-eqb x.0.root.vpe v same))
          ∙ not-true ((x.0.id == j) && (x.0.root.vpe == v)) both.1)));
      roots = λ y among open_ c held. let x = was y among in R.roots x.0 x.1 (λ none. none) c (ap (λ (z : JobRow). cap s z.root) x.2 ∙ held)
          ∙ ap (λ (z : JobRow). Some z.id) x.2;
      drawn = λ y among. let x = was y among in let low = R.drawn x.0 x.1 in let id : x.0.id ≡ y.id = ap (λ (z : JobRow). z.id) x.2 in omega (arith, low, id);
      rises = R.rises;
    }

  -- v is dead, and waits for nothing
  pub waiting-unparked : (v : ℕ) (s : Side) → is_alive s v ≡ false → Waiting None s → (T : Setup) → Waiting None (call_ended T (parked s v) v (unparked v s))
  waiting-unparked v s dead R T = from (parked s v) refl
    where
      t : Side
      t = unparked v s

      -- where no job waits for it
      apart : ((n : ℕ) → parked s v ≡ Some (RevokeWait n) → ⊥) → Waiting None t
      apart no' = waiting-parked None s R v None (λ k r pends. dead) (λ x among open_ waits. absurd (no' x.id (R.waiters x among open_ v waits)))

      from : (p : Option Parked) → parked s v ≡ p → Waiting None (call_ended T p v t)
      from None is = apart (λ n wait. (let two : None ≡ Some (RevokeWait n) = sym is ∙ wait in absurd cc))
      from (Some (ObtainWait number sel)) is = apart (λ n wait. (let two : Some (ObtainWait number sel) ≡ Some (RevokeWait n) = sym is ∙ wait in absurd cc))
      from (Some (ObtainReady key parent object sel)) is =
          waiting-send None t (apart (λ n wait. (let two : Some (ObtainReady key parent object sel) ≡ Some (RevokeWait n) = sym is ∙ wait in absurd cc))) _ _
      from (Some ObtainCancelled) is = apart (λ n wait. (let two : Some ObtainCancelled ≡ Some (RevokeWait n) = sym is ∙ wait in absurd cc))
      from (Some (DelegateWait parent)) is = apart (λ n wait. (let two : Some (DelegateWait parent) ≡ Some (RevokeWait n) = sym is ∙ wait in absurd cc))
      from (Some (DelegateReady parent key)) is =
          waiting-send None t (apart (λ n wait. (let two : Some (DelegateReady parent key) ≡ Some (RevokeWait n) = sym is ∙ wait in absurd cc))) _ _
      from (Some (RevokeWait j)) is = unwaited v s dead R j is
      from (Some (Ready code)) is = apart (λ n wait. (let two : Some (Ready code) ≡ Some (RevokeWait n) = sym is ∙ wait in absurd cc))

  pub waiting-left : (T : Setup) (i : ℕ) (k : KeyName) (s : Side) → Waiting None s → Waiting None (revoked_if_left T i k s)
  waiting-left T i k s R = from (cap s k) refl
    where
      by_mark : (c : Capability) → cap s k ≡ Some c → (m : Option ℕ) → c.mark ≡ m → Waiting None (option_map_or (λ (n : ℕ). s) m (begin T i k None [] false s))
      by_mark c held None unmarked = waiting-begin T i k None [] false s R (λ v none. absurd (Contains-nil v none)) (λ no'. absurd cc)
          (held-unmarked s k c held unmarked)
      by_mark c held (Some m) marked = R

      from : (o : Option Capability) → cap s k ≡ o → Waiting None (revoked_if_there T i k o s)
      from None none = R
      from (Some c) held = by_mark c held c.mark refl
