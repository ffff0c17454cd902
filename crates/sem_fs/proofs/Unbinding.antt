-- What an endpoint is bound to stays bound, or is marked or gone: a revoke unbinds only what it marks.
use Rattle.std.proofs.Common.{◌≡◌, ◌⊎◌, ℕ, zero, suc, Bool, true, false, List, [], ◌∷◌, get_or, length, Option, Some, None, is_some, refl, sym, ap, ◌∙◌, subst}
use Rattle.std.proofs.Common.{inl, inr}
use Rattle.std.specs.Prelude.{if◌then◌else◌}
use Rattle.std.specs.List.{Contains, list_any}
use Rattle.std.proofs.lemmas.Bool.{cases_Bool, cond_both, cond-true, cond-false, true≢false}
use Rattle.std.proofs.lemmas.List.Elements.{Contains-append_cases}
use Rattle.sem_key.specs.KeyName.{KeyName, key_eq}
use Rattle.sem_key.specs.Capability.{Capability}
use Rattle.sem_key.specs.CapList.{with_mark, restored}
use Rattle.sem_key.specs.Region.{region, children_of}
use Rattle.sem_key.proofs.KeyTests.{key_eq-true}
use Rattle.sem_key.proofs.Members.{Contains-from_map, Contains-cons_cases, Contains-nil}
use Rattle.sem_msg.specs.declared.message.Message.TheVariants.{RevokeReq, Unlink}
use Rattle.sem_msg.specs.declared.state.Parked.{Parked}
use Rattle.sem_msg.specs.declared.state.Parked.TheVariants.{ObtainWait, ObtainReady, ObtainCancelled, DelegateWait, DelegateReady, RevokeWait, Ready}
use Rattle.sem_msg.specs.declared.state.Up.{Up}
use Rattle.sem_msg.specs.declared.state.Up.TheVariants.{Local, Remote}
use Rattle.sem_msg.specs.Rows.{JobRow, Endpoint}
use Rattle.sem_msg.specs.JobRows.{if_done, next_done}
use Rattle.sem_msg.specs.EndpointRows.{unbound_from, all_unbound_from}
use Rattle.sem_msg.specs.ParkedStates.{is_ready_with}
use Rattle.sem_msg.specs.Setup.{Setup}
use Rattle.sem_msg.specs.Lookups.{owner_of, is_local}
use Rattle.sem_machine.specs.Sides.{Side, cap, job, parked, endpoint, parked_as, unlinked, mark_all, unbind_all, job_opened, job_removed, send}
use Rattle.sem_machine.specs.Revokes.{count_raised, count_lowered, other_marker, adopted, request_or_adopt, swept, woken, parent_left, up_told, left_parent}
use Rattle.sem_machine.specs.Revokes.{closed_here, closed, finish, settled, opened, begin, revoke_begun, ready_freed, obtain_cancelled, request_begun}
use Rattle.sem_machine.specs.Revokes.{revoke_requested, revoke_done}
use Rattle.sem_machine.proofs.Folds.{in_turn-keeps}
use Rattle.sem_safety.specs.Observations.{endpoints}
use Rattle.sem_safety.proofs.Updates.{reads-map}
use Rattle.sem_revoke.proofs.Rowing.{settled_if_there}
use Rattle.sem_revoke.proofs.Steady.{Thins, IsSteady, asks_for-steady, settled-steady}

-- Jobs that are closed, and what is asked for, leave endpoints as they are.
module _ (es : List (List (Option Endpoint))) where
  abbrev Same : Side → Type 0
  Same t = t.endpoints ≡ es

  same-left : (T : Setup) (i id count : ℕ) (root : KeyName) (up : Option Up) (ws : List ℕ) (keep : Bool) (o : Option KeyName) (t : Side) → Same t
      → Same (parent_left T i (record { id = id; root = root; up = up; waiters = ws; count = count; keep = keep }) o t)
  same-left T i id count root up ws keep None t is = is
  same-left T i id count root None ws keep (Some p) t is = cond_both (is_local T i p) (unlinked p root t) (send (owner_of T p) (Unlink p root) t) Same (λ _. is)
      (λ _. is)
  same-left T i id count root (Some (Local j)) ws keep (Some p) t is =
      cond_both (is_local T i p) (unlinked p root t) (send (owner_of T p) (Unlink p root) t) Same (λ _. is) (λ _. is)
  same-left T i id count root (Some (Remote kernel j)) ws keep (Some p) t is = cond_both (is_local T i p) (unlinked p root t) t Same (λ _. is) (λ _. is)

  same-told : (up : Option Up) (t : Side) → Same t → Same (up_told up t)
  same-told None t is = is
  same-told (Some (Local j)) t is = is
  same-told (Some (Remote kernel j)) t is = is

  same-closed : (T : Setup) (i : ℕ) (x : JobRow) (t : Side) → Same t → Same (closed T i x t)
  unfolding closed_here
  same-closed T i x t is =
      let gone : Side = job_removed x.id t in
      same-told x.up (closed_here T i x gone) (same-left T i x.id x.count x.root x.up x.waiters x.keep (left_parent gone x) (woken x.waiters (swept x gone)) is)

  same-finish : (T : Setup) (i n : ℕ) (o : Option JobRow) (t : Side) → Same t → Same (finish T i n o t)
  unfolding finish
  same-finish T i zero o t is = is
  same-finish T i (suc n) None t is = is
  same-finish T i (suc n) (Some x) t is = same-finish T i n (next_done x.up (closed T i x t).jobs) (closed T i x t) (same-closed T i x t is)

  pub same-settled : (T : Setup) (i j : ℕ) (t : Side) → Same t → Same (settled T i j t)
  same-settled T i j t is = same-finish T i (length t.jobs) (if_done (job t j)) t is

  same-adopted : (j : ℕ) (o : Option ℕ) (t : Side) → Same t → Same (adopted j o t)
  same-adopted j None t is = is
  same-adopted j (Some n) t is = is

  pub same-asks_for : (T : Setup) (i j : ℕ) (k : KeyName) (t : Side) → Same t → Same (request_or_adopt T i j k t)
  same-asks_for T i j k t is = cond_both (is_local T i k) (adopted j (other_marker j (cap t k)) t) (count_raised j (send (owner_of T k) (RevokeReq k j) t)) Same
      (λ _. same-adopted j (other_marker j (cap t k)) t is) (λ _. is)

  pub same-cancelled : (k : KeyName) (t : Side) → Same t → Same (obtain_cancelled k t)
  same-cancelled k t is = cond_both (is_ready_with k (parked t k.vpe)) (parked_as k.vpe ObtainCancelled (ready_freed (parked t k.vpe) k.vpe t)) t Same
      (λ _. by_call (parked t k.vpe)) (λ _. is)
    where
      by_call : (p : Option Parked) → Same (parked_as k.vpe ObtainCancelled (ready_freed p k.vpe t))
      by_call None = is
      by_call (Some (ObtainReady key parent object sel)) = is
      by_call (Some (ObtainWait number sel)) = is
      by_call (Some ObtainCancelled) = is
      by_call (Some (DelegateWait parent)) = is
      by_call (Some (DelegateReady parent key)) = is
      by_call (Some (RevokeWait n)) = is
      by_call (Some (Ready code)) = is

-- What became of a key: all that is held under it is marked, and no job keeps it.
module _ (k : KeyName) where
  abbrev pub IsLost : Side → Type 0
  IsLost t = (c : Capability) → Contains t.caps c → c.key ≡ k → c.mark ≡ None → ⊥

  abbrev pub IsKeptByNone : Side → Type 0
  IsKeptByNone t = (x : JobRow) → Contains t.jobs x → x.keep ≡ true → x.root ≡ k → ⊥

  pub record IsGone (t : Side) : Type 0 where
    pub lost : IsLost t
    pub unkept : IsKeptByNone t

  thinned-lost : (cs ds : List Capability) → Thins cs ds → ((c : Capability) → Contains cs c → c.key ≡ k → c.mark ≡ None → ⊥) → (c : Capability) → Contains ds c
      → c.key ≡ k → c.mark ≡ None → ⊥
  thinned-lost cs ds thin lost c among same unmarked =
      let o = thin c among in
      lost o.0 o.1 (sym o.2.key ∙ same) (from o.0.mark refl (λ marked. o.2.marks marked) unmarked)
    where
      from : (m : Option ℕ) → (thin c among).0.mark ≡ m → (is_some (thin c among).0.mark ≡ true → is_some c.mark ≡ true) → c.mark ≡ None →
          (thin c among).0.mark ≡ None
      from None none marks unmarked = none
      from (Some n) some marks unmarked = absurd (true≢false (sym (marks (ap is_some some)) ∙ ap is_some unmarked))

  gone-steady : IsSteady IsGone
  gone-steady = record {
    caps = λ s cs thin is. record { lost = thinned-lost s.caps cs thin is.lost; unkept = is.unkept };
    restores = λ s t x was among keeps is. record {
      lost = λ c there same unmarked. restored-lost s t x was among keeps is c there same unmarked;
      unkept = is.unkept;
    };
    bound = λ s es is. record { lost = is.lost; unkept = is.unkept };
    jobs = λ s js less is. record { lost = is.lost; unkept = λ y among keeps same. (let o = less y among in is.unkept o.0 o.1 (o.4 keeps) (sym o.3 ∙ same)) };
    opens = λ s root up ws is. record { lost = is.lost; unkept = λ x among keeps same. opened-unkept s root up ws is x among keeps same };
    frees = λ s v sel is. record { lost = is.lost; unkept = is.unkept };
    wakes = λ s v is. record { lost = is.lost; unkept = is.unkept };
    sends = λ s j m loud is. record { lost = is.lost; unkept = is.unkept };
  }
    where
      restored-lost : (s t : Side) (x : JobRow) → IsGone s → Contains s.jobs x → x.keep ≡ true → IsGone t → (c : Capability) →
          Contains (restored t.caps x.root) c
          → c.key ≡ k → c.mark ≡ None → ⊥
      restored-lost s t x was among keeps is c there same unmarked =
          let o = Contains-from_map (λ (y : Capability). if key_eq y.key x.root then record y { children = []; mark = None } else y) t.caps c there in
          elim (cases_Bool (key_eq o.0.key x.root)) [
            | inl at ↦
                let made : record o.0 { children = []; mark = None } ≡ c =
                sym (cond-true (key_eq o.0.key x.root) (record o.0 { children = []; mark = None }) o.0 at)
                ∙ o.2 in
                was.unkept x among keeps (sym (key_eq-true o.0.key x.root at) ∙ (ap (λ (y : Capability). y.key) made ∙ same))
            | inr other ↦
                let left : o.0 ≡ c = sym (cond-false (key_eq o.0.key x.root) (record o.0 { children = []; mark = None }) o.0 other) ∙ o.2 in
                is.lost o.0 o.1 (ap (λ (y : Capability). y.key) left ∙ same) (ap (λ (y : Capability). y.mark) left ∙ unmarked)
          ]

      opened-unkept : (s : Side) (root : KeyName) (up : Option Up) (ws : List ℕ) → IsGone s → (x : JobRow) → Contains (job_opened root up ws false s).jobs x
          → x.keep ≡ true → x.root ≡ k → ⊥
      opened-unkept s root up ws is x among keeps same =
          elim (Contains-append_cases s.jobs (record { id = s.next_job; root = root; up = up; waiters = ws; count = 0; keep = false } ∷ []) x among) [
            | inl before ↦ is.unkept x before keeps same
            | inr now ↦ elim (Contains-cons_cases (record { id = s.next_job; root = root; up = up; waiters = ws; count = 0; keep = false }) [] x now) [
              | inl new ↦ true≢false (sym keeps ∙ ap (λ (y : JobRow). y.keep) (sym new))
              | inr none ↦ Contains-nil x none
            ]
          ]

-- What becomes of an endpoint of a VPE that is bound to the key.
module _ (v ep : ℕ) (k : KeyName) where
  pub record IsBoundTo (t : Side) : Type 0 where
    pub bound : Endpoint
    pub at : endpoint t v ep ≡ Some bound
    pub key : bound.key ≡ k

  abbrev pub Fate : Side → Type 0
  Fate t = IsBoundTo t ⊎ IsGone k t

  -- it stays where endpoints do
  pub stays : (s t : Side) → t.endpoints ≡ s.endpoints → IsBoundTo s → IsBoundTo t
  stays s t same is = record { bound = is.bound; at = ap (λ es. get_or (get_or es v []) ep None) same ∙ is.at; key = is.key }

  module _ (T : Setup) (i : ℕ) (t : Side) (is : IsBoundTo t) (unkept : IsKeptByNone k t) where
    begin-fate : (root : KeyName) (up : Option Up) (ws : List ℕ) → Fate (begin T i root up ws false t)
    unfolding opened
    begin-fate root up ws = elim (cases_Bool (list_any (key_eq is.bound.key) ks)) [
      | inr other ↦
          let still : endpoint unbound v ep ≡ Some is.bound = read ∙ cond-false (list_any (key_eq is.bound.key) ks) None (Some is.bound) other in
          inl (stays unbound (begin T i root up ws false t)
          (same-settled unbound.endpoints T i j (opened T i root up ws false t)
          (in_turn-keeps (λ (u : Side). u.endpoints ≡ unbound.endpoints) (request_or_adopt T i j) (λ q u same. same-asks_for unbound.endpoints T i j q u same)
          (children_of t.caps ks) unbound refl)) (record { bound = is.bound; at = still; key = is.key }))
      | inl marks ↦ inr (settled-steady (IsGone k) (gone-steady k) T i j (opened T i root up ws false t)
          (in_turn-keeps (IsGone k) (request_or_adopt T i j) (λ q u gone. asks_for-steady (IsGone k) (gone-steady k) T i j q u gone)
          (children_of t.caps ks) unbound
          (gone marks)))
    ]
      where
        j : ℕ
        j = t.next_job

        ks : List KeyName
        ks = region t.caps root

        unbound : Side
        unbound = unbind_all (region t.caps root) (mark_all (region t.caps root) t.next_job (job_opened root up ws false t))

        read : endpoint (unbind_all (region t.caps root) (mark_all (region t.caps root) t.next_job (job_opened root up ws false t))) v ep ≡
            (if list_any (key_eq is.bound.key) (region t.caps root) then None else Some is.bound)
        read =
            ap (λ xs. get_or xs ep None) (reads-map [] (all_unbound_from ks) t.endpoints v refl)
            ∙ (reads-map None (unbound_from ks) (endpoints t v) ep refl ∙ ap (unbound_from ks) is.at)

        gone : list_any (key_eq is.bound.key) (region t.caps root) ≡ true
            → IsGone k (unbind_all (region t.caps root) (mark_all (region t.caps root) t.next_job (job_opened root up ws false t)))
        gone marks = record {
          lost = λ c among same unmarked.
              let o = Contains-from_map (λ (x : Capability). if list_any (key_eq x.key) ks then with_mark j x else x) t.caps c among in
              elim (cases_Bool (list_any (key_eq o.0.key) ks)) [
                | inl in_region ↦
                    let made : with_mark j o.0 ≡ c = sym (cond-true (list_any (key_eq o.0.key) ks) (with_mark j o.0) o.0 in_region) ∙ o.2 in
                    some-none (ap (λ (x : Capability). x.mark) made ∙ unmarked)
                | inr outside ↦
                    let left : o.0 ≡ c = sym (cond-false (list_any (key_eq o.0.key) ks) (with_mark j o.0) o.0 outside) ∙ o.2 in
                    true≢false (sym marks ∙ (ap (λ q. list_any (key_eq q) ks) (is.key ∙ sym (ap (λ (x : Capability). x.key) left ∙ same)) ∙ outside))
              ];
          unkept = λ x among keeps same.
              elim (Contains-append_cases t.jobs (record { id = t.next_job; root = root; up = up; waiters = ws; count = 0; keep = false } ∷ []) x among) [
                | inl before ↦ unkept x before keeps same
                | inr now ↦ elim (Contains-cons_cases (record { id = t.next_job; root = root; up = up; waiters = ws; count = 0; keep = false }) [] x now) [
                  | inl new ↦ true≢false (sym keeps ∙ ap (λ (y : JobRow). y.keep) (sym new))
                  | inr none ↦ Contains-nil x none
                ]
              ];
        }
          where
            some-none : Some t.next_job ≡ None → ⊥
            some-none same = absurd cc

  module _ (T : Setup) (i : ℕ) (s : Side) (is : IsBoundTo s) (unkept : IsKeptByNone k s) where
    -- the parts of a revoke, on a side with the endpoints and jobs of s
    pub revoked-fate : (u : ℕ) (root : KeyName) (m : Option ℕ) (t : Side) → t.endpoints ≡ s.endpoints → t.jobs ≡ s.jobs → Fate (revoke_begun T i u root m t)
    revoked-fate u root None t same jobs = begin-fate T i (parked_as u (RevokeWait t.next_job) t) (stays s (parked_as u (RevokeWait t.next_job) t) same is)
        (λ x among. unkept x (subst (λ js. Contains js x) jobs among)) root None (u ∷ [])
    revoked-fate u root (Some j) t same jobs = inl (stays s _ same is)

    pub requested-fate : (from j : ℕ) (root : KeyName) (o : Option Capability) (t : Side) → t.endpoints ≡ s.endpoints → t.jobs ≡ s.jobs
        → Fate (revoke_requested T i from j root o t)
    requested-fate from j root (Some c) t same jobs = by_mark c.mark
      where
        by_mark : (m : Option ℕ) → Fate (request_begun T i from j root m t)
        by_mark None = begin-fate T i t (stays s t same is) (λ x among. unkept x (subst (λ js. Contains js x) jobs among)) root (Some (Remote from j)) []
        by_mark (Some m) = inl (stays s _ same is)
    requested-fate from j root None t same jobs = inl (stays s _ (same-cancelled s.endpoints root t same) is)

    pub done-fate : (j : ℕ) (t : Side) → t.endpoints ≡ s.endpoints → Fate (revoke_done T i j t)
    done-fate j t same = by_job (job t j)
      where
        by_job : (o : Option JobRow) → Fate (settled_if_there T i j o t)
        by_job None = inl (stays s t same is)
        by_job (Some x) = inl (stays s _ (same-settled s.endpoints T i j (count_lowered j t) same) is)
