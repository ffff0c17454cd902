-- A token that comes back to a job moves nothing while the job marks a key still, and what the job marks alone where no other job is finished with it.
use Rattle.std.proofs.Common.{◌≡◌, ◌⊎◌, ℕ, ◌-◌, zero, suc, Bool, true, false, not, List, [], ◌∷◌, ◌++◌, length, Option, Some, None, refl, sym, ap, ◌∙◌, subst}
use Rattle.std.proofs.Common.{inl, inr, eq-eqb}
use Rattle.std.specs.Prelude.{◌==◌, if◌then◌else◌}
use Rattle.std.specs.List.{Contains, filter}
use Rattle.std.specs.Option.{option_map_or}
use Rattle.std.proofs.lemmas.Bool.{cond_both, eqb-true, ne_eqb, true≢false, not-true}
use Rattle.std.proofs.lemmas.Option.{same_Some}
use Rattle.sem_key.specs.KeyName.{KeyName, key_eq}
use Rattle.sem_key.specs.KeyList.{without_key}
use Rattle.sem_key.specs.Lists.{change}
use Rattle.sem_key.specs.Capability.{Capability}
use Rattle.sem_key.specs.CapList.{cap_of, is_marked_by, restored}
use Rattle.sem_key.proofs.KeyTests.{key_eq-true}
use Rattle.sem_key.proofs.Members.{found, Contains-map, Contains-from_map, Contains-filter, Contains-from_filter}
use Rattle.sem_msg.specs.declared.message.Message.{Message}
use Rattle.sem_msg.specs.declared.message.Message.TheVariants.{RevokeDone, Unlink}
use Rattle.sem_msg.specs.declared.event.Act.TheVariants.{Handle}
use Rattle.sem_msg.specs.declared.entry.Detail.TheVariants.{Carried, Nothing}
use Rattle.sem_msg.specs.declared.entry.Entry.{Entry}
use Rattle.sem_msg.specs.declared.state.Up.{Up}
use Rattle.sem_msg.specs.declared.state.Up.TheVariants.{Local, Remote}
use Rattle.sem_msg.specs.Rows.{JobRow}
use Rattle.sem_msg.specs.JobRows.{job_of, if_done, next_done}
use Rattle.sem_msg.specs.Setup.{Setup, IsSetup}
use Rattle.sem_msg.specs.Lookups.{owner_of, is_local}
use Rattle.sem_machine.specs.Sides.{Side, cap, job, unlinked, job_removed, send, with_inbox}
use Rattle.sem_machine.specs.Revokes.{count_lowered, root_spared, swept, woken, left_parent, parent_left, up_told, closed_here, closed, finish, settled}
use Rattle.sem_machine.specs.Revokes.{revoke_done}
use Rattle.sem_machine.specs.Handles.{handle_row, handled}
use Rattle.sem_machine.specs.Machine.{World, side, start, input_of, detail_of, local_step}
use Rattle.sem_machine.specs.Schedules.{IsSchedule, world_after}
use Rattle.sem_safety.proofs.CarryingWorlds.{stepped}
use Rattle.sem_safety.proofs.HeldOnce.{keys-distinct}
use Rattle.sem_safety.proofs.JobIds.{HasIds, ids, start-ids}
use Rattle.sem_safety.proofs.SideLayers.{run-kept}
use Rattle.sem_revoke.specs.Resting.{Names, HasMarkedParent}
use Rattle.sem_revoke.proofs.Above.{waited-below, marked-below}
use Rattle.sem_revoke.proofs.Marking.{roots-marked}
use Rattle.sem_revoke.proofs.Parents.{parent-held}
use Rattle.sem_query.specs.Whereabouts.{whereabouts}
use Rattle.sem_query.proofs.Bearing.{IsKin, IsAlike, alike-same, alike-next}
use Rattle.sem_query.proofs.Passing.{only-one, with-e, at}
use Rattle.sem_query.proofs.Changing.{made-so, shown-detail, side-here, held-same}
use Rattle.sem_query.proofs.MarkedChildren.{job-found}
use Rattle.sem_query.proofs.Staying.{finish-none}

-- none of these is marked by the job
abbrev NoneBy : ℕ → List Capability → Type 0
NoneBy j cs = (c : Capability) → Contains cs c → c.mark ≡ Some j → ⊥

module _ (j : ℕ) where
  -- a change of some that marks none by the job
  changed-none : (cs : List Capability) → NoneBy j cs → (test : Capability → Bool) (f : Capability → Capability) →
      ((c : Capability) → (f c).mark ≡ Some j → c.mark ≡ Some j) → NoneBy j (change test f cs)
  changed-none cs N test f back c among some =
      let d = Contains-from_map (λ (x : Capability). if test x then f x else x) cs c among in
      N d.0 d.1 (cond_both (test d.0) (f d.0) d.0 (λ (x : Capability). x.mark ≡ Some j →
      d.0.mark ≡ Some j) (λ _ is. back d.0 is) (λ _ is. is) (ap (λ (x : Capability). x.mark) d.2 ∙ some))

  filtered-none : (cs : List Capability) → NoneBy j cs → (test : Capability → Bool) → NoneBy j (filter test cs)
  filtered-none cs N test c among = N c (Contains-from_filter test cs c among).0

  -- what the job has marked is taken out
  removed-none : (cs : List Capability) → NoneBy j (filter (λ c. not (is_marked_by j c)) cs)
  removed-none cs c among some =
      let fails = (Contains-from_filter (λ x. not (is_marked_by j x)) cs c among).1 in
      let is : is_marked_by j c ≡ true = ap (λ o. option_map_or (λ m. m == j) o false) some ∙ eq-eqb j j refl in
      true≢false (sym is ∙ not-true (is_marked_by j c) fails)

  spared-none : (keep : Bool) (k : KeyName) (cs : List Capability) → NoneBy j cs → NoneBy j (if keep then restored cs k else cs)
  spared-none keep k cs N =
      cond_both keep (restored cs k) cs (NoneBy j) (λ _. changed-none cs N (λ c. key_eq c.key k) (λ c. record c { children = []; mark = None })
      (λ c no'. absurd cc)) (λ _. N)

  unlinked-none : (p k : KeyName) (t : Side) → NoneBy j t.caps → NoneBy j (unlinked p k t).caps
  unlinked-none p k t N = changed-none t.caps N (λ c. key_eq c.key p) (λ c. record c { children = without_key c.children k }) (λ c is. is)

  -- the job is given by its parts
  left-none : (T : Setup) (i id count : ℕ) (root : KeyName) (up : Option Up) (waiters : List ℕ) (keep : Bool) (o : Option KeyName) (t : Side) →
      NoneBy j t.caps → NoneBy j (parent_left T i (record { id = id; root = root; up = up; waiters = waiters; count = count; keep = keep }) o t).caps
  left-none T i id count root up waiters keep None t N = N
  left-none T i id count root None waiters keep (Some p) t N = cond_both (is_local T i p) (unlinked p root t) (send (owner_of T p) (Unlink p root) t)
      (λ (u : Side). NoneBy j u.caps) (λ _. unlinked-none p root t N) (λ _. N)
  left-none T i id count root (Some (Local m)) waiters keep (Some p) t N =
      cond_both (is_local T i p) (unlinked p root t) (send (owner_of T p) (Unlink p root) t) (λ (u : Side). NoneBy j u.caps) (λ _. unlinked-none p root t N)
      (λ _. N)
  left-none T i id count root (Some (Remote kernel m)) waiters keep (Some p) t N =
      cond_both (is_local T i p) (unlinked p root t) t (λ (u : Side). NoneBy j u.caps) (λ _. unlinked-none p root t N) (λ _. N)

  told-none : (up : Option Up) (t : Side) → NoneBy j t.caps → NoneBy j (up_told up t).caps
  told-none None t N = N
  told-none (Some (Local m)) t N = N
  told-none (Some (Remote kernel m)) t N = N

  -- what follows on a sweep
  closed-rest : (T : Setup) (i : ℕ) (x : JobRow) (t : Side) → NoneBy j (swept x (job_removed x.id t)).caps → NoneBy j (closed T i x t).caps
  unfolding closed_here
  closed-rest T i x t N =
      let gone : Side = job_removed x.id t in
      told-none x.up (closed_here T i x gone) (left-none T i x.id x.count x.root x.up x.waiters x.keep (left_parent gone x) (woken x.waiters (swept x gone)) N)

  -- a job that is closed leaves it so
  closed-none : (T : Setup) (i : ℕ) (x : JobRow) (t : Side) → NoneBy j t.caps → NoneBy j (closed T i x t).caps
  closed-none T i x t N =
      closed-rest T i x t (filtered-none (root_spared x (job_removed x.id t)).caps (spared-none x.keep x.root t.caps N) (λ c. not (is_marked_by x.id c)))

  -- and the job itself makes it so
  closed-itself : (T : Setup) (i : ℕ) (x : JobRow) (t : Side) → x.id ≡ j → NoneBy j (closed T i x t).caps
  closed-itself T i x t same =
      closed-rest T i x t (subst (λ m. NoneBy j (filter (λ c. not (is_marked_by m c)) (root_spared x (job_removed x.id t)).caps)) (sym same)
      (removed-none (root_spared x (job_removed x.id t)).caps))

  finish-none_by : (T : Setup) (i n : ℕ) (o : Option JobRow) (t : Side) → NoneBy j t.caps → NoneBy j (finish T i n o t).caps
  unfolding finish
  finish-none_by T i zero o t N = N
  finish-none_by T i (suc n) None t N = N
  finish-none_by T i (suc n) (Some x) t N = finish-none_by T i n (next_done x.up (closed T i x t).jobs) (closed T i x t) (closed-none T i x t N)

  done-id : (js : List JobRow) (x : JobRow) → if_done (job_of js j) ≡ Some x → (job_of js j ≡ Some x) × (x.id ≡ j)
  done-id js x is = by (job_of js j) refl is
    where
      by : (o : Option JobRow) → job_of js j ≡ o → if_done o ≡ Some x → (job_of js j ≡ Some x) × (x.id ≡ j)
      by None none e = absurd cc
      by (Some y) some e = cond_both (y.count == 0) (Some y) None (λ (o : Option JobRow). o ≡ Some x →
          (job_of js j ≡ Some x) × (x.id ≡ j)) (λ _ same. (
            some ∙ same,
            ap (λ (z : JobRow). z.id) (sym (same_Some y x same))
                ∙ eqb-true y.id j (found (λ (z : JobRow). z.id == j) js y some).1,
          )) (λ _ wrong. absurd cc) e

  -- what is finished leaves all as it is, or nothing that the job marks
  abbrev Either : Side → Side → Type 0
  Either s t = (t.caps ≡ s.caps) ⊎ NoneBy j t.caps

  finish-either : (T : Setup) (i n : ℕ) (o : Option JobRow) (t : Side) → ((x : JobRow) → o ≡ Some x → x.id ≡ j) → Either t (finish T i n o t)
  unfolding finish
  finish-either T i zero o t id = inl refl
  finish-either T i (suc n) None t id = inl refl
  finish-either T i (suc n) (Some x) t id =
      inr (finish-none_by T i n (next_done x.up (closed T i x t).jobs) (closed T i x t) (closed-itself T i x t (id x refl)))

  abbrev settled_if_there : Setup → ℕ → Option JobRow → Side → Side
  settled_if_there T i None s = s
  settled_if_there T i (Some x) s = settled T i j (count_lowered j s)

  -- a token that comes back leaves all as it is, or nothing that the job marks
  done-either : (T : Setup) (i : ℕ) (s : Side) → Either s (revoke_done T i j s)
  done-either T i s = by (job s j)
    where
      by : (o : Option JobRow) → Either s (settled_if_there T i o s)
      by None = inl refl
      by (Some x) = finish-either T i (length (count_lowered j s).jobs) (if_done (job (count_lowered j s) j)) (count_lowered j s)
          (λ y is. (done-id (count_lowered j s).jobs y is).1)

  -- where no such job is open, it leaves all as it is
  done-idle : (T : Setup) (i : ℕ) (s : Side) → job s j ≡ None → (revoke_done T i j s).caps ≡ s.caps
  done-idle T i s none = by (job s j) none
    where
      by : (o : Option JobRow) → o ≡ None → (settled_if_there T i o s).caps ≡ s.caps
      by None is = refl
      by (Some x) is = absurd cc

-- What other jobs have marked, xs before it.
module _ (xs : List Capability) (j : ℕ) where
  -- is there, marked as before
  abbrev Rests : List Capability → Type 0
  Rests cs = (c : Capability) → Contains xs c → (m : ℕ) → c.mark ≡ Some m → (m ≡ j → ⊥) → (d : Capability) × Contains cs d × IsAlike c d

  -- a change of some that leaves the marks of other jobs
  changed-rests : (cs : List Capability) → Rests cs → (test : Capability → Bool) (f : Capability → Capability) → ((c : Capability) → IsKin c (f c)) →
      ((c : Capability) → test c ≡ true → ((f c).mark ≡ c.mark) ⊎ ((e : Capability) → Contains xs e → e.key ≡ c.key → (m : ℕ) → e.mark ≡ Some m → m ≡ j)) →
      Rests (change test f cs)
  changed-rests cs R test f kin marks c was m some other =
      let d = R c was m some other in
      (g d.0, Contains-map g cs d.0 d.1, alike-next c d.0 (g d.0) d.2 (alike d.0 d.2.kin.key))
    where
      g : Capability → Capability
      g x = if test x then f x else x

      alike : (d : Capability) → d.key ≡ c.key → IsAlike d (g d)
      alike d key = cond_both (test d) (f d) d (IsAlike d) (λ pass. elim (marks d pass) [
        | inl same ↦ record { kin = kin d; mark = same }
        | inr own ↦ absurd (other (own c was (sym key) m some))
      ]) (λ _. alike-same d)

  removed-rests : (cs : List Capability) → Rests cs → (id : ℕ) → id ≡ j → Rests (filter (λ c. not (is_marked_by id c)) cs)
  removed-rests cs R id same c was m some other =
      let d = R c was m some other in
      let stays : is_marked_by id d.0 ≡ false = ap (λ o. option_map_or (λ q. q == id) o false) (d.2.mark ∙ some) ∙ ne_eqb m id (λ is. other (is ∙ same)) in
      (d.0, Contains-filter (λ x. not (is_marked_by id x)) cs d.0 d.1 (ap not stays), d.2)

  unlinked-rests : (p k : KeyName) (t : Side) → Rests t.caps → Rests (unlinked p k t).caps
  unlinked-rests p k t R = changed-rests t.caps R (λ c. key_eq c.key p) (λ c. record c { children = without_key c.children k })
      (λ c. record { key = refl; selector = refl; object = refl }) (λ c pass. inl refl)

  -- the job is given by its parts
  left-rests : (T : Setup) (i id count : ℕ) (root : KeyName) (up : Option Up) (waiters : List ℕ) (keep : Bool) (o : Option KeyName) (t : Side) → Rests t.caps →
      Rests (parent_left T i (record { id = id; root = root; up = up; waiters = waiters; count = count; keep = keep }) o t).caps
  left-rests T i id count root up waiters keep None t R = R
  left-rests T i id count root None waiters keep (Some p) t R = cond_both (is_local T i p) (unlinked p root t) (send (owner_of T p) (Unlink p root) t)
      (λ (u : Side). Rests u.caps) (λ _. unlinked-rests p root t R) (λ _. R)
  left-rests T i id count root (Some (Local m)) waiters keep (Some p) t R =
      cond_both (is_local T i p) (unlinked p root t) (send (owner_of T p) (Unlink p root) t) (λ (u : Side). Rests u.caps) (λ _. unlinked-rests p root t R)
      (λ _. R)
  left-rests T i id count root (Some (Remote kernel m)) waiters keep (Some p) t R =
      cond_both (is_local T i p) (unlinked p root t) t (λ (u : Side). Rests u.caps) (λ _. unlinked-rests p root t R) (λ _. R)

  told-rests : (up : Option Up) (t : Side) → Rests t.caps → Rests (up_told up t).caps
  told-rests None t R = R
  told-rests (Some (Local m)) t R = R
  told-rests (Some (Remote kernel m)) t R = R

  -- the root of a job is marked by it
  abbrev OwnsRoot : JobRow → Type 0
  OwnsRoot x = (c : Capability) → Contains xs c → c.key ≡ x.root → (m : ℕ) → c.mark ≡ Some m → m ≡ j

  closed-rests : (T : Setup) (i : ℕ) (x : JobRow) (t : Side) → Rests t.caps → x.id ≡ j → OwnsRoot x → Rests (closed T i x t).caps
  unfolding closed_here
  closed-rests T i x t R same own =
      let gone : Side = job_removed x.id t in
      told-rests x.up (closed_here T i x gone) (left-rests T i x.id x.count x.root x.up x.waiters x.keep (left_parent gone x) (woken x.waiters (swept x gone))
      (removed-rests (root_spared x gone).caps
      (cond_both x.keep (restored t.caps x.root) t.caps Rests
      (λ _. changed-rests t.caps R (λ c. key_eq c.key x.root) (λ c. record c { children = []; mark = None }) (λ c. record {
        key = refl;
        selector = refl;
        object = refl;
      }) (λ c pass. inr (λ e was key. own e was (key ∙ key_eq-true c.key x.root pass))))
      (λ _. R))
      x.id same))

  -- it is finished alone, if the job above it is not finished
  finish-rests : (T : Setup) (i n : ℕ) (o : Option JobRow) (t : Side) → Rests t.caps →
      ((x : JobRow) → o ≡ Some x → (x.id ≡ j) × OwnsRoot x × ((m : ℕ) → x.up ≡ Some (Local m) → NoneBy m (finish T i n o t).caps → ⊥)) →
      Rests (finish T i n o t).caps
  unfolding finish
  finish-rests T i zero o t R facts = R
  finish-rests T i (suc n) None t R facts = R
  finish-rests T i (suc n) (Some x) t R facts = by x.up refl
    where
      u : Side
      u = closed T i x t

      now : Rests u.caps
      now = closed-rests T i x t R (facts x refl).0 (facts x refl).1

      -- none is finished after it
      last : next_done x.up u.jobs ≡ None → Rests (finish T i n (next_done x.up u.jobs) u).caps
      last none = subst (λ o. Rests (finish T i n o u).caps) (sym none) (subst (λ (v : Side). Rests v.caps) (sym (finish-none T i n u)) now)

      by : (up : Option Up) → x.up ≡ up → Rests (finish T i n (next_done x.up u.jobs) u).caps
      by None none = last (ap (λ q. next_done q u.jobs) none)
      by (Some (Remote kernel m)) some = last (ap (λ q. next_done q u.jobs) some)
      by (Some (Local m)) some =
          elim (finish-either m T i n (next_done x.up u.jobs) u (λ y is. (done-id m u.jobs y (sym (ap (λ q. next_done q u.jobs) some) ∙ is)).1)) [
            | inl same ↦ subst Rests (sym same) now
            | inr none ↦ absurd ((facts x refl).2 m some none)
          ]

  done-rests : (T : Setup) (i : ℕ) (s : Side) → Rests s.caps →
      ((y : JobRow) → job (count_lowered j s) j ≡ Some y → OwnsRoot y × ((m : ℕ) → y.up ≡ Some (Local m) → NoneBy m (revoke_done T i j s).caps → ⊥)) →
      Rests (revoke_done T i j s).caps
  done-rests T i s R facts = by (job s j) refl
    where
      low : Side
      low = count_lowered j s

      by : (o : Option JobRow) → job s j ≡ o → Rests (settled_if_there j T i o s).caps
      by None none = R
      by (Some x) some = finish-rests T i (length low.jobs) (if_done (job low j)) low R (λ y is. (
          let of = done-id j low.jobs y is in
          let own = facts y of.0 in
          (of.1, own.0, λ m up none. own.1 m up (subst (λ o. NoneBy m (settled_if_there j T i o s).caps) (sym some) none))))

module _ (T : Setup) (valid : IsSetup T) (J : List Entry) (runs : IsSchedule T J) (before later : List Entry) (e : Entry) (parts : J ≡ before ++ e ∷ later)
    (k : KeyName) where
  abbrev W : World
  W = world_after T before

  abbrev V : World
  V = world_after T (before ++ e ∷ [])

  abbrev n : ℕ
  n = e.event.kernel

  abbrev s : Side
  s = side W n

  was : IsSchedule T before
  was = (at T valid J runs before later e parts k).0

  module _ (from j : ℕ) (act : e.event.act ≡ Handle) (detail : e.detail ≡ Carried from (RevokeDone j)) where
    -- what the step does
    step-done : (stepped T W e.event).side ≡ revoke_done T n j (with_inbox None s)
    unfolding local_step handle_row
    step-done = ap (λ a. (local_step T n s a (input_of W n a)).side) act ∙ by s.inbox refl
      where
        shown : Carried from (RevokeDone j) ≡ option_map_or (λ (x : ℕ × Message). Carried x.0 x.1) s.inbox Nothing
        shown = sym detail
            ∙ (shown-detail T W e (made-so T valid J runs before later e parts k)
            ∙ ap (λ a. detail_of T s a (input_of W n a) (stepped T W e.event).outcome) act)

        by : (o : Option (ℕ × Message)) → s.inbox ≡ o → option_map_or (λ m. handled T n (with_inbox None s) m.0 m.1) o s ≡ revoke_done T n j (with_inbox None s)
        by None none =
            let clash : Carried from (RevokeDone j) ≡ Nothing = shown ∙ ap (λ o. option_map_or (λ (x : ℕ × Message). Carried x.0 x.1) o Nothing) none in
            absurd cc
        by (Some m) full =
            ap (handled T n (with_inbox None s) m.0) (sent m.0 m.1 (shown ∙ ap (λ o. option_map_or (λ (x : ℕ × Message). Carried x.0 x.1) o Nothing) full))
          where
            sent : (a : ℕ) (x : Message) → Carried from (RevokeDone j) ≡ Carried a x → x ≡ RevokeDone j
            sent a x same = cc

    -- so the kernel has these capabilities after it
    caps-are : (side V n).caps ≡ (revoke_done T n j (with_inbox None s)).caps
    caps-are = ap (λ (t : Side). t.caps) (side-here T valid J runs before later e parts k n refl ∙ step-done)

    -- A key of the kernel.
    module _ (home : owner_of T k ≡ n) (c : Capability) (held : cap (side W (owner_of T k)) k ≡ Some c) where
      abbrev Stays : Type 0
      Stays = (d : Capability) × (cap (side V (owner_of T k)) k ≡ Some d) × IsAlike c d

      -- all is as it was
      all-same : (revoke_done T n j (with_inbox None s)).caps ≡ s.caps → Stays
      all-same same = (
        c,
        ap (λ i. cap (side V i) k) home ∙ (ap (λ cs. cap_of cs k) (caps-are ∙ same) ∙ (ap (λ i. cap (side W i) k) (sym home) ∙ held)),
        alike-same c,
      )

      -- the job marks a key still
      pub returned-open : (q : KeyName) (d : Capability) → cap (side V n) q ≡ Some d → d.mark ≡ Some j → Stays
      returned-open q d held' marked = elim (done-either j T n (with_inbox None s)) [
        | inl same ↦ all-same same
        | inr none ↦ absurd (none d (subst (λ cs. Contains cs d) caps-are (found (λ (x : Capability). key_eq x.key q) (side V n).caps d held').0) marked)
      ]

      -- the job marks none before it
      pub returned-idle : ((q : KeyName) (d : Capability) → owner_of T q ≡ n → cap s q ≡ Some d → d.mark ≡ Some j → ⊥) → Stays
      returned-idle none = all-same (done-idle j T n (with_inbox None s) (by (job s j) refl))
        where
          by : (o : Option JobRow) → job s j ≡ o → job s j ≡ None
          by None is = is
          by (Some x) is =
              let root = roots-marked T valid before was n j x is in
              absurd (none x.root root.1.0 root.0 (ap (λ i. cap (side W i) x.root) (sym root.0) ∙ root.1.1) root.1.2)

      -- the key is one of another job, and the job that has marked the parent of a key of the token's job marks it still
      pub returned-rests : (m : ℕ) → c.mark ≡ Some m → (m ≡ j → ⊥) → (r : KeyName) (cr : Capability) → cap s r ≡ Some cr → cr.mark ≡ Some j
          → ((p : KeyName) (d : Capability) (i : ℕ) → cr.parent ≡ Some p → cap s p ≡ Some d → d.mark ≡ Some i → (e : Capability) × (cap (side V n) p ≡ Some e)
          × (e.mark ≡ Some i))
          → Stays
      returned-rests m marked other r cr held_r marked_r above =
          let here : cap s k ≡ Some c = ap (λ i. cap (side W i) k) (sym home) ∙ held in
          let of_c = found (λ (x : Capability). key_eq x.key k) s.caps c here in
          let d = done-rests s.caps j T n (with_inbox None s) (λ x among i some apart. (x, among, alike-same x)) facts c of_c.0 m marked other in
          let among : Contains (side V n).caps d.0 = subst (λ cs. Contains cs d.0) (sym caps-are) d.1 in (
            d.0,
            ap (λ i. cap (side V i) k) home
                ∙ only-one k (side V n).caps (keys-distinct T valid (before ++ e ∷ []) (with-e T valid J runs before later e parts k) n) d.0 among (d.2.kin.key
                ∙ key_eq-true c.key k of_c.1),
            d.2,
          )
        where
          -- the job as it was
          open-before : (y : JobRow) → job (count_lowered j (with_inbox None s)) j ≡ Some y → (x : JobRow) × (job s j ≡ Some x) × (y.root ≡ x.root)
              × (y.up ≡ x.up)
          open-before y is =
              let lower : JobRow → JobRow = λ x. if x.id == j then record x { count = x.count - 1 } else x in
              let of_y = found (λ (z : JobRow). z.id == j) (count_lowered j (with_inbox None s)).jobs y is in
              let x = Contains-from_map lower s.jobs y of_y.0 in
              let same : (x' : JobRow) → ((lower x').id ≡ x'.id) × ((lower x').root ≡ x'.root)
              × ((lower x').up ≡ x'.up) = λ x'. cond_both (x'.id == j) (record x' { count = x'.count - 1 }) x' (λ (z : JobRow). (z.id ≡ x'.id)
              × (z.root ≡ x'.root) × (z.up ≡ x'.up)) (λ _. (refl, refl, refl)) (λ _. (refl, refl, refl)) in
              let id : x.0.id ≡ j = sym (same x.0).0 ∙ (ap (λ (z : JobRow). z.id) x.2 ∙ eqb-true y.id j of_y.1) in (
                x.0,
                subst (λ i. job s i ≡ Some x.0) id (job-found s (run-kept HasIds ids T before (start T) (start-ids T) n) x.0 x.1),
                ap (λ (z : JobRow). z.root) (sym x.2) ∙ (same x.0).1,
                ap (λ (z : JobRow). z.up) (sym x.2) ∙ (same x.0).2,
              )

          facts : (y : JobRow) → job (count_lowered j (with_inbox None s)) j ≡ Some y →
              OwnsRoot s.caps j y × ((i : ℕ) → y.up ≡ Some (Local i) → NoneBy i (revoke_done T n j (with_inbox None s)).caps → ⊥)
          facts y is = (own, up)
            where
              b : (x : JobRow) × (job s j ≡ Some x) × (y.root ≡ x.root) × (y.up ≡ x.up)
              b = open-before y is

              own : OwnsRoot s.caps j y
              own x among key i some =
                  let root = roots-marked T valid before was n j b.0 b.1 in
                  let at_root : cap s b.0.root ≡ Some root.1.0 = ap (λ a. cap (side W a) b.0.root) (sym root.0) ∙ root.1.1 in
                  let this : cap s b.0.root ≡ Some x = only-one b.0.root s.caps (keys-distinct T valid before was n) x among (key ∙ b.2) in
                  let same : x ≡ root.1.0 = same_Some x root.1.0 (sym this ∙ at_root) in
                  same_Some i j (sym some ∙ (ap (λ (z : Capability). z.mark) same ∙ root.1.2))

              -- what the parent's job has marked is there
              bounded : (i : ℕ) → HasMarkedParent before W n i r → NoneBy i (side V n).caps → ⊥
              bounded i P none =
                  let d = above P.parent P.capability i (parent-held T valid before was n P.parent r cr held_r P.granted) P.held P.marked in
                  none d.0 (found (λ (x : Capability). key_eq x.key P.parent) (side V n).caps d.0 d.1).0 d.2

              up : (i : ℕ) → y.up ≡ Some (Local i) → NoneBy i (revoke_done T n j (with_inbox None s)).caps → ⊥
              up i is_up none =
                  let none' : NoneBy i (side V n).caps = subst (NoneBy i) (sym caps-are) none in
                  elim (marked-below T valid before was n r cr j b.0 held_r marked_r b.1) [
                    | inl root ↦ bounded i
                        (subst (HasMarkedParent before W n i) (sym root)
                        (waited-below T valid before was n j b.0 b.1 n i (subst (λ o. Names o n n i) (sym (sym b.3 ∙ is_up)) (refl, refl)))) none'
                    | inr below ↦ bounded j below (elim (done-either j T n (with_inbox None s)) [
                      | inr gone ↦ subst (NoneBy j) (sym caps-are) gone
                      | inl same ↦ absurd (still same none')
                    ])
                  ]
                where
                  -- where nothing is finished the job above marks what it has marked
                  still : (revoke_done T n j (with_inbox None s)).caps ≡ s.caps → NoneBy i (side V n).caps → ⊥
                  still same none' =
                      let P = waited-below T valid before was n j b.0 b.1 n i (subst (λ o. Names o n n i) (sym (sym b.3 ∙ is_up)) (refl, refl)) in
                      none' P.capability
                      (subst (λ cs. Contains cs P.capability) (sym (caps-are ∙ same))
                      (found (λ (x : Capability). key_eq x.key P.parent) s.caps P.capability P.held).0) P.marked

-- a key that the kernel holds stays where it is, if the job of the token marks one after it
pub open-stays : (T : Setup) → IsSetup T → (J : List Entry) → IsSchedule T J → (before later : List Entry) (e : Entry) → J ≡ before ++ e ∷ later →
    (k q : KeyName) (c d : Capability) (from j : ℕ) → e.event.act ≡ Handle → e.detail ≡ Carried from (RevokeDone j) → owner_of T k ≡ e.event.kernel
    → cap (side (world_after T before) (owner_of T k)) k ≡ Some c → cap (side (world_after T (before ++ e ∷ [])) e.event.kernel) q ≡ Some d → d.mark ≡ Some j →
    whereabouts T (world_after T before) k ≡ whereabouts T (world_after T (before ++ e ∷ [])) k
open-stays T valid J runs before later e parts k q c d from j act detail home held held' marked =
    let x = returned-open T valid J runs before later e parts k from j act detail home c held q d held' marked in
    held-same T valid J runs before later e parts k c x.0 held x.1 x.2.mark x.2.kin.selector
