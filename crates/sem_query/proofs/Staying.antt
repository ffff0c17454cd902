-- A job that begins marks with an id of its own: what was marked before stays as it is, until a token comes back.
use Rattle.std.proofs.Common.{◌≡◌, ◌⊎◌, ℕ, zero, suc, ◌+◌, ◌<◌, Bool, true, false, not, ◌&&◌, List, [], ◌∷◌, length, Option, Some, None, refl, sym, ap, ◌∙◌}
use Rattle.std.proofs.Common.{subst, inl, inr, arith, eq-eqb}
use Rattle.std.specs.Prelude.{◌==◌, if◌then◌else◌}
use Rattle.std.specs.List.{Contains, All, filter, list_any}
use Rattle.std.specs.Option.{option_map_or, option_and_then, is_none}
use Rattle.std.proofs.lemmas.Bool.{cases_Bool, cond_both, cond-true, cond-false, and_parts, eqb-true, ne_eqb, true≢false}
use Rattle.std.proofs.lemmas.List.Elements.{All-contains, Contains-append_cases}
use Rattle.std.proofs.lemmas.Option.{same_Some}
use Rattle.sem_key.specs.KeyName.{KeyName, key_eq}
use Rattle.sem_key.specs.KeyList.{without_key}
use Rattle.sem_key.specs.Lists.{change}
use Rattle.sem_key.specs.Capability.{Capability}
use Rattle.sem_key.specs.CapList.{is_marked_by, restored, with_mark}
use Rattle.sem_key.specs.Region.{has_key, grow, region, children_of}
use Rattle.sem_key.proofs.KeyTests.{key_eq-true, Contains-from_has_key}
use Rattle.sem_key.proofs.Members.{found, Contains-nil, Contains-cons_cases, Contains-map, Contains-from_map, Contains-filter, Contains-from_filter}
use Rattle.sem_msg.specs.declared.message.Message.TheVariants.{RevokeReq, Unlink}
use Rattle.sem_msg.specs.declared.state.Up.{Up}
use Rattle.sem_msg.specs.declared.state.Up.TheVariants.{Local, Remote}
use Rattle.sem_msg.specs.Rows.{JobRow}
use Rattle.sem_msg.specs.Setup.{Setup}
use Rattle.sem_msg.specs.Lookups.{owner_of, is_local}
use Rattle.sem_msg.specs.JobRows.{if_done, next_done}
use Rattle.sem_machine.specs.Sides.{Side, cap, job, unlinked, mark_all, unbind_all, caps_removed, job_opened, job_removed, send}
use Rattle.sem_machine.specs.Revokes.{count_raised, with_up, other_marker, adopted, request_or_adopt, root_spared, selectors_freed, swept, woken, left_parent}
use Rattle.sem_machine.specs.Revokes.{parent_left, up_told, closed_here, closed, finish, settled, opened, begin}
use Rattle.sem_machine.proofs.Folds.{in_turn-keeps}
use Rattle.sem_safety.proofs.JobIds.{IdsRise, HasIds, ids}
use Rattle.sem_query.proofs.Bearing.{IsKin, IsAlike, alike-same, alike-next}

-- no job of this kernel waits for the job
abbrev pub IsFar : Option Up → Type 0
IsFar None = Unit {0}
IsFar (Some (Local j)) = ⊥
IsFar (Some (Remote kernel j)) = Unit {0}

-- so none is finished after it
far-next : (up : Option Up) → IsFar up → (xs : List JobRow) → next_done up xs ≡ None
far-next None far xs = refl
far-next (Some (Local j)) far xs = absurd far
far-next (Some (Remote kernel j)) far xs = refl

pub finish-none : (T : Setup) (i n : ℕ) (t : Side) → finish T i n None t ≡ t
unfolding finish
finish-none T i zero t = refl
finish-none T i (suc n) t = refl

-- what is in a region is not marked
in-region : (caps : List Capability) (root k : KeyName) → has_key (region caps root) k ≡ true → (c : Capability) × Contains caps c × (c.key ≡ k)
    × (c.mark ≡ None)
in-region caps root k has =
    let reached : List KeyName = grow (length caps) caps (root ∷ []) in
    let of = Contains-from_map (λ (c : Capability). c.key) (filter (λ c. is_none c.mark && has_key reached c.key) caps) k
    (Contains-from_has_key (region caps root) k has) in
    let kept = Contains-from_filter (λ c. is_none c.mark && has_key reached c.key) caps of.0 of.1 in
    (of.0, kept.0, of.2, none of.0.mark (and_parts (is_none of.0.mark) (has_key reached of.0.key) kept.1).0)
  where
    none : (m : Option ℕ) → is_none m ≡ true → m ≡ None
    none None is = refl
    none (Some j) is = absurd cc

-- a job that is adopted is another one
other-apart : (j : ℕ) (o : Option Capability) (m : ℕ) → other_marker j o ≡ Some m → m ≡ j → ⊥
other-apart j None m is same = absurd cc
other-apart j (Some c) m is same = from c.mark is
  where
    from : (p : Option ℕ) → option_and_then (λ q. if q == j then None else Some q) p ≡ Some m → ⊥
    from None none = absurd cc
    from (Some q) some = elim (cases_Bool (q == j)) [
      | inl pass ↦ let clash : None ≡ Some m = sym (cond-true (q == j) None (Some q) pass) ∙ some in absurd cc
      | inr fail ↦ let is_m : q ≡ m = same_Some q m (sym (cond-false (q == j) None (Some q) fail) ∙ some) in
          true≢false (sym (ap (λ x. x == j) is_m ∙ ap (λ x. x == j) same ∙ eq-same j) ∙ fail)
    ]
      where
        eq-same : (n : ℕ) → (n == n) ≡ true
        eq-same n = eq-eqb n n refl

-- xs are the capabilities before the step
module _ (xs : List Capability) where
  -- the key of none that is marked
  abbrev pub IsUnmarkedKey : KeyName → Type 0
  IsUnmarkedKey k = (c : Capability) → Contains xs c → c.key ≡ k → (m : ℕ) → c.mark ≡ Some m → ⊥

  -- those that are marked are marked by a job before this one
  abbrev AreOlder : ℕ → Type 0
  AreOlder j = (c : Capability) → Contains xs c → (m : ℕ) → c.mark ≡ Some m → m < j

  -- they are there, marked as before, and nothing else stands under their keys
  pub record StayIn (cs : List Capability) (js : List JobRow) (n : ℕ) : Type 0 where
    pub rise : IdsRise js
    pub drawn : All (λ (x : JobRow). x.id < n) js
    pub older : AreOlder n
    pub there : (c : Capability) → Contains xs c → (m : ℕ) → c.mark ≡ Some m → (d : Capability) × Contains cs d × IsAlike c d
    pub alone : (c : Capability) → Contains xs c → (m : ℕ) → c.mark ≡ Some m → (d : Capability) → Contains cs d → d.key ≡ c.key → d.mark ≡ Some m

  abbrev pub Stay : Side → Type 0
  Stay t = StayIn t.caps t.jobs t.next_job

  -- an unmarked capability has the key of none that was marked
  pub free-of : (t : Side) → Stay t → (c : Capability) → Contains t.caps c → c.mark ≡ None → IsUnmarkedKey c.key
  free-of t S c among none = λ e was same m some. (let clash : None ≡ Some m = sym none ∙ S.alone e was m some c among (sym same) in absurd cc)

  -- Changes of jobs.

  pub ids-of : (t : Side) → Stay t → HasIds t
  ids-of t S = record { rise = S.rise; drawn = S.drawn }

  pub with-jobs : (t : Side) → Stay t → (js : List JobRow) → HasIds (record t { jobs = js }) → Stay (record t { jobs = js })
  with-jobs t S js I = record { rise = I.rise; drawn = I.drawn; older = S.older; there = S.there; alone = S.alone }

  pub changed-job : (t : Side) → Stay t → (j : ℕ) (f : JobRow → JobRow) → ((x : JobRow) → ((f x).id ≡ x.id) × ((f x).root ≡ x.root)) →
      Stay (record t { jobs = change (λ (x : JobRow). x.id == j) f t.jobs })
  changed-job t S j f same = with-jobs t S (change (λ (x : JobRow). x.id == j) f t.jobs) (ids.keeps_changed t (ids-of t S) j f same)

  -- Changes of capabilities.

  -- one that leaves keys and selectors, and marks none that was marked
  changed : (t : Side) → Stay t → (test : Capability → Bool) (f : Capability → Capability) → ((c : Capability) → IsKin c (f c)) →
      ((c : Capability) → test c ≡ true → ((f c).mark ≡ c.mark) ⊎ IsUnmarkedKey c.key) → Stay (record t { caps = change test f t.caps })
  changed t S test f kin marks = record {
    rise = S.rise;
    drawn = S.drawn;
    older = S.older;
    there = λ c was m some.
        let d = S.there c was m some in
        (g d.0, Contains-map g t.caps d.0 d.1, alike-next c d.0 (g d.0) d.2 (alike d.0 c was d.2.kin.key m some));
    alone = λ c was m some e among key.
        let d = Contains-from_map g t.caps e among in
        let key_d : d.0.key ≡ c.key = sym (keys d.0) ∙ (ap (λ (x : Capability). x.key) d.2 ∙ key) in
        ap (λ (x : Capability). x.mark) (sym d.2) ∙ ((alike d.0 c was key_d m some).mark ∙ S.alone c was m some d.0 d.1 key_d);
  }
    where
      g : Capability → Capability
      g c = if test c then f c else c

      keys : (c : Capability) → (g c).key ≡ c.key
      keys c = cond_both (test c) (f c) c (λ (x : Capability). x.key ≡ c.key) (λ _. (kin c).key) (λ _. refl)

      alike : (d c : Capability) → Contains xs c → d.key ≡ c.key → (m : ℕ) → c.mark ≡ Some m → IsAlike d (g d)
      alike d c was key m some = cond_both (test d) (f d) d (IsAlike d) (λ pass. elim (marks d pass) [
        | inl same ↦ record { kin = kin d; mark = same }
        | inr free ↦ absurd (free c was (sym key) m some)
      ]) (λ _. alike-same d)

  unlinked-stay : (t : Side) → Stay t → (p k : KeyName) → Stay (unlinked p k t)
  unlinked-stay t S p k = changed t S (λ c. key_eq c.key p) (λ c. record c { children = without_key c.children k }) (λ c. record {
    key = refl;
    selector = refl;
    object = refl;
  }) (λ c pass. inl refl)

  marked-stay : (t : Side) → Stay t → (ks : List KeyName) (j : ℕ) → ((k : KeyName) → has_key ks k ≡ true → IsUnmarkedKey k) → Stay (mark_all ks j t)
  marked-stay t S ks j free = changed t S (λ c. list_any (key_eq c.key) ks) (with_mark j) (λ c. record { key = refl; selector = refl; object = refl })
      (λ c pass. inr (free c.key pass))

  removed-stay : (t : Side) → Stay t → (j : ℕ) → AreOlder j → Stay (caps_removed j t)
  removed-stay t S j older = record {
    rise = S.rise;
    drawn = S.drawn;
    older = S.older;
    there = λ c was m some.
        let d = S.there c was m some in
        let below = older c was m some in
        let stays : is_marked_by j d.0 ≡ false = ap (λ o. option_map_or (λ q. q == j) o false) (d.2.mark ∙ some)
        ∙ ne_eqb m j (λ same. omega (arith, below, same)) in
        (d.0, Contains-filter (λ x. not (is_marked_by j x)) t.caps d.0 d.1 (ap not stays), d.2);
    alone = λ c was m some d among key. S.alone c was m some d (Contains-from_filter (λ x. not (is_marked_by j x)) t.caps d among).0 key;
  }

  -- A job that begins is closed.

  spared-stay : (t : Side) → Stay t → (x : JobRow) → IsUnmarkedKey x.root → Stay (root_spared x t)
  spared-stay t S x free = cond_both x.keep (restored t.caps x.root) t.caps (λ cs. Stay (record t { caps = cs }))
      (λ _. changed t S (λ c. key_eq c.key x.root) (λ c. record c { children = []; mark = None }) (λ c. record { key = refl; selector = refl; object = refl })
      (λ c pass. inr (subst IsUnmarkedKey (sym (key_eq-true c.key x.root pass)) free)))
      (λ _. S)

  swept-stay : (t : Side) → Stay t → (x : JobRow) → IsUnmarkedKey x.root → AreOlder x.id → Stay (swept x t)
  swept-stay t S x free older = removed-stay (selectors_freed x.id (root_spared x t)) (spared-stay t S x free) x.id older

  -- the job is given by its parts
  left-stay : (T : Setup) (i id count : ℕ) (root : KeyName) (up : Option Up) (waiters : List ℕ) (keep : Bool) (o : Option KeyName) (t : Side) → Stay t →
      Stay (parent_left T i (record { id = id; root = root; up = up; waiters = waiters; count = count; keep = keep }) o t)
  left-stay T i id count root up waiters keep None t S = S
  left-stay T i id count root None waiters keep (Some p) t S = cond_both (is_local T i p) (unlinked p root t) (send (owner_of T p) (Unlink p root) t) Stay
      (λ _. unlinked-stay t S p root) (λ _. S)
  left-stay T i id count root (Some (Local j)) waiters keep (Some p) t S =
      cond_both (is_local T i p) (unlinked p root t) (send (owner_of T p) (Unlink p root) t) Stay (λ _. unlinked-stay t S p root) (λ _. S)
  left-stay T i id count root (Some (Remote kernel j)) waiters keep (Some p) t S =
      cond_both (is_local T i p) (unlinked p root t) t Stay (λ _. unlinked-stay t S p root) (λ _. S)

  told-stay : (up : Option Up) → IsFar up → (t : Side) → Stay t → Stay (up_told up t)
  told-stay None far t S = S
  told-stay (Some (Local j)) far t S = absurd far
  told-stay (Some (Remote kernel j)) far t S = S

  closed-stay : (T : Setup) (i : ℕ) (x : JobRow) (t : Side) → Stay t → IsFar x.up → IsUnmarkedKey x.root → AreOlder x.id → Stay (closed T i x t)
  unfolding closed_here
  closed-stay T i x t S far free older =
      let gone : Side = job_removed x.id t in
      let out : Stay gone = with-jobs t S gone.jobs (ids.keeps_closed t (ids-of t S) x.id) in
      told-stay x.up far (closed_here T i x gone) (left-stay T i x.id x.count x.root x.up x.waiters x.keep (left_parent gone x) (woken x.waiters (swept x gone))
      (swept-stay gone out x free older))

  -- A job is opened.
  module _ (T : Setup) (i j : ℕ) (root : KeyName) (up : Option Up) where
    -- the jobs of that id are as it was opened
    abbrev AreOf : List JobRow → Type 0
    AreOf js = (x : JobRow) → Contains js x → x.id ≡ j → (x.root ≡ root) × (x.up ≡ up)

    record Opens (t : Side) : Type 0 where
      pub stay : Stay t
      pub of : AreOf t.jobs

    -- a change of a job, which leaves root and `up` of that one
    changed-of : (js : List JobRow) → AreOf js → (k : ℕ) (f : JobRow → JobRow) → ((x : JobRow) → (f x).id ≡ x.id) →
        ((x : JobRow) → k ≡ j → ((f x).root ≡ x.root) × ((f x).up ≡ x.up)) → AreOf (change (λ (x : JobRow). x.id == k) f js)
    changed-of js of k f id keeps = λ y among.
        let x = Contains-from_map (λ (x : JobRow). if x.id == k then f x else x) js y among in
        subst (λ (z : JobRow). z.id ≡ j → (z.root ≡ root) × (z.up ≡ up)) x.2
        (cond_both (x.0.id == k) (f x.0) x.0 (λ (z : JobRow). z.id ≡ j → (z.root ≡ root) × (z.up ≡ up))
        (λ pass same.
        let was : x.0.id ≡ j = sym (id x.0) ∙ same in
        let is = of x.0 x.1 was in
        let on = keeps x.0 (sym (eqb-true x.0.id k pass) ∙ was) in
        (on.0 ∙ is.0, on.1 ∙ is.1))
        (λ _ same. of x.0 x.1 same))

    raised-opens : (t : Side) → Opens t → Opens (count_raised j t)
    raised-opens t O = record {
      stay = changed-job t O.stay j (λ x. record x { count = x.count + 1 }) (λ x. (refl, refl));
      of = changed-of t.jobs O.of j (λ x. record x { count = x.count + 1 }) (λ x. refl) (λ x same. (refl, refl));
    }

    adopted-opens : (o : Option ℕ) → ((m : ℕ) → o ≡ Some m → m ≡ j → ⊥) → (t : Side) → Opens t → Opens (adopted j o t)
    adopted-opens None apart t O = O
    adopted-opens (Some m) apart t O = raised-opens (with_up (Local j) m t) (record {
      stay = changed-job t O.stay m (λ x. record x { up = Some (Local j); keep = false }) (λ x. (refl, refl));
      of = changed-of t.jobs O.of m (λ x. record x { up = Some (Local j); keep = false }) (λ x. refl) (λ x same. absurd (apart m refl same));
    })

    request-opens : (k : KeyName) (t : Side) → Opens t → Opens (request_or_adopt T i j k t)
    request-opens k t O = cond_both (is_local T i k) (adopted j (other_marker j (cap t k)) t) (count_raised j (send (owner_of T k) (RevokeReq k j) t)) Opens
        (λ _. adopted-opens (other_marker j (cap t k)) (λ m is. other-apart j (cap t k) m is) t O)
        (λ _. raised-opens (send (owner_of T k) (RevokeReq k j) t) (record { stay = O.stay; of = O.of }))

    -- and it is finished, where it has no token out
    settled-stay : (t : Side) → Opens t → IsFar up → IsUnmarkedKey root → AreOlder j → Stay (settled T i j t)
    unfolding finish
    settled-stay t O far free older = from (job t j) refl
      where
        none : (n : ℕ) (u : Side) → Stay u → Stay (finish T i n None u)
        none n u S = subst Stay (sym (finish-none T i n u)) S

        some : (n : ℕ) (x : JobRow) → job t j ≡ Some x → Stay (finish T i n (Some x) t)
        some zero x is = O.stay
        some (suc n) x is =
            let there = found (λ (y : JobRow). y.id == j) t.jobs x is in
            let id : x.id ≡ j = eqb-true x.id j there.1 in
            let of = O.of x there.0 id in
            let far' : IsFar x.up = subst IsFar (sym of.1) far in
            let gone : Stay (closed T i x t) = closed-stay T i x t O.stay far' (subst IsUnmarkedKey (sym of.0) free) (subst AreOlder (sym id) older) in
            subst (λ o. Stay (finish T i n o (closed T i x t))) (sym (far-next x.up far' (closed T i x t).jobs)) (none n (closed T i x t) gone)

        from : (o : Option JobRow) → job t j ≡ o → Stay (finish T i (length t.jobs) (if_done o) t)
        from None is = none (length t.jobs) t O.stay
        from (Some x) is = cond_both (x.count == 0) (Some x) None (λ o. Stay (finish T i (length t.jobs) o t)) (λ _. some (length t.jobs) x is)
            (λ _. none (length t.jobs) t O.stay)

  pub begin-stay : (T : Setup) (i : ℕ) (root : KeyName) (up : Option Up) (waiters : List ℕ) (keep : Bool) (t : Side) → Stay t → IsFar up → IsUnmarkedKey root →
      Stay (begin T i root up waiters keep t)
  unfolding opened
  begin-stay T i root up waiters keep t S far free = settled-stay T i t.next_job root up (opened T i root up waiters keep t) opens far free S.older
    where
      ks : List KeyName
      ks = region t.caps root

      one : Side
      one = job_opened root up waiters keep t

      row : JobRow
      row = record { id = t.next_job; root = root; up = up; waiters = waiters; count = 0; keep = keep }

      stay-one : Stay one
      stay-one =
          let I = ids.keeps_opened t (ids-of t S) root up waiters keep in
          record {
            rise = I.rise;
            drawn = I.drawn;
            older = λ c was m some. (let below = S.older c was m some in omega (arith, below));
            there = S.there;
            alone = S.alone;
          }

      of-one : (x : JobRow) → Contains one.jobs x → x.id ≡ t.next_job → (x.root ≡ root) × (x.up ≡ up)
      of-one x among same = elim (Contains-append_cases t.jobs (row ∷ []) x among) [
        | inl old ↦ let below = All-contains (λ (y : JobRow). y.id < t.next_job) t.jobs x S.drawn old in absurd (omega (arith, below, same))
        | inr new ↦ elim (Contains-cons_cases row [] x new) [
          | inl is ↦ (ap (λ (y : JobRow). y.root) (sym is), ap (λ (y : JobRow). y.up) (sym is))
          | inr no' ↦ absurd (Contains-nil x no')
        ]
      ]

      marks : (k : KeyName) → has_key ks k ≡ true → IsUnmarkedKey k
      marks k has = let c = in-region t.caps root k has in subst IsUnmarkedKey c.2 (free-of t S c.0 c.1 c.3)

      opens : Opens T i t.next_job root up (opened T i root up waiters keep t)
      opens = in_turn-keeps (Opens T i t.next_job root up) (request_or_adopt T i t.next_job) (λ k u here. request-opens T i t.next_job root up k u here)
          (children_of t.caps ks) (unbind_all ks (mark_all ks t.next_job one))
          (record { stay = marked-stay one stay-one ks t.next_job marks; of = of-one })
