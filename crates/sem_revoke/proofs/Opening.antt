-- A job begins: its region is marked, and the row owes requests to the children of that.
use Rattle.std.proofs.Common.{◌≡◌, ◌⊎◌, ℕ, ◌<◌, Bool, is_none, true, false, ◌&&◌, List, [], ◌∷◌, Option, Some, None, refl, sym, ap, ◌∙◌, subst, inl, inr, arith}
use Rattle.std.proofs.Common.{eq-eqb}
use Rattle.std.specs.Prelude.{◌==◌, if◌then◌else◌}
use Rattle.std.specs.List.{Contains, filter, list_any}
use Rattle.std.specs.Option.{option_map, option_or}
use Rattle.std.proofs.lemmas.Bool.{cases_Bool, cases_eq, false_from_ne_true, cond-true, cond-false, eqb-true, and_parts, and_from, true≢false}
use Rattle.std.proofs.lemmas.Option.{same_Some}
use Rattle.std.proofs.lemmas.List.Elements.{All-contains}
use Rattle.sem_key.specs.KeyName.{KeyName, IsValidKey, key_eq, packed}
use Rattle.sem_key.specs.KeyList.{with_key, key_set, IsRising}
use Rattle.sem_key.specs.Lists.{in_turn}
use Rattle.sem_key.specs.Capability.{Capability}
use Rattle.sem_key.specs.CapList.{with_mark}
use Rattle.sem_msg.specs.declared.state.Up.{Up}
use Rattle.sem_msg.specs.Rows.{JobRow}
use Rattle.sem_machine.specs.Sides.{Side, cap, job, job_opened, mark_all, unbind_all}
use Rattle.sem_key.specs.Region.{has_key, Reached, linked_from, region, children_of}
use Rattle.sem_machine.specs.Revokes.{request_or_adopt}
use Rattle.sem_key.specs.Region.Reached.{at_root, by_link}
use Rattle.sem_key.proofs.KeyTests.{key_eq-true, Contains-from_has_key, has_key-from_Contains}
use Rattle.sem_key.proofs.Members.{Contains-nil, Contains-head, Contains-tail, Contains-filter, Contains-from_filter, Contains-flat_map, Contains-from_flat_map}
use Rattle.sem_key.proofs.Members.{found}
use Rattle.sem_key.proofs.Regions.{find-at, reached_cap, region-exact}
use Rattle.sem_safety.specs.Observations.{ObservedSide}
use Rattle.sem_key.proofs.KeySets.{with_key-from, key_set-has}
use Rattle.sem_safety.proofs.Updates.{seen-mark_all, seen-job_opened}
use Rattle.sem_safety.proofs.Lives.{at_side, lives}
use Rattle.sem_safety.proofs.JobIds.{ids}
use Rattle.sem_revoke.proofs.Closing.{changed-rises}
use Rattle.sem_revoke.specs.Views.{Obligations, IsAlone, IsCaused, no_obligations, children}
use Rattle.sem_revoke.specs.Scales.{bit, names, requesting, naming, counting, noticing, straying}
use Rattle.sem_revoke.proofs.Keeping.{Begins, keep_begun, fit-begun, cases_Option}
use Rattle.sem_revoke.proofs.Scaling.{side-opened, pairs-head, pairs-tail}
use Rattle.sem_revoke.proofs.Viewing.{on_its_way, Scene, one-true, one-false, owner, view, IsUnder, Row, hold-here, job-here, job-away}
use Rattle.sem_revoke.proofs.Settling.{Settling, settle-all, settled-all, AreApart}
use Rattle.sem_sound.proofs.Rising.{key_set-rises}

-- What is linked from unmarked capabilities: each child of one whose key is among these.
linked : (caps : List Capability) (ks : List KeyName) (p : Capability) (k : KeyName) → Contains caps p → p.mark ≡ None → has_key ks p.key ≡ true →
    has_key p.children k ≡ true → has_key (linked_from caps ks) k ≡ true
linked caps ks p k in_caps unmarked has child =
    has_key-from_Contains (linked_from caps ks) k
    (Contains-flat_map (λ (c : Capability). c.children) (filter (λ c. is_none c.mark && has_key ks c.key) caps) p k
    (Contains-filter (λ c. is_none c.mark && has_key ks c.key) caps p in_caps (and_from (is_none p.mark) (has_key ks p.key) (ap is_none unmarked) has))
    (Contains-from_has_key p.children k child))

linked_parent : (caps : List Capability) (ks : List KeyName) (k : KeyName) → has_key (linked_from caps ks) k ≡ true →
    (p : Capability) × Contains caps p × (p.mark ≡ None) × (has_key ks p.key ≡ true) × (has_key p.children k ≡ true)
linked_parent caps ks k has =
    let origin = Contains-from_flat_map (λ (c : Capability). c.children) (filter (λ c. is_none c.mark && has_key ks c.key) caps) k
    (Contains-from_has_key (linked_from caps ks) k has) in
    let kept = Contains-from_filter (λ c. is_none c.mark && has_key ks c.key) caps origin.0 origin.1 in
    let parts = and_parts (is_none origin.0.mark) (has_key ks origin.0.key) kept.1 in
    (origin.0, kept.0, none origin.0.mark parts.0, parts.1, has_key-from_Contains origin.0.children k origin.2)
  where
    none : (m : Option ℕ) → is_none m ≡ true → m ≡ None
    none None h = refl
    none (Some n) h = absurd cc

-- what stands in a set of keys is one of them
set-from : (ks there : List KeyName) (k : KeyName) → Contains (in_turn (λ q list. with_key list q) ks there) k → Contains there k ⊎ Contains ks k
unfolding in_turn
set-from [] there k among = inl among
set-from (q ∷ qs) there k among = elim (set-from qs (with_key there q) k among) [
  | inl before ↦ elim (with_key-from there q k before) [
    | inl same ↦ inr (subst (Contains (q ∷ qs)) same (Contains-head q qs))
    | inr early ↦ inl early
  ]
  | inr later ↦ inr (Contains-tail q qs k later)
]

pub key_set-from : (ks : List KeyName) (k : KeyName) → Contains (key_set ks) k → Contains ks k
key_set-from ks k among = elim (set-from ks [] k among) [ inl none ↦ absurd (Contains-nil k none) | inr there ↦ there ]

-- nothing, either way
nothing : (t : Bool) → ◌≡◌ {A = ℕ} (if t then 0 else 0) 0
nothing true = refl
nothing false = refl

-- what rises stands there once each
rising-apart : (ks : List KeyName) → IsRising ks → AreApart ks
rising-apart [] rises = tt
rising-apart (k ∷ ks) rises = (
  false_from_ne_true (has_key ks k) (λ has. let below : packed k < packed k =
      pairs-head (λ a b. packed a < packed b) k ks rises k (Contains-from_has_key ks k has) in omega (arith, below)),
  rising-apart ks (pairs-tail (λ a b. packed a < packed b) k ks rises),
)

module _ (C : Scene) (h : Obligations) (root : KeyName) (up : Option Up) (waiters : List ℕ) (keep : Bool) (alone_new : keep ≡ true →
    up ≡ None) (caused_new : (keep ≡ false → C.lost root) × ((k : KeyName) → C.parent root k → C.lost k)) (s : Side) (R : Row C h s) where
  abbrev i : ℕ
  i = C.kernel

  abbrev j : ℕ
  j = s.next_job

  abbrev ks : List KeyName
  ks = region s.caps root

  abbrev kids : List KeyName
  kids = children_of s.caps ks

  abbrev new : JobRow
  new = record { id = j; root = root; up = up; waiters = waiters; count = 0; keep = keep }

  abbrev opened : Side
  opened = job_opened root up waiters keep s

  abbrev marked : Side
  marked = unbind_all ks (mark_all ks j opened)

  cap-marked : (k : KeyName) → cap marked k ≡ (if has_key ks k then option_map {T = Capability} (λ c. record c { mark = Some j }) (cap s k) else cap s k)
  cap-marked k = ap (λ (z : ObservedSide). z.cap k) (seen-mark_all ks j opened)

  in-marked : (k : KeyName) (c : Capability) → has_key ks k ≡ true → cap s k ≡ Some c → cap marked k ≡ Some (with_mark j c)
  in-marked k c has held = cap-marked k ∙ (cond-true (has_key ks k) (option_map {T = Capability} (λ c. record c { mark = Some j }) (cap s k)) (cap s k) has
      ∙ ap (option_map {T = Capability} (λ c. record c { mark = Some j })) held)

  out-marked : (k : KeyName) → has_key ks k ≡ false → cap marked k ≡ cap s k
  out-marked k out = cap-marked k ∙ cond-false (has_key ks k) (option_map {T = Capability} (λ c. record c { mark = Some j }) (cap s k)) (cap s k) out

  -- The region.

  reached : (k : KeyName) → has_key ks k ≡ true → Reached s.caps root k
  reached k has = (region-exact s.caps root k R.rises).0 has

  in-region : (k : KeyName) → Reached s.caps root k → has_key ks k ≡ true
  in-region k is = (region-exact s.caps root k R.rises).1 is

  here : (k : KeyName) → has_key ks k ≡ true → (c : Capability) × (cap s k ≡ Some c) × (c.mark ≡ None) × (owner C k ≡ i)
  here k has = let c = reached_cap s.caps root k (reached k has) in (c.0, c.1, c.2, R.homes k c.0 c.1)

  -- a link of what is held here is a grant
  granted : (c : Capability) (k : KeyName) → Contains s.caps c → has_key c.children k ≡ true → C.parent c.key k
  granted c k among child =
      let held : cap s c.key ≡ Some c = find-at s.caps R.rises c.key c among refl in
      R.fit.links c.key k (c, hold-here C s c.key (R.homes c.key c held) ∙ held, child)

  valid-linked : (k : KeyName) → Contains (linked_from s.caps ks) k → IsValidKey k
  valid-linked k among =
      let p = linked_parent s.caps ks k (has_key-from_Contains (linked_from s.caps ks) k among) in
      C.valid p.0.key k (granted p.0 k p.1 p.4)

  kid-from : (k : KeyName) → has_key kids k ≡ true → (p : Capability) × Contains s.caps p × (p.mark ≡ None) × (has_key ks p.key ≡ true)
      × (has_key p.children k ≡ true)
  kid-from k has = linked_parent s.caps ks k
      (has_key-from_Contains (linked_from s.caps ks) k (key_set-from (linked_from s.caps ks) k (Contains-from_has_key kids k has)))

  kid-of : (p k : KeyName) (d : Capability) → has_key ks p ≡ true → cap s p ≡ Some d → has_key d.children k ≡ true → has_key kids k ≡ true
  kid-of p k d has held child =
      let there = found (λ x. key_eq x.key p) s.caps d held in
      let same : d.key ≡ p = key_eq-true d.key p there.1 in
      let c = here p has in
      let is : c.0 ≡ d = same_Some c.0 d (sym c.1 ∙ held) in
      let unmarked : d.mark ≡ None = ap (λ (x : Capability). x.mark) (sym is) ∙ c.2 in
      let among : has_key (linked_from s.caps ks) k ≡ true = linked s.caps ks d k there.0 unmarked (ap (has_key ks) same ∙ has) child in
      has_key-from_Contains kids k (key_set-has (linked_from s.caps ks) valid-linked k (Contains-from_has_key (linked_from s.caps ks) k among))

  from-root : (k : KeyName) → Reached s.caps root k → (k ≡ root) ⊎ ((p : KeyName) × C.parent p k × (has_key ks p ≡ true))
  from-root _ (at_root c held unmarked) = inl refl
  from-root _ (by_link p k c d from held child held' unmarked) =
      inr (p, R.fit.links p k (c, hold-here C s p (R.homes p c held) ∙ held, child), in-region p from)

  -- The job.

  fresh : job s j ≡ None
  fresh = elim (cases_Option (job s j)) [
    | inl (x, open_) ↦
        let there = found (λ (y : JobRow). y.id == j) s.jobs x open_ in
        let below = All-contains (λ (y : JobRow). y.id < s.next_job) s.jobs x R.ids.drawn there.0 in
        let at = eqb-true x.id j there.1 in
        absurd (omega (arith, below, at))
    | inr none ↦ none
  ]

  job-marked : (n : ℕ) → job marked n ≡ option_or (job s n) (if j == n then Some new else None)
  job-marked n = ap (λ (z : ObservedSide). z.job n) (seen-job_opened root up waiters keep s)

  job-new : job marked j ≡ Some new
  job-new = job-marked j ∙ (ap (λ o. option_or o (if j == j then Some new else None)) fresh ∙ cond-true (j == j) (Some new) None (eq-eqb j j refl))

  job-on : (n : ℕ) (x : JobRow) → job s n ≡ Some x → job marked n ≡ Some x
  job-on n x open_ = job-marked n ∙ ap (λ o. option_or o (if j == n then Some new else None)) open_

  job-back : (n : ℕ) (x : JobRow) → job marked n ≡ Some x → (job s n ≡ Some x) ⊎ ((n ≡ j) × (x.root ≡ root) × IsAlone x × IsCaused C.parent C.lost x)
  job-back n x open_ = elim (cases_Option (job s n)) [
    | inl (y, before) ↦ inl (before ∙ (sym (job-on n y before) ∙ open_))
    | inr none ↦ elim (cases_Bool (j == n)) [
      | inl same ↦
          let at : job marked n ≡ Some new = job-marked n
          ∙ (ap (λ o. option_or o (if j == n then Some new else None)) none ∙ cond-true (j == n) (Some new) None same) in
          let is : x ≡ new = same_Some x new (sym open_ ∙ at) in
          inr (sym (eqb-true j n same), ap (λ (z : JobRow). z.root) is, subst IsAlone (sym is) alone_new, subst (IsCaused C.parent C.lost) (sym is) caused_new)
      | inr other ↦
          let no' : None ≡ Some x = sym (job-marked n
          ∙ (ap (λ o. option_or o (if j == n then Some new else None)) none ∙ cond-false (j == n) (Some new) None other)) ∙ open_ in
          absurd cc
    ]
  ]

  at-kernel : (a n : ℕ) (t : Side) → a ≡ i → (view C t).job a n ≡ job t n
  at-kernel a n t same = cond-true (a == i) (job t n) _ (eq-eqb a i same)

  -- Together.

  module _ (c : Capability) (held : cap s root ≡ Some c) (unmarked : c.mark ≡ None)
      (tight : (a b : ℕ) → h.loose a b → ⊥)
      (cares : (k : KeyName) (a b : ℕ) → h.cares a b k → (key_eq root k && names i up a b) ≡ true)
      (cared : (k : KeyName) (a b : ℕ) → (key_eq root k && names i up a b) ≡ true → h.cares a b k)
      (owed : (a b : ℕ) → bit (names i up a b) ≡ h.owed a b)
      (above : (a b : ℕ) → names i up a b ≡ true → IsUnder C s root a b) where
    root-in : has_key ks root ≡ true
    root-in = in-region root (at_root c held unmarked)

    begins : Begins (owner C) C.parent C.one_parent C.made h i j root (has_key ks) (has_key kids) (view C s) (view C marked)
    begins = record {
      inside = λ k has. let c = here k has in (c.0, hold-here C s k c.3 ∙ c.1, c.2, c.3);
      root_in = root-in;
      from_root = λ k has. from-root k (reached k has);
      children = λ p k d has held' child. kid-of p k d has (sym (hold-here C s p (here p has).3) ∙ held') child;
      marked_in = λ k d has held'. let at = (here k has).3 in hold-here C marked k at ∙ in-marked k d has (sym (hold-here C s k at) ∙ held');
      same_out = λ k out. elim (cases_Bool (owner C k == i)) [
        | inl at ↦ hold-here C marked k (eqb-true (owner C k) i at) ∙ (out-marked k out ∙ sym (hold-here C s k (eqb-true (owner C k) i at)))
        | inr away ↦ cond-false (owner C k == i) (cap marked k) _ away ∙ sym (cond-false (owner C k == i) (cap s k) _ away)
      ];
      fewer = λ k. let less = (lives k on_its_way (at_side k on_its_way s)).keeps_marked opened (omega arith) ks j (λ q has. tt) in omega (arith, less);
      opened = (new, job-here C marked j ∙ job-new, refl);
      jobs_on = λ a n x open_. elim (cases_eq a i) [
        | inl at ↦ at-kernel a n marked at ∙ job-on n x (sym (at-kernel a n s at) ∙ open_)
        | inr away ↦ job-away C marked a n away ∙ (sym (job-away C s a n away) ∙ open_)
      ];
      jobs_back = λ a n x open_. elim (cases_eq a i) [
        | inl at ↦ elim (job-back n x (sym (at-kernel a n marked at) ∙ open_)) [
          | inl before ↦ inl (at-kernel a n s at ∙ before)
          | inr (job', is_root, alone, caused) ↦ inr (at, job', is_root, alone)
        ]
        | inr away ↦ inl (job-away C s a n away ∙ (sym (job-away C marked a n away) ∙ open_))
      ];
      asked_on = λ k a b. let sum = side-opened (requesting k a b) i s root up waiters keep in omega (arith, sum);
      cared = λ k a b care. let sum = side-opened (requesting k a b) i s root up waiters keep in
          let one = one-true (key_eq root k && names i up a b) (cares k a b care) in omega (arith, sum, one);
      asked_back = λ k a b more. let sum = side-opened (requesting k a b) i s root up waiters keep in elim (cases_Bool (key_eq root k && names i up a b)) [
        | inl pass ↦ inr (new-under k a b pass)
        | inr fail ↦ let none = one-false (key_eq root k && names i up a b) fail in inl (omega (arith, sum, none, more))
      ];
      counts = λ a b.
          let sum = side-opened (naming a b) i s root up waiters keep in
          let count = side-opened (counting a b) i s root up waiters keep in
          let is = R.revokes.counted a b in
          let few = owed a b in
          let none = nothing ((i == a) && (j == b)) in
          omega (arith, sum, count, is, few, none);
      notices = λ k. let sum = side-opened (noticing k) i s root up waiters keep in omega (arith, sum);
      misplaced = let sum = side-opened (straying (owner C)) i s root up waiters keep in let is = R.revokes.placed in omega (arith, sum, is);
      tight = tight;
      once = λ k a b.
          let sum = side-opened (requesting k a b) i s root up waiters keep in
          let most = R.revokes.single.0 k a b in
          elim (cases_Bool (key_eq root k && names i up a b)) [
            | inl pass ↦ let none = R.revokes.single.1 k a b (cared k a b pass) in let one = one-true (key_eq root k && names i up a b) pass in
                omega (arith, sum, none, one)
            | inr fail ↦ let one = one-false (key_eq root k && names i up a b) fail in omega (arith, sum, most, one)
          ];
    }
      where
        new-under : (k : KeyName) (a b : ℕ) → (key_eq root k && names i up a b) ≡ true → IsUnder C s k a b
        new-under k a b pass = let parts = and_parts (key_eq root k) (names i up a b) pass in
            subst (λ z. IsUnder C s z a b) (key_eq-true root k parts.0) (above a b parts.1)

    settling : Settling C j kids marked
    settling = record {
      row = record {
        fit = fit-begun (owner C) C.parent C.one_parent C.made h i j root (has_key ks) (has_key kids) (view C s) (view C marked) begins R.fit;
        revokes = keep_begun (owner C) C.parent C.one_parent C.made h i j root (has_key ks) (has_key kids) (view C s) (view C marked) begins (children i j kids)
            (λ k has. (refl, refl, has)) (λ a b. refl) unasked R.fit R.revokes;
        rises = changed-rises (λ c. list_any (key_eq c.key) ks) (with_mark j) (λ c. refl) s.caps R.rises;
        ids = ids.keeps_marked opened (ids.keeps_opened s R.ids root up waiters keep) ks j (λ q has. tt);
        homes = homes;
        sent = record { inbox = R.sent.inbox; sends = R.sent.sends };
        caused = λ n x there. elim (job-back n x there) [
          | inl before ↦ R.caused n x before
          | inr (at, is_root, alone, caused) ↦ caused
        ];
        lasts = λ k d was. elim (R.lasts k d was) [
          | inl (e, held') ↦ elim (cases_Bool (has_key ks k)) [
            | inl inside ↦ inl (with_mark j e, in-marked k e inside held')
            | inr out ↦ inl (e, out-marked k out ∙ held')
          ]
          | inr is ↦ inr is
        ];
      };
      open_ = (new, job-new);
      distinct = rising-apart kids (key_set-rises (linked_from s.caps ks));
      under = λ k has. let p = kid-from k has in let q = here p.0.key p.3 in
          (p.0.key, granted p.0 k p.1 p.4, q.3, (with_mark j q.0, hold-here C marked p.0.key q.3 ∙ in-marked p.0.key q.0 p.3 q.1, refl));
      closed = λ k d has at held' none. elim (cases_Bool (has_key ks k)) [
        | inl inside ↦
            let q = here k inside in
            let same : with_mark j q.0 ≡ d = same_Some (with_mark j q.0) d (sym (in-marked k q.0 inside q.1) ∙ held') in
            let no' : Some j ≡ None = ap (λ (x : Capability). x.mark) same ∙ none in
            absurd cc
        | inr out ↦
            let p = kid-from k has in
            let before : cap s k ≡ Some d = sym (out-marked k out) ∙ held' in
            let held_p : cap s p.0.key ≡ Some p.0 = find-at s.caps R.rises p.0.key p.0 p.1 refl in
            true≢false (sym (in-region k (by_link p.0.key k p.0 d (reached p.0.key p.3) held_p p.4 before none)) ∙ out)
      ];
    }
      where
        -- nothing is asked for the new job yet, since none is below a mark of it
        unasked-now : (k : KeyName) → (view C marked).asked k i j ≡ 0
        unasked-now k = elim (cases_eq ((view C marked).asked k i j) 0) [
          | inl none ↦ none
          | inr some ↦
              let under : IsUnder C s k i j = elim (begins.asked_back k i j (omega (arith, some))) [
                | inl before ↦ R.revokes.asking k i j before
                | inr is ↦ is
              ] in
              let open_ = R.revokes.marks under.0 j under.3 in
              let there : job s j ≡ Some open_.0 = sym (job-here C s j) ∙ (ap (λ a. (view C s).job a j) (sym under.2) ∙ open_.1) in
              let no' : None ≡ Some open_.0 = sym fresh ∙ there in
              absurd cc
        ]

        unasked : (k : KeyName) (a b : ℕ) → (a ≡ i) × (b ≡ j) × (has_key kids k ≡ true) → (view C marked).asked k a b ≡ 0
        unasked k a b (at, job', has) = ap (λ c. (view C marked).asked k c b) at ∙ (ap ((view C marked).asked k i) job' ∙ unasked-now k)

        homes : (k : KeyName) (d : Capability) → cap marked k ≡ Some d → owner C k ≡ i
        homes k d held' = elim (cases_Bool (has_key ks k)) [
          | inl inside ↦ (here k inside).3
          | inr out ↦ R.homes k d (sym (out-marked k out) ∙ held')
        ]

    -- the children are settled
    pub row-opened : Row C no_obligations (in_turn (request_or_adopt C.setup i j) kids marked)
    row-opened = settled-all C j (in_turn (request_or_adopt C.setup i j) kids marked) (settle-all C j kids marked settling)
