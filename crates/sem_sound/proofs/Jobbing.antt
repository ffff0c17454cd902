-- Changes of jobs keep a side sound.
use Rattle.sem_machine.proofs.Weighing.{weigh-filter}
use Rattle.sem_sound.proofs.Counts.{bit-most}
use Rattle.sem_machine.proofs.Lengths.{weigh-map_less}
use Rattle.std.proofs.Common.{◌≡◌, ◌≢◌, ℕ, zero, suc, ◌+◌, ◌-◌, ◌<◌, ◌≤◌, ◌⊎◌, Bool, true, false, not, List, [], ◌∷◌, map, get_or, Option, Some, None, refl}
use Rattle.std.proofs.Common.{sym, ap, subst, ◌∙◌, inl, inr, arith, eq-eqb, ◌&&◌}
use Rattle.std.specs.Prelude.{◌==◌, nat_lt, if◌then◌else◌}
use Rattle.std.specs.List.{AllPairs, Contains, filter}
use Rattle.std.proofs.lemmas.Bool.{cases_eq, cond_both, cond-true, eqb-true, eqb-false, ne_eqb, not_from_false, not-true}
use Rattle.std.proofs.lemmas.Option.{same_Some}
use Rattle.std.proofs.lemmas.List.Elements.{Contains-append_cases}
use Rattle.std.proofs.lemmas.List.Kept.{AllPairs-filter}
use Rattle.sem_msg.specs.declared.state.Parked.{Parked}
use Rattle.sem_msg.specs.declared.state.Parked.TheVariants.{RevokeWait}
use Rattle.sem_msg.specs.declared.state.Up.{Up}
use Rattle.sem_msg.specs.Rows.{JobRow, VpeRow}
use Rattle.sem_msg.specs.JobRows.{with_number, without_number, if_done}
use Rattle.sem_msg.specs.Setup.{Setup}
use Rattle.sem_msg.specs.Lookups.{kernel_of}
use Rattle.sem_machine.specs.Sound.{IsSoundUp, IsMarkedRoot, IsSoundBut, bit}
use Rattle.sem_machine.specs.Sides.{Side, row, job, parked, job_removed}
use Rattle.sem_machine.specs.Revokes.{count_raised, count_lowered, with_up, waiter_added, waiter_left}
use Rattle.sem_key.proofs.Members.{AllPairs-map, found, not_found, Contains-nil, Contains-cons_cases, Contains-filter, Contains-from_filter, Contains-map}
use Rattle.sem_key.proofs.Members.{Contains-from_map}
use Rattle.sem_sound.proofs.Rising.{with_number-rises}

-- Ids.

-- two jobs of one id are the same
pub same-id : (xs : List JobRow) → AllPairs (λ (a b : JobRow). a.id < b.id) xs → (a b : JobRow) → Contains xs a → Contains xs b → a.id ≡ b.id → a ≡ b
same-id [] rise a b in_a in_b same = absurd (Contains-nil a in_a)
same-id (x ∷ xs) rise a b in_a in_b same = elim (Contains-cons_cases x xs a in_a) [
  | inl first ↦ elim (Contains-cons_cases x xs b in_b) [
    | inl second ↦ sym first ∙ second
    | inr later ↦ let below = head b later in let here : x.id ≡ a.id = ap (λ (y : JobRow). y.id) first in absurd (omega (arith, below, here, same))
  ]
  | inr before ↦ elim (Contains-cons_cases x xs b in_b) [
    | inl second ↦ let below = head a before in let here : x.id ≡ b.id = ap (λ (y : JobRow). y.id) second in absurd (omega (arith, below, here, same))
    | inr later ↦ same-id xs (λ m n e lt within. rise (suc m) (suc n) e (omega arith) (omega arith)) a b before later same
  ]
]
  where
    head : (y : JobRow) → Contains xs y → x.id < y.id
    head y (k, within, at) = subst (λ (z : JobRow). x.id < z.id) at (rise zero (suc k) y (omega arith) (omega arith))

-- who waits, with one more
with_number-from : (vs : List ℕ) (v w : ℕ) → Contains (with_number vs v) w → (v ≡ w) ⊎ Contains vs w
with_number-from vs v w among = elim (Contains-append_cases (filter (λ q. nat_lt q v) vs) (v ∷ filter (λ q. nat_lt v q) vs) w among) [
  | inl low ↦ inr (Contains-from_filter (λ q. nat_lt q v) vs w low).0
  | inr rest ↦ elim (Contains-cons_cases v (filter (λ q. nat_lt v q) vs) w rest) [
    | inl same ↦ inl same
    | inr high ↦ inr (Contains-from_filter (λ q. nat_lt v q) vs w high).0
  ]
]

other-some : (a b : ℕ) → (a ≡ b → ⊥) → Some a ≢ Some b
other-some a b other same = other (same_Some a b same)

module _ (T : Setup) (i : ℕ) where
  -- a call that is parked is of a VPE of this kernel
  pub parked-local : (n p : Option (ℕ × ℕ)) (g d : Option ℕ) (s : Side) → IsSoundBut T i n p g d 0 s → (v : ℕ) (q : Parked) → parked s v ≡ Some q →
      kernel_of T v ≡ i
  parked-local n p g d s is v q at = (is.calls v q at).0

  -- a VPE that lives is of this kernel
  pub alive-local : (n p : Option (ℕ × ℕ)) (g d : Option ℕ) (s : Side) → IsSoundBut T i n p g d 0 s → (v : ℕ) → (row s v).alive ≡ true → kernel_of T v ≡ i
  alive-local n p g d s is v at = elim (cases_eq (kernel_of T v) i) [
    | inl local ↦ local
    | inr remote ↦ absurd (clash (sym (ap (λ (r : VpeRow). r.alive) ((is.rows v).others remote)) ∙ at))
  ]
    where
      clash : false ≡ true → ⊥
      clash none = cc

  -- a VPE whose call waits for no job is among no waiters
  pub waits-not : (n p : Option (ℕ × ℕ)) (g d : Option ℕ) (s : Side) → IsSoundBut T i n p g d 0 s → (v : ℕ) →
      ((j : ℕ) → parked s v ≡ Some (RevokeWait j) → g ≡ Some j) → (x : JobRow) → Contains s.jobs x → g ≢ Some x.id → Contains x.waiters v → ⊥
  waits-not n p g d s is v no' x among still in_v = still (no' x.id (is.waiters x v among still in_v))

  module _ (n p : Option (ℕ × ℕ)) (g d d' : Option ℕ) (s : Side) (is : IsSoundBut T i n p g d 0 s) where
    pub jobs-mapped : (f : JobRow → JobRow) → ((x : JobRow) → ((f x).id ≡ x.id) × ((f x).root ≡ x.root)) →
        ((x : JobRow) → Contains s.jobs x → IsSoundUp T i (f x).up) → ((x : JobRow) → Contains s.jobs x → AllPairs (λ v w. v < w) (f x).waiters) →
        ((x : JobRow) (v : ℕ) → Contains s.jobs x → g ≢ Some x.id → Contains (f x).waiters v → parked s v ≡ Some (RevokeWait x.id)) →
        ((x : JobRow) → Contains s.jobs x → g ≢ Some x.id → (0 < (f x).count) ⊎ (d' ≡ Some x.id)) → ((x : JobRow) → bit (f x).keep ≤ bit x.keep) →
        IsSoundBut T i n p g d' 0 (record s { jobs = map f s.jobs })
    jobs-mapped f same up rise waiting count keeps = record {
      caps = is.caps;
      caps_rise = is.caps_rise;
      rows = is.rows;
      calls = is.calls;
      pendings = is.pendings;
      ups = λ x among. let o = Contains-from_map f s.jobs x among in subst (λ (y : JobRow). IsSoundUp T i y.up) o.2 (up o.0 o.1);
      waiters_rise = λ x among. let o = Contains-from_map f s.jobs x among in subst (λ (y : JobRow). AllPairs (λ v w. v < w) y.waiters) o.2 (rise o.0 o.1);
      ids_drawn = λ x among. let o = Contains-from_map f s.jobs x among in let below = is.ids_drawn o.0 o.1 in let id = id-of o.0 x o.2 in
          omega (arith, below, id);
      jobs_rise = AllPairs-map (λ (a b : JobRow). a.id < b.id) f s.jobs (λ m k e lt within. let one = (same (get_or s.jobs m e)).0 in
          let two = (same (get_or s.jobs k e)).0 in let below = is.jobs_rise m k e lt within in omega (arith, one, two, below));
      outs = is.outs;
      inbox = is.inbox;
      places = is.places;
      endpoints = is.endpoints;
      endpoint_places = is.endpoint_places;
      park_places = is.park_places;
      boxes = is.boxes;
      numbers = is.numbers;
      promises = is.promises;
      no_other_promise = is.no_other_promise;
      at_selector = is.at_selector;
      held = is.held;
      marker = λ c j among marked. let was = is.marker c j among marked in
          ((f was.0.0, Contains-map f s.jobs was.0.0 was.0.1, (same was.0.0).0 ∙ was.0.2), was.1);
      roots = λ x among still.
          let o = Contains-from_map f s.jobs x among in
          let id = id-of o.0 x o.2 in
          let root : x.root ≡ o.0.root = ap (λ (y : JobRow). y.root) (sym o.2) ∙ (same o.0).1 in
          subst (λ k. IsMarkedRoot s.caps k x.id) (sym root)
          (subst (IsMarkedRoot s.caps o.0.root) (sym id) (is.roots o.0 o.1 (λ gone. still (gone ∙ ap Some (sym id)))));
      waiters = λ x v among still in_waiters.
          let o = Contains-from_map f s.jobs x among in
          let id = id-of o.0 x o.2 in
          waiting o.0 v o.1 (λ gone. still (gone ∙ ap Some (sym id))) (subst (λ (y : JobRow). Contains y.waiters v) (sym o.2) in_waiters)
          ∙ ap (λ j. Some (RevokeWait j)) (sym id);
      counted = λ x among still.
          let o = Contains-from_map f s.jobs x among in
          let id = id-of o.0 x o.2 in
          elim (count o.0 o.1 (λ gone. still (gone ∙ ap Some (sym id)))) [
            | inl more ↦ inl (subst (λ (y : JobRow). 0 < y.count) o.2 more)
            | inr done ↦ inr (done ∙ ap Some (sym id))
          ];
      ids =
          let fewer = weigh-map_less (λ (x : JobRow). bit x.keep) f keeps s.jobs in
          let before = is.ids in
          omega (arith, fewer, before);
    }
      where
        id-of : (a b : JobRow) → f a ≡ b → b.id ≡ a.id
        id-of a b equal = ap (λ (y : JobRow). y.id) (sym equal) ∙ (same a).0

  module _ (n p : Option (ℕ × ℕ)) (g d : Option ℕ) (s : Side) (is : IsSoundBut T i n p g d 0 s) where
    abbrev if_id : ℕ → (JobRow → JobRow) → JobRow → JobRow
    if_id j f x = if x.id == j then f x else x

    pub raised-sound : (j : ℕ) → IsSoundBut T i n p g d 0 (count_raised j s)
    raised-sound j =
        let f : JobRow → JobRow = λ x. record x { count = x.count + 1 } in
        jobs-mapped n p g d d s is (if_id j f)
        (λ x. cond_both (x.id == j) (f x) x (λ (y : JobRow). (y.id ≡ x.id) × (y.root ≡ x.root)) (λ _. (refl, refl)) (λ _. (refl, refl)))
        (λ x among. cond_both (x.id == j) (f x) x (λ (y : JobRow). IsSoundUp T i y.up) (λ _. is.ups x among) (λ _. is.ups x among))
        (λ x among. cond_both (x.id == j) (f x) x (λ (y : JobRow). AllPairs (λ v w. v < w) y.waiters) (λ _. is.waiters_rise x among)
        (λ _. is.waiters_rise x among))
        (λ x v among still. cond_both (x.id == j) (f x) x (λ (y : JobRow). Contains y.waiters v →
        parked s v ≡ Some (RevokeWait x.id)) (λ _. is.waiters x v among still) (λ _. is.waiters x v among still))
        (λ x among still. cond_both (x.id == j) (f x) x (λ (y : JobRow). (0 < y.count) ⊎ (d ≡ Some x.id)) (λ _. inl (omega arith))
        (λ _. is.counted x among still))
        (λ x. cond_both (x.id == j) (f x) x (λ (y : JobRow). bit y.keep ≤ bit x.keep) (λ _. omega arith) (λ _. omega arith))

    pub up-sound : (up : Up) (j : ℕ) → IsSoundUp T i (Some up) → IsSoundBut T i n p g d 0 (with_up up j s)
    up-sound up j sound =
        let f : JobRow → JobRow = λ x. record x { up = Some up; keep = false } in
        jobs-mapped n p g d d s is (if_id j f)
        (λ x. cond_both (x.id == j) (f x) x (λ (y : JobRow). (y.id ≡ x.id) × (y.root ≡ x.root)) (λ _. (refl, refl)) (λ _. (refl, refl)))
        (λ x among. cond_both (x.id == j) (f x) x (λ (y : JobRow). IsSoundUp T i y.up) (λ _. sound) (λ _. is.ups x among))
        (λ x among. cond_both (x.id == j) (f x) x (λ (y : JobRow). AllPairs (λ v w. v < w) y.waiters) (λ _. is.waiters_rise x among)
        (λ _. is.waiters_rise x among))
        (λ x v among still. cond_both (x.id == j) (f x) x (λ (y : JobRow). Contains y.waiters v →
        parked s v ≡ Some (RevokeWait x.id)) (λ _. is.waiters x v among still) (λ _. is.waiters x v among still))
        (λ x among still. cond_both (x.id == j) (f x) x (λ (y : JobRow). (0 < y.count) ⊎ (d ≡ Some x.id)) (λ _. is.counted x among still)
        (λ _. is.counted x among still))
        (λ x. cond_both (x.id == j) (f x) x (λ (y : JobRow). bit y.keep ≤ bit x.keep) (λ _. omega arith) (λ _. omega arith))

    pub waiting-sound : (j w : ℕ) → parked s w ≡ Some (RevokeWait j) → IsSoundBut T i n p g d 0 (waiter_added j w s)
    waiting-sound j w waits =
        let f : JobRow → JobRow = λ x. record x { waiters = with_number x.waiters w } in
        jobs-mapped n p g d d s is (if_id j f)
        (λ x. cond_both (x.id == j) (f x) x (λ (y : JobRow). (y.id ≡ x.id) × (y.root ≡ x.root)) (λ _. (refl, refl)) (λ _. (refl, refl)))
        (λ x among. cond_both (x.id == j) (f x) x (λ (y : JobRow). IsSoundUp T i y.up) (λ _. is.ups x among) (λ _. is.ups x among))
        (λ x among. cond_both (x.id == j) (f x) x (λ (y : JobRow). AllPairs (λ v w. v < w) y.waiters)
        (λ _. with_number-rises x.waiters w (is.waiters_rise x among)) (λ _. is.waiters_rise x among))
        (λ x v among still. cond_both (x.id == j) (f x) x (λ (y : JobRow). Contains y.waiters v → parked s v ≡ Some (RevokeWait x.id))
        (λ here more. elim (with_number-from x.waiters w v more) [
          | inl same ↦ ap (parked s) (sym same) ∙ (waits ∙ ap (λ q. Some (RevokeWait q)) (sym (eqb-true x.id j here)))
          | inr before ↦ is.waiters x v among still before
        ])
        (λ _. is.waiters x v among still))
        (λ x among still. cond_both (x.id == j) (f x) x (λ (y : JobRow). (0 < y.count) ⊎ (d ≡ Some x.id)) (λ _. is.counted x among still)
        (λ _. is.counted x among still))
        (λ x. cond_both (x.id == j) (f x) x (λ (y : JobRow). bit y.keep ≤ bit x.keep) (λ _. omega arith) (λ _. omega arith))

    pub leaving-sound : (j w : ℕ) → IsSoundBut T i n p g d 0 (waiter_left j w s)
    leaving-sound j w =
        jobs-mapped n p g d d s is (λ (x : JobRow). record x { waiters = without_number x.waiters w; keep = x.keep && not ((x.id == j) && (x.root.vpe == w)) })
        (λ x. (refl, refl)) (λ x among. is.ups x among) (λ x among. AllPairs-filter (λ v w'. v < w') (λ q. not (q == w)) x.waiters
        (is.waiters_rise x among))
        (λ x v among still fewer. is.waiters x v among still (Contains-from_filter (λ q. not (q == w)) x.waiters v fewer).0)
        (λ x among still. is.counted x among still)
        (λ x. fewer_keep x.keep (not ((x.id == j) && (x.root.vpe == w))))
      where
        fewer_keep : (a b : Bool) → bit (a && b) ≤ bit a
        fewer_keep true b = bit-most b
        fewer_keep false b = omega arith

  -- a token came back: the job may be done
  pub lowered-sound : (n p : Option (ℕ × ℕ)) (g : Option ℕ) (s : Side) → IsSoundBut T i n p g None 0 s → (j : ℕ) →
      IsSoundBut T i n p g (Some j) 0 (count_lowered j s)
  lowered-sound n p g s is j =
      let f : JobRow → JobRow = λ x. record x { count = x.count - 1 } in
      jobs-mapped n p g None (Some j) s is (if_id n p g None s is j f)
      (λ x. cond_both (x.id == j) (f x) x (λ (y : JobRow). (y.id ≡ x.id) × (y.root ≡ x.root)) (λ _. (refl, refl)) (λ _. (refl, refl)))
      (λ x among. cond_both (x.id == j) (f x) x (λ (y : JobRow). IsSoundUp T i y.up) (λ _. is.ups x among) (λ _. is.ups x among))
      (λ x among. cond_both (x.id == j) (f x) x (λ (y : JobRow). AllPairs (λ v w. v < w) y.waiters) (λ _. is.waiters_rise x among)
      (λ _. is.waiters_rise x among))
      (λ x v among still. cond_both (x.id == j) (f x) x (λ (y : JobRow). Contains y.waiters v →
      parked s v ≡ Some (RevokeWait x.id)) (λ _. is.waiters x v among still) (λ _. is.waiters x v among still))
      (λ x among still. cond_both (x.id == j) (f x) x (λ (y : JobRow). (0 < y.count)
      ⊎ (Some j ≡ Some x.id)) (λ here. inr (ap Some (sym (eqb-true x.id j here)))) (λ _. elim (is.counted x among still) [
        | inl more ↦ inl more
        | inr none ↦ absurd cc
      ]))
      (λ x. cond_both (x.id == j) (f x) x (λ (y : JobRow). bit y.keep ≤ bit x.keep) (λ _. omega arith) (λ _. omega arith))

  -- the job that may be done has tokens out, or is not there
  pub undone : (n p : Option (ℕ × ℕ)) (s : Side) (j : ℕ) → IsSoundBut T i n p None (Some j) 0 s → if_done (job s j) ≡ None → IsSoundBut T i n p None None 0 s
  undone n p s j is none = record {
    caps = is.caps;
    caps_rise = is.caps_rise;
    rows = is.rows;
    calls = is.calls;
    pendings = is.pendings;
    ups = is.ups;
    waiters_rise = is.waiters_rise;
    ids_drawn = is.ids_drawn;
    jobs_rise = is.jobs_rise;
    outs = is.outs;
    inbox = is.inbox;
    places = is.places;
    endpoints = is.endpoints;
    endpoint_places = is.endpoint_places;
    park_places = is.park_places;
    boxes = is.boxes;
    numbers = is.numbers;
    promises = is.promises;
    no_other_promise = is.no_other_promise;
    at_selector = is.at_selector;
    held = is.held;
    marker = is.marker;
    roots = is.roots;
    waiters = is.waiters;
    counted = λ x among still. elim (is.counted x among still) [
      | inl more ↦ inl more
      | inr done ↦ inl (by_job (job s j) refl none x among (sym (same_Some j x.id done)))
    ];
    ids = is.ids;
  }
    where
      by_job : (o : Option JobRow) → job s j ≡ o → if_done o ≡ None → (x : JobRow) → Contains s.jobs x → x.id ≡ j → 0 < x.count
      by_job None absent none x among id = let fails = not_found (λ (y : JobRow). y.id == j) s.jobs x absent among in absurd (eqb-false x.id j fails id)
      by_job (Some y) there none x among id =
          let at = found (λ (z : JobRow). z.id == j) s.jobs y there in
          let same : y ≡ x = same-id s.jobs is.jobs_rise y x at.0 among (eqb-true y.id j at.1 ∙ sym id) in
          elim (cases_eq y.count 0) [
            | inl zero' ↦ let some : Some y ≡ None = sym (cond-true (y.count == 0) (Some y) None (eq-eqb y.count 0 zero')) ∙ none in absurd cc
            | inr more ↦ let count : y.count ≡ x.count = ap (λ (z : JobRow). z.count) same in omega (arith, count, more)
          ]

  -- a job that is about to go is taken out
  pub removed-sound : (n p : Option (ℕ × ℕ)) (d : Option ℕ) (s : Side) (j : ℕ) → IsSoundBut T i n p (Some j) d 0 s →
      IsSoundBut T i n p None d 0 (job_removed j s)
  removed-sound n p d s j is = record {
    caps = is.caps;
    caps_rise = is.caps_rise;
    rows = is.rows;
    calls = is.calls;
    pendings = is.pendings;
    ups = λ x among. is.ups x (before x among).0;
    waiters_rise = λ x among. is.waiters_rise x (before x among).0;
    ids_drawn = λ x among. is.ids_drawn x (before x among).0;
    jobs_rise = AllPairs-filter (λ (a b : JobRow). a.id < b.id) (λ (y : JobRow). not (y.id == j)) s.jobs is.jobs_rise;
    outs = is.outs;
    inbox = is.inbox;
    places = is.places;
    endpoints = is.endpoints;
    endpoint_places = is.endpoint_places;
    park_places = is.park_places;
    boxes = is.boxes;
    numbers = is.numbers;
    promises = is.promises;
    no_other_promise = is.no_other_promise;
    at_selector = is.at_selector;
    held = is.held;
    marker = λ c m among marked.
        let was = is.marker c m among marked in (
          (
            was.0.0,
            Contains-filter (λ (y : JobRow). not (y.id == j)) s.jobs was.0.0 was.0.1
                (not_from_false (was.0.0.id == j) (ne_eqb was.0.0.id j (λ same. was.1 (ap Some (sym same ∙ was.0.2))))),
            was.0.2,
          ),
          (λ none. absurd cc),
        );
    roots = λ x among still. is.roots x (before x among).0 (before x among).1;
    waiters = λ x v among still in_waiters. is.waiters x v (before x among).0 (before x among).1 in_waiters;
    counted = λ x among still. is.counted x (before x among).0 (before x among).1;
    ids =
        let fewer = weigh-filter (λ (x : JobRow). bit x.keep) (λ (y : JobRow). not (y.id == j)) s.jobs in
        let before = is.ids in
        omega (arith, fewer, before);
  }
    where
      before : (x : JobRow) → Contains (job_removed j s).jobs x → Contains s.jobs x × (Some j ≢ Some x.id)
      before x among =
          let kept = Contains-from_filter (λ (y : JobRow). not (y.id == j)) s.jobs x among in
          (kept.0, λ same. eqb-false x.id j (not-true (x.id == j) kept.1) (sym (same_Some j x.id same)))
