-- The view of a world whose kernel i has a given side, and the steps of a row that change no capability.
use Rattle.std.proofs.Common.{◌≡◌, ◌⊎◌, ℕ, zero, suc, ◌+◌, ◌≤◌, ◌<◌, get_or, map, Bool, true, false, List, [], ◌∷◌, ◌++◌, Option, Some, None, refl, sym, ap}
use Rattle.std.proofs.Common.{◌∙◌, subst, inl, inr, arith, eq-eqb, append_assoc}
use Rattle.std.specs.Prelude.{◌==◌, if◌then◌else◌}
use Rattle.std.specs.List.{sum_by}
use Rattle.std.specs.Option.{option_map}
use Rattle.std.proofs.lemmas.Bool.{false_from_ne_true, cases_Bool, cases_eq, cond-true, cond-false, eqb-true, ne_eqb}
use Rattle.std.proofs.lemmas.List.Sums.{sum_by_push}
use Rattle.std.proofs.lemmas.Option.{same_Some}
use Rattle.sem_key.specs.KeyName.{KeyName, IsValidKey, packed, key_eq}
use Rattle.sem_key.specs.KeyList.{IsRising}
use Rattle.sem_key.specs.Capability.{Capability}
use Rattle.sem_msg.specs.declared.message.Message.{Message}
use Rattle.sem_msg.specs.declared.state.Parked.{Parked}
use Rattle.sem_msg.specs.Rows.{JobRow, VpeRow, Endpoint}
use Rattle.sem_msg.specs.declared.state.Pending.{Pending}
use Rattle.sem_msg.specs.Setup.{Setup}
use Rattle.sem_msg.specs.Lookups.{owner_of}
use Rattle.sem_msg.specs.JobRows.{job_of}
use Rattle.sem_machine.specs.Sides.{Side, no_side, cap, job, outbox, job_changed, send}
use Rattle.sem_machine.specs.Machine.{World, side, with_side}
use Rattle.sem_key.proofs.KeyTests.{key_eq-true}
use Rattle.sem_key.proofs.Members.{AllPairs-from_map, found}
use Rattle.sem_safety.specs.Observations.{AreDistinct, ObservedSide}
use Rattle.sem_safety.proofs.Updates.{seen-job_changed, seen-send}
use Rattle.sem_machine.proofs.Weighing.{weigh-among}
use Rattle.sem_safety.proofs.Lives.{at_message, at_parked, at_side, lives-send}
use Rattle.sem_safety.proofs.LiveWorlds.{at_world}
use Rattle.sem_safety.proofs.JobIds.{HasIds}
use Rattle.sem_revoke.specs.Views.{View, Obligations, IsAlone, IsCaused, Alive, Gone, Marked, Under, Caught, IsFit, Revokes, IsSingle}
use Rattle.sem_revoke.specs.Scales.{Scale, of_side, of_world, bit, requesting, naming, counting, noticing, straying, requesting_message, token_message}
use Rattle.sem_revoke.specs.Scales.{notice_message, stray_message}
use Rattle.sem_revoke.proofs.Keeping.{HoldsOn, holds-same, fit-on, keep}
use Rattle.sem_revoke.proofs.Scaling.{side-send}

-- no held capability is counted: what is left is on its way
abbrev pub on_its_way : Option KeyName → Bool
on_its_way p = false

-- What stays while a kernel makes a step: the setup, the parents by grants, the made keys, and the rest of the world.
pub record Scene : Type 1 where
  pub setup : Setup
  pub parent : KeyName → KeyName → Type 0
  pub one_parent : (p q k : KeyName) → parent p k → parent q k → p ≡ q
  pub valid : (p k : KeyName) → parent p k → IsValidKey k
  -- how far a key is from a root
  pub rank : KeyName → ℕ
  pub older : (p k : KeyName) → parent p k → rank p < rank k
  pub made : KeyName → Type 0
  -- what may be lost, and what was made from that
  pub lost : KeyName → Type 0
  pub lower : (p k : KeyName) → parent p k → lost p → lost k
  pub world : World
  pub kernel : ℕ
  -- the jobs of the other kernels have a cause
  pub others : (a n : ℕ) (x : JobRow) → job (side world a) n ≡ Some x → IsCaused parent lost x
  -- the side from which messages are counted that the step sends
  pub before : Side

-- the keys of capabilities rise, and so are distinct
abbrev pub Rises : List Capability → Type 0
Rises cs = IsRising (map (λ (c : Capability). c.key) cs)

pub rises_distinct : (cs : List Capability) → Rises cs → AreDistinct cs
rises_distinct cs rise = λ m n d lt within. false_from_ne_true (key_eq (get_or cs m d).key (get_or cs n d).key) (λ same.
    let below : packed (get_or cs m d).key < packed (get_or cs n d).key =
    AllPairs-from_map (λ a b. packed a < packed b) (λ (c : Capability). c.key) cs rise m n d lt within in
    let one = ap packed (key_eq-true (get_or cs m d).key (get_or cs n d).key same) in
    omega (arith, below, one))

-- tests
pub one-more : (t : Bool) → 1 ≤ bit t → t ≡ true
one-more true more = refl
one-more false more = absurd (omega (arith, more))

pub one-true : (t : Bool) → t ≡ true → bit t ≡ 1
one-true t pass = cond-true t 1 0 pass

pub one-false : (t : Bool) → t ≡ false → bit t ≡ 0
one-false t fail = cond-false t 1 0 fail

module _ (C : Scene) where
  abbrev pub owner : KeyName → ℕ
  owner k = owner_of C.setup k

  abbrev pub elsewhere : World
  elsewhere = with_side C.kernel no_side C.world

  abbrev pub view : Side → View
  view s = record {
    hold = λ k. if owner k == C.kernel then cap s k else cap (side C.world (owner k)) k;
    gifts = λ k. at_world k on_its_way elsewhere + at_side k on_its_way s;
    job = λ a n. if a == C.kernel then job s n else job (side C.world a) n;
    asked = λ k a b. of_world (requesting k a b) elsewhere + of_side (requesting k a b) C.kernel s;
    tokens = λ a b. of_world (naming a b) elsewhere + of_side (naming a b) C.kernel s;
    count = λ a b. of_world (counting a b) elsewhere + of_side (counting a b) C.kernel s;
    notices = λ k. of_world (noticing k) elsewhere + of_side (noticing k) C.kernel s;
    misplaced = of_world (straying owner) elsewhere + of_side (straying owner) C.kernel s;
  }

  abbrev pub IsAlive : Side → KeyName → Type 0
  IsAlive s k = Alive owner C.parent C.made (view s) k

  abbrev pub IsGone : Side → KeyName → Type 0
  IsGone s k = Gone owner C.parent C.made (view s) k

  abbrev pub IsMarked : Side → KeyName → ℕ → Type 0
  IsMarked s k n = Marked owner C.parent C.made (view s) k n

  abbrev pub IsUnder : Side → KeyName → ℕ → ℕ → Type 0
  IsUnder s k a b = Under owner C.parent C.made (view s) k a b

  -- the messages that a row has sent since then, none of which gives a key
  pub record IsSent (s : Side) : Type 0 where
    pub inbox : s.inbox ≡ C.before.inbox
    pub sends : (j : ℕ) → (ms : List Message) × (outbox s j ≡ outbox C.before j ++ ms) × ((k : KeyName) → sum_by (at_message k) ms ≡ 0)

  pub sent-more : (s : Side) (j : ℕ) (m : Message) → ((k : KeyName) → at_message k m ≡ 0) → IsSent s → IsSent (send j m s)
  sent-more s j m none is = record {
    inbox = is.inbox;
    sends = λ q. elim (cases_Bool (q == j)) [
      | inl same ↦
          let before = is.sends j in
          let at : outbox (send j m s) q ≡ outbox s j ++ m ∷ [] = out q ∙ cond-true (q == j) (outbox s j ++ m ∷ []) (outbox s q) same in (
            before.0 ++ m ∷ [],
            at
                ∙ (ap (λ xs. xs ++ m ∷ []) before.1
                ∙ (append_assoc (outbox C.before j) before.0 (m ∷ []) ∙ ap (λ n. outbox C.before n ++ (before.0 ++ m ∷ [])) (sym (eqb-true q j same)))),
            λ k. let push = sum_by_push (at_message k) before.0 m in let old = before.2 k in let zero' = none k in omega (arith, push, old, zero'),
          )
      | inr other ↦ let before = is.sends q in (before.0, out q ∙ (cond-false (q == j) (outbox s j ++ m ∷ []) (outbox s q) other ∙ before.1), before.2)
    ];
  }
    where
      out : (q : ℕ) → outbox (send j m s) q ≡ (if q == j then outbox s j ++ m ∷ [] else outbox s q)
      out q = ap (λ (z : ObservedSide). z.outbox q) (seen-send j m s)

  -- what is so in the middle of a row
  pub record Row (h : Obligations) (s : Side) : Type 0 where
    pub fit : IsFit owner C.parent C.made (view s)
    pub revokes : Revokes owner C.parent C.made h (view s)
    pub rises : Rises s.caps
    pub ids : HasIds s
    -- this kernel owns the keys that it holds
    pub homes : (k : KeyName) (c : Capability) → cap s k ≡ Some c → owner k ≡ C.kernel
    pub sent : IsSent s
    -- each job has a cause
    pub caused : (n : ℕ) (x : JobRow) → job s n ≡ Some x → IsCaused C.parent C.lost x
    -- what was held is held, or lost
    pub lasts : (k : KeyName) (c : Capability) → cap C.before k ≡ Some c → ((d : Capability) × (cap s k ≡ Some d)) ⊎ C.lost k

  -- Reading.

  pub hold-here : (s : Side) (k : KeyName) → owner k ≡ C.kernel → (view s).hold k ≡ cap s k
  hold-here s k at = cond-true (owner k == C.kernel) (cap s k) (cap (side C.world (owner k)) k) (eq-eqb (owner k) C.kernel at)

  pub hold-away : (s : Side) (k : KeyName) → (owner k ≡ C.kernel → ⊥) → (view s).hold k ≡ cap (side C.world (owner k)) k
  hold-away s k away = cond-false (owner k == C.kernel) (cap s k) (cap (side C.world (owner k)) k) (ne_eqb (owner k) C.kernel away)

  pub job-here : (s : Side) (n : ℕ) → (view s).job C.kernel n ≡ job s n
  job-here s n = cond-true (C.kernel == C.kernel) (job s n) (job (side C.world C.kernel) n) (eq-eqb C.kernel C.kernel refl)

  pub job-away : (s : Side) (a n : ℕ) → (a ≡ C.kernel → ⊥) → (view s).job a n ≡ job (side C.world a) n
  job-away s a n away = cond-false (a == C.kernel) (job s n) (job (side C.world a) n) (ne_eqb a C.kernel away)

  -- an open job of this kernel weighs no more than the side
  pub job-weighs : (S : Scale) (s : Side) (m : ℕ) (x : JobRow) → job s m ≡ Some x → S.job C.kernel x ≤ of_side S C.kernel s
  job-weighs S s m x open_ =
      let there = found (λ y. y.id == m) s.jobs x open_ in
      let among = weigh-among (S.job C.kernel) s.jobs x there.0 in
      omega (arith, among)

  pub job-id : (s : Side) (m : ℕ) (x : JobRow) → job s m ≡ Some x → x.id ≡ m
  job-id s m x open_ = eqb-true x.id m (found (λ y. y.id == m) s.jobs x open_).1

  -- Jobs that change and keep their roots.

  -- a job keeps what is so of it: no other waits for it if it keeps its root, and it has a cause
  abbrev pub StaysSo : JobRow → JobRow → Type 0
  StaysSo x y = (IsAlone x → IsAlone y) × (IsCaused C.parent C.lost x → IsCaused C.parent C.lost y)

  pub record SameRoots (s t : Side) : Type 0 where
    pub on : (a n : ℕ) (x : JobRow) → (view s).job a n ≡ Some x → (y : JobRow) × ((view t).job a n ≡ Some y) × (y.root ≡ x.root)
    pub back : (a n : ℕ) (y : JobRow) → (view t).job a n ≡ Some y → (x : JobRow) × ((view s).job a n ≡ Some x) × (x.root ≡ y.root) × StaysSo x y

  -- from the jobs of this kernel
  pub same-roots : (s t : Side) → ((n : ℕ) (x : JobRow) → job s n ≡ Some x → (y : JobRow) × (job t n ≡ Some y) × (y.root ≡ x.root)) →
      ((n : ℕ) (y : JobRow) → job t n ≡ Some y → (x : JobRow) × (job s n ≡ Some x) × (x.root ≡ y.root) × StaysSo x y) → SameRoots s t
  same-roots s t on back = record {
    on = λ a n x open_. elim (cases_eq a C.kernel) [
      | inl here ↦
          let at : (view s).job a n ≡ job s n = cond-true (a == C.kernel) (job s n) (job (side C.world a) n) (eq-eqb a C.kernel here) in
          let at' : (view t).job a n ≡ job t n = cond-true (a == C.kernel) (job t n) (job (side C.world a) n) (eq-eqb a C.kernel here) in
          let y = on n x (sym at ∙ open_) in
          (y.0, at' ∙ y.1, y.2)
      | inr away ↦ (x, job-away t a n away ∙ (sym (job-away s a n away) ∙ open_), refl)
    ];
    back = λ a n y open_. elim (cases_eq a C.kernel) [
      | inl here ↦
          let at : (view s).job a n ≡ job s n = cond-true (a == C.kernel) (job s n) (job (side C.world a) n) (eq-eqb a C.kernel here) in
          let at' : (view t).job a n ≡ job t n = cond-true (a == C.kernel) (job t n) (job (side C.world a) n) (eq-eqb a C.kernel here) in
          let x = back n y (sym at' ∙ open_) in
          (x.0, at ∙ x.1, x.2, x.3)
      | inr away ↦ (y, job-away s a n away ∙ (sym (job-away t a n away) ∙ open_), refl, (λ alone. alone, λ caused. caused))
    ];
  }

  pub changed-job : (s : Side) (m : ℕ) (f : JobRow → JobRow) → ((x : JobRow) → ((f x).id ≡ x.id) × ((f x).root ≡ x.root)) → (n : ℕ) →
      job (job_changed m f s) n ≡ (if n == m then option_map f (job s n) else job s n)
  changed-job s m f same n = ap (λ (z : ObservedSide). z.job n) (seen-job_changed m f s (λ x. (same x).0))

  pub changed-roots : (s : Side) (m : ℕ) (f : JobRow → JobRow) → ((x : JobRow) → ((f x).id ≡ x.id) × ((f x).root ≡ x.root)) →
      ((x : JobRow) → job s m ≡ Some x → StaysSo x (f x)) → SameRoots s (job_changed m f s)
  changed-roots s m f same so = same-roots s (job_changed m f s) on back
    where
      on : (n : ℕ) (x : JobRow) → job s n ≡ Some x → (y : JobRow) × (job (job_changed m f s) n ≡ Some y) × (y.root ≡ x.root)
      on n x open_ = elim (cases_Bool (n == m)) [
        | inl here ↦ (f x, changed-job s m f same n ∙ (cond-true (n == m) (option_map f (job s n)) (job s n) here ∙ ap (option_map f) open_), (same x).1)
        | inr other ↦ (x, changed-job s m f same n ∙ (cond-false (n == m) (option_map f (job s n)) (job s n) other ∙ open_), refl)
      ]

      mapped : (o : Option JobRow) (y : JobRow) → job s m ≡ o → option_map f o ≡ Some y → (x : JobRow) × (o ≡ Some x) × (x.root ≡ y.root) × StaysSo x y
      mapped None y is none = absurd cc
      mapped (Some x) y is some = (
        x,
        refl,
        sym (same x).1 ∙ ap (λ (z : JobRow). z.root) (same_Some (f x) y some),
        subst (StaysSo x) (same_Some (f x) y some) (so x is),
      )

      back : (n : ℕ) (y : JobRow) → job (job_changed m f s) n ≡ Some y → (x : JobRow) × (job s n ≡ Some x) × (x.root ≡ y.root) × StaysSo x y
      back n y open_ = elim (cases_Bool (n == m)) [
        | inl here ↦ mapped (job s n) y (ap (job s) (sym (eqb-true n m here))) (sym (cond-true (n == m) (option_map f (job s n)) (job s n) here)
            ∙ (sym (changed-job s m f same n) ∙ open_))
        | inr other ↦ (
          y,
          sym (cond-false (n == m) (option_map f (job s n)) (job s n) other) ∙ (sym (changed-job s m f same n) ∙ open_),
          refl,
          (λ is. is, λ caused. caused),
        )
      ]

  pub roots-joined : (s t u : Side) → SameRoots s t → SameRoots t u → SameRoots s u
  roots-joined s t u first second = record {
    on = λ a n x open_. let y = first.on a n x open_ in let z = second.on a n y.0 y.1 in (z.0, z.1, z.2 ∙ y.2);
    back = λ a n z open_. let y = second.back a n z open_ in let x = first.back a n y.0 y.1 in
        (x.0, x.1, x.2 ∙ y.2, (λ is. y.3.0 (x.3.0 is), λ is. y.3.1 (x.3.1 is)));
  }

  -- Steps that change no capability, and no root of a job.
  pub step_from : (h h' : Obligations) (s t : Side)
      → HoldsOn owner C.parent C.one_parent C.made (view s) (view t)
      → SameRoots s t
      → Rises t.caps → HasIds t → ((k : KeyName) (c : Capability) → cap t k ≡ Some c → owner k ≡ C.kernel) → IsSent t
      → ((k : KeyName) (a b : ℕ) → IsAlive t k → IsUnder s k a b → (1 ≤ (view s).asked k a b) ⊎ h.cares a b k → Caught owner C.parent C.made h' (view t) a b k)
      → ((k : KeyName) (a b : ℕ) → 1 ≤ (view t).asked k a b → (1 ≤ (view s).asked k a b) ⊎ IsUnder s k a b)
      → ((a n : ℕ) → h.loose a n → h'.loose a n)
      → ((a b : ℕ) → (view t).tokens a b + h'.owed a b ≡ (view t).count a b)
      → IsSingle owner C.parent C.made h' (view t)
      → ((k : KeyName) → 1 ≤ (view t).notices k → (1 ≤ (view s).notices k) ⊎ (IsGone t k × C.made k))
      → (view t).misplaced ≡ 0
      → ((n : ℕ) (x : JobRow) → job t n ≡ Some x → IsCaused C.parent C.lost x)
      → ((k : KeyName) (c : Capability) → cap C.before k ≡ Some c → ((d : Capability) × (cap t k ≡ Some d)) ⊎ C.lost k)
      → IsFit owner C.parent C.made (view s) → Revokes owner C.parent C.made h (view s) → Row h' t
  step_from h h' s t H roots rises ids homes sent caught' asking' loose' counted' single' noticed' placed' caused lasts fit revokes = record {
    fit = fit-on owner C.parent C.one_parent C.made (view s) (view t) H fit;
    revokes = keep owner C.parent C.one_parent C.made (view s) (view t) H h h' fit revokes caught' asking'
        (λ k n x marked open_. roots.on (owner k) n x open_)
        (λ a n y open_. let x = roots.back a n y open_ in (x.0, x.1, x.2, x.3.0, loose' a n))
        counted' single' noticed' placed';
    rises = rises;
    ids = ids;
    homes = homes;
    sent = sent;
    caused = caused;
    lasts = lasts;
  }

  pub step : (h h' : Obligations) (s t : Side)
      → HoldsOn owner C.parent C.one_parent C.made (view s) (view t)
      → SameRoots s t
      → Rises t.caps → HasIds t → ((k : KeyName) (c : Capability) → cap t k ≡ Some c → owner k ≡ C.kernel) → IsSent t
      → ((k : KeyName) (a b : ℕ) → IsAlive t k → IsUnder s k a b → (1 ≤ (view s).asked k a b) ⊎ h.cares a b k → Caught owner C.parent C.made h' (view t) a b k)
      → ((k : KeyName) (a b : ℕ) → 1 ≤ (view t).asked k a b → (1 ≤ (view s).asked k a b) ⊎ IsUnder s k a b)
      → ((a n : ℕ) → h.loose a n → h'.loose a n)
      → ((a b : ℕ) → (view t).tokens a b + h'.owed a b ≡ (view t).count a b)
      → IsSingle owner C.parent C.made h' (view t)
      → ((k : KeyName) → 1 ≤ (view t).notices k → (1 ≤ (view s).notices k) ⊎ (IsGone t k × C.made k))
      → (view t).misplaced ≡ 0
      → Row h s → Row h' t
  step h h' s t H roots rises ids homes sent caught' asking' loose' counted' single' noticed' placed' R =
      step_from h h' s t H roots rises ids homes sent caught' asking' loose' counted' single' noticed' placed'
      (λ n y open_. let x = roots.back C.kernel n y (job-here t n ∙ open_) in x.3.1 (R.caused n x.0 (sym (job-here s n) ∙ x.1)))
      (λ k c was. elim (R.lasts k c was) [
        | inl (d, held) ↦
            let at = R.homes k d held in
            let e = H.on k d (hold-here s k at ∙ held) in
            inl (e.0, sym (hold-here t k at) ∙ e.1)
        | inr is ↦ inr is
      ])
      R.fit R.revokes

  pub no-roots : (s t : Side) → t.jobs ≡ s.jobs → SameRoots s t
  no-roots s t same = same-roots s t (λ n x open_. (x, ap (λ xs. job_of xs n) same ∙ open_, refl)) (λ n y open_. (
    y,
    ap (λ xs. job_of xs n) (sym same)
        ∙ open_,
    refl,
    (λ is. is, λ caused. caused),
  ))

  -- What is kept of the VPEs changes, with endpoints and parked calls, and nothing comes on its way.
  pub rows-changed : (h : Obligations) (s : Side) (vs : List VpeRow) (es : List (List (Option Endpoint))) (ps : List (Option Parked))
      → ((k : KeyName) → sum_by (at_parked k) ps ≤ sum_by (at_parked k) s.parks) → Row h s → Row h (record s { vpes = vs; endpoints = es; parks = ps })
  rows-changed h s vs es ps few R =
      step h h s (record s { vpes = vs; endpoints = es; parks = ps })
      (holds-same owner C.parent C.one_parent C.made (view s) (view (record s { vpes = vs; endpoints = es; parks = ps })) (λ k. refl) (λ k. let less = few k in
      omega (arith, less)))
      (no-roots s (record s { vpes = vs; endpoints = es; parks = ps }) refl)
      R.rises (record { rise = R.ids.rise; drawn = R.ids.drawn }) R.homes (record { inbox = R.sent.inbox; sends = R.sent.sends })
      (λ k a b alive under before. inr before)
      (λ k a b more. inl more)
      (λ a n loose. loose)
      R.revokes.counted
      R.revokes.single
      (λ k more. inl more)
      R.revokes.placed
      R

  -- The pending delegations change.
  pub pendings-row : (h : Obligations) (s : Side) (ps : List Pending) → Row h s → Row h (record s { pendings = ps })
  pendings-row h s ps R =
      step h h s (record s { pendings = ps })
      (holds-same owner C.parent C.one_parent C.made (view s) (view (record s { pendings = ps })) (λ k. refl) (λ k. omega arith))
      (no-roots s (record s { pendings = ps }) refl)
      R.rises (record { rise = R.ids.rise; drawn = R.ids.drawn }) R.homes (record { inbox = R.sent.inbox; sends = R.sent.sends })
      (λ k a b alive under before. inr before)
      (λ k a b more. inl more)
      (λ a n loose. loose)
      R.revokes.counted
      R.revokes.single
      (λ k more. inl more)
      R.revokes.placed
      R

  -- A message is sent that asks for nothing and gives nothing.
  pub row-sent : (h h' : Obligations) (s : Side) (j : ℕ) (m : Message)
      → ((k : KeyName) (a b : ℕ) → requesting_message k a b C.kernel j m ≡ 0)
      → ((k : KeyName) → at_message k m ≡ 0)
      → stray_message owner C.kernel j m ≡ 0
      → ((a b : ℕ) → token_message a b C.kernel j m + h'.owed a b ≡ h.owed a b)
      → ((a b : ℕ) (k : KeyName) → IsAlive s k → h.cares a b k → h'.cares a b k)
      → ((a b : ℕ) (k : KeyName) → h'.cares a b k → h.cares a b k)
      → ((a n : ℕ) → h.loose a n → h'.loose a n)
      → ((k : KeyName) → 1 ≤ notice_message k C.kernel j m → IsGone s k × C.made k)
      → Row h s → Row h' (send j m s)
  row-sent h h' s j m asks gives strays tokens cares cared loose notices R =
      let t : Side = send j m s in
      let H = holds-same owner C.parent C.one_parent C.made (view s) (view t) (λ k. refl) (λ k. let sum = lives-send k on_its_way s j m in let none = gives k in
      omega (arith, sum, none)) in
      let asked : (k : KeyName) (a b : ℕ) → of_side (requesting k a b) C.kernel t ≡ of_side (requesting k a b) C.kernel s = λ k a b. let sum =
      side-send (requesting k a b) C.kernel s j m in let none = asks k a b in omega (arith, sum, none) in
      step h h' s t H (no-roots s t refl) R.rises (record { rise = R.ids.rise; drawn = R.ids.drawn }) R.homes (sent-more s j m gives R.sent)
      (λ k a b alive under before. inr (elim before [
        | inl more ↦ (let same = asked k a b in inl (omega (arith, more, same)))
        | inr care ↦ inr (cares a b k (alive-before k alive) care)
      ]))
      (λ k a b more. let same = asked k a b in inl (omega (arith, more, same)))
      loose
      (λ a b. let sum = side-send (naming a b) C.kernel s j m in let few = tokens a b in let is = R.revokes.counted a b in
      let count : of_side (counting a b) C.kernel t ≡ of_side (counting a b) C.kernel s + 0 = side-send (counting a b) C.kernel s j m in
      omega (arith, sum, few, is, count)) (
        λ k a b. let same = asked k a b in let most = R.revokes.single.0 k a b in omega (arith, same, most),
        λ k a b care. let same = asked k a b in
            let none = R.revokes.single.1 k a b (cared a b k care) in omega (arith, same, none),
      )
      (λ k more. let sum = side-send (noticing k) C.kernel s j m in new k sum more)
      (let sum = side-send (straying owner) C.kernel s j m in let is = R.revokes.placed in omega (arith, sum, strays, is))
      R
    where
      alive-before : (k : KeyName) → IsAlive (send j m s) k → IsAlive s k
      alive-before k (inl held) = inl held
      alive-before k (inr more) = let sum = lives-send k on_its_way s j m in let none = gives k in inr (omega (arith, sum, none, more))

      new : (k : KeyName) → of_side (noticing k) C.kernel (send j m s) ≡ of_side (noticing k) C.kernel s + notice_message k C.kernel j m →
          1 ≤ (view (send j m s)).notices k → (1 ≤ (view s).notices k) ⊎ (IsGone (send j m s) k × C.made k)
      new k sum more = elim (cases_eq (notice_message k C.kernel j m) 0) [
        | inl none ↦ inl (omega (arith, sum, more, none))
        | inr some ↦
            let is = notices k (omega (arith, some)) in
            let sum' = lives-send k on_its_way s j m in
            let none = gives k in
            let gone = is.0.1 in
            inr ((is.0.0, omega (arith, sum', none, gone)), is.1)
      ]

  -- what the row owes changes alone
  pub obligations-changed : (h h' : Obligations) (s : Side)
      → ((k : KeyName) (a b : ℕ) → IsAlive s k → IsUnder s k a b → h.cares a b k → Caught owner C.parent C.made h' (view s) a b k)
      → ((k : KeyName) (a b : ℕ) → h'.cares a b k → h.cares a b k)
      → ((a n : ℕ) → h.loose a n → h'.loose a n)
      → ((a b : ℕ) → h'.owed a b ≡ h.owed a b)
      → Row h s → Row h' s
  obligations-changed h h' s cares cared loose owed R =
      step h h' s s (holds-same owner C.parent C.one_parent C.made (view s) (view s) (λ k. refl) (λ k. omega arith)) (no-roots s s refl) R.rises R.ids R.homes
      R.sent
      (λ k a b alive under before. elim before [ inl more ↦ inr (inl more) | inr care ↦ cares k a b alive under care ])
      (λ k a b more. inl more)
      loose
      (λ a b. let is = R.revokes.counted a b in let few = owed a b in omega (arith, is, few))
      (R.revokes.single.0, λ k a b care. R.revokes.single.1 k a b (cared k a b care))
      (λ k more. inl more)
      R.revokes.placed
      R

  -- What jobs mark.

  -- each job has a cause
  pub all-caused : (h : Obligations) (s : Side) → Row h s → (a n : ℕ) (x : JobRow) → (view s).job a n ≡ Some x → IsCaused C.parent C.lost x
  all-caused h s R a n x open_ = elim (cases_eq a C.kernel) [
    | inl here ↦ R.caused n x (sym (cond-true (a == C.kernel) (job s n) (job (side C.world a) n) (eq-eqb a C.kernel here)) ∙ open_)
    | inr away ↦ C.others a n x (sym (job-away s a n away) ∙ open_)
  ]

  -- so a child of what is marked is lost
  below-mark : (h : Obligations) (s : Side) → Row h s → (m : ℕ) (p k : KeyName) (n : ℕ) → C.rank p ≤ m → IsMarked s p n → C.parent p k → C.lost k
  below-mark h s R zero p k n few marked granted =
      let x = R.revokes.marks p n marked in
      elim x.2 [
        | inl root ↦ (all-caused h s R (owner p) n x.0 x.1).1 k (subst (λ q. C.parent q k) (sym root) granted)
        | inr (q, above, at, marked') ↦ let less = C.older q p above in absurd (omega (arith, few, less))
      ]
  below-mark h s R (suc m) p k n few marked granted =
      let x = R.revokes.marks p n marked in
      elim x.2 [
        | inl root ↦ (all-caused h s R (owner p) n x.0 x.1).1 k (subst (λ q. C.parent q k) (sym root) granted)
        | inr (q, above, at, marked') ↦ C.lower p k granted (below-mark h s R m q p n (let less = C.older q p above in omega (arith, few, less)) marked' above)
      ]

  pub under-lost : (h : Obligations) (s : Side) → Row h s → (k : KeyName) (a b : ℕ) → IsUnder s k a b → C.lost k
  under-lost h s R k a b (p, granted, at, marked) = below-mark h s R (C.rank p) p k b (omega arith) marked granted

  -- what a job marks is lost, but for a root that it keeps
  pub mark-lost : (h : Obligations) (s : Side) → Row h s → (k : KeyName) (n : ℕ) (x : JobRow) → IsMarked s k n → (view s).job (owner k) n ≡ Some x →
      (x.root ≡ k → x.keep ≡ false) → C.lost k
  mark-lost h s R k n x marked open_ leaves =
      let y = R.revokes.marks k n marked in
      let same : y.0 ≡ x = same_Some y.0 x (sym y.1 ∙ open_) in
      elim y.2 [
        | inl root ↦
            let is_root : x.root ≡ k = ap (λ (z : JobRow). z.root) (sym same) ∙ root in
            subst C.lost is_root ((all-caused h s R (owner k) n x open_).0 (leaves is_root))
        | inr under ↦ under-lost h s R k (owner k) n under
      ]
