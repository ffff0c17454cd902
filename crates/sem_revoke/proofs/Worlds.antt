-- What is so of the revocation of a whole world, and that each event keeps it.
use Rattle.sem_msg.specs.Rows.{JobRow}
use Rattle.std.proofs.Common.{◌≡◌, ◌⊎◌, ℕ, zero, suc, ◌+◌, ◌≤◌, true, List, [], ◌∷◌, get_or, Some, None, refl, sym, ap, ◌∙◌, subst, inl, inr, arith, eq-eqb}
use Rattle.std.specs.Prelude.{◌==◌}
use Rattle.std.specs.List.{find, sum_by}
use Rattle.std.proofs.lemmas.Bool.{cases_Bool, cases_eq, cond-true, cond-false, ne_eqb}
use Rattle.std.proofs.lemmas.Option.{same_Some}
use Rattle.std.proofs.lemmas.List.Sums.{sum_by-cons}
use Rattle.sem_key.specs.KeyName.{KeyName, key_eq}
use Rattle.sem_key.specs.Capability.{Capability}
use Rattle.sem_msg.specs.Setup.{Setup}
use Rattle.sem_msg.specs.Lookups.{owner_of}
use Rattle.sem_machine.specs.Sides.{Side, no_side, cap, job}
use Rattle.sem_key.specs.Region.{has_key}
use Rattle.sem_machine.specs.Machine.{World, side, with_side}
use Rattle.sem_key.proofs.Members.{found}
use Rattle.sem_key.proofs.Puts.{get_or-put_same, get_or-put_other}
use Rattle.sem_machine.proofs.Weighing.{weigh-among, weigh-none}
use Rattle.sem_safety.proofs.Lives.{all_held, at_cap, at_side}
use Rattle.sem_safety.proofs.LiveWorlds.{at_world, world-side}
use Rattle.sem_safety.proofs.JobIds.{HasIds}
use Rattle.sem_revoke.specs.Views.{View, no_obligations, Alive, Gone, Marked, Under, Leads, IsFit, Revokes, IsCaused}
use Rattle.sem_revoke.specs.Scales.{of_world, requesting, naming, counting, noticing, straying}
use Rattle.sem_revoke.proofs.Keeping.{HoldsOn, holds-same, fit-on, keep, cases_Option}
use Rattle.sem_revoke.proofs.Scaling.{world-parts, world-whole}
use Rattle.sem_revoke.proofs.Viewing.{on_its_way, Rises, Scene, owner, elsewhere, view, IsSent, Row}

-- the view of a world
abbrev pub whole : Setup → World → View
whole T W = record {
  hold = λ k. cap (side W (owner_of T k)) k;
  gifts = λ k. at_world k on_its_way W;
  job = λ a n. job (side W a) n;
  asked = λ k a b. of_world (requesting k a b) W;
  tokens = λ a b. of_world (naming a b) W;
  count = λ a b. of_world (counting a b) W;
  notices = λ k. of_world (noticing k) W;
  misplaced = of_world (straying (owner_of T)) W;
}

-- two views that show the same
pub record Same (V U : View) : Type 0 where
  pub hold : (k : KeyName) → U.hold k ≡ V.hold k
  pub gifts : (k : KeyName) → U.gifts k ≤ V.gifts k
  pub job : (a n : ℕ) → U.job a n ≡ V.job a n
  pub asked : (k : KeyName) (a b : ℕ) → U.asked k a b ≡ V.asked k a b
  pub tokens : (a b : ℕ) → U.tokens a b ≡ V.tokens a b
  pub count : (a b : ℕ) → U.count a b ≡ V.count a b
  pub notices : (k : KeyName) → U.notices k ≡ V.notices k
  pub misplaced : U.misplaced ≡ V.misplaced

module _ (own : KeyName → ℕ) (G : KeyName → KeyName → Type 0) (one : (p q k : KeyName) → G p k → G q k → p ≡ q) (M : KeyName →
    Type 0) (V U : View) (S : Same V U) where
  same-holds : HoldsOn own G one M V U
  same-holds = holds-same own G one M V U S.hold S.gifts

  pub fit-same : IsFit own G M V → IsFit own G M U
  fit-same fit = fit-on own G one M V U same-holds fit

  pub revokes-same : IsFit own G M V → Revokes own G M no_obligations V → Revokes own G M no_obligations U
  revokes-same fit R = keep own G one M V U same-holds no_obligations no_obligations fit R
      (λ k a b alive under before. elim before [ inl more ↦ (let same = S.asked k a b in inr (inl (omega (arith, same, more)))) | inr care ↦ absurd care ])
      (λ k a b more. let same = S.asked k a b in inl (omega (arith, same, more)))
      (λ k n x marked open_. (x, S.job (own k) n ∙ open_, refl))
      (λ a n y open_. (y, sym (S.job a n) ∙ open_, refl, λ is. is, λ loose. loose))
      (λ a b. let tokens = S.tokens a b in let count = S.count a b in let is = R.counted a b in omega (arith, tokens, count, is))
      (λ k a b. let same = S.asked k a b in let most = R.single.0 k a b in omega (arith, same, most), λ k a b care. absurd care)
      (λ k more. let same = S.notices k in inl (omega (arith, same, more)))
      (let same = S.misplaced in let is = R.placed in omega (arith, same, is))

-- The view of a side, and that of the world.

module _ (C : Scene) where
  abbrev i : ℕ
  i = C.kernel

  pub gifts-parts : (k : KeyName) (t : Side) → at_world k on_its_way (with_side i t C.world) ≡ at_world k on_its_way (elsewhere C) + at_side k on_its_way t
  gifts-parts k t =
      let one = world-side k on_its_way C.world i t in
      let two = world-side k on_its_way C.world i no_side in
      let none : at_side k on_its_way no_side ≡ 0 = refl in
      omega (arith, one, two, none)

  pub same-leaving : (t : Side) → Same (view C t) (whole C.setup (with_side i t C.world))
  same-leaving t = record {
    hold = λ k. elim (cases_eq (owner C k) i) [
      | inl here ↦
          let at : side (with_side i t C.world) (owner C k) ≡ t = ap (side (with_side i t C.world)) here ∙ get_or-put_same no_side C.world.sides i t in
          ap (λ (x : Side). cap x k) at ∙ sym (cond-true (owner C k == i) (cap t k) (cap (side C.world (owner C k)) k) (eq-eqb (owner C k) i here))
      | inr away ↦ ap (λ (x : Side). cap x k) (get_or-put_other no_side C.world.sides i (owner C k) t away)
          ∙ sym (cond-false (owner C k == i) (cap t k) (cap (side C.world (owner C k)) k) (ne_eqb (owner C k) i away))
    ];
    gifts = λ k. let same = gifts-parts k t in omega (arith, same);
    job = λ a n. elim (cases_eq a i) [
      | inl here ↦
          let at : side (with_side i t C.world) a ≡ t = ap (side (with_side i t C.world)) here ∙ get_or-put_same no_side C.world.sides i t in
          ap (λ (x : Side). job x n) at ∙ sym (cond-true (a == i) (job t n) (job (side C.world a) n) (eq-eqb a i here))
      | inr away ↦ ap (λ (x : Side). job x n) (get_or-put_other no_side C.world.sides i a t away)
          ∙ sym (cond-false (a == i) (job t n) (job (side C.world a) n) (ne_eqb a i away))
    ];
    asked = λ k a b. world-parts (requesting k a b) C.world i t;
    tokens = λ a b. world-parts (naming a b) C.world i t;
    count = λ a b. world-parts (counting a b) C.world i t;
    notices = λ k. world-parts (noticing k) C.world i t;
    misplaced = world-parts (straying (owner C)) C.world i t;
  }

  pub same-entering : Same (whole C.setup C.world) (view C (side C.world i))
  same-entering = record {
    hold = λ k. elim (cases_eq (owner C k) i) [
      | inl here ↦ cond-true (owner C k == i) (cap (side C.world i) k) (cap (side C.world (owner C k)) k) (eq-eqb (owner C k) i here)
          ∙ ap (λ a. cap (side C.world a) k) (sym here)
      | inr away ↦ cond-false (owner C k == i) (cap (side C.world i) k) (cap (side C.world (owner C k)) k) (ne_eqb (owner C k) i away)
    ];
    gifts = λ k.
        let two = world-side k on_its_way C.world i no_side in
        let none : at_side k on_its_way no_side ≡ 0 = refl in
        omega (arith, two, none);
    job = λ a n. elim (cases_eq a i) [
      | inl here ↦ cond-true (a == i) (job (side C.world i) n) (job (side C.world a) n) (eq-eqb a i here) ∙ ap (λ b. job (side C.world b) n) (sym here)
      | inr away ↦ cond-false (a == i) (job (side C.world i) n) (job (side C.world a) n) (ne_eqb a i away)
    ];
    asked = λ k a b. sym (world-whole (requesting k a b) C.world i);
    tokens = λ a b. sym (world-whole (naming a b) C.world i);
    count = λ a b. sym (world-whole (counting a b) C.world i);
    notices = λ k. sym (world-whole (noticing k) C.world i);
    misplaced = sym (world-whole (straying (owner C)) C.world i);
  }

  -- what is so of the world is so of the side in it
  pub enter : IsFit (owner C) C.parent C.made (whole C.setup C.world) → Revokes (owner C) C.parent C.made no_obligations (whole C.setup C.world) →
      Rises (side C.world i).caps → HasIds (side C.world i) → ((k : KeyName) (c : Capability) → cap (side C.world i) k ≡ Some c → owner C k ≡ i) →
      IsSent C (side C.world i) → ((n : ℕ) (x : JobRow) → job (side C.world i) n ≡ Some x → IsCaused C.parent C.lost x) →
      ((k : KeyName) (c : Capability) → cap C.before k ≡ Some c → ((d : Capability) × (cap (side C.world i) k ≡ Some d)) ⊎ C.lost k) →
      Row C no_obligations (side C.world i)
  enter fit R rises ids homes sent' caused lasts = record {
    fit = fit-same (owner C) C.parent C.one_parent C.made (whole C.setup C.world) (view C (side C.world i)) same-entering fit;
    revokes = revokes-same (owner C) C.parent C.one_parent C.made (whole C.setup C.world) (view C (side C.world i)) same-entering fit R;
    rises = rises;
    ids = ids;
    homes = homes;
    sent = sent';
    caused = caused;
    lasts = lasts;
  }

  pub leave : (t : Side) → Row C no_obligations t → Revokes (owner C) C.parent C.made no_obligations (whole C.setup (with_side i t C.world))
  leave t R = revokes-same (owner C) C.parent C.one_parent C.made (view C t) (whole C.setup (with_side i t C.world)) (same-leaving t) R.fit R.revokes

-- What is alive, counted.

module _ (T : Setup) (W : World) (k : KeyName) where
  sides-parts : (ss : List Side) →
      sum_by (at_side k all_held) ss ≡ sum_by (at_side k on_its_way) ss + sum_by (λ (s : Side). sum_by (at_cap k all_held) s.caps) ss
  sides-parts [] = refl
  sides-parts (s ∷ ss) =
      let one = sum_by-cons (at_side k all_held) s ss in
      let two = sum_by-cons (at_side k on_its_way) s ss in
      let three = sum_by-cons (λ (s : Side). sum_by (at_cap k all_held) s.caps) s ss in
      let rest = sides-parts ss in
      let none = weigh-none (at_cap k on_its_way) s.caps (λ c among. refl) in
      omega (arith, one, two, three, rest, none)

  pub held-parts : at_world k all_held W ≡ at_world k on_its_way W + sum_by (λ (s : Side). sum_by (at_cap k all_held) s.caps) W.sides
  held-parts = let parts = sides-parts W.sides in omega (arith, parts)

  -- what is held weighs
  side-weighs : (ss : List Side) (i : ℕ) (c : Capability) → cap (get_or ss i no_side) k ≡ Some c →
      1 ≤ sum_by (λ (s : Side). sum_by (at_cap k all_held) s.caps) ss
  side-weighs [] i c held = absurd cc
  side-weighs (s ∷ ss) zero c held =
      let there = found (λ x. key_eq x.key k) s.caps c held in
      let one : at_cap k all_held c ≡ 1 = cond-true (key_eq c.key k) 1 0 there.1 in
      let among = weigh-among (at_cap k all_held) s.caps c there.0 in
      let all = sum_by-cons (λ (s : Side). sum_by (at_cap k all_held) s.caps) s ss in
      omega (arith, one, among, all)
  side-weighs (s ∷ ss) (suc i) c held = let rest = side-weighs ss i c held in let all = sum_by-cons (λ (s : Side). sum_by (at_cap k all_held) s.caps) s ss in
      omega (arith, rest, all)

  pub held-weighs : (i : ℕ) (c : Capability) → cap (side W i) k ≡ Some c → 1 ≤ sum_by (λ (s : Side). sum_by (at_cap k all_held) s.caps) W.sides
  held-weighs i c held = side-weighs W.sides i c held

  pub caps-some : (cs : List Capability) → 1 ≤ sum_by (at_cap k all_held) cs → (c : Capability) × (find (λ (x : Capability). key_eq x.key k) cs ≡ Some c)
  caps-some [] more = absurd (omega (arith, more))
  caps-some (c ∷ cs) more = elim (cases_Bool (key_eq c.key k)) [
    | inl same ↦ (c, cond-true (key_eq c.key k) (Some c) (find (λ (x : Capability). key_eq x.key k) cs) same)
    | inr differ ↦
        let all = sum_by-cons (at_cap k all_held) c cs in
        let none : at_cap k all_held c ≡ 0 = cond-false (key_eq c.key k) 1 0 differ in
        let rest = caps-some cs (omega (arith, all, none, more)) in
        (rest.0, cond-false (key_eq c.key k) (Some c) (find (λ (x : Capability). key_eq x.key k) cs) differ ∙ rest.1)
  ]

  side-some : (ss : List Side) → 1 ≤ sum_by (λ (s : Side). sum_by (at_cap k all_held) s.caps) ss →
      (i : ℕ) × (c : Capability) × (cap (get_or ss i no_side) k ≡ Some c)
  side-some [] more = absurd (omega (arith, more))
  side-some (s ∷ ss) more = elim (cases_eq (sum_by (at_cap k all_held) s.caps) 0) [
    | inl none ↦
        let all = sum_by-cons (λ (s : Side). sum_by (at_cap k all_held) s.caps) s ss in
        let rest = side-some ss (omega (arith, all, none, more)) in
        (suc rest.0, rest.1, rest.2)
    | inr some ↦ let c = caps-some s.caps (omega (arith, some)) in (0, c.0, c.1)
  ]

  -- alive, in numbers
  pub alive-weighs : (G : KeyName → KeyName → Type 0) (M : KeyName → Type 0) → Alive (owner_of T) G M (whole T W) k → 1 ≤ at_world k all_held W
  alive-weighs G M (inl (c, held)) = let parts = held-parts in let one = held-weighs (owner_of T k) c held in omega (arith, parts, one)
  alive-weighs G M (inr more) = let parts = held-parts in omega (arith, parts, more)

  pub weighs-alive : (G : KeyName → KeyName → Type 0) (M : KeyName → Type 0) → ((i : ℕ) (c : Capability) → cap (side W i) k ≡ Some c → owner_of T k ≡ i) →
      1 ≤ at_world k all_held W → Alive (owner_of T) G M (whole T W) k
  weighs-alive G M homes more = elim (cases_eq (at_world k on_its_way W) 0) [
    | inl none ↦
        let parts = held-parts in
        let there = side-some W.sides (omega (arith, parts, none, more)) in
        inl (there.1, ap (λ a. cap (side W a) k) (homes there.0 there.1 there.2) ∙ there.2)
    | inr some ↦ inr (omega (arith, some))
  ]

-- An event that revokes nothing.

module _ (own : KeyName → ℕ) (G G' : KeyName → KeyName → Type 0) (one : (p q k : KeyName) → G' p k → G' q k → p ≡ q) (M M' : KeyName → Type 0) (link : KeyName →
    KeyName → Type 0) where
  pub record Grows (V U : View) : Type 0 where
    pub on : (p : KeyName) (d : Capability) → V.hold p ≡ Some d → (e : Capability) × (U.hold p ≡ Some e) × (e.mark ≡ d.mark)
        × ((k : KeyName) → has_key d.children k ≡ true → has_key e.children k ≡ true)
    pub back : (p : KeyName) (e : Capability) (n : ℕ) → U.hold p ≡ Some e → e.mark ≡ Some n → (d : Capability) × (V.hold p ≡ Some d) × (d.mark ≡ Some n)
        × ((k : KeyName) → has_key e.children k ≡ true → (has_key d.children k ≡ true) ⊎ link p k)
    pub alive : (k : KeyName) → Alive own G' M' U k → Alive own G M V k ⊎ ((p : KeyName) × link p k)
    pub new : (p k : KeyName) → link p k → (e : Capability) × (U.hold p ≡ Some e) × (e.mark ≡ None) × (has_key e.children k ≡ true)
    pub fresh : (p k : KeyName) → link p k → M k → ⊥
    pub child : (p k : KeyName) → G p k → M k
    pub alive_made : (k : KeyName) → Alive own G M V k → M k
    pub more : (p k : KeyName) → G p k → G' p k
    pub less : (p k : KeyName) → G' p k → G p k ⊎ link p k
    pub granted : (p k : KeyName) → link p k → G' p k
    pub made_more : (k : KeyName) → M k → M' k
    pub job : (a n : ℕ) → U.job a n ≡ V.job a n
    pub asked : (k : KeyName) (a b : ℕ) → U.asked k a b ≡ V.asked k a b
    pub tokens : (a b : ℕ) → U.tokens a b ≡ V.tokens a b
    pub count : (a b : ℕ) → U.count a b ≡ V.count a b
    pub notices : (k : KeyName) → U.notices k ≡ V.notices k
    pub misplaced : U.misplaced ≡ V.misplaced

  module _ (V U : View) (S : Grows V U) (links : (p k : KeyName) → Leads own G M V p k → G p k) (R : Revokes own G M no_obligations V) where
    marked-on : (k : KeyName) (n : ℕ) → Marked own G M V k n → Marked own G' M' U k n
    marked-on k n (c, held, marked) = let e = S.on k c held in (e.0, e.1, e.2 ∙ marked)

    under-on : (k : KeyName) (a b : ℕ) → Under own G M V k a b → Under own G' M' U k a b
    under-on k a b (p, granted, at, marked) = (p, S.more p k granted, at, marked-on p b marked)

    -- what is linked to a marked capability was linked before
    old-link : (p k : KeyName) (e : Capability) (n : ℕ) → U.hold p ≡ Some e → e.mark ≡ Some n → link p k → ⊥
    old-link p k e n held marked is =
        let made = S.new p k is in
        let same : e ≡ made.0 = same_Some e made.0 (sym held ∙ made.1) in
        let no' : Some n ≡ None = sym marked ∙ (ap (λ (x : Capability). x.mark) same ∙ made.2) in
        absurd cc

    pub revokes-grown : Revokes own G' M' no_obligations U
    revokes-grown = record {
      linked = λ p k granted alive. elim (S.alive k alive) [
        | inl before ↦ elim (S.less p k granted) [
          | inl old ↦ let d = R.linked p k old before in let e = S.on p d.0 d.1 in (e.0, e.1, e.3 k d.2)
          | inr now ↦ absurd (S.fresh p k now (S.alive_made k before))
        ]
        | inr (q, now) ↦
            let made = S.new q k now in
            let same : q ≡ p = one q p k (S.granted q k now) granted in
            subst (λ z. Leads own G' M' U z k) same (made.0, made.1, made.3)
      ];
      caught = λ p k e n held marked among alive.
          let d = S.back p e n held marked in
          elim (d.3 k among) [
            | inr now ↦ absurd (old-link p k e n held marked now)
            | inl before ↦ elim (S.alive k alive) [
              | inl was ↦ elim (R.caught p k d.0 n d.1 d.2 before was) [
                | inl (at, by_n) ↦ inl (at, marked-on k n by_n)
                | inr (inl more) ↦ let same = S.asked k (own p) n in inr (inl (omega (arith, same, more)))
                | inr (inr care) ↦ absurd care
              ]
              | inr (q, now) ↦ absurd (S.fresh q k now (S.child p k (links p k (d.0, d.1, before))))
            ]
          ];
      asking = λ k a b more. let same = S.asked k a b in under-on k a b (R.asking k a b (omega (arith, same, more)));
      marks = λ k n (c, held, marked).
          let d = S.back k c n held marked in
          let x = R.marks k n (d.0, d.1, d.2) in
          (x.0, S.job (own k) n ∙ x.1, elim x.2 [ inl root ↦ inl root | inr under ↦ inr (under-on k (own k) n under) ]);
      roots = λ a n x open_. elim (R.roots a n x (sym (S.job a n) ∙ open_)) [
        | inl loose ↦ absurd loose
        | inr (at, marked) ↦ inr (at, marked-on x.root n marked)
      ];
      alone = λ a n x open_. R.alone a n x (sym (S.job a n) ∙ open_);
      counted = λ a b. let tokens = S.tokens a b in let count = S.count a b in let is = R.counted a b in omega (arith, tokens, count, is);
      single = (λ k a b. let same = S.asked k a b in let most = R.single.0 k a b in omega (arith, same, most), λ k a b care. absurd care);
      noticed = λ k more.
          let same = S.notices k in
          let is = R.noticed k (omega (arith, same, more)) in
          (stays-gone k is.0 is.1, S.made_more k is.1);
      placed = let same = S.misplaced in let is = R.placed in omega (arith, same, is);
    }
      where
        dead : (k : KeyName) → Gone own G M V k → M k → Alive own G' M' U k → ⊥
        dead k (none, zero') made alive = elim (S.alive k alive) [
          | inl (inl (c, held)) ↦ let no' : None ≡ Some c = sym none ∙ held in absurd cc
          | inl (inr more) ↦ omega (arith, more, zero')
          | inr (q, now) ↦ S.fresh q k now made
        ]

        stays-gone : (k : KeyName) → Gone own G M V k → M k → Gone own G' M' U k
        stays-gone k gone made = (
          elim (cases_Option (U.hold k)) [
            | inl (c, held) ↦ absurd (dead k gone made (inl (c, held)))
            | inr none ↦ none
          ],
          elim (cases_eq (U.gifts k) 0) [
            | inl none ↦ none
            | inr some ↦ absurd (dead k gone made (inr (omega (arith, some))))
          ],
        )
