-- Small steps of a revoke keep what is so of a view, and change what the row owes. Here a view is any functions; what the changes of a side do to them comes
-- later.
use Rattle.std.proofs.Common.{◌≡◌, ◌⊎◌, ℕ, ◌+◌, ◌≤◌, Bool, true, false, Option, Some, None, refl, sym, ap, ◌∙◌, subst, inl, inr, arith}
use Rattle.std.proofs.lemmas.Bool.{cases_Bool, cases_eq}
use Rattle.std.proofs.lemmas.Option.{same_Some}
use Rattle.sem_key.specs.KeyName.{KeyName}
use Rattle.sem_key.specs.Capability.{Capability}
use Rattle.sem_key.specs.CapList.{with_mark}
use Rattle.sem_msg.specs.Rows.{JobRow}
use Rattle.sem_key.specs.Region.{has_key}
use Rattle.sem_revoke.specs.Views.{View, Obligations, no_obligations, closing_job, IsAlone, Alive, Gone, Marked, Under, Caught, IsFit, Revokes, IsSingle}

-- an option is there or not
pub cases_Option : {X : Type 0} (o : Option X) → ((x : X) × (o ≡ Some x)) ⊎ (o ≡ None)
cases_Option None = inr refl
cases_Option (Some x) = inl (x, refl)

module _ (owner : KeyName → ℕ) (G : KeyName → KeyName → Type 0) (one : (p q k : KeyName) → G p k → G q k → p ≡ q) (M : KeyName → Type 0) where
  -- alive and gone exclude one another
  pub not-gone : (V : View) (k : KeyName) → Gone owner G M V k → Alive owner G M V k → ⊥
  not-gone V k gone (inl (c, held)) = let none : None ≡ Some c = sym gone.0 ∙ held in absurd cc
  not-gone V k gone (inr more) = let none = gone.1 in omega (arith, none, more)

  -- the mark above a key is one
  pub same-mark : (V : View) (k : KeyName) (a b c d : ℕ) → Under owner G M V k a b → Under owner G M V k c d → (a ≡ c) × (b ≡ d)
  same-mark V k a b c d (p, granted, at, (e, held, marked)) (q, granted', at', (e', held', marked')) =
      let same : p ≡ q = one p q k granted granted' in
      let cap : e ≡ e' = same_Some e e' (sym held ∙ (ap V.hold same ∙ held')) in
      (sym at ∙ (ap owner same ∙ at'), same_Some b d (sym marked ∙ (ap (λ (x : Capability). x.mark) cap ∙ marked')))

  -- a change after which the same is held, but for children that are gone
  pub record HoldsOn (V U : View) : Type 0 where
    pub on : (p : KeyName) (d : Capability) → V.hold p ≡ Some d → (e : Capability) × (U.hold p ≡ Some e) × (e.mark ≡ d.mark)
        × ((k : KeyName) → Alive owner G M U k → has_key d.children k ≡ true → has_key e.children k ≡ true)
    pub back : (p : KeyName) (e : Capability) → U.hold p ≡ Some e → (d : Capability) × (V.hold p ≡ Some d) × (d.mark ≡ e.mark)
        × ((k : KeyName) → has_key e.children k ≡ true → has_key d.children k ≡ true)
    pub fewer : (k : KeyName) → U.gifts k ≤ V.gifts k

  -- the same is held
  pub holds-same : (V U : View) → ((k : KeyName) → U.hold k ≡ V.hold k) → ((k : KeyName) → U.gifts k ≤ V.gifts k) → HoldsOn V U
  holds-same V U same few = record {
    on = λ p d held. (d, same p ∙ held, refl, λ k alive child. child);
    back = λ p e held. (e, sym (same p) ∙ held, refl, λ k child. child);
    fewer = few;
  }

  module _ (V U : View) (H : HoldsOn V U) where
    pub marked-on : (k : KeyName) (n : ℕ) → Marked owner G M V k n → Marked owner G M U k n
    marked-on k n (c, held, marked) = let e = H.on k c held in (e.0, e.1, e.2 ∙ marked)

    pub marked-back : (k : KeyName) (n : ℕ) → Marked owner G M U k n → Marked owner G M V k n
    marked-back k n (c, held, marked) = let d = H.back k c held in (d.0, d.1, d.2 ∙ marked)

    pub under-on : (k : KeyName) (a b : ℕ) → Under owner G M V k a b → Under owner G M U k a b
    under-on k a b (p, granted, at, marked) = (p, granted, at, marked-on p b marked)

    pub alive-back : (k : KeyName) → Alive owner G M U k → Alive owner G M V k
    alive-back k (inl (c, held)) = let d = H.back k c held in inl (d.0, d.1)
    alive-back k (inr more) = let few = H.fewer k in inr (omega (arith, few, more))

    pub gone-on : (k : KeyName) → Gone owner G M V k → Gone owner G M U k
    gone-on k (none, zero') = (
      elim (cases_Option (U.hold k)) [
        | inl (c, held) ↦ (let d = H.back k c held in let no' : None ≡ Some d.0 = sym none ∙ d.1 in absurd cc)
        | inr no' ↦ no'
      ],
      let few = H.fewer k in omega (arith, few, zero'),
    )

    pub fit-on : IsFit owner G M V → IsFit owner G M U
    fit-on fit = record {
      links = λ p k (e, held, child). let d = H.back p e held in fit.links p k (d.0, d.1, d.3 k child);
      apart = λ k c held. let d = H.back k c held in let zero' = fit.apart k d.0 d.1 in let few = H.fewer k in omega (arith, zero', few);
      few = λ k. let most = fit.few k in let few = H.fewer k in omega (arith, most, few);
      near = λ p k granted same. let zero' = fit.near p k granted same in let few = H.fewer k in omega (arith, zero', few);
      made = λ k alive. fit.made k (alive-back k alive);
    }

    -- A step that changes tokens, jobs and notices.
    pub keep : (h h' : Obligations) → IsFit owner G M V → Revokes owner G M h V
        → ((k : KeyName) (a b : ℕ) → Alive owner G M U k → Under owner G M V k a b → (1 ≤ V.asked k a b) ⊎ h.cares a b k → Caught owner G M h' U a b k)
        → ((k : KeyName) (a b : ℕ) → 1 ≤ U.asked k a b → (1 ≤ V.asked k a b) ⊎ Under owner G M V k a b)
        → ((k : KeyName) (n : ℕ) (x : JobRow) → Marked owner G M V k n → V.job (owner k) n ≡ Some x → (y : JobRow) × (U.job (owner k) n ≡ Some y)
        × (y.root ≡ x.root))
        → ((a n : ℕ) (y : JobRow) → U.job a n ≡ Some y → (x : JobRow) × (V.job a n ≡ Some x) × (x.root ≡ y.root) × (IsAlone x → IsAlone y)
        × (h.loose a n → h'.loose a n))
        → ((a b : ℕ) → U.tokens a b + h'.owed a b ≡ U.count a b)
        → IsSingle owner G M h' U
        → ((k : KeyName) → 1 ≤ U.notices k → (1 ≤ V.notices k) ⊎ (Gone owner G M U k × M k))
        → U.misplaced ≡ 0
        → Revokes owner G M h' U
    keep h h' fit R caught' asking' marks' roots' counted' single' noticed' placed' = record {
      linked = λ p k granted alive. let d = R.linked p k granted (alive-back k alive) in let e = H.on p d.0 d.1 in (e.0, e.1, e.3 k alive d.2);
      caught = λ p k e n held marked child alive.
          let d = H.back p e held in
          let before = R.caught p k d.0 n d.1 (d.2 ∙ marked) (d.3 k child) (alive-back k alive) in
          caught-on p k n alive (p, fit.links p k (d.0, d.1, d.3 k child), refl, (d.0, d.1, d.2 ∙ marked)) before;
      asking = λ k a b more. under-on k a b (elim (asking' k a b more) [ inl before ↦ R.asking k a b before | inr under ↦ under ]);
      marks = λ k n marked.
          let before = marked-back k n marked in
          let x = R.marks k n before in
          let y = marks' k n x.0 before x.1 in
          (y.0, y.1, elim x.2 [ inl root ↦ inl (y.2 ∙ root) | inr under ↦ inr (under-on k (owner k) n under) ]);
      roots = λ a n y open_.
          let x = roots' a n y open_ in
          elim (R.roots a n x.0 x.1) [
            | inl loose ↦ inl (x.4 loose)
            | inr (at, marked) ↦ inr (ap owner (sym x.2) ∙ at, subst (λ k. Marked owner G M U k n) x.2 (marked-on x.0.root n marked))
          ];
      alone = λ a n y open_. let x = roots' a n y open_ in x.3 (R.alone a n x.0 x.1);
      counted = counted';
      single = single';
      noticed = λ k more. elim (noticed' k more) [ inl before ↦ (let is = R.noticed k before in (gone-on k is.0, is.1)) | inr new ↦ new ];
      placed = placed';
    }
      where
        caught-on : (p k : KeyName) (n : ℕ) → Alive owner G M U k → Under owner G M V k (owner p) n → Caught owner G M h V (owner p) n k →
            Caught owner G M h' U (owner p) n k
        caught-on p k n alive under (inl (at, marked)) = inl (at, marked-on k n marked)
        caught-on p k n alive under (inr before) = caught' k (owner p) n alive under before

  -- A job begins: it marks its region, and answers for the children of that.
  pub record Begins (h : Obligations) (i j : ℕ) (root : KeyName) (region : KeyName → Bool) (child : KeyName → Bool) (V U : View) : Type 0 where
    -- what is in the region is held here and not marked
    pub inside : (k : KeyName) → region k ≡ true → (c : Capability) × (V.hold k ≡ Some c) × (c.mark ≡ None) × (owner k ≡ i)
    pub root_in : region root ≡ true
    pub from_root : (k : KeyName) → region k ≡ true → (k ≡ root) ⊎ ((p : KeyName) × G p k × (region p ≡ true))
    pub children : (p k : KeyName) (d : Capability) → region p ≡ true → V.hold p ≡ Some d → has_key d.children k ≡ true → child k ≡ true
    -- it is marked, and nothing else
    pub marked_in : (k : KeyName) (c : Capability) → region k ≡ true → V.hold k ≡ Some c → U.hold k ≡ Some (with_mark j c)
    pub same_out : (k : KeyName) → region k ≡ false → U.hold k ≡ V.hold k
    pub fewer : (k : KeyName) → U.gifts k ≤ V.gifts k
    -- the job
    pub opened : (x : JobRow) × (U.job i j ≡ Some x) × (x.root ≡ root)
    pub jobs_on : (a n : ℕ) (x : JobRow) → V.job a n ≡ Some x → U.job a n ≡ Some x
    pub jobs_back : (a n : ℕ) (x : JobRow) → U.job a n ≡ Some x → (V.job a n ≡ Some x) ⊎ ((a ≡ i) × (n ≡ j) × (x.root ≡ root) × IsAlone x)
    -- its tokens
    pub asked_on : (k : KeyName) (a b : ℕ) → V.asked k a b ≤ U.asked k a b
    pub cared : (k : KeyName) (a b : ℕ) → h.cares a b k → 1 ≤ U.asked k a b
    pub asked_back : (k : KeyName) (a b : ℕ) → 1 ≤ U.asked k a b → (1 ≤ V.asked k a b) ⊎ Under owner G M V k a b
    pub counts : (a b : ℕ) → U.tokens a b ≡ U.count a b
    pub notices : (k : KeyName) → U.notices k ≤ V.notices k
    pub misplaced : U.misplaced ≡ 0
    pub tight : (a b : ℕ) → h.loose a b → ⊥
    pub once : (k : KeyName) (a b : ℕ) → U.asked k a b ≤ 1

  module _ (h : Obligations) (i j : ℕ) (root : KeyName) (region : KeyName → Bool) (child : KeyName → Bool) (V U : View) (B : Begins h i j root region child V U) where
    opened-on : (p : KeyName) (d : Capability) → V.hold p ≡ Some d → (e : Capability) × (U.hold p ≡ Some e) × (e.children ≡ d.children)
        × ((n : ℕ) → d.mark ≡ Some n → e.mark ≡ Some n)
    opened-on p d held = elim (cases_Bool (region p)) [
      | inl here ↦
          let c = B.inside p here in
          let same : c.0 ≡ d = same_Some c.0 d (sym c.1 ∙ held) in (
            with_mark j d,
            B.marked_in p d here held,
            refl,
            λ n marked. let none : None ≡ Some n = sym c.2 ∙ (ap (λ (x : Capability). x.mark) same ∙ marked) in
                absurd cc,
          )
      | inr out ↦ (d, B.same_out p out ∙ held, refl, λ n marked. marked)
    ]

    opened-back : (p : KeyName) (e : Capability) → U.hold p ≡ Some e → (d : Capability) × (V.hold p ≡ Some d) × (e.children ≡ d.children)
        × (((region p ≡ true) × (e.mark ≡ Some j)) ⊎ ((region p ≡ false) × (e.mark ≡ d.mark)))
    opened-back p e held = elim (cases_Bool (region p)) [
      | inl here ↦
          let c = B.inside p here in
          let same : with_mark j c.0 ≡ e = same_Some (with_mark j c.0) e (sym (B.marked_in p c.0 here c.1) ∙ held) in
          (c.0, c.1, ap (λ (x : Capability). x.children) (sym same), inl (here, ap (λ (x : Capability). x.mark) (sym same)))
      | inr out ↦ (e, sym (B.same_out p out) ∙ held, refl, inr (out, refl))
    ]

    opened-marked : (k : KeyName) (n : ℕ) → Marked owner G M V k n → Marked owner G M U k n
    opened-marked k n (c, held, marked) = let e = opened-on k c held in (e.0, e.1, e.3 n marked)

    opened-under : (k : KeyName) (a b : ℕ) → Under owner G M V k a b → Under owner G M U k a b
    opened-under k a b (p, granted, at, marked) = (p, granted, at, opened-marked p b marked)

    opened-alive : (k : KeyName) → Alive owner G M U k → Alive owner G M V k
    opened-alive k (inl (c, held)) = let d = opened-back k c held in inl (d.0, d.1)
    opened-alive k (inr more) = let few = B.fewer k in inr (omega (arith, few, more))

    opened-gone : (k : KeyName) → Gone owner G M V k → Gone owner G M U k
    opened-gone k (none, zero') = (
      elim (cases_Option (U.hold k)) [
        | inl (c, held) ↦ (let d = opened-back k c held in let no' : None ≡ Some d.0 = sym none ∙ d.1 in absurd cc)
        | inr no' ↦ no'
      ],
      let few = B.fewer k in omega (arith, few, zero'),
    )

    region-marked : (k : KeyName) → region k ≡ true → Marked owner G M U k j
    region-marked k here = let c = B.inside k here in (with_mark j c.0, B.marked_in k c.0 here c.1, refl)

    pub fit-begun : IsFit owner G M V → IsFit owner G M U
    fit-begun fit = record {
      links = λ p k (e, held, among). let d = opened-back p e held in fit.links p k (d.0, d.1, ap (λ ks. has_key ks k) (sym d.2) ∙ among);
      apart = λ k c held. let d = opened-back k c held in let zero' = fit.apart k d.0 d.1 in let few = B.fewer k in omega (arith, zero', few);
      few = λ k. let most = fit.few k in let few = B.fewer k in omega (arith, most, few);
      near = λ p k granted same. let zero' = fit.near p k granted same in let few = B.fewer k in omega (arith, zero', few);
      made = λ k alive. fit.made k (opened-alive k alive);
    }

    pub keep_begun : (h' : Obligations) → ((k : KeyName) → child k ≡ true → h'.cares i j k) → ((a b : ℕ) → h'.owed a b ≡ 0) →
        ((k : KeyName) (a b : ℕ) → h'.cares a b k → U.asked k a b ≡ 0) → IsFit owner G M V → Revokes owner G M h V → Revokes owner G M h' U
    keep_begun h' cares owes unasked fit R = record {
      linked = λ p k granted alive. let d = R.linked p k granted (opened-alive k alive) in let e = opened-on p d.0 d.1 in
          (e.0, e.1, ap (λ ks. has_key ks k) e.2 ∙ d.2);
      caught = λ p k e n held marked among alive.
          let d = opened-back p e held in
          let before : has_key d.0.children k ≡ true = ap (λ ks. has_key ks k) (sym d.2) ∙ among in
          elim d.3 [
            | inl (here, by_j) ↦
                let at : owner p ≡ i = (B.inside p here).3 in
                let job : j ≡ n = same_Some j n (sym by_j ∙ marked) in
                inr (inr (subst (λ a. h'.cares a n k) (sym at) (subst (λ b. h'.cares i b k) job (cares k (B.children p k d.0 here d.1 before)))))
            | inr (out, same) ↦ old p k n (R.caught p k d.0 n d.1 (sym same ∙ marked) before (opened-alive k alive))
          ];
      asking = λ k a b more. opened-under k a b (elim (B.asked_back k a b more) [ inl before ↦ R.asking k a b before | inr under ↦ under ]);
      marks = λ k n (c, held, marked).
          let d = opened-back k c held in
          elim d.3 [
            | inl (here, by_j) ↦
                let at : owner k ≡ i = (B.inside k here).3 in
                let job : j ≡ n = same_Some j n (sym by_j ∙ marked) in
                let x = B.opened in (
                  x.0,
                  ap (λ a. U.job a n) at ∙ (ap (U.job i) (sym job) ∙ x.1),
                  elim (B.from_root k here) [
                    | inl is_root ↦ inl (x.2 ∙ sym is_root)
                    | inr (p, granted, inside) ↦ inr (p, granted, (B.inside p inside).3 ∙ sym at, subst (Marked owner G M U p) job (region-marked p inside))
                  ],
                )
            | inr (out, same) ↦
                let x = R.marks k n (d.0, d.1, sym same ∙ marked) in
                (x.0, B.jobs_on (owner k) n x.0 x.1, elim x.2 [ inl is_root ↦ inl is_root | inr under ↦ inr (opened-under k (owner k) n under) ])
          ];
      roots = λ a n x open_. elim (B.jobs_back a n x open_) [
        | inl before ↦ elim (R.roots a n x before) [ inl loose ↦ absurd (B.tight a n loose) | inr (at, marked) ↦ inr (at, opened-marked x.root n marked) ]
        | inr (at, job, is_root, alone) ↦ inr (
          ap owner is_root ∙ ((B.inside root B.root_in).3 ∙ sym at),
          subst (λ k. Marked owner G M U k n) (sym is_root) (subst (Marked owner G M U root) (sym job) (region-marked root B.root_in)),
        )
      ];
      alone = λ a n x open_. elim (B.jobs_back a n x open_) [ inl before ↦ R.alone a n x before | inr (at, job, is_root, alone) ↦ alone ];
      counted = λ a b. let few = B.counts a b in let none = owes a b in omega (arith, few, none);
      single = (B.once, unasked);
      noticed = λ k more. let less = B.notices k in let is = R.noticed k (omega (arith, more, less)) in (opened-gone k is.0, is.1);
      placed = B.misplaced;
    }
      where
        old : (p k : KeyName) (n : ℕ) → Caught owner G M h V (owner p) n k → Caught owner G M h' U (owner p) n k
        old p k n (inl (at, marked)) = inl (at, opened-marked k n marked)
        old p k n (inr (inl more)) = let on = B.asked_on k (owner p) n in inr (inl (omega (arith, more, on)))
        old p k n (inr (inr care)) = inr (inl (B.cared k (owner p) n care))

  -- A job without a token out sweeps what it marked.
  pub record Sweeps (i n : ℕ) (V U : View) : Type 0 where
    pub swept : (k : KeyName) (c : Capability) → owner k ≡ i → V.hold k ≡ Some c → c.mark ≡ Some n → U.hold k ≡ None
    pub stays : (k : KeyName) (c : Capability) → V.hold k ≡ Some c → ((owner k ≡ i) × (c.mark ≡ Some n) → ⊥) → U.hold k ≡ Some c
    pub back : (k : KeyName) (c : Capability) → U.hold k ≡ Some c → (V.hold k ≡ Some c) × ((owner k ≡ i) × (c.mark ≡ Some n) → ⊥)
    pub fewer : (k : KeyName) → U.gifts k ≤ V.gifts k
    pub none : (k : KeyName) → V.asked k i n ≡ 0
    pub asked_on : (k : KeyName) (a b : ℕ) → U.asked k a b ≡ V.asked k a b
    pub jobs_on : (a m : ℕ) → U.job a m ≡ V.job a m
    pub counts : (a b : ℕ) → U.tokens a b ≡ U.count a b
    pub notices : (k : KeyName) → U.notices k ≤ V.notices k
    pub misplaced : U.misplaced ≡ 0

  module _ (i n : ℕ) (V U : View) (S : Sweeps i n V U) where
    swept-alive : (k : KeyName) → Alive owner G M U k → Alive owner G M V k
    swept-alive k (inl (c, held)) = inl (c, (S.back k c held).0)
    swept-alive k (inr more) = let few = S.fewer k in inr (omega (arith, few, more))

    pub swept-gone : (k : KeyName) → Gone owner G M V k → Gone owner G M U k
    swept-gone k (none, zero') = (
      elim (cases_Option (U.hold k)) [
        | inl (c, held) ↦ (let no' : None ≡ Some c = sym none ∙ (S.back k c held).0 in absurd cc)
        | inr no' ↦ no'
      ],
      let few = S.fewer k in omega (arith, few, zero'),
    )

    -- what another job marks stays marked
    swept-marked : (k : KeyName) (m : ℕ) → Marked owner G M V k m → ((owner k ≡ i) × (m ≡ n) → ⊥) → Marked owner G M U k m
    swept-marked k m (c, held, marked) other = (c, S.stays k c held (λ (at, by_n). other (at, same_Some m n (sym marked ∙ by_n))), marked)

    swept-under : (k : KeyName) (a b : ℕ) → Under owner G M V k a b → ((a ≡ i) × (b ≡ n) → ⊥) → Under owner G M U k a b
    swept-under k a b (p, granted, at, marked) other = (p, granted, at, swept-marked p b marked (λ (here, job). other (sym at ∙ here, job)))

    pub fit-swept : IsFit owner G M V → IsFit owner G M U
    fit-swept fit = record {
      links = λ p k (e, held, among). fit.links p k (e, (S.back p e held).0, among);
      apart = λ k c held. let zero' = fit.apart k c (S.back k c held).0 in let few = S.fewer k in omega (arith, zero', few);
      few = λ k. let most = fit.few k in let few = S.fewer k in omega (arith, most, few);
      near = λ p k granted same. let zero' = fit.near p k granted same in let few = S.fewer k in omega (arith, zero', few);
      made = λ k alive. fit.made k (swept-alive k alive);
    }

    -- a child of what was swept is gone
    orphan-gone : (p k : KeyName) → IsFit owner G M V → Caught owner G M no_obligations V (owner p) n k → owner p ≡ i → Alive owner G M U k → ⊥
    orphan-gone p k fit (inl (at, (c, held, marked))) here alive =
        let gone : U.hold k ≡ None = S.swept k c (at ∙ here) held marked in
        let zero' = fit.apart k c held in
        let few = S.fewer k in
        not-gone U k (gone, omega (arith, zero', few)) alive
    orphan-gone p k fit (inr (inl more)) here alive = let zero' = S.none k in let same : V.asked k (owner p) n ≡ V.asked k i n = ap (λ a. V.asked k a n) here in
        omega (arith, more, zero', same)
    orphan-gone p k fit (inr (inr care)) here alive = care

    pub keep_swept : IsFit owner G M V → Revokes owner G M no_obligations V → Revokes owner G M (closing_job i n) U
    keep_swept fit R = record {
      linked = λ p k granted alive.
          let d = R.linked p k granted (swept-alive k alive) in
          (d.0, S.stays p d.0 d.1 (λ (at, by_n). orphan-gone p k fit (R.caught p k d.0 n d.1 by_n d.2 (swept-alive k alive)) at alive), d.2);
      caught = λ p k e m held marked among alive.
          let b = S.back p e held in
          old p k m (λ (at, job). b.1 (at, marked ∙ ap Some job)) (R.caught p k e m b.0 marked among (swept-alive k alive));
      asking = λ k a b more.
          let same = S.asked_on k a b in
          let before : 1 ≤ V.asked k a b = omega (arith, more, same) in
          swept-under k a b (R.asking k a b before) (λ (at, job). let zero' = S.none k in let here : V.asked k a b ≡ V.asked k i n = ap (λ c. V.asked k c b) at
          ∙ ap (V.asked k i) job in omega (arith, before, zero', here));
      marks = λ k m (c, held, marked).
          let b = S.back k c held in
          let x = R.marks k m (c, b.0, marked) in (
            x.0,
            S.jobs_on (owner k) m
                ∙ x.1,
            elim x.2 [ inl is_root ↦ inl is_root | inr under ↦ inr (swept-under k (owner k) m under (λ (at, job). b.1 (at, marked ∙ ap Some job))) ],
          );
      roots = λ a m x open_. elim (R.roots a m x (sym (S.jobs_on a m) ∙ open_)) [
        | inl no' ↦ absurd no'
        | inr (at, marked) ↦ elim (cases_eq m n) [
          | inl same ↦ elim (cases_eq a i) [
            | inl here ↦ inl (here, same)
            | inr away ↦ inr (at, swept-marked x.root m marked (λ (here, job). away (sym at ∙ here)))
          ]
          | inr other ↦ inr (at, swept-marked x.root m marked (λ (here, job). other job))
        ]
      ];
      alone = λ a m x open_. R.alone a m x (sym (S.jobs_on a m) ∙ open_);
      counted = λ a b. let few = S.counts a b in omega (arith, few);
      single = (λ k a b. let same = S.asked_on k a b in let most = R.single.0 k a b in omega (arith, same, most), λ k a b care. absurd care);
      noticed = λ k more. let less = S.notices k in let is = R.noticed k (omega (arith, more, less)) in (swept-gone k is.0, is.1);
      placed = S.misplaced;
    }
      where
        old : (p k : KeyName) (m : ℕ) → ((owner p ≡ i) × (m ≡ n) → ⊥) → Caught owner G M no_obligations V (owner p) m k →
            Caught owner G M (closing_job i n) U (owner p) m k
        old p k m other (inl (at, marked)) = inl (at, swept-marked k m marked (λ (here, job). other (sym at ∙ here, job)))
        old p k m other (inr (inl more)) = let same = S.asked_on k (owner p) m in inr (inl (omega (arith, more, same)))
        old p k m other (inr (inr care)) = absurd care
