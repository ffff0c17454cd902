-- For a call that revokes the children of a key alone: a job that keeps its root sweeps the rest, and its root loses its mark and its links.
use Rattle.std.proofs.Common.{◌≡◌, ◌⊎◌, ℕ, zero, suc, ◌≤◌, ◌<◌, true, [], Some, None, sym, ap, ◌∙◌, subst, inl, inr, arith}
use Rattle.std.proofs.lemmas.Bool.{cases_Bool, cases_eq}
use Rattle.std.proofs.lemmas.Option.{same_Some}
use Rattle.sem_key.specs.KeyName.{KeyName, key_eq}
use Rattle.sem_key.specs.Capability.{Capability}
use Rattle.sem_key.specs.Region.{has_key}
use Rattle.sem_key.proofs.KeyTests.{key_eq-true, key_eq-from}
use Rattle.sem_msg.specs.Rows.{JobRow}
use Rattle.sem_revoke.specs.Views.{View, Obligations, no_obligations, closing_job, Alive, Gone, Marked, Under, Caught, IsFit, Revokes}
use Rattle.sem_revoke.proofs.Keeping.{cases_Option, not-gone}

-- a root that is kept
abbrev pub cleared : Capability → Capability
cleared c = record c { children = []; mark = None }

module _ (owner : KeyName → ℕ) (G : KeyName → KeyName → Type 0) (one : (p q k : KeyName) → G p k → G q k → p ≡ q) (M : KeyName → Type 0) where
  -- The root of a job is nearer to a root of all than what else the job marks, so the job does not mark its parent.
  module _ (rank : KeyName → ℕ) (older : (p k : KeyName) → G p k → rank p < rank k) (h : Obligations) (V : View) (R : Revokes owner G M h V) (i n : ℕ) (x : JobRow)
      (open_ : V.job i n ≡ Some x) where
    -- the root of the job that marks what is here is that of x
    root-or-under : (k : KeyName) → owner k ≡ i → Marked owner G M V k n →
        (rank x.root ≡ rank k) ⊎ ((p : KeyName) × G p k × (owner p ≡ i) × Marked owner G M V p n)
    root-or-under k at marked =
        let y = R.marks k n marked in
        let is_x : y.0 ≡ x = same_Some y.0 x (sym y.1 ∙ (ap (λ a. V.job a n) at ∙ open_)) in
        elim y.2 [
          | inl root ↦ inl (ap rank (ap (λ (z : JobRow). z.root) (sym is_x) ∙ root))
          | inr (p, granted, at', marked') ↦ inr (p, granted, at' ∙ at, marked')
        ]

    no-older : (m : ℕ) (k : KeyName) → rank k ≤ m → owner k ≡ i → Marked owner G M V k n → rank k < rank x.root → ⊥
    no-older zero k few at marked less = elim (root-or-under k at marked) [
      | inl same ↦ omega (arith, less, same)
      | inr (p, granted, at', marked') ↦ let below = older p k granted in omega (arith, few, below)
    ]
    no-older (suc m) k few at marked less = elim (root-or-under k at marked) [
      | inl same ↦ omega (arith, less, same)
      | inr (p, granted, at', marked') ↦ let below = older p k granted in no-older m p (omega (arith, few, below)) at' marked' (omega (arith, less, below))
    ]

    pub oldest-root : Under owner G M V x.root i n → ⊥
    oldest-root (p, granted, at, marked) = no-older (rank p) p (omega arith) at marked (older p x.root granted)

  pub record Restores (i n : ℕ) (root : KeyName) (V U : View) : Type 0 where
    pub here : owner root ≡ i
    pub root_marked : Marked owner G M V root n
    -- its parent is not marked by the job, since what a job marks is no older than its root
    pub oldest : Under owner G M V root i n → ⊥
    pub restored : (c : Capability) → V.hold root ≡ Some c → U.hold root ≡ Some (cleared c)
    pub swept : (k : KeyName) (c : Capability) → (k ≡ root → ⊥) → owner k ≡ i → V.hold k ≡ Some c → c.mark ≡ Some n → U.hold k ≡ None
    pub stays : (k : KeyName) (c : Capability) → V.hold k ≡ Some c → ((owner k ≡ i) × (c.mark ≡ Some n) → ⊥) → U.hold k ≡ Some c
    pub back : (k : KeyName) (c : Capability) → (k ≡ root → ⊥) → U.hold k ≡ Some c → (V.hold k ≡ Some c) × ((owner k ≡ i) × (c.mark ≡ Some n) → ⊥)
    pub fewer : (k : KeyName) → U.gifts k ≤ V.gifts k
    pub none : (k : KeyName) → V.asked k i n ≡ 0
    pub asked_on : (k : KeyName) (a b : ℕ) → U.asked k a b ≡ V.asked k a b
    pub jobs_on : (a m : ℕ) → U.job a m ≡ V.job a m
    pub counts : (a b : ℕ) → U.tokens a b ≡ U.count a b
    pub notices : (k : KeyName) → U.notices k ≤ V.notices k
    pub misplaced : U.misplaced ≡ 0

  module _ (i n : ℕ) (root : KeyName) (V U : View) (S : Restores i n root V U) where
    is-root : (k : KeyName) → (k ≡ root) ⊎ (k ≡ root → ⊥)
    is-root k = elim (cases_Bool (key_eq k root)) [
      | inl same ↦ inl (key_eq-true k root same)
      | inr differ ↦ inr (λ same. (let yes' = key_eq-from k root same in absurd cc))
    ]

    root-cap : (c : Capability) → U.hold root ≡ Some c → (d : Capability) × (V.hold root ≡ Some d) × (cleared d ≡ c)
    root-cap c held = let d = S.root_marked in (d.0, d.1, same_Some (cleared d.0) c (sym (S.restored d.0 d.1) ∙ held))

    -- what is held was held
    held-before : (k : KeyName) (c : Capability) → U.hold k ≡ Some c → (d : Capability) × (V.hold k ≡ Some d)
    held-before k c held = elim (is-root k) [
      | inl same ↦ (S.root_marked.0, subst (λ z. V.hold z ≡ Some S.root_marked.0) (sym same) S.root_marked.1)
      | inr other ↦ (c, (S.back k c other held).0)
    ]

    alive-before : (k : KeyName) → Alive owner G M U k → Alive owner G M V k
    alive-before k (inl (c, held)) = inl (held-before k c held)
    alive-before k (inr more) = let few = S.fewer k in inr (omega (arith, few, more))

    gone-on : (k : KeyName) → Gone owner G M V k → Gone owner G M U k
    gone-on k (none', zero') = (
      elim (cases_Option (U.hold k)) [
        | inl (c, held) ↦ elim (is-root k) [
          | inl same ↦ let no' : None ≡ Some S.root_marked.0 = sym none' ∙ subst (λ z. V.hold z ≡ Some S.root_marked.0) (sym same) S.root_marked.1 in absurd cc
          | inr other ↦ let no' : None ≡ Some c = sym none' ∙ (S.back k c other held).0 in absurd cc
        ]
        | inr absent ↦ absent
      ],
      let few = S.fewer k in omega (arith, few, zero'),
    )

    -- what leads to a child did so before
    leads-before : (q k : KeyName) (e : Capability) → U.hold q ≡ Some e → has_key e.children k ≡ true → V.hold q ≡ Some e
    leads-before q k e held child = elim (is-root q) [
      | inl same ↦
          let d = root-cap e (subst (λ z. U.hold z ≡ Some e) same held) in
          let none : has_key [] k ≡ true = ap (λ (x : Capability). has_key x.children k) d.2 ∙ child in
          absurd cc
      | inr other ↦ (S.back q e other held).0
    ]

    no-gift : (k : KeyName) (c : Capability) → IsFit owner G M V → U.hold k ≡ Some c → U.gifts k ≡ 0
    no-gift k c fit held = let d = held-before k c held in let zero' = fit.apart k d.0 d.1 in let few = S.fewer k in omega (arith, zero', few)

    pub fit-restored : IsFit owner G M V → IsFit owner G M U
    fit-restored fit = record {
      links = λ q k (e, held, child). fit.links q k (e, leads-before q k e held child, child);
      apart = λ k c held. no-gift k c fit held;
      few = λ k. let most = fit.few k in let few = S.fewer k in omega (arith, most, few);
      near = λ p k granted same. let zero' = fit.near p k granted same in let few = S.fewer k in omega (arith, zero', few);
      made = λ k alive. fit.made k (alive-before k alive);
    }

    -- what is marked in U is marked by another job, and was
    marked-back : (k : KeyName) (c : Capability) (m : ℕ) → U.hold k ≡ Some c → c.mark ≡ Some m → (V.hold k ≡ Some c) × ((owner k ≡ i) × (m ≡ n) → ⊥)
    marked-back k c m held marked = elim (is-root k) [
      | inl same ↦
          let d = root-cap c (subst (λ z. U.hold z ≡ Some c) same held) in
          let no' : None ≡ Some m = ap (λ (x : Capability). x.mark) d.2 ∙ marked in
          absurd cc
      | inr other ↦ let b = S.back k c other held in (b.0, λ (at, job'). b.1 (at, marked ∙ ap Some job'))
    ]

    marked-on : (k : KeyName) (m : ℕ) → Marked owner G M V k m → ((owner k ≡ i) × (m ≡ n) → ⊥) → Marked owner G M U k m
    marked-on k m (c, held, marked) other = (c, S.stays k c held (λ (at, by_n). other (at, same_Some m n (sym marked ∙ by_n))), marked)

    under-on : (k : KeyName) (a b : ℕ) → Under owner G M V k a b → ((a ≡ i) × (b ≡ n) → ⊥) → Under owner G M U k a b
    under-on k a b (p, granted, at, marked) other = (p, granted, at, marked-on p b marked (λ (here, job'). other (sym at ∙ here, job')))

    -- a child of what the job marked is gone
    child-gone : (p k : KeyName) (d : Capability) → IsFit owner G M V → Revokes owner G M no_obligations V → owner p ≡ i → V.hold p ≡ Some d → d.mark ≡ Some n →
        has_key d.children k ≡ true → Alive owner G M U k → ⊥
    child-gone p k d fit R at held marked child alive = from (R.caught p k d n held marked child (alive-before k alive))
      where
        from : Caught owner G M no_obligations V (owner p) n k → ⊥
        from (inl (same, (c, held', marked'))) = elim (is-root k) [
          | inl root' ↦ S.oldest (p, subst (G p) root' (fit.links p k (d, held, child)), at, (d, held, marked))
          | inr other ↦ not-gone owner G one M U k (
            S.swept k c other (same ∙ at) held' marked',
            let zero' = fit.apart k c held' in let few = S.fewer k in
                omega (arith, zero', few),
          ) alive
        ]
        from (inr (inl more)) = let zero' = S.none k in let same : V.asked k (owner p) n ≡ V.asked k i n = ap (λ a. V.asked k a n) at in
            omega (arith, more, zero', same)
        from (inr (inr care)) = care

    pub keep_restored : IsFit owner G M V → Revokes owner G M no_obligations V → Revokes owner G M (closing_job i n) U
    keep_restored fit R = record {
      linked = λ p k granted alive.
          let d = R.linked p k granted (alive-before k alive) in
          (d.0, S.stays p d.0 d.1 (λ (at, by_n). child-gone p k d.0 fit R at d.1 by_n d.2 alive), d.2);
      caught = λ p k e m held marked child alive.
          let b = marked-back p e m held marked in
          old p k m b.1 (R.caught p k e m b.0 marked child (alive-before k alive));
      asking = λ k a b more.
          let same = S.asked_on k a b in
          let before : 1 ≤ V.asked k a b = omega (arith, more, same) in
          under-on k a b (R.asking k a b before) (λ (at, job'). let zero' = S.none k in let here : V.asked k a b ≡ V.asked k i n = ap (λ c. V.asked k c b) at
          ∙ ap (V.asked k i) job' in omega (arith, before, zero', here));
      marks = λ k m (c, held, marked).
          let b = marked-back k c m held marked in
          let x = R.marks k m (c, b.0, marked) in
          (x.0, S.jobs_on (owner k) m ∙ x.1, elim x.2 [ inl is ↦ inl is | inr under ↦ inr (under-on k (owner k) m under b.1) ]);
      roots = λ a m x open_. elim (R.roots a m x (sym (S.jobs_on a m) ∙ open_)) [
        | inl no' ↦ absurd no'
        | inr (at, marked) ↦ elim (cases_eq m n) [
          | inl same ↦ elim (cases_eq a i) [
            | inl here ↦ inl (here, same)
            | inr away ↦ inr (at, marked-on x.root m marked (λ (here, job'). away (sym at ∙ here)))
          ]
          | inr other ↦ inr (at, marked-on x.root m marked (λ (here, job'). other job'))
        ]
      ];
      alone = λ a m x open_. R.alone a m x (sym (S.jobs_on a m) ∙ open_);
      counted = λ a b. let few = S.counts a b in omega (arith, few);
      single = (λ k a b. let same = S.asked_on k a b in let most = R.single.0 k a b in omega (arith, same, most), λ k a b care. absurd care);
      noticed = λ k more. let less = S.notices k in let is = R.noticed k (omega (arith, more, less)) in (gone-on k is.0, is.1);
      placed = S.misplaced;
    }
      where
        old : (p k : KeyName) (m : ℕ) → ((owner p ≡ i) × (m ≡ n) → ⊥) → Caught owner G M no_obligations V (owner p) m k →
            Caught owner G M (closing_job i n) U (owner p) m k
        old p k m other (inl (at, marked)) = inl (at, marked-on k m marked (λ (here, job'). other (sym at ∙ here, job')))
        old p k m other (inr (inl more)) = let same = S.asked_on k (owner p) m in inr (inl (omega (arith, more, same)))
        old p k m other (inr (inr care)) = absurd care
