-- Taking and giving back keep the rule of the turn.
use Rattle.std.proofs.Common.{◌≡◌, ◌≢◌, ℕ, ◌+◌, ◌<◌, ◌≤◌, ◌==◌, Bool, true, false, cond, List, [], ◌∷◌, length, set, Option, Some, None, refl, sym, ap, ◌∙◌}
use Rattle.std.proofs.Common.{subst, inl, inr, ⊎_elim, arith}
use Rattle.std.specs.Prelude.{slice_index, nat_lt, All, sum_by}
use Rattle.std.specs.Option.{unwrap_or, IsSomeAnd}
use mathlib.Core.Option as maybe
use mathlib.Core.Option.{some, some-injective}
use mathlib.Core.Logic.{dite}
use native.Mathlib.Decide.{ℕ_discrete}
use prog.Atomic.{either}
use lib.ListN.{get_elem?}
use Rattle.atomic_table.specs.Table.{Step, Act, keeps, takes, gives, Valid, stepped, carried_after, Allows, rest}
use Rattle.atomic_table.proofs.Lists.{at_set, set_again}
use Rattle.sem_msg.specs.declared.entry.Entry.{Entry}
use Rattle.sem_msg.specs.Setup.{Setup}
use Rattle.sem_msg.specs.Journal.{part}
use Rattle.sem_msg.specs.Fabric.{FabricValue}
use Rattle.sem_turn.specs.declared.rule.Share.{Share}
use Rattle.sem_turn.specs.declared.rule.View.{View}
use Rattle.sem_turn.specs.Passes.{has_place, IsWhole, Follows}
use Rattle.sem_turn.specs.Rule.{Board, IsShareOf, IsFree, IsTurnHeld, IsInTurn, carries, once_below, share, view}
use Rattle.sem_turn.specs.Steps.{Sat, TakesOut, Returns, shares_in}
use Rattle.sem_turn.specs.Seats.{out_with}
use Rattle.sem_turn.proofs.Totals.{is_of_hit, shares_of, shares_of-cons, total_set, total_two, set_at}
use Rattle.sem_turn.proofs.Fitting.{fits-followed, fits-self, shares_of-in}

-- what is in the slot, where it is at home
abbrev pub Homes : Type 0
Homes = List (maybe.Option (Option FabricValue))

abbrev pub board : List ℕ → Homes → List View → Board
board ws hs vs = record { words = ws; homes = hs; views = vs }

-- what holds of each view holds on after one is set
pub all_set : (P : View → Type 0) (views : List View) (id : ℕ) (w : View) → ((j : ℕ) (v : View) → j ≢ id → get_elem? views j ≡ some v → P v) → P w
    → (j : ℕ) (v : View) → get_elem? (set views id w) j ≡ some v → P v
all_set P views id w others mine j v e =
    ⊎_elim
    (λ (x : (j ≡ id) × (w ≡ v)). subst P x.1 mine)
    (λ (x : (j ≢ id) × (get_elem? views j ≡ some v)). others j v x.0 x.1)
    (at_set views id j w v e)

-- each kernel is carried once still, where the view that is set carries the same kernels
once_set : (n : ℕ) (views : List View) (id : ℕ) (v w : View) → get_elem? views id ≡ some v → ((k : ℕ) → carries k v ≡ carries k w)
    → ((k : ℕ) → sum_by (carries k) views ≡ once_below k n) → (k : ℕ) → sum_by (carries k) (set views id w) ≡ once_below k n
once_set n views id v w at same once k =
    let t = total_set (carries k) views id v w at in
    let c = same k in
    let x : ℕ = sum_by (carries k) (set views id w) in
    let y : ℕ = sum_by (carries k) views in
    let a : ℕ = carries k v in
    let b : ℕ = carries k w in
    let t' : x + a ≡ y + b = t in
    let c' : a ≡ b = c in
    let r : x ≡ y = omega (arith, t', c') in
    r ∙ once k

module _ (T : Setup) (id : ℕ) (ps : List Share) (st : Step (Option FabricValue)) (views : List View) where
  -- what a try to take leaves, at these words and homes
  abbrev Taken : List ℕ → Homes → Type 0
  Taken ws hs =
      (w : View) × (a : Act (Option FabricValue)) × Valid hs [] a
      × IsInTurn T (stepped (board ws hs views) 0 (either (slice_index ws 0 == 0) 1 (slice_index ws 0)) id [] w a)
      × TakesOut T st (view ps None, []) (slice_index ws 0) (w, carried_after [] a)

-- a try to take keeps the rule: it takes, or finds the turn held
take_moves : (T : Setup) (id : ℕ) (ps : List Share) (st : Step (Option FabricValue)) → 0 < length ps
    → Allows (IsInTurn T) 1 id (view ps None, []) 0 (λ m. either (m == 0) 1 m) (TakesOut T st (view ps None, []))
take_moves T id ps st some_share s h len at fits =
    ⊎_elim
    (λ (free : IsFree s h.fabric).
    let f = h.fabric in
    let w = view ps (Some f) in
    let go : Taken T id ps st s.views (0 ∷ []) (some (Some f) ∷ []) = (
      w,
      takes 0 (Some f),
      refl,
      record {
        fabric = f;
        whole = h.whole;
        stands = inr (
          refl,
          refl,
          (
            id,
            w,
            set_at s.views id (view ps None) w at,
            refl,
            some_share,
            λ j v ne e. ⊎_elim
                (λ (x : (j ≡ id) × (w ≡ v)). absurd (ne x.0))
                (λ (x : (j ≢ id) × (get_elem? s.views j ≡ some v)). free.2 j v x.1)
                (at_set s.views id j w v e),
          ),
        );
        each = all_set (λ v. All (IsShareOf f) v.shares) s.views id w (λ j v _ e. h.each j v e) (h.each id (view ps None) at);
        once = once_set T.kernels s.views id (view ps None) w at (λ k. refl) h.once;
      },
      ((λ _. (f, refl, h.whole, h.each id (view ps None) at)), (λ ne. absurd (ne refl))),
    ) in
    subst (λ (x : List ℕ × Homes). Taken T id ps st s.views x.0 x.1) (λ i. (sym free.0 i, sym free.1 i)) go)
    (λ (held : IsTurnHeld s h.fabric).
    let same : IsInTurn T (board (1 ∷ []) (maybe.none ∷ []) s.views) =
    subst (λ (x : List ℕ × Homes). IsInTurn T (board x.0 x.1 s.views)) (λ i. (held.0 i, held.1 i)) h in
    let go : Taken T id ps st s.views (1 ∷ []) (maybe.none ∷ []) = (
      view ps None,
      keeps,
      tt,
      subst (λ vs. IsInTurn T (board (1 ∷ []) (maybe.none ∷ []) vs)) (sym (set_again s.views id (view ps None) at)) same,
      ((λ e. absurd (omega arith)), (λ _. refl)),
    ) in
    subst (λ (x : List ℕ × Homes). Taken T id ps st s.views x.0 x.1) (λ i. (sym held.0 i, sym held.1 i)) go)
    h.stands

-- so a seat that carries a kernel and has nothing out may try
pub take_asks : (T key : Setup) (slots id : ℕ) (me : Sat) (st : Step (Option FabricValue)) → key ≡ T → slots ≡ 1 → me.0.taken ≡ None → me.1 ≡ [] →
    0 < length me.0.shares
    → Allows (IsInTurn key) slots id me 0 (λ m. either (m == 0) 1 m) (TakesOut T st me)
take_asks T key slots id me st key_is slots_is free none some_share =
    subst (λ (m : Sat). Allows (IsInTurn key) slots id m 0 (λ m. either (m == 0) 1 m) (TakesOut T st m)) (λ i. (view me.0.shares (sym free i), sym none i))
    (subst (λ (x : Setup × ℕ). Allows (IsInTurn x.0) x.1 id (view me.0.shares None, []) 0 (λ m. either (m == 0) 1 m) (TakesOut T st (view me.0.shares None, [])))
    (λ i. (sym key_is i, sym slots_is i)) (take_moves T id me.0.shares st some_share))

-- the fabric in a list of slots
abbrev fabric_of : FabricValue → List (ℕ × Option FabricValue) → FabricValue
fabric_of d [] = d
fabric_of d (x ∷ xs) = unwrap_or x.1 d

below_two : (k n : ℕ) → once_below k n < 2
below_two k n = elim (nat_lt k n) as (λ b. cond b 1 0 < 2) [ true ↦ omega arith | false ↦ omega arith ]

module _ (T : Setup) (id : ℕ) (ps : List Share) (f g : FabricValue) (st : Step (Option FabricValue)) (views : List View) where
  -- what giving back leaves, at these words and homes
  abbrev Back : List ℕ → Homes → Type 0
  Back ws hs =
      (w : View) × (a : Act (Option FabricValue)) × Valid hs ((0, Some g) ∷ []) a × IsInTurn T (stepped (board ws hs views) 0 0 id ((0, Some g) ∷ []) w a)
      × Returns st (view ps (Some f), (0, Some g) ∷ []) 0 (w, carried_after ((0, Some g) ∷ []) a)

-- giving back keeps the rule, where the fabric is whole and follows the one that was taken
return_moves : (T : Setup) (id k : ℕ) (ps : List Share) (f g : FabricValue) (st : Step (Option FabricValue)) → 0 < shares_of k ps → IsWhole T g → Follows k f g
    → Allows (IsInTurn T) 1 id (view ps (Some f), (0, Some g) ∷ []) 0 (λ _. 0) (λ _. Returns st (view ps (Some f), (0, Some g) ∷ []) 0)
return_moves T id k ps f g st mine whole may s h len at fits =
    ⊎_elim
    (λ (free : IsFree s h.fabric). absurd (cc (free.2 id (view ps (Some f)) at)))
    (λ (held : IsTurnHeld s h.fabric).
    let now = held.2 in
    let here : id ≡ now.0 = dite (ℕ_discrete id now.0) (λ (e : id ≡ now.0). e) (λ (ne : id ≢ now.0). absurd (cc (now.5 id (view ps (Some f)) ne at))) in
    let same : now.1 ≡ view ps (Some f) = some-injective now.1 (view ps (Some f)) (sym now.2 ∙ ap (λ j. get_elem? s.views j) (sym here) ∙ at) in
    let was : f ≡ h.fabric = cc (sym (ap (λ (v : View). v.taken) same) ∙ now.3) in
    let w = view (shares_in g ps) None in
    let may' : Follows k h.fabric g = subst (λ (x : FabricValue). Follows k x g) was may in
    let alone : (j : ℕ) (v : View) → j ≢ id → get_elem? s.views j ≡ some v → shares_of k v.shares ≡ 0 = λ j v ne e.
    let two = total_two (carries k) s.views id j (view ps (Some f)) v ne at e in
    let one = h.once k in
    let few = below_two k T.kernels in
    let x : ℕ = sum_by (carries k) s.views in
    let a : ℕ = shares_of k ps in
    let b : ℕ = shares_of k v.shares in
    let o : ℕ = once_below k T.kernels in
    let two' : a + b ≤ x = two in
    let one' : x ≡ o = one in
    let few' : o < 2 = few in
    let mine' : 0 < a = mine in
    let r : b ≡ 0 = omega (arith, two', one', few', mine') in r in
    let go : Back T id ps f g st s.views (1 ∷ []) (maybe.none ∷ []) = (
      w,
      gives,
      tt,
      record {
        fabric = g;
        whole = whole;
        stands = inl (refl, refl, all_set (λ v. v.taken ≡ None) s.views id w (λ j v ne e. now.5 j v (λ is. ne (is ∙ sym here)) e) refl);
        each = all_set (λ v. All (IsShareOf g) v.shares) s.views id w (λ j v ne e. fits-followed k h.fabric g v.shares may' (alone j v ne e) (h.each j v e))
            (fits-self g ps);
        once = once_set T.kernels s.views id (view ps (Some f)) w at (λ k. sym (shares_of-in k g ps)) h.once;
      },
      λ x e. let same_fabric : g ≡ x = ap (fabric_of g) e in ap (λ (y : FabricValue). (view (shares_in y ps) None, [])) same_fabric,
    ) in
    subst (λ (x : List ℕ × Homes). Back T id ps f g st s.views x.0 x.1) (λ i. (sym held.0 i, sym held.1 i)) go)
    h.stands

return_asks : (T key : Setup) (slots id k : ℕ) (me : Sat) (f g : FabricValue) (st : Step (Option FabricValue)) → key ≡ T → slots ≡ 1 → me.0.taken ≡ Some f
    → me.1 ≡ (0, Some g) ∷ [] → 0 < shares_of k me.0.shares
    → IsWhole T g → Follows k f g
    → Allows (IsInTurn key) slots id me 0 (λ _. 0) (λ _. Returns st me 0)
return_asks T key slots id k me f g st key_is slots_is taken out mine whole may =
    subst (λ (m : Sat). Allows (IsInTurn key) slots id m 0 (λ _. 0) (λ _. Returns st m 0)) (λ i. (view me.0.shares (sym taken i), sym out i))
    (subst (λ (x : Setup × ℕ). Allows (IsInTurn x.0) x.1 id (
      view me.0.shares (Some f),
      (0, Some g) ∷ [],
    ) 0 (λ _. 0) (λ _. Returns st (view me.0.shares (Some f), (0, Some g) ∷ []) 0)) (λ i. (sym key_is i, sym slots_is i))
    (return_moves T id k me.0.shares f g st mine whole may))

-- what is so of what an option has
pub some_and : {X : Type 0} (o : Option X) (P : X → Type 0) → IsSomeAnd o P → (x : X) × (o ≡ Some x) × P x
some_and None P h = absurd h
some_and (Some x) P h = (x, refl, h)

-- The seat of a pass, with the fabric in its slot again.
module _ (k : ℕ) (es : List Entry) (placed : Bool) (t : Option FabricValue) (old me : Sat) (f g : FabricValue) (st : Step (Option FabricValue))
    (was : old ≡ (view (share k es placed ∷ []) t, out_with t)) (taken : t ≡ Some f) (now : me ≡ (old.0, (0, Some g) ∷ rest old.1)) where
  filled : me ≡ (view (share k es placed ∷ []) (Some f), (0, Some g) ∷ [])
  filled = now ∙ ap (λ (o : Sat). (o.0, (0, Some g) ∷ rest o.1)) (was ∙ ap (λ (x : Option FabricValue). (view (share k es placed ∷ []) x, out_with x)) taken)

  -- it may give back
  pub give_asks : (T key : Setup) (slots id : ℕ) → key ≡ T → slots ≡ 1 → IsWhole T g → Follows k f g →
      Allows (IsInTurn key) slots id me 0 (λ _. 0) (λ _. Returns st me 0)
  give_asks T key slots id key_is slots_is whole may =
      let own = is_of_hit k (share k es placed) refl in
      let sum = shares_of-cons k (share k es placed) [] in
      let more : 0 < shares_of k (share k es placed ∷ []) = omega (arith, own, sum) in
      return_asks T key slots id k me f g st key_is slots_is (ap (λ (m : Sat). m.0.taken) filled) (ap (λ (m : Sat). m.1) filled)
      (subst (λ (m : Sat). 0 < shares_of k m.0.shares) (sym filled) more) whole may

  -- and has what the fabric has then
  pub give_done : (after : Sat) → Returns st me 0 after → after ≡ (view (share k (part g.journal k) (has_place g k) ∷ []) None, [])
  give_done after told = told g (ap (λ (m : Sat). m.1) filled) ∙ ap (λ (m : Sat). (view (shares_in g m.0.shares) None, [])) filled
