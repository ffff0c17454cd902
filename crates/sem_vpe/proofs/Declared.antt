-- The table at the start, read VPE by VPE.
use Rattle.std.proofs.Common.{◌≡◌, ◌≢◌, ℕ, zero, suc, ◌+◌, ◌<◌, Bool, true, false, List, [], ◌∷◌, length, get_or, replicate, Option, Some, None, is_some, refl}
use Rattle.std.proofs.Common.{sym, ◌∙◌, ap, subst, arith}
use Rattle.std.specs.Prelude.{◌==◌, unwrap_or, if◌then◌else◌}
use Rattle.std.specs.List.{All, AllPairs, slice_get}
use Rattle.std.specs.Option.{IsSome, option_and_then, option_map}
use Rattle.std.proofs.lemmas.Bool.{eqb-true}
use Rattle.std.proofs.lemmas.List.FromFn.{get_or-map-range_with_len, length-map-range_with_len}
use Rattle.std.proofs.lemmas.Option.{none-some, same_Some}
use Rattle.std.proofs.lemmas.List.Elements.{All-contains}
use Rattle.sem_key.specs.declared.limits.TheConstants.{VPES}
use Rattle.sem_key.specs.Lists.{in_turn}
use Rattle.sem_key.proofs.Members.{found as in_list}
use Rattle.sem_msg.specs.declared.limits.TheConstants.{SELECTORS}
use Rattle.sem_msg.proofs.Declared.{most_vpes-le}
use Rattle.sem_msg.specs.declared.setup.Root.{Root}
use Rattle.sem_msg.specs.declared.setup.VpeDecl.{VpeDecl}
use Rattle.sem_msg.specs.declared.state.Slot.TheVariants.{Free, Held}
use Rattle.sem_msg.specs.Rows.{VpeRow, no_vpe}
use Rattle.sem_msg.specs.Setup.{Setup, IsSetup, IsVpeDecl, root_key}
use Rattle.sem_msg.specs.VpeRows.{new_vpe, root_held, start_row, row, slot}
use Rattle.sem_msg.specs.Lookups.{decl, runs_on, own_decl}
use Rattle.sem_vpe.specs.VpeTable.{IsOurs}
use Rattle.sem_vpe.specs.Starting.{start_place, start_table, IsAsDeclared}
use Rattle.sem_key.proofs.Puts.{get_or-put_same, get_or-put_other}
use Rattle.sem_vpe.proofs.Places.{marked-within}

-- Roots that are added in turn.

module _ (d : VpeDecl) where
  -- a selector at which none of them stands
  slot_after : (rs : List Root) (x : VpeRow) (sel : ℕ) → All (λ r. r.sel ≢ sel) rs →
      get_or (in_turn (root_held d) rs x).slots sel Free ≡ get_or x.slots sel Free
  unfolding in_turn
  slot_after [] x sel differ = refl
  slot_after (r ∷ rs) x sel differ =
      let here : r.sel ≢ sel = differ 0 r (omega arith) in
      slot_after rs (root_held d r x) sel (λ k e lt. differ (suc k) e (omega arith))
      ∙ get_or-put_other Free x.slots r.sel sel (Held (root_key d x.next_number r)) (λ same. here (sym same))

  -- a selector at which one of them stands, the one that is numbered m
  root_after : (rs : List Root) (x : VpeRow) (n m : ℕ) (r : Root) → AllPairs (λ a b. a.sel ≢ b.sel) rs → slice_get rs n ≡ Some r → m ≡ x.next_number + n →
      get_or (in_turn (root_held d) rs x).slots r.sel Free ≡ Held (root_key d m r)
  unfolding in_turn
  root_after [] x n m r differ is number = absurd cc
  root_after (q ∷ rs) x zero m r differ is number =
      let same : q ≡ r = same_Some q r is in
      let first : x.next_number ≡ m = omega arith in
      let here = slot_after rs (root_held d q x) q.sel (λ k e lt here. differ 0 (suc k) e (omega arith) (omega arith) (sym here))
      ∙ get_or-put_same Free x.slots q.sel (Held (root_key d x.next_number q)) in
      subst (λ (r : Root). get_or (in_turn (root_held d) rs (root_held d q x)).slots r.sel Free ≡ Held (root_key d m r)) same
      (subst (λ (m : ℕ). get_or (in_turn (root_held d) rs (root_held d q x)).slots q.sel Free ≡ Held (root_key d m q)) first here)
  root_after (q ∷ rs) x (suc n) m r differ is number =
      root_after rs (root_held d q x) n m r (λ i j e lt within. differ (suc i) (suc j) e (omega arith) (omega arith)) is (omega arith)

  -- all else
  rest_after : (rs : List Root) (x : VpeRow) → ((in_turn (root_held d) rs x).alive ≡ x.alive)
      × ((in_turn (root_held d) rs x).next_number ≡ x.next_number + length rs) × ((in_turn (root_held d) rs x).next_call ≡ x.next_call)
      × ((in_turn (root_held d) rs x).asks ≡ x.asks)
  unfolding in_turn
  rest_after [] x = (refl, omega arith, refl, refl)
  rest_after (r ∷ rs) x = let rest = rest_after rs (root_held d r x) in (rest.0, omega (arith, rest.1), rest.2, rest.3)

free_at : (n sel : ℕ) → get_or (replicate n Free) sel Free ≡ Free
free_at zero sel = refl
free_at (suc n) zero = refl
free_at (suc n) (suc sel) = free_at n sel

-- The declaration of a VPE.

if_some : {X : Type 0} (b : Bool) (x y : X) → (if b then Some x else None) ≡ Some y → x ≡ y
if_some true x y is = same_Some x y is
if_some false x y is = absurd (none-some y is)

own_from : (T : Setup) (i : ℕ) (d : VpeDecl) (o : Option VpeDecl) → option_and_then (λ d. if runs_on T i d then Some d else None) o ≡ Some d → o ≡ Some d
own_from T i d None is = is
own_from T i d (Some e) is = ap Some (if_some (runs_on T i e) e d is)

is_some_map : (o : Option VpeDecl) → is_some (option_map start_row o) ≡ is_some o
is_some_map None = refl
is_some_map (Some d) = refl

module _ (T : Setup) (i : ℕ) (valid : IsSetup T) where
  module _ (v : ℕ) (d : VpeDecl) (own : own_decl T i v ≡ Some d) where
    found : decl T v ≡ Some d
    found = own_from T i d (decl T v) own

    known : IsVpeDecl T d
    known = All-contains (IsVpeDecl T) T.vpes d valid.vpes (in_list (λ (d : VpeDecl). d.vpe == v) T.vpes d found).0

    in_range : v < VPES
    in_range =
        let same : d.vpe ≡ v = eqb-true d.vpe v (in_list (λ (d : VpeDecl). d.vpe == v) T.vpes d found).1 in
        let small = known.vpe in
        let few = most_vpes-le T.version in
        omega arith

    row_is : row (start_table T i).rows v ≡ start_row d
    unfolding start_table
    row_is = get_or-map-range_with_len (λ v. unwrap_or (start_place T i v) no_vpe) 0 VPES v v no_vpe in_range (omega arith) ∙ rw own refl

    start_is : start_row d ≡ in_turn (root_held d) d.roots new_vpe
    unfolding start_row
    start_is = refl

    rest : ((start_row d).alive ≡ true) × ((start_row d).next_number ≡ length d.roots) × ((start_row d).next_call ≡ 0) × ((start_row d).asks ≡ [])
    rest = let after = rest_after d d.roots new_vpe in rw start_is (after.0, omega (arith, after.1), after.2, after.3)

    root_at : (n : ℕ) (r : Root) → slice_get d.roots n ≡ Some r → slot (start_table T i).rows v r.sel ≡ Held (root_key d n r)
    root_at n r is = ap (λ (x : VpeRow). get_or x.slots r.sel Free) (row_is ∙ start_is)
        ∙ root_after d d.roots new_vpe n n r known.selectors_differ is (omega arith)

    free_elsewhere : (sel : ℕ) → All (λ r. r.sel ≢ sel) d.roots → slot (start_table T i).rows v sel ≡ Free
    free_elsewhere sel differ = ap (λ (x : VpeRow). get_or x.slots sel Free) (row_is ∙ start_is)
        ∙ (slot_after d d.roots new_vpe sel differ ∙ free_at SELECTORS sel)

  mark_is : (v : ℕ) → v < VPES → get_or (start_table T i).ours v false ≡ is_some (own_decl T i v)
  unfolding start_table
  mark_is v small = get_or-map-range_with_len (λ v. is_some (start_place T i v)) 0 VPES v v false small (omega arith) ∙ is_some_map (own_decl T i v)

  marks_long : length (start_table T i).ours ≡ VPES
  unfolding start_table
  marks_long = length-map-range_with_len (λ v. is_some (start_place T i v)) 0 VPES

  ours_own : (v : ℕ) → IsOurs (start_table T i) v → IsSome (own_decl T i v)
  ours_own v ours =
      let marked = marked-within (start_table T i).ours v ours in
      sym (mark_is v (omega (arith, marks_long))) ∙ ours

  own_ours : (v : ℕ) (o : Option VpeDecl) → own_decl T i v ≡ o → IsSome (own_decl T i v) → IsOurs (start_table T i) v
  own_ours v None none some = absurd (let no = rw none at some in cc)
  own_ours v (Some d) own some = mark_is v (in_range v d own) ∙ some

  pub as_declared : IsAsDeclared T i (start_table T i)
  as_declared = record {
    ours = λ v. (ours_own v, own_ours v (own_decl T i v) refl);
    living = λ v d own. ap (λ (x : VpeRow). x.alive) (row_is v d own) ∙ (rest v d own).0;
    roots = λ v n d r own is. root_at v d own n r is;
    others = λ v sel d own differ. free_elsewhere v d own sel differ;
    numbers = λ v d own. ap (λ (x : VpeRow). x.next_number) (row_is v d own) ∙ (rest v d own).1;
    calls = λ v d own. ap (λ (x : VpeRow). x.next_call) (row_is v d own) ∙ (rest v d own).2;
    asks = λ v d own. ap (λ (x : VpeRow). x.asks) (row_is v d own) ∙ (rest v d own).3;
  }
