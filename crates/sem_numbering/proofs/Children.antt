-- The children of parts, as they grow.
use Rattle.std.proofs.Common.{◌≡◌, ℕ, ◌+◌, ◌<◌, ◌≤◌, ◌^◌, arith, Vec, Global, List, [], ◌∷◌, ◌++◌, length, map, get_or, set, slice_get, Option, None, Some}
use Rattle.std.proofs.Common.{sym, ◌∙◌, ap, subst, inl, inr}
use Rattle.std.specs.List.{Contains, All}
use Rattle.std.specs.Prelude.{IfNone}
use Rattle.std.proofs.lemmas.Bool.{cases_eq, cases_lt}
use Rattle.std.proofs.lemmas.Option.{slice_get_within, slice_get-get_or, get_or_from_slice_get}
use Rattle.std.proofs.lemmas.List.{length_push, length-map, length-set, map-append, map-set, get_or-map, get_or_at, get_or_append_left, get_or_past}
use Rattle.std.proofs.lemmas.List.{get_or-set_same, get_or-set_other}
use Rattle.std.proofs.lemmas.List.Elements.{All-contains}
use Rattle.sem_msg.specs.declared.message.Message.{Message}
use Rattle.sem_msg.specs.declared.event.Event.{Event}
use Rattle.sem_msg.specs.declared.entry.Entry.{Entry}
use Rattle.sem_numbering.specs.Nodes.{Node, IsMadeBy, HasNoNode, HasMore, AreChildren}

-- what none but an empty list has
none-past : (cs : List (List ℕ)) (i k : ℕ) → length cs ≤ i → Contains (get_or cs i []) k → ⊥
none-past cs i k past (m, within, is) =
    let empty : get_or cs i [] ≡ [] = get_or_past cs i [] past in
    let long = ap length empty in
    omega (arith, within, long)

pub more-same : (cs : List (List ℕ)) → HasMore cs cs
more-same cs = record { long = omega arith; kept = λ i k among. among }

pub more-push : (cs : List (List ℕ)) (c : List ℕ) → HasMore cs (cs ++ c ∷ [])
more-push cs c = record {
  long = let long = length_push cs c in omega (arith, long);
  kept = λ i k among. elim (cases_lt i (length cs)) [
    | inl less ↦ subst (λ ks. Contains ks k) (sym (get_or_append_left cs (c ∷ []) [] i less)) among
    | inr past ↦ absurd (none-past cs i k past among)
  ];
}

pub more-set : (cs : List (List ℕ)) (i : ℕ) (c : List ℕ) → i < length cs → ((k : ℕ) → Contains (get_or cs i []) k → Contains c k) → HasMore cs (set cs i c)
more-set cs i c here grow = record {
  long = let long = length-set cs i c in omega (arith, long);
  kept = λ j k among. elim (cases_eq j i) [
    | inl same ↦ subst (λ m. Contains (get_or (set cs i c) m []) k) (sym same)
        (subst (λ ks. Contains ks k) (sym (get_or-set_same cs i c [] here)) (grow k (subst (λ m. Contains (get_or cs m []) k) same among)))
    | inr apart ↦ subst (λ ks. Contains ks k) (sym (get_or-set_other cs i j c [] apart)) among
  ];
}

pub children-kept : (nodes : List Node) (cs ds : List (List ℕ)) → AreChildren nodes cs → HasMore cs ds → AreChildren nodes ds
children-kept nodes cs ds are more = record {
  long = let long = are.long in let wide = more.long in omega (arith, long, wide);
  few = are.few;
  among = λ k from e here. more.kept from k (are.among k from e here);
}

pub children-push : (nodes : List Node) (cs : List (List ℕ)) (from : ℕ) (e : Entry) → AreChildren nodes cs → length nodes + 1 < length cs →
    length nodes + 1 < 2 ^ 32
    → Contains (get_or cs from []) (length nodes) → AreChildren (nodes ++ (from, e) ∷ []) cs
children-push nodes cs from e are long few there = record {
  long = let up = length_push nodes (from, e) in omega (arith, long, up);
  few = let up = length_push nodes (from, e) in omega (arith, few, up);
  among = λ k p x here. elim (cases_lt k (length nodes)) [
    | inl less ↦ are.among k p x (slice_get-get_or nodes k (p, x) less ∙ ap Some (sym (get_or_append_left nodes ((from, e) ∷ []) (p, x) k less)
        ∙ get_or_from_slice_get (nodes ++ (from, e) ∷ []) k (p, x) (p, x) here))
    | inr past ↦
        let up = length_push nodes (from, e) in
        let within : k < length (nodes ++ (from, e) ∷ []) = slice_get_within (nodes ++ (from, e) ∷ []) k (p, x) here in
        let last : length nodes ≡ k = omega (arith, past, up, within) in
        let node : (from, e) ≡ (p, x) = sym (get_or_at nodes (from, e) [] (p, x) k last)
        ∙ get_or_from_slice_get (nodes ++ (from, e) ∷ []) k (p, x) (p, x) here in
        subst (λ (n : Node). Contains (get_or cs n.0 []) k) node (subst (Contains (get_or cs from [])) last there)
  ];
}

-- no child of a part is missed
pub node-among : (nodes : List Node) (cs : List (List ℕ)) → AreChildren nodes cs → (from : ℕ) (e : Entry) → Contains nodes (from, e)
    → (k : ℕ) × Contains (get_or cs from []) k × (slice_get nodes k ≡ Some (from, e))
node-among nodes cs are from e (k, within, is) =
    let here : slice_get nodes k ≡ Some (from, e) = slice_get-get_or nodes k (from, e) within ∙ ap Some is in
    (k, are.among k from e here, here)

-- no place that is given has such a node
abbrev pub Others : List Node → ℕ → Event → Option Message → List ℕ → Type 0
Others nodes from by input places = All (λ k. (e : Entry) → IsMadeBy by input e → slice_get nodes k ≡ Some (from, e) → ⊥) places

pub missing : (nodes : List Node) (cs : List (List ℕ)) → AreChildren nodes cs → (from : ℕ) (by : Event) (input : Option Message) →
    Others nodes from by input (get_or cs from []) → HasNoNode nodes from by input
missing nodes cs are from by input none e made among =
    let (k, inside, here) = node-among nodes cs are from e among in
    All-contains (λ k. (x : Entry) → IsMadeBy by input x → slice_get nodes k ≡ Some (from, x) → ⊥) (get_or cs from []) k none inside e made here

pub none-so : {P Q : Type 0} (r : Option ℕ) → (P → Q) → IfNone r P → IfNone r Q
none-so None so is = so is
none-so (Some n) so is = tt

-- In vectors.

abbrev pub lists : List (Vec ℕ Global) → List (List ℕ)
lists cs = map (λ (c : Vec ℕ Global). c.items) cs

pub more-both : (cs ds es : List (List ℕ)) → HasMore cs ds → HasMore ds es → HasMore cs es
more-both cs ds es one two = record {
  long = let a = one.long in let b = two.long in omega (arith, a, b);
  kept = λ i k among. two.kept i k (one.kept i k among);
}

pub more-part : (cs : List (Vec ℕ Global)) (c : Vec ℕ Global) (ds : List (Vec ℕ Global)) → ds ≡ cs ++ c ∷ [] → HasMore (lists cs) (lists ds)
more-part cs c ds is = subst (HasMore (lists cs)) (sym (ap lists is ∙ map-append (λ (x : Vec ℕ Global). x.items) cs (c ∷ []))) (more-push (lists cs) c.items)

module _ (cs : List (Vec ℕ Global)) (i : ℕ) (v w : Vec ℕ Global) (here : i < length cs) (at : v ≡ get_or cs i v) where
  pub read : get_or (lists cs) i [] ≡ v.items
  read = get_or-map (λ (x : Vec ℕ Global). x.items) cs i v [] here ∙ ap (λ (x : Vec ℕ Global). x.items) (sym at)

  within : i < length (lists cs)
  within = let long = length-map cs (λ (x : Vec ℕ Global). x.items) in omega (arith, here, long)

  pub more-child : ((k : ℕ) → Contains v.items k → Contains w.items k) → HasMore (lists cs) (lists (set cs i w))
  more-child grow = subst (HasMore (lists cs)) (sym (map-set (λ (x : Vec ℕ Global). x.items) cs i w))
      (more-set (lists cs) i w.items within (λ k among. grow k (subst (λ ks. Contains ks k) read among)))

  pub child-there : (n : ℕ) → Contains w.items n → Contains (get_or (lists (set cs i w)) i []) n
  child-there n among = subst (λ ks. Contains ks n) (sym (ap (λ l. get_or l i []) (map-set (λ (x : Vec ℕ Global). x.items) cs i w)
      ∙ get_or-set_same (lists cs) i w.items [] within)) among
