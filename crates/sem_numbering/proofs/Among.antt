-- Lists of numbers in a set of vectors.
use Rattle.std.proofs.Common.{◌≡◌, ℕ, Bool, true, false, ◌||◌, cond, Vec, Global, List, [], ◌∷◌, ◌++◌, map, refl, sym, ◌∙◌, ap, subst, inl, inr}
use Rattle.std.specs.Prelude.{nat_eq}
use Rattle.std.specs.List.{Contains, list_any}
use lib.Pointwise.{pointwise}
use Rattle.std.proofs.lemmas.Bool.{false≢true, cases_Bool, cond-true, cond-false}
use Rattle.std.proofs.lemmas.Slice.Eq.{slice_eq-Decides}
use Rattle.std.proofs.lemmas.Bool.Decides.{Decides-eqb}
use Rattle.std.proofs.lemmas.List.{map-append}
use Rattle.sem_key.proofs.Members.{Contains-head, Contains-tail, Contains-nil, Contains-cons_cases}

abbrev pub Numbers : Type 0
Numbers = Vec ℕ Global

-- whether the vector has these numbers
abbrev pub is_same : Numbers → Numbers → Bool
is_same v w = pointwise nat_eq v.items w.items

-- what a set of vectors is seen as
abbrev pub seen : List Numbers → List (List ℕ)
seen vs = map (λ v. v.items) vs

pub any-seen : (v : Numbers) (vs : List Numbers) → list_any (is_same v) vs ≡ true → Contains (seen vs) v.items
any-seen v [] any = absurd (false≢true any)
any-seen v (w ∷ ws) any = elim (cases_Bool (is_same v w)) [
  | inl same ↦ subst (Contains (w.items ∷ seen ws)) (sym ((slice_eq-Decides Decides-eqb v.items w.items _ refl).0 same)) (Contains-head w.items (seen ws))
  | inr other ↦ Contains-tail w.items (seen ws) v.items (any-seen v ws (sym (ap (λ b. b || list_any (is_same v) ws) other) ∙ any))
]

pub seen-any : (v : Numbers) (vs : List Numbers) → Contains (seen vs) v.items → list_any (is_same v) vs ≡ true
seen-any v [] among = absurd (Contains-nil v.items among)
seen-any v (w ∷ ws) among = elim (Contains-cons_cases w.items (seen ws) v.items among) [
  | inl same ↦ ap (λ b. b || list_any (is_same v) ws) ((slice_eq-Decides Decides-eqb v.items w.items _ refl).1 (sym same))
  | inr rest ↦ elim (cases_Bool (is_same v w)) [
    | inl found ↦ ap (λ b. b || list_any (is_same v) ws) found
    | inr other ↦ ap (λ b. b || list_any (is_same v) ws) other ∙ seen-any v ws rest
  ]
]

module _ (old new : List Numbers) (v : Numbers) (keys : new ≡ cond (list_any (is_same v) old) old (old ++ v ∷ [])) where
  pub seen-added : list_any (is_same v) old ≡ false → (Contains (seen old) v.items → ⊥) × (seen new ≡ seen old ++ v.items ∷ [])
  seen-added lacks = (
    (λ among. false≢true (sym lacks ∙ seen-any v old among)),
    ap seen (keys ∙ cond-false (list_any (is_same v) old) old (old ++ v ∷ []) lacks) ∙ map-append (λ (w : Numbers). w.items) old (v ∷ []),
  )

  pub seen-there : list_any (is_same v) old ≡ true → Contains (seen old) v.items × (seen new ≡ seen old)
  seen-there has = (any-seen v old has, ap seen (keys ∙ cond-true (list_any (is_same v) old) old (old ++ v ∷ []) has))
