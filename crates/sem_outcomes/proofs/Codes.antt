-- The codes to a VPE, entry by entry; and outcomes that are compared.
use Rattle.std.proofs.Common.{◌≡◌, ℕ, Bool, true, false, Vec, Global, List, [], ◌∷◌, ◌++◌, length, map, filter, arith, Option, None, Some, refl, sym, ◌∙◌, ap}
use Rattle.std.proofs.Common.{append-nil}
use Rattle.std.specs.Prelude.{◌==◌, nat_eq}
use Rattle.std.specs.List.{cons_option}
use Rattle.std.proofs.lemmas.Bool.{false≢true, and_parts, and_from, cond-true, cond-false}
use Rattle.std.proofs.lemmas.List.{map-append}
use Rattle.std.proofs.lemmas.List.Elements.{filter-append, filter_map-append}
use Rattle.std.proofs.lemmas.Slice.Eq.{slice_eq-Decides}
use Rattle.std.proofs.lemmas.Bool.Decides.{Decides-eqb}
use lib.Pointwise.{pointwise}
use Rattle.sem_msg.specs.declared.audit.Held.{Held}
use Rattle.sem_msg.specs.declared.entry.Entry.{Entry}
use Rattle.sem_msg.specs.declared.entry.Reply.{Reply}
use Rattle.sem_msg.specs.Audits.{held_pairs}
use Rattle.sem_msg.specs.Journal.{replies}
use Rattle.sem_histories.specs.Outcomes.{codes_to}

pub codes-snoc : (J : List Entry) (e : Entry) (v : ℕ) → codes_to (J ++ e ∷ []) v ≡ codes_to J v ++ codes_to (e ∷ []) v
codes-snoc J e v =
    ap (λ (rs : List Reply). map (λ r. r.code) (filter (λ (r : Reply). r.vpe == v) rs)) (filter_map-append (λ (x : Entry). x.reply) J (e ∷ []))
    ∙ (ap (λ (rs : List Reply). map (λ r. r.code) rs) (filter-append (λ (r : Reply). r.vpe == v) (replies J) (replies (e ∷ [])))
    ∙ map-append (λ (r : Reply). r.code) (filter (λ (r : Reply). r.vpe == v) (replies J)) (filter (λ (r : Reply). r.vpe == v) (replies (e ∷ []))))

module _ (J : List Entry) (e : Entry) (v : ℕ) where
  -- an entry without a reply, or with one to another VPE, tells nothing
  pub codes-none : e.reply ≡ None → codes_to (J ++ e ∷ []) v ≡ codes_to J v
  codes-none none =
      codes-snoc J e v
      ∙ (ap (λ (o : Option Reply). codes_to J v ++ map (λ r. r.code) (filter (λ (r : Reply). r.vpe == v) (cons_option o []))) none
      ∙ append-nil (codes_to J v))

  pub codes-other : (r : Reply) → e.reply ≡ Some r → (r.vpe == v) ≡ false → codes_to (J ++ e ∷ []) v ≡ codes_to J v
  codes-other r is other =
      codes-snoc J e v
      ∙ (ap (λ (o : Option Reply). codes_to J v ++ map (λ r. r.code) (filter (λ (r : Reply). r.vpe == v) (cons_option o []))) is
      ∙ (ap (λ (rs : List Reply). codes_to J v ++ map (λ r. r.code) rs) (cond-false (r.vpe == v) (r ∷ []) [] other)
      ∙ append-nil (codes_to J v)))

  pub codes-own : (r : Reply) → e.reply ≡ Some r → (r.vpe == v) ≡ true → codes_to (J ++ e ∷ []) v ≡ codes_to J v ++ r.code ∷ []
  codes-own r is own =
      codes-snoc J e v
      ∙ (ap (λ (o : Option Reply). codes_to J v ++ map (λ r. r.code) (filter (λ (r : Reply). r.vpe == v) (cons_option o []))) is
      ∙ ap (λ (rs : List Reply). codes_to J v ++ map (λ r. r.code) rs) (cond-true (r.vpe == v) (r ∷ []) [] own))

-- Outcomes that are compared.

heads : {X : Type 0} (x y : X) (xs ys : List X) → x ∷ xs ≡ y ∷ ys → x ≡ y
heads x y xs ys same = cc same

tails : {X : Type 0} (x y : X) (xs ys : List X) → x ∷ xs ≡ y ∷ ys → xs ≡ ys
tails x y xs ys same = cc same

none : {X : Type 0} (x : X) (xs : List X) → x ∷ xs ≡ [] → ⊥
none x xs same = let long = ap length same in omega (arith, long)

abbrev pub Codes : Type 0
Codes = Vec ℕ Global

abbrev pub is_same : Codes → Codes → Bool
is_same v w = pointwise nat_eq v.items w.items

abbrev pub seen : List Codes → List (List ℕ)
seen vs = map (λ (v : Codes). v.items) vs

pub same-seen : (vs ws : List Codes) → pointwise is_same vs ws ≡ true → seen vs ≡ seen ws
same-seen [] [] same = refl
same-seen [] (w ∷ ws) same = absurd (false≢true same)
same-seen (v ∷ vs) [] same = absurd (false≢true same)
same-seen (v ∷ vs) (w ∷ ws) same =
    let both = and_parts (is_same v w) (pointwise is_same vs ws) same in
    let first : v.items ≡ w.items = (slice_eq-Decides Decides-eqb v.items w.items _ refl).0 both.0 in
    let rest = same-seen vs ws both.1 in
    λ k. first k ∷ rest k

pub seen-same : (vs ws : List Codes) → seen vs ≡ seen ws → pointwise is_same vs ws ≡ true
seen-same [] [] same = refl
seen-same [] (w ∷ ws) same = absurd (none w.items (seen ws) (sym same))
seen-same (v ∷ vs) [] same = absurd (none v.items (seen vs) same)
seen-same (v ∷ vs) (w ∷ ws) same =
    and_from (is_same v w) (pointwise is_same vs ws)
    ((slice_eq-Decides Decides-eqb v.items w.items _ refl).1 (heads v.items w.items (seen vs) (seen ws) same))
    (seen-same vs ws (tails v.items w.items (seen vs) (seen ws) same))

-- what is held is told by its pairs
pub pairs-held : (hs js : List Held) → held_pairs hs ≡ held_pairs js → hs ≡ js
pairs-held [] [] same = refl
pairs-held [] (j ∷ js) same = absurd (none (j.key, j.sel) (held_pairs js) (sym same))
pairs-held (h ∷ hs) [] same = absurd (none (h.key, h.sel) (held_pairs hs) same)
pairs-held (h ∷ hs) (j ∷ js) same =
    let first : (h.key, h.sel) ≡ (j.key, j.sel) = heads (h.key, h.sel) (j.key, j.sel) (held_pairs hs) (held_pairs js) same in
    let rest = pairs-held hs js (tails (h.key, h.sel) (j.key, j.sel) (held_pairs hs) (held_pairs js) same) in
    λ k. record { key = (first k).0; sel = (first k).1 } ∷ rest k
