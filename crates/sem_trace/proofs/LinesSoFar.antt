-- The text of lines that are appended one after another.
use Rattle.std.proofs.Common.{◌≡◌, ℕ, zero, suc, ◌+◌, ◌<◌, List, [], ◌∷◌, ◌++◌, length, take, get_or, refl, arith, add-one, append_assoc, append-nil}
use Rattle.std.specs.List.{enumerate_from, flat_map}
use Rattle.std.proofs.lemmas.List.{take_more}
use Rattle.std.proofs.lemmas.Grind.{common_steps, flat_map-append}
use Rattle.std.specs.Prelude.{map, codes, decimal}
use Rattle.sem_msg.specs.declared.setup.VpeDecl.{VpeDecl}
use Rattle.sem_msg.specs.Setup.{Setup}
use Rattle.sem_trace.specs.Words.{call_words}
use Rattle.sem_trace.specs.TraceText.{pe_line, vpe_line, root_line, offer_line, deny_line, kill_line, window_lines, trace_lines}
use Rattle.sem_text.specs.Lines.{line, text}

-- `now` ends with the lines of the elements before place i; with those of the element there, they are the lines of one more
pub text-more : {X : Type 0} (f : X → List (List (List ℕ))) (xs : List X) (i : ℕ) (x : X) (before now after : List ℕ) → i < length xs → x ≡ get_or xs i x →
    now ≡ before ++ text (flat_map f (take i xs)) → after ≡ now ++ text (f x) → after ≡ before ++ text (flat_map f (take (i + 1) xs))
text-more f xs i x before now after within is so_far more =
    rw (take_more xs i x within, ← is, flat_map-append, flat_map-append) (grind (arith, common_steps, append_assoc))

-- the elements with their indexes, one more
enumerate-suc : {X : Type 0} (xs : List X) (n i : ℕ) (d : X) → i < length xs →
    enumerate_from n (take (suc i) xs) ≡ enumerate_from n (take i xs) ++ (n + i, get_or xs i d) ∷ []
enumerate-suc [] n i d within = absurd (omega arith)
enumerate-suc (x ∷ xs) n zero d within = let e : n + 0 ≡ n = omega arith in rw e refl
enumerate-suc (x ∷ xs) n (suc i) d within = let e : n + suc i ≡ n + 1 + i = omega arith in rw (e, enumerate-suc xs (n + 1) i d (omega arith)) refl

-- the same of a list whose elements are taken with their indexes
pub text-enumerate-more : {X : Type 0} (f : ℕ × X → List (List (List ℕ))) (xs : List X) (i : ℕ) (d : X) (before now after : List ℕ) → i < length xs →
    now ≡ before ++ text (flat_map f (enumerate_from 0 (take i xs))) → after ≡ now ++ text (f (i, get_or xs i d)) →
    after ≡ before ++ text (flat_map f (enumerate_from 0 (take (i + 1) xs)))
text-enumerate-more f xs i d before now after within so_far more =
    let index : 0 + i ≡ i = omega arith in
    rw (add-one, enumerate-suc xs 0 i d within, index, flat_map-append, flat_map-append) (grind (arith, common_steps, append_assoc))

-- a text of a first line, a second with three parts, four parts more and one more, and a last line
text-parts : (first second last : List (List ℕ)) (windows pes vpes roots offers denies kills calls : List (List (List ℕ))) (before a b c d after : List ℕ) →
    a ≡ before ++ line first → b ≡ a ++ text (second ∷ windows ++ pes ++ vpes) → c ≡ b ++ text (roots ++ offers ++ denies ++ kills) → d ≡ c ++ text calls →
    after ≡ d ++ line last → after ≡ before ++ text (first ∷ second ∷ windows ++ pes ++ vpes ++ roots ++ offers ++ denies ++ kills ++ calls ++ last ∷ [])
text-parts first second last windows pes vpes roots offers denies kills calls before a b c d after opened members terms made closed =
    rw (closed, made, terms, members, opened) (simp (flat_map-append, append_assoc, append-nil))

-- the canonical text of a setup, in five pieces
pub text-trace : (T : Setup) (before a b c d after : List ℕ) →
    a ≡ before ++ line (codes "semper trace" ∷ decimal T.version ∷ []) →
    b ≡ a ++ text ((codes "kernels" ∷ decimal T.kernels ∷ []) ∷ window_lines T ++ flat_map pe_line (enumerate_from 0 T.owners.owners) ++ map vpe_line T.vpes) →
    c ≡ b ++ text (flat_map (λ d. map (root_line d.vpe) d.roots) T.vpes ++ map offer_line T.offers ++ map deny_line T.denies ++ map kill_line T.kills) →
    d ≡ c ++ text (flat_map (λ d. map (λ c. codes "call" ∷ decimal d.vpe ∷ call_words c) d.calls) T.vpes) →
    after ≡ d ++ line (codes "end" ∷ []) →
    after ≡ before ++ text (trace_lines T)
text-trace T before a b c d after opened members terms made closed =
    text-parts (codes "semper" ∷ codes "trace" ∷ decimal T.version ∷ []) (codes "kernels" ∷ decimal T.kernels ∷ []) (codes "end" ∷ [])
    (window_lines T) (flat_map pe_line (enumerate_from 0 T.owners.owners)) (map vpe_line T.vpes)
    (flat_map (λ (d : VpeDecl). map (root_line d.vpe) d.roots) T.vpes) (map offer_line T.offers) (map deny_line T.denies) (map kill_line T.kills)
    (flat_map (λ (d : VpeDecl). map (λ c. codes "call" ∷ decimal d.vpe ∷ call_words c) d.calls) T.vpes)
    before a b c d after opened members terms made closed
