-- Lists that grow access by access, and what memory tells of a whole journal.
use Rattle.std.proofs.Common.{◌≡◌, ℕ, ◌+◌, ◌<◌, ◌≤◌, List, [], ◌∷◌, ◌++◌, length, map, take, get_or, sym, ◌∙◌, ap, subst, arith}
use Rattle.std.proofs.lemmas.List.{take_more, map-append, get_or_default}
use Rattle.std.proofs.lemmas.List.Elements.{All-weaker}
use Rattle.sem_access.specs.declared.access.Access.{Access}
use Rattle.sem_access.specs.declared.run.Run.{Run}
use Rattle.sem_access.specs.declared.look.Look.{Look}
use Rattle.sem_access.specs.Runs.{IsNewer}
use Rattle.sem_access.specs.ContentsText.{found_by}
use Rattle.sem_mem.specs.Reading.{AreInOrder}

-- one look more
pub looks-more : (xs : List Access) (i : ℕ) (x : Access) (look : Look) (now new : List Look) → i < length xs → x ≡ get_or xs i x →
    now ≡ map (found_by xs) (take i xs) → look ≡ found_by xs x → new ≡ now ++ look ∷ [] → new ≡ map (found_by xs) (take (i + 1) xs)
looks-more xs i x look now new more at so_far found is =
    let one_more : take (i + 1) xs ≡ take i xs ++ x ∷ [] = take_more xs i x more ∙ ap (λ (y : Access). take i xs ++ y ∷ []) (sym at) in
    is ∙ (ap (λ ls. ls ++ look ∷ []) so_far ∙ (ap (λ (l : Look). map (found_by xs) (take i xs) ++ l ∷ []) found
    ∙ (sym (map-append (found_by xs) (take i xs) (x ∷ [])) ∙ ap (map (found_by xs)) (sym one_more))))

-- memory in which an access is the newest is older than those behind it
pub older-more : (xs : List Access) → AreInOrder xs → (i : ℕ) (x : Access) → x ≡ get_or xs i x → i < length xs
    → (rs : List Run) → IsNewer rs (x.entry + 1) → (k : ℕ) (e : Access) → i + 1 ≤ k → k < length xs → IsNewer rs (get_or xs k e).entry
older-more xs order i x is within rs newest k e le below =
    let late : x.entry < (get_or xs k e).entry = subst (λ (y : Access). y.entry < (get_or xs k e).entry) (get_or_default xs i e x within
    ∙ sym is) (order.rise i k e (omega (arith, le)) below) in
    All-weaker (λ (r : Run). r.entry < x.entry + 1) (λ (r : Run). r.entry < (get_or xs k e).entry) (λ r old. omega (arith, old, late)) rs newest
