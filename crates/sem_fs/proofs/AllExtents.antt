-- The extents of all files, file by file.
use Rattle.std.proofs.Common.{◌≡◌, ℕ, ◌==◌, ◌++◌, Bool, false, List, [], ◌∷◌, map, Option, refl, ap, ◌∙◌, sym, inl, inr}
use Rattle.std.specs.List.{filter, flat_map}
use Rattle.std.specs.Option.{option_map_or}
use Rattle.std.proofs.lemmas.Bool.{cases_Bool, cond-true, cond-false, false_from_ne_true, true≢false}
use Rattle.sem_key.proofs.Members.{find_none, list_any-at}
use Rattle.sem_files.specs.declared.files.FileDecl.{FileDecl}
use Rattle.sem_files.specs.Files.{Files, is_file, extents_of}
use Rattle.sem_files.specs.Compiled.{extent_number, below, extents}

-- the numbers of the extents of a file
abbrev pub extents_at : Files → ℕ → List ℕ
extents_at F f = map (extent_number f) (below (extents_of F f))

-- a file that is not declared has no extents
no-extents : (F : Files) (f : ℕ) → is_file F f ≡ false → extents_of F f ≡ 0
no-extents F f none = ap (λ (o : Option FileDecl). option_map_or (λ d. d.extents) o 0) (find_none is F.files (λ d among.
    false_from_ne_true (is d) (λ same. true≢false (sym (list_any-at is F.files d among same) ∙ none))))
  where
    is : FileDecl → Bool
    is d = d.file == f

-- what gives nothing may be left out
left-out : (g : ℕ → List ℕ) (p : ℕ → Bool) (xs : List ℕ) → ((x : ℕ) → p x ≡ false → g x ≡ []) → flat_map g (filter p xs) ≡ flat_map g xs
left-out g p [] none = refl
left-out g p (x ∷ xs) none = elim (cases_Bool (p x)) [
  | inl kept ↦ ap (flat_map g) (cond-true (p x) (x ∷ filter p xs) (filter p xs) kept) ∙ ap (λ ys. g x ++ ys) (left-out g p xs none)
  | inr other ↦ ap (flat_map g) (cond-false (p x) (x ∷ filter p xs) (filter p xs) other)
      ∙ (left-out g p xs none ∙ sym (ap (λ ys. ys ++ flat_map g xs) (none x other)))
]

pub all-extents : (F : Files) → flat_map (extents_at F) (below 16) ≡ extents F
unfolding extents
all-extents F = sym (left-out (extents_at F) (is_file F) (below 16)
    (λ f none. ap (λ n. map (extent_number f) (below n)) (no-extents F f none)))
