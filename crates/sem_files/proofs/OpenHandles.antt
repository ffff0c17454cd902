-- The handles of a client behind one command more.
use Rattle.std.proofs.Common.{◌≡◌, ℕ, ◌==◌, false, cond, List, [], ◌∷◌, ◌++◌, Option, None, refl, sym, ◌∙◌}
use Rattle.std.proofs.lemmas.List.Sums.{fold-append}
use Rattle.sem_files.specs.declared.files.Command.{Command}
use Rattle.sem_files.specs.Files.{open_after, is_about, open_file}
use Rattle.sem_files.specs.Handles.{TellsHandles}

pub open_file-more : (before : List Command) (c : Command) (v h : ℕ) →
    open_file (before ++ c ∷ []) v h ≡ cond (is_about v h c) (open_after (open_file before v h) c.act) (open_file before v h)
open_file-more before c v h = fold-append (λ o d. cond (is_about v h d) (open_after o d.act) o) None before (c ∷ [])

-- a command of another client
pub open_file-other_client : (before : List Command) (c : Command) (v h : ℕ) → (c.client == v) ≡ false → open_file (before ++ c ∷ []) v h ≡ open_file before v h
open_file-other_client before c v h other = open_file-more before c v h ∙ (rw other refl)

-- what another client does changes nothing
pub tells-other : (before : List Command) (c : Command) (v : ℕ) (hs : List (Option ℕ)) → (c.client == v) ≡ false → TellsHandles before v hs →
    TellsHandles (before ++ c ∷ []) v hs
tells-other before c v hs other told = (told.0, λ h small. told.1 h small ∙ sym (open_file-other_client before c v h other))
