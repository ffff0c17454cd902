use Rattle.std.proofs.Common.{refl, ℕ, get_or, List, Bool, [], ◌≡◌, false, arith, Option, subst, sym}
use Rattle.sem_files.specs.Said.{files_of}
use Rattle.sem_files.specs.Handles.{TellsHandles}
use Rattle.sem_files.proofs.NothingSaid.{tells_nothing, entry-within, entry-either}
use Rattle.sem_files.proofs.tables.Tables.new.Goals as goal

pub returns-clause-said : goal.returns-clause-said
unfolding files_of
returns-clause-said c = rw (c.new.ensures, c.new-2.ensures, c.new-3.ensures) refl

pub returns-clause-tells : goal.returns-clause-tells
returns-clause-tells c =
    tells_nothing _ c.requires.some c.requires.few c.new.ensures c.new-2.ensures c.new-3.ensures refl refl refl refl
    (λ v small. subst (λ (hs : List (Option ℕ)). TellsHandles [] v hs) (sym (entry-within 64 c.new-4.result [] v (omega arith))) (c.new-4.ensures.tells v))
    (λ v g. entry-either (λ (used : List Bool). get_or used g false ≡ false) 64 c.new-5.result [] v (c.new-5.ensures g) refl)
    refl
