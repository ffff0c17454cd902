use Rattle.std.proofs.Common.{ℕ, List, [], None, refl, sym, subst}
use Rattle.std.specs.Global.{Vec}
use Rattle.std.proofs.lemmas.List.Elements.{All-nil}
use Rattle.sem_access.specs.declared.run.Run.{Run}
use Rattle.sem_mem.specs.Chunks.{IsSized, AreIndexed}
use Rattle.sem_mem.proofs.KeptRuns.{no-runs}
use Rattle.sem_mem.proofs.memory.Memory.new.Goals as goal

none : AreIndexed [] []
none = record { chunks = record { sized = All-nil IsSized; runs = no-runs 0 None }; begin = refl }

pub invariant_of-result : goal.invariant_of-result
invariant_of-result c =
    subst (λ (cs : List (Vec Run)). AreIndexed cs c.new-2.result.items) (sym c.new.ensures.items)
    (subst (λ (bs : List ℕ). AreIndexed [] bs) (sym c.new-2.ensures.items) none)
