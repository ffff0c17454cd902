use Rattle.std.proofs.Common.{◌≡◌, ◌==◌, Option, Some, None, refl, ap, ◌∙◌}
use Rattle.std.specs.Option.{is_some, option_map}
use Rattle.sem_files.proofs.Growing.{find_some}
use Rattle.sem_files.proofs.tables.Tables.is_file.Goals as goal

some_map : {X Y : Type 0} (g : X → Y) (o : Option X) → is_some (option_map g o) ≡ is_some o
some_map g None = refl
some_map g (Some x) = refl

pub returns : goal.returns
returns c = c.is_some.ensures ∙ (ap is_some c.declared_extents.ensures ∙ (some_map _ _ ∙ find_some (λ d. d.file == c.args.file) c.args.self.now.files))
