use Rattle.std.proofs.Common.{ℕ, ◌==◌, List, ap, ◌∙◌}
use Rattle.std.specs.List.{list_any}
use Rattle.sem_files.specs.Files.{Files}
use Rattle.sem_fs.proofs.lookups.has_client.Goals as goal

pub returns : goal.returns
returns c = c.is_among.ensures
    ∙ ap (λ (vs : List ℕ). list_any (λ v. v == c.args.client) vs) (c.as_slice.ensures ∙ ap (λ (F : Files). F.clients) c.files.view_is)
