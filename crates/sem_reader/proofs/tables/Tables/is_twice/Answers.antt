use Rattle.std.proofs.Common.{ap, ◌∙◌}
use Rattle.std.specs.Option.{is_some}
use Rattle.sem_reader.proofs.tables.Tables.is_twice.Goals as goal

pub returns-in-Offer : goal.returns-in-Offer
returns-in-Offer c version kernels ds told = rw c.in-Offer.is (c.contains_key.ensures ∙ ap is_some (told.offer c.in-Offer.name c.in-Offer.index))
