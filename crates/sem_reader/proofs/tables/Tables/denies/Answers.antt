use Rattle.sem_reader.proofs.DeniesSorted.{denies_are}
use Rattle.sem_reader.proofs.tables.Tables.denies.Goals as goal

pub returns : goal.returns
returns c version kernels ds told =
    rw (
      ← denies_are version kernels ds c.args.self.now.denied.keys c.in_ok-pairs.pairs.items told.accepted told.denied c.in_ok-pairs.ensures.apart
          c.in_ok-pairs.ensures.same c.in_ok-pairs.ensures.rise,
      ← c.deref.ensures.value,
    ) c.denies_from.ensures
