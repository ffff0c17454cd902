use Rattle.sem_reader.proofs.OffersSorted.{offers_are}
use Rattle.sem_reader.proofs.tables.Tables.offers.Goals as goal

pub returns : goal.returns
returns c version kernels ds told =
    rw (
      ← offers_are version kernels ds c.args.self.now.offers.entries c.in_ok-entries.entries.items told.accepted told.offer c.in_ok-entries.ensures.apart
          c.in_ok-entries.ensures.same c.in_ok-entries.ensures.rise,
      ← c.deref.ensures.value,
    ) c.offers_from.ensures
