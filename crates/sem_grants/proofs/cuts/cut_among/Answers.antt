use Rattle.std.proofs.Common.{nat_eq}
use Rattle.indexmap.specs.IndexSet.{contains}
use Rattle.sem_grants.proofs.Ended.{cut-gathered}
use Rattle.sem_grants.proofs.cuts.cut_among.Goals as goal

pub returns : goal.returns
returns c = cut-gathered c.args.journal.now.entries c.args.made.now (contains nat_eq c.in_ok-ended.ended) _ _ (rw c.as_slice.ensures at c.in_ok-found.ensures)
    (rw c.as_slice-2.ensures at c.in_ok-ended.ensures) c.in_ok-push_ended.ensures c.set_of.result c.set_of.ensures.keys c.set_of.ensures.valid
