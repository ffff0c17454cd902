use Rattle.sem_histories.proofs.Listing.{lists-all}
use Rattle.sem_histories.proofs.listings.listings_are_exact.Goals as goal

pub returns : goal.returns
returns c = lists-all
