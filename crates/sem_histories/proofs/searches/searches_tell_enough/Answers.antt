use Rattle.std.proofs.Common.{arith}
use Rattle.sem_histories.specs.Closed.{CountsAs}
use Rattle.sem_histories.proofs.Closing.{itself}
use Rattle.sem_histories.proofs.Counted.{few-apart}
use Rattle.sem_histories.proofs.Searching.{searched-closed}
use Rattle.sem_histories.proofs.Listing.{lists-all}
use Rattle.sem_histories.proofs.searches.searches_tell_enough.Goals as goal

pub returns-clause-all : goal.returns-clause-all
returns-clause-all c = λ by T valid V witnesses is lists. lists-all by T valid V (searched-closed T (CountsAs by T) (itself by T) V is) witnesses lists

pub returns-clause-few : goal.returns-clause-few
returns-clause-few c = λ by T V limit is short more.
    let most = few-apart by T V (searched-closed T (CountsAs by T) (itself by T) V is) more.found more.apart in
    let many = more.many in
    omega (arith, most, many, short)

pub returns-clause-many : goal.returns-clause-many
returns-clause-many c = λ by T V n limit is long. record { found = V; apart = is.apart; many = long }
