use Rattle.std.proofs.Common.{arith, [], sym, subst, refl}
use Rattle.sem_outcomes.specs.Endings.{ListsEndings}
use Rattle.sem_outcomes.proofs.Finishing.{all-told, counts-told, few-told}
use Rattle.sem_outcomes.proofs.Listing.{endings-none}
use Rattle.sem_outcomes.proofs.Starting.{way-begun, more-than-none}
use Rattle.sem_outcomes.proofs.searches.all_outcomes_told.Goals as goal

pub returns-then-limit-eq0-clause-many : goal.returns-then-limit-eq0-clause-many
returns-then-limit-eq0-clause-many g c _ = more-than-none c.args.setup.now c.args.limit (omega arith)

pub loop-at-init : goal.loop-at-init
loop-at-init g c = (
  way-begun c.args.setup.now c.args.limit c.in_ok-histories.histories c.in_ok-histories.ensures.met c.in_ok-histories.ensures.none (omega arith),
  subst (ListsEndings c.args.setup.now []) (sym c.new-found.ensures.items) (endings-none c.args.setup.now),
)

pub loop-at-preserved : goal.loop-at-preserved
loop-at-preserved g c = (c.in_ok-go_on.ensures.search, c.in_ok-go_on.ensures.listed)

pub returns-clause-all : goal.returns-clause-all
returns-clause-all g c =
    let l = c.loop-at in
    all-told c.args.setup.now c.args.limit l.at l.histories l.invariant.0 (omega arith) l.found.items l.invariant.1
    c.keeps_its_rules.ensures

pub returns-clause-counts : goal.returns-clause-counts
returns-clause-counts g c =
    let l = c.loop-at in
    counts-told c.args.setup.now c.args.limit l.at l.histories l.invariant.0 (omega arith) l.found.items l.invariant.1 _ refl (c.len-2.ensures)

pub returns-clause-few : goal.returns-clause-few
returns-clause-few g c =
    let l = c.loop-at in
    few-told c.args.setup.now c.args.limit l.at l.histories l.invariant.0 (omega arith)
