use Rattle.std.proofs.Common.{◌+◌, ◌/◌, ◌≤◌, ◌<◌, List, length, nat_lt, ℕ, Bool, sym, ap, subst, arith, rules}
use Rattle.std.proofs.lemmas.List.Elements.{All-get_or}
use Rattle.sem_key.specs.declared.limits.TheConstants.{ADDRESSES}
use Rattle.sem_access.specs.declared.run.Run.{Run}
use Rattle.sem_access.specs.Runs.{run_of, IsValidRun}
use Rattle.sem_mem.proofs.Halving.{halved-by, parted-by}
use Rattle.sem_mem.proofs.runs.count_ended.Goals as goal

abbrev none : Run
none = run_of 0 0 0

pub loop-size-preserved : goal.loop-size-preserved
loop-size-preserved c =
    let rs : List Run = c.args.runs.now in
    let first : ℕ = c.loop-size.first in
    let half : ℕ = c.loop-size.size / 2 in
    let test : Run → Bool = λ r. nat_lt (r.base + r.len) c.args.address in
    let is = c.loop-size.invariant in
    let within : first + half < length rs = omega (arith, is.within, is.some) in
    let fits : c.end_of.result ≤ ADDRESSES = subst (λ n. n ≤ ADDRESSES) (sym c.end_of.ensures)
    (All-get_or IsValidRun rs (first + half) none within c.requires).1 in
    record {
      some = search rules;
      within = search rules;
      halved = halved-by test rs none first c.loop-size.size half c.step_below-first.result (nat_lt c.end_of.result c.args.address) within (omega arith)
          is.halved (ap (λ n. nat_lt n c.args.address) c.end_of.ensures) (c.step_below-first.ensures.value fits);
    }

pub returns-clause-parted : goal.returns-clause-parted
returns-clause-parted c parted =
    let rs : List Run = c.args.runs.now in
    let first : ℕ = c.loop-size.first in
    let test : Run → Bool = λ r. nat_lt (r.base + r.len) c.args.address in
    let is = c.loop-size.invariant in
    let within : first < length rs = omega (arith, is.within, is.some) in
    let fits : c.end_of-2.result ≤ ADDRESSES = subst (λ n. n ≤ ADDRESSES) (sym c.end_of-2.ensures)
    (All-get_or IsValidRun rs first none within c.requires).1 in
    parted-by test rs none first c.loop-size.size c.step_below.result (nat_lt c.end_of-2.result c.args.address) (omega arith) within is.halved
    (ap (λ n. nat_lt n c.args.address) c.end_of-2.ensures) (c.step_below.ensures.value fits) parted
