use Rattle.std.proofs.Common.{◌≤◌, not, length, refl, arith, rules}
use Rattle.std.proofs.lemmas.List.Filters.{length-filter_both}
use Rattle.sem_key.specs.CapList.{is_marked_by, marked_by}
use Rattle.sem_store_tests.proofs.capabilities.sweep.Goals as goal

-- no more are marked than are held
pub remove_marked-requires : goal.remove_marked-requires
remove_marked-requires c =
    let both = length-filter_both (is_marked_by c.args.job) (λ x. not (is_marked_by c.args.job x)) (λ x. refl) c.args.caps.now.caps in
    let few : length (marked_by c.args.job c.args.caps.now.caps) ≤ length c.args.caps.now.caps = omega arith in
    search rules

-- no more are marked than are held
pub remove_marked_of-requires : goal.remove_marked_of-requires
remove_marked_of-requires c =
    let both = length-filter_both (is_marked_by c.args.job) (λ x. not (is_marked_by c.args.job x)) (λ x. refl) c.args.caps.now.caps in
    let few : length (marked_by c.args.job c.args.caps.now.caps) ≤ length c.args.caps.now.caps = omega arith in
    search rules
