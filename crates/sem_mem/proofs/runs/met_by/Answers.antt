use Rattle.std.proofs.Common.{◌≡◌, ◌+◌, ◌≤◌, drop, length}
use Rattle.std.specs.List.{prefix_len}
use Rattle.std.specs.Prelude.{nat_lt, true, false}
use Rattle.std.specs.List.Sorted.{IsPartitionPoint}
use Rattle.std.proofs.lemmas.List.Sorted.{IsPartitionedBy-ltb}
use Rattle.std.proofs.lemmas.List.{take_rest}
use Rattle.sem_access.specs.declared.run.Run.{Run}
use Rattle.sem_mem.proofs.KeptRuns.{each-run}
use Rattle.sem_mem.proofs.Meeting.{walked, met-part, runs-dropped, bases-rise, ends-rise}
use Rattle.sem_mem.proofs.runs.met_by.Goals as goal

-- the first run that does not end before the beginning, and from there on the first that begins behind the end
pub returns : goal.returns
returns c =
    let rs = c.args.runs.now in
    let i = c.count_ended-from.result in
    let k = c.count_before.result in
    let first : IsPartitionPoint (λ (r : Run). nat_lt (r.base + r.len) c.args.base ≡ true) (λ (r : Run). nat_lt (r.base + r.len) c.args.base ≡ false) rs i =
    c.count_ended-from.ensures.parted (IsPartitionedBy-ltb (λ (r : Run). r.base + r.len) rs c.args.base (ends-rise rs c.requires)) in
    let front : k ≡ prefix_len (λ (r : Run). nat_lt r.base c.args.end) (drop i rs) = rw (take_rest rs i) at c.count_before.ensures.front in
    let short : k ≤ length (drop i rs) = rw (take_rest rs i) at c.count_before.ensures.within in
    let second : IsPartitionPoint (λ (r : Run). nat_lt r.base c.args.end ≡ true) (λ (r : Run). nat_lt r.base c.args.end ≡ false) (drop i rs) k =
    walked (λ (r : Run). nat_lt r.base c.args.end) (drop i rs) k front
    (IsPartitionedBy-ltb (λ (r : Run). r.base) (drop i rs) c.args.end (bases-rise (drop i rs) (runs-dropped i rs c.requires))) in
    met-part rs c.args.base c.args.end i k c.count_ended-from.ensures.within short first second

pub count_ended-from-requires : goal.count_ended-from-requires
count_ended-from-requires c = each-run c.args.runs.now c.requires
