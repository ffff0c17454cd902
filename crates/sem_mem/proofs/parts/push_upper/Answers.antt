use Rattle.std.proofs.Common.{◌≡◌, ◌+◌, ◌++◌, List, drop, nat_lt, true, false, sym, ◌∙◌, ap, subst, append_assoc, append-nil}
use Rattle.std.specs.List.{filter_map}
use Rattle.std.specs.List.Sorted.{IsPartitionPoint}
use Rattle.std.specs.Option.{option_to_list}
use Rattle.std.proofs.lemmas.List.{take_rest}
use Rattle.std.proofs.lemmas.List.Elements.{All-get_or}
use Rattle.std.proofs.lemmas.List.Sorted.{IsPartitionedBy-ltb}
use Rattle.sem_access.specs.declared.run.Run.{Run}
use Rattle.sem_access.specs.Runs.{IsValidRun}
use Rattle.sem_mem.specs.Writing.{upper_part}
use Rattle.sem_mem.proofs.KeptRuns.{each-run}
use Rattle.sem_mem.proofs.Meeting.{ends-rise, upper-all, upper-at, added}
use Rattle.sem_mem.proofs.parts.push_upper.Goals as goal

pub count_ended-ended-requires : goal.count_ended-ended-requires
count_ended-ended-requires c = each-run c.args.runs.now c.requires

pub upper_part-requires : goal.upper_part-requires
upper_part-requires c =
    let found = c.in-Some.ensures.lookup in
    subst IsValidRun (sym found.1)
    (All-get_or IsValidRun c.args.runs.now c.count_ended-ended.result c.in-Some.run'.now found.3.0 (each-run c.args.runs.now c.requires))

-- the part of a run, and those behind it
pub returns-in_ok-push_part-in-Some : goal.returns-in_ok-push_part-in-Some
returns-in_ok-push_part-in-Some c =
    let rs = c.args.runs.now in
    let i = c.count_ended-ended.result in
    let old = c.args.out.now.items in
    let found = c.in-Some.ensures.lookup in
    let rest = drop (i + 1) rs in
    let point : IsPartitionPoint (λ (r : Run). nat_lt (r.base + r.len) c.args.from ≡ true) (λ (r : Run). nat_lt (r.base + r.len) c.args.from ≡ false) rs i =
    c.count_ended-ended.ensures.parted (IsPartitionedBy-ltb (λ (r : Run). r.base + r.len) rs c.args.from (ends-rise rs c.requires)) in
    let part = c.upper_part.ensures ∙ ap (upper_part c.args.from) found.1 in
    let told : c.push_part.new.out.items ++ rest ≡ old ++ filter_map (upper_part c.args.from) rs =
    ap (λ (xs : List Run). xs ++ rest) c.in_ok-push_part-in-Some.ensures
    ∙ (append_assoc old (option_to_list c.upper_part.result) rest
    ∙ ap (λ (xs : List Run). old ++ xs)
    (ap (λ o. option_to_list o ++ rest) part ∙ sym (upper-at c.args.from i rs c.requires point c.in-Some.run'.now found.3.0))) in
    added c.extend_from_slice.result c.push_part.new.out.items rest (old ++ filter_map (upper_part c.args.from) rs) c.extend_from_slice.new.self.items told
    (rw (take_rest rs (i + 1)) at c.extend_from_slice.ensures.items)

-- or nothing
pub returns-in-None : goal.returns-in-None
returns-in-None c =
    let rs = c.args.runs.now in
    let i = c.count_ended-ended.result in
    let point : IsPartitionPoint (λ (r : Run). nat_lt (r.base + r.len) c.args.from ≡ true) (λ (r : Run). nat_lt (r.base + r.len) c.args.from ≡ false) rs i =
    c.count_ended-ended.ensures.parted (IsPartitionedBy-ltb (λ (r : Run). r.base + r.len) rs c.args.from (ends-rise rs c.requires)) in
    sym (ap (λ (xs : List Run). c.args.out.now.items ++ xs) (upper-all c.args.from i rs c.requires point c.in-None.ensures.lookup.3)
    ∙ append-nil c.args.out.now.items)
