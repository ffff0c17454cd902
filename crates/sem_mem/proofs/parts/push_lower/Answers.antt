use Rattle.std.proofs.Common.{◌≡◌, ◌+◌, ◌++◌, List, take, nat_lt, true, false, sym, ◌∙◌, ap, subst, append_assoc}
use Rattle.std.specs.List.{filter_map}
use Rattle.std.specs.List.Sorted.{IsPartitionPoint}
use Rattle.std.specs.Option.{option_to_list}
use Rattle.std.specs.Prelude.{OnOk}
use Rattle.std.proofs.lemmas.List.Elements.{All-get_or}
use Rattle.std.proofs.lemmas.List.Sorted.{IsPartitionedBy-ltb}
use Rattle.sem_access.specs.declared.run.Run.{Run}
use Rattle.sem_access.specs.Runs.{IsValidRun}
use Rattle.sem_mem.specs.Writing.{lower_part}
use Rattle.sem_mem.proofs.KeptRuns.{each-run}
use Rattle.sem_mem.proofs.Meeting.{ends-rise, lower-all, lower-at}
use Rattle.sem_mem.proofs.parts.push_lower.Goals as goal

pub count_ended-whole-requires : goal.count_ended-whole-requires
count_ended-whole-requires c = each-run c.args.runs.now c.requires

pub lower_part-requires : goal.lower_part-requires
lower_part-requires c =
    let found = c.in-Some.ensures.lookup in
    subst IsValidRun (sym found.1)
    (All-get_or IsValidRun c.args.runs.now c.count_ended-whole.result c.in-Some.run'.now found.3.0 (each-run c.args.runs.now c.requires))

-- the first runs, and the part of one more
pub returns-in-Some : goal.returns-in-Some
returns-in-Some c =
    let rs = c.args.runs.now in
    let i = c.count_ended-whole.result in
    let old = c.args.out.now.items in
    let found = c.in-Some.ensures.lookup in
    let point : IsPartitionPoint (λ (r : Run). nat_lt (r.base + r.len) c.args.end ≡ true) (λ (r : Run). nat_lt (r.base + r.len) c.args.end ≡ false) rs i =
    c.count_ended-whole.ensures.parted (IsPartitionedBy-ltb (λ (r : Run). r.base + r.len) rs c.args.end (ends-rise rs c.requires)) in
    let part = c.lower_part.ensures ∙ ap (lower_part c.args.end) found.1 in
    let told : c.extend_from_slice.new.self.items ++ option_to_list c.lower_part.result ≡ old ++ filter_map (lower_part c.args.end) rs =
    ap (λ (xs : List Run). xs ++ option_to_list c.lower_part.result) c.in_ok-extend_from_slice.ensures.items
    ∙ (append_assoc old (take i rs) (option_to_list c.lower_part.result)
    ∙ ap (λ (xs : List Run). old ++ xs)
    (ap (λ o. take i rs ++ option_to_list o) part ∙ sym (lower-at c.args.end i rs c.requires point c.in-Some.run'.now found.3.0))) in
    subst (λ (xs : List Run). OnOk c.push_part.result (c.push_part.new.out.items ≡ xs)) told c.push_part.ensures

-- or all runs
pub returns-in-None : goal.returns-in-None
returns-in-None c =
    let rs = c.args.runs.now in
    let i = c.count_ended-whole.result in
    let point : IsPartitionPoint (λ (r : Run). nat_lt (r.base + r.len) c.args.end ≡ true) (λ (r : Run). nat_lt (r.base + r.len) c.args.end ≡ false) rs i =
    c.count_ended-whole.ensures.parted (IsPartitionedBy-ltb (λ (r : Run). r.base + r.len) rs c.args.end (ends-rise rs c.requires)) in
    c.in_ok-extend_from_slice.ensures.items
    ∙ ap (λ (xs : List Run). c.args.out.now.items ++ xs) (sym (lower-all c.args.end i rs c.requires point c.in-None.ensures.lookup.3))
