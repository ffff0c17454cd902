use Rattle.std.proofs.Common.{◌≤◌, List, set, map, ◌++◌, length, ap, subst, sym, ◌∙◌, arith}
use Rattle.std.proofs.lemmas.List.{map-set}
use Rattle.sem_msg.specs.declared.event.Event.{Event}
use Rattle.sem_kernel.specs.Listing.{enabled_of}
use Rattle.sem_kernel.specs.Worlds.{world_of}
use Rattle.sem_serial.specs.Listed.{most_enabled}
use Rattle.sem_serial.proofs.Counting.{few-enabled, recounted}
use Rattle.sem_serial.proofs.lists.renew_list.Goals as goal

-- the events of the list were counted
pub overflow_sub-result : goal.overflow_sub-result
overflow_sub-result c =
    let both = recounted (λ list. list.items) c.args.lists.now.items c.args.kernel c.index_mut-list.result.now c.append_enabled.new.out c.args.count
    c.requires.kernel c.index_mut-list.ensures.value c.requires.count in
    let le = both.0 in
    omega (arith, le, c.len-before.ensures)

pub overflow_add-result : goal.overflow_add-result
overflow_add-result c =
    let T = c.args.setup.now in
    let W = world_of c.args.kernels.now c.args.fabric.now in
    let is = c.in_ok-append_enabled.ensures ∙ ap (λ es. es ++ enabled_of T W c.args.kernel) c.clear.ensures.items in
    let new : length c.append_enabled.new.out.items ≤ most_enabled =
    subst (λ (es : List Event). length es ≤ most_enabled) (sym is) (few-enabled T c.keeps_its_rules.ensures W c.args.kernel) in
    let few = c.requires.few in
    omega (arith, new, few, c.len.ensures)

pub returns-clause-renewed : goal.returns-clause-renewed
returns-clause-renewed c =
    let all = map (λ list. list.items) c.args.lists.now.items in
    map-set (λ list. list.items) c.args.lists.now.items c.args.kernel c.append_enabled.new.out
    ∙ ap (set all c.args.kernel) (c.in_ok-append_enabled.ensures
    ∙ ap (λ es. es ++ enabled_of c.args.setup.now (world_of c.args.kernels.now c.args.fabric.now) c.args.kernel) c.clear.ensures.items)

pub returns-clause-count : goal.returns-clause-count
returns-clause-count c =
    let both = recounted (λ list. list.items) c.args.lists.now.items c.args.kernel c.index_mut-list.result.now c.append_enabled.new.out c.args.count
    c.requires.kernel c.index_mut-list.ensures.value c.requires.count in
    let le = both.0 in
    let sum = both.1 in
    omega (arith, le, sum, c.len-before.ensures, c.len.ensures)

-- a kernel has few enabled events
pub returns-clause-few : goal.returns-clause-few
returns-clause-few c =
    let T = c.args.setup.now in
    let W = world_of c.args.kernels.now c.args.fabric.now in
    let is = c.in_ok-append_enabled.ensures ∙ ap (λ es. es ++ enabled_of T W c.args.kernel) c.clear.ensures.items in
    let new : length c.append_enabled.new.out.items ≤ most_enabled =
    subst (λ (es : List Event). length es ≤ most_enabled) (sym is) (few-enabled T c.keeps_its_rules.ensures W c.args.kernel) in
    omega (arith, new, c.len.ensures)
