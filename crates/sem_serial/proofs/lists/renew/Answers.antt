use Rattle.std.proofs.Common.{◌≡◌, map, Some, sym, ◌∙◌, inl, ◌⊎◌, arith}
use Rattle.sem_kernel.specs.Listing.{enabled_of}
use Rattle.sem_kernel.specs.Worlds.{world_of}
use Rattle.sem_kernel.proofs.Happened.{enabled-few}
use Rattle.sem_serial.specs.Listed.{touched_peer}
use Rattle.sem_serial.proofs.Counting.{few-listed}
use Rattle.sem_serial.proofs.Renewing.{some-same, none-some, listed-count, renewed-count, enabled-names, peer-few, renewing-start, renewing-one, renewing-all}
use Rattle.sem_serial.proofs.lists.renew.Goals as goal

pub renew_list-requires-clause-kernel : goal.renew_list-requires-clause-kernel
renew_list-requires-clause-kernel c =
    let (before, enabled, happened, told, listed) = c.requires.happened in
    let few = enabled-few c.args.setup.now before c.args.event enabled in
    let count = listed-count (λ list. list.items) c.args.setup.now before c.args.lists.now.items listed in
    omega (arith, few, count)

pub touched_peer-requires-clause-own : goal.touched_peer-requires-clause-own
touched_peer-requires-clause-own c =
    let (before, enabled, happened, told, listed) = c.requires.happened in
    enabled-few c.args.setup.now before c.args.event enabled

pub touched_peer-requires-clause-peer : goal.touched_peer-requires-clause-peer
touched_peer-requires-clause-peer c =
    let (before, enabled, happened, told, listed) = c.requires.happened in
    enabled-names c.args.setup.now before c.args.event enabled

-- no other kernel is touched
pub returns-in_default-clause-listed : goal.returns-in_default-clause-listed
returns-in_default-clause-listed c =
    let (before, enabled, happened, told, listed) = c.requires.happened in
    let T = c.args.setup.now in
    let W = world_of c.args.kernels.now c.args.fabric.now in
    let e = c.args.event in
    let none = sym c.touched_peer.ensures ∙ c.in_default.is in
    let start = renewing-start T before W e c.args.replied (map (λ list. list.items) c.args.lists.now.items) happened told (sym c.comes_due.ensures
    ∙ c.if-comes_due.false) listed in
    renewing-all T W (λ k. touched_peer T W e.kernel e.act ≡ Some k) (map (λ list. list.items) c.renew_list.new.lists.items) (λ k some. none-some (sym none
    ∙ some))
    (renewing-one T W (λ k. (k ≡ e.kernel) ⊎ (touched_peer T W e.kernel e.act ≡ Some k)) (λ k. touched_peer T W e.kernel e.act ≡ Some k) e.kernel
    (map (λ list. list.items) c.args.lists.now.items) (map (λ list. list.items) c.renew_list.new.lists.items) (λ k waits. waits) start
    (enabled-few T before e enabled) c.in_ok-own.ensures.renewed)

pub renew_list-requires-2-clause-kernel : goal.renew_list-requires-2-clause-kernel
renew_list-requires-2-clause-kernel c =
    let (before, enabled, happened, told, listed) = c.requires.happened in
    let T = c.args.setup.now in
    let W = world_of c.args.kernels.now c.args.fabric.now in
    let few = peer-few T W c.args.event.kernel c.args.event.act c.in-Some.peer (enabled-names T before c.args.event enabled) (sym c.touched_peer.ensures
    ∙ c.in-Some.is) in
    let count = listed-count (λ list. list.items) T before c.args.lists.now.items listed in
    let same = renewed-count (λ list. list.items) c.args.lists.now.items c.renew_list.new.lists.items c.args.event.kernel (enabled_of T W c.args.event.kernel)
    c.in_ok-own.ensures.renewed in
    omega (arith, few, count, same)

-- the other kernel's list is renewed too
pub returns-clause-listed : goal.returns-clause-listed
returns-clause-listed c =
    let (before, enabled, happened, told, listed) = c.requires.happened in
    let T = c.args.setup.now in
    let W = world_of c.args.kernels.now c.args.fabric.now in
    let e = c.args.event in
    let one = sym c.touched_peer.ensures ∙ c.in-Some.is in
    let few = peer-few T W e.kernel e.act c.in-Some.peer (enabled-names T before e enabled) one in
    let start = renewing-start T before W e c.args.replied (map (λ list. list.items) c.args.lists.now.items) happened told (sym c.comes_due.ensures
    ∙ c.if-comes_due.false) listed in
    let first = renewing-one T W (λ k. (k ≡ e.kernel) ⊎ (touched_peer T W e.kernel e.act ≡ Some k)) (λ k. touched_peer T W e.kernel e.act ≡ Some k) e.kernel
    (map (λ list. list.items) c.args.lists.now.items) (map (λ list. list.items) c.renew_list.new.lists.items) (λ k waits. waits) start
    (enabled-few T before e enabled) c.in_ok-own.ensures.renewed in
    renewing-all T W (λ k. ⊥) (map (λ list. list.items) c.renew_list-2.new.lists.items) (λ k bad. bad)
    (renewing-one T W (λ k. touched_peer T W e.kernel e.act ≡ Some k) (λ k. ⊥) c.in-Some.peer (map (λ list. list.items) c.renew_list.new.lists.items)
    (map (λ list. list.items) c.renew_list-2.new.lists.items) (λ k some. inl (some-same (sym some ∙ one))) first few c.in_ok-both.ensures.renewed)

-- what was listed is few
pub event_count-requires : goal.event_count-requires
event_count-requires c =
    let few = few-listed c.args.setup.now c.keeps_its_rules.ensures (λ list. list.items) (world_of c.args.kernels.now c.args.fabric.now)
    c.in_ok-lists.field-0.items c.in_ok-lists.ensures in
    rw c.as_slice.ensures.value (omega (arith, few))

pub renew_list-requires-clause-few : goal.renew_list-requires-clause-few
renew_list-requires-clause-few c =
    let (before, enabled, happened, told, listed) = c.requires.happened in
    let few = few-listed c.args.setup.now c.keeps_its_rules.ensures (λ list. list.items) before c.args.lists.now.items listed in
    omega (arith, few, c.requires.count)

pub renew_list-requires-2-clause-few : goal.renew_list-requires-2-clause-few
renew_list-requires-2-clause-few c =
    let (before, enabled, happened, told, listed) = c.requires.happened in
    let few = few-listed c.args.setup.now c.keeps_its_rules.ensures (λ list. list.items) before c.args.lists.now.items listed in
    let more = c.in_ok-own.ensures.few in
    omega (arith, few, c.requires.count, more)
