use Rattle.std.proofs.Common.{◌≡◌, ◌<◌, ◌∙◌, true, List, [], ◌∷◌, length, map, length-append, refl, sym, ap, subst, arith}
use Rattle.std.specs.List.{flat_map}
use Rattle.rand_pcg.specs.Pcg.{pcg32}
use Rattle.sem_machine.specs.Machine.{entry_of, is_enabled}
use Rattle.sem_machine.specs.Seeded.{entry_limit, picked}
use Rattle.sem_kernel.specs.KernelValue.{KernelValue}
use Rattle.sem_kernel.specs.Worlds.{world_of}
use Rattle.sem_serial.proofs.Counting.{few-listed}
use Rattle.sem_serial.proofs.Renewing.{together}
use Rattle.sem_serial.proofs.Running.{picked-enabled, quiet-drained, quiet-after, to-come-more, part-of}
use Rattle.sem_revoke.proofs.Completing.{quiet-complete}
use Rattle.sem_serial.proofs.Quieting.{goes-on}
use Rattle.sem_serial.proofs.drains.run_on.Goals as goal

-- the events are few
pub event_count-count-requires : goal.event_count-count-requires
event_count-count-requires c =
    let few = few-listed c.args.setup.now c.keeps_its_rules.ensures (λ list. list.items) (world_of c.args.kernels.now.items c.args.fabric.now)
    c.args.lists.now.items c.requires.listed in
    rw c.as_slice.ensures.value (omega (arith, few))

pub pick-requires : goal.pick-requires
pick-requires c = rw c.as_slice-in-loop-event.ensures.value c.loop-event.invariant.1

pub renew-requires-clause-count : goal.renew-requires-clause-count
renew-requires-clause-count c = c.loop-event.invariant.1

-- no event is enabled
pub returns-clause-drained : goal.returns-clause-drained
returns-clause-drained c =
    let T = c.args.setup.now in
    let l = c.loop-event in
    let told = sym (c.pick.ensures.event ∙ ap (picked (pcg32 l.draws).0) (ap (flat_map (λ list. list.items)) c.as_slice-in-loop-event.ensures.value
    ∙ together (λ list. list.items) T (world_of l.kernels.items l.fabric) l.lists.items l.invariant.0.listed)) in
    quiet-drained T c.args.fabric.now.journal c.args.draws.now l.kernels.items l.fabric (map (λ list. list.items) l.lists.items) l.draws l.invariant.0 (told
    ∙ c.in_default.is)

pub returns-clause-complete : goal.returns-clause-complete
returns-clause-complete c =
    let T = c.args.setup.now in
    let l = c.loop-event in
    let told = sym (c.pick.ensures.event ∙ ap (picked (pcg32 l.draws).0) (ap (flat_map (λ list. list.items)) c.as_slice-in-loop-event.ensures.value
    ∙ together (λ list. list.items) T (world_of l.kernels.items l.fabric) l.lists.items l.invariant.0.listed)) in
    quiet-complete T c.keeps_its_rules.ensures l.fabric.journal l.invariant.0.stand.schedule
    (quiet-after T c.args.fabric.now.journal c.args.draws.now l.kernels.items l.fabric (map (λ list. list.items) l.lists.items) l.draws l.invariant.0 (told
    ∙ c.in_default.is))

-- what is picked is enabled
pub make_entry-requires-clause-enabled : goal.make_entry-requires-clause-enabled
make_entry-requires-clause-enabled c =
    let T = c.args.setup.now in
    let l = c.loop-event in
    let told = sym (c.pick.ensures.event ∙ ap (picked (pcg32 l.draws).0) (ap (flat_map (λ list. list.items)) c.as_slice-in-loop-event.ensures.value
    ∙ together (λ list. list.items) T (world_of l.kernels.items l.fabric) l.lists.items l.invariant.0.listed)) in
    picked-enabled T (world_of l.kernels.items l.fabric) (pcg32 l.draws).0 c.in-Some.event (told ∙ c.in-Some.is)

-- one more entry
pub loop-event-preserved : goal.loop-event-preserved
loop-event-preserved c =
    let T = c.args.setup.now in
    let l = c.loop-event in
    let told = sym (c.pick.ensures.event ∙ ap (picked (pcg32 l.draws).0) (ap (flat_map (λ list. list.items)) c.as_slice-in-loop-event.ensures.value
    ∙ together (λ list. list.items) T (world_of l.kernels.items l.fabric) l.lists.items l.invariant.0.listed)) in
    let on = picked-enabled T (world_of l.kernels.items l.fabric) (pcg32 l.draws).0 c.in-Some.event (told ∙ c.in-Some.is) in
    let left : length l.fabric.journal < entry_limit T =
    goes-on T c.keeps_its_rules.ensures l.fabric.journal l.invariant.0.stand.schedule c.in-Some.event
    (subst (λ V. is_enabled T V c.in-Some.event ≡ true) l.invariant.0.stand.world on) in (
      record {
        stand = c.make_entry.ensures.stand;
        listed = rw c.as_slice-in-Some.ensures.value at c.in_ok-count.ensures.listed;
        to_come = to-come-more T c.args.fabric.now.journal c.args.draws.now l.kernels.items l.fabric (map (λ list. list.items) l.lists.items) l.draws
            l.invariant.0 c.in-Some.event (told
            ∙ c.in-Some.is) left (entry_of T (world_of l.kernels.items l.fabric) c.in-Some.event) refl c.make_entry.new.fabric.journal
            c.in_ok-replied.ensures.journal c.pick.new.draws c.in-Some.ensures.draws;
      },
      c.in_ok-count.ensures.count,
    )

-- the event happened, and there was no memory for the lists
pub returns-in_err-count-clause-prefix : goal.returns-in_err-count-clause-prefix
returns-in_err-count-clause-prefix c =
    let T = c.args.setup.now in
    let l = c.loop-event in
    let told = sym (c.pick.ensures.event ∙ ap (picked (pcg32 l.draws).0) (ap (flat_map (λ list. list.items)) c.as_slice-in-loop-event.ensures.value
    ∙ together (λ list. list.items) T (world_of l.kernels.items l.fabric) l.lists.items l.invariant.0.listed)) in
    let on = picked-enabled T (world_of l.kernels.items l.fabric) (pcg32 l.draws).0 c.in-Some.event (told ∙ c.in-Some.is) in
    let left : length l.fabric.journal < entry_limit T =
    goes-on T c.keeps_its_rules.ensures l.fabric.journal l.invariant.0.stand.schedule c.in-Some.event
    (subst (λ V. is_enabled T V c.in-Some.event ≡ true) l.invariant.0.stand.world on) in
    part-of T c.args.fabric.now.journal c.args.draws.now c.make_entry.new.fabric.journal c.pick.new.draws
    (to-come-more T c.args.fabric.now.journal c.args.draws.now l.kernels.items l.fabric (map (λ list. list.items) l.lists.items) l.draws l.invariant.0
    c.in-Some.event (told ∙ c.in-Some.is) left (entry_of T (world_of l.kernels.items l.fabric) c.in-Some.event) refl c.make_entry.new.fabric.journal
    c.in_ok-replied.ensures.journal c.pick.new.draws c.in-Some.ensures.draws)

-- the lists were those before the event
pub renew-requires-clause-happened : goal.renew-requires-clause-happened
renew-requires-clause-happened c =
    let T = c.args.setup.now in
    let l = c.loop-event in
    let told = sym (c.pick.ensures.event ∙ ap (picked (pcg32 l.draws).0) (ap (flat_map (λ list. list.items)) c.as_slice-in-loop-event.ensures.value
    ∙ together (λ list. list.items) T (world_of l.kernels.items l.fabric) l.lists.items l.invariant.0.listed)) in (
      world_of l.kernels.items l.fabric,
      picked-enabled T (world_of l.kernels.items l.fabric) (pcg32 l.draws).0 c.in-Some.event (told ∙ c.in-Some.is),
      ap (λ (ks : List KernelValue). world_of ks c.make_entry.new.fabric) c.as_slice-in-Some.ensures.value ∙ c.in_ok-replied.ensures.after,
      c.in_ok-replied.ensures.replied,
      l.invariant.0.listed,
    )

-- a schedule is no longer than it can be
pub loop-event-smaller : goal.loop-event-smaller
loop-event-smaller c =
    let T = c.args.setup.now in
    let l = c.loop-event in
    let told = sym (c.pick.ensures.event ∙ ap (picked (pcg32 l.draws).0) (ap (flat_map (λ list. list.items)) c.as_slice-in-loop-event.ensures.value
    ∙ together (λ list. list.items) T (world_of l.kernels.items l.fabric) l.lists.items l.invariant.0.listed)) in
    let on = picked-enabled T (world_of l.kernels.items l.fabric) (pcg32 l.draws).0 c.in-Some.event (told ∙ c.in-Some.is) in
    let left : length l.fabric.journal < entry_limit T =
    goes-on T c.keeps_its_rules.ensures l.fabric.journal l.invariant.0.stand.schedule c.in-Some.event
    (subst (λ V. is_enabled T V c.in-Some.event ≡ true) l.invariant.0.stand.world on) in
    let long = ap length c.in_ok-replied.ensures.journal
    ∙ length-append l.fabric.journal (entry_of T (world_of l.kernels.items l.fabric) c.in-Some.event ∷ []) in
    omega (arith, left, long)
