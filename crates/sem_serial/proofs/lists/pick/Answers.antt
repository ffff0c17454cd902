use Rattle.std.proofs.Common.{◌%◌, ◌∙◌, slice_get, Option, Some, None, sym, ap, arith}
use Rattle.std.specs.Prelude.{OnSome}
use Rattle.std.specs.List.{flat_map}
use Rattle.std.proofs.lemmas.List.Concat.{length-flat_map}
use Rattle.rand_pcg.specs.Pcg.{pcg32}
use Rattle.sem_serial.proofs.Running.{none-left, picked-nothing}
use Rattle.sem_serial.proofs.lists.pick.Goals as goal

-- what is so at all is so where something is picked
on-some : {X P : Type 0} (o : Option X) → P → OnSome o P
on-some (Some x) so = so
on-some None so = tt

pub returns-then-count-eq0-clause-event : goal.returns-then-count-eq0-clause-event
returns-then-count-eq0-clause-event c =
    let count = c.requires ∙ sym (length-flat_map (λ list. list.items) c.args.lists.now) in
    sym (picked-nothing (pcg32 c.args.draws.now).0 (flat_map (λ list. list.items) c.args.lists.now)
    (none-left (flat_map (λ list. list.items) c.args.lists.now) (omega (arith, count, c.if-count-eq0.true))))

pub returns-clause-event : goal.returns-clause-event
returns-clause-event c =
    let count = c.requires ∙ sym (length-flat_map (λ list. list.items) c.args.lists.now) in
    c.event_at.ensures ∙ (ap (slice_get (flat_map (λ list. list.items) c.args.lists.now)) c.pick_place.ensures.place
    ∙ ap (λ n. slice_get (flat_map (λ list. list.items) c.args.lists.now) ((pcg32 c.args.draws.now).0 % n)) count)

pub returns-clause-draws : goal.returns-clause-draws
returns-clause-draws c = on-some c.event_at.result c.pick_place.ensures.draws
