use Rattle.std.proofs.Common.{◌++◌, List, sym, ap, ◌∙◌, arith, append-nil}
use Rattle.std.proofs.lemmas.List.{take_all}
use Rattle.sem_key.specs.Capability.{Capability}
use Rattle.sem_grants.proofs.Reading.{gathered_more}
use Rattle.sem_query.specs.Reaching.{held_of}
use Rattle.sem_query.proofs.Pushing.{held-joins}
use Rattle.sem_query.proofs.reach.push_held_of.Goals as goal

pub loop-place-init : goal.loop-place-init
loop-place-init c = sym (append-nil c.args.keys.now.items)

pub loop-place-preserved : goal.loop-place-preserved
loop-place-preserved c = gathered_more (λ (cs : List Capability). held_of cs c.args.vpe) (held-joins c.args.vpe) c.args.kernel.now.side.caps c.loop-place.place
    c.args.keys.now.items c.loop-place.keys.items c.push_held_at.new.keys.items c.loop-place.invariant c.in_ok-push_held_at.ensures

pub returns : goal.returns
returns c = c.loop-place.invariant
    ∙ ap (λ (cs : List Capability). c.args.keys.now.items ++ held_of cs c.args.vpe)
    (take_all c.loop-place.place c.args.kernel.now.side.caps (omega (arith, c.capability_count-place-end.ensures, c.loop-place-test.false)))
