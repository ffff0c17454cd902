use Rattle.std.proofs.Common.{◌+◌, ◌-◌, ◌∙◌, drop, Some, slice_get, sym, ap, arith}
use Rattle.std.specs.List.{flat_map}
use Rattle.sem_serial.proofs.Renewing.{flat-at, flat-here, flat-later}
use Rattle.sem_serial.proofs.lists.event_at.Goals as goal

pub returns-then-left-len : goal.returns-then-left-len
returns-then-left-len c =
    let list = c.list-item.result in
    let rest = flat_map (λ list. list.items) (drop (c.loop-list.list-index + 1) c.args.lists.now) in
    sym (c.loop-list.invariant
    ∙ (ap (λ es. slice_get es c.loop-list.left) (flat-at (λ list. list.items) c.args.lists.now c.loop-list.list-index list (omega arith) c.list-item.is)
    ∙ (flat-here list.items rest c.loop-list.left (omega (arith, c.len.ensures)) c.index.result.now ∙ ap Some (sym c.index.ensures))))

pub loop-list-preserved : goal.loop-list-preserved
loop-list-preserved c =
    let list = c.list-item.result in
    let rest = flat_map (λ list. list.items) (drop (c.loop-list.list-index + 1) c.args.lists.now) in
    c.loop-list.invariant
    ∙ (ap (λ es. slice_get es c.loop-list.left) (flat-at (λ list. list.items) c.args.lists.now c.loop-list.list-index list (omega arith) c.list-item.is)
    ∙ (flat-later list.items rest c.loop-list.left (omega (arith, c.len.ensures))
    ∙ ap (λ n. slice_get rest (c.loop-list.left - n)) (omega (arith, c.len-left.ensures))))
