use Rattle.std.proofs.Common.{◌≡◌, ◌-◌, [], ◌∷◌, ◌++◌, map, length, sym, ◌∙◌, ap, arith, rules}
use Rattle.std.proofs.lemmas.Option.{same_Some}
use Rattle.sem_key.specs.declared.object.Cap.{Cap}
use Rattle.sem_key.specs.Capability.{capability_of}
use Rattle.sem_caps.specs.CapStore.{key_and_selector}
use Rattle.sem_caps.specs.Stored.{row_at}
use Rattle.sem_caps.proofs.Taken.{spots-left, rows-left, placed-left}
use Rattle.sem_caps.proofs.TakenAlone.{spots-alone, caps-alone, found, taking-alone, links-there, links-gone}
use Rattle.sem_caps.proofs.sweeps.take_alone.Goals as goal

-- its links were counted
pub overflow_sub-result : goal.overflow_sub-result
overflow_sub-result c =
    let spot = c.remove-spot.result in
    let row : c.remove-cap.result ≡ row_at c.args.slab.now spot =
    same_Some _ _ (sym (rw c.place.ensures at c.remove-cap.ensures.value)
    ∙ found c.args.job c.requires.can.placed c.requires.alone spot c.remove-spot.ensures.value) in
    let le = links-there c.args.job c.requires.can.placed c.requires.alone spot c.remove-spot.ensures.value c.args.links c.requires.can.counted in
    let same = ap (λ (r : Cap). length r.children.keys) row in
    let count = c.child_count.ensures.count in
    omega (arith, le, same, count)

-- nothing else was taken out
pub returns : goal.returns
returns c =
    let spot = c.remove-spot.result in
    let row : c.remove-cap.result ≡ row_at c.args.slab.now spot =
    same_Some _ _ (sym (rw c.place.ensures at c.remove-cap.ensures.value)
    ∙ found c.args.job c.requires.can.placed c.requires.alone spot c.remove-spot.ensures.value) in
    let taking =
    taking-alone c.args.job c.requires.can.placed c.requires.alone spot c.remove-spot.ensures.value c.remove-cap.new.self
    (rw c.place.ensures at c.remove-cap.ensures.updates) c.remove-cap.ensures.len c.remove-cap.ensures.capacity in
    let spots = c.remove-spot.ensures.items ∙ spots-alone c.args.job c.requires.can.placed c.requires.alone spot c.remove-spot.ensures.value in
    let le = links-there c.args.job c.requires.can.placed c.requires.alone spot c.remove-spot.ensures.value c.args.links c.requires.can.counted in
    let same = ap (λ (r : Cap). length r.children.keys) row in
    let count = c.child_count.ensures.count in
    record {
      gone = c.push_reserved.ensures.items
          ∙ (ap (λ (r : Cap). c.args.gone.now.items ++ key_and_selector (capability_of r) ∷ []) row
          ∙ ap (λ cs. c.args.gone.now.items ++ map key_and_selector cs)
          (sym (caps-alone c.args.job c.requires.can.placed c.requires.alone spot c.remove-spot.ensures.value)));
      spots = spots;
      rows = rw spots (rw (spots-left c.requires.can.placed taking (omega arith)) at (rows-left c.requires.can.placed taking (omega arith)));
      placed = rw spots (rw (spots-left c.requires.can.placed taking (omega arith)) at (placed-left c.requires.can.placed taking (omega arith)));
      links = links-gone c.args.job c.requires.can.placed c.requires.alone spot c.remove-spot.ensures.value c.args.links (c.args.links - c.child_count.result)
          c.requires.can.counted
          (omega (arith, le, same, count));
      slab_capacity = search rules;
      spots_capacity = search rules;
      gone_capacity = search rules;
    }
