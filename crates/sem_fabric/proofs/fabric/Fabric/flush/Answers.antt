use Rattle.std.specs.Prelude.{IsOk, ◌↔◌}
use Rattle.std.proofs.Common.{◌≡◌, ◌<◌, length, subst, List, [], ◌∷◌, ◌++◌, sym, ◌∙◌, ap}
use Rattle.sem_msg.specs.declared.message.Message.{Message}
use Rattle.sem_msg.specs.Fabric.{link_in, link_put}
use Rattle.sem_fabric.specs.Links.{link_to, with_link_to}
use Rattle.sem_fabric.specs.contracts.fabric.Fabric.{the_view}
use Rattle.sem_fabric.proofs.LinkRows.{on-ok}
use Rattle.sem_fabric.proofs.FabricRows.{links_of, row-wide, link-here, window-here, rows-put, rows-windows, rows-square, rows-pushed}
use Rattle.sem_fabric.proofs.Marks.{row-wide-new, rows-marked}
use Rattle.sem_fabric.proofs.fabric.Fabric.flush.Goals as goal

pub push-pushed-requires-clause-to_kernel : goal.push-pushed-requires-clause-to_kernel
push-pushed-requires-clause-to_kernel c =
    let f = c.self.inside in
    let kernels = rw (← c.self.view_is) at c.requires.kernels in
    row-wide f.rows.items f.kernels f.window c.self.invariant.0 c.self.invariant.1 c.args.from c.args.to kernels.0 kernels.1 c.index_mut-row.result.now
    c.index_mut-row.ensures.value

pub mark-requires : goal.mark-requires
mark-requires c =
    let f = c.self.inside in
    let kernels = rw (← c.self.view_is) at c.requires.kernels in
    let row = c.index_mut-row.result.now in
    let there = c.index_mut-row.ensures.value in
    let more : List Message = link_to row c.args.to ++ c.args.message ∷ [] in
    let left = rows-pushed f.rows.items f.kernels f.window c.self.invariant.0 c.self.invariant.1 c.args.from c.args.to kernels.0 kernels.1 row there
    c.push-pushed.result c.args.message more c.push-pushed.new.self c.push-pushed.ensures.ok c.push-pushed.ensures.err in
    row-wide-new f.rows.items f.kernels f.window c.self.invariant.0 c.self.invariant.1 c.args.from c.args.to kernels.0 kernels.1 row there left.0
    c.push-pushed.new.self left.1

pub returns-clause-variant : goal.returns-clause-variant
returns-clause-variant c =
    let f = c.self.inside in
    let kernels = rw (← c.self.view_is) at c.requires.kernels in
    let row = c.index_mut-row.result.now in
    let there = c.index_mut-row.ensures.value in
    rw (← c.self.view_is)
    (subst (λ w. IsOk c.push-pushed.result ↔ (length (link_in (links_of f.rows.items) c.args.from c.args.to) < w))
    (window-here f.rows.items f.kernels f.window c.self.invariant.0 c.self.invariant.1 c.args.from c.args.to kernels.0 kernels.1 row there)
    (subst (λ ms. IsOk c.push-pushed.result
    ↔ (length ms < row.window))
    (sym (link-here f.rows.items f.kernels f.window c.self.invariant.0 c.self.invariant.1 c.args.from c.args.to kernels.0 kernels.1 row there))
    c.push-pushed.ensures.variant))

pub invariant_of-self : goal.invariant_of-self
invariant_of-self c =
    let f = c.self.inside in
    let kernels = rw (← c.self.view_is) at c.requires.kernels in
    let row = c.index_mut-row.result.now in
    let there = c.index_mut-row.ensures.value in
    let more : List Message = link_to row c.args.to ++ c.args.message ∷ [] in
    let left = rows-pushed f.rows.items f.kernels f.window c.self.invariant.0 c.self.invariant.1 c.args.from c.args.to kernels.0 kernels.1 row there
    c.push-pushed.result c.args.message more c.push-pushed.new.self c.push-pushed.ensures.ok c.push-pushed.ensures.err in (
      rows-square f.rows.items f.kernels f.window c.self.invariant.0 c.self.invariant.1 c.args.from c.args.to kernels.0 kernels.1 row there left.0
          c.push-pushed.new.self left.1,
      rows-windows f.rows.items f.kernels f.window c.self.invariant.0 c.self.invariant.1 c.args.from c.args.to kernels.0 kernels.1 row there left.0
          c.push-pushed.new.self left.1,
      c.self.invariant.2,
      c.self.invariant.3,
      c.self.invariant.4,
      rows-marked f.rows.items f.kernels f.window c.self.invariant.0 c.self.invariant.1 c.args.from c.args.to kernels.0 kernels.1 row
          c.index_mut-row.ensures.value left.0 c.push-pushed.new.self left.1 f.coming.items f.full.items c.self.invariant.5 c.index_mut-coming.result.now
          c.index_mut-full.result.now c.index_mut-coming.ensures.value c.index_mut-full.ensures.value c.mark.new.coming c.mark.new.full c.mark.ensures.coming
          c.mark.ensures.full,
    )

pub returns-clause-ok : goal.returns-clause-ok
returns-clause-ok c =
    let f = c.self.inside in
    let kernels = rw (← c.self.view_is) at c.requires.kernels in
    let row = c.index_mut-row.result.now in
    let there = c.index_mut-row.ensures.value in
    let more : List Message = link_to row c.args.to ++ c.args.message ∷ [] in
    on-ok c.push-pushed.result c.push-pushed.ensures.ok (λ (done : c.push-pushed.new.self ≡ with_link_to c.args.to more row).
    rw (← c.self.view_is)
    (ap (λ links. record (the_view f) { links = links })
    (rows-put f.rows.items f.kernels f.window c.self.invariant.0 c.self.invariant.1 c.args.from c.args.to kernels.0 kernels.1 row there more
    c.push-pushed.new.self done
    ∙ ap (λ ms. link_put c.args.from c.args.to (ms ++ c.args.message ∷ []) (links_of f.rows.items))
    (sym (link-here f.rows.items f.kernels f.window c.self.invariant.0 c.self.invariant.1 c.args.from c.args.to kernels.0 kernels.1 row there)))))
