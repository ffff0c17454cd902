use Rattle.std.proofs.Common.{List, drop, sym, ◌∙◌, ap}
use Rattle.sem_msg.specs.declared.message.Message.{Message}
use Rattle.sem_msg.specs.Fabric.{link_put}
use Rattle.sem_fabric.specs.Links.{link_to}
use Rattle.sem_fabric.specs.contracts.fabric.Fabric.{the_view}
use Rattle.sem_fabric.proofs.FabricRows.{links_of, row-wide, link-here, rows-put, rows-windows, rows-square}
use Rattle.sem_fabric.proofs.Marks.{row-wide-new, rows-marked}
use Rattle.sem_fabric.proofs.fabric.Fabric.fetch.Goals as goal

pub pop-message-requires : goal.pop-message-requires
pop-message-requires c =
    let f = c.self.inside in
    let kernels = rw (← c.self.view_is) at c.requires.kernels in
    row-wide f.rows.items f.kernels f.window c.self.invariant.0 c.self.invariant.1 c.args.from c.args.to kernels.0 kernels.1 c.index_mut-row.result.now
    c.index_mut-row.ensures.value

pub mark-requires : goal.mark-requires
mark-requires c =
    let f = c.self.inside in
    let kernels = rw (← c.self.view_is) at c.requires.kernels in
    row-wide-new f.rows.items f.kernels f.window c.self.invariant.0 c.self.invariant.1 c.args.from c.args.to kernels.0 kernels.1 c.index_mut-row.result.now
    c.index_mut-row.ensures.value (drop 1 (link_to c.index_mut-row.result.now c.args.to)) c.pop-message.new.self c.pop-message.ensures.value

pub invariant_of-self : goal.invariant_of-self
invariant_of-self c =
    let f = c.self.inside in
    let kernels = rw (← c.self.view_is) at c.requires.kernels in
    let row = c.index_mut-row.result.now in
    let rest : List Message = drop 1 (link_to row c.args.to) in (
      rows-square f.rows.items f.kernels f.window c.self.invariant.0 c.self.invariant.1 c.args.from c.args.to kernels.0 kernels.1 row
          c.index_mut-row.ensures.value rest c.pop-message.new.self c.pop-message.ensures.value,
      rows-windows f.rows.items f.kernels f.window c.self.invariant.0 c.self.invariant.1 c.args.from c.args.to kernels.0 kernels.1 row
          c.index_mut-row.ensures.value rest c.pop-message.new.self c.pop-message.ensures.value,
      c.self.invariant.2,
      c.self.invariant.3,
      c.self.invariant.4,
      rows-marked f.rows.items f.kernels f.window c.self.invariant.0 c.self.invariant.1 c.args.from c.args.to kernels.0 kernels.1 row
          c.index_mut-row.ensures.value rest c.pop-message.new.self c.pop-message.ensures.value f.coming.items f.full.items c.self.invariant.5
          c.index_mut-coming.result.now c.index_mut-full.result.now c.index_mut-coming.ensures.value c.index_mut-full.ensures.value c.mark.new.coming
          c.mark.new.full c.mark.ensures.coming c.mark.ensures.full,
    )

pub returns-clause-value : goal.returns-clause-value
returns-clause-value c =
    let f = c.self.inside in
    let kernels = rw (← c.self.view_is) at c.requires.kernels in
    let row = c.index_mut-row.result.now in
    let rest : List Message = drop 1 (link_to row c.args.to) in
    let there = c.index_mut-row.ensures.value in
    rw (← c.self.view_is)
    (ap (λ links. record (the_view f) { links = links })
    (rows-put f.rows.items f.kernels f.window c.self.invariant.0 c.self.invariant.1 c.args.from c.args.to kernels.0 kernels.1 row there rest
    c.pop-message.new.self c.pop-message.ensures.value
    ∙ ap (λ ms. link_put c.args.from c.args.to (drop 1 ms) (links_of f.rows.items))
    (sym (link-here f.rows.items f.kernels f.window c.self.invariant.0 c.self.invariant.1 c.args.from c.args.to kernels.0 kernels.1 row there))))
