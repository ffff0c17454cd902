use Rattle.std.proofs.Common.{◌≡◌, false, [], length, replicate, arith, sym, ◌∙◌, ap, subst}
use Rattle.sem_msg.specs.Setup.{Setup}
use Rattle.sem_msg.specs.Fabric.{IsSquare}
use Rattle.std.specs.List.{count_by}
use Rattle.std.proofs.lemmas.List.{length-replicate}
use Rattle.sem_msg.specs.Journal.{replies}
use Rattle.sem_msg.proofs.Squares.{square-start}
use Rattle.sem_fabric.proofs.FabricRows.{links_of}
use Rattle.sem_fabric.proofs.Marks.{marked-none, window-some, filled-up, no-places}
use Rattle.sem_fabric.proofs.fabric.Fabric.new.Goals as goal

pub invariant_of-result : goal.invariant_of-result
invariant_of-result c =
    let n = c.setup.inside.kernels in
    let window = c.setup.inside.window in
    let counted : c.loop.counter ≡ n = omega (arith, ap (λ (S : Setup). S.kernels) c.setup.view_is) in
    let links : links_of c.loop.rows.items ≡ replicate n (replicate n []) = (rw (← c.setup.view_is) at c.loop.invariant.links)
    ∙ ap (λ m. replicate m (replicate n [])) counted in
    let places : c.resize.new.self.items ≡ replicate n false =
    filled-up false n _ _ c.resize.new.self.items c.new-places.ensures.items c.new-places.ensures.len c.in_ok-resize.ensures.items in
    let coming : c.resize-2.new.self.items ≡ replicate n 0 =
    filled-up 0 n _ _ c.resize-2.new.self.items c.new-coming.ensures.items c.new-coming.ensures.len c.in_ok-resize-2.ensures.items in
    let full : c.resize-3.new.self.items ≡ replicate n 0 =
    filled-up 0 n _ _ c.resize-3.new.self.items c.new-full.ensures.items c.new-full.ensures.len c.in_ok-resize-3.ensures.items in (
      subst (IsSquare n) (sym links) (square-start n),
      rw (← c.setup.view_is) at c.loop.invariant.windows,
      ap length places ∙ length-replicate n false,
      omega (arith, ap (count_by (λ b. b)) places ∙ no-places n),
      sym (ap (λ J. length (replies J)) c.requires),
      rw (links, coming, full) (marked-none n window (window-some c.setup.inside.version window c.setup.invariant.windowed)),
    )
