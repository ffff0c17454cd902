use Rattle.std.proofs.Common.{◌≡◌, ℕ, [], ap, ◌∙◌, arith}
use Rattle.std.specs.List.{flat_map}
use Rattle.sem_files.specs.Compiled.{below}
use Rattle.sem_fs.proofs.Growing.{some-more}
use Rattle.sem_fs.proofs.AllExtents.{extents_at, all-extents}
use Rattle.sem_fs.proofs.servers.all_extents.Goals as goal

pub loop-file-preserved : goal.loop-file-preserved
loop-file-preserved c = some-more (extents_at c.args.files.now) c.loop-file.file [] _ _
    c.loop-file.invariant (rw c.extents_of.ensures.extents at c.in_ok-push_extents.ensures)

pub returns : goal.returns
returns c =
    let all : c.loop-file.file ≡ 16 = omega arith in
    c.loop-file.invariant ∙ (ap (λ (n : ℕ). flat_map (extents_at c.args.files.now) (below n)) all ∙ all-extents c.args.files.now)
