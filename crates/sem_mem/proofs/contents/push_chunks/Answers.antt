use Rattle.std.proofs.Common.{◌++◌, map, take, ◌∙◌, ap}
use Rattle.sem_text.specs.Lines.{text}
use Rattle.sem_access.specs.ContentsText.{run_line}
use Rattle.sem_mem.specs.Chunks.{together}
use Rattle.sem_mem.proofs.Telling.{chunk-told}
use Rattle.sem_mem.proofs.contents.push_chunks.Goals as goal

pub loop-chunk-preserved : goal.loop-chunk-preserved
loop-chunk-preserved c =
    (rw (c.loop-chunk.invariant, c.deref.ensures.value) at c.in_ok-push_runs.ensures)
    ∙ (ap (λ q. (c.args.out.now.items ++ text (map run_line (together (take c.loop-chunk.chunk-index c.args.chunks.now))))
    ++ text (map run_line q.items)) c.chunk-item.is
    ∙ chunk-told c.args.chunks.now c.loop-chunk.chunk-index c.chunk-item.result c.args.out.now.items c.loop-chunk-test.true)
