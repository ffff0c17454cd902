use Rattle.std.proofs.Common.{◌++◌, take, sym, ◌∙◌, ap}
use Rattle.std.proofs.lemmas.List.{take_all}
use Rattle.sem_mem.specs.Chunks.{together}
use Rattle.sem_mem.proofs.Chunking.{together-more}
use Rattle.sem_mem.proofs.runs.runs_of.Goals as goal

pub loop-chunk-preserved : goal.loop-chunk-preserved
loop-chunk-preserved c =
    (rw (c.loop-chunk.invariant, c.deref.ensures.value) at c.in_ok-extend_from_slice.ensures.items)
    ∙ (ap (λ q. together (take c.loop-chunk.chunk-index c.args.chunks.now) ++ q.items) c.chunk-item.is
    ∙ sym (together-more c.args.chunks.now c.loop-chunk.chunk-index c.chunk-item.result c.loop-chunk-test.true))

pub returns : goal.returns
returns c = rw (take_all c.loop-chunk.chunk-index c.args.chunks.now c.loop-chunk-test.false) at c.loop-chunk.invariant
