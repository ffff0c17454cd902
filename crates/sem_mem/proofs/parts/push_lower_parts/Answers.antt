use Rattle.std.proofs.Common.{◌++◌, take, sym, ◌∙◌, ap, subst}
use Rattle.std.specs.List.{filter_map}
use Rattle.std.proofs.lemmas.List.{take_all}
use Rattle.sem_access.specs.Runs.{AreRuns}
use Rattle.sem_mem.specs.Chunks.{together}
use Rattle.sem_mem.specs.Writing.{lower_part}
use Rattle.sem_mem.proofs.Chunking.{runs-of-chunk, parts-more}
use Rattle.sem_mem.proofs.parts.push_lower_parts.Goals as goal

pub push_lower-requires : goal.push_lower-requires
push_lower-requires c =
    subst AreRuns (sym (c.deref.ensures.value ∙ ap (λ q. q.items) c.chunk-item.is))
    (runs-of-chunk c.args.chunks.now c.loop-chunk.chunk-index c.chunk-item.result c.loop-chunk-test.true c.requires)

pub loop-chunk-preserved : goal.loop-chunk-preserved
loop-chunk-preserved c =
    (rw (c.loop-chunk.invariant, c.deref.ensures.value) at c.in_ok-push_lower.ensures)
    ∙ (ap (λ q. (c.args.out.now.items ++ filter_map (lower_part c.args.end) (together (take c.loop-chunk.chunk-index c.args.chunks.now)))
    ++ filter_map (lower_part c.args.end) q.items) c.chunk-item.is
    ∙ parts-more (lower_part c.args.end) c.args.chunks.now c.loop-chunk.chunk-index c.chunk-item.result c.args.out.now.items c.loop-chunk-test.true)

pub returns : goal.returns
returns c = rw (take_all c.loop-chunk.chunk-index c.args.chunks.now c.loop-chunk-test.false) at c.loop-chunk.invariant
