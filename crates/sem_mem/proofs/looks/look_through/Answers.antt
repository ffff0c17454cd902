use Rattle.std.proofs.Common.{◌≡◌, List, take, get_or, sym, ◌∙◌, ap, subst, arith}
use Rattle.std.proofs.lemmas.List.{take_all}
use Rattle.sem_access.specs.declared.run.Run.{Run}
use Rattle.sem_access.specs.declared.look.Look.{Look}
use Rattle.sem_access.specs.LastWrites.{looked}
use Rattle.sem_access.specs.Runs.{AreRuns, entry_at}
use Rattle.sem_mem.specs.Writing.{both}
use Rattle.sem_mem.specs.Chunks.{together}
use Rattle.sem_mem.proofs.Chunking.{runs-of-chunk, runs-up-to, together-more}
use Rattle.sem_mem.proofs.Looking.{start-found, looked-both, both-few}
use Rattle.sem_mem.proofs.looks.look_through.Goals as goal

pub loop-chunk-init : goal.loop-chunk-init
loop-chunk-init c = start-found c.args.base c.args.len

pub look_into-requires-clause-runs : goal.look_into-requires-clause-runs
look_into-requires-clause-runs c =
    subst AreRuns (sym (c.deref.ensures.value ∙ ap (λ q. q.items) c.chunk-item.is))
    (runs-of-chunk c.args.chunks.now c.loop-chunk.chunk-index c.chunk-item.result c.loop-chunk-test.true c.requires.chunks)

pub both-found-requires : goal.both-found-requires
both-found-requires c =
    let before = together (take c.loop-chunk.chunk-index c.args.chunks.now) in
    let here = (get_or c.args.chunks.now c.loop-chunk.chunk-index c.chunk-item.result).items in
    let few = both-few before here (runs-up-to c.args.chunks.now c.loop-chunk.chunk-index c.chunk-item.result c.loop-chunk-test.true c.requires.chunks)
    c.args.base c.args.len in
    let some : c.loop-chunk.found.written ≡ (looked (entry_at before) c.args.base c.args.len).written = ap (λ (l : Look). l.written) c.loop-chunk.invariant in
    let more : c.look_into.result.written ≡ (looked (entry_at here) c.args.base c.args.len).written = ap (λ (l : Look). l.written) (c.look_into.ensures
    ∙ ap (λ (rs : List Run). looked (entry_at rs) c.args.base c.args.len) (c.deref.ensures.value ∙ ap (λ q. q.items) c.chunk-item.is)) in
    let range = c.requires.range in
    omega (arith, few, some, more, range)

pub loop-chunk-preserved : goal.loop-chunk-preserved
loop-chunk-preserved c =
    let before = together (take c.loop-chunk.chunk-index c.args.chunks.now) in
    let here = (get_or c.args.chunks.now c.loop-chunk.chunk-index c.chunk-item.result).items in
    c.both-found.ensures
    ∙ (ap (λ l. both l c.look_into.result) c.loop-chunk.invariant
    ∙ (ap (both (looked (entry_at before) c.args.base c.args.len)) (c.look_into.ensures
    ∙ ap (λ (rs : List Run). looked (entry_at rs) c.args.base c.args.len) (c.deref.ensures.value ∙ ap (λ q. q.items) c.chunk-item.is))
    ∙ (sym (looked-both before here (runs-up-to c.args.chunks.now c.loop-chunk.chunk-index c.chunk-item.result c.loop-chunk-test.true c.requires.chunks)
    c.args.base c.args.len)
    ∙ ap (λ (rs : List Run). looked (entry_at rs) c.args.base c.args.len)
    (sym (together-more c.args.chunks.now c.loop-chunk.chunk-index c.chunk-item.result c.loop-chunk-test.true)))))

pub returns : goal.returns
returns c = rw (take_all c.loop-chunk.chunk-index c.args.chunks.now c.loop-chunk-test.false) at c.loop-chunk.invariant
