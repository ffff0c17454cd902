use Rattle.std.proofs.Common.{◌+◌, sym, ◌∙◌}
use Rattle.sem_mem.specs.Chunks.{AreMetChunks}
use Rattle.sem_mem.proofs.Chunking.{chunks-within, looked-chunks}
use Rattle.sem_mem.proofs.memory.Memory.look.Goals as goal

pub look_through-requires-clause-chunks : goal.look_through-requires-clause-chunks
look_through-requires-clause-chunks c =
    let cs = c.self.inside.chunks.items in
    let met : AreMetChunks cs c.args.base (c.args.base + c.args.len) c.chunks_met-from.result.0 c.chunks_met-from.result.1 =
    rw (sym c.from.ensures) (c.chunks_met-from.ensures cs c.self.invariant.chunks (c.deref.ensures.value ∙ c.self.invariant.begin)) in
    rw c.deref-2.ensures.value (chunks-within cs c.chunks_met-from.result.0 c.chunks_met-from.result.1 met.order c.self.invariant.chunks)

-- the chunks that the range meets tell of it what all tell
pub returns : goal.returns
returns c =
    let cs = c.self.inside.chunks.items in
    let met : AreMetChunks cs c.args.base (c.args.base + c.args.len) c.chunks_met-from.result.0 c.chunks_met-from.result.1 =
    rw (sym c.from.ensures) (c.chunks_met-from.ensures cs c.self.invariant.chunks (c.deref.ensures.value ∙ c.self.invariant.begin)) in
    rw (sym c.self.view_is) (rw c.deref-2.ensures.value at c.look_through.ensures
    ∙ looked-chunks cs c.args.base c.args.len c.chunks_met-from.result.0 c.chunks_met-from.result.1 c.self.invariant.chunks met)
