use Rattle.std.proofs.Common.{◌≡◌, ◌+◌, ◌≤◌, ◌∷◌, ◌++◌, List, length, take, drop, sym, ◌∙◌, ap, subst, arith}
use Rattle.std.specs.List.{slice_range}
use Rattle.std.specs.Prelude.{OnOk}
use Rattle.std.proofs.lemmas.List.{length-append}
use Rattle.sem_access.specs.declared.run.Run.{Run}
use Rattle.sem_mem.specs.Writing.{overwritten}
use Rattle.sem_mem.specs.Chunks.{together, AreMetChunks}
use Rattle.sem_mem.proofs.Chunking.{chunks-within, overwritten-chunks}
use Rattle.sem_mem.proofs.writes.overwrite.Goals as goal

pub push_overwritten-requires-clause-chunks : goal.push_overwritten-requires-clause-chunks
push_overwritten-requires-clause-chunks c =
    let met : AreMetChunks c.args.chunks.now.items c.args.base (c.args.base + c.args.len) c.chunks_met-from.result.0 c.chunks_met-from.result.1 =
    rw (sym c.from.ensures) (c.chunks_met-from.ensures c.args.chunks.now.items c.requires.indexed.chunks (c.deref.ensures.value
    ∙ c.requires.indexed.begin)) in
    rw c.deref-2.ensures.value (chunks-within c.args.chunks.now.items c.chunks_met-from.result.0 c.chunks_met-from.result.1 met.order c.requires.indexed.chunks)

pub replace-requires-clause-some : goal.replace-requires-clause-some
replace-requires-clause-some c =
    let is = rw (c.reserve.ensures.items, c.clear.ensures.items) at c.in_ok-push_overwritten.ensures in
    some-there _ _ _ _ is
  where
    some-there : (qs below above : List Run) (part : Run) → qs ≡ below ++ part ∷ above → 1 ≤ length qs
    some-there qs below above part is =
        let size = ap length is ∙ length-append below (part ∷ above) in
        omega (arith, size)

-- the chunks that the range meets change, and no others
pub returns-clause-ok : goal.returns-clause-ok
returns-clause-ok c =
    let cs = c.args.chunks.now.items in
    let i = c.chunks_met-from.result.0 in
    let j = c.chunks_met-from.result.1 in
    let met : AreMetChunks cs c.args.base (c.args.base + c.args.len) i j =
    rw (sym c.from.ensures) (c.chunks_met-from.ensures cs c.requires.indexed.chunks (c.deref.ensures.value ∙ c.requires.indexed.begin)) in
    let runs : c.push_overwritten.new.out.items ≡ overwritten (together (slice_range cs i j)) c.args.base c.args.len c.args.entry =
    rw (c.deref-2.ensures.value, c.reserve.ensures.items, c.clear.ensures.items) at c.in_ok-push_overwritten.ensures in
    subst (λ (rs : List Run). OnOk c.replace.result (together c.replace.new.chunks.items ≡ rs))
    (ap (λ (rs : List Run). together (take i cs) ++ (rs ++ together (drop j cs))) runs
    ∙ overwritten-chunks cs c.args.base c.args.len i j c.requires.indexed.chunks met c.args.entry)
    c.replace.ensures.ok
