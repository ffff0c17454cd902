use Rattle.std.proofs.Common.{◌++◌, sym, ◌∙◌, ap, subst}
use Rattle.std.proofs.lemmas.Result.{on_ok_weaker}
use Rattle.sem_access.specs.Runs.{AreRuns, entry_at}
use Rattle.sem_mem.specs.Chunks.{together}
use Rattle.sem_mem.proofs.Telling.{whole-text}
use Rattle.sem_mem.proofs.contents.push_contents.Goals as goal

pub returns : goal.returns
returns c = on_ok_weaker c.push_line-2.result (λ ended xs n is before.
    whole-text xs n (together c.chunks.result.now) c.args.out.now.items c.push_line.new.out.items c.extend_from_slice.new.self.items c.push_chunks.new.out.items
    c.push_line-2.new.out.items before
    (subst AreRuns (sym c.chunks.ensures.runs) c.chunks.ensures.apart)
    (λ a. ap (λ rs. entry_at rs a) c.chunks.ensures.runs ∙ is.kept a)
    c.in_ok-push_line.ensures.ok
    (c.in_ok-extend_from_slice.ensures.items ∙ ap (λ bytes. c.push_line.new.out.items ++ bytes) (c.deref.ensures.value ∙ is.told))
    c.in_ok-push_chunks.ensures ended) c.push_line-2.ensures.ok
