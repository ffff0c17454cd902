use Rattle.std.proofs.Common.{◌≡◌, ◌+◌, ◌++◌, ◌/◌, List, take, drop, rules, ◌∙◌, ap}
use Rattle.std.specs.Global.{Vec}
use Rattle.std.specs.List.{slice_set}
use Rattle.std.proofs.lemmas.List.{take-append-drop}
use Rattle.sem_access.specs.declared.run.Run.{Run}
use Rattle.sem_mem.specs.Chunks.{together, first_base}
use Rattle.sem_mem.proofs.Chunking.{two-put, begins-set}
use Rattle.sem_mem.proofs.writes.replace_two.Goals as goal

pub returns-clause-ok : goal.returns-clause-ok
returns-clause-ok c =
    let one : c.swap.new.x.items ≡ take (c.len.result / 2) c.args.runs.now.items = ap (λ (q : Vec Run). q.items) c.swap.ensures.x_after
    ∙ c.in_ok-rest.ensures.items in
    let other : c.swap-2.new.x.items ≡ drop (c.len.result / 2) c.args.runs.now.items = ap (λ (q : Vec Run). q.items) c.swap-2.ensures.x_after
    ∙ c.in_ok-rest.ensures.tail in
    let halves : c.swap.new.x.items ++ c.swap-2.new.x.items ≡ c.args.runs.now.items =
    rw (one, other) (take-append-drop (c.len.result / 2) c.args.runs.now.items) in
    two-put c.args.chunks.now.items c.args.from c.swap.new.x c.swap-2.new.x c.requires.within
    ∙ ap (λ (rs : List Run). together (take c.args.from c.args.chunks.now.items) ++ (rs ++ together (drop (c.args.from + 2) c.args.chunks.now.items))) halves

pub returns-clause-begin : goal.returns-clause-begin
returns-clause-begin c =
    let one : c.beginning_of.result ≡ first_base c.swap.new.x.items = search rules in
    let other : c.beginning_of-2.result ≡ first_base c.swap-2.new.x.items = search rules in
    let first = begins-set c.args.chunks.now.items c.args.beginnings.now.items c.args.from c.swap.new.x c.requires.begin in
    rw (one, other) (begins-set (slice_set c.args.chunks.now.items c.args.from c.swap.new.x)
    (slice_set c.args.beginnings.now.items c.args.from (first_base c.swap.new.x.items)) (c.args.from + 1) c.swap-2.new.x first)
