use Rattle.std.proofs.Common.{◌≡◌, ◌+◌, ◌++◌, List, ℕ, take, drop, rules, sym, ◌∙◌, ap}
use Rattle.std.specs.Global.{Vec}
use Rattle.std.specs.List.{insert, slice_set}
use Rattle.std.proofs.lemmas.List.{take-append-drop}
use Rattle.sem_access.specs.declared.run.Run.{Run}
use Rattle.sem_mem.specs.declared.writes.TheConstants.{CUT}
use Rattle.sem_mem.specs.Chunks.{together, first_base, beginnings_of}
use Rattle.sem_mem.proofs.Chunking.{one-split, begins-split}
use Rattle.sem_mem.proofs.writes.split.Goals as goal

pub returns-clause-ok : goal.returns-clause-ok
returns-clause-ok c =
    let cs = c.args.chunks.now.items in
    let i = c.args.from in
    let one : c.swap.new.x.items ≡ take CUT c.args.runs.now.items = ap (λ (q : Vec Run). q.items) c.swap.ensures.x_after ∙ c.in_ok-rest.ensures.items in
    let halves : c.swap.new.x.items ++ c.in_ok-rest.rest.items ≡ c.args.runs.now.items =
    rw (one, c.in_ok-rest.ensures.tail) (take-append-drop CUT c.args.runs.now.items) in
    let placed : c.insert-2.new.self.items ≡ insert cs (i + 1) c.in_ok-rest.rest = c.in_ok-insert-2.ensures.items
    ∙ ap (λ (ds : List (Vec Run)). insert ds (i + 1) c.in_ok-rest.rest) c.reserve.ensures.items in
    ap (λ (ds : List (Vec Run)). together (slice_set ds i c.swap.new.x)) placed
    ∙ (one-split cs i c.swap.new.x c.in_ok-rest.rest c.requires.within
    ∙ ap (λ (rs : List Run). together (take i cs) ++ (rs ++ together (drop (i + 1) cs))) halves)

pub returns-clause-begin : goal.returns-clause-begin
returns-clause-begin c =
    let i = c.args.from in
    let one : c.beginning_of-2.result ≡ first_base c.swap.new.x.items = search rules in
    let other : c.beginning_of.result ≡ first_base c.in_ok-rest.rest.items = search rules in
    let placed : c.insert-2.new.self.items ≡ insert c.args.chunks.now.items (i + 1) c.in_ok-rest.rest = c.in_ok-insert-2.ensures.items
    ∙ ap (λ (ds : List (Vec Run)). insert ds (i + 1) c.in_ok-rest.rest) c.reserve.ensures.items in
    let begun : c.insert.new.self.items ≡ insert c.args.beginnings.now.items (i + 1) (first_base c.in_ok-rest.rest.items) = c.in_ok-insert.ensures.items
    ∙ (ap (λ (bs : List ℕ). insert bs (i + 1) c.beginning_of.result) c.reserve-2.ensures.items
    ∙ ap (insert c.args.beginnings.now.items (i + 1)) other) in
    ap (λ (bs : List ℕ). slice_set bs i c.beginning_of-2.result) begun
    ∙ (ap (slice_set (insert c.args.beginnings.now.items (i + 1) (first_base c.in_ok-rest.rest.items)) i) one
    ∙ (begins-split c.args.chunks.now.items c.args.beginnings.now.items i c.swap.new.x c.in_ok-rest.rest c.requires.begin
    ∙ sym (ap (λ (ds : List (Vec Run)). beginnings_of (slice_set ds i c.swap.new.x)) placed)))
