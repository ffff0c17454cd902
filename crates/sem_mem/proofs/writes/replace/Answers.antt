use Rattle.std.proofs.Common.{◌≡◌, ◌++◌, List, length, map, take, drop, rules, sym, ◌∙◌, ap, subst}
use Rattle.std.specs.Global.{Vec}
use Rattle.std.specs.List.{All, splice}
use Rattle.std.proofs.lemmas.List.{map-id, take_rest}
use Rattle.std.proofs.lemmas.Iterator.{items_from_drains}
use Rattle.std.proofs.lemmas.Iterator.Adapters.{YieldsList-from_vec}
use Rattle.sem_access.specs.declared.run.Run.{Run}
use Rattle.sem_mem.specs.Chunks.{together, IsSized, first_base, beginnings_of}
use Rattle.sem_mem.proofs.Chunking.{chunk-put, chunks-put, each-put, begins-set, begins-put}
use Rattle.sem_mem.proofs.writes.replace.Goals as goal

pub returns-then-len-le-CHUNK-clause-ok : goal.returns-then-len-le-CHUNK-clause-ok
returns-then-len-le-CHUNK-clause-ok c =
    rw c.swap.ensures.x_after (chunk-put c.args.chunks.now.items c.args.from c.args.to c.args.runs.now c.if-to-from-eq1.true c.requires.within)

pub returns-clause-ok : goal.returns-clause-ok
returns-clause-ok c =
    let put = c.in_ok-splice.ensures.items in
    let many : put.0.rest.len ≡ length c.in_ok-parts.parts.items = search rules in
    let all : map (λ (q : Vec Run). q) put.1 ≡ c.in_ok-parts.parts.items =
    items_from_drains put.1 (put.3.1.0, put.3.1.1, λ _. (put.3.0, put.3.1.2)) (YieldsList-from_vec c.in_ok-parts.parts.items put.2.0 many) in
    ap together put.4 ∙ chunks-put c.args.chunks.now.items put.1 c.args.from c.args.to c.args.runs.now.items (ap together (sym (map-id put.1) ∙ all)
    ∙ (c.in_ok-parts.ensures.together ∙ ap (λ (q : Vec Run). q.items) c.replace.ensures.value))

pub returns-clause-sized : goal.returns-clause-sized
returns-clause-sized c =
    let put = c.in_ok-splice.ensures.items in
    let many : put.0.rest.len ≡ length c.in_ok-parts.parts.items = search rules in
    let all : map (λ (q : Vec Run). q) put.1 ≡ c.in_ok-parts.parts.items =
    items_from_drains put.1 (put.3.1.0, put.3.1.1, λ _. (put.3.0, put.3.1.2)) (YieldsList-from_vec c.in_ok-parts.parts.items put.2.0 many) in
    let new : All IsSized put.1 = subst (All IsSized) (sym (sym (map-id put.1) ∙ all)) c.in_ok-parts.ensures.sized in
    subst (All IsSized) (sym put.4) (each-put c.args.chunks.now.items put.1 c.args.from c.args.to c.requires.each new)

pub returns-then-len-le-CHUNK-clause-begin : goal.returns-then-len-le-CHUNK-clause-begin
returns-then-len-le-CHUNK-clause-begin c =
    let begin : c.beginning_of.result ≡ first_base c.args.runs.now.items = search rules in
    rw (c.swap.ensures.x_after, begin) (begins-set c.args.chunks.now.items c.args.beginnings.now.items c.args.from c.args.runs.now c.requires.begin)

pub returns-clause-begin : goal.returns-clause-begin
returns-clause-begin c =
    let put = c.in_ok-splice.ensures.items in
    let many : put.0.rest.len ≡ length c.in_ok-parts.parts.items = search rules in
    let all : map (λ (q : Vec Run). q) put.1 ≡ c.in_ok-parts.parts.items =
    items_from_drains put.1 (put.3.1.0, put.3.1.1, λ _. (put.3.0, put.3.1.2)) (YieldsList-from_vec c.in_ok-parts.parts.items put.2.0 many) in
    let begun : c.in_ok-begun.begun.items ≡ beginnings_of c.in_ok-parts.parts.items = search rules in
    let parts : (take c.args.from c.args.beginnings.now.items ++ beginnings_of c.in_ok-parts.parts.items) ++ drop c.args.to c.args.beginnings.now.items
    ≡ beginnings_of c.splice.new.self.items =
    begins-put c.args.chunks.now.items c.in_ok-parts.parts.items c.args.beginnings.now.items c.args.from c.args.to c.requires.begin
    ∙ (ap (λ (ds : List (Vec Run)). beginnings_of (splice c.args.chunks.now.items c.args.from c.args.to ds)) (sym (sym (map-id put.1) ∙ all))
    ∙ ap beginnings_of (sym put.4)) in
    let whole : c.extend_from_slice-3.new.self.items ≡ (take c.args.from c.args.beginnings.now.items ++ beginnings_of c.in_ok-parts.parts.items)
    ++ drop c.args.to c.args.beginnings.now.items =
    rw (
      c.in_ok-extend_from_slice-2.ensures.items,
      c.in_ok-extend_from_slice.ensures.items,
      c.in_ok-all.ensures.items,
      c.deref-4.ensures.value,
      begun,
      c.deref-3.ensures.value,
      c.deref-5.ensures.value,
      take_rest c.args.beginnings.now.items c.args.to,
    ) at c.in_ok-extend_from_slice-3.ensures.items in
    whole ∙ parts
