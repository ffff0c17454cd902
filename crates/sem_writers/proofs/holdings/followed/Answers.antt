use Rattle.std.proofs.Common.{◌≡◌, ◌<◌, List, get_or, arith, sym, ap, subst}
use Rattle.std.proofs.lemmas.List.Elements.{All-nil}
use Rattle.sem_access.specs.declared.access.Access.{Access}
use Rattle.sem_access.specs.declared.run.Run.{Run}
use Rattle.sem_access.specs.LastWrites.{looked}
use Rattle.sem_access.specs.Runs.{entry_at, IsNewer}
use Rattle.sem_access.specs.ContentsText.{found_by}
use Rattle.sem_mem.proofs.Telling.{kept-more, found-here, fits-here}
use Rattle.sem_writers.proofs.Growing.{looks-more, older-more}
use Rattle.sem_writers.proofs.holdings.followed.Goals as goal

pub loop-access-init : goal.loop-access-init
loop-access-init c = record {
  kept = λ a. ap (λ rs. entry_at rs a) c.new-memory.ensures;
  older = λ k d le below. subst (λ rs. IsNewer rs (get_or c.args.list.now k d).entry) (sym c.new-memory.ensures)
      (All-nil (λ (r : Run). r.entry < (get_or c.args.list.now k d).entry));
  found = c.new-looks.ensures.items;
}

pub take_in-requires-clause-fits : goal.take_in-requires-clause-fits
take_in-requires-clause-fits c = fits-here c.args.list.now c.requires c.loop-access.access-index c.access-item.result c.access-item.is c.loop-access-test.true

pub take_in-requires-clause-newer : goal.take_in-requires-clause-newer
take_in-requires-clause-newer c = subst (λ (x : Access). IsNewer c.loop-access.memory x.entry) (sym c.access-item.is)
    (c.loop-access.invariant.older c.loop-access.access-index c.access-item.result (omega arith) c.loop-access-test.true)

pub loop-access-preserved : goal.loop-access-preserved
loop-access-preserved c =
    let x : Access = c.access-item.result in
    let xs : List Access = c.args.list.now in
    let old : List Run = c.loop-access.memory in
    let here : looked (entry_at old) x.base x.len ≡ found_by xs x =
    found-here xs c.requires c.loop-access.access-index x c.access-item.is c.loop-access-test.true (entry_at old) c.loop-access.invariant.kept in
    record {
      kept = kept-more xs c.requires c.loop-access.access-index x c.access-item.is c.loop-access-test.true (entry_at old)
          (entry_at c.take_in.new.memory) c.loop-access.invariant.kept c.in_ok-take_in.ensures.memory;
      older = older-more xs c.requires c.loop-access.access-index x c.access-item.is c.loop-access-test.true c.take_in.new.memory
          c.in_ok-take_in.ensures.newest;
      found = looks-more xs c.loop-access.access-index x (looked (entry_at old) x.base x.len) c.loop-access.looks.items c.take_in.new.looks.items
          c.loop-access-test.true c.access-item.is c.loop-access.invariant.found here c.in_ok-take_in.ensures.look;
    }
