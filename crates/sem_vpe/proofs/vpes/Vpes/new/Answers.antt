use Rattle.std.proofs.Common.{◌≡◌, length, ap, ◌∙◌, arith}
use Rattle.std.proofs.lemmas.List.FromFn.{length-map-range_with_len}
use Rattle.sem_vpe.specs.Starting.{start_place}
use Rattle.sem_vpe.proofs.Starts.{started-more, rows-more, started-all, table_of}
use Rattle.sem_vpe.proofs.Declared.{as_declared}
use Rattle.sem_vpe.proofs.vpes.Vpes.new.Goals as goal

pub loop-vpe-preserved : goal.loop-vpe-preserved
loop-vpe-preserved c = record {
  places = rw c.in_ok-push.ensures.items
      (started-more c.args.setup.now c.args.kernel c.loop-vpe.vpe c.loop-vpe.places.items c.in_ok-started.field-0 c.loop-vpe.invariant.places
      c.in_ok-started.ensures.place);
  rows = rw c.in_ok-push.ensures.items (rows-more c.loop-vpe.places.items c.in_ok-started.field-0 c.loop-vpe.invariant.rows c.in_ok-started.ensures.row);
}

-- all places were made
pub invariant_of-result : goal.invariant_of-result
invariant_of-result c =
    let long : length c.loop-vpe.places.items ≡ c.loop-vpe.vpe = ap length c.loop-vpe.invariant.places
    ∙ length-map-range_with_len (start_place c.args.setup.now c.args.kernel) 0 c.loop-vpe.vpe in
    table_of c.loop-vpe.places.items (omega arith) c.loop-vpe.invariant.rows

pub returns : goal.returns
returns c =
    let long : length c.loop-vpe.places.items ≡ c.loop-vpe.vpe = ap length c.loop-vpe.invariant.places
    ∙ length-map-range_with_len (start_place c.args.setup.now c.args.kernel) 0 c.loop-vpe.vpe in
    let start = started-all c.args.setup.now c.args.kernel c.loop-vpe.vpe c.loop-vpe.places.items c.loop-vpe.invariant.places (omega arith) in
    record {
      start = start;
      declared = rw start (as_declared c.args.setup.now c.args.kernel c.keeps_its_rules.ensures);
      table = table_of c.loop-vpe.places.items (omega arith) c.loop-vpe.invariant.rows;
    }
