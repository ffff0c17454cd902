use Rattle.std.proofs.Common.{◌≡◌, length, refl, sym, ◌∙◌, ap, append-nil, arith}
use Rattle.sem_key.specs.CapList.{marked_by, link_count}
use Rattle.sem_caps.specs.Stored.{capabilities_in, rows_of}
use Rattle.sem_caps.proofs.Tally.{marked-few}
use Rattle.sem_caps.proofs.TakenAlone.{none-marked, caps-stay, spots-stay, rows-stay}
use Rattle.sem_caps.proofs.sweeps.take_out.Goals as goal

-- nothing is marked
pub returns-then-count_of-eq0 : goal.returns-then-count_of-eq0
returns-then-count_of-eq0 c =
    let few = marked-few c.args.job (rows_of c.args.slab.now c.args.spots.now.items) c.args.marks.now.items c.requires.tallied in
    let none : length (marked_by c.args.job (capabilities_in (rows_of c.args.slab.now c.args.spots.now.items))) ≡ 0 =
    omega (arith, few, c.count_of.ensures, c.if-count_of-eq0.true) in
    record {
      gone = rw (none-marked c.args.job c.requires.can.placed none) (sym (append-nil c.args.gone.now.items));
      spots = sym (spots-stay c.args.job c.requires.can.placed none);
      rows = sym (rows-stay c.args.job c.requires.can.placed none);
      placed = c.requires.can.placed;
      links = c.requires.can.counted ∙ ap link_count (sym (caps-stay c.args.job c.requires.can.placed none));
      slab_capacity = refl;
      spots_capacity = refl;
      gone_capacity = refl;
    }
