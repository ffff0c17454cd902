use Rattle.std.proofs.Common.{length-set, refl}
use Rattle.std.proofs.lemmas.Result.{err_from_is_err_and}
use Rattle.sem_journal.proofs.PartSteps.{no_part_read, part_read, part_refused, all_read}
use Rattle.sem_journal.proofs.read_message.plain_parts.Goals as goal

pub loop-place-init : goal.loop-place-init
loop-place-init c = record { four = refl; read = no_part_read c.args.version c.args.parts.now _ c.args.words.now }

pub returns-in_err-values : goal.returns-in_err-values
returns-in_err-values c =
    let p = err_from_is_err_and c.from_residual.result c.from_residual.ensures.1 in
    rw (p.1, p.2) (part_refused _ _ _ _ _ _ _ _ _ c.loop-place-test.true c.loop-place.invariant.read c.in_err-values.ensures)

pub loop-place-preserved : goal.loop-place-preserved
loop-place-preserved c = record {
  four = rw length-set c.loop-place.invariant.four;
  read = part_read _ _ _ _ _ _ _ _ _ c.loop-place-test.true (rw c.loop-place.invariant.four c.requires.few) c.loop-place.invariant.read
      c.in_ok-values.ensures;
}

pub returns : goal.returns
returns c = all_read _ _ _ _ _ _ c.loop-place-test.false c.loop-place.invariant.read
