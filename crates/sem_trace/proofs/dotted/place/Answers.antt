use Rattle.std.proofs.Common.{◌-◌, ◌≡◌, [], ◌∷◌, refl, ◌∙◌, decimal}
use Rattle.std.proofs.lemmas.Result.{err_from_is_err_and}
use Rattle.sem_msg.specs.Versions.{most_vpes}
use Rattle.sem_trace.specs.Forms.{parts_of, are_numbers}
use Rattle.sem_trace.proofs.PrintedNumbers.{joined, in_row3}
use Rattle.sem_trace.proofs.dotted.place.Goals as goal

pub returns-in_err-pe-clause-fault : goal.returns-in_err-pe-clause-fault
returns-in_err-pe-clause-fault c =
    let p = err_from_is_err_and c.from_residual.result c.from_residual.ensures.1 in
    rw (p.1, p.2, c.in_err-pe.ensures.cause, c.in_err-pe.ensures.err (0, most_vpes c.args.version - 1) (0, most_vpes c.args.version - 1) ((0, 4095) ∷ [])) refl

pub returns-in_err-vpe-clause-fault : goal.returns-in_err-vpe-clause-fault
unfolding are_numbers
returns-in_err-vpe-clause-fault c =
    let p = err_from_is_err_and c.from_residual-in_err-vpe.result c.from_residual-in_err-vpe.ensures.1 in
    rw (
      p.1,
      p.2,
      c.in_err-vpe.ensures.cause,
      c.in_ok-pe.ensures.parts,
      c.in_ok-pe.ensures.number,
      c.in_err-vpe.ensures.err (0, most_vpes c.args.version - 1) (0, 4095) [],
    ) refl

pub returns-in_err-number-clause-fault : goal.returns-in_err-number-clause-fault
unfolding are_numbers
returns-in_err-number-clause-fault c =
    let p = err_from_is_err_and c.from_residual-in_err-number.result c.from_residual-in_err-number.ensures.1 in
    rw (
      p.1,
      p.2,
      c.in_err-number.ensures.cause,
      c.in_ok-pe.ensures.parts,
      c.in_ok-pe.ensures.number,
      c.in_ok-vpe.ensures.parts,
      c.in_ok-vpe.ensures.number,
      c.in_err-number.ensures.err (0, 4095),
    ) refl

pub returns-clause-printed : goal.returns-clause-printed
returns-clause-printed c =
    let parts : parts_of c.args.word.now ≡ decimal c.in_ok-part_in.field-0 ∷ decimal c.in_ok-part_in-2.field-0 ∷ decimal c.in_ok-part_in-3.field-0 ∷ [] =
    c.in_ok-pe.ensures.parts
    ∙ (rw (
      c.in_ok-vpe.ensures.parts,
      c.in_ok-number.ensures.part,
      c.in_ok-part_in.ensures.printed,
      c.in_ok-part_in-2.ensures.printed,
      c.in_ok-part_in-3.ensures.printed,
    ) refl) in
    joined c.args.word.now _ parts ∙ in_row3 _ _ _
