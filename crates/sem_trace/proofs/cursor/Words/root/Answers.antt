use Rattle.std.proofs.Common.{◌≡◌, ◌≤◌, [], ◌∙◌, length, rules, arith}
use Rattle.std.proofs.lemmas.Result.{err_from_is_err_and}
use Rattle.sem_trace.proofs.LineRows.{few_object_slots, object_faults, object_is, object_valid}
use Rattle.sem_trace.proofs.cursor.Words.root.Goals as goal

pub slot_numbers-requires : goal.slot_numbers-requires
slot_numbers-requires c = few_object_slots c.in_ok-form.form.now c.in_ok-form.ensures.row

pub returns-in_err-numbers-clause-fault : goal.returns-in_err-numbers-clause-fault
returns-in_err-numbers-clause-fault c =
    let p = err_from_is_err_and c.from_residual-in_err-numbers.result c.from_residual-in_err-numbers.ensures.1 in
    rw (p.1, p.2) (object_faults c.in_ok-form.form.now _ _ _ _ c.in_ok-form.ensures.row c.in_ok-form.ensures.name c.in_ok-name.ensures.ok
    (c.in_err-numbers.ensures.reads []))

pub returns-in_err-no_more-clause-fault : goal.returns-in_err-no_more-clause-fault
returns-in_err-no_more-clause-fault c =
    let p = err_from_is_err_and c.from_residual-in_err-no_more.result c.from_residual-in_err-no_more.ensures.1 in
    rw (p.1, p.2) (object_faults c.in_ok-form.form.now _ _ _ _ c.in_ok-form.ensures.row c.in_ok-form.ensures.name c.in_ok-name.ensures.ok
    (c.in_ok-numbers.ensures.reads.filled [] ∙ c.in_err-no_more.ensures))

pub returns-clause-fault : goal.returns-clause-fault
returns-clause-fault c =
    object_faults c.in_ok-form.form.now _ _ _ _ c.in_ok-form.ensures.row c.in_ok-form.ensures.name c.in_ok-name.ensures.ok
    (c.in_ok-numbers.ensures.reads.filled [] ∙ c.in_ok-no_more.ensures)

pub returns-clause-value : goal.returns-clause-value
returns-clause-value c =
    object_is c.in_ok-form.form.now _ _ _ c.args.vpe c.args.sel c.in_ok-numbers.numbers _ c.in_ok-form.ensures.row c.in_ok-form.ensures.name
    c.in_ok-name.ensures.ok c.in_ok-numbers.ensures.values c.object_of.ensures

pub returns-clause-ranges : goal.returns-clause-ranges
returns-clause-ranges c version kernels node =
    let five : length c.in_ok-numbers.numbers ≡ 5 = search rules in
    let small : c.args.sel ≤ 255 = omega (arith, c.ranges.sel.fits) in
    object_valid version kernels c.args.vpe c.args.sel c.in_ok-form.form.now c.in_ok-numbers.numbers _ c.in_ok-form.ensures.row five node small
    c.in_ok-numbers.ensures.within c.object_of.ensures
