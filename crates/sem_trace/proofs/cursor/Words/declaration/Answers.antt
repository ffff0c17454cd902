use Rattle.std.proofs.Common.{◌≡◌, length, rules, arith}
use Rattle.std.proofs.lemmas.Result.{err_from_is_err_and}
use Rattle.sem_trace.specs.Forms.{form, lines, behind}
use Rattle.sem_trace.proofs.Nodes.{node_small, few_vpes}
use Rattle.sem_trace.proofs.PlaceSteps.{faults}
use Rattle.sem_trace.proofs.LineRows.{few_line_slots, line_failed, plain_fits, plain_read, root_numbers, root_read, call_numbers, call_line_read}
use Rattle.sem_trace.proofs.cursor.Words.declaration.Goals as goal

pub returns-in_err-name : goal.returns-in_err-name
unfolding form
returns-in_err-name c =
    let p = err_from_is_err_and c.from_residual.result c.from_residual.ensures.1 in
    rw (p.1, p.2) (record { fault = c.in_err-name.ensures.err _ (behind (lines c.args.version c.args.kernels c.args.self.now) _); value = tt; ranges = tt })

pub returns-in_err-form : goal.returns-in_err-form
unfolding form
returns-in_err-form c =
    let p = err_from_is_err_and c.from_residual-in_err-form.result c.from_residual-in_err-form.ensures.1 in
    rw (p.1, p.2) (record {
      fault = faults (behind (lines c.args.version c.args.kernels c.args.self.now) _) _ _ _ _ _ c.in_ok-name.ensures.ok
          (c.in_err-form.ensures.fault c.args.kernels c.args.self.now);
      value = tt;
      ranges = tt;
    })

pub slot_numbers-requires : goal.slot_numbers-requires
slot_numbers-requires c = few_line_slots c.args.version c.in_ok-form.form.now c.in_ok-form.ensures.row

pub returns-in_err-numbers : goal.returns-in_err-numbers
returns-in_err-numbers c =
    let p = err_from_is_err_and c.from_residual-in_err-numbers.result c.from_residual-in_err-numbers.ensures.1 in
    rw (p.1, p.2) (record {
      fault = line_failed c.args.version c.args.kernels c.in_ok-form.form.now _ _ _ _ c.in_ok-form.ensures.row c.in_ok-form.ensures.name c.in_ok-name.ensures.ok
          c.in_err-numbers.ensures.reads;
      value = tt;
      ranges = tt;
    })

pub plain-requires : goal.plain-requires
plain-requires c =
    plain_fits c.args.version c.args.kernels c.in_ok-form.form.now _ c.in_ok-numbers.numbers (omega (arith, c.ranges.kernels.fits)) c.in_ok-form.ensures.row c.in-Plain.is
    c.in_ok-numbers.ensures.within

pub overflow_cast-numbers : goal.overflow_cast-numbers
overflow_cast-numbers c =
    let five : length c.in_ok-numbers.numbers ≡ 5 = search rules in
    let numbers = root_numbers c.args.version c.args.kernels c.in_ok-form.form.now c.in_ok-numbers.numbers
    c.in_ok-form.ensures.row c.in-Root.is five c.in_ok-numbers.ensures.within in
    let few = few_vpes c.args.version in
    omega (arith, numbers.0, few)

pub overflow_cast-numbers-in-Root : goal.overflow_cast-numbers-in-Root
overflow_cast-numbers-in-Root c =
    let five : length c.in_ok-numbers.numbers ≡ 5 = search rules in
    let numbers = root_numbers c.args.version c.args.kernels c.in_ok-form.form.now c.in_ok-numbers.numbers
    c.in_ok-form.ensures.row c.in-Root.is five c.in_ok-numbers.ensures.within in
    omega (arith, numbers.1)

pub root-requires : goal.root-requires
root-requires c =
    let five : length c.in_ok-numbers.numbers ≡ 5 = search rules in
    let numbers = root_numbers c.args.version c.args.kernels c.in_ok-form.form.now c.in_ok-numbers.numbers
    c.in_ok-form.ensures.row c.in-Root.is five c.in_ok-numbers.ensures.within in
    node_small c.args.version _ numbers.0

pub overflow_cast-numbers-in-Call : goal.overflow_cast-numbers-in-Call
overflow_cast-numbers-in-Call c =
    let five : length c.in_ok-numbers.numbers ≡ 5 = search rules in
    let numbers = call_numbers c.args.version c.args.kernels c.in_ok-form.form.now c.in_ok-numbers.numbers
    c.in_ok-form.ensures.row c.in-Call.is five c.in_ok-numbers.ensures.within in
    let few = few_vpes c.args.version in
    omega (arith, numbers, few)

pub last_call-requires : goal.last_call-requires
last_call-requires c =
    let five : length c.in_ok-numbers.numbers ≡ 5 = search rules in
    let numbers = call_numbers c.args.version c.args.kernels c.in_ok-form.form.now c.in_ok-numbers.numbers
    c.in_ok-form.ensures.row c.in-Call.is five c.in_ok-numbers.ensures.within in
    node_small c.args.version _ numbers

pub returns-in-Plain : goal.returns-in-Plain
returns-in-Plain c =
    plain_read c.args.version c.args.kernels c.in_ok-form.form.now _ _ _ _ _ _ c.in_ok-numbers.numbers _ c.requires c.in_ok-form.ensures.row c.in-Plain.is
    c.in_ok-form.ensures.name c.in_ok-name.ensures.ok (search rules) c.in_ok-numbers.ensures.reads.filled c.in_ok-numbers.ensures.behind
    c.in_ok-numbers.ensures.within c.in_ok-numbers.ensures.values c.plain.ensures.fault c.plain.ensures.value

pub returns-in-Root : goal.returns-in-Root
returns-in-Root c =
    let five : length c.in_ok-numbers.numbers ≡ 5 = search rules in
    let numbers = root_numbers c.args.version c.args.kernels c.in_ok-form.form.now c.in_ok-numbers.numbers
    c.in_ok-form.ensures.row c.in-Root.is five c.in_ok-numbers.ensures.within in
    root_read c.args.version c.args.kernels c.in_ok-form.form.now _ _ _ _ _ c.in_ok-numbers.numbers _ c.in_ok-form.ensures.row c.in-Root.is
    c.in_ok-form.ensures.name c.in_ok-name.ensures.ok c.in_ok-numbers.ensures.reads.filled c.in_ok-numbers.ensures.behind
    c.in_ok-numbers.ensures.values c.root.ensures.fault c.root.ensures.value (c.root.ensures.ranges c.args.version c.args.kernels numbers.0)

pub returns-in-Call : goal.returns-in-Call
returns-in-Call c =
    let five : length c.in_ok-numbers.numbers ≡ 5 = search rules in
    let numbers = call_numbers c.args.version c.args.kernels c.in_ok-form.form.now c.in_ok-numbers.numbers
    c.in_ok-form.ensures.row c.in-Call.is five c.in_ok-numbers.ensures.within in
    call_line_read c.args.version c.args.kernels c.in_ok-form.form.now _ _ _ _ _ c.in_ok-numbers.numbers _ c.in_ok-form.ensures.row c.in-Call.is
    c.in_ok-form.ensures.name c.in_ok-name.ensures.ok c.in_ok-numbers.ensures.reads.filled c.in_ok-numbers.ensures.behind
    c.in_ok-numbers.ensures.values c.last_call.ensures.fault c.last_call.ensures.value (c.last_call.ensures.ranges c.args.kernels numbers)
