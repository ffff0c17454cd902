use Rattle.std.proofs.Common.{◌++◌, rules}
use Rattle.std.proofs.lemmas.Result.{err_from_is_err_and}
use Rattle.sem_trace.specs.Forms.{calls, behind}
use Rattle.sem_trace.proofs.PlaceSteps.{faults}
use Rattle.sem_trace.proofs.CallRows.{few_slots, call_failed, call_read, call_stands}
use Rattle.sem_trace.proofs.cursor.Words.call.Goals as goal

pub returns-in_err-name : goal.returns-in_err-name
returns-in_err-name c =
    let p = err_from_is_err_and c.from_residual.result c.from_residual.ensures.1 in
    rw (p.1, p.2) (record { reads = λ more. c.in_err-name.ensures.err _ (behind (calls c.args.version) _ ++ more); value = tt; valid = tt })

pub returns-in_err-form : goal.returns-in_err-form
returns-in_err-form c =
    let p = err_from_is_err_and c.from_residual-in_err-form.result c.from_residual-in_err-form.ensures.1 in
    rw (p.1, p.2) (record {
      reads = λ more. faults (behind (calls c.args.version) _ ++ more) _ _ _ _ _ c.in_ok-name.ensures.ok (c.in_err-form.ensures.fault c.args.version);
      value = tt;
      valid = tt;
    })

pub slot_numbers-requires : goal.slot_numbers-requires
slot_numbers-requires c = few_slots c.in_ok-form.form.now c.in_ok-form.ensures.row

pub returns-in_err-numbers : goal.returns-in_err-numbers
returns-in_err-numbers c =
    let p = err_from_is_err_and c.from_residual-in_err-numbers.result c.from_residual-in_err-numbers.ensures.1 in
    rw (p.1, p.2) (record {
      reads = call_failed c.args.version c.in_ok-form.form.now _ _ _ _ c.in_ok-form.ensures.row c.in_ok-form.ensures.name c.in_ok-name.ensures.ok
          c.in_err-numbers.ensures.reads;
      value = tt;
      valid = tt;
    })

pub call_of-requires : goal.call_of-requires
call_of-requires c = call_stands c.args.version c.in_ok-form.form.now c.in_ok-numbers.numbers c.in_ok-form.ensures.row c.in_ok-numbers.ensures.within

pub returns : goal.returns
returns c =
    call_read c.args.version c.in_ok-form.form.now _ _ _ _ c.in_ok-numbers.numbers _ c.in_ok-form.ensures.row c.in_ok-form.ensures.name c.in_ok-name.ensures.ok
    c.call_of.ensures (search rules) c.in_ok-numbers.ensures.reads c.in_ok-numbers.ensures.within c.in_ok-numbers.ensures.values
