use Rattle.std.proofs.Common.{refl, arith}
use Rattle.std.proofs.lemmas.Result.{err_from_is_err_and}
use Rattle.sem_trace.specs.Forms.{form_fault, choice, word_at}
use Rattle.sem_files.specs.FileForms.{acts, lines, form}
use Rattle.sem_files.specs.Said.{said}
use Rattle.sem_files.proofs.DoLine.{do_line_fault}
use Rattle.sem_files.proofs.forms.do_line.Goals as goal

pub returns-in_err-client : goal.returns-in_err-client
unfolding form_fault form lines
returns-in_err-client c =
    let p = err_from_is_err_and c.from_residual.result c.from_residual.ensures.1 in
    rw (p.1, p.2) (record { fault = c.in_err-client.ensures.reads (choice acts (word_at c.args.words.now 1)); value = tt; ranges = tt })

pub returns-in_err-act : goal.returns-in_err-act
returns-in_err-act c =
    let p = err_from_is_err_and c.from_residual-in_err-act.result c.from_residual-in_err-act.ensures.1 in
    rw (p.1, p.2) (record {
      fault = do_line_fault _ _ _ c.in_ok-client.ensures.reads.filled c.in_ok-client.ensures.behind c.in_err-act.ensures.fault;
      value = tt;
      ranges = tt;
    })

pub returns : goal.returns
unfolding said
returns c = record {
  fault = do_line_fault _ _ _ c.in_ok-client.ensures.reads.filled c.in_ok-client.ensures.behind c.in_ok-act.ensures.fault;
  value = rw (c.in_ok-client.ensures.numbers.values 0 (omega arith), c.in_ok-act.ensures.value, c.in_ok-client.ensures.behind) refl;
  ranges = ((c.in_ok-client.ensures.numbers.least 0 (omega arith), c.in_ok-client.ensures.numbers.most 0 (omega arith)), c.in_ok-act.ensures.ranges);
}
