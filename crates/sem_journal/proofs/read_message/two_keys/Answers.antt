use Rattle.std.proofs.Common.{refl, ◌∙◌, ◌∷◌}
use Rattle.std.proofs.lemmas.Result.{err_from_is_err_and}
use Rattle.sem_trace.specs.Forms.{form_fault, key}
use Rattle.sem_journal.proofs.read_message.two_keys.Goals as goal

pub returns-in_err-first : goal.returns-in_err-first
unfolding form_fault
returns-in_err-first c =
    let p = err_from_is_err_and c.from_residual.result c.from_residual.ensures.1 in
    rw (p.1, p.2) (record { reads = λ more. c.in_err-first.ensures.reads (key c.args.version ∷ more); fits = tt })

pub returns-in_err-second : goal.returns-in_err-second
unfolding form_fault
returns-in_err-second c =
    let p = err_from_is_err_and c.from_residual-in_err-second.result c.from_residual-in_err-second.ensures.1 in
    rw (p.1, p.2) (record { reads = λ more. c.in_ok-first.ensures.reads.filled (key c.args.version ∷ more) ∙ c.in_err-second.ensures.reads more; fits = tt })

pub returns : goal.returns
unfolding form_fault
returns c =
    record {
      reads = record {
        filled = λ more. c.in_ok-first.ensures.reads.filled (key c.args.version ∷ more) ∙ c.in_ok-second.ensures.reads.filled more;
        spelled = rw (c.in_ok-first.ensures.reads.spelled, c.in_ok-second.ensures.reads.spelled) refl;
      };
      fits = (c.in_ok-first.ensures.told, c.in_ok-second.ensures.told);
    }
