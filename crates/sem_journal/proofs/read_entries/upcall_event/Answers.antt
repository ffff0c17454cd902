use Rattle.std.proofs.Common.{refl, ◌∙◌, [], ◌∷◌}
use Rattle.std.specs.Prelude.{codes}
use Rattle.std.proofs.lemmas.Result.{err_from_is_err_and}
use Rattle.sem_trace.specs.Forms.{form_fault, node}
use Rattle.sem_trace.specs.Forms.Place.{Word}
use Rattle.sem_journal.specs.EntryForms.{events, event_form}
use Rattle.sem_journal.proofs.read_entries.upcall_event.Goals as goal

pub returns-in_err-asked : goal.returns-in_err-asked
unfolding form_fault events event_form
returns-in_err-asked c kernels =
    let p = err_from_is_err_and c.from_residual.result c.from_residual.ensures.1 in
    rw (p.1, p.2) (record {
      reads = λ more. c.in_err-asked.ensures.reads (node c.args.version ∷ Word (codes "yes" ∷ codes "no" ∷ codes "drop" ∷ []) ∷ more);
      fits = tt;
    })

pub returns-in_err-asker : goal.returns-in_err-asker
unfolding form_fault events event_form
returns-in_err-asker c kernels =
    let p = err_from_is_err_and c.from_residual-in_err-asker.result c.from_residual-in_err-asker.ensures.1 in
    rw (p.1, p.2) (record {
      reads = λ more. c.in_ok-asked.ensures.reads.filled (node c.args.version ∷ Word (codes "yes" ∷ codes "no" ∷ codes "drop" ∷ [])
          ∷ more) ∙ c.in_err-asker.ensures.reads (Word (codes "yes" ∷ codes "no" ∷ codes "drop" ∷ []) ∷ more);
      fits = tt;
    })

pub returns-in_err-answer : goal.returns-in_err-answer
unfolding form_fault events event_form
returns-in_err-answer c kernels =
    let p = err_from_is_err_and c.from_residual-in_err-answer.result c.from_residual-in_err-answer.ensures.1 in
    rw (p.1, p.2) (record {
      reads = λ more. c.in_ok-asked.ensures.reads.filled (node c.args.version ∷ Word (codes "yes" ∷ codes "no" ∷ codes "drop" ∷ [])
          ∷ more) ∙ (c.in_ok-asker.ensures.reads.filled (Word (codes "yes" ∷ codes "no" ∷ codes "drop" ∷ []) ∷ more) ∙ c.in_err-answer.ensures more);
      fits = tt;
    })

pub returns : goal.returns
unfolding form_fault events event_form
returns c kernels =
    record {
      reads = record {
        filled = λ more. c.in_ok-asked.ensures.reads.filled (node c.args.version ∷ Word (codes "yes" ∷ codes "no" ∷ codes "drop" ∷ []) ∷ more)
            ∙ (c.in_ok-asker.ensures.reads.filled (Word (codes "yes" ∷ codes "no" ∷ codes "drop" ∷ []) ∷ more) ∙ c.in_ok-answer.ensures.filled more);
        spelled = rw (c.in_ok-asked.ensures.reads.spelled, c.in_ok-asker.ensures.reads.spelled, c.in_ok-answer.ensures.spelled) refl;
      };
      fits = (c.in_ok-asked.ensures.fits, c.in_ok-asker.ensures.fits);
    }
