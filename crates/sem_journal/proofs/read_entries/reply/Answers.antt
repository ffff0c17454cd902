use Rattle.std.proofs.Common.{[], ◌∷◌, refl, ◌∙◌}
use Rattle.std.proofs.lemmas.Result.{err_from_is_err_and}
use Rattle.sem_trace.specs.MessageForms.{code}
use Rattle.sem_journal.proofs.EntryParts.{nothing_more}
use Rattle.sem_journal.proofs.read_entries.reply.Goals as goal

pub returns-in_err-vpe : goal.returns-in_err-vpe
returns-in_err-vpe c =
    let p = err_from_is_err_and c.from_residual.result c.from_residual.ensures.1 in
    rw (p.1, p.2) (record { fault = c.in_err-vpe.ensures.reads (code ∷ []); spelled = tt; fits = tt })

pub returns-in_err-code : goal.returns-in_err-code
returns-in_err-code c =
    let p = err_from_is_err_and c.from_residual-in_err-code.result c.from_residual-in_err-code.ensures.1 in
    rw (p.1, p.2) (record { fault = c.in_ok-vpe.ensures.reads.filled (code ∷ []) ∙ c.in_err-code.ensures.reads []; spelled = tt; fits = tt })

pub returns-in_err-no_more : goal.returns-in_err-no_more
returns-in_err-no_more c =
    let p = err_from_is_err_and c.from_residual-in_err-no_more.result c.from_residual-in_err-no_more.ensures.1 in
    rw (p.1, p.2) (record {
      fault = c.in_ok-vpe.ensures.reads.filled (code ∷ []) ∙ (c.in_ok-code.ensures.reads.filled [] ∙ c.in_err-no_more.ensures);
      spelled = tt;
      fits = tt;
    })

pub returns : goal.returns
returns c =
    record {
      fault = c.in_ok-vpe.ensures.reads.filled (code ∷ []) ∙ (c.in_ok-code.ensures.reads.filled [] ∙ c.in_ok-no_more.ensures);
      spelled = rw (c.in_ok-vpe.ensures.reads.spelled, c.in_ok-code.ensures.reads.spelled, nothing_more _ c.in_ok-no_more.ensures) refl;
      fits = (c.in_ok-vpe.ensures.fits, c.in_ok-code.ensures.within.most);
    }
