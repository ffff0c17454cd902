use Rattle.std.proofs.Common.{ℕ, List, [], ◌∷◌, ◌++◌, refl, ap, ◌∙◌}
use Rattle.std.proofs.lemmas.Result.{err_from_is_err_and}
use Rattle.sem_trace.specs.Forms.{form_fault, choice, word_at, node, word, calls}
use Rattle.sem_journal.specs.EntryForms.{events, event_form}
use Rattle.sem_journal.proofs.WordChoices.{filled_both, failed_behind}
use Rattle.sem_journal.proofs.read_entries.call_event.Goals as goal

pub returns-in_err-vpe : goal.returns-in_err-vpe
unfolding form_fault events event_form
returns-in_err-vpe c kernels =
    let p = err_from_is_err_and c.from_residual.result c.from_residual.ensures.1 in
    rw (p.1, p.2) (record { reads = λ more. c.in_err-vpe.ensures.reads (word ∷ choice (calls c.args.version) (word_at c.args.words.now 2) ++ more); fits = tt })

pub returns-in_err-index : goal.returns-in_err-index
unfolding form_fault events event_form
returns-in_err-index c kernels =
    let p = err_from_is_err_and c.from_residual-in_err-index.result c.from_residual-in_err-index.ensures.1 in
    rw (p.1, p.2) (record {
      reads = λ more. c.in_ok-vpe.ensures.reads.filled (word ∷ choice (calls c.args.version) (word_at c.args.words.now 2) ++ more)
          ∙ c.in_err-index.ensures.reads (choice (calls c.args.version) (word_at c.args.words.now 2) ++ more);
      fits = tt;
    })

pub returns-in_err-call : goal.returns-in_err-call
unfolding form_fault events event_form
returns-in_err-call c kernels =
    let p = err_from_is_err_and c.from_residual-in_err-call.result c.from_residual-in_err-call.ensures.1 in
    rw (p.1, p.2) (record {
      reads = failed_behind (node c.args.version ∷ word ∷ []) (choice (calls c.args.version) (word_at c.number.new.self 0))
          (choice (calls c.args.version) (word_at c.args.words.now 2)) c.args.words.now c.number.new.self _
          (ap (λ (words : List (List ℕ)). choice (calls c.args.version) (word_at words 2)) c.in_ok-vpe.ensures.reads.spelled
          ∙ ap (λ (words : List (List ℕ)). choice (calls c.args.version) (word_at words 1)) c.in_ok-index.ensures.reads.spelled)
          (λ more. c.in_ok-vpe.ensures.reads.filled (word ∷ more) ∙ c.in_ok-index.ensures.reads.filled more) c.in_err-call.ensures.reads;
      fits = tt;
    })

pub returns : goal.returns
unfolding form_fault events event_form
returns c kernels =
    record {
      reads = record {
        filled = filled_both (node c.args.version ∷ word ∷ []) (choice (calls c.args.version) (word_at c.number.new.self 0))
            (choice (calls c.args.version) (word_at c.args.words.now 2)) c.args.words.now c.number.new.self c.call.new.self
            (ap (λ (words : List (List ℕ)). choice (calls c.args.version) (word_at words 2)) c.in_ok-vpe.ensures.reads.spelled
            ∙ ap (λ (words : List (List ℕ)). choice (calls c.args.version) (word_at words 1)) c.in_ok-index.ensures.reads.spelled)
            (λ more. c.in_ok-vpe.ensures.reads.filled (word ∷ more) ∙ c.in_ok-index.ensures.reads.filled more) c.in_ok-call.ensures.reads.filled;
        spelled = rw (c.in_ok-vpe.ensures.reads.spelled, c.in_ok-index.ensures.reads.spelled, c.in_ok-call.ensures.reads.spelled) refl;
      };
      fits = (c.in_ok-vpe.ensures.fits, c.in_ok-index.ensures.within.most, c.in_ok-call.ensures.valid);
    }
