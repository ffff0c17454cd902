use Rattle.std.proofs.Common.{ℕ, List, [], ◌∷◌, ◌++◌, refl, ap, drop}
use Rattle.std.proofs.lemmas.Result.{err_from_is_err_and}
use Rattle.sem_trace.specs.Forms.{form_fault}
use Rattle.sem_trace.specs.MessageForms.{message_form}
use Rattle.sem_journal.specs.EntryForms.{kernel}
use Rattle.sem_journal.proofs.WordChoices.{filled_both, failed_behind}
use Rattle.sem_journal.proofs.read_entries.carried.Goals as goal

pub returns-in_err-peer : goal.returns-in_err-peer
unfolding form_fault
returns-in_err-peer c =
    let p = err_from_is_err_and c.from_residual.result c.from_residual.ensures.1 in
    rw (p.1, p.2) (record { reads = λ more. c.in_err-peer.ensures.reads (message_form c.args.version (drop 1 c.args.words.now) ++ more); fits = tt })

pub returns-in_err-message : goal.returns-in_err-message
unfolding form_fault
returns-in_err-message c =
    let p = err_from_is_err_and c.from_residual-in_err-message.result c.from_residual-in_err-message.ensures.1 in
    rw (p.1, p.2) (record {
      reads = failed_behind (kernel c.args.kernels ∷ []) (message_form c.args.version c.kernel.new.words)
          (message_form c.args.version (drop 1 c.args.words.now)) c.args.words.now c.kernel.new.words _
          (ap (λ (words : List (List ℕ)). message_form c.args.version (drop 1 words)) c.in_ok-peer.ensures.reads.spelled) c.in_ok-peer.ensures.reads.filled
          c.in_err-message.ensures.reads;
      fits = tt;
    })

pub returns : goal.returns
unfolding form_fault
returns c =
    record {
      reads = record {
        filled = filled_both (kernel c.args.kernels ∷ []) (message_form c.args.version c.kernel.new.words)
            (message_form c.args.version (drop 1 c.args.words.now)) c.args.words.now c.kernel.new.words c.message.new.words
            (ap (λ (words : List (List ℕ)). message_form c.args.version (drop 1 words)) c.in_ok-peer.ensures.reads.spelled) c.in_ok-peer.ensures.reads.filled
            c.in_ok-message.ensures.reads.filled;
        spelled = rw (c.in_ok-peer.ensures.reads.spelled, c.in_ok-message.ensures.reads.spelled) refl;
      };
      fits = (c.in_ok-peer.ensures.fits, c.in_ok-message.ensures.fits);
    }
