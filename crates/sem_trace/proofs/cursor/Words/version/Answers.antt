use Rattle.std.proofs.Common.{refl, arith}
use Rattle.std.proofs.lemmas.Fmt.{decimal_digit}
use Rattle.sem_trace.specs.Forms.{form_fault}
use Rattle.sem_trace.proofs.cursor.Words.version.Goals as goal

pub returns-then-is-clause-reads : goal.returns-then-is-clause-reads
unfolding form_fault
returns-then-is-clause-reads c =
    rw (c.in_ok-word.ensures.ok, c.if-is.ensures.0 refl) (record { filled = λ more. refl; spelled = rw (decimal_digit 1 (omega arith)) refl })

pub returns-then-is-2-clause-reads : goal.returns-then-is-2-clause-reads
unfolding form_fault
returns-then-is-2-clause-reads c =
    rw (c.in_ok-word.ensures.ok, c.if-is-2.ensures.0 refl) (record { filled = λ more. refl; spelled = rw (decimal_digit 2 (omega arith)) refl })
