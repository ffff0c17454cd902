use Rattle.std.proofs.Common.{inl, inr, refl, arith}
use Rattle.std.proofs.lemmas.Fmt.{decimal_digit}
use Rattle.sem_report.proofs.trace_head.version_word.Goals as goal

pub returns-then-version-eq1 : goal.returns-then-version-eq1
returns-then-version-eq1 c =
    elim c.requires [
      | inl one ↦ rw (one, decimal_digit 1 (omega arith)) refl
      | inr two ↦ absurd (omega (arith, two))
    ]

pub returns-else-version-eq1 : goal.returns-else-version-eq1
returns-else-version-eq1 c =
    elim c.requires [
      | inl one ↦ absurd (omega (arith, one))
      | inr two ↦ rw (two, decimal_digit 2 (omega arith)) refl
    ]
