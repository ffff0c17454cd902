use Rattle.std.proofs.Common.{refl, ap, sym, ◌∙◌, slice_index_or}
use Rattle.std.proofs.lemmas.Bool.{iff_false}
use Rattle.sem_key.specs.declared.key.Kind.TheVariants.{Mem as MemKind}
use Rattle.sem_msg.specs.declared.audit.Audit.{Audit}
use Rattle.sem_msg.specs.declared.audit.Held.{Held}
use Rattle.sem_report.proofs.audits.same_audit.Goals as goal

-- any held key
any : Held
any = record { key = record { pe = 0; vpe = 0; kind = MemKind; number = 0 }; sel = 0 }

pub returns-in-Some : goal.returns-in-Some
returns-in-Some c = (
  λ no. absurd (iff_false (λ p. p, λ p. p) refl no),
  λ same. absurd (c.in-Some.ensures.other any (ap (λ hs. slice_index_or hs c.in-Some.field-0 any)
      (c.as_slice.ensures ∙ (ap (λ (a : Audit). a.held) same ∙ sym c.as_slice-2.ensures)))),
)
