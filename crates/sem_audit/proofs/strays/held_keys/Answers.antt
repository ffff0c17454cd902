use Rattle.std.proofs.Common.{ℕ, map, ◌∙◌, ap, arith}
use Rattle.std.proofs.lemmas.List.{take_all}
use Rattle.sem_key.specs.KeyName.{KeyName}
use Rattle.sem_msg.specs.declared.audit.Held.{Held}
use Rattle.sem_msg.specs.Audits.{held_pairs}
use Rattle.sem_audit.proofs.Upwards.{keys-of_pairs}
use Rattle.sem_audit.proofs.strays.held_keys.Goals as goal

-- all of them
pub returns : goal.returns
returns c =
    c.loop-one.invariant
    ∙ (ap (map (λ (x : Held). x.key)) (take_all c.loop-one.one-index c.as_slice-one-items.result.now (omega arith))
    ∙ (keys-of_pairs c.as_slice-one-items.result.now
    ∙ ap (map (λ (p : KeyName × ℕ). p.0)) (ap held_pairs c.as_slice-one-items.ensures ∙ c.in_ok-held.ensures)))
