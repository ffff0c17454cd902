use Rattle.std.proofs.Common.{◌≡◌, ap, rules, tests}
use Rattle.std.specs.Bool.{Decides}
use Rattle.std.specs.Prelude.{map}
use Rattle.std.proofs.lemmas.Slice.Eq.{slice_eq-Decides}
use Rattle.sem_msg.specs.declared.audit.Held.{Held}
use Rattle.sem_msg.specs.contracts.audit.HeldPartialEq.TheImpl as held
use Rattle.sem_outcomes.proofs.Codes.{pairs-held}
use Rattle.sem_outcomes.proofs.endings.same_held.Goals as goal

held-decides : (a b : Held) → Decides (held.eq-value.it a b) (a ≡ b)
held-decides a b = search (rules, tests)

pub returns : goal.returns
returns c =
    let one = c.args.one.now in
    let other = c.args.other.now in
    let decides = slice_eq-Decides held-decides one other c.eq.result c.eq.ensures in
    ((λ yes. ap (λ (hs : _). map (λ (h : Held). (h.key, h.sel)) hs) (decides.0 yes)), (λ same. decides.1 (pairs-held one other same)))
