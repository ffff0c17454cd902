use Rattle.std.proofs.Common.{◌∙◌, sym}
use Rattle.sem_outcomes.proofs.Codes.{same-seen, seen-same}
use Rattle.sem_outcomes.proofs.endings.same_codes.Goals as goal

pub returns : goal.returns
returns c =
    let one = c.args.one.now in
    let other = c.args.other.now in
    ((λ yes. same-seen one other (sym c.eq.ensures ∙ yes)), (λ same. c.eq.ensures ∙ seen-same one other same))
