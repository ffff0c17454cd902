use Rattle.std.proofs.Common.{◌≡◌, map, take}
use Rattle.sem_histories.specs.Outcomes.{codes_to}
use Rattle.sem_outcomes.proofs.endings.all_codes.Given as goal

-- the codes to the first VPEs
abbrev pub invariant-loop-decl : goal.invariant-loop-decl
invariant-loop-decl l = map (λ c. c.items) l.codes.items ≡ map (λ d. codes_to l.entries d.vpe) (take l.decl-index l.setup.vpes)
