use Rattle.std.proofs.Common.{◌≡◌, ◌++◌, map, take}
use Rattle.sem_text.specs.Lines.{text}
use Rattle.sem_trace.specs.TraceText.{offer_line}
use Rattle.sem_trace.proofs.print.push_offers.Given as goal

-- the lines of the offers so far were appended
abbrev pub invariant-loop-offer : goal.invariant-loop-offer
invariant-loop-offer l = l.out.items ≡ l.initial.out.items ++ text (map offer_line (take l.offer-index l.offers))
