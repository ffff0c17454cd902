-- The codes of replies ("Replies" in docs/machine.md).
use Rattle.std.specs.Prelude.{ℕ}
use Rattle.sem_msg.specs.declared.code.Code.{Code}
use Rattle.sem_msg.specs.declared.code.Code.TheVariants.{Ok as OkCode, NoVpe, Dead, NoCap, Revoking, Refused}
use Rattle.sem_msg.specs.declared.code.Code.TheVariants.{Occupied, Numbers, BadKind, Wider, NoService, Gone, Unbound}
use Rattle.sem_msg.specs.declared.code.Code.TheVariants.{Rights, Range, SelfExchange}

-- the number of a code in a reply or a message
abbrev pub code_number : Code → ℕ
code_number OkCode = 0
code_number NoVpe = 1
code_number Dead = 2
code_number NoCap = 3
code_number Revoking = 4
code_number Refused = 5
code_number Occupied = 6
code_number Numbers = 7
code_number BadKind = 8
code_number Wider = 9
code_number NoService = 10
code_number Gone = 11
code_number Unbound = 12
code_number Rights = 13
code_number Range = 14
code_number SelfExchange = 15
