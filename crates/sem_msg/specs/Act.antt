-- Acts of a kernel ("Events" in docs/machine.md).
use Rattle.std.specs.Prelude.{ℕ, Bool, true, false}
use Rattle.sem_msg.specs.declared.event.Act.{Act}
use Rattle.sem_msg.specs.declared.event.Act.TheVariants.{Call as Calls, Fetch, Handle, Upcall, Resume, Flush, Kill}

-- the number of an act
abbrev pub number_of_act : Act → ℕ
number_of_act (Calls vpe) = 1
number_of_act (Fetch from) = 2
number_of_act Handle = 3
number_of_act (Upcall vpe) = 4
number_of_act (Resume vpe) = 5
number_of_act (Flush to) = 6
number_of_act (Kill vpe) = 7

-- the VPE whose call an act answers
abbrev pub replied_vpe : Act → ℕ
replied_vpe (Calls v) = v
replied_vpe (Resume v) = v
replied_vpe act = 0

-- whether an act only moves a message
abbrev pub only_moves : Act → Bool
only_moves (Fetch from) = true
only_moves (Flush to) = true
only_moves act = false
