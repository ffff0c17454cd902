-- What earlier lines make wrong with a line ("The trace" in docs/texts.md).
use Rattle.std.specs.Prelude.{ℕ, ◌+◌, nat_lt, nat_le, Bool, true, false, not, ◌||◌, List, is_some, is_none, Option}
use Rattle.std.specs.Prelude.{Some, None, if◌then◌else◌}
use Rattle.sem_trace.specs.declared.fault.LineFault.{LineFault}
use Rattle.sem_trace.specs.declared.fault.Cause.TheVariants.{OutOfRange, Undeclared, Twice, TooMany}
use Rattle.sem_trace.specs.declared.declaration.Declaration.{Declaration}
use Rattle.sem_trace.specs.declared.declaration.Declaration.TheVariants.{Kernels, Window, Pe, Vpe, Memory, Receive}
use Rattle.sem_trace.specs.declared.declaration.Declaration.TheVariants.{Service, Offer, Deny, Kill, Call, End}
use Rattle.sem_trace.specs.Earlier.{window_in, owner_in, pe_in, is_pe_taken, roots_in, holds_at, has_service, offer_in}
use Rattle.sem_trace.specs.Earlier.{is_denied, kill_in, call_number}
use Rattle.sem_trace.specs.Forms.{at_word}

-- memory that ends past 2 ^ 32
abbrev pub is_too_long : Declaration → Bool
is_too_long (Memory v s base len rights) = nat_lt 4294967296 (base + len)
is_too_long d = false

-- whether the line speaks of a PE, a VPE or a service that no earlier line declares
abbrev pub is_undeclared : List Declaration → Declaration → Bool
is_undeclared earlier (Kernels kernels) = false
is_undeclared earlier (Window window) = false
is_undeclared earlier (Pe p kernel) = false
is_undeclared earlier (Vpe v p) = is_none (owner_in earlier p)
is_undeclared earlier (Memory v s base len rights) = is_none (pe_in earlier v)
is_undeclared earlier (Receive v s slots) = is_none (pe_in earlier v)
is_undeclared earlier (Service v s name) = is_none (pe_in earlier v)
is_undeclared earlier (Offer name index s) = not (has_service earlier name)
is_undeclared earlier (Deny v asker) = is_none (pe_in earlier v) || is_none (pe_in earlier asker)
is_undeclared earlier (Kill v replies) = is_none (pe_in earlier v)
is_undeclared earlier (Call v call) = is_none (pe_in earlier v)
is_undeclared earlier End = false

-- whether an earlier line says that already: the number of kernels, the window, a PE, a VPE, a VPE
-- on that PE, something at that selector, a service of that name, an offer under that index, a
-- denied pair, a kill
abbrev pub is_twice : List Declaration → Declaration → Bool
is_twice earlier (Kernels kernels) = true
is_twice earlier (Window window) = is_some (window_in earlier)
is_twice earlier (Pe p kernel) = is_some (owner_in earlier p)
is_twice earlier (Vpe v p) = is_some (pe_in earlier v) || is_pe_taken earlier p
is_twice earlier (Memory v s base len rights) = holds_at (roots_in earlier v) s
is_twice earlier (Receive v s slots) = holds_at (roots_in earlier v) s
is_twice earlier (Service v s name) = holds_at (roots_in earlier v) s || has_service earlier name
is_twice earlier (Offer name index s) = is_some (offer_in earlier name index)
is_twice earlier (Deny v asker) = is_denied earlier v asker
is_twice earlier (Kill v replies) = is_some (kill_in earlier v)
is_twice earlier (Call v call) = false
is_twice earlier End = false

abbrev pub is_call_too_many : List Declaration → Declaration → Bool
is_call_too_many earlier (Call v call) = nat_le 20000 (call_number earlier)
is_call_too_many earlier d = false

-- the word, counted from 0, that names what no earlier line declares
abbrev pub undeclared_word : List Declaration → Declaration → ℕ
undeclared_word earlier (Vpe v p) = 2
undeclared_word earlier (Deny v asker) = if is_none (pe_in earlier v) then 1 else 2
undeclared_word earlier d = 1

-- the word, counted from 0, that says what an earlier line says: the last one of a pair
abbrev pub twice_word : List Declaration → Declaration → ℕ
twice_word earlier (Kernels kernels) = 0
twice_word earlier (Window window) = 0
twice_word earlier (Pe p kernel) = 1
twice_word earlier (Vpe v p) = if is_some (pe_in earlier v) then 1 else 2
twice_word earlier (Service v s name) = if holds_at (roots_in earlier v) s then 2 else 3
twice_word earlier (Kill v replies) = 1
twice_word earlier d = 2

-- what is wrong with what a line says, after what the earlier lines say. Memory ends too far by its
-- length, word 5
unfoldable pub context_fault : List Declaration → Declaration → Option LineFault
context_fault earlier d =
    if is_too_long d then Some (at_word 5 OutOfRange)
    else (if is_undeclared earlier d then Some (at_word (undeclared_word earlier d) Undeclared)
    else (if is_twice earlier d then Some (at_word (twice_word earlier d) Twice)
    else (if is_call_too_many earlier d then Some (at_word 0 TooMany) else None)))
