-- The most entries that a call can bring, and what the calls of a journal and of a setup can bring
-- in all ("The bound" in docs/proof.md).
use Rattle.std.specs.Prelude.{ℕ, ◌==◌, List, flat_map, map, sum, sum_by, if◌then◌else◌}
use Rattle.std.specs.Option.{option_map_or}
use Rattle.sem_machine.specs.Prelude.{Call, Derive, Gate, Bind, Read, Write, SendCall as Send, Credit, Obtain}
use Rattle.sem_machine.specs.Prelude.{OpenSession, AskOffer, Delegate, Revoke, Clear, Exit, Detail, Called, Carried}
use Rattle.sem_machine.specs.Prelude.{Asked, Nothing, Entry, Setup, kernel_of}
use Rattle.sem_msg.specs.Lookups.{service_named}

-- An exchange with VPE w: within kernel i 3 entries, for the call, the ask and the reply.
abbrev pub exchange_entries : Setup → ℕ → ℕ → ℕ → ℕ
exchange_entries T i w across = if kernel_of T w == i then 3 else across

-- The most entries that a call of a VPE of kernel i can bring, its own among them.
-- Which VPE serves a session shows only when it is asked. An undeclared service is not asked.
abbrev pub most_entries : Setup → ℕ → Call → ℕ
most_entries T i (Obtain dst w src) = exchange_entries T i w 18
most_entries T i (OpenSession dst name) =
    option_map_or (λ s. exchange_entries T i s.key.vpe 18) (service_named T name) 1
most_entries T i (AskOffer dst session index) = 18
most_entries T i (Delegate src w dst) = exchange_entries T i w 21
most_entries T i (Revoke src) = 2
most_entries T i (Clear src) = 2
most_entries T i (Derive src dst off len rights) = 1
most_entries T i (Gate src dst label credits) = 1
most_entries T i (Bind ep src) = 1
most_entries T i (Read ep off len) = 1
most_entries T i (Write ep off len) = 1
most_entries T i (Send ep len) = 1
most_entries T i (Credit ep) = 1
most_entries T i Exit = 1

-- the most entries that the call told by an entry of kernel i can bring, if the entry tells a call
abbrev pub call_entries : Setup → ℕ → Detail → ℕ
call_entries T i (Called index call) = most_entries T i call
call_entries T i (Carried peer message) = 0
call_entries T i (Asked asker answer) = 0
call_entries T i Nothing = 0

-- what the calls of a journal can bring
abbrev pub costs_made : Setup → List Entry → ℕ
costs_made T J = sum_by (λ e. call_entries T e.event.kernel e.detail) J

-- what each call of a setup can bring, VPE by VPE
abbrev pub each_declared : Setup → List ℕ
each_declared T = flat_map (λ d. map (most_entries T (kernel_of T d.vpe)) d.calls) T.vpes

-- what all calls of a setup can bring
abbrev pub costs_declared : Setup → ℕ
costs_declared T = sum (each_declared T)
