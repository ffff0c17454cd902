-- What a VPE may do through its endpoints, and how that changes them ("Calls" in docs/machine.md).
use Rattle.std.specs.Prelude.{ℕ, Bool, List, find, Option, is_some, if◌then◌else◌}
use Rattle.std.specs.Option.{option_map}
use Rattle.sem_msg.specs.declared.code.Code.{Code}
use Rattle.sem_msg.specs.declared.code.Code.TheVariants.{Unbound as UnboundCode, Rights as RightsCode}
use Rattle.sem_msg.specs.declared.code.Code.TheVariants.{Range as RangeCode}
use Rattle.sem_msg.specs.Prelude.{Endpoint}
use Rattle.sem_msg.specs.EndpointRows.{endpoint, with_endpoint}
use Rattle.sem_msg.specs.Uses.{memory_tests, send_tests, credit_tests, ring_changed, rung, credited}
use Rattle.sem_dtu.specs.declared.op.Op.{Op}
use Rattle.sem_dtu.specs.declared.op.Op.TheVariants.{Read, Write, Send as SendOp, Credit}
use Rattle.sem_dtu.specs.declared.op.UseFault.{UseFault}
use Rattle.sem_dtu.specs.declared.op.UseFault.TheVariants.{Unbound, Rights, Range}

-- the code that answers a call that fails so
abbrev pub fault_code : UseFault → Code
fault_code Unbound = UnboundCode
fault_code Rights = RightsCode
fault_code Range = RangeCode

-- the tests of an operation
abbrev pub use_tests : Op → Option Endpoint → List (Bool × Code)
use_tests (Read off len) e = memory_tests 1 off len e
use_tests (Write off len) e = memory_tests 2 off len e
use_tests (SendOp len) e = send_tests e
use_tests Credit e = credit_tests e

-- the refusal is the code of the first test that holds
abbrev pub use_refusal : Op → Option Endpoint → Option Code
use_refusal op e = option_map (λ test. test.1) (find (λ test. test.0) (use_tests op e))

-- the endpoint after the operation
abbrev pub done : Op → Option Endpoint → Option Endpoint
done (Read off len) e = e
done (Write off len) e = e
done (SendOp len) e = ring_changed (rung len) e
done Credit e = ring_changed credited e

-- the endpoint after the operation was tried
abbrev pub tried : Op → Option Endpoint → Option Endpoint
tried op e = if is_some (use_refusal op e) then e else done op e

-- the endpoints after the operation
abbrev pub use_done : Op → ℕ → ℕ → List (List (Option Endpoint)) → List (List (Option Endpoint))
use_done (Read off len) v ep rows = rows
use_done (Write off len) v ep rows = rows
use_done op v ep rows = with_endpoint v ep (done op (endpoint rows v ep)) rows
