use Rattle.std.proofs.Common.{sym, ◌∙◌, rules}
use Rattle.sem_key.specs.Capability.{capability_of}
use Rattle.sem_machine.specs.Calls.{bind_tests}
use Rattle.sem_machine.specs.Stores.{owning, with_endpoints}
use Rattle.sem_machine.proofs.FirstCodes.{row-refused}
use Rattle.sem_own.proofs.Using.{bind-done}
use Rattle.sem_own.proofs.endpoints.bind_call.Goals as goal

-- the first test that holds
pub returns-in-Some-clause-row : goal.returns-in-Some-clause-row
returns-in-Some-clause-row c s =
    let side = with_endpoints c.args.dtus.now.rows (owning c.args.caps.now.caps c.args.vpes.now.rows s) in
    row-refused side (bind_tests side c.args.vpe c.args.src) _ c.in-Some.code c.answered.result c.in-Some.ensures c.answered.ensures

-- no test holds
pub returns-clause-row : goal.returns-clause-row
returns-clause-row c s =
    let side = with_endpoints c.args.dtus.now.rows (owning c.args.caps.now.caps c.args.vpes.now.rows s) in
    (λ i. record { side = with_endpoints (c.bind.ensures i).rows (owning c.args.caps.now.caps c.args.vpes.now.rows s); outcome = c.answered-2.ensures i })
    ∙ sym (bind-done side c.args.vpe c.args.ep c.args.src (capability_of c.in-Some-and_then.cap.now) c.in_default.ensures (search rules))
