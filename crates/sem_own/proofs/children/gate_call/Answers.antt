use Rattle.std.proofs.Common.{refl, sym, ◌∙◌, rules}
use Rattle.sem_key.specs.Capability.{capability_of}
use Rattle.sem_machine.specs.Sides.{no_side, slot}
use Rattle.sem_machine.specs.Calls.{gate_tests}
use Rattle.sem_machine.proofs.FirstCodes.{row-refused}
use Rattle.sem_machine.specs.Stores.{owning}
use Rattle.sem_own.proofs.Refusing.{gate-done, gate-number, child-room}
use Rattle.sem_own.proofs.children.gate_call.Goals as goal

-- the first test that holds
pub returns-in-Some-clause-row : goal.returns-in-Some-clause-row
returns-in-Some-clause-row c s =
    row-refused (owning c.args.caps.now.caps c.args.vpes.now.rows s)
    (gate_tests (owning c.args.caps.now.caps c.args.vpes.now.rows s) c.args.vpe c.args.src c.args.dst c.args.gate.credits) _ c.in-Some.code c.answered.result
    c.in-Some.ensures c.answered.ensures

pub make_child-requires-clause-number : goal.make_child-requires-clause-number
make_child-requires-clause-number c = gate-number (owning c.args.caps.now.caps c.args.vpes.now.rows no_side) c.args.vpe c.args.src c.args.dst c.args.gate.credits
    c.in_default.ensures

pub make_child-requires-clause-child_room : goal.make_child-requires-clause-child_room
make_child-requires-clause-child_room c = child-room c.args.caps.now (owning c.args.caps.now.caps c.args.vpes.now.rows no_side)
    (slot (owning c.args.caps.now.caps c.args.vpes.now.rows no_side) c.args.vpe c.args.src) (capability_of c.in-Some-and_then.parent.now) refl (search rules)
    c.requires.can.child_room

-- no test holds
pub returns-clause-row : goal.returns-clause-row
returns-clause-row c s =
    c.make_child.ensures.row s
    ∙ sym (gate-done c.args.setup.now (owning c.args.caps.now.caps c.args.vpes.now.rows s) c.args.vpe c.args.src c.args.dst c.args.gate.label c.args.gate.credits
    (capability_of c.in-Some-and_then.parent.now) c.in_default.ensures (search rules))
