use Rattle.std.proofs.Common.{refl, sym, ap, ◌∙◌, rules}
use Rattle.sem_key.specs.Capability.{capability_of}
use Rattle.sem_machine.specs.Sides.{no_side, slot}
use Rattle.sem_machine.specs.Calls.{derive_tests, child_made}
use Rattle.sem_machine.proofs.FirstCodes.{row-refused}
use Rattle.sem_machine.specs.Stores.{owning}
use Rattle.sem_own.proofs.Refusing.{derive-done, derive-number, child-room}
use Rattle.sem_own.proofs.children.derive_call.Goals as goal

-- the first test that holds
pub returns-in-Some-clause-row : goal.returns-in-Some-clause-row
returns-in-Some-clause-row c s =
    row-refused (owning c.args.caps.now.caps c.args.vpes.now.rows s)
    (derive_tests (owning c.args.caps.now.caps c.args.vpes.now.rows s) c.args.vpe c.args.src c.args.dst c.args.part.now.off c.args.part.now.len c.args.part.now.rights) _
    c.in-Some.code c.answered.result c.in-Some.ensures c.answered.ensures

pub make_child-requires-clause-number : goal.make_child-requires-clause-number
make_child-requires-clause-number c = derive-number (owning c.args.caps.now.caps c.args.vpes.now.rows no_side) c.args.vpe c.args.src c.args.dst c.args.part.now.off
    c.args.part.now.len c.args.part.now.rights c.in_default.ensures

pub make_child-requires-clause-child_room : goal.make_child-requires-clause-child_room
make_child-requires-clause-child_room c = child-room c.args.caps.now (owning c.args.caps.now.caps c.args.vpes.now.rows no_side)
    (slot (owning c.args.caps.now.caps c.args.vpes.now.rows no_side) c.args.vpe c.args.src) (capability_of c.in-Some-and_then.parent.now) refl (search rules)
    c.requires.can.child_room

-- no test holds
pub returns-clause-row : goal.returns-clause-row
returns-clause-row c s =
    c.make_child.ensures.row s
    ∙ ap (λ o. child_made c.args.setup.now c.args.vpe c.args.dst o c.in-Some-and_then.parent.now.key (owning c.args.caps.now.caps c.args.vpes.now.rows s))
    c.narrowed-object.ensures
    ∙ sym (derive-done c.args.setup.now (owning c.args.caps.now.caps c.args.vpes.now.rows s) c.args.vpe c.args.src c.args.dst c.args.part.now.off c.args.part.now.len
    c.args.part.now.rights (capability_of c.in-Some-and_then.parent.now) c.in_default.ensures (search rules))
