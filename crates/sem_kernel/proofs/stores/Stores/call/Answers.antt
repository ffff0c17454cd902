use Rattle.std.proofs.Common.{◌≡◌, ℕ, ◌∙◌, ap, sym, rules}
use Rattle.sem_key.specs.ObjectRanges.{IsValidObject}
use Rattle.sem_delegate.specs.Delegating.{IsOfKind}
use Rattle.sem_machine.specs.Calls.{call_row}
use Rattle.sem_machine.specs.Sound.{IsSoundObject}
use Rattle.sem_msg.specs.Setup.{Setup}
use Rattle.sem_msg.specs.declared.call.Call.{Call}
use Rattle.sem_msg.specs.declared.entry.Outcome.{Outcome}
use Rattle.sem_machine.specs.Sides.{Side}
use Rattle.sem_machine.specs.Steps.{step_of}
use Rattle.sem_kernel.specs.declared.stores.Stores.{Stores}
use Rattle.sem_kernel.specs.KernelStores.{side_of, AreStoresOf}
use Rattle.sem_kernel.specs.Handing.{HasCalled}
use Rattle.sem_kernel.proofs.Meets.{declared-here, next-absent, own-sound}
use Rattle.sem_kernel.proofs.stores.Stores.call.Goals as goal

pub derive_call-requires : goal.derive_call-requires
derive_call-requires c =
    let declared = declared-here c.args.setup.now c.requires.can.are.setup c.args.kernel c.requires.can.are.is_one c.args.vpe c.requires.can.here in
    let absent = next-absent c.args.setup.now c.requires.can.are.setup c.args.kernel c.requires.can.are.is_one
    (side_of c.args.self.now) c.requires.can.are.sound c.args.vpe in
    search (rules, declared, absent)

pub gate_call-requires : goal.gate_call-requires
gate_call-requires c =
    let declared = declared-here c.args.setup.now c.requires.can.are.setup c.args.kernel c.requires.can.are.is_one c.args.vpe c.requires.can.here in
    let absent = next-absent c.args.setup.now c.requires.can.are.setup c.args.kernel c.requires.can.are.is_one
    (side_of c.args.self.now) c.requires.can.are.sound c.args.vpe in
    search (rules, declared, absent)

pub obtain_call-requires : goal.obtain_call-requires
obtain_call-requires c =
    let declared = declared-here c.args.setup.now c.requires.can.are.setup c.args.kernel c.requires.can.are.is_one c.args.vpe c.requires.can.here in
    search (rules, declared)

pub open_call-requires : goal.open_call-requires
open_call-requires c =
    let declared = declared-here c.args.setup.now c.requires.can.are.setup c.args.kernel c.requires.can.are.is_one c.args.vpe c.requires.can.here in
    search (rules, declared)

pub offer_call-requires-clause-can : goal.offer_call-requires-clause-can
offer_call-requires-clause-can c =
    let declared = declared-here c.args.setup.now c.requires.can.are.setup c.args.kernel c.requires.can.are.is_one c.args.vpe c.requires.can.here in
    search (rules, declared)

pub offer_call-requires-clause-session : goal.offer_call-requires-clause-session
offer_call-requires-clause-session c = own-sound c.args.setup.now c.requires.can.are.setup c.args.kernel c.requires.can.are.is_one
    (side_of c.args.self.now) c.requires.can.are.sound c.args.vpe c.in-AskOffer.session (λ p. IsSoundObject c.args.setup.now p.object) (λ p among sound. sound.object)

pub delegate_call-requires-clause-can : goal.delegate_call-requires-clause-can
delegate_call-requires-clause-can c =
    let declared = declared-here c.args.setup.now c.requires.can.are.setup c.args.kernel c.requires.can.are.is_one c.args.vpe c.requires.can.here in
    search (rules, declared)

pub delegate_call-requires-clause-valid : goal.delegate_call-requires-clause-valid
delegate_call-requires-clause-valid c = own-sound c.args.setup.now c.requires.can.are.setup c.args.kernel c.requires.can.are.is_one
    (side_of c.args.self.now) c.requires.can.are.sound c.args.vpe c.in-Delegate.src IsOfKind (λ p among sound. (sound.object.0, sound.kind))

pub bind_call-requires-clause-valid : goal.bind_call-requires-clause-valid
bind_call-requires-clause-valid c = own-sound c.args.setup.now c.requires.can.are.setup c.args.kernel c.requires.can.are.is_one
    (side_of c.args.self.now) c.requires.can.are.sound c.args.vpe c.in-Bind.src (λ p. IsValidObject p.object) (λ p among sound. sound.object.0)

-- the call is the one that was made
as-called : (T : Setup) (i : ℕ) (y : Stores) (o : Outcome) (s : Side) (v : ℕ) (call made : Call) → call ≡ made → step_of o (side_of y) ≡ call_row T i s v made →
    AreStoresOf T i y → HasCalled T i y o (call_row T i s v call)
as-called T i y o s v call made is row stores = record { row = row ∙ ap (call_row T i s v) (sym is); stores = stores }

pub returns-in-Derive : goal.returns-in-Derive
unfolding call_row
returns-in-Derive c = as-called c.args.setup.now c.args.kernel _ _ (side_of c.args.self.now) c.args.vpe _ _
    c.in-Derive.is (c.derive_call.ensures.row (side_of c.args.self.now)) (search rules)

pub returns-in-Gate : goal.returns-in-Gate
unfolding call_row
returns-in-Gate c = as-called c.args.setup.now c.args.kernel _ _ (side_of c.args.self.now) c.args.vpe _ _
    c.in-Gate.is (c.gate_call.ensures.row (side_of c.args.self.now)) (search rules)

pub returns-in-Obtain : goal.returns-in-Obtain
unfolding call_row
returns-in-Obtain c = as-called c.args.setup.now c.args.kernel _ _ (side_of c.args.self.now) c.args.vpe _ _
    c.in-Obtain.is (c.obtain_call.ensures.row (side_of c.args.self.now)) (search rules)

pub returns-in-Delegate : goal.returns-in-Delegate
unfolding call_row
returns-in-Delegate c = as-called c.args.setup.now c.args.kernel _ _ (side_of c.args.self.now) c.args.vpe _ _
    c.in-Delegate.is (c.delegate_call.ensures.row (side_of c.args.self.now)) (search rules)

pub returns-in-OpenSession : goal.returns-in-OpenSession
unfolding call_row
returns-in-OpenSession c = as-called c.args.setup.now c.args.kernel _ _ (side_of c.args.self.now) c.args.vpe _ _
    c.in-OpenSession.is (c.open_call.ensures.row (side_of c.args.self.now)) (search rules)

pub returns-in-AskOffer : goal.returns-in-AskOffer
unfolding call_row
returns-in-AskOffer c = as-called c.args.setup.now c.args.kernel _ _ (side_of c.args.self.now) c.args.vpe _ _
    c.in-AskOffer.is (c.offer_call.ensures.row (side_of c.args.self.now)) (search rules)

pub returns-in-Bind : goal.returns-in-Bind
unfolding call_row
returns-in-Bind c = as-called c.args.setup.now c.args.kernel _ _ (side_of c.args.self.now) c.args.vpe _ _
    c.in-Bind.is (c.bind_call.ensures.row (side_of c.args.self.now)) (search rules)

pub returns-in-Read : goal.returns-in-Read
unfolding call_row
returns-in-Read c = as-called c.args.setup.now c.args.kernel _ _ (side_of c.args.self.now) c.args.vpe _ _
    c.in-Read.is (c.read_call.ensures.row (side_of c.args.self.now)) (search rules)

pub returns-in-Write : goal.returns-in-Write
unfolding call_row
returns-in-Write c = as-called c.args.setup.now c.args.kernel _ _ (side_of c.args.self.now) c.args.vpe _ _
    c.in-Write.is (c.write_call.ensures.row (side_of c.args.self.now)) (search rules)

pub returns-in-Send : goal.returns-in-Send
unfolding call_row
returns-in-Send c = as-called c.args.setup.now c.args.kernel _ _ (side_of c.args.self.now) c.args.vpe _ _
    c.in-Send.is (c.send_call.ensures.row (side_of c.args.self.now)) (search rules)

pub returns-in-Credit : goal.returns-in-Credit
unfolding call_row
returns-in-Credit c = as-called c.args.setup.now c.args.kernel _ _ (side_of c.args.self.now) c.args.vpe _ _
    c.in-Credit.is (c.credit_call.ensures.row (side_of c.args.self.now)) (search rules)

pub returns-in-Revoke : goal.returns-in-Revoke
unfolding call_row
returns-in-Revoke c = as-called c.args.setup.now c.args.kernel _ _ (side_of c.args.self.now) c.args.vpe _ _
    c.in-Revoke.is c.revoke.ensures.row c.revoke.ensures.stores

pub returns-in-Clear : goal.returns-in-Clear
unfolding call_row
returns-in-Clear c = as-called c.args.setup.now c.args.kernel _ _ (side_of c.args.self.now) c.args.vpe _ _
    c.in-Clear.is c.clear.ensures.row c.clear.ensures.stores

pub returns-in-Exit : goal.returns-in-Exit
unfolding call_row
returns-in-Exit c = as-called c.args.setup.now c.args.kernel _ _ (side_of c.args.self.now) c.args.vpe _ _
    c.in-Exit.is c.exit.ensures.row c.exit.ensures.stores
