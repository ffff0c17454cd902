use Rattle.std.proofs.Common.{◌≡◌, ◌&&◌, not, refl, ap}
use Rattle.std.proofs.lemmas.Bool.{cond-true, and_from}
use Rattle.sem_machine.specs.Sides.{Side, row, parked}
use Rattle.sem_machine.specs.Machine.{side}
use Rattle.sem_machine.specs.Schedules.{world_after}
use Rattle.sem_safety.proofs.AskWeights.{waits, free}
use Rattle.sem_msg.specs.declared.message.Message.TheVariants.{ObtainReq, DelegateReq}
use Rattle.sem_safety.proofs.FewAsks.{few-asks, room-at-handling, room-at-call}
use Rattle.sem_safety.proofs.exchanges.asks_are_few.Goals as goal

pub returns-clause-few : goal.returns-clause-few
returns-clause-few c = few-asks

pub returns-clause-obtain : goal.returns-clause-obtain
returns-clause-obtain c = λ T valid J runs i w from place target fetched. room-at-handling T J runs valid i w place.vpe from (ObtainReq place target) fetched
    (λ v0. refl)

pub returns-clause-delegate : goal.returns-clause-delegate
returns-clause-delegate c = λ T valid J runs i w from vpe sel parent object fetched. room-at-handling T J runs valid i w parent.vpe from
    (DelegateReq parent object vpe sel) fetched (λ v0. refl)

-- a VPE that is alive and waits for nothing is free
pub returns-clause-call : goal.returns-clause-call
returns-clause-call c = λ T valid J runs i w v alive unparked.
    let s : Side = side (world_after T J) i in
    let may : free (row s v) (parked s v) ≡ 1 =
    cond-true ((row s v).alive && not (waits (parked s v))) 1 0
    (and_from (row s v).alive (not (waits (parked s v))) alive (ap (λ p. not (waits p)) unparked)) in
    room-at-call T J runs valid i w v may
