-- Every schedule of a file service goes well.
use Rattle.std.proofs.Common.{◌≡◌, List, Some}
use Rattle.std.specs.List.{Contains}
use Rattle.sem_msg.specs.declared.entry.Entry.{Entry}
use Rattle.sem_msg.specs.declared.entry.Reply.{Reply}
use Rattle.sem_msg.specs.Setup.{Setup}
use Rattle.sem_machine.specs.Schedules.{IsSchedule}
use Rattle.sem_fs.specs.Service.{IsService}
use Rattle.sem_fs.specs.Supplies.{IsSupplied}
use Rattle.sem_fs.specs.Going.{IsGoing}
use Rattle.sem_fs.proofs.Succeeding.{all-going-with}
use Rattle.sem_fs.proofs.Claiming.{IsFit, start-fit, fit-next, fit-rooms}
use Rattle.sem_fs.proofs.Knowing.{IsKnown, start-known, known-next, known-objects}

module _ (T : Setup) (S : IsService T) where
  -- what is claimed is there, and what is held is of the right kind
  record Keeps (J : List Entry) : Type 0 where
    fit : IsFit T S J
    known : IsKnown T J

  supplied : (J : List Entry) → IsSchedule T J → IsGoing T J → Keeps J → IsSupplied T J
  supplied J runs I P = record { rooms = fit-rooms T S J runs I P.fit; objects = known-objects T S J runs I P.known }

  all : (J : List Entry) → IsSchedule T J → IsGoing T J × Keeps J
  all J runs =
      all-going-with T S Keeps (record { fit = start-fit T S; known = start-known T S })
      (λ K e runs' X I I' P. record { fit = fit-next T S K e runs' I P.fit; known = known-next T S K e runs' X I I' P.known })
      supplied J runs

  pub all-going : (J : List Entry) → IsSchedule T J → IsGoing T J
  all-going J runs = (all J runs).0

  pub all-supplied : (J : List Entry) → IsSchedule T J → IsSupplied T J
  all-supplied J runs = let x = all J runs in supplied J runs x.0 x.1

  pub all-known : (J : List Entry) → IsSchedule T J → IsKnown T J
  all-known J runs = (all J runs).1.known

  pub all-succeed : (J : List Entry) → IsSchedule T J → (e : Entry) (r : Reply) → Contains J e → e.reply ≡ Some r → r.code ≡ 0
  all-succeed J runs = (all-going J runs).succeeds
