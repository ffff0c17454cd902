-- How an asking call ends.
use Rattle.std.proofs.Common.{◌≡◌, ℕ, List, Option, Some, None, sym, ap, ◌∙◌}
use Rattle.sem_key.specs.declared.object.Object.{Object}
use Rattle.sem_key.specs.KeyName.{KeyName}
use Rattle.sem_msg.specs.declared.state.Parked.{Parked}
use Rattle.sem_msg.specs.declared.state.Parked.TheVariants.{ObtainReady}
use Rattle.sem_msg.specs.declared.code.Code.TheVariants.{Ok as OkCode}
use Rattle.sem_msg.specs.declared.entry.Outcome.{Outcome}
use Rattle.sem_msg.specs.Codes.{code_number}
use Rattle.sem_msg.specs.ParkedStates.{state_of, unparked}
use Rattle.sem_msg.specs.Setup.{Setup}
use Rattle.sem_caps.specs.CapStore.{CapStore}
use Rattle.sem_vpe.specs.VpeTable.{VpeTable}
use Rattle.sem_machine.specs.Sides.{Side, installed}
use Rattle.sem_machine.specs.Resumes.{resume_row, resumed}
use Rattle.sem_machine.specs.Stores.{installing, with_caps, with_parks, with_vpes}

pub ended-ready : (T : Setup) (s : Side) (v : ℕ) (caps caps' : CapStore) (vpes vpes' : VpeTable) (park park' : List (Option Parked)) (k p : KeyName)
    (o : Object) (sel : ℕ) (shown : Outcome)
    → state_of park v ≡ Some (ObtainReady k p o sel) → park' ≡ unparked park v
    → ((t : Side) → with_caps caps'.caps (with_vpes vpes'.rows t) ≡ installed k (Some p) sel o (with_caps caps.caps (with_vpes vpes.rows t)))
    → shown ≡ record { asked = None; grant = None; cut = None; reply = Some (code_number OkCode) }
    → record { side = installing caps'.caps vpes'.rows park' s; outcome = shown } ≡ resume_row T (installing caps.caps vpes.rows park s) v
unfolding resume_row
ended-ready T s v caps caps' vpes vpes' park park' k p o sel shown waits left row shows =
    (λ i. record { side = row (with_parks park' s) i; outcome = shows i })
    ∙ (λ i. record {
      side = installed k (Some p) sel o (with_caps caps.caps (with_vpes vpes.rows (with_parks (left i) s)));
      outcome = record { asked = None; grant = None; cut = None; reply = Some (code_number OkCode) };
    })
    ∙ ap (λ (state : Option Parked). resumed T state (installing caps.caps vpes.rows (unparked park v) s)) (sym waits)
