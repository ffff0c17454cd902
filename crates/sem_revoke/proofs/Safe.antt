-- Every schedule of every setup is safe.
use Rattle.std.proofs.Common.{List}
use Rattle.sem_msg.specs.declared.entry.Entry.{Entry}
use Rattle.sem_msg.specs.Setup.{Setup, IsSetup}
use Rattle.sem_machine.specs.Schedules.{IsSchedule}
use Rattle.sem_machine.specs.Safety.{IsSafe}
use Rattle.sem_safety.proofs.SoundWorlds.{all-endpoints}
use Rattle.sem_safety.proofs.OneLife.{all-lineage, all-sound}
use Rattle.sem_revoke.proofs.Serving.{all-gone}
use Rattle.sem_revoke.proofs.Narrowness.{all-narrowing}
use Rattle.sem_revoke.proofs.Granted.{nothing-lost}

pub all-safe : (T : Setup) → IsSetup T → (J : List Entry) → IsSchedule T J → IsSafe T J
all-safe T valid J runs = record {
  lineage = all-lineage T valid J runs;
  revoked_is_gone = all-gone T valid J runs;
  sound_grants = all-sound T valid J runs;
  nothing_lost = nothing-lost T valid J runs;
  sound_endpoints = all-endpoints T valid J runs;
  narrowing = all-narrowing T valid J runs;
}
