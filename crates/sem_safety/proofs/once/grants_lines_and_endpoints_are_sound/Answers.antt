use Rattle.sem_safety.proofs.SoundWorlds.{all-endpoints}
use Rattle.sem_safety.proofs.OneLife.{all-lineage, all-sound}
use Rattle.sem_safety.proofs.once.grants_lines_and_endpoints_are_sound.Goals as goal

pub returns-clause-lineage : goal.returns-clause-lineage
returns-clause-lineage c = all-lineage

pub returns-clause-sound_grants : goal.returns-clause-sound_grants
returns-clause-sound_grants c = all-sound

pub returns-clause-sound_endpoints : goal.returns-clause-sound_endpoints
returns-clause-sound_endpoints c = all-endpoints
