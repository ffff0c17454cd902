use Rattle.sem_safety.proofs.NewGrants.{new-grown, new-sound}
use Rattle.sem_safety.proofs.grants.new_grants_are_sound.Goals as goal

pub returns-clause-grown : goal.returns-clause-grown
returns-clause-grown c = new-grown

pub returns-clause-sound_grants : goal.returns-clause-sound_grants
returns-clause-sound_grants c = new-sound
