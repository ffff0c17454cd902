-- The play of KilledRevoker, by computation.
use Rattle.std.proofs.Common.{refl}
use Rattle.sem_key.specs.Lists.{put, in_turn}
use Rattle.sem_key.specs.Region.{grow}
use Rattle.sem_msg.specs.Setup.{services_from}
use Rattle.sem_machine.specs.Steps.{unless}
use Rattle.sem_machine.specs.Revokes.{finish, closed_here, opened}
use Rattle.sem_machine.specs.Ends.{ended}
use Rattle.sem_machine.specs.Calls.{call_row}
use Rattle.sem_machine.specs.Upcalls.{upcall_row}
use Rattle.sem_machine.specs.Handles.{handle_row}
use Rattle.sem_machine.specs.Resumes.{resume_row}
use Rattle.sem_machine.specs.Machine.{start_side, start, local_step, local_entry, is_locally_enabled, is_enabled, enabled, after, entry_of}
use Rattle.sem_machine.specs.Journals.{root_keys_from, ancestry_in, cut_from}
use Rattle.sem_plays.specs.Played.{acted, backwards}
use Rattle.sem_plays.specs.KilledRevoker.{trace, events, journal, outcome, killed_revoker}

pub holds : killed_revoker
unfolding trace events journal outcome put in_turn unless root_keys_from services_from grow closed_here finish opened ended call_row upcall_row handle_row
    resume_row start_side start local_step local_entry is_locally_enabled is_enabled enabled after entry_of ancestry_in cut_from acted backwards
holds = refl
