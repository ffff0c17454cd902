-- The rows, by computation.
use Rattle.std.proofs.Common.{refl}
use Rattle.sem_key.specs.Lists.{put, in_turn}
use Rattle.sem_key.specs.Region.{grow}
use Rattle.sem_msg.specs.Setup.{services_from}
use Rattle.sem_machine.specs.Steps.{unless}
use Rattle.sem_machine.specs.Revokes.{finish, closed_here, opened}
use Rattle.sem_machine.specs.Ends.{ended}
use Rattle.sem_machine.specs.Calls.{call_row}
use Rattle.sem_machine.specs.Upcalls.{upcall_row}
use Rattle.sem_machine.specs.Handles.{handle_row}
use Rattle.sem_machine.specs.Resumes.{resume_row}
use Rattle.sem_machine.specs.Machine.{start_side, start, local_step, local_entry, is_locally_enabled, is_enabled, enabled, after, entry_of}
use Rattle.sem_machine.specs.Journals.{root_keys_from, ancestry_in, cut_from}
use Rattle.sem_files.specs.Compiled.{calls_from, extents, compiled}
use Rattle.sem_fs.specs.Examples.{one_client, three_clients, first_run, calls_of_one, run_of_one, calls_of_three, run_of_three}

pub one-calls : calls_of_one
unfolding one_client calls_from extents compiled
one-calls = refl

pub three-calls : calls_of_three
unfolding three_clients calls_from extents compiled
three-calls = refl

pub one-run : run_of_one
unfolding one_client calls_from extents compiled first_run put in_turn unless root_keys_from services_from grow closed_here finish opened ended call_row
    upcall_row
    handle_row resume_row start_side start local_step local_entry is_locally_enabled is_enabled enabled after entry_of ancestry_in cut_from
one-run = refl

pub three-run : run_of_three
unfolding three_clients calls_from extents compiled first_run put in_turn unless root_keys_from services_from grow closed_here finish opened ended call_row
    upcall_row
    handle_row resume_row start_side start local_step local_entry is_locally_enabled is_enabled enabled after entry_of ancestry_in cut_from
three-run = refl
