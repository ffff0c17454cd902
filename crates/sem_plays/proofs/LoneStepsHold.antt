-- The lone steps, by computation.
use Rattle.std.proofs.Common.{refl}
use Rattle.sem_key.specs.Lists.{put, in_turn}
use Rattle.sem_key.specs.Region.{grow}
use Rattle.sem_msg.specs.Setup.{services_from}
use Rattle.sem_machine.specs.Steps.{unless}
use Rattle.sem_machine.specs.Revokes.{finish, closed_here, opened}
use Rattle.sem_machine.specs.Ends.{ended}
use Rattle.sem_machine.specs.Calls.{call_row}
use Rattle.sem_machine.specs.Handles.{handle_row}
use Rattle.sem_machine.specs.Machine.{start_side, start, local_step, is_locally_enabled, is_enabled, enabled}
use Rattle.sem_plays.specs.Trio.{trio, zero_side, numbered, obtaining, delegating, asked_often, bereft, giving, clearing, cleared, waiting_for_another}
use Rattle.sem_plays.specs.LoneSteps.{obtain_of_an_undeclared_vpe, obtain_of_a_vpe_on_another_pe, obtain_from_a_vpe_elsewhere, obtain_from_an_undeclared_vpe}
use Rattle.sem_plays.specs.LoneSteps.{session_of_an_undeclared_service, offer_of_an_undeclared_service, obtain_request_of_a_local_vpe}
use Rattle.sem_plays.specs.LoneSteps.{grant_for_which_nobody_waits, grant_of_another_number, grant_for_a_delegate, grant_by_a_local_vpe}
use Rattle.sem_plays.specs.LoneSteps.{grant_by_an_undeclared_vpe, grant_to_a_vpe_elsewhere, grant_with_an_undeclared_gate, grant_with_an_undeclared_service}
use Rattle.sem_plays.specs.LoneSteps.{refusal_for_which_nobody_waits, refusal_of_another_number, refusal_for_a_vpe_elsewhere, refusal_for_an_undeclared_vpe}
use Rattle.sem_plays.specs.LoneSteps.{delegate_to_a_vpe_elsewhere, delegate_to_an_undeclared_vpe, delegate_of_a_local_vpe, delegate_of_an_undeclared_vpe}
use Rattle.sem_plays.specs.LoneSteps.{delegate_of_an_undeclared_gate, preparation_for_which_nobody_waits, preparation_of_another_parent}
use Rattle.sem_plays.specs.LoneSteps.{preparation_by_a_local_vpe, preparation_by_an_undeclared_vpe, preparation_for_a_vpe_elsewhere}
use Rattle.sem_plays.specs.LoneSteps.{denial_for_which_nobody_waits, denial_for_an_obtain, denial_for_a_vpe_elsewhere, acknowledgement_of_nothing}
use Rattle.sem_plays.specs.LoneSteps.{retraction_of_nothing, acknowledgement_for_a_vpe_elsewhere, orphan_of_a_parent_that_is_gone, orphan_that_is_no_child}
use Rattle.sem_plays.specs.LoneSteps.{unlink_of_a_parent_that_is_gone, unlink_of_no_child, root_after_a_clear, orphan_after_a_clear, unlink_after_a_clear}
use Rattle.sem_plays.specs.LoneSteps.{clear_of_what_is_being_cleared, another_job_keeps_the_root, done_for_no_job, request_for_a_key_that_is_not_held}
use Rattle.sem_plays.specs.LoneSteps.{number_4095_is_the_last, number_4096_is_not_drawn, occupied_comes_before_numbers, the_128th_ask_is_kept}
use Rattle.sem_plays.specs.LoneSteps.{the_129th_ask_is_lost, ask_of_a_dead_service, upcall_of_a_dead_vpe, call_of_a_dead_vpe, call_of_a_vpe_elsewhere}
use Rattle.sem_plays.specs.LoneSteps.{call_while_one_waits, resume_while_it_waits, fetch_from_the_own_kernel, fetch_from_no_kernel, fetch_from_another_kernel}
use Rattle.sem_plays.specs.LoneSteps.{fetch_with_a_full_inbox, flush_to_the_own_kernel, flush_of_nothing, kill_of_the_declared, kill_of_the_undeclared}
use Rattle.sem_plays.specs.LoneSteps.{enabled_at_the_start}

pub obtain_of_an_undeclared_vpe_holds : obtain_of_an_undeclared_vpe
unfolding trio zero_side numbered obtaining delegating asked_often bereft giving clearing cleared waiting_for_another put in_turn unless services_from grow
    closed_here finish opened ended call_row handle_row start_side start local_step is_locally_enabled is_enabled enabled
obtain_of_an_undeclared_vpe_holds = refl

pub obtain_of_a_vpe_on_another_pe_holds : obtain_of_a_vpe_on_another_pe
unfolding trio zero_side numbered obtaining delegating asked_often bereft giving clearing cleared waiting_for_another put in_turn unless services_from grow
    closed_here finish opened ended call_row handle_row start_side start local_step is_locally_enabled is_enabled enabled
obtain_of_a_vpe_on_another_pe_holds = refl

pub obtain_from_a_vpe_elsewhere_holds : obtain_from_a_vpe_elsewhere
unfolding trio zero_side numbered obtaining delegating asked_often bereft giving clearing cleared waiting_for_another put in_turn unless services_from grow
    closed_here finish opened ended call_row handle_row start_side start local_step is_locally_enabled is_enabled enabled
obtain_from_a_vpe_elsewhere_holds = refl

pub obtain_from_an_undeclared_vpe_holds : obtain_from_an_undeclared_vpe
unfolding trio zero_side numbered obtaining delegating asked_often bereft giving clearing cleared waiting_for_another put in_turn unless services_from grow
    closed_here finish opened ended call_row handle_row start_side start local_step is_locally_enabled is_enabled enabled
obtain_from_an_undeclared_vpe_holds = refl

pub session_of_an_undeclared_service_holds : session_of_an_undeclared_service
unfolding trio zero_side numbered obtaining delegating asked_often bereft giving clearing cleared waiting_for_another put in_turn unless services_from grow
    closed_here finish opened ended call_row handle_row start_side start local_step is_locally_enabled is_enabled enabled
session_of_an_undeclared_service_holds = refl

pub offer_of_an_undeclared_service_holds : offer_of_an_undeclared_service
unfolding trio zero_side numbered obtaining delegating asked_often bereft giving clearing cleared waiting_for_another put in_turn unless services_from grow
    closed_here finish opened ended call_row handle_row start_side start local_step is_locally_enabled is_enabled enabled
offer_of_an_undeclared_service_holds = refl

pub obtain_request_of_a_local_vpe_holds : obtain_request_of_a_local_vpe
unfolding trio zero_side numbered obtaining delegating asked_often bereft giving clearing cleared waiting_for_another put in_turn unless services_from grow
    closed_here finish opened ended call_row handle_row start_side start local_step is_locally_enabled is_enabled enabled
obtain_request_of_a_local_vpe_holds = refl

pub grant_for_which_nobody_waits_holds : grant_for_which_nobody_waits
unfolding trio zero_side numbered obtaining delegating asked_often bereft giving clearing cleared waiting_for_another put in_turn unless services_from grow
    closed_here finish opened ended call_row handle_row start_side start local_step is_locally_enabled is_enabled enabled
grant_for_which_nobody_waits_holds = refl

pub grant_of_another_number_holds : grant_of_another_number
unfolding trio zero_side numbered obtaining delegating asked_often bereft giving clearing cleared waiting_for_another put in_turn unless services_from grow
    closed_here finish opened ended call_row handle_row start_side start local_step is_locally_enabled is_enabled enabled
grant_of_another_number_holds = refl

pub grant_for_a_delegate_holds : grant_for_a_delegate
unfolding trio zero_side numbered obtaining delegating asked_often bereft giving clearing cleared waiting_for_another put in_turn unless services_from grow
    closed_here finish opened ended call_row handle_row start_side start local_step is_locally_enabled is_enabled enabled
grant_for_a_delegate_holds = refl

pub grant_by_a_local_vpe_holds : grant_by_a_local_vpe
unfolding trio zero_side numbered obtaining delegating asked_often bereft giving clearing cleared waiting_for_another put in_turn unless services_from grow
    closed_here finish opened ended call_row handle_row start_side start local_step is_locally_enabled is_enabled enabled
grant_by_a_local_vpe_holds = refl

pub grant_by_an_undeclared_vpe_holds : grant_by_an_undeclared_vpe
unfolding trio zero_side numbered obtaining delegating asked_often bereft giving clearing cleared waiting_for_another put in_turn unless services_from grow
    closed_here finish opened ended call_row handle_row start_side start local_step is_locally_enabled is_enabled enabled
grant_by_an_undeclared_vpe_holds = refl

pub grant_to_a_vpe_elsewhere_holds : grant_to_a_vpe_elsewhere
unfolding trio zero_side numbered obtaining delegating asked_often bereft giving clearing cleared waiting_for_another put in_turn unless services_from grow
    closed_here finish opened ended call_row handle_row start_side start local_step is_locally_enabled is_enabled enabled
grant_to_a_vpe_elsewhere_holds = refl

pub grant_with_an_undeclared_gate_holds : grant_with_an_undeclared_gate
unfolding trio zero_side numbered obtaining delegating asked_often bereft giving clearing cleared waiting_for_another put in_turn unless services_from grow
    closed_here finish opened ended call_row handle_row start_side start local_step is_locally_enabled is_enabled enabled
grant_with_an_undeclared_gate_holds = refl

pub grant_with_an_undeclared_service_holds : grant_with_an_undeclared_service
unfolding trio zero_side numbered obtaining delegating asked_often bereft giving clearing cleared waiting_for_another put in_turn unless services_from grow
    closed_here finish opened ended call_row handle_row start_side start local_step is_locally_enabled is_enabled enabled
grant_with_an_undeclared_service_holds = refl

pub refusal_for_which_nobody_waits_holds : refusal_for_which_nobody_waits
unfolding trio zero_side numbered obtaining delegating asked_often bereft giving clearing cleared waiting_for_another put in_turn unless services_from grow
    closed_here finish opened ended call_row handle_row start_side start local_step is_locally_enabled is_enabled enabled
refusal_for_which_nobody_waits_holds = refl

pub refusal_of_another_number_holds : refusal_of_another_number
unfolding trio zero_side numbered obtaining delegating asked_often bereft giving clearing cleared waiting_for_another put in_turn unless services_from grow
    closed_here finish opened ended call_row handle_row start_side start local_step is_locally_enabled is_enabled enabled
refusal_of_another_number_holds = refl

pub refusal_for_a_vpe_elsewhere_holds : refusal_for_a_vpe_elsewhere
unfolding trio zero_side numbered obtaining delegating asked_often bereft giving clearing cleared waiting_for_another put in_turn unless services_from grow
    closed_here finish opened ended call_row handle_row start_side start local_step is_locally_enabled is_enabled enabled
refusal_for_a_vpe_elsewhere_holds = refl

pub refusal_for_an_undeclared_vpe_holds : refusal_for_an_undeclared_vpe
unfolding trio zero_side numbered obtaining delegating asked_often bereft giving clearing cleared waiting_for_another put in_turn unless services_from grow
    closed_here finish opened ended call_row handle_row start_side start local_step is_locally_enabled is_enabled enabled
refusal_for_an_undeclared_vpe_holds = refl

pub delegate_to_a_vpe_elsewhere_holds : delegate_to_a_vpe_elsewhere
unfolding trio zero_side numbered obtaining delegating asked_often bereft giving clearing cleared waiting_for_another put in_turn unless services_from grow
    closed_here finish opened ended call_row handle_row start_side start local_step is_locally_enabled is_enabled enabled
delegate_to_a_vpe_elsewhere_holds = refl

pub delegate_to_an_undeclared_vpe_holds : delegate_to_an_undeclared_vpe
unfolding trio zero_side numbered obtaining delegating asked_often bereft giving clearing cleared waiting_for_another put in_turn unless services_from grow
    closed_here finish opened ended call_row handle_row start_side start local_step is_locally_enabled is_enabled enabled
delegate_to_an_undeclared_vpe_holds = refl

pub delegate_of_a_local_vpe_holds : delegate_of_a_local_vpe
unfolding trio zero_side numbered obtaining delegating asked_often bereft giving clearing cleared waiting_for_another put in_turn unless services_from grow
    closed_here finish opened ended call_row handle_row start_side start local_step is_locally_enabled is_enabled enabled
delegate_of_a_local_vpe_holds = refl

pub delegate_of_an_undeclared_vpe_holds : delegate_of_an_undeclared_vpe
unfolding trio zero_side numbered obtaining delegating asked_often bereft giving clearing cleared waiting_for_another put in_turn unless services_from grow
    closed_here finish opened ended call_row handle_row start_side start local_step is_locally_enabled is_enabled enabled
delegate_of_an_undeclared_vpe_holds = refl

pub delegate_of_an_undeclared_gate_holds : delegate_of_an_undeclared_gate
unfolding trio zero_side numbered obtaining delegating asked_often bereft giving clearing cleared waiting_for_another put in_turn unless services_from grow
    closed_here finish opened ended call_row handle_row start_side start local_step is_locally_enabled is_enabled enabled
delegate_of_an_undeclared_gate_holds = refl

pub preparation_for_which_nobody_waits_holds : preparation_for_which_nobody_waits
unfolding trio zero_side numbered obtaining delegating asked_often bereft giving clearing cleared waiting_for_another put in_turn unless services_from grow
    closed_here finish opened ended call_row handle_row start_side start local_step is_locally_enabled is_enabled enabled
preparation_for_which_nobody_waits_holds = refl

pub preparation_of_another_parent_holds : preparation_of_another_parent
unfolding trio zero_side numbered obtaining delegating asked_often bereft giving clearing cleared waiting_for_another put in_turn unless services_from grow
    closed_here finish opened ended call_row handle_row start_side start local_step is_locally_enabled is_enabled enabled
preparation_of_another_parent_holds = refl

pub preparation_by_a_local_vpe_holds : preparation_by_a_local_vpe
unfolding trio zero_side numbered obtaining delegating asked_often bereft giving clearing cleared waiting_for_another put in_turn unless services_from grow
    closed_here finish opened ended call_row handle_row start_side start local_step is_locally_enabled is_enabled enabled
preparation_by_a_local_vpe_holds = refl

pub preparation_by_an_undeclared_vpe_holds : preparation_by_an_undeclared_vpe
unfolding trio zero_side numbered obtaining delegating asked_often bereft giving clearing cleared waiting_for_another put in_turn unless services_from grow
    closed_here finish opened ended call_row handle_row start_side start local_step is_locally_enabled is_enabled enabled
preparation_by_an_undeclared_vpe_holds = refl

pub preparation_for_a_vpe_elsewhere_holds : preparation_for_a_vpe_elsewhere
unfolding trio zero_side numbered obtaining delegating asked_often bereft giving clearing cleared waiting_for_another put in_turn unless services_from grow
    closed_here finish opened ended call_row handle_row start_side start local_step is_locally_enabled is_enabled enabled
preparation_for_a_vpe_elsewhere_holds = refl

pub denial_for_which_nobody_waits_holds : denial_for_which_nobody_waits
unfolding trio zero_side numbered obtaining delegating asked_often bereft giving clearing cleared waiting_for_another put in_turn unless services_from grow
    closed_here finish opened ended call_row handle_row start_side start local_step is_locally_enabled is_enabled enabled
denial_for_which_nobody_waits_holds = refl

pub denial_for_an_obtain_holds : denial_for_an_obtain
unfolding trio zero_side numbered obtaining delegating asked_often bereft giving clearing cleared waiting_for_another put in_turn unless services_from grow
    closed_here finish opened ended call_row handle_row start_side start local_step is_locally_enabled is_enabled enabled
denial_for_an_obtain_holds = refl

pub denial_for_a_vpe_elsewhere_holds : denial_for_a_vpe_elsewhere
unfolding trio zero_side numbered obtaining delegating asked_often bereft giving clearing cleared waiting_for_another put in_turn unless services_from grow
    closed_here finish opened ended call_row handle_row start_side start local_step is_locally_enabled is_enabled enabled
denial_for_a_vpe_elsewhere_holds = refl

pub acknowledgement_of_nothing_holds : acknowledgement_of_nothing
unfolding trio zero_side numbered obtaining delegating asked_often bereft giving clearing cleared waiting_for_another put in_turn unless services_from grow
    closed_here finish opened ended call_row handle_row start_side start local_step is_locally_enabled is_enabled enabled
acknowledgement_of_nothing_holds = refl

pub retraction_of_nothing_holds : retraction_of_nothing
unfolding trio zero_side numbered obtaining delegating asked_often bereft giving clearing cleared waiting_for_another put in_turn unless services_from grow
    closed_here finish opened ended call_row handle_row start_side start local_step is_locally_enabled is_enabled enabled
retraction_of_nothing_holds = refl

pub acknowledgement_for_a_vpe_elsewhere_holds : acknowledgement_for_a_vpe_elsewhere
unfolding trio zero_side numbered obtaining delegating asked_often bereft giving clearing cleared waiting_for_another put in_turn unless services_from grow
    closed_here finish opened ended call_row handle_row start_side start local_step is_locally_enabled is_enabled enabled
acknowledgement_for_a_vpe_elsewhere_holds = refl

pub orphan_of_a_parent_that_is_gone_holds : orphan_of_a_parent_that_is_gone
unfolding trio zero_side numbered obtaining delegating asked_often bereft giving clearing cleared waiting_for_another put in_turn unless services_from grow
    closed_here finish opened ended call_row handle_row start_side start local_step is_locally_enabled is_enabled enabled
orphan_of_a_parent_that_is_gone_holds = refl

pub orphan_that_is_no_child_holds : orphan_that_is_no_child
unfolding trio zero_side numbered obtaining delegating asked_often bereft giving clearing cleared waiting_for_another put in_turn unless services_from grow
    closed_here finish opened ended call_row handle_row start_side start local_step is_locally_enabled is_enabled enabled
orphan_that_is_no_child_holds = refl

pub unlink_of_a_parent_that_is_gone_holds : unlink_of_a_parent_that_is_gone
unfolding trio zero_side numbered obtaining delegating asked_often bereft giving clearing cleared waiting_for_another put in_turn unless services_from grow
    closed_here finish opened ended call_row handle_row start_side start local_step is_locally_enabled is_enabled enabled
unlink_of_a_parent_that_is_gone_holds = refl

pub unlink_of_no_child_holds : unlink_of_no_child
unfolding trio zero_side numbered obtaining delegating asked_often bereft giving clearing cleared waiting_for_another put in_turn unless services_from grow
    closed_here finish opened ended call_row handle_row start_side start local_step is_locally_enabled is_enabled enabled
unlink_of_no_child_holds = refl

pub root_after_a_clear_holds : root_after_a_clear
unfolding trio zero_side numbered obtaining delegating asked_often bereft giving clearing cleared waiting_for_another put in_turn unless services_from grow
    closed_here finish opened ended call_row handle_row start_side start local_step is_locally_enabled is_enabled enabled
root_after_a_clear_holds = refl

pub orphan_after_a_clear_holds : orphan_after_a_clear
unfolding trio zero_side numbered obtaining delegating asked_often bereft giving clearing cleared waiting_for_another put in_turn unless services_from grow
    closed_here finish opened ended call_row handle_row start_side start local_step is_locally_enabled is_enabled enabled
orphan_after_a_clear_holds = refl

pub unlink_after_a_clear_holds : unlink_after_a_clear
unfolding trio zero_side numbered obtaining delegating asked_often bereft giving clearing cleared waiting_for_another put in_turn unless services_from grow
    closed_here finish opened ended call_row handle_row start_side start local_step is_locally_enabled is_enabled enabled
unlink_after_a_clear_holds = refl

pub clear_of_what_is_being_cleared_holds : clear_of_what_is_being_cleared
unfolding trio zero_side numbered obtaining delegating asked_often bereft giving clearing cleared waiting_for_another put in_turn unless services_from grow
    closed_here finish opened ended call_row handle_row start_side start local_step is_locally_enabled is_enabled enabled
clear_of_what_is_being_cleared_holds = refl

pub another_job_keeps_the_root_holds : another_job_keeps_the_root
unfolding trio zero_side numbered obtaining delegating asked_often bereft giving clearing cleared waiting_for_another put in_turn unless services_from grow
    closed_here finish opened ended call_row handle_row start_side start local_step is_locally_enabled is_enabled enabled
another_job_keeps_the_root_holds = refl

pub done_for_no_job_holds : done_for_no_job
unfolding trio zero_side numbered obtaining delegating asked_often bereft giving clearing cleared waiting_for_another put in_turn unless services_from grow
    closed_here finish opened ended call_row handle_row start_side start local_step is_locally_enabled is_enabled enabled
done_for_no_job_holds = refl

pub request_for_a_key_that_is_not_held_holds : request_for_a_key_that_is_not_held
unfolding trio zero_side numbered obtaining delegating asked_often bereft giving clearing cleared waiting_for_another put in_turn unless services_from grow
    closed_here finish opened ended call_row handle_row start_side start local_step is_locally_enabled is_enabled enabled
request_for_a_key_that_is_not_held_holds = refl

pub number_4095_is_the_last_holds : number_4095_is_the_last
unfolding trio zero_side numbered obtaining delegating asked_often bereft giving clearing cleared waiting_for_another put in_turn unless services_from grow
    closed_here finish opened ended call_row handle_row start_side start local_step is_locally_enabled is_enabled enabled
number_4095_is_the_last_holds = refl

pub number_4096_is_not_drawn_holds : number_4096_is_not_drawn
unfolding trio zero_side numbered obtaining delegating asked_often bereft giving clearing cleared waiting_for_another put in_turn unless services_from grow
    closed_here finish opened ended call_row handle_row start_side start local_step is_locally_enabled is_enabled enabled
number_4096_is_not_drawn_holds = refl

pub occupied_comes_before_numbers_holds : occupied_comes_before_numbers
unfolding trio zero_side numbered obtaining delegating asked_often bereft giving clearing cleared waiting_for_another put in_turn unless services_from grow
    closed_here finish opened ended call_row handle_row start_side start local_step is_locally_enabled is_enabled enabled
occupied_comes_before_numbers_holds = refl

pub the_128th_ask_is_kept_holds : the_128th_ask_is_kept
unfolding trio zero_side numbered obtaining delegating asked_often bereft giving clearing cleared waiting_for_another put in_turn unless services_from grow
    closed_here finish opened ended call_row handle_row start_side start local_step is_locally_enabled is_enabled enabled
the_128th_ask_is_kept_holds = refl

pub the_129th_ask_is_lost_holds : the_129th_ask_is_lost
unfolding trio zero_side numbered obtaining delegating asked_often bereft giving clearing cleared waiting_for_another put in_turn unless services_from grow
    closed_here finish opened ended call_row handle_row start_side start local_step is_locally_enabled is_enabled enabled
the_129th_ask_is_lost_holds = refl

pub ask_of_a_dead_service_holds : ask_of_a_dead_service
unfolding trio zero_side numbered obtaining delegating asked_often bereft giving clearing cleared waiting_for_another put in_turn unless services_from grow
    closed_here finish opened ended call_row handle_row start_side start local_step is_locally_enabled is_enabled enabled
ask_of_a_dead_service_holds = refl

pub upcall_of_a_dead_vpe_holds : upcall_of_a_dead_vpe
unfolding trio zero_side numbered obtaining delegating asked_often bereft giving clearing cleared waiting_for_another put in_turn unless services_from grow
    closed_here finish opened ended call_row handle_row start_side start local_step is_locally_enabled is_enabled enabled
upcall_of_a_dead_vpe_holds = refl

pub call_of_a_dead_vpe_holds : call_of_a_dead_vpe
unfolding trio zero_side numbered obtaining delegating asked_often bereft giving clearing cleared waiting_for_another put in_turn unless services_from grow
    closed_here finish opened ended call_row handle_row start_side start local_step is_locally_enabled is_enabled enabled
call_of_a_dead_vpe_holds = refl

pub call_of_a_vpe_elsewhere_holds : call_of_a_vpe_elsewhere
unfolding trio zero_side numbered obtaining delegating asked_often bereft giving clearing cleared waiting_for_another put in_turn unless services_from grow
    closed_here finish opened ended call_row handle_row start_side start local_step is_locally_enabled is_enabled enabled
call_of_a_vpe_elsewhere_holds = refl

pub call_while_one_waits_holds : call_while_one_waits
unfolding trio zero_side numbered obtaining delegating asked_often bereft giving clearing cleared waiting_for_another put in_turn unless services_from grow
    closed_here finish opened ended call_row handle_row start_side start local_step is_locally_enabled is_enabled enabled
call_while_one_waits_holds = refl

pub resume_while_it_waits_holds : resume_while_it_waits
unfolding trio zero_side numbered obtaining delegating asked_often bereft giving clearing cleared waiting_for_another put in_turn unless services_from grow
    closed_here finish opened ended call_row handle_row start_side start local_step is_locally_enabled is_enabled enabled
resume_while_it_waits_holds = refl

pub fetch_from_the_own_kernel_holds : fetch_from_the_own_kernel
unfolding trio zero_side numbered obtaining delegating asked_often bereft giving clearing cleared waiting_for_another put in_turn unless services_from grow
    closed_here finish opened ended call_row handle_row start_side start local_step is_locally_enabled is_enabled enabled
fetch_from_the_own_kernel_holds = refl

pub fetch_from_no_kernel_holds : fetch_from_no_kernel
unfolding trio zero_side numbered obtaining delegating asked_often bereft giving clearing cleared waiting_for_another put in_turn unless services_from grow
    closed_here finish opened ended call_row handle_row start_side start local_step is_locally_enabled is_enabled enabled
fetch_from_no_kernel_holds = refl

pub fetch_from_another_kernel_holds : fetch_from_another_kernel
unfolding trio zero_side numbered obtaining delegating asked_often bereft giving clearing cleared waiting_for_another put in_turn unless services_from grow
    closed_here finish opened ended call_row handle_row start_side start local_step is_locally_enabled is_enabled enabled
fetch_from_another_kernel_holds = refl

pub fetch_with_a_full_inbox_holds : fetch_with_a_full_inbox
unfolding trio zero_side numbered obtaining delegating asked_often bereft giving clearing cleared waiting_for_another put in_turn unless services_from grow
    closed_here finish opened ended call_row handle_row start_side start local_step is_locally_enabled is_enabled enabled
fetch_with_a_full_inbox_holds = refl

pub flush_to_the_own_kernel_holds : flush_to_the_own_kernel
unfolding trio zero_side numbered obtaining delegating asked_often bereft giving clearing cleared waiting_for_another put in_turn unless services_from grow
    closed_here finish opened ended call_row handle_row start_side start local_step is_locally_enabled is_enabled enabled
flush_to_the_own_kernel_holds = refl

pub flush_of_nothing_holds : flush_of_nothing
unfolding trio zero_side numbered obtaining delegating asked_often bereft giving clearing cleared waiting_for_another put in_turn unless services_from grow
    closed_here finish opened ended call_row handle_row start_side start local_step is_locally_enabled is_enabled enabled
flush_of_nothing_holds = refl

pub kill_of_the_declared_holds : kill_of_the_declared
unfolding trio zero_side numbered obtaining delegating asked_often bereft giving clearing cleared waiting_for_another put in_turn unless services_from grow
    closed_here finish opened ended call_row handle_row start_side start local_step is_locally_enabled is_enabled enabled
kill_of_the_declared_holds = refl

pub kill_of_the_undeclared_holds : kill_of_the_undeclared
unfolding trio zero_side numbered obtaining delegating asked_often bereft giving clearing cleared waiting_for_another put in_turn unless services_from grow
    closed_here finish opened ended call_row handle_row start_side start local_step is_locally_enabled is_enabled enabled
kill_of_the_undeclared_holds = refl

pub enabled_at_the_start_holds : enabled_at_the_start
unfolding trio zero_side numbered obtaining delegating asked_often bereft giving clearing cleared waiting_for_another put in_turn unless services_from grow
    closed_here finish opened ended call_row handle_row start_side start local_step is_locally_enabled is_enabled enabled
enabled_at_the_start_holds = refl
