use Rattle.sem_plays.proofs.LoneStepsHold.{obtain_of_an_undeclared_vpe_holds}
use Rattle.sem_plays.proofs.LoneStepsHold.{obtain_of_a_vpe_on_another_pe_holds}
use Rattle.sem_plays.proofs.LoneStepsHold.{obtain_from_a_vpe_elsewhere_holds}
use Rattle.sem_plays.proofs.LoneStepsHold.{obtain_from_an_undeclared_vpe_holds}
use Rattle.sem_plays.proofs.LoneStepsHold.{session_of_an_undeclared_service_holds}
use Rattle.sem_plays.proofs.LoneStepsHold.{offer_of_an_undeclared_service_holds}
use Rattle.sem_plays.proofs.LoneStepsHold.{obtain_request_of_a_local_vpe_holds}
use Rattle.sem_plays.proofs.LoneStepsHold.{grant_for_which_nobody_waits_holds}
use Rattle.sem_plays.proofs.LoneStepsHold.{grant_of_another_number_holds}
use Rattle.sem_plays.proofs.LoneStepsHold.{grant_for_a_delegate_holds}
use Rattle.sem_plays.proofs.LoneStepsHold.{grant_by_a_local_vpe_holds}
use Rattle.sem_plays.proofs.LoneStepsHold.{grant_by_an_undeclared_vpe_holds}
use Rattle.sem_plays.proofs.LoneStepsHold.{grant_to_a_vpe_elsewhere_holds}
use Rattle.sem_plays.proofs.LoneStepsHold.{grant_with_an_undeclared_gate_holds}
use Rattle.sem_plays.proofs.LoneStepsHold.{grant_with_an_undeclared_service_holds}
use Rattle.sem_plays.proofs.LoneStepsHold.{refusal_for_which_nobody_waits_holds}
use Rattle.sem_plays.proofs.LoneStepsHold.{refusal_of_another_number_holds}
use Rattle.sem_plays.proofs.LoneStepsHold.{refusal_for_a_vpe_elsewhere_holds}
use Rattle.sem_plays.proofs.LoneStepsHold.{refusal_for_an_undeclared_vpe_holds}
use Rattle.sem_plays.proofs.LoneStepsHold.{delegate_to_a_vpe_elsewhere_holds}
use Rattle.sem_plays.proofs.LoneStepsHold.{delegate_to_an_undeclared_vpe_holds}
use Rattle.sem_plays.proofs.LoneStepsHold.{delegate_of_a_local_vpe_holds}
use Rattle.sem_plays.proofs.LoneStepsHold.{delegate_of_an_undeclared_vpe_holds}
use Rattle.sem_plays.proofs.LoneStepsHold.{delegate_of_an_undeclared_gate_holds}
use Rattle.sem_plays.proofs.LoneStepsHold.{preparation_for_which_nobody_waits_holds}
use Rattle.sem_plays.proofs.LoneStepsHold.{preparation_of_another_parent_holds}
use Rattle.sem_plays.proofs.LoneStepsHold.{preparation_by_a_local_vpe_holds}
use Rattle.sem_plays.proofs.LoneStepsHold.{preparation_by_an_undeclared_vpe_holds}
use Rattle.sem_plays.proofs.LoneStepsHold.{preparation_for_a_vpe_elsewhere_holds}
use Rattle.sem_plays.proofs.LoneStepsHold.{denial_for_which_nobody_waits_holds}
use Rattle.sem_plays.proofs.LoneStepsHold.{denial_for_an_obtain_holds}
use Rattle.sem_plays.proofs.LoneStepsHold.{denial_for_a_vpe_elsewhere_holds}
use Rattle.sem_plays.proofs.LoneStepsHold.{acknowledgement_of_nothing_holds}
use Rattle.sem_plays.proofs.LoneStepsHold.{retraction_of_nothing_holds}
use Rattle.sem_plays.proofs.LoneStepsHold.{acknowledgement_for_a_vpe_elsewhere_holds}
use Rattle.sem_plays.proofs.LoneStepsHold.{orphan_of_a_parent_that_is_gone_holds}
use Rattle.sem_plays.proofs.LoneStepsHold.{orphan_that_is_no_child_holds}
use Rattle.sem_plays.proofs.LoneStepsHold.{unlink_of_a_parent_that_is_gone_holds}
use Rattle.sem_plays.proofs.LoneStepsHold.{unlink_of_no_child_holds}
use Rattle.sem_plays.proofs.LoneStepsHold.{root_after_a_clear_holds}
use Rattle.sem_plays.proofs.LoneStepsHold.{orphan_after_a_clear_holds}
use Rattle.sem_plays.proofs.LoneStepsHold.{unlink_after_a_clear_holds}
use Rattle.sem_plays.proofs.LoneStepsHold.{clear_of_what_is_being_cleared_holds}
use Rattle.sem_plays.proofs.LoneStepsHold.{another_job_keeps_the_root_holds}
use Rattle.sem_plays.proofs.LoneStepsHold.{done_for_no_job_holds}
use Rattle.sem_plays.proofs.LoneStepsHold.{request_for_a_key_that_is_not_held_holds}
use Rattle.sem_plays.proofs.LoneStepsHold.{number_4095_is_the_last_holds}
use Rattle.sem_plays.proofs.LoneStepsHold.{number_4096_is_not_drawn_holds}
use Rattle.sem_plays.proofs.LoneStepsHold.{occupied_comes_before_numbers_holds}
use Rattle.sem_plays.proofs.LoneStepsHold.{the_128th_ask_is_kept_holds}
use Rattle.sem_plays.proofs.LoneStepsHold.{the_129th_ask_is_lost_holds}
use Rattle.sem_plays.proofs.LoneStepsHold.{ask_of_a_dead_service_holds}
use Rattle.sem_plays.proofs.LoneStepsHold.{upcall_of_a_dead_vpe_holds}
use Rattle.sem_plays.proofs.LoneStepsHold.{call_of_a_dead_vpe_holds}
use Rattle.sem_plays.proofs.LoneStepsHold.{call_of_a_vpe_elsewhere_holds}
use Rattle.sem_plays.proofs.LoneStepsHold.{call_while_one_waits_holds}
use Rattle.sem_plays.proofs.LoneStepsHold.{resume_while_it_waits_holds}
use Rattle.sem_plays.proofs.LoneStepsHold.{fetch_from_the_own_kernel_holds}
use Rattle.sem_plays.proofs.LoneStepsHold.{fetch_from_no_kernel_holds}
use Rattle.sem_plays.proofs.LoneStepsHold.{fetch_from_another_kernel_holds}
use Rattle.sem_plays.proofs.LoneStepsHold.{fetch_with_a_full_inbox_holds}
use Rattle.sem_plays.proofs.LoneStepsHold.{flush_to_the_own_kernel_holds}
use Rattle.sem_plays.proofs.LoneStepsHold.{flush_of_nothing_holds}
use Rattle.sem_plays.proofs.LoneStepsHold.{kill_of_the_declared_holds}
use Rattle.sem_plays.proofs.LoneStepsHold.{kill_of_the_undeclared_holds}
use Rattle.sem_plays.proofs.LoneStepsHold.{enabled_at_the_start_holds}
use Rattle.sem_plays.proofs.lone_steps.Goals as goal

pub returns-clause-obtain_of_an_undeclared_vpe : goal.returns-clause-obtain_of_an_undeclared_vpe
returns-clause-obtain_of_an_undeclared_vpe c = obtain_of_an_undeclared_vpe_holds

pub returns-clause-obtain_of_a_vpe_on_another_pe : goal.returns-clause-obtain_of_a_vpe_on_another_pe
returns-clause-obtain_of_a_vpe_on_another_pe c = obtain_of_a_vpe_on_another_pe_holds

pub returns-clause-obtain_from_a_vpe_elsewhere : goal.returns-clause-obtain_from_a_vpe_elsewhere
returns-clause-obtain_from_a_vpe_elsewhere c = obtain_from_a_vpe_elsewhere_holds

pub returns-clause-obtain_from_an_undeclared_vpe : goal.returns-clause-obtain_from_an_undeclared_vpe
returns-clause-obtain_from_an_undeclared_vpe c = obtain_from_an_undeclared_vpe_holds

pub returns-clause-session_of_an_undeclared_service : goal.returns-clause-session_of_an_undeclared_service
returns-clause-session_of_an_undeclared_service c = session_of_an_undeclared_service_holds

pub returns-clause-offer_of_an_undeclared_service : goal.returns-clause-offer_of_an_undeclared_service
returns-clause-offer_of_an_undeclared_service c = offer_of_an_undeclared_service_holds

pub returns-clause-obtain_request_of_a_local_vpe : goal.returns-clause-obtain_request_of_a_local_vpe
returns-clause-obtain_request_of_a_local_vpe c = obtain_request_of_a_local_vpe_holds

pub returns-clause-grant_for_which_nobody_waits : goal.returns-clause-grant_for_which_nobody_waits
returns-clause-grant_for_which_nobody_waits c = grant_for_which_nobody_waits_holds

pub returns-clause-grant_of_another_number : goal.returns-clause-grant_of_another_number
returns-clause-grant_of_another_number c = grant_of_another_number_holds

pub returns-clause-grant_for_a_delegate : goal.returns-clause-grant_for_a_delegate
returns-clause-grant_for_a_delegate c = grant_for_a_delegate_holds

pub returns-clause-grant_by_a_local_vpe : goal.returns-clause-grant_by_a_local_vpe
returns-clause-grant_by_a_local_vpe c = grant_by_a_local_vpe_holds

pub returns-clause-grant_by_an_undeclared_vpe : goal.returns-clause-grant_by_an_undeclared_vpe
returns-clause-grant_by_an_undeclared_vpe c = grant_by_an_undeclared_vpe_holds

pub returns-clause-grant_to_a_vpe_elsewhere : goal.returns-clause-grant_to_a_vpe_elsewhere
returns-clause-grant_to_a_vpe_elsewhere c = grant_to_a_vpe_elsewhere_holds

pub returns-clause-grant_with_an_undeclared_gate : goal.returns-clause-grant_with_an_undeclared_gate
returns-clause-grant_with_an_undeclared_gate c = grant_with_an_undeclared_gate_holds

pub returns-clause-grant_with_an_undeclared_service : goal.returns-clause-grant_with_an_undeclared_service
returns-clause-grant_with_an_undeclared_service c = grant_with_an_undeclared_service_holds

pub returns-clause-refusal_for_which_nobody_waits : goal.returns-clause-refusal_for_which_nobody_waits
returns-clause-refusal_for_which_nobody_waits c = refusal_for_which_nobody_waits_holds

pub returns-clause-refusal_of_another_number : goal.returns-clause-refusal_of_another_number
returns-clause-refusal_of_another_number c = refusal_of_another_number_holds

pub returns-clause-refusal_for_a_vpe_elsewhere : goal.returns-clause-refusal_for_a_vpe_elsewhere
returns-clause-refusal_for_a_vpe_elsewhere c = refusal_for_a_vpe_elsewhere_holds

pub returns-clause-refusal_for_an_undeclared_vpe : goal.returns-clause-refusal_for_an_undeclared_vpe
returns-clause-refusal_for_an_undeclared_vpe c = refusal_for_an_undeclared_vpe_holds

pub returns-clause-delegate_to_a_vpe_elsewhere : goal.returns-clause-delegate_to_a_vpe_elsewhere
returns-clause-delegate_to_a_vpe_elsewhere c = delegate_to_a_vpe_elsewhere_holds

pub returns-clause-delegate_to_an_undeclared_vpe : goal.returns-clause-delegate_to_an_undeclared_vpe
returns-clause-delegate_to_an_undeclared_vpe c = delegate_to_an_undeclared_vpe_holds

pub returns-clause-delegate_of_a_local_vpe : goal.returns-clause-delegate_of_a_local_vpe
returns-clause-delegate_of_a_local_vpe c = delegate_of_a_local_vpe_holds

pub returns-clause-delegate_of_an_undeclared_vpe : goal.returns-clause-delegate_of_an_undeclared_vpe
returns-clause-delegate_of_an_undeclared_vpe c = delegate_of_an_undeclared_vpe_holds

pub returns-clause-delegate_of_an_undeclared_gate : goal.returns-clause-delegate_of_an_undeclared_gate
returns-clause-delegate_of_an_undeclared_gate c = delegate_of_an_undeclared_gate_holds

pub returns-clause-preparation_for_which_nobody_waits : goal.returns-clause-preparation_for_which_nobody_waits
returns-clause-preparation_for_which_nobody_waits c = preparation_for_which_nobody_waits_holds

pub returns-clause-preparation_of_another_parent : goal.returns-clause-preparation_of_another_parent
returns-clause-preparation_of_another_parent c = preparation_of_another_parent_holds

pub returns-clause-preparation_by_a_local_vpe : goal.returns-clause-preparation_by_a_local_vpe
returns-clause-preparation_by_a_local_vpe c = preparation_by_a_local_vpe_holds

pub returns-clause-preparation_by_an_undeclared_vpe : goal.returns-clause-preparation_by_an_undeclared_vpe
returns-clause-preparation_by_an_undeclared_vpe c = preparation_by_an_undeclared_vpe_holds

pub returns-clause-preparation_for_a_vpe_elsewhere : goal.returns-clause-preparation_for_a_vpe_elsewhere
returns-clause-preparation_for_a_vpe_elsewhere c = preparation_for_a_vpe_elsewhere_holds

pub returns-clause-denial_for_which_nobody_waits : goal.returns-clause-denial_for_which_nobody_waits
returns-clause-denial_for_which_nobody_waits c = denial_for_which_nobody_waits_holds

pub returns-clause-denial_for_an_obtain : goal.returns-clause-denial_for_an_obtain
returns-clause-denial_for_an_obtain c = denial_for_an_obtain_holds

pub returns-clause-denial_for_a_vpe_elsewhere : goal.returns-clause-denial_for_a_vpe_elsewhere
returns-clause-denial_for_a_vpe_elsewhere c = denial_for_a_vpe_elsewhere_holds

pub returns-clause-acknowledgement_of_nothing : goal.returns-clause-acknowledgement_of_nothing
returns-clause-acknowledgement_of_nothing c = acknowledgement_of_nothing_holds

pub returns-clause-retraction_of_nothing : goal.returns-clause-retraction_of_nothing
returns-clause-retraction_of_nothing c = retraction_of_nothing_holds

pub returns-clause-acknowledgement_for_a_vpe_elsewhere : goal.returns-clause-acknowledgement_for_a_vpe_elsewhere
returns-clause-acknowledgement_for_a_vpe_elsewhere c = acknowledgement_for_a_vpe_elsewhere_holds

pub returns-clause-orphan_of_a_parent_that_is_gone : goal.returns-clause-orphan_of_a_parent_that_is_gone
returns-clause-orphan_of_a_parent_that_is_gone c = orphan_of_a_parent_that_is_gone_holds

pub returns-clause-orphan_that_is_no_child : goal.returns-clause-orphan_that_is_no_child
returns-clause-orphan_that_is_no_child c = orphan_that_is_no_child_holds

pub returns-clause-unlink_of_a_parent_that_is_gone : goal.returns-clause-unlink_of_a_parent_that_is_gone
returns-clause-unlink_of_a_parent_that_is_gone c = unlink_of_a_parent_that_is_gone_holds

pub returns-clause-unlink_of_no_child : goal.returns-clause-unlink_of_no_child
returns-clause-unlink_of_no_child c = unlink_of_no_child_holds

pub returns-clause-root_after_a_clear : goal.returns-clause-root_after_a_clear
returns-clause-root_after_a_clear c = root_after_a_clear_holds

pub returns-clause-orphan_after_a_clear : goal.returns-clause-orphan_after_a_clear
returns-clause-orphan_after_a_clear c = orphan_after_a_clear_holds

pub returns-clause-unlink_after_a_clear : goal.returns-clause-unlink_after_a_clear
returns-clause-unlink_after_a_clear c = unlink_after_a_clear_holds

pub returns-clause-clear_of_what_is_being_cleared : goal.returns-clause-clear_of_what_is_being_cleared
returns-clause-clear_of_what_is_being_cleared c = clear_of_what_is_being_cleared_holds

pub returns-clause-another_job_keeps_the_root : goal.returns-clause-another_job_keeps_the_root
returns-clause-another_job_keeps_the_root c = another_job_keeps_the_root_holds

pub returns-clause-done_for_no_job : goal.returns-clause-done_for_no_job
returns-clause-done_for_no_job c = done_for_no_job_holds

pub returns-clause-request_for_a_key_that_is_not_held : goal.returns-clause-request_for_a_key_that_is_not_held
returns-clause-request_for_a_key_that_is_not_held c = request_for_a_key_that_is_not_held_holds

pub returns-clause-number_4095_is_the_last : goal.returns-clause-number_4095_is_the_last
returns-clause-number_4095_is_the_last c = number_4095_is_the_last_holds

pub returns-clause-number_4096_is_not_drawn : goal.returns-clause-number_4096_is_not_drawn
returns-clause-number_4096_is_not_drawn c = number_4096_is_not_drawn_holds

pub returns-clause-occupied_comes_before_numbers : goal.returns-clause-occupied_comes_before_numbers
returns-clause-occupied_comes_before_numbers c = occupied_comes_before_numbers_holds

pub returns-clause-the_128th_ask_is_kept : goal.returns-clause-the_128th_ask_is_kept
returns-clause-the_128th_ask_is_kept c = the_128th_ask_is_kept_holds

pub returns-clause-the_129th_ask_is_lost : goal.returns-clause-the_129th_ask_is_lost
returns-clause-the_129th_ask_is_lost c = the_129th_ask_is_lost_holds

pub returns-clause-ask_of_a_dead_service : goal.returns-clause-ask_of_a_dead_service
returns-clause-ask_of_a_dead_service c = ask_of_a_dead_service_holds

pub returns-clause-upcall_of_a_dead_vpe : goal.returns-clause-upcall_of_a_dead_vpe
returns-clause-upcall_of_a_dead_vpe c = upcall_of_a_dead_vpe_holds

pub returns-clause-call_of_a_dead_vpe : goal.returns-clause-call_of_a_dead_vpe
returns-clause-call_of_a_dead_vpe c = call_of_a_dead_vpe_holds

pub returns-clause-call_of_a_vpe_elsewhere : goal.returns-clause-call_of_a_vpe_elsewhere
returns-clause-call_of_a_vpe_elsewhere c = call_of_a_vpe_elsewhere_holds

pub returns-clause-call_while_one_waits : goal.returns-clause-call_while_one_waits
returns-clause-call_while_one_waits c = call_while_one_waits_holds

pub returns-clause-resume_while_it_waits : goal.returns-clause-resume_while_it_waits
returns-clause-resume_while_it_waits c = resume_while_it_waits_holds

pub returns-clause-fetch_from_the_own_kernel : goal.returns-clause-fetch_from_the_own_kernel
returns-clause-fetch_from_the_own_kernel c = fetch_from_the_own_kernel_holds

pub returns-clause-fetch_from_no_kernel : goal.returns-clause-fetch_from_no_kernel
returns-clause-fetch_from_no_kernel c = fetch_from_no_kernel_holds

pub returns-clause-fetch_from_another_kernel : goal.returns-clause-fetch_from_another_kernel
returns-clause-fetch_from_another_kernel c = fetch_from_another_kernel_holds

pub returns-clause-fetch_with_a_full_inbox : goal.returns-clause-fetch_with_a_full_inbox
returns-clause-fetch_with_a_full_inbox c = fetch_with_a_full_inbox_holds

pub returns-clause-flush_to_the_own_kernel : goal.returns-clause-flush_to_the_own_kernel
returns-clause-flush_to_the_own_kernel c = flush_to_the_own_kernel_holds

pub returns-clause-flush_of_nothing : goal.returns-clause-flush_of_nothing
returns-clause-flush_of_nothing c = flush_of_nothing_holds

pub returns-clause-kill_of_the_declared : goal.returns-clause-kill_of_the_declared
returns-clause-kill_of_the_declared c = kill_of_the_declared_holds

pub returns-clause-kill_of_the_undeclared : goal.returns-clause-kill_of_the_undeclared
returns-clause-kill_of_the_undeclared c = kill_of_the_undeclared_holds

pub returns-clause-enabled_at_the_start : goal.returns-clause-enabled_at_the_start
returns-clause-enabled_at_the_start c = enabled_at_the_start_holds
