use Rattle.sem_plays.proofs.NotionsHold.{clear_is_one_job_cut_holds, clear_is_one_job_answered_holds, clear_of_no_child_cut_holds}
use Rattle.sem_plays.proofs.NotionsHold.{clear_of_no_child_answered_holds, clear_takes_back_cut_holds, clear_takes_back_answered_holds}
use Rattle.sem_plays.proofs.NotionsHold.{cleared_three_times_cut_holds, cleared_three_times_answered_holds, clearer_is_killed_cut_holds}
use Rattle.sem_plays.proofs.NotionsHold.{clearer_is_killed_answered_holds, clearing_is_told_in_turn_cut_holds, clearing_is_told_in_turn_answered_holds}
use Rattle.sem_plays.proofs.NotionsHold.{given_after_clear_cut_holds, given_after_clear_answered_holds, killed_after_clear_cut_holds}
use Rattle.sem_plays.proofs.NotionsHold.{killed_after_clear_answered_holds, killed_revoker_cut_holds, killed_revoker_answered_holds}
use Rattle.sem_plays.proofs.NotionsHold.{revoke_takes_clear_cut_holds, revoke_takes_clear_answered_holds, two_revokes_meet_cut_holds}
use Rattle.sem_plays.proofs.NotionsHold.{two_revokes_meet_answered_holds, waiter_of_clear_is_killed_cut_holds, waiter_of_clear_is_killed_answered_holds}
use Rattle.sem_plays.proofs.notions.Goals as goal

pub returns-clause-clear_is_one_job_cut : goal.returns-clause-clear_is_one_job_cut
returns-clause-clear_is_one_job_cut c = clear_is_one_job_cut_holds

pub returns-clause-clear_is_one_job_answered : goal.returns-clause-clear_is_one_job_answered
returns-clause-clear_is_one_job_answered c = clear_is_one_job_answered_holds

pub returns-clause-clear_of_no_child_cut : goal.returns-clause-clear_of_no_child_cut
returns-clause-clear_of_no_child_cut c = clear_of_no_child_cut_holds

pub returns-clause-clear_of_no_child_answered : goal.returns-clause-clear_of_no_child_answered
returns-clause-clear_of_no_child_answered c = clear_of_no_child_answered_holds

pub returns-clause-clear_takes_back_cut : goal.returns-clause-clear_takes_back_cut
returns-clause-clear_takes_back_cut c = clear_takes_back_cut_holds

pub returns-clause-clear_takes_back_answered : goal.returns-clause-clear_takes_back_answered
returns-clause-clear_takes_back_answered c = clear_takes_back_answered_holds

pub returns-clause-cleared_three_times_cut : goal.returns-clause-cleared_three_times_cut
returns-clause-cleared_three_times_cut c = cleared_three_times_cut_holds

pub returns-clause-cleared_three_times_answered : goal.returns-clause-cleared_three_times_answered
returns-clause-cleared_three_times_answered c = cleared_three_times_answered_holds

pub returns-clause-clearer_is_killed_cut : goal.returns-clause-clearer_is_killed_cut
returns-clause-clearer_is_killed_cut c = clearer_is_killed_cut_holds

pub returns-clause-clearer_is_killed_answered : goal.returns-clause-clearer_is_killed_answered
returns-clause-clearer_is_killed_answered c = clearer_is_killed_answered_holds

pub returns-clause-clearing_is_told_in_turn_cut : goal.returns-clause-clearing_is_told_in_turn_cut
returns-clause-clearing_is_told_in_turn_cut c = clearing_is_told_in_turn_cut_holds

pub returns-clause-clearing_is_told_in_turn_answered : goal.returns-clause-clearing_is_told_in_turn_answered
returns-clause-clearing_is_told_in_turn_answered c = clearing_is_told_in_turn_answered_holds

pub returns-clause-given_after_clear_cut : goal.returns-clause-given_after_clear_cut
returns-clause-given_after_clear_cut c = given_after_clear_cut_holds

pub returns-clause-given_after_clear_answered : goal.returns-clause-given_after_clear_answered
returns-clause-given_after_clear_answered c = given_after_clear_answered_holds

pub returns-clause-killed_after_clear_cut : goal.returns-clause-killed_after_clear_cut
returns-clause-killed_after_clear_cut c = killed_after_clear_cut_holds

pub returns-clause-killed_after_clear_answered : goal.returns-clause-killed_after_clear_answered
returns-clause-killed_after_clear_answered c = killed_after_clear_answered_holds

pub returns-clause-killed_revoker_cut : goal.returns-clause-killed_revoker_cut
returns-clause-killed_revoker_cut c = killed_revoker_cut_holds

pub returns-clause-killed_revoker_answered : goal.returns-clause-killed_revoker_answered
returns-clause-killed_revoker_answered c = killed_revoker_answered_holds

pub returns-clause-revoke_takes_clear_cut : goal.returns-clause-revoke_takes_clear_cut
returns-clause-revoke_takes_clear_cut c = revoke_takes_clear_cut_holds

pub returns-clause-revoke_takes_clear_answered : goal.returns-clause-revoke_takes_clear_answered
returns-clause-revoke_takes_clear_answered c = revoke_takes_clear_answered_holds

pub returns-clause-two_revokes_meet_cut : goal.returns-clause-two_revokes_meet_cut
returns-clause-two_revokes_meet_cut c = two_revokes_meet_cut_holds

pub returns-clause-two_revokes_meet_answered : goal.returns-clause-two_revokes_meet_answered
returns-clause-two_revokes_meet_answered c = two_revokes_meet_answered_holds

pub returns-clause-waiter_of_clear_is_killed_cut : goal.returns-clause-waiter_of_clear_is_killed_cut
returns-clause-waiter_of_clear_is_killed_cut c = waiter_of_clear_is_killed_cut_holds

pub returns-clause-waiter_of_clear_is_killed_answered : goal.returns-clause-waiter_of_clear_is_killed_answered
returns-clause-waiter_of_clear_is_killed_answered c = waiter_of_clear_is_killed_answered_holds
