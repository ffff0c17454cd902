use Rattle.sem_plays.proofs.AckForTheDeadInClearPlay.{holds as ack_for_the_dead_in_clear_holds}
use Rattle.sem_plays.proofs.AskedBeforeClearPlay.{holds as asked_before_clear_holds}
use Rattle.sem_plays.proofs.ClearAdoptsRevokePlay.{holds as clear_adopts_revoke_holds}
use Rattle.sem_plays.proofs.ClearBelowClearPlay.{holds as clear_below_clear_holds}
use Rattle.sem_plays.proofs.ClearCancelsObtainPlay.{holds as clear_cancels_obtain_holds}
use Rattle.sem_plays.proofs.ClearIsOneJobPlay.{holds as clear_is_one_job_holds}
use Rattle.sem_plays.proofs.ClearMeetsRevokePlay.{holds as clear_meets_revoke_holds}
use Rattle.sem_plays.proofs.ClearOfGatePlay.{holds as clear_of_gate_holds}
use Rattle.sem_plays.proofs.ClearOfLocalChildPlay.{holds as clear_of_local_child_holds}
use Rattle.sem_plays.proofs.ClearOfNoChildPlay.{holds as clear_of_no_child_holds}
use Rattle.sem_plays.proofs.ClearOfServicePlay.{holds as clear_of_service_holds}
use Rattle.sem_plays.proofs.ClearTakesBackPlay.{holds as clear_takes_back_holds}
use Rattle.sem_plays.proofs.ClearUnbindsPlay.{holds as clear_unbinds_holds}
use Rattle.sem_plays.proofs.ClearedHasParentPlay.{holds as cleared_has_parent_holds}
use Rattle.sem_plays.proofs.ClearedHasRemoteParentPlay.{holds as cleared_has_remote_parent_holds}
use Rattle.sem_plays.proofs.ClearedIsUnlinkedPlay.{holds as cleared_is_unlinked_holds}
use Rattle.sem_plays.proofs.ClearedLocallyPlay.{holds as cleared_locally_holds}
use Rattle.sem_plays.proofs.ClearedThreeTimesPlay.{holds as cleared_three_times_holds}
use Rattle.sem_plays.proofs.ClearerIsKilledPlay.{holds as clearer_is_killed_holds}
use Rattle.sem_plays.proofs.ClearingIsNotGivenPlay.{holds as clearing_is_not_given_holds}
use Rattle.sem_plays.proofs.ClearingIsToldInTurnPlay.{holds as clearing_is_told_in_turn_holds}
use Rattle.sem_plays.proofs.ClearsMeetPlay.{holds as clears_meet_holds}
use Rattle.sem_plays.proofs.DelegateAfterClearPlay.{holds as delegate_after_clear_holds}
use Rattle.sem_plays.proofs.DelegateInClearPlay.{holds as delegate_in_clear_holds}
use Rattle.sem_plays.proofs.GivenAfterClearPlay.{holds as given_after_clear_holds}
use Rattle.sem_plays.proofs.KillTakesClearPlay.{holds as kill_takes_clear_holds}
use Rattle.sem_plays.proofs.KilledAfterClearPlay.{holds as killed_after_clear_holds}
use Rattle.sem_plays.proofs.LocalDelegatesInClearPlay.{holds as local_delegates_in_clear_holds}
use Rattle.sem_plays.proofs.OrphanInClearPlay.{holds as orphan_in_clear_holds}
use Rattle.sem_plays.proofs.ReceiverOfClearIsKilledPlay.{holds as receiver_of_clear_is_killed_holds}
use Rattle.sem_plays.proofs.RequestTakesClearPlay.{holds as request_takes_clear_holds}
use Rattle.sem_plays.proofs.RevokeTakesClearPlay.{holds as revoke_takes_clear_holds}
use Rattle.sem_plays.proofs.UnlinkInClearPlay.{holds as unlink_in_clear_holds}
use Rattle.sem_plays.proofs.WaiterOfClearIsKilledPlay.{holds as waiter_of_clear_is_killed_holds}
use Rattle.sem_plays.proofs.plays_of_clear.Goals as goal

pub returns-clause-ack_for_the_dead_in_clear : goal.returns-clause-ack_for_the_dead_in_clear
returns-clause-ack_for_the_dead_in_clear c = ack_for_the_dead_in_clear_holds

pub returns-clause-asked_before_clear : goal.returns-clause-asked_before_clear
returns-clause-asked_before_clear c = asked_before_clear_holds

pub returns-clause-clear_adopts_revoke : goal.returns-clause-clear_adopts_revoke
returns-clause-clear_adopts_revoke c = clear_adopts_revoke_holds

pub returns-clause-clear_below_clear : goal.returns-clause-clear_below_clear
returns-clause-clear_below_clear c = clear_below_clear_holds

pub returns-clause-clear_cancels_obtain : goal.returns-clause-clear_cancels_obtain
returns-clause-clear_cancels_obtain c = clear_cancels_obtain_holds

pub returns-clause-clear_is_one_job : goal.returns-clause-clear_is_one_job
returns-clause-clear_is_one_job c = clear_is_one_job_holds

pub returns-clause-clear_meets_revoke : goal.returns-clause-clear_meets_revoke
returns-clause-clear_meets_revoke c = clear_meets_revoke_holds

pub returns-clause-clear_of_gate : goal.returns-clause-clear_of_gate
returns-clause-clear_of_gate c = clear_of_gate_holds

pub returns-clause-clear_of_local_child : goal.returns-clause-clear_of_local_child
returns-clause-clear_of_local_child c = clear_of_local_child_holds

pub returns-clause-clear_of_no_child : goal.returns-clause-clear_of_no_child
returns-clause-clear_of_no_child c = clear_of_no_child_holds

pub returns-clause-clear_of_service : goal.returns-clause-clear_of_service
returns-clause-clear_of_service c = clear_of_service_holds

pub returns-clause-clear_takes_back : goal.returns-clause-clear_takes_back
returns-clause-clear_takes_back c = clear_takes_back_holds

pub returns-clause-clear_unbinds : goal.returns-clause-clear_unbinds
returns-clause-clear_unbinds c = clear_unbinds_holds

pub returns-clause-cleared_has_parent : goal.returns-clause-cleared_has_parent
returns-clause-cleared_has_parent c = cleared_has_parent_holds

pub returns-clause-cleared_has_remote_parent : goal.returns-clause-cleared_has_remote_parent
returns-clause-cleared_has_remote_parent c = cleared_has_remote_parent_holds

pub returns-clause-cleared_is_unlinked : goal.returns-clause-cleared_is_unlinked
returns-clause-cleared_is_unlinked c = cleared_is_unlinked_holds

pub returns-clause-cleared_locally : goal.returns-clause-cleared_locally
returns-clause-cleared_locally c = cleared_locally_holds

pub returns-clause-cleared_three_times : goal.returns-clause-cleared_three_times
returns-clause-cleared_three_times c = cleared_three_times_holds

pub returns-clause-clearer_is_killed : goal.returns-clause-clearer_is_killed
returns-clause-clearer_is_killed c = clearer_is_killed_holds

pub returns-clause-clearing_is_not_given : goal.returns-clause-clearing_is_not_given
returns-clause-clearing_is_not_given c = clearing_is_not_given_holds

pub returns-clause-clearing_is_told_in_turn : goal.returns-clause-clearing_is_told_in_turn
returns-clause-clearing_is_told_in_turn c = clearing_is_told_in_turn_holds

pub returns-clause-clears_meet : goal.returns-clause-clears_meet
returns-clause-clears_meet c = clears_meet_holds

pub returns-clause-delegate_after_clear : goal.returns-clause-delegate_after_clear
returns-clause-delegate_after_clear c = delegate_after_clear_holds

pub returns-clause-delegate_in_clear : goal.returns-clause-delegate_in_clear
returns-clause-delegate_in_clear c = delegate_in_clear_holds

pub returns-clause-given_after_clear : goal.returns-clause-given_after_clear
returns-clause-given_after_clear c = given_after_clear_holds

pub returns-clause-kill_takes_clear : goal.returns-clause-kill_takes_clear
returns-clause-kill_takes_clear c = kill_takes_clear_holds

pub returns-clause-killed_after_clear : goal.returns-clause-killed_after_clear
returns-clause-killed_after_clear c = killed_after_clear_holds

pub returns-clause-local_delegates_in_clear : goal.returns-clause-local_delegates_in_clear
returns-clause-local_delegates_in_clear c = local_delegates_in_clear_holds

pub returns-clause-orphan_in_clear : goal.returns-clause-orphan_in_clear
returns-clause-orphan_in_clear c = orphan_in_clear_holds

pub returns-clause-receiver_of_clear_is_killed : goal.returns-clause-receiver_of_clear_is_killed
returns-clause-receiver_of_clear_is_killed c = receiver_of_clear_is_killed_holds

pub returns-clause-request_takes_clear : goal.returns-clause-request_takes_clear
returns-clause-request_takes_clear c = request_takes_clear_holds

pub returns-clause-revoke_takes_clear : goal.returns-clause-revoke_takes_clear
returns-clause-revoke_takes_clear c = revoke_takes_clear_holds

pub returns-clause-unlink_in_clear : goal.returns-clause-unlink_in_clear
returns-clause-unlink_in_clear c = unlink_in_clear_holds

pub returns-clause-waiter_of_clear_is_killed : goal.returns-clause-waiter_of_clear_is_killed
returns-clause-waiter_of_clear_is_killed c = waiter_of_clear_is_killed_holds
