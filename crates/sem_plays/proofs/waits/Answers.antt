use Rattle.sem_plays.proofs.AsksOfAllOthersPlay.{told as asks_of_all_others_told}
use Rattle.sem_plays.proofs.ClearAdoptsRevokePlay.{told as clear_adopts_revoke_told}
use Rattle.sem_plays.proofs.ClearBelowClearPlay.{told as clear_below_clear_told}
use Rattle.sem_plays.proofs.ClearIsOneJobPlay.{told as clear_is_one_job_told}
use Rattle.sem_plays.proofs.ClearOfLocalChildPlay.{told as clear_of_local_child_told}
use Rattle.sem_plays.proofs.ClearOfNoChildPlay.{told as clear_of_no_child_told}
use Rattle.sem_plays.proofs.ClearTakesBackPlay.{told as clear_takes_back_told}
use Rattle.sem_plays.proofs.ClearedHasRemoteParentPlay.{told as cleared_has_remote_parent_told}
use Rattle.sem_plays.proofs.ClearingIsToldInTurnPlay.{told as clearing_is_told_in_turn_told}
use Rattle.sem_plays.proofs.EveryTokenComesBackPlay.{told as every_token_comes_back_told}
use Rattle.sem_plays.proofs.LinkHoldsFourPlay.{told as link_holds_four_told}
use Rattle.sem_plays.proofs.ListGoesRowByRowPlay.{told as list_goes_row_by_row_told}
use Rattle.sem_plays.proofs.MarkedBeforeKindPlay.{told as marked_before_kind_told}
use Rattle.sem_plays.proofs.OrphanInClearPlay.{told as orphan_in_clear_told}
use Rattle.sem_plays.proofs.RequestTakesClearPlay.{told as request_takes_clear_told}
use Rattle.sem_plays.proofs.ResumeComesBeforeUpcallPlay.{told as resume_comes_before_upcall_told}
use Rattle.sem_plays.proofs.RevokeAdoptsRevokePlay.{told as revoke_adopts_revoke_told}
use Rattle.sem_plays.proofs.RevokeTakesClearPlay.{told as revoke_takes_clear_told}
use Rattle.sem_plays.proofs.RevokingIsToldInTurnPlay.{told as revoking_is_told_in_turn_told}
use Rattle.sem_plays.proofs.TwoRevokesMeetPlay.{told as two_revokes_meet_told}
use Rattle.sem_plays.proofs.UnlinkInClearPlay.{told as unlink_in_clear_told}
use Rattle.sem_plays.proofs.WaiterOfClearIsKilledPlay.{told as waiter_of_clear_is_killed_told}
use Rattle.sem_plays.proofs.WindowHoldsRequestsPlay.{told as window_holds_requests_told}
use Rattle.sem_plays.proofs.WindowLeavesInboxOutPlay.{told as window_leaves_inbox_out_told}
use Rattle.sem_plays.proofs.WindowOfEachLinkPlay.{told as window_of_each_link_told}
use Rattle.sem_plays.proofs.WindowOfFivePlay.{told as window_of_five_told}
use Rattle.sem_plays.proofs.WindowOfFourPlay.{told as window_of_four_told}
use Rattle.sem_plays.proofs.WindowOfOnePlay.{told as window_of_one_told}
use Rattle.sem_plays.proofs.WindowOfThirtyTwoPlay.{told as window_of_thirty_two_told}
use Rattle.sem_plays.proofs.waits.Goals as goal

pub returns-clause-asks_of_all_others : goal.returns-clause-asks_of_all_others
returns-clause-asks_of_all_others c = asks_of_all_others_told

pub returns-clause-clear_adopts_revoke : goal.returns-clause-clear_adopts_revoke
returns-clause-clear_adopts_revoke c = clear_adopts_revoke_told

pub returns-clause-clear_below_clear : goal.returns-clause-clear_below_clear
returns-clause-clear_below_clear c = clear_below_clear_told

pub returns-clause-clear_is_one_job : goal.returns-clause-clear_is_one_job
returns-clause-clear_is_one_job c = clear_is_one_job_told

pub returns-clause-clear_of_local_child : goal.returns-clause-clear_of_local_child
returns-clause-clear_of_local_child c = clear_of_local_child_told

pub returns-clause-clear_of_no_child : goal.returns-clause-clear_of_no_child
returns-clause-clear_of_no_child c = clear_of_no_child_told

pub returns-clause-clear_takes_back : goal.returns-clause-clear_takes_back
returns-clause-clear_takes_back c = clear_takes_back_told

pub returns-clause-cleared_has_remote_parent : goal.returns-clause-cleared_has_remote_parent
returns-clause-cleared_has_remote_parent c = cleared_has_remote_parent_told

pub returns-clause-clearing_is_told_in_turn : goal.returns-clause-clearing_is_told_in_turn
returns-clause-clearing_is_told_in_turn c = clearing_is_told_in_turn_told

pub returns-clause-every_token_comes_back : goal.returns-clause-every_token_comes_back
returns-clause-every_token_comes_back c = every_token_comes_back_told

pub returns-clause-link_holds_four : goal.returns-clause-link_holds_four
returns-clause-link_holds_four c = link_holds_four_told

pub returns-clause-list_goes_row_by_row : goal.returns-clause-list_goes_row_by_row
returns-clause-list_goes_row_by_row c = list_goes_row_by_row_told

pub returns-clause-marked_before_kind : goal.returns-clause-marked_before_kind
returns-clause-marked_before_kind c = marked_before_kind_told

pub returns-clause-orphan_in_clear : goal.returns-clause-orphan_in_clear
returns-clause-orphan_in_clear c = orphan_in_clear_told

pub returns-clause-request_takes_clear : goal.returns-clause-request_takes_clear
returns-clause-request_takes_clear c = request_takes_clear_told

pub returns-clause-resume_comes_before_upcall : goal.returns-clause-resume_comes_before_upcall
returns-clause-resume_comes_before_upcall c = resume_comes_before_upcall_told

pub returns-clause-revoke_adopts_revoke : goal.returns-clause-revoke_adopts_revoke
returns-clause-revoke_adopts_revoke c = revoke_adopts_revoke_told

pub returns-clause-revoke_takes_clear : goal.returns-clause-revoke_takes_clear
returns-clause-revoke_takes_clear c = revoke_takes_clear_told

pub returns-clause-revoking_is_told_in_turn : goal.returns-clause-revoking_is_told_in_turn
returns-clause-revoking_is_told_in_turn c = revoking_is_told_in_turn_told

pub returns-clause-two_revokes_meet : goal.returns-clause-two_revokes_meet
returns-clause-two_revokes_meet c = two_revokes_meet_told

pub returns-clause-unlink_in_clear : goal.returns-clause-unlink_in_clear
returns-clause-unlink_in_clear c = unlink_in_clear_told

pub returns-clause-waiter_of_clear_is_killed : goal.returns-clause-waiter_of_clear_is_killed
returns-clause-waiter_of_clear_is_killed c = waiter_of_clear_is_killed_told

pub returns-clause-window_holds_requests : goal.returns-clause-window_holds_requests
returns-clause-window_holds_requests c = window_holds_requests_told

pub returns-clause-window_leaves_inbox_out : goal.returns-clause-window_leaves_inbox_out
returns-clause-window_leaves_inbox_out c = window_leaves_inbox_out_told

pub returns-clause-window_of_each_link : goal.returns-clause-window_of_each_link
returns-clause-window_of_each_link c = window_of_each_link_told

pub returns-clause-window_of_five : goal.returns-clause-window_of_five
returns-clause-window_of_five c = window_of_five_told

pub returns-clause-window_of_four : goal.returns-clause-window_of_four
returns-clause-window_of_four c = window_of_four_told

pub returns-clause-window_of_one : goal.returns-clause-window_of_one
returns-clause-window_of_one c = window_of_one_told

pub returns-clause-window_of_thirty_two : goal.returns-clause-window_of_thirty_two
returns-clause-window_of_thirty_two c = window_of_thirty_two_told
