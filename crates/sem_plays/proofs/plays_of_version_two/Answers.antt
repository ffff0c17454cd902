use Rattle.sem_plays.proofs.AsksOfAllOthersPlay.{holds as asks_of_all_others_holds}
use Rattle.sem_plays.proofs.ChainByWindowOfOnePlay.{holds as chain_by_window_of_one_holds}
use Rattle.sem_plays.proofs.FarEndsPlay.{holds as far_ends_holds}
use Rattle.sem_plays.proofs.LastVpeOpensPlay.{holds as last_vpe_opens_holds}
use Rattle.sem_plays.proofs.WindowHoldsRequestsPlay.{holds as window_holds_requests_holds}
use Rattle.sem_plays.proofs.WindowLeavesInboxOutPlay.{holds as window_leaves_inbox_out_holds}
use Rattle.sem_plays.proofs.WindowOfEachLinkPlay.{holds as window_of_each_link_holds}
use Rattle.sem_plays.proofs.WindowOfFivePlay.{holds as window_of_five_holds}
use Rattle.sem_plays.proofs.WindowOfFourPlay.{holds as window_of_four_holds}
use Rattle.sem_plays.proofs.WindowOfOnePlay.{holds as window_of_one_holds}
use Rattle.sem_plays.proofs.WindowOfThirtyTwoPlay.{holds as window_of_thirty_two_holds}
use Rattle.sem_plays.proofs.plays_of_version_two.Goals as goal

pub returns-clause-asks_of_all_others : goal.returns-clause-asks_of_all_others
returns-clause-asks_of_all_others c = asks_of_all_others_holds

pub returns-clause-chain_by_window_of_one : goal.returns-clause-chain_by_window_of_one
returns-clause-chain_by_window_of_one c = chain_by_window_of_one_holds

pub returns-clause-far_ends : goal.returns-clause-far_ends
returns-clause-far_ends c = far_ends_holds

pub returns-clause-last_vpe_opens : goal.returns-clause-last_vpe_opens
returns-clause-last_vpe_opens c = last_vpe_opens_holds

pub returns-clause-window_holds_requests : goal.returns-clause-window_holds_requests
returns-clause-window_holds_requests c = window_holds_requests_holds

pub returns-clause-window_leaves_inbox_out : goal.returns-clause-window_leaves_inbox_out
returns-clause-window_leaves_inbox_out c = window_leaves_inbox_out_holds

pub returns-clause-window_of_each_link : goal.returns-clause-window_of_each_link
returns-clause-window_of_each_link c = window_of_each_link_holds

pub returns-clause-window_of_five : goal.returns-clause-window_of_five
returns-clause-window_of_five c = window_of_five_holds

pub returns-clause-window_of_four : goal.returns-clause-window_of_four
returns-clause-window_of_four c = window_of_four_holds

pub returns-clause-window_of_one : goal.returns-clause-window_of_one
returns-clause-window_of_one c = window_of_one_holds

pub returns-clause-window_of_thirty_two : goal.returns-clause-window_of_thirty_two
returns-clause-window_of_thirty_two c = window_of_thirty_two_holds
