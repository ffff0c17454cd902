use Rattle.sem_plays.proofs.AnswersBeforeOrphanPlay.{holds as answers_before_orphan_holds}
use Rattle.sem_plays.proofs.AsksOfTheEndedPlay.{holds as asks_of_the_ended_holds}
use Rattle.sem_plays.proofs.BoundAnewIsEmptyPlay.{holds as bound_anew_is_empty_holds}
use Rattle.sem_plays.proofs.ChainOfFortyOnePlay.{holds as chain_of_forty_one_holds}
use Rattle.sem_plays.proofs.DeadIsToldPlay.{holds as dead_is_told_holds}
use Rattle.sem_plays.proofs.DeadObtainerSendsOrphanPlay.{holds as dead_obtainer_sends_orphan_holds}
use Rattle.sem_plays.proofs.DeadReceiverSendsOrphanPlay.{holds as dead_receiver_sends_orphan_holds}
use Rattle.sem_plays.proofs.DeadSourceAnswersPlay.{holds as dead_source_answers_holds}
use Rattle.sem_plays.proofs.DelegateOfMarkedPlay.{holds as delegate_of_marked_holds}
use Rattle.sem_plays.proofs.DelegateOfRevokedPlay.{holds as delegate_of_revoked_holds}
use Rattle.sem_plays.proofs.DelegateRefusedForTheDeadPlay.{holds as delegate_refused_for_the_dead_holds}
use Rattle.sem_plays.proofs.DelegateToTheDeadPlay.{holds as delegate_to_the_dead_holds}
use Rattle.sem_plays.proofs.DerivedBaseIsReducedPlay.{holds as derived_base_is_reduced_holds}
use Rattle.sem_plays.proofs.DerivedGoesWithRootPlay.{holds as derived_goes_with_root_holds}
use Rattle.sem_plays.proofs.DerivedRightsAreFewerPlay.{holds as derived_rights_are_fewer_holds}
use Rattle.sem_plays.proofs.DroppedThoughDeniedPlay.{holds as dropped_though_denied_holds}
use Rattle.sem_plays.proofs.EndInKeyOrderPlay.{holds as end_in_key_order_holds}
use Rattle.sem_plays.proofs.EndTakesATreeOncePlay.{holds as end_takes_a_tree_once_holds}
use Rattle.sem_plays.proofs.EveryTokenComesBackPlay.{holds as every_token_comes_back_holds}
use Rattle.sem_plays.proofs.ExitRevokesPlay.{holds as exit_revokes_holds}
use Rattle.sem_plays.proofs.GateTakesAllSlotsPlay.{holds as gate_takes_all_slots_holds}
use Rattle.sem_plays.proofs.KillOfChainPlay.{holds as kill_of_chain_holds}
use Rattle.sem_plays.proofs.KilledBeforeAckPlay.{holds as killed_before_ack_holds}
use Rattle.sem_plays.proofs.KilledBeforeInstallPlay.{holds as killed_before_install_holds}
use Rattle.sem_plays.proofs.KilledRevokerPlay.{holds as killed_revoker_holds}
use Rattle.sem_plays.proofs.KindBeforeDeadPlay.{holds as kind_before_dead_holds}
use Rattle.sem_plays.proofs.LinkHoldsFourPlay.{holds as link_holds_four_holds}
use Rattle.sem_plays.proofs.ListGoesRowByRowPlay.{holds as list_goes_row_by_row_holds}
use Rattle.sem_plays.proofs.LocalDelegateOfMarkedPlay.{holds as local_delegate_of_marked_holds}
use Rattle.sem_plays.proofs.LocalDelegateOfRevokedPlay.{holds as local_delegate_of_revoked_holds}
use Rattle.sem_plays.proofs.MarkedBeforeKindPlay.{holds as marked_before_kind_holds}
use Rattle.sem_plays.proofs.MarkedIsUnboundPlay.{holds as marked_is_unbound_holds}
use Rattle.sem_plays.proofs.ObtainAcrossKernelsPlay.{holds as obtain_across_kernels_holds}
use Rattle.sem_plays.proofs.ObtainOfMarkedPlay.{holds as obtain_of_marked_holds}
use Rattle.sem_plays.proofs.ObtainsCrossPlay.{holds as obtains_cross_holds}
use Rattle.sem_plays.proofs.OffersByNamePlay.{holds as offers_by_name_holds}
use Rattle.sem_plays.proofs.PreparedForTheDeadPlay.{holds as prepared_for_the_dead_holds}
use Rattle.sem_plays.proofs.PromisedIsOccupiedPlay.{holds as promised_is_occupied_holds}
use Rattle.sem_plays.proofs.RefusalForTheDeadPlay.{holds as refusal_for_the_dead_holds}
use Rattle.sem_plays.proofs.RefusalsByNamePlay.{holds as refusals_by_name_holds}
use Rattle.sem_plays.proofs.RequestsRisePlay.{holds as requests_rise_holds}
use Rattle.sem_plays.proofs.ResumeComesBeforeUpcallPlay.{holds as resume_comes_before_upcall_holds}
use Rattle.sem_plays.proofs.RevokeAdoptsRevokePlay.{holds as revoke_adopts_revoke_holds}
use Rattle.sem_plays.proofs.RevokeReachesOtherKernelPlay.{holds as revoke_reaches_other_kernel_holds}
use Rattle.sem_plays.proofs.RevokedSelectorIsFreePlay.{holds as revoked_selector_is_free_holds}
use Rattle.sem_plays.proofs.RevokingIsToldInTurnPlay.{holds as revoking_is_told_in_turn_holds}
use Rattle.sem_plays.proofs.SessionsAndOffersPlay.{holds as sessions_and_offers_holds}
use Rattle.sem_plays.proofs.TwoRevokesMeetPlay.{holds as two_revokes_meet_holds}
use Rattle.sem_plays.proofs.plays_of_version_one.Goals as goal

pub returns-clause-answers_before_orphan : goal.returns-clause-answers_before_orphan
returns-clause-answers_before_orphan c = answers_before_orphan_holds

pub returns-clause-asks_of_the_ended : goal.returns-clause-asks_of_the_ended
returns-clause-asks_of_the_ended c = asks_of_the_ended_holds

pub returns-clause-bound_anew_is_empty : goal.returns-clause-bound_anew_is_empty
returns-clause-bound_anew_is_empty c = bound_anew_is_empty_holds

pub returns-clause-chain_of_forty_one : goal.returns-clause-chain_of_forty_one
returns-clause-chain_of_forty_one c = chain_of_forty_one_holds

pub returns-clause-dead_is_told : goal.returns-clause-dead_is_told
returns-clause-dead_is_told c = dead_is_told_holds

pub returns-clause-dead_obtainer_sends_orphan : goal.returns-clause-dead_obtainer_sends_orphan
returns-clause-dead_obtainer_sends_orphan c = dead_obtainer_sends_orphan_holds

pub returns-clause-dead_receiver_sends_orphan : goal.returns-clause-dead_receiver_sends_orphan
returns-clause-dead_receiver_sends_orphan c = dead_receiver_sends_orphan_holds

pub returns-clause-dead_source_answers : goal.returns-clause-dead_source_answers
returns-clause-dead_source_answers c = dead_source_answers_holds

pub returns-clause-delegate_of_marked : goal.returns-clause-delegate_of_marked
returns-clause-delegate_of_marked c = delegate_of_marked_holds

pub returns-clause-delegate_of_revoked : goal.returns-clause-delegate_of_revoked
returns-clause-delegate_of_revoked c = delegate_of_revoked_holds

pub returns-clause-delegate_refused_for_the_dead : goal.returns-clause-delegate_refused_for_the_dead
returns-clause-delegate_refused_for_the_dead c = delegate_refused_for_the_dead_holds

pub returns-clause-delegate_to_the_dead : goal.returns-clause-delegate_to_the_dead
returns-clause-delegate_to_the_dead c = delegate_to_the_dead_holds

pub returns-clause-derived_base_is_reduced : goal.returns-clause-derived_base_is_reduced
returns-clause-derived_base_is_reduced c = derived_base_is_reduced_holds

pub returns-clause-derived_goes_with_root : goal.returns-clause-derived_goes_with_root
returns-clause-derived_goes_with_root c = derived_goes_with_root_holds

pub returns-clause-derived_rights_are_fewer : goal.returns-clause-derived_rights_are_fewer
returns-clause-derived_rights_are_fewer c = derived_rights_are_fewer_holds

pub returns-clause-dropped_though_denied : goal.returns-clause-dropped_though_denied
returns-clause-dropped_though_denied c = dropped_though_denied_holds

pub returns-clause-end_in_key_order : goal.returns-clause-end_in_key_order
returns-clause-end_in_key_order c = end_in_key_order_holds

pub returns-clause-end_takes_a_tree_once : goal.returns-clause-end_takes_a_tree_once
returns-clause-end_takes_a_tree_once c = end_takes_a_tree_once_holds

pub returns-clause-every_token_comes_back : goal.returns-clause-every_token_comes_back
returns-clause-every_token_comes_back c = every_token_comes_back_holds

pub returns-clause-exit_revokes : goal.returns-clause-exit_revokes
returns-clause-exit_revokes c = exit_revokes_holds

pub returns-clause-gate_takes_all_slots : goal.returns-clause-gate_takes_all_slots
returns-clause-gate_takes_all_slots c = gate_takes_all_slots_holds

pub returns-clause-kill_of_chain : goal.returns-clause-kill_of_chain
returns-clause-kill_of_chain c = kill_of_chain_holds

pub returns-clause-killed_before_ack : goal.returns-clause-killed_before_ack
returns-clause-killed_before_ack c = killed_before_ack_holds

pub returns-clause-killed_before_install : goal.returns-clause-killed_before_install
returns-clause-killed_before_install c = killed_before_install_holds

pub returns-clause-killed_revoker : goal.returns-clause-killed_revoker
returns-clause-killed_revoker c = killed_revoker_holds

pub returns-clause-kind_before_dead : goal.returns-clause-kind_before_dead
returns-clause-kind_before_dead c = kind_before_dead_holds

pub returns-clause-link_holds_four : goal.returns-clause-link_holds_four
returns-clause-link_holds_four c = link_holds_four_holds

pub returns-clause-list_goes_row_by_row : goal.returns-clause-list_goes_row_by_row
returns-clause-list_goes_row_by_row c = list_goes_row_by_row_holds

pub returns-clause-local_delegate_of_marked : goal.returns-clause-local_delegate_of_marked
returns-clause-local_delegate_of_marked c = local_delegate_of_marked_holds

pub returns-clause-local_delegate_of_revoked : goal.returns-clause-local_delegate_of_revoked
returns-clause-local_delegate_of_revoked c = local_delegate_of_revoked_holds

pub returns-clause-marked_before_kind : goal.returns-clause-marked_before_kind
returns-clause-marked_before_kind c = marked_before_kind_holds

pub returns-clause-marked_is_unbound : goal.returns-clause-marked_is_unbound
returns-clause-marked_is_unbound c = marked_is_unbound_holds

pub returns-clause-obtain_across_kernels : goal.returns-clause-obtain_across_kernels
returns-clause-obtain_across_kernels c = obtain_across_kernels_holds

pub returns-clause-obtain_of_marked : goal.returns-clause-obtain_of_marked
returns-clause-obtain_of_marked c = obtain_of_marked_holds

pub returns-clause-obtains_cross : goal.returns-clause-obtains_cross
returns-clause-obtains_cross c = obtains_cross_holds

pub returns-clause-offers_by_name : goal.returns-clause-offers_by_name
returns-clause-offers_by_name c = offers_by_name_holds

pub returns-clause-prepared_for_the_dead : goal.returns-clause-prepared_for_the_dead
returns-clause-prepared_for_the_dead c = prepared_for_the_dead_holds

pub returns-clause-promised_is_occupied : goal.returns-clause-promised_is_occupied
returns-clause-promised_is_occupied c = promised_is_occupied_holds

pub returns-clause-refusal_for_the_dead : goal.returns-clause-refusal_for_the_dead
returns-clause-refusal_for_the_dead c = refusal_for_the_dead_holds

pub returns-clause-refusals_by_name : goal.returns-clause-refusals_by_name
returns-clause-refusals_by_name c = refusals_by_name_holds

pub returns-clause-requests_rise : goal.returns-clause-requests_rise
returns-clause-requests_rise c = requests_rise_holds

pub returns-clause-resume_comes_before_upcall : goal.returns-clause-resume_comes_before_upcall
returns-clause-resume_comes_before_upcall c = resume_comes_before_upcall_holds

pub returns-clause-revoke_adopts_revoke : goal.returns-clause-revoke_adopts_revoke
returns-clause-revoke_adopts_revoke c = revoke_adopts_revoke_holds

pub returns-clause-revoke_reaches_other_kernel : goal.returns-clause-revoke_reaches_other_kernel
returns-clause-revoke_reaches_other_kernel c = revoke_reaches_other_kernel_holds

pub returns-clause-revoked_selector_is_free : goal.returns-clause-revoked_selector_is_free
returns-clause-revoked_selector_is_free c = revoked_selector_is_free_holds

pub returns-clause-revoking_is_told_in_turn : goal.returns-clause-revoking_is_told_in_turn
returns-clause-revoking_is_told_in_turn c = revoking_is_told_in_turn_holds

pub returns-clause-sessions_and_offers : goal.returns-clause-sessions_and_offers
returns-clause-sessions_and_offers c = sessions_and_offers_holds

pub returns-clause-two_revokes_meet : goal.returns-clause-two_revokes_meet
returns-clause-two_revokes_meet c = two_revokes_meet_holds
