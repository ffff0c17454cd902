-- What journals tell: which keys were cut off, and which of them by calls that succeeded.
use Rattle.std.specs.Prelude.{◌≡◌, [], ◌∷◌}
use Rattle.sem_machine.specs.Prelude.{MemKind, cut, answered}
use Rattle.sem_plays.specs.Words.{key}
use Rattle.sem_plays.specs.ClearIsOneJob
use Rattle.sem_plays.specs.ClearOfNoChild
use Rattle.sem_plays.specs.ClearTakesBack
use Rattle.sem_plays.specs.ClearedThreeTimes
use Rattle.sem_plays.specs.ClearerIsKilled
use Rattle.sem_plays.specs.ClearingIsToldInTurn
use Rattle.sem_plays.specs.GivenAfterClear
use Rattle.sem_plays.specs.KilledAfterClear
use Rattle.sem_plays.specs.KilledRevoker
use Rattle.sem_plays.specs.RevokeTakesClear
use Rattle.sem_plays.specs.TwoRevokesMeet
use Rattle.sem_plays.specs.WaiterOfClearIsKilled

abbrev pub clear_is_one_job_cut : Type 0
clear_is_one_job_cut = cut ClearIsOneJob.trace ClearIsOneJob.journal ≡ key 0 0 MemKind 0 ∷ key 2 2 MemKind 0
    ∷ key 3 3 MemKind 0 ∷ key 4 4 MemKind 0 ∷ []

abbrev pub clear_is_one_job_answered : Type 0
clear_is_one_job_answered = answered ClearIsOneJob.journal ≡ key 2 2 MemKind 0 ∷ key 3 3 MemKind 0 ∷ key 4 4 MemKind 0
    ∷ key 0 0 MemKind 0 ∷ []

abbrev pub clear_of_no_child_cut : Type 0
clear_of_no_child_cut = cut ClearOfNoChild.trace ClearOfNoChild.journal ≡ []

abbrev pub clear_of_no_child_answered : Type 0
clear_of_no_child_answered = answered ClearOfNoChild.journal ≡ []

abbrev pub clear_takes_back_cut : Type 0
clear_takes_back_cut = cut ClearTakesBack.trace ClearTakesBack.journal ≡ key 1 1 MemKind 0 ∷ []

abbrev pub clear_takes_back_answered : Type 0
clear_takes_back_answered = answered ClearTakesBack.journal ≡ key 1 1 MemKind 0 ∷ []

abbrev pub cleared_three_times_cut : Type 0
cleared_three_times_cut = cut ClearedThreeTimes.trace ClearedThreeTimes.journal
    ≡ key 1 1 MemKind 0 ∷ key 1 1 MemKind 1 ∷ []

abbrev pub cleared_three_times_answered : Type 0
cleared_three_times_answered = answered ClearedThreeTimes.journal ≡ key 1 1 MemKind 0 ∷ key 1 1 MemKind 0
    ∷ key 1 1 MemKind 0 ∷ key 1 1 MemKind 1 ∷ key 1 1 MemKind 0 ∷ key 1 1 MemKind 1 ∷ []

abbrev pub clearer_is_killed_cut : Type 0
clearer_is_killed_cut = cut ClearerIsKilled.trace ClearerIsKilled.journal ≡ key 0 0 MemKind 0 ∷ key 0 0 MemKind 1
    ∷ key 2 2 MemKind 0 ∷ key 3 3 MemKind 0 ∷ []

abbrev pub clearer_is_killed_answered : Type 0
clearer_is_killed_answered = answered ClearerIsKilled.journal ≡ key 0 0 MemKind 0 ∷ []

abbrev pub clearing_is_told_in_turn_cut : Type 0
clearing_is_told_in_turn_cut = cut ClearingIsToldInTurn.trace ClearingIsToldInTurn.journal
    ≡ key 1 1 MemKind 0 ∷ key 2 2 MemKind 0 ∷ []

abbrev pub clearing_is_told_in_turn_answered : Type 0
clearing_is_told_in_turn_answered = answered ClearingIsToldInTurn.journal ≡ key 2 2 MemKind 0 ∷ key 1 1 MemKind 0
    ∷ key 2 2 MemKind 0 ∷ key 2 2 MemKind 0 ∷ key 1 1 MemKind 0 ∷ []

abbrev pub given_after_clear_cut : Type 0
given_after_clear_cut = cut GivenAfterClear.trace GivenAfterClear.journal ≡ key 1 1 MemKind 0 ∷ []

abbrev pub given_after_clear_answered : Type 0
given_after_clear_answered = answered GivenAfterClear.journal ≡ key 1 1 MemKind 0 ∷ []

abbrev pub killed_after_clear_cut : Type 0
killed_after_clear_cut = cut KilledAfterClear.trace KilledAfterClear.journal ≡ key 0 0 MemKind 0 ∷ key 1 1 MemKind 0
    ∷ []

abbrev pub killed_after_clear_answered : Type 0
killed_after_clear_answered = answered KilledAfterClear.journal ≡ key 1 1 MemKind 0 ∷ []

abbrev pub killed_revoker_cut : Type 0
killed_revoker_cut = cut KilledRevoker.trace KilledRevoker.journal ≡ key 0 0 MemKind 0 ∷ []

abbrev pub killed_revoker_answered : Type 0
killed_revoker_answered = answered KilledRevoker.journal ≡ []

abbrev pub revoke_takes_clear_cut : Type 0
revoke_takes_clear_cut = cut RevokeTakesClear.trace RevokeTakesClear.journal ≡ key 1 1 MemKind 0 ∷ key 2 2 MemKind 0
    ∷ []

abbrev pub revoke_takes_clear_answered : Type 0
revoke_takes_clear_answered = answered RevokeTakesClear.journal ≡ key 1 1 MemKind 0 ∷ key 2 2 MemKind 0 ∷ []

abbrev pub two_revokes_meet_cut : Type 0
two_revokes_meet_cut = cut TwoRevokesMeet.trace TwoRevokesMeet.journal ≡ key 0 0 MemKind 0 ∷ key 1 1 MemKind 0 ∷ []

abbrev pub two_revokes_meet_answered : Type 0
two_revokes_meet_answered = answered TwoRevokesMeet.journal ≡ key 1 1 MemKind 0 ∷ key 0 0 MemKind 0 ∷ []

abbrev pub waiter_of_clear_is_killed_cut : Type 0
waiter_of_clear_is_killed_cut = cut WaiterOfClearIsKilled.trace WaiterOfClearIsKilled.journal
    ≡ key 1 1 MemKind 0 ∷ key 2 2 MemKind 0 ∷ []

abbrev pub waiter_of_clear_is_killed_answered : Type 0
waiter_of_clear_is_killed_answered = answered WaiterOfClearIsKilled.journal ≡ key 2 2 MemKind 0 ∷ key 1 1 MemKind 0
    ∷ []
