use Rattle.sem_safety.proofs.Updates.{seen-with_row, seen-unbind_all, seen-with_endpoint, seen-parked_as, seen-unparked, seen-cap_added, seen-cap_changed}
use Rattle.sem_safety.proofs.Updates.{seen-mark_all, seen-caps_removed, seen-pending_added, seen-pending_removed, seen-job_opened, seen-job_changed}
use Rattle.sem_safety.proofs.Updates.{seen-job_removed, seen-send, seen-sent, seen-with_inbox}
use Rattle.sem_safety.proofs.observations.changes_are_seen.Goals as goal

pub returns-clause-row : goal.returns-clause-row
returns-clause-row c = seen-with_row

pub returns-clause-unbound : goal.returns-clause-unbound
returns-clause-unbound c = seen-unbind_all

pub returns-clause-endpoint : goal.returns-clause-endpoint
returns-clause-endpoint c = seen-with_endpoint

pub returns-clause-parked : goal.returns-clause-parked
returns-clause-parked c = seen-parked_as

pub returns-clause-unparked : goal.returns-clause-unparked
returns-clause-unparked c = seen-unparked

pub returns-clause-cap_added : goal.returns-clause-cap_added
returns-clause-cap_added c = seen-cap_added

pub returns-clause-cap_changed : goal.returns-clause-cap_changed
returns-clause-cap_changed c = seen-cap_changed

pub returns-clause-marked : goal.returns-clause-marked
returns-clause-marked c = seen-mark_all

pub returns-clause-removed : goal.returns-clause-removed
returns-clause-removed c = seen-caps_removed

pub returns-clause-pending_added : goal.returns-clause-pending_added
returns-clause-pending_added c = seen-pending_added

pub returns-clause-pending_removed : goal.returns-clause-pending_removed
returns-clause-pending_removed c = seen-pending_removed

pub returns-clause-job_opened : goal.returns-clause-job_opened
returns-clause-job_opened c = seen-job_opened

pub returns-clause-job_changed : goal.returns-clause-job_changed
returns-clause-job_changed c = seen-job_changed

pub returns-clause-job_removed : goal.returns-clause-job_removed
returns-clause-job_removed c = seen-job_removed

pub returns-clause-send : goal.returns-clause-send
returns-clause-send c = seen-send

pub returns-clause-sent : goal.returns-clause-sent
returns-clause-sent c = seen-sent

pub returns-clause-inbox : goal.returns-clause-inbox
returns-clause-inbox c = seen-with_inbox
