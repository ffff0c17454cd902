use Rattle.sem_revoke.proofs.SampleRuns.{sample-setup, runs-grant, runs-bind, runs-revoke, runs-clear, on-its-way, line-of-part, bound, answered-revoke}
use Rattle.sem_revoke.proofs.SampleRuns.{part-gone, answered-clear, cleared-gone, memory-kept}
use Rattle.sem_revoke.proofs.laws.safe_speaks_of_schedules.Goals as goal

pub returns-clause-setup : goal.returns-clause-setup
returns-clause-setup c = sample-setup

pub returns-clause-grant : goal.returns-clause-grant
returns-clause-grant c = runs-grant

pub returns-clause-bind : goal.returns-clause-bind
returns-clause-bind c = runs-bind

pub returns-clause-revoke : goal.returns-clause-revoke
returns-clause-revoke c = runs-revoke

pub returns-clause-clear : goal.returns-clause-clear
returns-clause-clear c = runs-clear

pub returns-clause-on_its_way : goal.returns-clause-on_its_way
returns-clause-on_its_way c = on-its-way

pub returns-clause-line : goal.returns-clause-line
returns-clause-line c = line-of-part

pub returns-clause-bound : goal.returns-clause-bound
returns-clause-bound c = bound

pub returns-clause-revoked : goal.returns-clause-revoked
returns-clause-revoked c = answered-revoke

pub returns-clause-gone : goal.returns-clause-gone
returns-clause-gone c = part-gone

pub returns-clause-cleared : goal.returns-clause-cleared
returns-clause-cleared c = answered-clear

pub returns-clause-gone_too : goal.returns-clause-gone_too
returns-clause-gone_too c = cleared-gone

pub returns-clause-kept : goal.returns-clause-kept
returns-clause-kept c = memory-kept
