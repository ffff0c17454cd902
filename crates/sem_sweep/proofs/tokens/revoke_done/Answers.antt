use Rattle.sem_sweep.proofs.Lowered.{done-row, answered-job}
use Rattle.sem_sweep.proofs.tokens.revoke_done.Goals as goal

pub returns-clause-row : goal.returns-clause-row
returns-clause-row c T i from s = done-row T i from c.args.job c.token_back.result c.args.jobs.now c.token_back.new.self s c.token_back.ensures.jobs
    c.token_back.ensures.next

pub returns-clause-answer : goal.returns-clause-answer
returns-clause-answer c = answered-job c.args.job c.token_back.new.self.jobs c.token_back.result c.token_back.ensures.next c.token_back.ensures.there
