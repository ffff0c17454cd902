use Rattle.std.proofs.Common.{Some, ap, ◌∙◌}
use Rattle.sem_own.proofs.Using.{use-passed, use-refused}
use Rattle.sem_own.proofs.endpoints.used.Goals as goal

pub returns-in-Ok-clause-row : goal.returns-in-Ok-clause-row
returns-in-Ok-clause-row c s = use-passed c.args.op c.args.vpe c.args.ep c.args.dtus.now c.use_endpoint.new.self s c.answered.result c.in-Ok.ensures.refusal
    c.in-Ok.ensures.table c.answered.ensures

pub returns-in-Err-clause-row : goal.returns-in-Err-clause-row
returns-in-Err-clause-row c s = use-refused c.args.op c.args.vpe c.args.ep c.args.dtus.now c.use_endpoint.new.self s c.answered-in-Err.result c.from.result
    (ap (λ code. Some code) c.from.ensures ∙ c.in-Err.ensures.refusal) c.in-Err.ensures.table c.answered-in-Err.ensures
