use Rattle.std.proofs.Common.{refl, subst, ◌∙◌}
use Rattle.sem_run.specs.Readings.{IsVerdictTold}
use Rattle.sem_run.specs.Texts.{text_of}
use Rattle.sem_run.proofs.ReadInput.{askable, answer-ends}
use Rattle.sem_run.proofs.answers.answer.Goals as goal

-- what the question is about was found
pub tell_verdict-requires : goal.tell_verdict-requires
tell_verdict-requires g c =
    askable _ c.judge_watched.new.watch c.in-Ok-judge_watched.verdict c.in-Ok-judge_watched.ensures.verdict c.in-Ok-judge_watched.ensures.gathered

-- the verdict is told
pub returns-in-Ok-judge_watched : goal.returns-in-Ok-judge_watched
returns-in-Ok-judge_watched g c =
    let r = c.tell_verdict.result in
    let v = c.in-Ok-judge_watched.verdict in
    let text = text_of r.text r.journal.entries in
    let told : IsVerdictTold c.args.question v text r.status = subst (λ q. IsVerdictTold q v text r.status) (c.judge_watched.ensures.same
    ∙ c.new-finding.ensures.question) c.tell_verdict.ensures.1 in
    answer-ends _ _ _ c.in-Ok.bytes.items c.args.question refl c.in-Ok.ensures.bytes c.in-Ok.ensures.taken c.in-Ok.ensures.quiet c.tell_verdict.ensures.0 v
    c.in-Ok-judge_watched.ensures.verdict r.status told
