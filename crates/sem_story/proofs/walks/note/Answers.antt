use Rattle.std.proofs.Common.{refl, subst, sym, ap, ◌∙◌}
use Rattle.sem_story.specs.Telling.{last_stage}
use Rattle.sem_story.specs.Walks.{Notes}
use Rattle.sem_story.proofs.Told.{notes-one, last-push}
use Rattle.sem_story.proofs.walks.note.Goals as goal

pub returns-clause-notes : goal.returns-clause-notes
returns-clause-notes c = subst (Notes c.args.when c.args.rows.now.items) (sym c.in_ok-push.ensures.items)
    (notes-one c.args.when c.args.rows.now.items _ refl refl)

pub returns-clause-last : goal.returns-clause-last
returns-clause-last c = ap last_stage c.in_ok-push.ensures.items ∙ last-push c.args.rows.now.items _
