use Rattle.std.proofs.Common.{sym, ◌∙◌}
use Rattle.sem_audit.proofs.Losing.{granted-lost, granted-kept, granted-nothing}
use Rattle.sem_audit.proofs.forests.add_lost.Goals as goal

-- the parent is lost
pub returns-in_ok-add_word-clause-added : goal.returns-in_ok-add_word-clause-added
returns-in_ok-add_word-clause-added c = granted-lost c.args.words.now c.add_word.new.words c.args.entry.now.grant c.in-Some.parent c.in-Some.child c.in-Some.is
    (sym c.has_word.ensures.word ∙ c.if-has_word.true) c.in_ok-add_word.ensures.added

-- it is not
pub returns-else-has_word-clause-added : goal.returns-else-has_word-clause-added
returns-else-has_word-clause-added c = granted-kept c.args.words.now c.args.entry.now.grant c.in-Some.parent c.in-Some.child c.in-Some.is
    (sym c.has_word.ensures.word ∙ c.if-has_word.false)

-- nothing is granted
pub returns-in_default-clause-added : goal.returns-in_default-clause-added
returns-in_default-clause-added c = granted-nothing c.args.words.now c.args.entry.now.grant c.in_default.is
