use Rattle.sem_numbering.proofs.Children.{more-part}
use Rattle.sem_numbering.proofs.parts.add_part.Goals as goal

pub returns-clause-kept : goal.returns-clause-kept
returns-clause-kept c = more-part c.args.children.now.items c.new.result c.push.new.self.items c.in_ok-push.ensures.items
