use Rattle.std.specs.Prelude.{codes, decimal}
use Rattle.sem_cli.specs.Refusals.{entry_text}
use Rattle.sem_cli.proofs.Appends.{ending-appended}
use Rattle.sem_cli.proofs.refusals.push_going_on.Goals as goal

pub returns : goal.returns
returns c = record {
  ok = ending-appended c.args.out.now.items _ _ _ _ (codes "report refused: entry ") (decimal c.args.number) (codes ": entered ")
      (codes "end") (codes "; replayed ") (entry_text c.args.next.now) _ c.in_ok-push_place.ensures.ok c.in_ok-extend_from_slice.ensures.items
      c.in_ok-push_entry_words.ensures.ok c.in_ok-push.ensures.items;
}
