use Rattle.std.specs.Prelude.{codes, decimal}
use Rattle.sem_cli.specs.Refusals.{entry_text, replayed_text}
use Rattle.sem_cli.proofs.Appends.{seven-appended}
use Rattle.sem_cli.proofs.refusals.push_differing.Goals as goal

pub returns : goal.returns
returns c = record {
  ok = seven-appended c.args.out.now.items _ _ _ _ _ (codes "report refused: entry ") (decimal c.args.number) (codes ": entered ")
      (entry_text c.args.entered.now) (codes "; replayed ") (replayed_text c.args.replayed.now) _ c.in_ok-push_place.ensures.ok
      c.in_ok-push_entry_words.ensures.ok c.in_ok-extend_from_slice.ensures.items c.in_ok-push_replayed.ensures.ok c.in_ok-push.ensures.items;
}
