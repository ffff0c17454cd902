use Rattle.sem_cli.proofs.Appends.{three-appended}
use Rattle.sem_cli.proofs.refusals.push_place.Goals as goal

pub returns : goal.returns
returns c = record {
  ok =
      three-appended _ _ _ _ _ _ _ c.in_ok-extend_from_slice.ensures.items c.in_ok-push_number.ensures.ok c.in_ok-extend_from_slice-2.ensures.items;
}
