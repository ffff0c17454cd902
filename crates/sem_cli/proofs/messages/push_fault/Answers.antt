use Rattle.std.proofs.Common.{◌∙◌}
use Rattle.sem_cli.proofs.Appends.{four-appended}
use Rattle.sem_cli.proofs.messages.push_fault.Goals as goal

pub returns : goal.returns
returns c = record {
  ok =
      four-appended _ _ _ _ _ _ _ _ _ _ c.in_ok-push_number.ensures.ok c.in_ok-extend_from_slice.ensures.items c.in_ok-extend_from_slice-2.ensures.items
      (c.as_bytes.ensures.value ∙ c.name.ensures) c.in_ok-push.ensures.items;
}
