use Rattle.std.proofs.Common.{List, ◌++◌, ap, ◌∙◌}
use Rattle.sem_key.specs.KeyName.{KeyName}
use Rattle.sem_query.proofs.Pushing.{pushed-all}
use Rattle.sem_query.proofs.moves.push_revoked.Goals as goal

pub returns : goal.returns
returns c =
    let reached : List KeyName = c.in_ok-reached.reached.items in (
      reached,
      c.in_ok-reached.ensures,
      pushed-all c.args.setup.now c.args.entry.now.event.kernel c.args.kernel.now.side c.args.entry.now reached c.args.keys.now.items
          c.push_ready.new.keys.items c.push_ready-2.new.keys.items c.push_ready_by.new.keys.items c.extend_from_slice.new.self.items
          c.in_ok-push_ready.ensures (rw c.requested.ensures at c.in_ok-push_ready-2.ensures) (rw c.ended_by.ensures at c.in_ok-push_ready_by.ensures)
          (c.in_ok-extend_from_slice.ensures.items ∙ ap (λ (ks : List KeyName). c.push_ready_by.new.keys.items ++ ks) c.deref.ensures.value),
    )
