use Rattle.std.proofs.lemmas.List.Edits.{map_over_more}
use Rattle.sem_msg.specs.EndpointRows.{unbound_from}
use Rattle.sem_dtu.proofs.dtus.unbind_all_of.Goals as goal

-- one more endpoint is not bound to the keys
pub loop-endpoint-preserved : goal.loop-endpoint-preserved
loop-endpoint-preserved c =
    rw (
      c.unbind_from_all.ensures,
      ← c.endpoint-item.is,
    ) (map_over_more (unbound_from c.args.keys.now) _ _ _ _ c.loop-endpoint-test.true c.loop-endpoint.invariant c.endpoint-item.is)
