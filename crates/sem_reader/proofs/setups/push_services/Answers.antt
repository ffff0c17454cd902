use Rattle.std.proofs.Common.{rules, append-nil}
use Rattle.sem_reader.proofs.MoreItems.{services_from-none, more_services}
use Rattle.sem_reader.proofs.setups.push_services.Goals as goal

pub loop-number-init : goal.loop-number-init
loop-number-init c = rw (services_from-none, append-nil)

pub loop-number-preserved : goal.loop-number-preserved
loop-number-preserved c = more_services c.args.declared.now c.args.declared.now.roots c.loop-number.number c.root-item.result _ _ _ _ (search rules)
    (rw c.as_slice-root-items.ensures at c.root-item.is) c.loop-number.invariant c.in_ok-push_some.ensures.ok c.service_with-service.ensures
