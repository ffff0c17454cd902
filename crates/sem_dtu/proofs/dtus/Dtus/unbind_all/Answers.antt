use Rattle.sem_dtu.proofs.Unbound.{is_table-unbound}
use Rattle.sem_dtu.proofs.dtus.Dtus.unbind_all.Goals as goal

pub invariant_of-self : goal.invariant_of-self
invariant_of-self c = is_table-unbound c.args.keys.now c.self.inside.rows.items c.unbind_rows.new.rows.items c.self.invariant c.unbind_rows.ensures
