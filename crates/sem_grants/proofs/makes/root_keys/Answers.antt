use Rattle.std.proofs.Common.{length, ap, arith}
use Rattle.sem_grants.proofs.Roots.{few_declared}
use Rattle.sem_grants.proofs.makes.root_keys.Goals as goal

-- a VPE has at most as many roots as selectors
pub push_roots-requires-clause-few : goal.push_roots-requires-clause-few
push_roots-requires-clause-few c = few_declared _ c.loop-decl.decl-index c.decl-item.result c.setup.invariant
    (omega (arith, ap length c.as_slice-decl-items.ensures)) (rw c.as_slice-decl-items.ensures at c.decl-item.is)
