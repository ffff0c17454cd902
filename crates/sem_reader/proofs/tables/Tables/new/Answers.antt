use Rattle.std.proofs.Common.{length, ap, refl}
use Rattle.sem_key.specs.MembershipTable.{MembershipTable}
use Rattle.sem_reader.proofs.Empty.{tells_nothing, size}
use Rattle.sem_reader.proofs.tables.Tables.new.Goals as goal

pub returns-clause-tells : goal.returns-clause-tells
returns-clause-tells c =
    tells_nothing _ 128 128 128 128 128 256 128 refl refl c.empty.ensures.empty refl refl c.in_ok-no_roots.ensures c.in_ok-no_calls.ensures refl refl
    c.new.ensures.empty c.new-2.ensures.empty refl

pub returns-clause-sizes : goal.returns-clause-sizes
returns-clause-sizes c = record {
  owners = ap (λ (m : MembershipTable). length m.owners) c.empty.ensures.empty;
  roots = size _ 128 _ c.in_ok-no_roots.ensures;
  calls = size _ 128 _ c.in_ok-no_calls.ensures;
}
