use Rattle.std.proofs.Common.{◌≡◌, ◌++◌, map, take, drop, length}
use Rattle.sem_msg.specs.EndpointRows.{unbound_from}
use Rattle.sem_dtu.specs.declared.row.Row.{Row}
use Rattle.sem_dtu.proofs.dtus.unbind_rows.Given as goal

-- the rows so far are not bound to the keys, and the others are as they were
abbrev pub invariant-loop-row : goal.invariant-loop-row
invariant-loop-row l =
    let before = map (λ (r : Row). r.endpoints.items) l.initial.row-items in
    record {
      ours : map (λ (r : Row). r.is_ours) l.row-items ≡ map (λ (r : Row). r.is_ours) l.initial.row-items;
      rows : map (λ (r : Row). r.endpoints.items) l.row-items ≡ map (λ es. map (unbound_from l.keys) es) (take l.row-index before) ++ drop l.row-index before;
      long : length l.row-items ≡ length l.initial.row-items;
    }
