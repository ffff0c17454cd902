use Rattle.std.proofs.Common.{◌≡◌, ◌++◌, ◌+◌, ◌≤◌, List, take, vec_len, vec_capacity}
use Rattle.sem_key.specs.KeyName.{KeyName, IsValidKey}
use Rattle.std.specs.List.{All}
use Rattle.sem_key.specs.Lists.{in_turn}
use Rattle.sem_mark.specs.Walks.{Walk, children_at, unmarked_count, reach}
use Rattle.sem_mark.proofs.region.reach_children.Given as goal

-- the first children were reached
abbrev pub invariant-loop-at : goal.invariant-loop-at
invariant-loop-at l =
    let children : List KeyName = children_at l.fn.caps.caps l.parent in
    let before : Walk = record { caps = l.fn.caps.caps; keys = l.fn.keys.items } in
    let now : Walk = record { caps = l.caps.caps; keys = l.keys.items } in
    record {
      walk : now ≡ in_turn (reach l.job) (take l.at children) before;
      same : children_at l.caps.caps l.parent ≡ children;
      rest : l.caps ≡ record l.fn.caps { caps = l.caps.caps };
      room : vec_len l.keys + unmarked_count l.caps.caps ≤ vec_len l.fn.keys + unmarked_count l.fn.caps.caps;
      links : l.links.items ≡ l.fn.links.items ++ take l.at children;
      valid : All IsValidKey l.fn.links.items → All IsValidKey l.links.items;
      link_capacity : vec_capacity l.links ≡ vec_capacity l.fn.links;
      capacity : vec_capacity l.keys ≡ vec_capacity l.fn.keys;
    }
