use Rattle.std.proofs.Common.{◌≡◌, ◌+◌, ◌-◌, ◌≤◌, length, take, vec_len, vec_capacity}
use Rattle.sem_mark.specs.Walks.{Walk, unmarked_count, children_at, IsWalk}
use Rattle.std.specs.List.{All, flat_map}
use Rattle.sem_key.specs.KeyName.{IsValidKey}
use Rattle.sem_mark.proofs.region.walk_region.Given as goal

abbrev pub decreases-loop-at : goal.decreases-loop-at
decreases-loop-at l = length l.fn.caps.caps - l.at

-- the children of the first keys were reached
abbrev pub invariant-loop-at : goal.invariant-loop-at
invariant-loop-at l =
    let now : Walk = record { caps = l.caps.caps; keys = l.keys.items } in
    record {
      walk : IsWalk l.fn.caps.caps l.fn.root l.job now l.at;
      rest : l.caps ≡ record l.fn.caps { caps = l.caps.caps };
      room : vec_len l.keys + unmarked_count l.caps.caps ≤ length l.fn.caps.caps;
      links : l.links.items ≡ flat_map (children_at l.fn.caps.caps) (take l.at l.keys.items);
      valid : All IsValidKey l.links.items;
      link_capacity : vec_capacity l.links ≡ vec_capacity l.fn.links;
      capacity : vec_capacity l.keys ≡ vec_capacity l.fn.keys;
      within : l.at ≤ length l.keys.items;
    }
