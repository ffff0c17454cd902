use Rattle.std.proofs.Common.{◌≡◌, ◌+◌, ◌*◌, ◌≤◌, ◌++◌, map, take}
use Rattle.std.specs.Prelude.{decimal}
use Rattle.std.specs.Vec.{vec_len, vec_capacity}
use Rattle.sem_text.specs.Lines.{behind_blanks}
use Rattle.sem_trace.proofs.put.put_numbers.Given as goal

-- the numbers so far were appended
abbrev pub invariant-loop-value : goal.invariant-loop-value
invariant-loop-value l = record {
  items : l.out.items ≡ l.initial.out.items ++ behind_blanks (map decimal (take l.value-index l.values));
  len : vec_len l.out ≤ vec_len l.initial.out + 11 * l.value-index;
  capacity : vec_capacity l.out ≡ vec_capacity l.initial.out;
}
