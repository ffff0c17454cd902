use Rattle.std.proofs.Common.{◌≡◌, ◌≤◌, true, take}
use Rattle.sem_text.specs.Number.{is_number, number_value}
use Rattle.sem_text.proofs.numbers.long_number.Given as goal

-- the value of the digits so far, which is in range
abbrev pub invariant-loop-byte : goal.invariant-loop-byte
invariant-loop-byte l = record {
  number : is_number l.word ≡ true;
  so_far : l.value ≡ number_value (take l.byte-index l.word);
  within : l.value ≤ l.most;
}
