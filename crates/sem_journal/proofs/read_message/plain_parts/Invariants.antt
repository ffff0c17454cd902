use Rattle.std.proofs.Common.{◌≡◌, length}
use Rattle.sem_journal.proofs.PartSteps.{PartsRead}
use Rattle.sem_journal.proofs.read_message.plain_parts.Given as goal

-- the parts so far are read
abbrev pub invariant-loop-place : goal.invariant-loop-place
invariant-loop-place l = record {
  four : length l.values ≡ 4;
  read : PartsRead l.version l.parts l.place l.values l.fn.words l.words;
}
