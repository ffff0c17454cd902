use Rattle.std.proofs.Common.{◌≡◌, ◌+◌, length}
use Rattle.sem_trace.specs.TextLines.{words_of}
use Rattle.sem_trace.proofs.cursor.word_count.Given as goal

-- the words so far and those that are left are all
abbrev pub invariant-loop-behind : goal.invariant-loop-behind
invariant-loop-behind l = l.number + length (words_of l.rest) ≡ length (words_of l.line)

abbrev pub decreases-loop-behind : goal.decreases-loop-behind
decreases-loop-behind l = length (words_of l.rest)
