use Rattle.std.proofs.Common.{◌≡◌, take}
use Rattle.sem_trace.proofs.forms.is.Given as goal

-- the bytes so far are the same
abbrev pub invariant-loop-place : goal.invariant-loop-place
invariant-loop-place l = take l.place l.word ≡ take l.place l.name
