use Rattle.std.proofs.Common.{ℕ, ◌≤◌, ◌<◌}
use Rattle.sem_query.specs.Denials.{IsCallAt}
use Rattle.sem_query.proofs.settling.last_call.Given as goal

-- none of the later entries is a call of the VPE
abbrev pub invariant-loop-place : goal.invariant-loop-place
invariant-loop-place l = record {
  by_then : l.place ≤ l.n;
  later : (m : ℕ) → l.place < m → m ≤ l.n → ¬ IsCallAt l.journal.entries l.vpe m;
}

abbrev pub decreases-loop-place : goal.decreases-loop-place
decreases-loop-place l = l.place
