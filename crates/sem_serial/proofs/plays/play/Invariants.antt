use Rattle.std.proofs.Common.{◌≡◌, []}
use Rattle.sem_serial.proofs.Played.{IsPlaying}
use Rattle.sem_serial.proofs.plays.play.Given as goal

-- the first events happened, and no entry was handed over yet
abbrev pub invariant-loop-at : goal.invariant-loop-at
invariant-loop-at l = IsPlaying l.setup l.events l.world l.played.entries l.at × (l.journal.entries ≡ [])
