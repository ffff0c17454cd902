use Rattle.std.proofs.Common.{◌≡◌}
use Rattle.rand_pcg.specs.Lcg.{advance}
use Rattle.rand_pcg.specs.Pcg.{multiplier_64}
use Rattle.sem_gen.specs.Drawn.{drawn_calls}
use Rattle.sem_gen.proofs.calls.draw_calls.Given as goal

-- the first words are drawn
abbrev pub invariant-loop-place : goal.invariant-loop-place
invariant-loop-place l = record {
  words : l.words ≡ advance 64 multiplier_64 l._place l.initial.words;
  list : l.list ≡ drawn_calls l.initial.words l.vpes 0 l._place;
}
