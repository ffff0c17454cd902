use Rattle.std.proofs.Common.{◌≡◌, ◌*◌, map}
use Rattle.std.specs.List.{range_with_len}
use Rattle.rand_pcg.specs.Lcg.{advance}
use Rattle.rand_pcg.specs.Pcg.{multiplier_64}
use Rattle.sem_gen.specs.Generated.{vpe_of}
use Rattle.sem_pick.specs.Seeds.{generator_of}
use Rattle.sem_gen.proofs.setups.declare.Given as goal

-- the first VPEs are declared, and their words are drawn
abbrev pub invariant-loop-vpe : goal.invariant-loop-vpe
invariant-loop-vpe l = record {
  words : l.words ≡ advance 64 multiplier_64 (l.vpe * l.calls) (generator_of l.seed);
  list : l.list ≡ map (vpe_of l.seed l.vpes l.calls) (range_with_len 0 l.vpe);
}
