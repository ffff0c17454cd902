-- Calls drawn one after another.
use Rattle.std.specs.Prelude.{ℕ, List, map}
use Rattle.std.specs.List.{range_with_len}
use Rattle.rand_pcg.specs.Lcg.{Lcg}
use Rattle.sem_msg.specs.declared.call.Call.{Call}
use Rattle.sem_gen.specs.Generated.{drawn_word, call_of}

-- the calls of n words of a generator, from one of its words on, in a setup with that many VPEs
abbrev pub drawn_calls : Lcg → ℕ → ℕ → ℕ → List Call
drawn_calls g vpes first n = map (λ m. call_of vpes (drawn_word g m)) (range_with_len first n)
