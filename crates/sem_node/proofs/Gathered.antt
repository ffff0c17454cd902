-- What kernels and their fabric are, once all passes are back.
use Rattle.std.proofs.Common.{◌≡◌, ℕ, suc, ◌+◌, ◌<◌, ◌≤◌, get_or, cond, List, [], ◌∷◌, map, length, None, refl, sym, ap, ◌∙◌, subst, arith}
use Rattle.std.specs.Prelude.{◌==◌, All}
use Rattle.std.specs.List.{range_with_len, AllZip}
use Rattle.std.specs.List.Sorted.{IsPermutation, IsNonDecreasingBy}
use Rattle.std.proofs.lemmas.List.{get_or-map}
use Rattle.std.proofs.lemmas.List.Elements.{All-nil, All-cons, All-head, All-tail}
use Rattle.std.proofs.lemmas.List.FromFn.{get_or-range_with_len}
use Rattle.std.proofs.lemmas.List.Sorted.{All-permutation, length_permutation, sum_by-IsPermutation}
use Rattle.sem_msg.specs.declared.entry.Entry.{Entry}
use Rattle.sem_msg.specs.Setup.{Setup}
use Rattle.sem_msg.specs.Journal.{part}
use Rattle.sem_msg.specs.Fabric.{FabricValue}
use Rattle.sem_machine.specs.Sides.{no_side}
use Rattle.sem_machine.specs.Sound.{IsSound}
use Rattle.sem_kernel.specs.KernelValue.{KernelValue}
use Rattle.sem_kernel.specs.Worlds.{AreKernelsOf}
use Rattle.sem_turn.specs.Passes.{PassValue, times, IsWhole}
use Rattle.sem_parts.specs.Parts.{RunsTo}
use Rattle.sem_parts.specs.SidesAfter.{AreSidesAfter}
use Rattle.sem_parts.proofs.Shapes.{stand-schedule, stand-world}
use Rattle.sem_node.specs.Running.{HasRun}
use Rattle.sem_node.specs.Ending.{HaveRun}
use Rattle.sem_node.proofs.Ordered.{numbered, same_numbers, same_length, in_order}

-- the kernel is of the setup; its part of the journal runs to its side, which is sound
record IsRun (T : Setup) (f : FabricValue) (k : KernelValue) : Type 0 where
  setup : k.setup ≡ T
  runs : RunsTo T k.id (part f.journal k.id) k.side
  sound : IsSound T k.id k.side

abbrev HasPart : List Entry → PassValue → Type 0
HasPart J p = p.entries ≡ part J p.kernel

runs-from : (T : Setup) (f : FabricValue) (ks : List KernelValue) (ps : List PassValue) → AllZip (HasRun T) ks ps → All (HasPart f.journal) ps →
    All (IsRun T f) ks
runs-from T f [] [] z parts = All-nil (IsRun T f)
runs-from T f [] (p ∷ ps) z parts = absurd z
runs-from T f (k ∷ ks) [] z parts = absurd z
runs-from T f (k ∷ ks) (p ∷ ps) z parts =
    let run = z.0 in
    let entries : p.entries ≡ part f.journal k.id = All-head (HasPart f.journal) p ps parts ∙ ap (part f.journal) (sym run.id) in
    All-cons (IsRun T f) k ks (record { setup = run.setup; runs = subst (λ (L : List Entry). RunsTo T k.id L k.side) entries run.runs; sound = run.sound })
    (runs-from T f ks ps z.1 (All-tail (HasPart f.journal) p ps parts))

-- there is a side for each kernel
sides-count : (ks : List KernelValue) → length (map (λ (k : KernelValue). k.side) ks) ≡ length ks
sides-count [] = refl
sides-count (k ∷ ks) = ap suc (sides-count ks)

from_zero : (i : ℕ) → 0 + i ≡ i
from_zero i = omega arith

-- The kernels ls, in order, each of which is what its part makes of it.
module _ (T : Setup) (ls : List KernelValue) (f : FabricValue) (whole : IsWhole T f) (count : length ls ≡ T.kernels) (order : map (λ (k : KernelValue). k.id) ls
    ≡ range_with_len 0 T.kernels) (are : All (IsRun T f) ls) where
  id-at : (i : ℕ) (d : KernelValue) → i < T.kernels → (get_or ls i d).id ≡ i
  id-at i d here =
      sym (get_or-map (λ (k : KernelValue). k.id) ls i d d.id (omega (arith, here, count)))
      ∙ (ap (λ (ns : List ℕ). get_or ns i d.id) order ∙ (get_or-range_with_len 0 T.kernels i d.id here ∙ from_zero i))

  together : AreKernelsOf T ls f
  together = record {
    many = count;
    each = λ i d here. let at = are i d (omega (arith, here, count)) in record {
      setup = at.setup;
      id = id-at i d here;
      sound = subst (λ n. IsSound T n (get_or ls i d).side) (id-at i d here) at.sound;
    };
    fabric = record { kernels = whole.agrees.same_kernels; window = whole.agrees.same_window; kills = whole.agrees.same_kills };
  }

  stand : AreSidesAfter T (map (λ (k : KernelValue). k.side) ls) f
  stand = record {
    count = sides-count ls ∙ count;
    square = whole.square;
    fabric = whole.agrees;
    runs = λ i here.
        let d : KernelValue = record { setup = T; id = 0; side = no_side; ready = None } in
        let within : i < length ls = omega (arith, here, count) in
        let at = are i d within in
        subst (RunsTo T i (part f.journal i)) (sym (get_or-map (λ (k : KernelValue). k.side) ls i d no_side within))
        (subst (λ n. RunsTo T n (part f.journal n) (get_or ls i d).side) (id-at i d here) at.runs);
  }

  have-run : HaveRun T ls f
  have-run = record {
    together = together;
    parts = stand;
    schedule = stand-schedule T (map (λ (k : KernelValue). k.side) ls) f stand;
    world = sym (stand-world T (map (λ (k : KernelValue). k.side) ls) f stand);
  }

-- the kernels ks came out of their locks with the passes ps, of which each kernel has one with its part; ls are they in order
pub gathered : (T : Setup) (ks ls : List KernelValue) (ps : List PassValue) (f : FabricValue) → AllZip (HasRun T) ks ps → length ps ≡ T.kernels → IsWhole T f
    → All (λ (p : PassValue). p.entries ≡ part f.journal p.kernel) ps → ((k : ℕ) → k < T.kernels → times k ps ≡ 1)
    → IsPermutation ks ls → IsNonDecreasingBy (λ (k : KernelValue). k.id) ls → HaveRun T ls f
gathered T ks ls ps f zipped many whole parts once same sorted =
    let count : length ls ≡ T.kernels = length_permutation ks ls same ∙ (same_length T ks ps zipped ∙ many) in
    let each : (k : ℕ) → 0 ≤ k → k < 0 + length ls → numbered k ls ≡ 1 = λ k _ lt. sum_by-IsPermutation (λ (x : KernelValue). cond (x.id == k) 1 0) ks ls same
    ∙ (same_numbers T k ks ps zipped ∙ once k (omega (arith, lt, count))) in
    have-run T ls f whole count (in_order 0 ls sorted each (λ k lt. absurd (omega (arith, lt))) ∙ ap (range_with_len 0) count)
    (All-permutation (IsRun T f) ks ls same (runs-from T f ks ps zipped parts))
