-- What the calls of the stores want of a sound side: ids, calls and counts that fit.
use Rattle.std.proofs.Common.{◌≡◌, ℕ, ◌<◌, ◌≤◌, [], length, Option, Some, None, refl, arith}
use Rattle.std.specs.Prelude.{◌==◌}
use Rattle.std.specs.Option.{option_map_or}
use Rattle.sem_msg.specs.declared.setup.VpeDecl.{VpeDecl}
use Rattle.sem_msg.specs.Setup.{Setup, IsSetup, call_count}
use Rattle.sem_msg.specs.Lookups.{decl}
use Rattle.sem_machine.specs.Sound.{IsSound}
use Rattle.sem_machine.specs.Sides.{Side, row}
use Rattle.sem_key.proofs.Members.{found}
use Rattle.sem_machine.proofs.Weighing.{weigh-among}
use Rattle.sem_sound.proofs.Opening.{next-job}

module _ (T : Setup) (valid : IsSetup T) (i : ℕ) (few : i < T.kernels) (s : Side) (is : IsSound T i s) where
  pub ids-fit : s.next_job < 4294967295
  ids-fit = let small = next-job T valid i None None None None s is in omega (arith, small)

  pub calls-fit : (v : ℕ) → (row s v).next_call < 4294967295
  calls-fit v =
      let most = (is.rows v).next_call in
      let all = from (decl T v) refl in
      let bound = valid.few_calls in
      omega (arith, most, all, bound)
    where
      from : (o : Option VpeDecl) → decl T v ≡ o → length (option_map_or (λ d. d.calls) o []) ≤ call_count T
      from None none = omega arith
      from (Some d) there = weigh-among (λ (x : VpeDecl). length x.calls) T.vpes d (found (λ (x : VpeDecl). x.vpe == v) T.vpes d there).0
