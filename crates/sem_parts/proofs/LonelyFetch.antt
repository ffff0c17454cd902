-- A fetch that brings nothing.
use Rattle.std.proofs.Common.{◌≡◌, ℕ, zero, suc, true, false, cond, List, [], replicate, get_or, ◌∷◌, ◌++◌, Option, None, Some, refl, sym, ◌∙◌, ap, subst, inl}
use Rattle.std.proofs.Common.{arith}
use Rattle.std.specs.Prelude.{◌==◌, IsSome}
use Rattle.std.proofs.lemmas.Bool.{false≢true}
use Rattle.sem_msg.specs.declared.message.Message.{Message}
use Rattle.sem_msg.specs.declared.event.Act.TheVariants.{Fetch}
use Rattle.sem_msg.specs.declared.entry.Detail.TheVariants.{Nothing}
use Rattle.sem_msg.specs.declared.entry.Entry.{Entry}
use Rattle.sem_msg.specs.Setup.{IsSetup, services_from}
use Rattle.sem_msg.specs.Journal.{Agrees}
use Rattle.sem_machine.specs.Machine.{start, event, is_enabled, start_side, is_locally_enabled, local_entry}
use Rattle.sem_machine.specs.Schedules.{IsRun, IsSchedule}
use Rattle.sem_key.specs.Lists.{in_turn}
use Rattle.sem_parts.specs.Lonely.{lonely}
use Rattle.sem_msg.proofs.Moves.{takes, flushed-snoc, fetched-snoc}
use Rattle.sem_msg.proofs.Agreeing.{agrees-none, agrees-snoc}
use Rattle.sem_msg.proofs.Entering.{nothing, not-kill}

abbrev pub idle_fetch : Entry
idle_fetch = local_entry lonely 0 (start_side lonely 0) (Fetch 1) None

pub idle-agrees : Agrees lonely (idle_fetch ∷ [])
unfolding local_entry
idle-agrees = agrees-snoc lonely [] idle_fetch (agrees-none lonely)
    (λ i j. record {
      rest = [];
      begins = flushed-snoc [] idle_fetch i j ∙ sym (ap (λ l. l ++ []) (fetched-snoc [] idle_fetch i j ∙ taken i j));
      few = omega arith;
    })
    (not-kill lonely [] idle_fetch (λ v same. absurd cc))
  where
    taken : (i j : ℕ) → takes 0 (Fetch 1) Nothing i j ≡ []
    taken i j = ap (λ (l : List Message). cond (1 == i) l []) (nothing (0 == j)) ∙ nothing (1 == i)

pub idle-enabled : is_locally_enabled lonely 0 (start_side lonely 0) (Fetch 1) ≡ true
unfolding lonely in_turn start_side is_locally_enabled
idle-enabled = refl

refuses : is_enabled lonely (start lonely) (event 0 (Fetch 1)) ≡ false
unfolding lonely in_turn start_side start is_locally_enabled is_enabled
refuses = refl

idle-event : idle_fetch.event ≡ event 0 (Fetch 1)
unfolding local_entry
idle-event = refl

pub idle-refused : IsSchedule lonely (idle_fetch ∷ []) → ⊥
unfolding IsRun
idle-refused (enabled, made, rest) = false≢true (sym refuses ∙ (ap (is_enabled lonely (start lonely)) (sym idle-event) ∙ enabled))

pub lonely-valid : IsSetup lonely
unfolding lonely services_from
lonely-valid = record {
  versioned = inl refl;
  windowed = (omega arith, omega arith);
  some_kernel = omega arith;
  few_kernels = omega arith;
  membership = record {
    some_kernel = omega arith;
    few_kernels = omega arith;
    all_pes = refl;
    owners_exist = λ pe kernel owned. let none : None ≡ Some kernel =
        sym (no_owner 128 pe) ∙ owned in absurd cc;
  };
  same_kernels = refl;
  owned_pes = λ pe owned. absurd (false≢true (subst IsSome (no_owner 128 pe) owned));
  vpes = λ k d lt. absurd (omega arith);
  vpes_rise = λ i j d lt within. absurd (omega arith);
  pes_differ = λ i j d lt within. absurd (omega arith);
  services_rise = λ i j d lt within. absurd (omega arith);
  services = λ s. (λ h. h, λ h. h);
  offers = λ k d lt. absurd (omega arith);
  offers_rise = λ i j d lt within. absurd (omega arith);
  denies = λ k d lt. absurd (omega arith);
  denies_rise = λ i j d lt within. absurd (omega arith);
  kills = λ k d lt. absurd (omega arith);
  kills_rise = λ i j d lt within. absurd (omega arith);
  few_calls = omega arith;
}
  where
    no_owner : (n pe : ℕ) → get_or {A = Option ℕ} (replicate n None) pe None ≡ None
    no_owner zero pe = refl
    no_owner (suc n) zero = refl
    no_owner (suc n) (suc pe) = no_owner n pe
