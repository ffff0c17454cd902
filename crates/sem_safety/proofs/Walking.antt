-- Events that are enabled in their turn make a schedule; and two kernels with a VPE each are a setup.
use Rattle.std.proofs.Common.{◌≡◌, refl, ℕ, zero, suc, ◌+◌, ◌<◌, ◌≤◌, true, List, [], ◌∷◌, length, Option, Some, None, replicate, get_or, sym, ap, subst, arith}
use Rattle.std.proofs.Common.{rules, inr, IsSome}
use Rattle.std.specs.List.{slice_set, All, AllPairs}
use Rattle.std.specs.Prelude.{◌≢◌}
use Rattle.std.proofs.lemmas.Bool.{and_parts}
use Rattle.std.proofs.lemmas.List.Elements.{All-cons, All-nil}
use Rattle.sem_key.specs.declared.limits.TheConstants.{PES}
use Rattle.sem_msg.specs.declared.limits.TheConstants.{CALLS}
use Rattle.sem_msg.specs.declared.call.Call.{Call}
use Rattle.sem_msg.specs.declared.event.Event.{Event}
use Rattle.sem_msg.specs.Calls.{IsValidCall, IsWord}
use Rattle.sem_msg.specs.declared.setup.VpeDecl.{VpeDecl}
use Rattle.sem_msg.specs.Setup.{Setup, IsSetup, IsRoot, IsVpeDecl, services_from, IsDeclared}
use Rattle.sem_machine.specs.Machine.{World, start, is_enabled, after, entry_of}
use Rattle.sem_machine.specs.Schedules.{IsRun, IsSchedule}
use Rattle.sem_machine.proofs.Pushing.{entry_of-event}
use Rattle.sem_safety.specs.Walks.{walked, all_enabled, journal_of, the_root, first_vpe, second_vpe, pair}

walked-runs : (T : Setup) (W : World) (es : List Event) → all_enabled T W es ≡ true → IsRun T W (walked T W es)
unfolding IsRun walked all_enabled
walked-runs T W [] all = tt
walked-runs T W (e ∷ es) all =
    let parts = and_parts (is_enabled T W e) (all_enabled T (after T W e) es) all in
    let same : (entry_of T W e).event ≡ e = entry_of-event T W e in (
      subst (λ f. is_enabled T W f ≡ true) (sym same) parts.0,
      ap (entry_of T W) (sym same),
      subst (λ f. IsRun T (after T W f) (walked T (after T W e) es)) (sym same) (walked-runs T (after T W e) es parts.1),
    )

pub journal-schedule : (T : Setup) (es : List Event) → all_enabled T (start T) es ≡ true → IsSchedule T (journal_of T es)
journal-schedule T es all = walked-runs T (start T) es all

-- The setup.
no_owner : (n pe : ℕ) → get_or {A = Option ℕ} (replicate n None) pe None ≡ None
no_owner zero pe = refl
no_owner (suc n) zero = refl
no_owner (suc n) (suc pe) = no_owner n pe

abbrev owners : List (Option ℕ)
owners = slice_set (slice_set (replicate PES None) 0 (Some 0)) 1 (Some 1)

owner_exists : (pe kernel : ℕ) → get_or owners pe None ≡ Some kernel → kernel < 2
owner_exists zero kernel owned = let same : 0 ≡ kernel = cc in omega arith
owner_exists (suc zero) kernel owned = let same : 1 ≡ kernel = cc in omega arith
owner_exists (suc (suc pe)) kernel owned = let none = no_owner 126 pe in absurd (cc)

owned_first : (pe : ℕ) → IsSome (get_or owners pe None) → pe < 128
owned_first zero some = omega arith
owned_first (suc zero) some = omega arith
owned_first (suc (suc pe)) some = absurd (nobody (subst IsSome (no_owner 126 pe) some))
  where
    nobody : IsSome {T = ℕ} None → ⊥
    nobody some = absurd cc

pub one-pair : {X : Type 0} (S : X → X → Type 0) (a b : X) → S a b → AllPairs S (a ∷ b ∷ [])
one-pair S a b here zero zero d lt within = absurd (omega (arith, lt))
one-pair S a b here zero (suc zero) d lt within = here
one-pair S a b here zero (suc (suc j)) d lt within = absurd (omega (arith, within))
one-pair S a b here (suc i) zero d lt within = absurd (omega (arith, lt))
one-pair S a b here (suc i) (suc zero) d lt within = absurd (omega (arith, lt))
one-pair S a b here (suc i) (suc (suc j)) d lt within = absurd (omega (arith, within))

module _ (calls calls' : List Call) (kills : List (ℕ × ℕ)) (valid : All (IsValidCall 128) calls) (valid' : All (IsValidCall 128) calls') where
  is_first : IsVpeDecl (pair calls calls' kills) (first_vpe calls)
  unfolding pair
  is_first = record {
    vpe = omega arith;
    pe = omega arith;
    owned = search rules;
    selectors_differ = λ i j d lt within. absurd (omega arith);
    roots = All-cons IsRoot the_root [] (record { selector = omega arith; kind = tt; ranges = search rules }) (All-nil IsRoot);
    calls = valid;
  }

  is_second : IsVpeDecl (pair calls calls' kills) (second_vpe calls')
  unfolding pair
  is_second = record {
    vpe = omega arith;
    pe = omega arith;
    owned = search rules;
    selectors_differ = λ i j d lt within. absurd (omega arith);
    roots = All-nil IsRoot;
    calls = valid';
  }

  pub pair-setup : length calls + length calls' ≤ CALLS → All (λ (k : ℕ × ℕ). IsDeclared (pair calls calls' kills) k.0 × IsWord k.1) kills →
      AllPairs (λ (a b : ℕ × ℕ). a.0 < b.0) kills → IsSetup (pair calls calls' kills)
  unfolding pair services_from
  pair-setup few declared rise = record {
    versioned = inr refl;
    windowed = (omega arith, omega arith);
    some_kernel = omega arith;
    few_kernels = omega arith;
    membership = record { some_kernel = omega arith; few_kernels = omega arith; all_pes = refl; owners_exist = owner_exists };
    same_kernels = refl;
    owned_pes = owned_first;
    vpes = All-cons (IsVpeDecl (pair calls calls' kills)) (first_vpe calls) (second_vpe calls' ∷ []) is_first
        (All-cons (IsVpeDecl (pair calls calls' kills)) (second_vpe calls') [] is_second (All-nil (IsVpeDecl (pair calls calls' kills))));
    vpes_rise = one-pair (λ (a b : VpeDecl). a.vpe < b.vpe) (first_vpe calls) (second_vpe calls') (omega arith);
    pes_differ = one-pair (λ (a b : VpeDecl). a.pe ≢ b.pe) (first_vpe calls) (second_vpe calls') (λ same. omega (arith, same));
    services_rise = λ i j d lt within. absurd (omega arith);
    services = λ s. (λ h. h, λ h. h);
    offers = λ k d lt. absurd (omega arith);
    offers_rise = λ i j d lt within. absurd (omega arith);
    denies = λ k d lt. absurd (omega arith);
    denies_rise = λ i j d lt within. absurd (omega arith);
    kills = declared;
    kills_rise = rise;
    few_calls = omega (arith, few);
  }
