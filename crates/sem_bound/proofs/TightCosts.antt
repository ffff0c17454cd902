-- Each cost is reached: a schedule of eleven calls and one kill, with as many entries as they can bring.
use Rattle.std.proofs.Common.{◌≡◌, ◌≢◌, ℕ, zero, suc, ◌+◌, ◌<◌, true, [], ◌∷◌, length, Option, Some, None}
use Rattle.std.proofs.Common.{get_or, replicate, refl, subst, inr, arith, rules, IsSome}
use Rattle.std.specs.List.{All, AllPairs}
use Rattle.std.proofs.lemmas.List.Elements.{All-cons, All-nil}
use Rattle.sem_key.specs.Lists.{put, in_turn}
use Rattle.sem_key.specs.Region.{grow}
use Rattle.sem_msg.specs.declared.call.Call.{Call}
use Rattle.sem_msg.specs.declared.setup.Root.{Root}
use Rattle.sem_msg.specs.declared.setup.VpeDecl.{VpeDecl}
use Rattle.sem_msg.specs.Calls.{IsValidCall, IsWord}
use Rattle.sem_msg.specs.Setup.{IsSetup, IsRoot, IsVpeDecl, IsOffer, services_from, IsDeclared, kill_count}
use Rattle.sem_machine.specs.Steps.{unless}
use Rattle.sem_machine.specs.Revokes.{finish, closed_here, opened}
use Rattle.sem_machine.specs.Ends.{ended}
use Rattle.sem_machine.specs.Calls.{call_row}
use Rattle.sem_machine.specs.Upcalls.{upcall_row}
use Rattle.sem_machine.specs.Handles.{handle_row}
use Rattle.sem_machine.specs.Resumes.{resume_row}
use Rattle.sem_machine.specs.Machine.{start_side, start, local_step, local_entry, is_locally_enabled, is_enabled}
use Rattle.sem_machine.specs.Machine.{enabled, after, entry_of}
use Rattle.sem_machine.specs.Schedules.{IsSchedule}
use Rattle.sem_safety.specs.Walks.{walked, all_enabled}
use Rattle.sem_safety.proofs.Walking.{journal-schedule, one-pair}
use Rattle.sem_bound.specs.Counts.{kills_made}
use Rattle.sem_bound.specs.Costs.{costs_made, each_declared, costs_declared}
use Rattle.sem_bound.specs.EachCost.{memory, service, serving_vpe, neighbour, stranger, each_owner, each_cost}
use Rattle.sem_bound.specs.EachCost.{each_cost_events}
use Rattle.sem_bound.specs.EachCost.{each_cost_journal}

each-enabled : all_enabled each_cost (start each_cost) each_cost_events ≡ true
unfolding each_cost each_cost_events all_enabled put in_turn unless services_from grow closed_here finish opened ended
    call_row upcall_row handle_row resume_row start_side start local_step local_entry is_locally_enabled is_enabled
    enabled after entry_of
each-enabled = refl

each-counts : (length each_cost_journal ≡ 91) × (costs_made each_cost each_cost_journal ≡ 90) ×
    (kills_made each_cost_journal ≡ 1)
unfolding each_cost each_cost_events walked put in_turn unless services_from grow closed_here finish opened ended
    call_row upcall_row handle_row resume_row start_side start local_step local_entry is_locally_enabled is_enabled
    enabled after entry_of
each-counts = (refl, refl, refl)

pub each-schedule : IsSchedule each_cost each_cost_journal
each-schedule = journal-schedule each_cost each_cost_events each-enabled

pub each-made : length each_cost_journal ≡ costs_made each_cost each_cost_journal + kills_made each_cost_journal
each-made = let n = each-counts.0 in let c = each-counts.1 in let d = each-counts.2 in omega (arith, n, c, d)

-- the costs of the calls, VPE by VPE
pub each-kinds : each_declared each_cost ≡ 3 ∷ 21 ∷ 1 ∷ 3 ∷ 3 ∷ 1 ∷ 2 ∷ 2 ∷ 18 ∷ 18 ∷ 18 ∷ []
unfolding each_cost
each-kinds = refl

pub each-all : length each_cost_journal ≡ costs_declared each_cost + kill_count each_cost
unfolding each_cost
each-all = let n = each-counts.0 in n

-- The setup.

no_owner : (n pe : ℕ) → get_or {A = Option ℕ} (replicate n None) pe None ≡ None
no_owner zero pe = refl
no_owner (suc n) zero = refl
no_owner (suc n) (suc pe) = no_owner n pe

owner_exists : (pe kernel : ℕ) → get_or each_owner pe None ≡ Some kernel → kernel < 2
owner_exists zero kernel owned = let same : 0 ≡ kernel = cc in omega arith
owner_exists (suc zero) kernel owned = let same : 0 ≡ kernel = cc in omega arith
owner_exists (suc (suc zero)) kernel owned = let same : 1 ≡ kernel = cc in omega arith
owner_exists (suc (suc (suc pe))) kernel owned = let none = no_owner 125 pe in absurd (cc)

owned_first : (pe : ℕ) → IsSome (get_or each_owner pe None) → pe < 128
owned_first zero some = omega arith
owned_first (suc zero) some = omega arith
owned_first (suc (suc zero)) some = omega arith
owned_first (suc (suc (suc pe))) some = absurd (nobody (subst IsSome (no_owner 125 pe) some))
  where
    nobody : IsSome {T = ℕ} None → ⊥
    nobody some = absurd cc

three-pairs : {X : Type 0} (S : X → X → Type 0) (a b c : X) → S a b → S a c → S b c → AllPairs S (a ∷ b ∷ c ∷ [])
three-pairs S a b c ab ac bc zero zero d lt within = absurd (omega (arith, lt))
three-pairs S a b c ab ac bc zero (suc zero) d lt within = ab
three-pairs S a b c ab ac bc zero (suc (suc zero)) d lt within = ac
three-pairs S a b c ab ac bc zero (suc (suc (suc j))) d lt within = absurd (omega (arith, within))
three-pairs S a b c ab ac bc (suc i) zero d lt within = absurd (omega (arith, lt))
three-pairs S a b c ab ac bc (suc i) (suc j) d lt within =
    one-pair S b c bc i j d (omega (arith, lt)) (omega (arith, within))

abbrev IsCall : Call → Type 0
IsCall c = IsValidCall 128 c

server-calls : All IsCall serving_vpe.calls
server-calls zero d lt = search rules
server-calls (suc zero) d lt = search rules
server-calls (suc (suc zero)) d lt = search rules
server-calls (suc (suc (suc k))) d lt = absurd (omega (arith, lt))

neighbour-calls : All IsCall neighbour.calls
neighbour-calls zero d lt = search rules
neighbour-calls (suc zero) d lt = search rules
neighbour-calls (suc (suc zero)) d lt = search rules
neighbour-calls (suc (suc (suc zero))) d lt = search rules
neighbour-calls (suc (suc (suc (suc zero)))) d lt = search rules
neighbour-calls (suc (suc (suc (suc (suc k))))) d lt = absurd (omega (arith, lt))

stranger-calls : All IsCall stranger.calls
stranger-calls zero d lt = search rules
stranger-calls (suc zero) d lt = search rules
stranger-calls (suc (suc zero)) d lt = search rules
stranger-calls (suc (suc (suc k))) d lt = absurd (omega (arith, lt))

server-roots : All IsRoot serving_vpe.roots
server-roots =
    All-cons IsRoot memory (service ∷ []) (record { selector = omega arith; kind = tt; ranges = search rules })
    (All-cons IsRoot service [] (record { selector = omega arith; kind = tt; ranges = search rules })
    (All-nil IsRoot))

is_server : IsVpeDecl each_cost serving_vpe
unfolding each_cost
is_server = record {
  vpe = omega arith;
  pe = omega arith;
  owned = search rules;
  selectors_differ = one-pair (λ (a b : Root). a.sel ≢ b.sel) memory service (λ same. omega (arith, same));
  roots = server-roots;
  calls = server-calls;
}

is_neighbour : IsVpeDecl each_cost neighbour
unfolding each_cost
is_neighbour = record {
  vpe = omega arith;
  pe = omega arith;
  owned = search rules;
  selectors_differ = λ i j d lt within. absurd (omega arith);
  roots = All-nil IsRoot;
  calls = neighbour-calls;
}

is_stranger : IsVpeDecl each_cost stranger
unfolding each_cost
is_stranger = record {
  vpe = omega arith;
  pe = omega arith;
  owned = search rules;
  selectors_differ = λ i j d lt within. absurd (omega arith);
  roots = All-nil IsRoot;
  calls = stranger-calls;
}

pub each-setup : IsSetup each_cost
unfolding each_cost services_from
each-setup = record {
  versioned = inr refl;
  windowed = (omega arith, omega arith);
  some_kernel = omega arith;
  few_kernels = omega arith;
  membership = record {
    some_kernel = omega arith;
    few_kernels = omega arith;
    all_pes = refl;
    owners_exist =
        owner_exists;
  };
  same_kernels = refl;
  owned_pes = owned_first;
  vpes = All-cons (IsVpeDecl each_cost) serving_vpe (neighbour ∷ stranger ∷ []) is_server
      (All-cons (IsVpeDecl each_cost) neighbour (stranger ∷ []) is_neighbour
      (All-cons (IsVpeDecl each_cost) stranger [] is_stranger (All-nil (IsVpeDecl each_cost))));
  vpes_rise = three-pairs (λ (a b : VpeDecl). a.vpe < b.vpe) serving_vpe neighbour stranger (omega arith) (omega arith)
      (omega arith);
  pes_differ = three-pairs (λ (a b : VpeDecl). a.pe ≢ b.pe) serving_vpe neighbour stranger (λ same. omega (arith, same))
      (λ same. omega (arith, same)) (λ same. omega (arith, same));
  services_rise = λ i j d lt within. absurd (omega arith);
  services = λ s. (λ h. h, λ h. h);
  offers = All-cons (IsOffer each_cost) (record { name = 1; index = 0; sel = 0 }) []
      (record { index = omega arith; selector = omega arith; declared = search rules }) (All-nil (IsOffer each_cost));
  offers_rise = λ i j d lt within. absurd (omega arith);
  denies = λ k d lt. absurd (omega arith);
  denies_rise = λ i j d lt within. absurd (omega arith);
  kills = All-cons (λ (k : ℕ × ℕ). IsDeclared each_cost k.0 × IsWord k.1) (2, 1) [] (search rules, search rules)
      (All-nil (λ (k : ℕ × ℕ). IsDeclared each_cost k.0 × IsWord k.1));
  kills_rise = λ i j d lt within. absurd (omega arith);
  few_calls = omega arith;
}
