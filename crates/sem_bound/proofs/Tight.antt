-- The bound is reached: a schedule of one call and two kills has 23 entries.
use Rattle.std.proofs.Common.{◌≡◌, ℕ, ◌+◌, ◌*◌, ◌<◌, true, [], ◌∷◌, length, refl, arith, rules}
use Rattle.std.proofs.lemmas.List.Elements.{All-cons, All-nil}
use Rattle.sem_key.specs.Lists.{put, in_turn}
use Rattle.sem_key.specs.Region.{grow}
use Rattle.sem_msg.specs.declared.call.Call.TheVariants.{Delegate}
use Rattle.sem_msg.specs.Calls.{IsValidCall, IsWord}
use Rattle.sem_msg.specs.Setup.{IsSetup, services_from, IsDeclared}
use Rattle.sem_machine.specs.Steps.{unless}
use Rattle.sem_machine.specs.Revokes.{finish, closed_here, opened}
use Rattle.sem_machine.specs.Ends.{ended}
use Rattle.sem_machine.specs.Calls.{call_row}
use Rattle.sem_machine.specs.Upcalls.{upcall_row}
use Rattle.sem_machine.specs.Handles.{handle_row}
use Rattle.sem_machine.specs.Resumes.{resume_row}
use Rattle.sem_machine.specs.Machine.{start_side, start, local_step, local_entry, is_locally_enabled, is_enabled}
use Rattle.sem_machine.specs.Machine.{enabled, after, entry_of}
use Rattle.sem_machine.specs.Schedules.{IsSchedule}
use Rattle.sem_safety.specs.Walks.{walked, all_enabled, pair}
use Rattle.sem_safety.proofs.Walking.{journal-schedule, one-pair, pair-setup}
use Rattle.sem_bound.specs.Counts.{calls_made, kills_made}
use Rattle.sem_bound.specs.Costly.{costly, costly_events, costly_journal}

costly-enabled : all_enabled costly (start costly) costly_events ≡ true
unfolding costly costly_events pair all_enabled put in_turn unless services_from grow closed_here finish opened ended
    call_row upcall_row handle_row resume_row start_side start local_step local_entry is_locally_enabled is_enabled
    enabled after entry_of
costly-enabled = refl

costly-counts : (length costly_journal ≡ 23) × (calls_made costly_journal ≡ 1) × (kills_made costly_journal ≡ 2)
unfolding costly costly_events walked entry_of local_entry
costly-counts = (refl, refl, refl)

pub costly-schedule : IsSchedule costly costly_journal
costly-schedule = journal-schedule costly costly_events costly-enabled

pub costly-tight : length costly_journal ≡ 21 * calls_made costly_journal + kills_made costly_journal
costly-tight = let n = costly-counts.0 in let c = costly-counts.1 in let d = costly-counts.2 in omega (arith, n, c, d)

-- a kill is of a declared VPE, after a number of replies
abbrev IsKill : ℕ × ℕ → Type 0
IsKill k = IsDeclared costly k.0 × IsWord k.1

pub costly-setup : IsSetup costly
unfolding costly pair
costly-setup = pair-setup (Delegate 0 1 4 ∷ []) [] ((0, 1) ∷ (1, 1) ∷ [])
    (All-cons (IsValidCall 128) (Delegate 0 1 4) [] (search rules) (All-nil (IsValidCall 128)))
    (All-nil (IsValidCall 128)) (omega arith)
    (All-cons IsKill (0, 1) ((1, 1) ∷ []) (search rules, search rules)
    (All-cons IsKill (1, 1) [] (search rules, search rules) (All-nil IsKill)))
    (one-pair (λ (a b : ℕ × ℕ). a.0 < b.0) (0, 1) (1, 1) (omega arith))
