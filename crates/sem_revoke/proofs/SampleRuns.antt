-- What the sample's journals do, by computation; and what the law of safety then says of them.
use Rattle.std.proofs.Common.{◌≡◌, ℕ, zero, suc, [], ◌∷◌, refl, sym, subst, inl, inr, arith, rules, IsSome, None}
use Rattle.std.specs.List.{Contains, All}
use Rattle.std.proofs.lemmas.List.Elements.{All-cons, All-nil}
use Rattle.sem_key.specs.Lists.{put, in_turn}
use Rattle.sem_key.specs.Region.{grow}
use Rattle.sem_msg.specs.declared.call.Call.{Call}
use Rattle.sem_msg.specs.declared.call.Call.TheVariants.{Derive, Obtain, Revoke, Clear, Bind}
use Rattle.sem_msg.specs.Calls.{IsValidCall, IsWord}
use Rattle.sem_msg.specs.Setup.{IsSetup, IsDeclared, services_from}
use Rattle.sem_machine.specs.Steps.{unless}
use Rattle.sem_machine.specs.Revokes.{finish, closed_here, opened}
use Rattle.sem_machine.specs.Ends.{ended}
use Rattle.sem_machine.specs.Calls.{call_row}
use Rattle.sem_machine.specs.Upcalls.{upcall_row}
use Rattle.sem_machine.specs.Handles.{handle_row}
use Rattle.sem_machine.specs.Resumes.{resume_row}
use Rattle.sem_machine.specs.Machine.{start_side, start, local_step, local_entry, is_locally_enabled, is_enabled, enabled, after, entry_of, side}
use Rattle.sem_machine.specs.Schedules.{IsSchedule, world_after}
use Rattle.sem_machine.specs.Journals.{root_keys_from, ancestry_in, ancestry, cut_from, answered_from, answered, forest}
use Rattle.sem_machine.specs.Living.{IsLive, IsOnItsWay, Binds}
use Rattle.sem_machine.specs.Sides.{cap}
use Rattle.sem_machine.specs.Safety.{IsInUse}
use Rattle.sem_key.proofs.Members.{Contains-head, Contains-tail}
use Rattle.sem_safety.specs.Walks.{walked, all_enabled, pair}
use Rattle.sem_safety.proofs.Walking.{journal-schedule, pair-setup}
use Rattle.sem_revoke.specs.Sample.{sample, owner_calls, obtainer_calls, memory_key, derived_key, obtained_key, to_grant, to_bind, to_revoke, to_clear}
use Rattle.sem_revoke.specs.Sample.{sample_journal}
use Rattle.sem_revoke.proofs.Safe.{all-safe}

pub sample-setup : IsSetup sample
unfolding sample
sample-setup = pair-setup owner_calls obtainer_calls [] (three-valid (Derive 0 1 0 1024 3) (Revoke 1) (Clear 0) (search rules) (search rules) (search rules))
    (three-valid (Obtain 0 0 1) (Bind 0 0) (Obtain 1 0 0) (search rules) (search rules) (search rules)) (omega arith)
    (All-nil (λ (k : ℕ × ℕ). IsDeclared (pair owner_calls obtainer_calls []) k.0 × IsWord k.1)) (λ i j d lt within. absurd (omega arith))
  where
    three-valid : (a b c : Call) → IsValidCall 128 a → IsValidCall 128 b → IsValidCall 128 c → All (IsValidCall 128) (a ∷ b ∷ c ∷ [])
    three-valid a b c one two three =
        All-cons (IsValidCall 128) a (b ∷ c ∷ []) one
        (All-cons (IsValidCall 128) b (c ∷ []) two (All-cons (IsValidCall 128) c [] three (All-nil (IsValidCall 128))))

-- each event is enabled in its turn
pub runs-grant : IsSchedule sample (sample_journal to_grant)
unfolding sample pair all_enabled put in_turn unless services_from grow closed_here finish opened ended call_row upcall_row handle_row resume_row start_side
    start local_step local_entry is_locally_enabled is_enabled enabled after entry_of
runs-grant = journal-schedule sample to_grant refl

pub runs-bind : IsSchedule sample (sample_journal to_bind)
unfolding sample pair all_enabled put in_turn unless services_from grow closed_here finish opened ended call_row upcall_row handle_row resume_row start_side
    start local_step local_entry is_locally_enabled is_enabled enabled after entry_of
runs-bind = journal-schedule sample to_bind refl

pub runs-revoke : IsSchedule sample (sample_journal to_revoke)
unfolding sample pair all_enabled put in_turn unless services_from grow closed_here finish opened ended call_row upcall_row handle_row resume_row start_side
    start local_step local_entry is_locally_enabled is_enabled enabled after entry_of
runs-revoke = journal-schedule sample to_revoke refl

pub runs-clear : IsSchedule sample (sample_journal to_clear)
unfolding sample pair all_enabled put in_turn unless services_from grow closed_here finish opened ended call_row upcall_row handle_row resume_row start_side
    start local_step local_entry is_locally_enabled is_enabled enabled after entry_of
runs-clear = journal-schedule sample to_clear refl

-- the part is granted, and on its way
not-held : (i : ℕ) → cap (side (world_after sample (sample_journal to_grant)) i) (obtained_key 0) ≡ None
unfolding sample pair walked put in_turn unless services_from grow closed_here finish opened ended call_row upcall_row handle_row resume_row start_side start
    local_step local_entry is_locally_enabled is_enabled enabled after entry_of
not-held zero = refl
not-held (suc zero) = refl
not-held (suc (suc i)) = refl

granted : IsLive (world_after sample (sample_journal to_grant)) (obtained_key 0)
unfolding sample pair walked put in_turn unless services_from grow closed_here finish opened ended call_row upcall_row handle_row resume_row start_side start
    local_step local_entry is_locally_enabled is_enabled enabled after entry_of
granted = inr (inl (record { parent = derived_key; object = _; arriving = (0, 1, Contains-head _ []) }))

pub on-its-way : IsOnItsWay (world_after sample (sample_journal to_grant)) (obtained_key 0)
on-its-way = (granted, λ held. nothing held.0 held.1)
  where
    nothing : (i : ℕ) → IsSome (cap (side (world_after sample (sample_journal to_grant)) i) (obtained_key 0)) → ⊥
    nothing i some = let none = not-held i in absurd (cc)

pub line-of-part : ancestry (sample_journal to_grant) (obtained_key 0) ≡ obtained_key 0 ∷ derived_key ∷ memory_key ∷ []
unfolding ancestry_in sample pair walked put in_turn unless services_from grow closed_here finish opened ended call_row upcall_row handle_row resume_row start_side
    start local_step local_entry is_locally_enabled is_enabled enabled after entry_of
line-of-part = refl

pub bound : Binds (world_after sample (sample_journal to_bind)) 1 0 (obtained_key 0)
unfolding sample pair walked put in_turn unless services_from grow closed_here finish opened ended call_row upcall_row handle_row resume_row start_side start
    local_step local_entry is_locally_enabled is_enabled enabled after entry_of
bound = record { kernel = 1; bound = _; at_endpoint = refl; to_key = refl }

-- after the answered revoke
pub answered-revoke : Contains (answered (sample_journal to_revoke)) derived_key
unfolding answered_from sample pair walked put in_turn unless services_from grow closed_here finish opened ended call_row upcall_row handle_row resume_row
    start_side start local_step local_entry is_locally_enabled is_enabled enabled after entry_of
answered-revoke = Contains-head derived_key []

part-line : ancestry (sample_journal to_revoke) (obtained_key 0) ≡ obtained_key 0 ∷ derived_key ∷ memory_key ∷ []
unfolding ancestry_in sample pair walked put in_turn unless services_from grow closed_here finish opened ended call_row upcall_row handle_row resume_row start_side
    start local_step local_entry is_locally_enabled is_enabled enabled after entry_of
part-line = refl

pub part-gone : ¬ IsInUse (world_after sample (sample_journal to_revoke)) (obtained_key 0)
part-gone used = (all-safe sample sample-setup (sample_journal to_revoke) runs-revoke).revoked_is_gone (obtained_key 0) derived_key used
    (subst (λ ks. Contains ks derived_key) (sym part-line) (Contains-tail (obtained_key 0) (derived_key ∷ memory_key ∷ []) derived_key
    (Contains-head derived_key (memory_key ∷ [])))) answered-revoke

-- after the answered clear
pub answered-clear : Contains (answered (sample_journal to_clear)) (obtained_key 1)
unfolding answered_from sample pair walked put in_turn unless services_from grow closed_here finish opened ended call_row upcall_row handle_row resume_row
    start_side start local_step local_entry is_locally_enabled is_enabled enabled after entry_of
answered-clear = Contains-tail derived_key (derived_key ∷ obtained_key 1 ∷ []) (obtained_key 1)
    (Contains-tail derived_key (obtained_key 1 ∷ []) (obtained_key 1) (Contains-head (obtained_key 1) []))

cleared-line : ancestry (sample_journal to_clear) (obtained_key 1) ≡ obtained_key 1 ∷ memory_key ∷ []
unfolding ancestry_in sample pair walked put in_turn unless services_from grow closed_here finish opened ended call_row upcall_row handle_row resume_row start_side
    start local_step local_entry is_locally_enabled is_enabled enabled after entry_of
cleared-line = refl

pub cleared-gone : ¬ IsInUse (world_after sample (sample_journal to_clear)) (obtained_key 1)
cleared-gone used = (all-safe sample sample-setup (sample_journal to_clear) runs-clear).revoked_is_gone (obtained_key 1) (obtained_key 1) used
    (subst (λ ks. Contains ks (obtained_key 1)) (sym cleared-line) (Contains-head (obtained_key 1) (memory_key ∷ []))) answered-clear

-- what was cleared is in the forest, and held
pub memory-kept : Contains (forest sample (sample_journal to_clear)) memory_key
unfolding root_keys_from ancestry_in cut_from sample pair walked put in_turn unless services_from grow closed_here finish opened ended call_row upcall_row
    handle_row resume_row start_side start local_step local_entry is_locally_enabled is_enabled enabled after entry_of
memory-kept = Contains-head memory_key []
