-- Messages of every kind are sent: what the schedule does, by computation.
use Rattle.std.proofs.Common.{zero, suc, ◌≡◌, ℕ, true, [], ◌∷◌, length, refl, arith, rules}
use Rattle.std.specs.List.{All}
use Rattle.std.proofs.lemmas.List.Elements.{All-cons, All-nil}
use Rattle.sem_key.specs.Lists.{put, in_turn}
use Rattle.sem_key.specs.Region.{grow}
use Rattle.sem_msg.specs.declared.call.Call.{Call}
use Rattle.sem_msg.specs.Calls.{IsValidCall, IsWord}
use Rattle.sem_msg.specs.Setup.{IsSetup, IsDeclared, services_from}
use Rattle.sem_machine.specs.Steps.{unless}
use Rattle.sem_machine.specs.Revokes.{finish, closed_here, opened}
use Rattle.sem_machine.specs.Ends.{ended}
use Rattle.sem_machine.specs.Calls.{call_row}
use Rattle.sem_machine.specs.Upcalls.{upcall_row}
use Rattle.sem_machine.specs.Handles.{handle_row}
use Rattle.sem_machine.specs.Resumes.{resume_row}
use Rattle.sem_machine.specs.Machine.{start_side, start, local_step, local_entry, is_locally_enabled, is_enabled}
use Rattle.sem_machine.specs.Machine.{enabled, after, entry_of}
use Rattle.sem_machine.specs.Schedules.{IsSchedule, world_after}
use Rattle.sem_machine.specs.Living.{IsQuiet}
use Rattle.sem_safety.specs.Walks.{walked, all_enabled, pair}
use Rattle.sem_safety.proofs.Walking.{journal-schedule, pair-setup}
use Rattle.sem_messages.specs.Messages.{all_sent, count_sent, is_obtain_req, is_obtain_ok, is_obtain_no, is_delegate_req}
use Rattle.sem_messages.specs.Messages.{is_prepared, is_delegate_no, is_ack, is_ack_yes, is_orphan, is_revoke_req}
use Rattle.sem_messages.specs.Messages.{is_revoke_done, is_unlink, grants_across}
use Rattle.sem_messages.specs.EachKind.{giver_calls, taker_calls, each_kind, each_kind_events, each_kind_journal}

each-enabled : all_enabled each_kind (start each_kind) each_kind_events ≡ true
unfolding each_kind each_kind_events pair all_enabled put in_turn unless services_from grow closed_here finish opened
    ended call_row upcall_row handle_row resume_row start_side start local_step local_entry is_locally_enabled
    is_enabled enabled after entry_of
each-enabled = refl

pub each-schedule : IsSchedule each_kind each_kind_journal
each-schedule = journal-schedule each_kind each_kind_events each-enabled

pub each-quiet : IsQuiet each_kind (world_after each_kind each_kind_journal)
unfolding each_kind each_kind_events pair walked put in_turn unless services_from grow closed_here finish opened
    ended call_row upcall_row handle_row resume_row start_side start local_step local_entry is_locally_enabled
    is_enabled enabled after entry_of
each-quiet = refl

pub obtains-sent : (count_sent is_obtain_req each_kind_journal ≡ 3) × (count_sent is_obtain_ok each_kind_journal ≡ 2) ×
    (count_sent is_obtain_no each_kind_journal ≡ 1)
unfolding each_kind each_kind_events pair walked put in_turn unless services_from grow closed_here finish opened
    ended call_row upcall_row handle_row resume_row start_side start local_step local_entry is_locally_enabled
    is_enabled enabled after entry_of
obtains-sent = (refl, refl, refl)

pub delegates-sent : (count_sent is_delegate_req each_kind_journal ≡ 2) × (count_sent is_prepared each_kind_journal ≡ 1)
    × (count_sent is_delegate_no each_kind_journal ≡ 1)
unfolding each_kind each_kind_events pair walked put in_turn unless services_from grow closed_here finish opened
    ended call_row upcall_row handle_row resume_row start_side start local_step local_entry is_locally_enabled
    is_enabled enabled after entry_of
delegates-sent = (refl, refl, refl)

pub acks-sent : (count_sent is_ack each_kind_journal ≡ 1) × (count_sent is_ack_yes each_kind_journal ≡ 1)
unfolding each_kind each_kind_events pair walked put in_turn unless services_from grow closed_here finish opened
    ended call_row upcall_row handle_row resume_row start_side start local_step local_entry is_locally_enabled
    is_enabled enabled after entry_of
acks-sent = (refl, refl)

pub revokes-sent : (count_sent is_revoke_req each_kind_journal ≡ 1) × (count_sent is_revoke_done each_kind_journal ≡ 1)
unfolding each_kind each_kind_events pair walked put in_turn unless services_from grow closed_here finish opened
    ended call_row upcall_row handle_row resume_row start_side start local_step local_entry is_locally_enabled
    is_enabled enabled after entry_of
revokes-sent = (refl, refl)

pub notices-sent : (count_sent is_orphan each_kind_journal ≡ 1) × (count_sent is_unlink each_kind_journal ≡ 1)
unfolding each_kind each_kind_events pair walked put in_turn unless services_from grow closed_here finish opened
    ended call_row upcall_row handle_row resume_row start_side start local_step local_entry is_locally_enabled
    is_enabled enabled after entry_of
notices-sent = (refl, refl)

pub grants-made : (grants_across each_kind each_kind_journal ≡ 3) × (length (all_sent each_kind_journal) ≡ 15)
unfolding each_kind each_kind_events pair walked put in_turn unless services_from grow closed_here finish opened
    ended call_row upcall_row handle_row resume_row start_side start local_step local_entry is_locally_enabled
    is_enabled enabled after entry_of
grants-made = (refl, refl)

-- The setup.

abbrev IsCall : Call → Type 0
IsCall c = IsValidCall 128 c

abbrev IsKill : ℕ × ℕ → Type 0
IsKill k = IsDeclared each_kind k.0 × IsWord k.1

giver-valid : All IsCall giver_calls
giver-valid zero d lt = search rules
giver-valid (suc zero) d lt = search rules
giver-valid (suc (suc zero)) d lt = search rules
giver-valid (suc (suc (suc k))) d lt = absurd (omega (arith, lt))

taker-valid : All IsCall taker_calls
taker-valid zero d lt = search rules
taker-valid (suc zero) d lt = search rules
taker-valid (suc (suc zero)) d lt = search rules
taker-valid (suc (suc (suc zero))) d lt = search rules
taker-valid (suc (suc (suc (suc k)))) d lt = absurd (omega (arith, lt))

pub each-setup : IsSetup each_kind
unfolding each_kind pair
each-setup = pair-setup giver_calls taker_calls ((1, 6) ∷ []) giver-valid taker-valid (omega arith)
    (All-cons IsKill (1, 6) [] (search rules, search rules) (All-nil IsKill))
    (λ i j d lt within. absurd (omega (arith, lt, within)))
