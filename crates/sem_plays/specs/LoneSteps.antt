-- Lone steps: messages that no call waits for, and other cases that no schedule reaches.
use Rattle.std.specs.Prelude.{◌≡◌, true, false, Some, None, [], ◌∷◌, replicate}
use Rattle.sem_machine.specs.Prelude.{MemKind, RecvKind, SendKind, ServKind, SessKind, Mem, Send, Sess, SelTarget}
use Rattle.sem_machine.specs.Prelude.{ServTarget, OfferTarget, ObtainReq, ObtainOk, ObtainNo, DelegateReq}
use Rattle.sem_machine.specs.Prelude.{DelegatePrepared, DelegateNo, Ack, Orphan, RevokeReq, RevokeDone, Unlink}
use Rattle.sem_machine.specs.Prelude.{Derive, AskOffer, Clear, Calls, Fetch, Upcall, Resume, Flush, Kill, OkCode}
use Rattle.sem_machine.specs.Prelude.{Dead, Revoking, cap, row, send, start_side, start, is_locally_enabled, enabled}
use Rattle.sem_machine.specs.Prelude.{event}
use Rattle.sem_msg.specs.declared.code.Code.TheVariants.{Occupied, Numbers}
use Rattle.sem_machine.specs.Sides.{asked, buried, with_inbox}
use Rattle.sem_machine.specs.Ends.{ended}
use Rattle.sem_machine.specs.Steps.{answer, granting}
use Rattle.sem_machine.specs.Calls.{call_row}
use Rattle.sem_machine.specs.Handles.{handled}
use Rattle.sem_plays.specs.Words.{key, place}
use Rattle.sem_plays.specs.Trio.{trio, zero_side, numbered, obtaining, delegating, an_ask, asked_often, bereft}
use Rattle.sem_plays.specs.Trio.{clearing, cleared, waiting_for_another}

abbrev pub obtain_of_an_undeclared_vpe : Type 0
obtain_of_an_undeclared_vpe = handled trio 0 zero_side 1 (ObtainReq (place 5 5 0) (SelTarget 0 0)) ≡ zero_side

abbrev pub obtain_of_a_vpe_on_another_pe : Type 0
obtain_of_a_vpe_on_another_pe = handled trio 0 zero_side 1 (ObtainReq (place 0 1 0) (SelTarget 0 0)) ≡ zero_side

abbrev pub obtain_from_a_vpe_elsewhere : Type 0
obtain_from_a_vpe_elsewhere = handled trio 0 zero_side 1 (ObtainReq (place 1 1 1) (SelTarget 1 0)) ≡ zero_side

abbrev pub obtain_from_an_undeclared_vpe : Type 0
obtain_from_an_undeclared_vpe = handled trio 0 zero_side 1 (ObtainReq (place 1 1 1) (SelTarget 9 0)) ≡ zero_side

abbrev pub session_of_an_undeclared_service : Type 0
session_of_an_undeclared_service =
    handled trio 0 zero_side 1 (ObtainReq (place 1 1 1) (ServTarget (key 3 2 ServKind 0))) ≡ zero_side

abbrev pub offer_of_an_undeclared_service : Type 0
offer_of_an_undeclared_service =
    handled trio 0 zero_side 1 (ObtainReq (place 1 1 1) (OfferTarget (key 3 2 ServKind 0) 0)) ≡ zero_side

abbrev pub obtain_request_of_a_local_vpe : Type 0
obtain_request_of_a_local_vpe = handled trio 0 zero_side 1 (ObtainReq (place 2 2 2) (SelTarget 0 0)) ≡ zero_side

abbrev pub grant_for_which_nobody_waits : Type 0
grant_for_which_nobody_waits =
    handled trio 0 zero_side 1 (ObtainOk (key 1 1 MemKind 0) (key 0 0 MemKind 1) (Mem 0 1 1)) ≡ zero_side

abbrev pub grant_of_another_number : Type 0
grant_of_another_number = handled trio 0 obtaining 1 (ObtainOk (key 1 1 MemKind 0) (key 0 0 MemKind 2) (Mem 0 1 1))
    ≡ obtaining

abbrev pub grant_for_a_delegate : Type 0
grant_for_a_delegate = handled trio 0 delegating 1 (ObtainOk (key 1 1 MemKind 0) (key 0 0 MemKind 1) (Mem 0 1 1))
    ≡ delegating

abbrev pub grant_by_a_local_vpe : Type 0
grant_by_a_local_vpe = handled trio 0 obtaining 1 (ObtainOk (key 2 2 MemKind 0) (key 0 0 MemKind 1) (Mem 0 1 1))
    ≡ obtaining

abbrev pub grant_by_an_undeclared_vpe : Type 0
grant_by_an_undeclared_vpe = handled trio 0 obtaining 1 (ObtainOk (key 5 5 MemKind 0) (key 0 0 MemKind 1) (Mem 0 1 1))
    ≡ obtaining

abbrev pub grant_to_a_vpe_elsewhere : Type 0
grant_to_a_vpe_elsewhere = handled trio 0 obtaining 1 (ObtainOk (key 1 1 MemKind 0) (key 1 1 MemKind 1) (Mem 0 1 1))
    ≡ obtaining

abbrev pub grant_with_an_undeclared_gate : Type 0
grant_with_an_undeclared_gate =
    handled trio 0 obtaining 1 (ObtainOk (key 1 1 SendKind 0) (key 0 0 SendKind 1) (Send (key 9 9 RecvKind 0) 1 1))
    ≡ obtaining

abbrev pub grant_with_an_undeclared_service : Type 0
grant_with_an_undeclared_service =
    handled trio 0 obtaining 1 (ObtainOk (key 1 1 ServKind 0) (key 0 0 SessKind 1) (Sess (key 1 9 ServKind 0) 0))
    ≡ obtaining

abbrev pub refusal_for_which_nobody_waits : Type 0
refusal_for_which_nobody_waits = handled trio 0 zero_side 1 (ObtainNo (place 0 0 1) 4) ≡ zero_side

abbrev pub refusal_of_another_number : Type 0
refusal_of_another_number = handled trio 0 obtaining 1 (ObtainNo (place 0 0 2) 4) ≡ obtaining

abbrev pub refusal_for_a_vpe_elsewhere : Type 0
refusal_for_a_vpe_elsewhere = handled trio 0 obtaining 1 (ObtainNo (place 1 1 1) 4) ≡ obtaining

abbrev pub refusal_for_an_undeclared_vpe : Type 0
refusal_for_an_undeclared_vpe = handled trio 0 obtaining 1 (ObtainNo (place 0 9 1) 4) ≡ obtaining

abbrev pub delegate_to_a_vpe_elsewhere : Type 0
delegate_to_a_vpe_elsewhere = handled trio 0 zero_side 1 (DelegateReq (key 1 1 MemKind 0) (Mem 0 1 1) 1 4) ≡ zero_side

abbrev pub delegate_to_an_undeclared_vpe : Type 0
delegate_to_an_undeclared_vpe = handled trio 0 zero_side 1 (DelegateReq (key 1 1 MemKind 0) (Mem 0 1 1) 9 4)
    ≡ zero_side

abbrev pub delegate_of_a_local_vpe : Type 0
delegate_of_a_local_vpe = handled trio 0 zero_side 1 (DelegateReq (key 2 2 MemKind 0) (Mem 0 1 1) 0 4) ≡ zero_side

abbrev pub delegate_of_an_undeclared_vpe : Type 0
delegate_of_an_undeclared_vpe = handled trio 0 zero_side 1 (DelegateReq (key 9 9 MemKind 0) (Mem 0 1 1) 0 4)
    ≡ zero_side

abbrev pub delegate_of_an_undeclared_gate : Type 0
delegate_of_an_undeclared_gate =
    handled trio 0 zero_side 1 (DelegateReq (key 1 1 SendKind 0) (Send (key 9 9 RecvKind 0) 1 1) 0 4) ≡ zero_side

abbrev pub preparation_for_which_nobody_waits : Type 0
preparation_for_which_nobody_waits =
    handled trio 0 zero_side 1 (DelegatePrepared (key 0 0 MemKind 0) (key 1 1 MemKind 1)) ≡ zero_side

abbrev pub preparation_of_another_parent : Type 0
preparation_of_another_parent = handled trio 0 delegating 1 (DelegatePrepared (key 0 0 MemKind 1) (key 1 1 MemKind 1))
    ≡ delegating

abbrev pub preparation_by_a_local_vpe : Type 0
preparation_by_a_local_vpe = handled trio 0 delegating 1 (DelegatePrepared (key 0 0 MemKind 0) (key 2 2 MemKind 2))
    ≡ delegating

abbrev pub preparation_by_an_undeclared_vpe : Type 0
preparation_by_an_undeclared_vpe =
    handled trio 0 delegating 1 (DelegatePrepared (key 0 0 MemKind 0) (key 9 9 MemKind 1)) ≡ delegating

abbrev pub preparation_for_a_vpe_elsewhere : Type 0
preparation_for_a_vpe_elsewhere =
    handled trio 0 delegating 1 (DelegatePrepared (key 1 1 MemKind 0) (key 1 1 MemKind 1)) ≡ delegating

abbrev pub denial_for_which_nobody_waits : Type 0
denial_for_which_nobody_waits = handled trio 0 zero_side 1 (DelegateNo (key 0 0 MemKind 0) 5) ≡ zero_side

abbrev pub denial_for_an_obtain : Type 0
denial_for_an_obtain = handled trio 0 obtaining 1 (DelegateNo (key 0 0 MemKind 0) 5) ≡ obtaining

abbrev pub denial_for_a_vpe_elsewhere : Type 0
denial_for_a_vpe_elsewhere = handled trio 0 delegating 1 (DelegateNo (key 1 1 MemKind 0) 5) ≡ delegating

abbrev pub acknowledgement_of_nothing : Type 0
acknowledgement_of_nothing = handled trio 0 zero_side 1 (Ack (key 0 0 MemKind 1) true) ≡ zero_side

abbrev pub retraction_of_nothing : Type 0
retraction_of_nothing = handled trio 0 zero_side 1 (Ack (key 0 0 MemKind 1) false) ≡ zero_side

abbrev pub acknowledgement_for_a_vpe_elsewhere : Type 0
acknowledgement_for_a_vpe_elsewhere = handled trio 0 zero_side 1 (Ack (key 1 1 MemKind 1) true) ≡ zero_side

abbrev pub orphan_of_a_parent_that_is_gone : Type 0
orphan_of_a_parent_that_is_gone = handled trio 0 zero_side 1 (Orphan (key 0 0 MemKind 9) (key 1 1 MemKind 1))
    ≡ zero_side

abbrev pub orphan_that_is_no_child : Type 0
orphan_that_is_no_child = handled trio 0 zero_side 1 (Orphan (key 0 0 MemKind 0) (key 1 1 MemKind 1)) ≡ zero_side

abbrev pub unlink_of_a_parent_that_is_gone : Type 0
unlink_of_a_parent_that_is_gone = handled trio 0 zero_side 1 (Unlink (key 0 0 MemKind 9) (key 1 1 MemKind 1))
    ≡ zero_side

abbrev pub unlink_of_no_child : Type 0
unlink_of_no_child = handled trio 0 zero_side 1 (Unlink (key 0 0 MemKind 0) (key 1 1 MemKind 1)) ≡ zero_side

-- after a clear its root has no child link and no mark
abbrev pub root_after_a_clear : Type 0
root_after_a_clear = cap cleared (key 0 0 MemKind 0) ≡ cap zero_side (key 0 0 MemKind 0)

-- an orphan or an unlink that comes after the end of a clear finds no link
abbrev pub orphan_after_a_clear : Type 0
orphan_after_a_clear = handled trio 0 cleared 1 (Orphan (key 0 0 MemKind 0) (key 1 1 MemKind 1)) ≡ cleared

abbrev pub unlink_after_a_clear : Type 0
unlink_after_a_clear = handled trio 0 cleared 1 (Unlink (key 0 0 MemKind 0) (key 1 1 MemKind 1)) ≡ cleared

-- a second call cannot clear a capability that is being cleared
abbrev pub clear_of_what_is_being_cleared : Type 0
clear_of_what_is_being_cleared = call_row trio 0 clearing 0 (Clear 0) ≡ answer Revoking clearing

-- a VPE that waits for a job dies: another job that keeps a root of it goes on keeping it
abbrev pub another_job_keeps_the_root : Type 0
another_job_keeps_the_root =
    (ended trio 0 0 waiting_for_another).jobs
    ≡ record { id = 0; root = key 0 0 MemKind 0; up = None; waiters = []; count = 0; keep = true }
    ∷ record { id = 1; root = key 2 2 RecvKind 1; up = None; waiters = []; count = 0; keep = false }
    ∷ []

abbrev pub done_for_no_job : Type 0
done_for_no_job = handled trio 0 zero_side 1 (RevokeDone 7) ≡ zero_side

-- a revoke request for a key that is not held is answered at once
abbrev pub request_for_a_key_that_is_not_held : Type 0
request_for_a_key_that_is_not_held = handled trio 0 zero_side 1 (RevokeReq (key 0 0 MemKind 9) 7)
    ≡ send 1 (RevokeDone 7) zero_side

-- number 4095 is drawn
abbrev pub number_4095_is_the_last : Type 0
number_4095_is_the_last = (call_row trio 0 (numbered 4095) 0 (Derive 0 1 0 1 1)).outcome
    ≡ (granting (key 0 0 MemKind 0) (key 0 0 MemKind 4095) (answer OkCode zero_side)).outcome

-- number 4096 is not drawn
abbrev pub number_4096_is_not_drawn : Type 0
number_4096_is_not_drawn = call_row trio 0 (numbered 4096) 0 (Derive 0 1 0 1 1) ≡ answer Numbers (numbered 4096)

-- an occupied destination is refused before the lack of numbers
abbrev pub occupied_comes_before_numbers : Type 0
occupied_comes_before_numbers = call_row trio 0 (numbered 4096) 0 (Derive 0 0 0 1 1) ≡ answer Occupied (numbered 4096)

-- the 128th ask is kept
abbrev pub the_128th_ask_is_kept : Type 0
the_128th_ask_is_kept = (row (asked 0 an_ask (asked_often 127)) 0).asks ≡ replicate 128 an_ask

-- the 129th ask is lost
abbrev pub the_129th_ask_is_lost : Type 0
the_129th_ask_is_lost = asked 0 an_ask (asked_often 128) ≡ asked_often 128

-- the offer of a dead service is not asked for
abbrev pub ask_of_a_dead_service : Type 0
ask_of_a_dead_service = call_row trio 0 bereft 0 (AskOffer 6 5 0) ≡ answer Dead bereft

-- a dead VPE is not asked for consent
abbrev pub upcall_of_a_dead_vpe : Type 0
upcall_of_a_dead_vpe = is_locally_enabled trio 0 (asked 0 an_ask (buried 0 zero_side)) (Upcall 0) ≡ false

-- a dead VPE makes no call
abbrev pub call_of_a_dead_vpe : Type 0
call_of_a_dead_vpe = is_locally_enabled trio 0 (buried 0 zero_side) (Calls 0) ≡ false

-- a VPE makes no call at another kernel
abbrev pub call_of_a_vpe_elsewhere : Type 0
call_of_a_vpe_elsewhere = is_locally_enabled trio 1 (start_side trio 1) (Calls 0) ≡ false

-- a VPE makes no call while one waits
abbrev pub call_while_one_waits : Type 0
call_while_one_waits = is_locally_enabled trio 0 obtaining (Calls 0) ≡ false

-- a call that waits does not go on
abbrev pub resume_while_it_waits : Type 0
resume_while_it_waits = is_locally_enabled trio 0 obtaining (Resume 0) ≡ false

-- a kernel fetches nothing from itself
abbrev pub fetch_from_the_own_kernel : Type 0
fetch_from_the_own_kernel = is_locally_enabled trio 0 zero_side (Fetch 0) ≡ false

-- a kernel fetches nothing from a kernel that does not exist
abbrev pub fetch_from_no_kernel : Type 0
fetch_from_no_kernel = is_locally_enabled trio 0 zero_side (Fetch 2) ≡ false

-- a kernel fetches from another kernel
abbrev pub fetch_from_another_kernel : Type 0
fetch_from_another_kernel = is_locally_enabled trio 0 zero_side (Fetch 1) ≡ true

-- a kernel with a full inbox fetches nothing
abbrev pub fetch_with_a_full_inbox : Type 0
fetch_with_a_full_inbox = is_locally_enabled trio 0 (with_inbox (Some (1, RevokeDone 0)) zero_side) (Fetch 1) ≡ false

-- a kernel flushes nothing to itself
abbrev pub flush_to_the_own_kernel : Type 0
flush_to_the_own_kernel = is_locally_enabled trio 0 (send 0 (RevokeDone 0) zero_side) (Flush 0) ≡ false

-- a kernel flushes nothing if no message waits
abbrev pub flush_of_nothing : Type 0
flush_of_nothing = is_locally_enabled trio 0 zero_side (Flush 1) ≡ false

-- a declared kill is enabled
abbrev pub kill_of_the_declared : Type 0
kill_of_the_declared = is_locally_enabled trio 0 zero_side (Kill 2) ≡ true

-- a kill that is not declared is not enabled
abbrev pub kill_of_the_undeclared : Type 0
kill_of_the_undeclared = is_locally_enabled trio 0 zero_side (Kill 0) ≡ false

-- at the start the first call and the due kill are enabled
abbrev pub enabled_at_the_start : Type 0
enabled_at_the_start = enabled trio (start trio) ≡ event 0 (Calls 0) ∷ event 0 (Kill 2) ∷ []
