use Rattle.std.proofs.Common.{◌∙◌, ap, sym, subst, rules}
use Rattle.sem_machine.specs.Handles.{handle_row, is_stray}
use Rattle.sem_sound.proofs.Named.{declared-below}
use Rattle.sem_kernel.specs.Handing.{HasHandled}
use Rattle.sem_kernel.specs.KernelStores.{side_of}
use Rattle.sem_kernel.proofs.Asked.{can-hold}
use Rattle.sem_kernel.proofs.Expected.{obtain_req-expected, obtain_no-expected, delegate_no-expected}
use Rattle.sem_kernel.proofs.Expected.{obtain_ok-expected, delegate_req-expected, delegate_prepared-expected, ack-expected}
use Rattle.sem_kernel.proofs.stores.Stores.handle.Goals as goal

pub obtain_request-requires-clause-can : goal.obtain_request-requires-clause-can
obtain_request-requires-clause-can c =
    let here = (obtain_req-expected c.args.setup.now c.args.kernel (side_of c.args.self.now) c.in-ObtainReq.place c.in-ObtainReq.target
    (ap (is_stray c.args.setup.now c.args.kernel (side_of c.args.self.now)) (sym c.in-ObtainReq.is) ∙ c.requires.can.expected)).0 in
    search (rules, here)

pub obtain_request-requires-clause-other : goal.obtain_request-requires-clause-other
obtain_request-requires-clause-other c =
    (obtain_req-expected c.args.setup.now c.args.kernel (side_of c.args.self.now) c.in-ObtainReq.place c.in-ObtainReq.target
    (ap (is_stray c.args.setup.now c.args.kernel (side_of c.args.self.now)) (sym c.in-ObtainReq.is) ∙ c.requires.can.expected)).1

pub obtain_request-requires-clause-owner : goal.obtain_request-requires-clause-owner
obtain_request-requires-clause-owner c =
    declared-below c.args.setup.now c.requires.can.are.setup c.in-ObtainReq.place.pe c.in-ObtainReq.place.vpe
    (obtain_req-expected c.args.setup.now c.args.kernel (side_of c.args.self.now) c.in-ObtainReq.place c.in-ObtainReq.target
    (ap (is_stray c.args.setup.now c.args.kernel (side_of c.args.self.now)) (sym c.in-ObtainReq.is) ∙ c.requires.can.expected)).2

pub obtain_refused-requires-clause-vpe : goal.obtain_refused-requires-clause-vpe
obtain_refused-requires-clause-vpe c =
    obtain_no-expected c.args.setup.now c.args.kernel (side_of c.args.self.now) c.in-ObtainNo.place c.in-ObtainNo.code
    (ap (is_stray c.args.setup.now c.args.kernel (side_of c.args.self.now)) (sym c.in-ObtainNo.is) ∙ c.requires.can.expected)

pub delegate_refused-requires-clause-vpe : goal.delegate_refused-requires-clause-vpe
delegate_refused-requires-clause-vpe c =
    (delegate_no-expected c.args.setup.now c.args.kernel (side_of c.args.self.now) c.in-DelegateNo.parent c.in-DelegateNo.code
    (ap (is_stray c.args.setup.now c.args.kernel (side_of c.args.self.now)) (sym c.in-DelegateNo.is) ∙ c.requires.can.expected)).0

pub delegate_refused-requires-clause-waits : goal.delegate_refused-requires-clause-waits
delegate_refused-requires-clause-waits c =
    (delegate_no-expected c.args.setup.now c.args.kernel (side_of c.args.self.now) c.in-DelegateNo.parent c.in-DelegateNo.code
    (ap (is_stray c.args.setup.now c.args.kernel (side_of c.args.self.now)) (sym c.in-DelegateNo.is) ∙ c.requires.can.expected)).1

pub obtain_answer-requires-clause-can : goal.obtain_answer-requires-clause-can
obtain_answer-requires-clause-can c =
    let here = (obtain_ok-expected c.args.setup.now c.args.kernel (side_of c.args.self.now) c.in-ObtainOk.parent c.in-ObtainOk.key c.in-ObtainOk.object
    (ap (is_stray c.args.setup.now c.args.kernel (side_of c.args.self.now)) (sym c.in-ObtainOk.is) ∙ c.requires.can.expected)).0 in
    search (rules, here)

pub obtain_answer-requires-clause-owner : goal.obtain_answer-requires-clause-owner
obtain_answer-requires-clause-owner c = declared-below c.args.setup.now c.requires.can.are.setup c.in-ObtainOk.parent.pe c.in-ObtainOk.parent.vpe
    (obtain_ok-expected c.args.setup.now c.args.kernel (side_of c.args.self.now) c.in-ObtainOk.parent c.in-ObtainOk.key c.in-ObtainOk.object
    (ap (is_stray c.args.setup.now c.args.kernel (side_of c.args.self.now)) (sym c.in-ObtainOk.is) ∙ c.requires.can.expected)).1

pub delegate_request-requires-clause-can : goal.delegate_request-requires-clause-can
delegate_request-requires-clause-can c =
    let here = (delegate_req-expected c.args.setup.now c.args.kernel (side_of c.args.self.now) c.in-DelegateReq.parent c.in-DelegateReq.object
    c.in-DelegateReq.vpe c.in-DelegateReq.sel
    (ap (is_stray c.args.setup.now c.args.kernel (side_of c.args.self.now)) (sym c.in-DelegateReq.is) ∙ c.requires.can.expected)).0 in
    search (rules, here)

pub delegate_request-requires-clause-other : goal.delegate_request-requires-clause-other
delegate_request-requires-clause-other c =
    (delegate_req-expected c.args.setup.now c.args.kernel (side_of c.args.self.now) c.in-DelegateReq.parent c.in-DelegateReq.object
    c.in-DelegateReq.vpe c.in-DelegateReq.sel
    (ap (is_stray c.args.setup.now c.args.kernel (side_of c.args.self.now)) (sym c.in-DelegateReq.is) ∙ c.requires.can.expected)).1

pub delegate_request-requires-clause-owner : goal.delegate_request-requires-clause-owner
delegate_request-requires-clause-owner c = declared-below c.args.setup.now c.requires.can.are.setup c.in-DelegateReq.parent.pe c.in-DelegateReq.parent.vpe
    (delegate_req-expected c.args.setup.now c.args.kernel (side_of c.args.self.now) c.in-DelegateReq.parent c.in-DelegateReq.object
    c.in-DelegateReq.vpe c.in-DelegateReq.sel
    (ap (is_stray c.args.setup.now c.args.kernel (side_of c.args.self.now)) (sym c.in-DelegateReq.is) ∙ c.requires.can.expected)).2

pub delegate_prepared-requires-clause-can : goal.delegate_prepared-requires-clause-can
delegate_prepared-requires-clause-can c =
    let here = (delegate_prepared-expected c.args.setup.now c.args.kernel (side_of c.args.self.now) c.in-DelegatePrepared.parent c.in-DelegatePrepared.key
    (ap (is_stray c.args.setup.now c.args.kernel (side_of c.args.self.now)) (sym c.in-DelegatePrepared.is) ∙ c.requires.can.expected)).0 in
    search (rules, here)

pub delegate_prepared-requires-clause-owner : goal.delegate_prepared-requires-clause-owner
delegate_prepared-requires-clause-owner c = declared-below c.args.setup.now c.requires.can.are.setup c.in-DelegatePrepared.key.pe c.in-DelegatePrepared.key.vpe
    (delegate_prepared-expected c.args.setup.now c.args.kernel (side_of c.args.self.now) c.in-DelegatePrepared.parent c.in-DelegatePrepared.key
    (ap (is_stray c.args.setup.now c.args.kernel (side_of c.args.self.now)) (sym c.in-DelegatePrepared.is) ∙ c.requires.can.expected)).1

pub ack-requires-clause-can : goal.ack-requires-clause-can
ack-requires-clause-can c =
    let here = ack-expected c.args.setup.now c.args.kernel (side_of c.args.self.now) c.in-Ack.key c.in-Ack.yes
    (ap (is_stray c.args.setup.now c.args.kernel (side_of c.args.self.now)) (sym c.in-Ack.is) ∙ c.requires.can.expected) in
    search (rules, here)

pub ack-requires-clause-holds : goal.ack-requires-clause-holds
ack-requires-clause-holds c = can-hold c.args.setup.now c.requires.can.are.setup c.args.kernel c.requires.can.are.is_one
    c.args.self.now c.requires.can.are.sound c.in-Ack.key

pub returns-in-ObtainReq : goal.returns-in-ObtainReq
returns-in-ObtainReq c = record {
  row = c.obtain_request.ensures.row c.args.from (side_of c.args.self.now)
      ∙ ap (λ m. handle_row c.args.setup.now c.args.kernel (side_of c.args.self.now) c.args.from m) (sym c.in-ObtainReq.is);
  stores = search rules;
}

pub returns-in-ObtainNo : goal.returns-in-ObtainNo
returns-in-ObtainNo c = record {
  row = c.obtain_refused.ensures.row c.args.from (side_of c.args.self.now)
      ∙ ap (λ m. handle_row c.args.setup.now c.args.kernel (side_of c.args.self.now) c.args.from m) (sym c.in-ObtainNo.is);
  stores = search rules;
}

pub returns-in-DelegateNo : goal.returns-in-DelegateNo
returns-in-DelegateNo c = record {
  row = c.delegate_refused.ensures.row c.args.from (side_of c.args.self.now)
      ∙ ap (λ m. handle_row c.args.setup.now c.args.kernel (side_of c.args.self.now) c.args.from m) (sym c.in-DelegateNo.is);
  stores = search rules;
}

pub returns-in-Orphan : goal.returns-in-Orphan
returns-in-Orphan c = record {
  row = c.orphan.ensures.row c.args.setup.now c.args.kernel c.args.from (side_of c.args.self.now)
      ∙ ap (λ m. handle_row c.args.setup.now c.args.kernel (side_of c.args.self.now) c.args.from m) (sym c.in-Orphan.is);
  stores = search rules;
}

pub returns-in-Unlink : goal.returns-in-Unlink
returns-in-Unlink c = record {
  row = c.unlink.ensures.row c.args.setup.now c.args.kernel c.args.from (side_of c.args.self.now)
      ∙ ap (λ m. handle_row c.args.setup.now c.args.kernel (side_of c.args.self.now) c.args.from m) (sym c.in-Unlink.is);
  stores = search rules;
}

pub returns-in-ObtainOk : goal.returns-in-ObtainOk
returns-in-ObtainOk c = record {
  row = c.obtain_answer.ensures.row c.args.from (side_of c.args.self.now)
      ∙ ap (λ m. handle_row c.args.setup.now c.args.kernel (side_of c.args.self.now) c.args.from m) (sym c.in-ObtainOk.is);
  stores = search rules;
}

pub returns-in-DelegateReq : goal.returns-in-DelegateReq
returns-in-DelegateReq c = record {
  row = c.delegate_request.ensures.row c.args.from (side_of c.args.self.now)
      ∙ ap (λ m. handle_row c.args.setup.now c.args.kernel (side_of c.args.self.now) c.args.from m) (sym c.in-DelegateReq.is);
  stores = search rules;
}

pub returns-in-DelegatePrepared : goal.returns-in-DelegatePrepared
returns-in-DelegatePrepared c = record {
  row = c.delegate_prepared.ensures.row c.args.from (side_of c.args.self.now)
      ∙ ap (λ m. handle_row c.args.setup.now c.args.kernel (side_of c.args.self.now) c.args.from m) (sym c.in-DelegatePrepared.is);
  stores = search rules;
}

pub returns-in-Ack : goal.returns-in-Ack
returns-in-Ack c = record {
  row = c.ack.ensures.row c.args.from (side_of c.args.self.now)
      ∙ ap (λ m. handle_row c.args.setup.now c.args.kernel (side_of c.args.self.now) c.args.from m) (sym c.in-Ack.is);
  stores = search rules;
}

pub returns-in-RevokeReq : goal.returns-in-RevokeReq
returns-in-RevokeReq c =
    subst (HasHandled c.args.setup.now c.args.kernel c.args.from c.args.self.now _)
    (sym c.in-RevokeReq.is) c.revoke_requested.ensures

pub returns-in-RevokeDone : goal.returns-in-RevokeDone
returns-in-RevokeDone c =
    subst (HasHandled c.args.setup.now c.args.kernel c.args.from c.args.self.now _)
    (sym c.in-RevokeDone.is) c.token_returned.ensures
