-- The names of messages.
use Rattle.std.proofs.Common.{◌≡◌, [], ◌≤◌, length, arith}
use Rattle.sem_trace.specs.declared.message_forms.Form.{Form}
use Rattle.sem_trace.specs.declared.message_forms.MessageKind.{MessageKind}
use Rattle.sem_trace.specs.declared.message_forms.MessageKind.TheVariants.{ObtainReq, ObtainOk, ObtainNo, DelegateReq}
use Rattle.sem_trace.specs.declared.message_forms.MessageKind.TheVariants.{DelegatePrepared, DelegateNo, Ack, Orphan}
use Rattle.sem_trace.specs.declared.message_forms.MessageKind.TheVariants.{RevokeReq, RevokeDone, Unlink}
use Rattle.sem_trace.specs.MessageForms.{messages, message_row, name_at, IsMessageRow}

-- a form has the name of its kind
pub form_name : (form : Form MessageKind) (kind : MessageKind) → IsMessageRow form → form.kind ≡ kind →
    form.name.now ≡ name_at (messages 1 []) (message_row kind)
form_name form kind row kind_is = rw kind_is at row.name

-- which is short
short_row : (kind : MessageKind) → length (name_at (messages 1 []) (message_row kind)) ≤ 17
unfolding messages
short_row ObtainReq = omega arith
short_row ObtainOk = omega arith
short_row ObtainNo = omega arith
short_row DelegateReq = omega arith
short_row DelegatePrepared = omega arith
short_row DelegateNo = omega arith
short_row Ack = omega arith
short_row Orphan = omega arith
short_row RevokeReq = omega arith
short_row RevokeDone = omega arith
short_row Unlink = omega arith

pub short_name : (form : Form MessageKind) (kind : MessageKind) → IsMessageRow form → form.kind ≡ kind → length form.name.now ≤ 17
short_name form kind row kind_is = rw (form_name form kind row kind_is) (short_row kind)
