-- What the private functions of `decode` give: the rows from left to right, up to the first wrong
-- one.
use Rattle.std.specs.Prelude.{ℕ, ◌+◌, ◌^◌, ◌/◌, ◌%◌, Bool, true, false, ◌==◌, ◌&&◌, nat_lt, nat_le, if◌then◌else◌}
use Rattle.std.specs.Prelude.{Result, Ok, Err}
use Rattle.std.specs.Int.{is_in_range}
use Rattle.sem_msg.specs.Prelude.{Kind, ServKind, SessKind, VPES, SLOTS, ADDRESSES, RIGHTS, Object, Mem, Recv, Send}
use Rattle.sem_msg.specs.Prelude.{Serv, Sess, KeyName, kind_number, PlaceName}
use Rattle.sem_key.specs.declared.key.Kind.TheVariants.{Mem as MemKind, Recv as RecvKind, Send as SendKind}
use Rattle.sem_msg.specs.declared.message.Target.TheVariants.{Sel as SelTarget, Serv as ServTarget}
use Rattle.sem_msg.specs.declared.message.Target.TheVariants.{Offer as OfferTarget}
use Rattle.sem_msg.specs.declared.message.Message.{Message}
use Rattle.sem_msg.specs.declared.message.Message.TheVariants.{ObtainReq, ObtainOk, ObtainNo, DelegateReq}
use Rattle.sem_msg.specs.declared.message.Message.TheVariants.{DelegatePrepared, DelegateNo, Ack, Orphan, RevokeReq}
use Rattle.sem_msg.specs.declared.message.Message.TheVariants.{RevokeDone, Unlink}
use Rattle.sem_wire.specs.declared.rows.Rows.{Rows}
use Rattle.sem_wire.specs.declared.fault.WireFault.{WireFault}
use Rattle.sem_wire.specs.declared.fault.WireFault.TheVariants.{Tag, Field, Padding}
use Rattle.sem_wire.specs.Grammar.{kind_in, is_key}

infixl 10 ◌>>=◌
abbrev pub ◌>>=◌ : {A B : Type 0} → Result A WireFault → (A → Result B WireFault) → Result B WireFault
(Ok x) >>= f = f x
(Err e) >>= f = Err e

-- the kind of that number
abbrev pub kind_at : ℕ → Kind
kind_at n = if n == 1 then MemKind else if n == 2 then RecvKind else if n == 3 then SendKind else if n == 4
    then ServKind else SessKind

-- the key of a word
abbrev pub key_in : ℕ → KeyName
key_in word = record {
  pe = word / 2 ^ 56;
  vpe = word / 2 ^ 40 % 2 ^ 16;
  kind = kind_at (kind_in word);
  number = word % 2 ^ 32;
}

-- a row that the message uses, and one that it does not
abbrev pub allowed : ℕ → Bool → Result (Unit {0}) WireFault
allowed at true = Ok tt
allowed at false = Err (Field at)

abbrev pub unused : ℕ → ℕ → Result (Unit {0}) WireFault
unused at number = if number == 0 then Ok tt else Err (Padding at)

-- a row with a key; with a key of the kind of that number; with a place
abbrev pub key_at : ℕ → ℕ → Result KeyName WireFault
key_at at word = if is_key word then Ok (key_in word) else Err (Field at)

unfoldable pub kind_key_at : ℕ → ℕ → ℕ → Result KeyName WireFault
kind_key_at at kind word = do
  key ← key_at at word
  agrees ← allowed at (kind_number key.kind == kind)
  Ok key

unfoldable pub place_at : ℕ → ℕ → Result PlaceName WireFault
place_at at word = do
  no_kind ← allowed at (kind_in word == 0)
  key ← key_at at (word + 2 ^ 32)
  Ok (record { pe = key.pe; vpe = key.vpe; number = key.number })

-- the rows at 2, 4 and 6 of a message without a VPE and an index
unfoldable pub no_index : Rows → Result (Unit {0}) WireFault
no_index r = do
  vpe ← unused 2 r.vpe
  index ← unused 4 r.index
  unused 6 r.after_index

-- the rows from 28 on of a message without an object
unfoldable pub no_object : Rows → Result (Unit {0}) WireFault
no_object r = do
  kind ← unused 28 r.kind
  gap ← unused 29 r.after_kind
  main ← unused 32 r.main
  more ← unused 40 r.more
  last ← unused 48 r.last
  unused 56 r.after_last

-- the rows from 24 on of a message without a job and an object
unfoldable pub no_job : Rows → Result (Unit {0}) WireFault
no_job r = do
  job ← unused 24 r.job
  no_object r

-- the rows from 16 on of a message with one key or one place alone
abbrev pub no_second : Rows → Result (Unit {0}) WireFault
no_second r = do
  second ← unused 16 r.second
  no_job r

-- the rows up to 6 of a message with a code
abbrev pub code_in : Rows → Result ℕ WireFault
code_in r = do
  code ← allowed 1 (is_in_range 1 15 r.form)
  index ← no_index r
  Ok r.form

-- the rows at 32, 40 and 48 of an object of each kind
unfoldable pub mem_in : Rows → Result Object WireFault
mem_in r = do
  base ← allowed 32 (nat_lt r.main (2 ^ 32))
  len ← allowed 40 (nat_lt r.more (2 ^ 32) && nat_le (r.main + r.more) ADDRESSES)
  rights ← allowed 48 (nat_le r.last RIGHTS)
  Ok (Mem r.main r.more r.last)

unfoldable pub recv_in : Rows → Result Object WireFault
recv_in r = do
  slots ← allowed 32 (is_in_range 1 SLOTS r.main)
  more ← unused 40 r.more
  last ← unused 48 r.last
  Ok (Recv r.main)

unfoldable pub send_in : Rows → Result Object WireFault
send_in r = do
  gate ← kind_key_at 32 2 r.main
  label ← allowed 40 (nat_lt r.more (2 ^ 32))
  credits ← allowed 48 (is_in_range 1 SLOTS r.last)
  Ok (Send gate r.more r.last)

unfoldable pub serv_in : Rows → Result Object WireFault
serv_in r = do
  name ← allowed 32 (nat_lt r.main (2 ^ 8))
  more ← unused 40 r.more
  last ← unused 48 r.last
  Ok (Serv r.main)

unfoldable pub sess_in : Rows → Result Object WireFault
sess_in r = do
  service ← kind_key_at 32 4 r.main
  ident ← allowed 40 (nat_lt r.more VPES)
  last ← unused 48 r.last
  Ok (Sess service r.more)

-- the object by its kind
abbrev pub of_kind : ℕ → Rows → Result Object WireFault
of_kind kind r =
    if kind == 1 then mem_in r
    else if kind == 2 then recv_in r
    else if kind == 3 then send_in r
    else if kind == 4 then serv_in r
    else sess_in r

-- the rows from 29 on of a message with an object
unfoldable pub object_in : Rows → Result Object WireFault
object_in r = do
  gap ← unused 29 r.after_kind
  object ← of_kind r.kind r
  after ← unused 56 r.after_last
  Ok object

-- the rows after the first byte of each message
unfoldable pub sel_in : Rows → Result Message WireFault
sel_in r = do
  vpe ← allowed 2 (nat_lt r.vpe VPES)
  index ← allowed 4 (nat_lt r.index (2 ^ 8))
  gap ← unused 6 r.after_index
  place ← place_at 8 r.first
  second ← unused 16 r.second
  rest ← no_job r
  Ok (ObtainReq place (SelTarget r.vpe r.index))

unfoldable pub serv_target_in : Rows → Result Message WireFault
serv_target_in r = do
  index ← no_index r
  place ← place_at 8 r.first
  service ← kind_key_at 16 4 r.second
  rest ← no_job r
  Ok (ObtainReq place (ServTarget service))

unfoldable pub offer_target_in : Rows → Result Message WireFault
offer_target_in r = do
  vpe ← unused 2 r.vpe
  index ← allowed 4 (nat_lt r.index (2 ^ 8))
  gap ← unused 6 r.after_index
  place ← place_at 8 r.first
  service ← kind_key_at 16 4 r.second
  rest ← no_job r
  Ok (ObtainReq place (OfferTarget service r.index))

abbrev pub obtain_req_in : Rows → Result Message WireFault
obtain_req_in r =
    if r.form == 1 then sel_in r
    else if r.form == 2 then serv_target_in r
    else if r.form == 3 then offer_target_in r
    else Err (Field 1)

unfoldable pub obtain_ok_in : Rows → Result Message WireFault
obtain_ok_in r = do
  form ← unused 1 r.form
  index ← no_index r
  parent ← key_at 8 r.first
  key ← key_at 16 r.second
  job ← unused 24 r.job
  kind ← allowed 28 (r.kind == kind_number key.kind)
  object ← object_in r
  Ok (ObtainOk parent key object)

unfoldable pub obtain_no_in : Rows → Result Message WireFault
obtain_no_in r = do
  code ← allowed 1 (is_in_range 1 15 r.form)
  index ← no_index r
  place ← place_at 8 r.first
  second ← unused 16 r.second
  rest ← no_job r
  Ok (ObtainNo place r.form)

unfoldable pub delegate_req_in : Rows → Result Message WireFault
delegate_req_in r = do
  form ← unused 1 r.form
  vpe ← allowed 2 (nat_lt r.vpe VPES)
  index ← allowed 4 (nat_lt r.index (2 ^ 8))
  gap ← unused 6 r.after_index
  parent ← key_at 8 r.first
  second ← unused 16 r.second
  job ← unused 24 r.job
  kind ← allowed 28 (is_in_range 1 3 r.kind && (r.kind == kind_number parent.kind))
  object ← object_in r
  Ok (DelegateReq parent object r.vpe r.index)

unfoldable pub delegate_no_in : Rows → Result Message WireFault
delegate_no_in r = do
  code ← allowed 1 (is_in_range 1 15 r.form)
  index ← no_index r
  parent ← key_at 8 r.first
  second ← unused 16 r.second
  rest ← no_job r
  Ok (DelegateNo parent r.form)

unfoldable pub ack_in : Rows → Result Message WireFault
ack_in r = do
  answer ← allowed 1 (nat_le r.form 1)
  index ← no_index r
  key ← key_at 8 r.first
  second ← unused 16 r.second
  rest ← no_job r
  Ok (Ack key (r.form == 1))

-- a parent and a key
unfoldable pub two_keys_in : Rows → Result (KeyName × KeyName) WireFault
two_keys_in r = do
  form ← unused 1 r.form
  index ← no_index r
  parent ← key_at 8 r.first
  key ← key_at 16 r.second
  rest ← no_job r
  Ok (parent, key)

abbrev pub of_two : (KeyName → KeyName → Message) → Rows → Result Message WireFault
of_two message r = do
  keys ← two_keys_in r
  Ok (message keys.0 keys.1)

unfoldable pub revoke_req_in : Rows → Result Message WireFault
revoke_req_in r = do
  form ← unused 1 r.form
  index ← no_index r
  key ← key_at 8 r.first
  second ← unused 16 r.second
  rest ← no_object r
  Ok (RevokeReq key r.job)

unfoldable pub revoke_done_in : Rows → Result Message WireFault
revoke_done_in r = do
  form ← unused 1 r.form
  index ← no_index r
  first ← unused 8 r.first
  second ← unused 16 r.second
  rest ← no_object r
  Ok (RevokeDone r.job)

-- the message, by the number in the first byte
abbrev pub message_read : Rows → Result Message WireFault
message_read r =
    if r.tag == 1 then obtain_req_in r
    else if r.tag == 2 then obtain_ok_in r
    else if r.tag == 3 then obtain_no_in r
    else if r.tag == 4 then delegate_req_in r
    else if r.tag == 5 then of_two DelegatePrepared r
    else if r.tag == 6 then delegate_no_in r
    else if r.tag == 7 then ack_in r
    else if r.tag == 8 then of_two Orphan r
    else if r.tag == 9 then revoke_req_in r
    else if r.tag == 10 then revoke_done_in r
    else if r.tag == 11 then of_two Unlink r
    else Err Tag
