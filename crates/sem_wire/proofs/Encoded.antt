-- A message that fits is read off its own rows.
use Rattle.std.proofs.Common.{◌≡◌, ℕ, ◌+◌, ◌^◌, true, false, Ok, refl, sym, ap, subst, ◌∙◌, arith}
use Rattle.std.specs.Prelude.{◌==◌, nat_lt}
use Rattle.std.proofs.lemmas.Bool.{lt-ltb, le-leb}
use Rattle.sem_key.specs.declared.key.Kind.{Kind}
use Rattle.sem_key.specs.declared.key.Kind.TheVariants.{Mem as MemKind, Recv as RecvKind, Send as SendKind, Serv as ServKind, Sess as SessKind}
use Rattle.sem_key.specs.declared.limits.TheConstants.{VPES, SLOTS, ADDRESSES, RIGHTS}
use Rattle.sem_key.specs.declared.object.Object.{Object}
use Rattle.sem_key.specs.declared.object.Object.TheVariants.{Mem, Recv, Send, Serv, Sess}
use Rattle.sem_key.specs.KeyName.{KeyName, IsValidKey, kind_number, packed}
use Rattle.sem_key.specs.PlaceName.{PlaceName, IsValidPlace, keyed}
use Rattle.sem_key.specs.ObjectRanges.{object_kind, IsValidObject}
use Rattle.sem_msg.specs.declared.message.Target.TheVariants.{Sel as SelTarget, Serv as ServTarget, Offer as OfferTarget}
use Rattle.sem_msg.specs.declared.message.Message.{Message}
use Rattle.sem_msg.specs.declared.message.Message.TheVariants.{ObtainReq, ObtainOk, ObtainNo, DelegateReq, DelegatePrepared, DelegateNo, Ack, Orphan, RevokeReq}
use Rattle.sem_msg.specs.declared.message.Message.TheVariants.{RevokeDone, Unlink}
use Rattle.sem_msg.specs.Message.{Fits, IsDelegable}
use Rattle.sem_wire.specs.declared.rows.Rows.{Rows}
use Rattle.sem_wire.specs.Records.{blank, packed_place, message_rows, with_object}
use Rattle.sem_wire.specs.Grammar.{kind_in}
use Rattle.sem_wire.specs.Reading.{◌>>=◌, allowed, key_at, kind_key_at, place_at, no_index, no_object, no_job, mem_in, recv_in, send_in, serv_in, sess_in}
use Rattle.sem_wire.specs.Reading.{object_in, sel_in, serv_target_in, offer_target_in, obtain_ok_in, obtain_no_in, delegate_req_in, delegate_no_in, ack_in}
use Rattle.sem_wire.specs.Reading.{two_keys_in, revoke_req_in, revoke_done_in, message_read}
use Rattle.sem_wire.proofs.Words.{range_in, key_again, key_passes}

-- ---- one row

key_reads : (at : ℕ) (k : KeyName) → IsValidKey k → key_at at (packed k) ≡ Ok k
key_reads at k v = rw (key_passes k v) (ap (λ key. Ok key) (key_again k v))

kind_key_reads : (at : ℕ) (k : KeyName) → IsValidKey k → kind_key_at at (kind_number k.kind) (packed k) ≡ Ok k
unfolding kind_key_at
kind_key_reads at k v = rw (key_reads at k v) (same k.kind)
  where
    same : (kind : Kind) → (allowed at (kind_number kind == kind_number kind) >>= λ agrees. Ok k) ≡ Ok k
    same MemKind = refl
    same RecvKind = refl
    same SendKind = refl
    same ServKind = refl
    same SessKind = refl

kind_key_as : (at : ℕ) (k : KeyName) (kind : Kind) → IsValidKey k → k.kind ≡ kind → kind_key_at at (kind_number kind) (packed k) ≡ Ok k
kind_key_as at k kind v e = ap (λ kind. kind_key_at at (kind_number kind) (packed k)) (sym e) ∙ kind_key_reads at k v

place_reads : (at : ℕ) (p : PlaceName) → IsValidPlace p → place_at at (packed_place p) ≡ Ok p
unfolding place_at
place_reads at p v =
    let none : kind_in (packed_place p) ≡ 0 = omega (arith, v.0, v.1, v.2) in
    let word : packed_place p + 2 ^ 32 ≡ packed (keyed p MemKind) = omega arith in
    rw (none, word, key_reads at (keyed p MemKind) v) refl

-- ---- objects

-- rows in which an object is put
abbrev bare : Rows → Rows
bare s = record s { kind = 0; after_kind = 0; main = 0; more = 0; last = 0; after_last = 0 }

object_again : (s : Rows) (o : Object) → IsValidObject o → object_in (with_object o (bare s)) ≡ Ok o
unfolding object_in mem_in recv_in send_in serv_in sess_in
object_again s (Mem base len rights) v =
    rw (lt-ltb base (2 ^ 32) (omega (arith, v.0)), lt-ltb len (2 ^ 32) (omega (arith, v.1)), le-leb rights RIGHTS v.2, le-leb (base + len) ADDRESSES v.3) refl
object_again s (Recv slots) v = rw (range_in 1 SLOTS slots v.0 v.1) refl
object_again s (Send gate label credits) v =
    rw (kind_key_as 32 gate RecvKind v.0 v.1, lt-ltb label (2 ^ 32) (omega (arith, v.2)), range_in 1 SLOTS credits v.3 v.4) refl
object_again s (Serv name) v = rw (lt-ltb name (2 ^ 8) (omega (arith, v))) refl
object_again s (Sess service ident) v = rw (kind_key_as 32 service ServKind v.0 v.1, lt-ltb ident VPES v.2) refl

-- ---- messages

sel_again : (p : PlaceName) (vpe sel : ℕ) → Fits (ObtainReq p (SelTarget vpe sel)) →
    sel_in (message_rows (ObtainReq p (SelTarget vpe sel))) ≡ Ok (ObtainReq p (SelTarget vpe sel))
unfolding sel_in no_job no_object
sel_again p vpe sel v = rw (lt-ltb vpe VPES v.1.0, lt-ltb sel (2 ^ 8) (omega (arith, v.1.1)), place_reads 8 p v.0) refl

serv_target_again : (p : PlaceName) (k : KeyName) → Fits (ObtainReq p (ServTarget k)) →
    serv_target_in (message_rows (ObtainReq p (ServTarget k))) ≡ Ok (ObtainReq p (ServTarget k))
unfolding serv_target_in no_index no_job no_object
serv_target_again p k v = rw (place_reads 8 p v.0, kind_key_as 16 k ServKind v.1.0 v.1.1) refl

offer_again : (p : PlaceName) (k : KeyName) (n : ℕ) → Fits (ObtainReq p (OfferTarget k n)) →
    offer_target_in (message_rows (ObtainReq p (OfferTarget k n))) ≡ Ok (ObtainReq p (OfferTarget k n))
unfolding offer_target_in no_job no_object
offer_again p k n v = rw (lt-ltb n (2 ^ 8) (omega (arith, v.1.1)), place_reads 8 p v.0, kind_key_as 16 k ServKind v.1.0.0 v.1.0.1) refl

obtain_ok_again : (parent key : KeyName) (o : Object) → Fits (ObtainOk parent key o) →
    obtain_ok_in (message_rows (ObtainOk parent key o)) ≡ Ok (ObtainOk parent key o)
unfolding obtain_ok_in no_index
obtain_ok_again parent key o v = by_object o (object_again (record blank { tag = 2; first = packed parent; second = packed key }) o v.2) v.3
  where
    by_object : (o : Object) → object_in (with_object o (record blank { tag = 2; first = packed parent; second = packed key })) ≡ Ok o →
        key.kind ≡ object_kind o →
        obtain_ok_in (with_object o (record blank { tag = 2; first = packed parent; second = packed key })) ≡ Ok (ObtainOk parent key o)
    by_object (Mem base len rights) read kind = rw (key_reads 8 parent v.0, key_reads 16 key v.1, read, kind) refl
    by_object (Recv slots) read kind = rw (key_reads 8 parent v.0, key_reads 16 key v.1, read, kind) refl
    by_object (Send gate label credits) read kind = rw (key_reads 8 parent v.0, key_reads 16 key v.1, read, kind) refl
    by_object (Serv name) read kind = rw (key_reads 8 parent v.0, key_reads 16 key v.1, read, kind) refl
    by_object (Sess service ident) read kind = rw (key_reads 8 parent v.0, key_reads 16 key v.1, read, kind) refl

delegate_req_again : (parent : KeyName) (o : Object) (vpe sel : ℕ) → Fits (DelegateReq parent o vpe sel) →
    delegate_req_in (message_rows (DelegateReq parent o vpe sel)) ≡ Ok (DelegateReq parent o vpe sel)
unfolding delegate_req_in
delegate_req_again parent o vpe sel v = by_object o (object_again (record blank { tag = 4; vpe = vpe; index = sel; first = packed parent }) o v.1) v.2
    (subst IsDelegable v.2 v.3)
  where
    low : nat_lt sel (2 ^ 8) ≡ true
    low = lt-ltb sel (2 ^ 8) (omega (arith, v.5))

    by_object : (o : Object) → object_in (with_object o (record blank { tag = 4; vpe = vpe; index = sel; first = packed parent })) ≡ Ok o →
        parent.kind ≡ object_kind o → IsDelegable (object_kind o) →
        delegate_req_in (with_object o (record blank { tag = 4; vpe = vpe; index = sel; first = packed parent })) ≡ Ok (DelegateReq parent o vpe sel)
    by_object (Mem base len rights) again kind may = rw (lt-ltb vpe VPES v.4, low, key_reads 8 parent v.0, again, kind) refl
    by_object (Recv slots) again kind may = rw (lt-ltb vpe VPES v.4, low, key_reads 8 parent v.0, again, kind) refl
    by_object (Send gate label credits) again kind may = rw (lt-ltb vpe VPES v.4, low, key_reads 8 parent v.0, again, kind) refl
    by_object (Serv name) again kind may = absurd may
    by_object (Sess service ident) again kind may = absurd may

pub message_again : (m : Message) → Fits m → message_read (message_rows m) ≡ Ok m
unfolding obtain_no_in delegate_no_in ack_in two_keys_in revoke_req_in revoke_done_in no_index no_job no_object
message_again (ObtainReq p (SelTarget vpe sel)) v = sel_again p vpe sel v
message_again (ObtainReq p (ServTarget k)) v = serv_target_again p k v
message_again (ObtainReq p (OfferTarget k n)) v = offer_again p k n v
message_again (ObtainNo p code) v = rw (range_in 1 15 code v.1.0 v.1.1, place_reads 8 p v.0) refl
message_again (DelegatePrepared parent key) v = rw (key_reads 8 parent v.0, key_reads 16 key v.1) refl
message_again (DelegateNo parent code) v = rw (range_in 1 15 code v.1.0 v.1.1, key_reads 8 parent v.0) refl
message_again (Ack key true) v = rw (key_reads 8 key v) refl
message_again (Ack key false) v = rw (key_reads 8 key v) refl
message_again (Orphan parent key) v = rw (key_reads 8 parent v.0, key_reads 16 key v.1) refl
message_again (RevokeReq key job) v = rw (key_reads 8 key v.0) refl
message_again (RevokeDone job) v = refl
message_again (Unlink parent key) v = rw (key_reads 8 parent v.0, key_reads 16 key v.1) refl
message_again (ObtainOk parent key (Mem base len rights)) v = obtain_ok_again parent key (Mem base len rights) v
message_again (ObtainOk parent key (Recv slots)) v = obtain_ok_again parent key (Recv slots) v
message_again (ObtainOk parent key (Send gate label credits)) v = obtain_ok_again parent key (Send gate label credits) v
message_again (ObtainOk parent key (Serv name)) v = obtain_ok_again parent key (Serv name) v
message_again (ObtainOk parent key (Sess service ident)) v = obtain_ok_again parent key (Sess service ident) v
message_again (DelegateReq parent (Mem base len rights) vpe sel) v = delegate_req_again parent (Mem base len rights) vpe sel v
message_again (DelegateReq parent (Recv slots) vpe sel) v = delegate_req_again parent (Recv slots) vpe sel v
message_again (DelegateReq parent (Send gate label credits) vpe sel) v = delegate_req_again parent (Send gate label credits) vpe sel v
message_again (DelegateReq parent (Serv name) vpe sel) v = delegate_req_again parent (Serv name) vpe sel v
message_again (DelegateReq parent (Sess service ident) vpe sel) v = delegate_req_again parent (Sess service ident) vpe sel v
