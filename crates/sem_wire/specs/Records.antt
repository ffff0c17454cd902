-- Messages as records of 64 bytes: which row holds what ("Records" in docs/machine.md).
use Rattle.std.specs.Prelude.{ℕ, ◌+◌, ◌*◌, ◌^◌, cond, List, ◌∷◌, ◌++◌, drop, slice_index}
use Rattle.byteorder.specs.Endian.{big_bytes, big_number}
use Rattle.sem_msg.specs.Prelude.{Object, Mem, Recv, Send, Serv, Sess, PlaceName}
use Rattle.sem_key.specs.KeyName.{packed}
use Rattle.sem_msg.specs.declared.message.Target.TheVariants.{Sel as SelTarget, Serv as ServTarget}
use Rattle.sem_msg.specs.declared.message.Target.TheVariants.{Offer as OfferTarget}
use Rattle.sem_msg.specs.declared.message.Message.{Message}
use Rattle.sem_msg.specs.declared.message.Message.TheVariants.{ObtainReq, ObtainOk, ObtainNo, DelegateReq}
use Rattle.sem_msg.specs.declared.message.Message.TheVariants.{DelegatePrepared, DelegateNo, Ack, Orphan, RevokeReq}
use Rattle.sem_msg.specs.declared.message.Message.TheVariants.{RevokeDone, Unlink}
use Rattle.sem_wire.specs.declared.rows.Rows.{Rows}

-- the word of a place: that of a key, with 0 in place of the kind
abbrev pub packed_place : PlaceName → ℕ
packed_place p = p.pe * 2 ^ 56 + p.vpe * 2 ^ 40 + p.number

-- empty rows
abbrev pub blank : Rows
blank = record {
  tag = 0;
  form = 0;
  vpe = 0;
  index = 0;
  after_index = 0;
  first = 0;
  second = 0;
  job = 0;
  kind = 0;
  after_kind = 0;
  main = 0;
  more = 0;
  last = 0;
  after_last = 0;
}

-- the numbers of an object
abbrev pub with_object : Object → Rows → Rows
with_object (Mem base len rights) r = record r { kind = 1; main = base; more = len; last = rights }
with_object (Recv slots) r = record r { kind = 2; main = slots }
with_object (Send gate label credits) r = record r { kind = 3; main = packed gate; more = label; last = credits }
with_object (Serv name) r = record r { kind = 4; main = name }
with_object (Sess service ident) r = record r { kind = 5; main = packed service; more = ident }

-- the numbers of a message
abbrev pub message_rows : Message → Rows
message_rows (ObtainReq place (SelTarget vpe sel)) = record blank {
  tag = 1;
  form = 1;
  vpe = vpe;
  index = sel;
  first = packed_place place;
}
message_rows (ObtainReq place (ServTarget service)) = record blank {
  tag = 1;
  form = 2;
  first = packed_place place;
  second = packed service;
}
message_rows (ObtainReq place (OfferTarget service index)) = record blank {
  tag = 1;
  form = 3;
  index = index;
  first = packed_place place;
  second = packed service;
}
message_rows (ObtainOk parent key object) =
    with_object object (record blank { tag = 2; first = packed parent; second = packed key })
message_rows (ObtainNo place code) = record blank { tag = 3; form = code; first = packed_place place }
message_rows (DelegateReq parent object vpe sel) =
    with_object object (record blank { tag = 4; vpe = vpe; index = sel; first = packed parent })
message_rows (DelegatePrepared parent key) = record blank { tag = 5; first = packed parent; second = packed key }
message_rows (DelegateNo parent code) = record blank { tag = 6; form = code; first = packed parent }
message_rows (Ack key yes') = record blank { tag = 7; form = cond yes' 1 0; first = packed key }
message_rows (Orphan parent key) = record blank { tag = 8; first = packed parent; second = packed key }
message_rows (RevokeReq key job) = record blank { tag = 9; first = packed key; job = job }
message_rows (RevokeDone job) = record blank { tag = 10; job = job }
message_rows (Unlink parent key) = record blank { tag = 11; first = packed parent; second = packed key }

-- the bytes of the rows, the most significant of each number first
abbrev pub spelled : Rows → List ℕ
spelled r =
    r.tag ∷ r.form ∷ big_bytes 2 r.vpe ++ big_bytes 2 r.index ++ big_bytes 2 r.after_index ++ big_bytes 8 r.first
    ++ big_bytes 8 r.second ++ big_bytes 4 r.job ++ (r.kind ∷ big_bytes 3 r.after_kind) ++ big_bytes 8 r.main
    ++ big_bytes 8 r.more ++ big_bytes 8 r.last ++ big_bytes 8 r.after_last

-- the record of a message
abbrev pub record_of : Message → List ℕ
record_of m = spelled (message_rows m)

-- the numbers in the rows of 64 bytes
abbrev pub rows_in : List ℕ → Rows
rows_in bytes = record {
  tag = slice_index bytes 0;
  form = slice_index bytes 1;
  vpe = big_number 2 (drop 2 bytes);
  index = big_number 2 (drop 4 bytes);
  after_index = big_number 2 (drop 6 bytes);
  first = big_number 8 (drop 8 bytes);
  second = big_number 8 (drop 16 bytes);
  job = big_number 4 (drop 24 bytes);
  kind = slice_index bytes 28;
  after_kind = big_number 3 (drop 29 bytes);
  main = big_number 8 (drop 32 bytes);
  more = big_number 8 (drop 40 bytes);
  last = big_number 8 (drop 48 bytes);
  after_last = big_number 8 (drop 56 bytes);
}
