-- A record has one message, and a message one record.
use Rattle.std.proofs.Common.{◌≡◌, ℕ, ◌^◌, ◌<◌, ◌≤◌, List, length, drop, Some, None, Result, Ok, Err, refl, sym, ap, subst, ◌∙◌, arith}
use Rattle.std.specs.Prelude.{◌↔◌}
use Rattle.std.proofs.Math.Nat.{one-le-pow}
use Rattle.byteorder.specs.Numbers.{big_from-lt}
use Rattle.sem_key.specs.declared.key.Kind.{Kind}
use Rattle.sem_key.specs.declared.key.Kind.TheVariants.{Mem as MemKind, Recv as RecvKind, Send as SendKind, Serv as ServKind, Sess as SessKind}
use Rattle.sem_key.specs.declared.object.Object.{Object}
use Rattle.sem_key.specs.declared.object.Object.TheVariants.{Mem, Recv, Send, Serv, Sess}
use Rattle.sem_key.specs.KeyName.{KeyName, IsValidKey, kind_number, packed}
use Rattle.sem_key.specs.PlaceName.{PlaceName, IsValidPlace}
use Rattle.sem_key.specs.ObjectRanges.{IsValidObject}
use Rattle.sem_msg.specs.declared.message.Target.TheVariants.{Sel as SelTarget, Serv as ServTarget, Offer as OfferTarget}
use Rattle.sem_msg.specs.declared.message.Message.TheVariants.{ObtainReq, ObtainOk, ObtainNo, DelegateReq, DelegatePrepared, DelegateNo, Ack, Orphan, RevokeReq}
use Rattle.sem_msg.specs.declared.message.Message.TheVariants.{RevokeDone, Unlink}
use Rattle.sem_msg.specs.declared.message.Message.{Message}
use Rattle.sem_msg.specs.Message.{Fits}
use Rattle.sem_wire.specs.declared.fault.WireFault.{WireFault}
use Rattle.sem_wire.specs.declared.rows.Rows.{Rows}
use Rattle.sem_wire.specs.Records.{blank, packed_place, record_of, rows_in, message_rows, spelled, with_object}
use Rattle.sem_wire.specs.Grammar.{wire_fault}
use Rattle.sem_wire.specs.Reading.{message_read}
use Rattle.sem_wire.specs.MessageOfBytes.{message_of, IsRecord}
use Rattle.sem_wire.proofs.Steps.{fault_in}
use Rattle.sem_wire.proofs.Faults.{reads_to_the_fault}
use Rattle.sem_wire.proofs.Decoded.{message_decoded}
use Rattle.sem_wire.proofs.Encoded.{message_again}
use Rattle.sem_wire.proofs.Spellings.{AreBytes, AreWide, bytes_drop, rows_again, spelled_again}

-- the numbers of a message that fits have room in their rows
small_kind : (kind : Kind) → kind_number kind ≤ 5
small_kind MemKind = omega arith
small_kind RecvKind = omega arith
small_kind SendKind = omega arith
small_kind ServKind = omega arith
small_kind SessKind = omega arith

key_wide : (k : KeyName) → IsValidKey k → packed k < 256 ^ 8
key_wide k v = let kind = small_kind k.kind in omega (arith, v.0, v.1, v.2, kind)

place_wide : (p : PlaceName) → IsValidPlace p → packed_place p < 256 ^ 8
place_wide p v = omega (arith, v.0, v.1, v.2)

nothing : (n : ℕ) → 0 < 256 ^ n
nothing n = let h = one-le-pow n 256 (omega arith) in omega arith

-- rows with the gaps of a message
wide : (r : Rows) → r.after_index ≡ 0 → r.after_kind ≡ 0 → r.after_last ≡ 0 → r.vpe < 256 ^ 2 → r.index < 256 ^ 2 → r.first < 256 ^ 8 → r.second < 256 ^ 8 →
    r.job < 256 ^ 4 → r.main < 256 ^ 8 → r.more < 256 ^ 8 → r.last < 256 ^ 8 → AreWide r
wide r gap6 gap29 gap56 vpe index first second job main more last = record {
  vpe = vpe;
  index = index;
  after_index = omega (arith, gap6);
  first = first;
  second = second;
  job = job;
  after_kind = omega (arith, gap29);
  main = main;
  more = more;
  last = last;
  after_last = omega (arith, gap56);
}

-- the same without an object
lone : (r : Rows) → r.after_index ≡ 0 → r.after_kind ≡ 0 → r.after_last ≡ 0 → r.main ≡ 0 → r.more ≡ 0 → r.last ≡ 0 → r.vpe < 256 ^ 2 → r.index < 256 ^ 2 →
    r.first < 256 ^ 8 → r.second < 256 ^ 8 → r.job < 256 ^ 4 → AreWide r
lone r gap6 gap29 gap56 main more last vpe index first second job =
    wide r gap6 gap29 gap56 vpe index first second job (omega (arith, main)) (omega (arith, more)) (omega (arith, last))

object_wide : (s : Rows) (o : Object) → IsValidObject o → AreWide s → AreWide (with_object o s)
object_wide s (Mem base len rights) v w = record {
  vpe = w.vpe;
  index = w.index;
  after_index = w.after_index;
  first = w.first;
  second = w.second;
  job = w.job;
  after_kind = w.after_kind;
  main = omega (arith, v.0);
  more = omega (arith, v.1);
  last = omega (arith, v.2);
  after_last = w.after_last;
}
object_wide s (Recv slots) v w = record {
  vpe = w.vpe;
  index = w.index;
  after_index = w.after_index;
  first = w.first;
  second = w.second;
  job = w.job;
  after_kind = w.after_kind;
  main = omega (arith, v.1);
  more = w.more;
  last = w.last;
  after_last = w.after_last;
}
object_wide s (Send gate label credits) v w = record {
  vpe = w.vpe;
  index = w.index;
  after_index = w.after_index;
  first = w.first;
  second = w.second;
  job = w.job;
  after_kind = w.after_kind;
  main = key_wide gate v.0;
  more = omega (arith, v.2);
  last = omega (arith, v.4);
  after_last = w.after_last;
}
object_wide s (Serv name) v w = record {
  vpe = w.vpe;
  index = w.index;
  after_index = w.after_index;
  first = w.first;
  second = w.second;
  job = w.job;
  after_kind = w.after_kind;
  main = omega (arith, v);
  more = w.more;
  last = w.last;
  after_last = w.after_last;
}
object_wide s (Sess service ident) v w = record {
  vpe = w.vpe;
  index = w.index;
  after_index = w.after_index;
  first = w.first;
  second = w.second;
  job = w.job;
  after_kind = w.after_kind;
  main = key_wide service v.0;
  more = omega (arith, v.2);
  last = w.last;
  after_last = w.after_last;
}

-- the numbers of a message that fits have room in their rows
rows_wide : (m : Message) → Fits m → AreWide (message_rows m)
rows_wide (ObtainReq p (SelTarget vpe sel)) v = lone _ refl refl refl refl refl refl (omega (arith, v.1.0)) (omega (arith, v.1.1)) (place_wide p v.0)
    (nothing 8) (nothing 4)
rows_wide (ObtainReq p (ServTarget k)) v = lone _ refl refl refl refl refl refl (nothing 2) (nothing 2) (place_wide p v.0) (key_wide k v.1.0) (nothing 4)
rows_wide (ObtainReq p (OfferTarget k n)) v = lone _ refl refl refl refl refl refl (nothing 2) (omega (arith, v.1.1)) (place_wide p v.0) (key_wide k v.1.0.0)
    (nothing 4)
rows_wide (ObtainOk parent key o) v =
    object_wide _ o v.2 (lone (record blank { tag = 2; first = packed parent; second = packed key }) refl refl refl refl refl refl (nothing 2) (nothing 2)
    (key_wide parent v.0) (key_wide key v.1) (nothing 4))
rows_wide (ObtainNo p code) v = lone _ refl refl refl refl refl refl (nothing 2) (nothing 2) (place_wide p v.0) (nothing 8) (nothing 4)
rows_wide (DelegateReq parent o vpe sel) v =
    object_wide _ o v.1 (lone (record blank { tag = 4; vpe = vpe; index = sel; first = packed parent }) refl refl refl refl refl refl (omega (arith, v.4))
    (omega (arith, v.5)) (key_wide parent v.0) (nothing 8) (nothing 4))
rows_wide (DelegatePrepared parent key) v = lone _ refl refl refl refl refl refl (nothing 2) (nothing 2) (key_wide parent v.0) (key_wide key v.1) (nothing 4)
rows_wide (DelegateNo parent code) v = lone _ refl refl refl refl refl refl (nothing 2) (nothing 2) (key_wide parent v.0) (nothing 8) (nothing 4)
rows_wide (Ack key yes') v = lone _ refl refl refl refl refl refl (nothing 2) (nothing 2) (key_wide key v) (nothing 8) (nothing 4)
rows_wide (Orphan parent key) v = lone _ refl refl refl refl refl refl (nothing 2) (nothing 2) (key_wide parent v.0) (key_wide key v.1) (nothing 4)
rows_wide (RevokeReq key job) v = lone _ refl refl refl refl refl refl (nothing 2) (nothing 2) (key_wide key v.0) (nothing 8) (omega (arith, v.1))
rows_wide (RevokeDone job) v = lone _ refl refl refl refl refl refl (nothing 2) (nothing 2) (nothing 8) (nothing 8) (omega (arith, v))
rows_wide (Unlink parent key) v = lone _ refl refl refl refl refl refl (nothing 2) (nothing 2) (key_wide parent v.0) (key_wide key v.1) (nothing 4)

-- the message is read off its own record
pub record_reads : (m : Message) → Fits m → message_read (rows_in (record_of m)) ≡ Ok m
record_reads m fits = ap message_read (rows_again (message_rows m) (rows_wide m fits)) ∙ message_again m fits

pub message_of_record : (m : Message) → Fits m → message_of (record_of m) ≡ m
unfolding message_of
message_of_record m fits = ap (λ r. elim r [ Ok x ↦ x | Err f ↦ RevokeDone 0 ]) (record_reads m fits)

pub one_message : (m n : Message) → Fits m → Fits n → record_of m ≡ record_of n → m ≡ n
one_message m n fits fits' same = sym (message_of_record m fits) ∙ ap message_of same ∙ message_of_record n fits'

some_fault : {f : WireFault} → Some f ≡ None → ⊥
some_fault e = absurd cc

module _ (bytes : List ℕ) (long : length bytes ≡ 64) (small : AreBytes bytes) where
  -- what is read off the rows of the bytes is the message of which they are the record
  pub read_exactly : (m : Message) → (message_read (rows_in bytes) ≡ Ok m) ↔ (Fits m × (record_of m ≡ bytes))
  read_exactly m = (there, back)
    where
      there : message_read (rows_in bytes) ≡ Ok m → Fits m × (record_of m ≡ bytes)
      there e =
          let d = message_decoded (rows_in bytes) m (big_from-lt 0 4 (drop 24 bytes) (bytes_drop 24 bytes small)) e in
          (d.fits, ap spelled d.rows ∙ spelled_again bytes long small)

      back : Fits m × (record_of m ≡ bytes) → message_read (rows_in bytes) ≡ Ok m
      back h = ap (λ b. message_read (rows_in b)) (sym h.1) ∙ record_reads m h.0

-- and it is refused exactly for the first row that is wrong
pub refused_exactly : (r : Rows) (f : WireFault) → (message_read r ≡ Err f) ↔ (wire_fault r ≡ Some f)
refused_exactly r f = (λ e. sym (reads_to_the_fault r) ∙ ap fault_in e, λ e. by_result (message_read r) (reads_to_the_fault r ∙ e))
  where
    by_result : (result : Result Message WireFault) → fault_in result ≡ Some f → result ≡ Err f
    by_result (Ok m) e = absurd cc
    by_result (Err g) e = cc

-- the grammar finds nothing wrong exactly with records
pub grammar_exact : (bytes : List ℕ) → length bytes ≡ 64 → AreBytes bytes →
    (wire_fault (rows_in bytes) ≡ None) ↔ ((m : Message) × Fits m × (record_of m ≡ bytes))
grammar_exact bytes long small = (λ e. by_result (message_read (rows_in bytes)) refl (reads_to_the_fault (rows_in bytes) ∙ e), back)
  where
    by_result : (result : Result Message WireFault) → message_read (rows_in bytes) ≡ result → fault_in (message_read (rows_in bytes)) ≡ None →
        (m : Message) × Fits m × (record_of m ≡ bytes)
    by_result (Ok m) e none = let found = (read_exactly bytes long small m).0 e in (m, found.0, found.1)
    by_result (Err f) e none = absurd (some_fault (sym (ap fault_in e) ∙ none))

    back : ((m : Message) × Fits m × (record_of m ≡ bytes)) → wire_fault (rows_in bytes) ≡ None
    back h = sym (reads_to_the_fault (rows_in bytes)) ∙ ap fault_in ((read_exactly bytes long small h.0).1 (h.1, h.2))

-- bytes that are a record are read as their message
pub record_is_read : (bytes : List ℕ) → IsRecord bytes → (result : Result Message WireFault) →
    ((m : Message) → ((result ≡ Ok m) ↔ (Fits m × (record_of m ≡ bytes)))) → result ≡ Ok (message_of bytes)
record_is_read bytes is result read = (read (message_of bytes)).1 is

-- the record of a message that fits
pub record_is : (m : Message) → Fits m → IsRecord (record_of m)
record_is m fits = let same = message_of_record m fits in (subst Fits (sym same) fits, ap record_of same)
