-- The message that was read fits, and its numbers are those in the rows.
use Rattle.std.proofs.Common.{◌≡◌, ℕ, zero, suc, ◌+◌, ◌^◌, ◌<◌, ◌≤◌, Bool, true, false, cond, Some, None, Result, Ok, Err, refl, sym, ap, subst, ◌∙◌, arith}
use Rattle.std.specs.Prelude.{◌&&◌, ◌==◌, nat_lt, nat_le, if◌then◌else◌}
use Rattle.std.specs.Int.{is_in_range}
use Rattle.std.proofs.lemmas.Bool.{ltb-true, leb-true, eqb-true, ne_eqb}
use Rattle.sem_key.specs.declared.key.Kind.{Kind}
use Rattle.sem_key.specs.declared.key.Kind.TheVariants.{Mem as MemKind, Recv as RecvKind, Send as SendKind, Serv as ServKind, Sess as SessKind}
use Rattle.sem_key.specs.declared.limits.TheConstants.{VPES}
use Rattle.sem_key.specs.KeyName.{KeyName, IsValidKey, kind_number, packed}
use Rattle.sem_msg.specs.declared.message.Target.TheVariants.{Sel as SelTarget, Serv as ServTarget, Offer as OfferTarget}
use Rattle.sem_msg.specs.declared.message.Message.{Message}
use Rattle.sem_msg.specs.declared.message.Message.TheVariants.{ObtainReq, ObtainOk, ObtainNo, DelegateReq, DelegatePrepared, DelegateNo, Ack, Orphan, RevokeReq}
use Rattle.sem_msg.specs.declared.message.Message.TheVariants.{RevokeDone, Unlink}
use Rattle.sem_msg.specs.Message.{Fits, IsDelegable}
use Rattle.sem_wire.specs.declared.fault.WireFault.{WireFault}
use Rattle.sem_wire.specs.declared.fault.WireFault.TheVariants.{Tag, Field}
use Rattle.sem_wire.specs.declared.rows.Rows.{Rows}
use Rattle.sem_wire.specs.Records.{blank, message_rows}
use Rattle.sem_wire.specs.Grammar.{grammar, first_wire_fault}
use Rattle.sem_wire.specs.Reading.{◌>>=◌, allowed, unused, key_in, key_at, kind_key_at, place_at, no_index, no_object, no_job, object_in, sel_in}
use Rattle.sem_wire.specs.Reading.{serv_target_in, offer_target_in, obtain_req_in, obtain_ok_in, obtain_no_in, delegate_req_in, delegate_no_in, ack_in, two_keys_in}
use Rattle.sem_wire.specs.Reading.{of_two, revoke_req_in, revoke_done_in, message_read}
use Rattle.sem_wire.proofs.SameRows.{same_rows}
use Rattle.sem_wire.proofs.Words.{both, in_range, out_of_range, word_again}
use Rattle.sem_wire.proofs.Steps.{fault_in, place_of}
use Rattle.sem_wire.proofs.Faults.{reads_to_the_fault}
use Rattle.sem_wire.proofs.Inverses.{ok_is, bind_ok, allowed_ok, unused_ok, key_ok, kind_key_ok, place_ok, place_again, no_index_ok, end_ok, rest_ok}
use Rattle.sem_wire.proofs.Objects.{object_read, same_kind}

pub record IsDecoded (r : Rows) (m : Message) : Type 0 where
  pub fits : Fits m
  pub rows : message_rows m ≡ r

-- a reader of the messages of that number
abbrev Decodes : ℕ → (Rows → Result Message WireFault) → Type 0
Decodes tag reader = (r : Rows) (m : Message) → reader (record r { tag = tag }) ≡ Ok m → IsDecoded (record r { tag = tag }) m

-- the kinds of keys by their numbers
ranged_kind : (kind : Kind) → is_in_range 1 5 (kind_number kind) ≡ true
ranged_kind MemKind = refl
ranged_kind RecvKind = refl
ranged_kind SendKind = refl
ranged_kind ServKind = refl
ranged_kind SessKind = refl

delegable_kind : (kind : Kind) → is_in_range 1 3 (kind_number kind) ≡ true → IsDelegable kind
delegable_kind MemKind e = tt
delegable_kind RecvKind e = tt
delegable_kind SendKind e = tt
delegable_kind ServKind e = absurd cc
delegable_kind SessKind e = absurd cc

no_fault : {f : WireFault} → None ≡ Some f → ⊥
no_fault e = absurd cc

refused : {f : WireFault} {m : Message} → Err f ≡ Ok m → ⊥
refused e = absurd cc

-- ---- requests for capabilities

sel_decoded : (r : Rows) (m : Message) → sel_in (record r { tag = 1; form = 1 }) ≡ Ok m → IsDecoded (record r { tag = 1; form = 1 }) m
unfolding sel_in
sel_decoded r m e =
    let s : Rows = record r { tag = 1; form = 1 } in
    let place = place_of (key_in (r.first + 2 ^ 32)) in
    let made : Message = ObtainReq place (SelTarget r.vpe r.index) in
    let vpe = allowed_ok 2 (nat_lt r.vpe VPES) (λ _. allowed 4 (nat_lt r.index (2 ^ 8)) >>= λ _. unused 6 r.after_index >>= λ _. place_at 8 r.first >>= λ place.
    unused 16 r.second >>= λ _. no_job s >>= λ _. Ok (ObtainReq place (SelTarget r.vpe r.index))) m e in
    let index = allowed_ok 4 (nat_lt r.index (2 ^ 8))
    (λ _. unused 6 r.after_index >>= λ _. place_at 8 r.first >>= λ place. unused 16 r.second >>= λ _. no_job s >>= λ _. Ok
    (ObtainReq place (SelTarget r.vpe r.index))) m vpe.1 in
    let gap = unused_ok 6 r.after_index (λ _. place_at 8 r.first >>= λ place. unused 16 r.second >>= λ _. no_job s >>= λ _. Ok
    (ObtainReq place (SelTarget r.vpe r.index))) m index.1 in
    let first = place_ok 8 r.first (λ place. unused 16 r.second >>= λ _. no_job s >>= λ _. Ok (ObtainReq place (SelTarget r.vpe r.index))) m gap.1 in
    let second = unused_ok 16 r.second (λ _. no_job s >>= λ _. Ok made) m first.2 in
    let rest = rest_ok s made m second.1 in
    let word = place_again r.first first.0 first.1 in
    let low : r.index < 2 ^ 8 = ltb-true _ _ index.0 in
    subst (IsDecoded s) rest.2 (record {
      fits = (word.0, (ltb-true _ _ vpe.0, omega (arith, low)));
      rows = same_rows (message_rows made) s refl refl refl refl (sym gap.0) word.1 (sym second.0) (sym rest.0) (sym rest.1.kind) (sym rest.1.after_kind)
          (sym rest.1.main) (sym rest.1.more) (sym rest.1.last) (sym rest.1.after_last);
    })

serv_target_decoded : (r : Rows) (m : Message) → serv_target_in (record r { tag = 1; form = 2 }) ≡ Ok m → IsDecoded (record r { tag = 1; form = 2 }) m
unfolding serv_target_in
serv_target_decoded r m e =
    let s : Rows = record r { tag = 1; form = 2 } in
    let place = place_of (key_in (r.first + 2 ^ 32)) in
    let made : Message = ObtainReq place (ServTarget (key_in r.second)) in
    let none = no_index_ok s (λ _. place_at 8 r.first >>= λ place. kind_key_at 16 4 r.second >>= λ service. no_job s >>= λ _. Ok
    (ObtainReq place (ServTarget service))) m e in
    let first = place_ok 8 r.first (λ place. kind_key_at 16 4 r.second >>= λ service. no_job s >>= λ _. Ok (ObtainReq place (ServTarget service))) m none.1 in
    let second = kind_key_ok 16 4 r.second (λ service. no_job s >>= λ _. Ok (ObtainReq place (ServTarget service))) m first.2 in
    let rest = rest_ok s made m second.2 in
    let word = place_again r.first first.0 first.1 in
    let service = word_again r.second second.0 in
    subst (IsDecoded s) rest.2 (record {
      fits = (word.0, (service.0, same_kind _ ServKind second.1));
      rows = same_rows (message_rows made) s refl refl (sym none.0.vpe) (sym none.0.index) (sym none.0.after_index) word.1 service.1 (sym rest.0) (sym rest.1.kind)
          (sym rest.1.after_kind) (sym rest.1.main) (sym rest.1.more) (sym rest.1.last) (sym rest.1.after_last);
    })

offer_decoded : (r : Rows) (m : Message) → offer_target_in (record r { tag = 1; form = 3 }) ≡ Ok m → IsDecoded (record r { tag = 1; form = 3 }) m
unfolding offer_target_in
offer_decoded r m e =
    let s : Rows = record r { tag = 1; form = 3 } in
    let place = place_of (key_in (r.first + 2 ^ 32)) in
    let made : Message = ObtainReq place (OfferTarget (key_in r.second) r.index) in
    let vpe = unused_ok 2 r.vpe (λ _. allowed 4 (nat_lt r.index (2 ^ 8)) >>= λ _. unused 6 r.after_index >>= λ _. place_at 8 r.first >>= λ place. kind_key_at 16
    4 r.second >>= λ service. no_job s >>= λ _. Ok (ObtainReq place (OfferTarget service r.index))) m e in
    let index = allowed_ok 4 (nat_lt r.index (2 ^ 8))
    (λ _. unused 6 r.after_index >>= λ _. place_at 8 r.first >>= λ place. kind_key_at 16 4 r.second >>= λ service. no_job s >>= λ _. Ok
    (ObtainReq place (OfferTarget service r.index))) m vpe.1 in
    let gap = unused_ok 6 r.after_index (λ _. place_at 8 r.first >>= λ place. kind_key_at 16 4 r.second >>= λ service. no_job s >>= λ _. Ok
    (ObtainReq place (OfferTarget service r.index))) m index.1 in
    let first = place_ok 8 r.first (λ place. kind_key_at 16 4 r.second >>= λ service. no_job s >>= λ _. Ok (ObtainReq place (OfferTarget service r.index))) m
    gap.1 in
    let second = kind_key_ok 16 4 r.second (λ service. no_job s >>= λ _. Ok (ObtainReq place (OfferTarget service r.index))) m first.2 in
    let rest = rest_ok s made m second.2 in
    let word = place_again r.first first.0 first.1 in
    let service = word_again r.second second.0 in
    let low : r.index < 2 ^ 8 = ltb-true _ _ index.0 in
    subst (IsDecoded s) rest.2 (record {
      fits = (word.0, ((service.0, same_kind _ ServKind second.1), omega (arith, low)));
      rows = same_rows (message_rows made) s refl refl (sym vpe.0) refl (sym gap.0) word.1 service.1 (sym rest.0) (sym rest.1.kind) (sym rest.1.after_kind)
          (sym rest.1.main) (sym rest.1.more) (sym rest.1.last) (sym rest.1.after_last);
    })

obtain_req_decoded : Decodes 1 obtain_req_in
obtain_req_decoded r m e = by_form r.form r e
  where
    by_form : (form : ℕ) (r : Rows) → obtain_req_in (record r { tag = 1; form = form }) ≡ Ok m → IsDecoded (record r { tag = 1; form = form }) m
    by_form zero r e = absurd cc
    by_form (suc zero) r e = sel_decoded r m e
    by_form (suc (suc zero)) r e = serv_target_decoded r m e
    by_form (suc (suc (suc zero))) r e = offer_decoded r m e
    by_form (suc (suc (suc (suc n)))) r e =
        absurd (others (record r { tag = 1; form = suc (suc (suc (suc n))) }) (λ k lt. ne_eqb _ k (λ same. omega (arith, lt, same))) e)
      where
        others : (s : Rows) → ((k : ℕ) → k < 4 → (s.form == k) ≡ false) → obtain_req_in s ≡ Ok m → ⊥
        others s none e = refused (subst (λ b. (if b then offer_target_in s else Err (Field 1)) ≡ Ok m) (none 3 (omega arith))
            (subst (λ b. (if b then serv_target_in s else if s.form == 3 then offer_target_in s else Err (Field 1)) ≡ Ok m) (none 2 (omega arith))
            (subst (λ b. (if b then sel_in s else if s.form == 2 then serv_target_in s else if s.form == 3 then offer_target_in s else Err (Field 1)) ≡ Ok m)
            (none 1 (omega arith)) e)))

-- ---- the others

obtain_no_decoded : Decodes 3 obtain_no_in
unfolding obtain_no_in
obtain_no_decoded r m e =
    let s : Rows = record r { tag = 3 } in
    let made : Message = ObtainNo (place_of (key_in (r.first + 2 ^ 32))) r.form in
    let code = allowed_ok 1 (is_in_range 1 15 r.form) (λ _. no_index s >>= λ _. place_at 8 r.first >>= λ place. unused 16 r.second >>= λ _. no_job s >>= λ _. Ok
    (ObtainNo place r.form)) m e in
    let none = no_index_ok s (λ _. place_at 8 r.first >>= λ place. unused 16 r.second >>= λ _. no_job s >>= λ _. Ok (ObtainNo place r.form)) m code.1 in
    let first = place_ok 8 r.first (λ place. unused 16 r.second >>= λ _. no_job s >>= λ _. Ok (ObtainNo place r.form)) m none.1 in
    let second = unused_ok 16 r.second (λ _. no_job s >>= λ _. Ok made) m first.2 in
    let rest = rest_ok s made m second.1 in
    let word = place_again r.first first.0 first.1 in
    let range = in_range 1 15 r.form code.0 in
    subst (IsDecoded s) rest.2 (record {
      fits = (word.0, (range.0, range.1));
      rows = same_rows (message_rows made) s refl refl (sym none.0.vpe) (sym none.0.index) (sym none.0.after_index) word.1 (sym second.0) (sym rest.0)
          (sym rest.1.kind) (sym rest.1.after_kind) (sym rest.1.main) (sym rest.1.more) (sym rest.1.last) (sym rest.1.after_last);
    })

delegate_no_decoded : Decodes 6 delegate_no_in
unfolding delegate_no_in
delegate_no_decoded r m e =
    let s : Rows = record r { tag = 6 } in
    let made : Message = DelegateNo (key_in r.first) r.form in
    let code = allowed_ok 1 (is_in_range 1 15 r.form) (λ _. no_index s >>= λ _. key_at 8 r.first >>= λ parent. unused 16 r.second >>= λ _. no_job s >>= λ _. Ok
    (DelegateNo parent r.form)) m e in
    let none = no_index_ok s (λ _. key_at 8 r.first >>= λ parent. unused 16 r.second >>= λ _. no_job s >>= λ _. Ok (DelegateNo parent r.form)) m code.1 in
    let first = key_ok 8 r.first (λ parent. unused 16 r.second >>= λ _. no_job s >>= λ _. Ok (DelegateNo parent r.form)) m none.1 in
    let second = unused_ok 16 r.second (λ _. no_job s >>= λ _. Ok made) m first.1 in
    let rest = rest_ok s made m second.1 in
    let word = word_again r.first first.0 in
    let range = in_range 1 15 r.form code.0 in
    subst (IsDecoded s) rest.2 (record {
      fits = (word.0, (range.0, range.1));
      rows = same_rows (message_rows made) s refl refl (sym none.0.vpe) (sym none.0.index) (sym none.0.after_index) word.1 (sym second.0) (sym rest.0)
          (sym rest.1.kind) (sym rest.1.after_kind) (sym rest.1.main) (sym rest.1.more) (sym rest.1.last) (sym rest.1.after_last);
    })

-- yes or no
flag : (n : ℕ) → n ≤ 1 → cond (n == 1) 1 0 ≡ n
flag zero le = refl
flag (suc zero) le = refl
flag (suc (suc n)) le = absurd (omega (arith, le))

ack_decoded : Decodes 7 ack_in
unfolding ack_in
ack_decoded r m e =
    let s : Rows = record r { tag = 7 } in
    let made : Message = Ack (key_in r.first) (r.form == 1) in
    let answer = allowed_ok 1 (nat_le r.form 1) (λ _. no_index s >>= λ _. key_at 8 r.first >>= λ key. unused 16 r.second >>= λ _. no_job s >>= λ _. Ok
    (Ack key (r.form == 1))) m e in
    let none = no_index_ok s (λ _. key_at 8 r.first >>= λ key. unused 16 r.second >>= λ _. no_job s >>= λ _. Ok (Ack key (r.form == 1))) m answer.1 in
    let first = key_ok 8 r.first (λ key. unused 16 r.second >>= λ _. no_job s >>= λ _. Ok (Ack key (r.form == 1))) m none.1 in
    let second = unused_ok 16 r.second (λ _. no_job s >>= λ _. Ok made) m first.1 in
    let rest = rest_ok s made m second.1 in
    let word = word_again r.first first.0 in
    subst (IsDecoded s) rest.2 (record {
      fits = word.0;
      rows = same_rows (message_rows made) s refl (flag r.form (leb-true _ _ answer.0)) (sym none.0.vpe) (sym none.0.index) (sym none.0.after_index) word.1
          (sym second.0) (sym rest.0) (sym rest.1.kind) (sym rest.1.after_kind) (sym rest.1.main) (sym rest.1.more) (sym rest.1.last) (sym rest.1.after_last);
    })

-- a parent and a key, and nothing else
record IsTwoKeys (r : Rows) (keys : KeyName × KeyName) : Type 0 where
  parent : IsValidKey keys.0
  key : IsValidKey keys.1
  rows : (tag : ℕ) → record {
    tag = tag;
    form = 0;
    vpe = 0;
    index = 0;
    after_index = 0;
    first = packed keys.0;
    second = packed keys.1;
    job = 0;
    kind = 0;
    after_kind = 0;
    main = 0;
    more = 0;
    last = 0;
    after_last = 0;
  } ≡ record r { tag = tag }

two_keys_decoded : (r : Rows) (keys : KeyName × KeyName) → two_keys_in r ≡ Ok keys → IsTwoKeys r keys
unfolding two_keys_in
two_keys_decoded r keys e =
    let made : KeyName × KeyName = (key_in r.first, key_in r.second) in
    let form = unused_ok 1 r.form (λ _. no_index r >>= λ _. key_at 8 r.first >>= λ parent. key_at 16 r.second >>= λ key. no_job r >>= λ _. Ok (parent, key))
    keys e in
    let none = no_index_ok r (λ _. key_at 8 r.first >>= λ parent. key_at 16 r.second >>= λ key. no_job r >>= λ _. Ok (parent, key)) keys form.1 in
    let first = key_ok 8 r.first (λ parent. key_at 16 r.second >>= λ key. no_job r >>= λ _. Ok (parent, key)) keys none.1 in
    let second = key_ok 16 r.second (λ key. no_job r >>= λ _. Ok (key_in r.first, key)) keys first.1 in
    let rest = rest_ok r made keys second.1 in
    let one = word_again r.first first.0 in
    let two = word_again r.second second.0 in
    subst (IsTwoKeys r) rest.2 (record {
      parent = one.0;
      key = two.0;
      rows = λ tag. same_rows _ (record r { tag = tag }) refl (sym form.0) (sym none.0.vpe) (sym none.0.index) (sym none.0.after_index) one.1 two.1 (sym rest.0)
          (sym rest.1.kind) (sym rest.1.after_kind) (sym rest.1.main) (sym rest.1.more) (sym rest.1.last) (sym rest.1.after_last);
    })

prepared_decoded : Decodes 5 (of_two DelegatePrepared)
prepared_decoded r m e =
    let b = bind_ok (two_keys_in (record r { tag = 5 })) (λ keys. Ok (DelegatePrepared keys.0 keys.1)) m e in
    let two = two_keys_decoded (record r { tag = 5 }) b.0 b.1 in
    subst (IsDecoded (record r { tag = 5 })) (ok_is _ m b.2) (record { fits = (two.parent, two.key); rows = two.rows 5 })

orphan_decoded : Decodes 8 (of_two Orphan)
orphan_decoded r m e =
    let b = bind_ok (two_keys_in (record r { tag = 8 })) (λ keys. Ok (Orphan keys.0 keys.1)) m e in
    let two = two_keys_decoded (record r { tag = 8 }) b.0 b.1 in
    subst (IsDecoded (record r { tag = 8 })) (ok_is _ m b.2) (record { fits = (two.parent, two.key); rows = two.rows 8 })

unlink_decoded : Decodes 11 (of_two Unlink)
unlink_decoded r m e =
    let b = bind_ok (two_keys_in (record r { tag = 11 })) (λ keys. Ok (Unlink keys.0 keys.1)) m e in
    let two = two_keys_decoded (record r { tag = 11 }) b.0 b.1 in
    subst (IsDecoded (record r { tag = 11 })) (ok_is _ m b.2) (record { fits = (two.parent, two.key); rows = two.rows 11 })

revoke_req_decoded : (r : Rows) (m : Message) → r.job < 2 ^ 32 → revoke_req_in (record r { tag = 9 }) ≡ Ok m → IsDecoded (record r { tag = 9 }) m
unfolding revoke_req_in
revoke_req_decoded r m low e =
    let s : Rows = record r { tag = 9 } in
    let made : Message = RevokeReq (key_in r.first) r.job in
    let form = unused_ok 1 r.form (λ _. no_index s >>= λ _. key_at 8 r.first >>= λ key. unused 16 r.second >>= λ _. no_object s >>= λ _. Ok
    (RevokeReq key r.job)) m e in
    let none = no_index_ok s (λ _. key_at 8 r.first >>= λ key. unused 16 r.second >>= λ _. no_object s >>= λ _. Ok (RevokeReq key r.job)) m form.1 in
    let first = key_ok 8 r.first (λ key. unused 16 r.second >>= λ _. no_object s >>= λ _. Ok (RevokeReq key r.job)) m none.1 in
    let second = unused_ok 16 r.second (λ _. no_object s >>= λ _. Ok made) m first.1 in
    let rest = end_ok s made m second.1 in
    let word = word_again r.first first.0 in
    subst (IsDecoded s) rest.1 (record {
      fits = (word.0, omega (arith, low));
      rows = same_rows (message_rows made) s refl (sym form.0) (sym none.0.vpe) (sym none.0.index) (sym none.0.after_index) word.1 (sym second.0) refl
          (sym rest.0.kind) (sym rest.0.after_kind) (sym rest.0.main) (sym rest.0.more) (sym rest.0.last) (sym rest.0.after_last);
    })

revoke_done_decoded : (r : Rows) (m : Message) → r.job < 2 ^ 32 → revoke_done_in (record r { tag = 10 }) ≡ Ok m → IsDecoded (record r { tag = 10 }) m
unfolding revoke_done_in
revoke_done_decoded r m low e =
    let s : Rows = record r { tag = 10 } in
    let made : Message = RevokeDone r.job in
    let form = unused_ok 1 r.form (λ _. no_index s >>= λ _. unused 8 r.first >>= λ _. unused 16 r.second >>= λ _. no_object s >>= λ _. Ok made) m e in
    let none = no_index_ok s (λ _. unused 8 r.first >>= λ _. unused 16 r.second >>= λ _. no_object s >>= λ _. Ok made) m form.1 in
    let first = unused_ok 8 r.first (λ _. unused 16 r.second >>= λ _. no_object s >>= λ _. Ok made) m none.1 in
    let second = unused_ok 16 r.second (λ _. no_object s >>= λ _. Ok made) m first.1 in
    let rest = end_ok s made m second.1 in
    subst (IsDecoded s) rest.1 (record {
      fits = omega (arith, low);
      rows = same_rows (message_rows made) s refl (sym form.0) (sym none.0.vpe) (sym none.0.index) (sym none.0.after_index) (sym first.0) (sym second.0) refl
          (sym rest.0.kind) (sym rest.0.after_kind) (sym rest.0.main) (sym rest.0.more) (sym rest.0.last) (sym rest.0.after_last);
    })

obtain_ok_decoded : Decodes 2 obtain_ok_in
unfolding obtain_ok_in
obtain_ok_decoded r m e =
    let s : Rows = record r { tag = 2 } in
    let form = unused_ok 1 r.form (λ _. no_index s >>= λ _. key_at 8 r.first >>= λ parent. key_at 16 r.second >>= λ key. unused 24 r.job >>= λ _. allowed 28
    (r.kind == kind_number key.kind) >>= λ _. object_in s >>= λ object. Ok (ObtainOk parent key object)) m e in
    let none = no_index_ok s (λ _. key_at 8 r.first >>= λ parent. key_at 16 r.second >>= λ key. unused 24 r.job >>= λ _. allowed 28
    (r.kind == kind_number key.kind) >>= λ _. object_in s >>= λ object. Ok (ObtainOk parent key object)) m form.1 in
    let first = key_ok 8 r.first (λ parent. key_at 16 r.second >>= λ key. unused 24 r.job >>= λ _. allowed 28 (r.kind == kind_number key.kind) >>= λ _.
    object_in s >>= λ object. Ok (ObtainOk parent key object)) m none.1 in
    let second = key_ok 16 r.second (λ key. unused 24 r.job >>= λ _. allowed 28 (r.kind == kind_number key.kind) >>= λ _. object_in s >>= λ object. Ok
    (ObtainOk (key_in r.first) key object)) m first.1 in
    let job = unused_ok 24 r.job (λ _. allowed 28 (r.kind == kind_number (key_in r.second).kind) >>= λ _. object_in s >>= λ object. Ok
    (ObtainOk (key_in r.first) (key_in r.second) object)) m second.1 in
    let kind = allowed_ok 28 (r.kind == kind_number (key_in r.second).kind)
    (λ _. object_in s >>= λ object. Ok (ObtainOk (key_in r.first) (key_in r.second) object)) m job.1 in
    let found = bind_ok (object_in s) (λ object. Ok (ObtainOk (key_in r.first) (key_in r.second) object)) m kind.1 in
    let agrees : r.kind ≡ kind_number (key_in r.second).kind = eqb-true _ _ kind.0 in
    let object = object_read s found.0 (ap (is_in_range 1 5) agrees ∙ ranged_kind (key_in r.second).kind) found.1 in
    let one = word_again r.first first.0 in
    let two = word_again r.second second.0 in
    subst (IsDecoded s) (ok_is (ObtainOk (key_in r.first) (key_in r.second) found.0) m found.2) (record {
      fits = (one.0, two.0, object.2.valid, same_kind _ _ (sym agrees ∙ sym object.2.kind));
      rows = object.2.rows (record blank { tag = 2; first = packed (key_in r.first); second = packed (key_in r.second) })
          ∙ same_rows _ s refl (sym form.0) (sym none.0.vpe) (sym none.0.index) (sym none.0.after_index) one.1 two.1 (sym job.0) refl
          (sym object.0) refl refl refl (sym object.1);
    })

delegate_req_decoded : Decodes 4 delegate_req_in
unfolding delegate_req_in
delegate_req_decoded r m e =
    let s : Rows = record r { tag = 4 } in
    let delegable : KeyName → Bool = λ parent. is_in_range 1 3 r.kind && (r.kind == kind_number parent.kind) in
    let form = unused_ok 1 r.form (λ _. allowed 2 (nat_lt r.vpe VPES) >>= λ _. allowed 4 (nat_lt r.index (2 ^ 8)) >>= λ _. unused 6 r.after_index >>= λ _.
    key_at 8 r.first >>= λ parent. unused 16 r.second >>= λ _. unused 24 r.job >>= λ _. allowed 28 (delegable parent) >>= λ _. object_in s >>= λ object. Ok
    (DelegateReq parent object r.vpe r.index)) m e in
    let vpe = allowed_ok 2 (nat_lt r.vpe VPES) (λ _. allowed 4 (nat_lt r.index (2 ^ 8)) >>= λ _. unused 6 r.after_index >>= λ _. key_at 8 r.first >>= λ parent.
    unused 16 r.second >>= λ _. unused 24 r.job >>= λ _. allowed 28 (delegable parent) >>= λ _. object_in s >>= λ object. Ok
    (DelegateReq parent object r.vpe r.index)) m form.1 in
    let index = allowed_ok 4 (nat_lt r.index (2 ^ 8))
    (λ _. unused 6 r.after_index >>= λ _. key_at 8 r.first >>= λ parent. unused 16 r.second >>= λ _. unused 24 r.job >>= λ _. allowed 28
    (delegable parent) >>= λ _. object_in s >>= λ object. Ok (DelegateReq parent object r.vpe r.index)) m vpe.1 in
    let gap = unused_ok 6 r.after_index (λ _. key_at 8 r.first >>= λ parent. unused 16 r.second >>= λ _. unused 24 r.job >>= λ _. allowed 28
    (delegable parent) >>= λ _. object_in s >>= λ object. Ok (DelegateReq parent object r.vpe r.index)) m index.1 in
    let first = key_ok 8 r.first (λ parent. unused 16 r.second >>= λ _. unused 24 r.job >>= λ _. allowed 28 (delegable parent) >>= λ _. object_in s >>=
    λ object. Ok (DelegateReq parent object r.vpe r.index)) m gap.1 in
    let second = unused_ok 16 r.second (λ _. unused 24 r.job >>= λ _. allowed 28 (delegable (key_in r.first)) >>= λ _. object_in s >>= λ object. Ok
    (DelegateReq (key_in r.first) object r.vpe r.index)) m first.1 in
    let job = unused_ok 24 r.job (λ _. allowed 28 (delegable (key_in r.first)) >>= λ _. object_in s >>= λ object. Ok
    (DelegateReq (key_in r.first) object r.vpe r.index)) m second.1 in
    let kind = allowed_ok 28 (delegable (key_in r.first)) (λ _. object_in s >>= λ object. Ok (DelegateReq (key_in r.first) object r.vpe r.index)) m job.1 in
    let found = bind_ok (object_in s) (λ object. Ok (DelegateReq (key_in r.first) object r.vpe r.index)) m kind.1 in
    let tests = both (is_in_range 1 3 r.kind) (r.kind == kind_number (key_in r.first).kind) kind.0 in
    let agrees : r.kind ≡ kind_number (key_in r.first).kind = eqb-true _ _ tests.1 in
    let low : r.index < 2 ^ 8 = ltb-true _ _ index.0 in
    let object = object_read s found.0 (ap (is_in_range 1 5) agrees ∙ ranged_kind (key_in r.first).kind) found.1 in
    let one = word_again r.first first.0 in
    subst (IsDecoded s) (ok_is (DelegateReq (key_in r.first) found.0 r.vpe r.index) m found.2) (record {
      fits = (
        one.0,
        object.2.valid,
        same_kind _ _ (sym agrees ∙ sym object.2.kind),
        delegable_kind (key_in r.first).kind (ap (is_in_range 1 3) (sym agrees)
            ∙ tests.0),
        ltb-true _ _ vpe.0,
        omega (arith, low),
      );
      rows = object.2.rows (record blank { tag = 4; vpe = r.vpe; index = r.index; first = packed (key_in r.first) })
          ∙ same_rows _ s refl (sym form.0) refl refl (sym gap.0) one.1 (sym second.0) (sym job.0) refl (sym object.0) refl refl refl (sym object.1);
    })

-- what is read of any rows fits, and has these rows
pub message_decoded : (r : Rows) (m : Message) → r.job < 2 ^ 32 → message_read r ≡ Ok m → IsDecoded r m
message_decoded r m low e = by_tag r.tag r low e
  where
    by_tag : (tag : ℕ) (r : Rows) → r.job < 2 ^ 32 → message_read (record r { tag = tag }) ≡ Ok m → IsDecoded (record r { tag = tag }) m
    by_tag zero r low e = absurd cc
    by_tag (suc zero) r low e = obtain_req_decoded r m e
    by_tag (suc (suc zero)) r low e = obtain_ok_decoded r m e
    by_tag (suc (suc (suc zero))) r low e = obtain_no_decoded r m e
    by_tag (suc (suc (suc (suc zero)))) r low e = delegate_req_decoded r m e
    by_tag (suc (suc (suc (suc (suc zero))))) r low e = prepared_decoded r m e
    by_tag (suc (suc (suc (suc (suc (suc zero)))))) r low e = delegate_no_decoded r m e
    by_tag (suc (suc (suc (suc (suc (suc (suc zero))))))) r low e = ack_decoded r m e
    by_tag (suc (suc (suc (suc (suc (suc (suc (suc zero)))))))) r low e = orphan_decoded r m e
    by_tag (suc (suc (suc (suc (suc (suc (suc (suc (suc zero))))))))) r low e = revoke_req_decoded r m low e
    by_tag (suc (suc (suc (suc (suc (suc (suc (suc (suc (suc zero)))))))))) r low e = revoke_done_decoded r m low e
    by_tag (suc (suc (suc (suc (suc (suc (suc (suc (suc (suc (suc zero))))))))))) r low e = unlink_decoded r m e
    by_tag (suc (suc (suc (suc (suc (suc (suc (suc (suc (suc (suc (suc n)))))))))))) r low e =
        let s : Rows = record r { tag = suc (suc (suc (suc (suc (suc (suc (suc (suc (suc (suc (suc n))))))))))) } in
        let fault : fault_in (message_read s) ≡ Some Tag = reads_to_the_fault s
        ∙ ap (λ b. if b then first_wire_fault (grammar s) else Some Tag) (out_of_range 1 11 s.tag (omega arith)) in
        absurd (no_fault (sym (ap fault_in e) ∙ fault))
