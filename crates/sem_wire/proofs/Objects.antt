-- The object that was read is in its ranges, and its numbers are those in the rows.
use Rattle.std.proofs.Common.{◌≡◌, ℕ, zero, suc, ◌+◌, ◌^◌, ◌<◌, true, Ok, refl, sym, subst, arith}
use Rattle.std.specs.Prelude.{nat_lt, nat_le}
use Rattle.std.specs.Int.{is_in_range}
use Rattle.std.proofs.lemmas.Bool.{ltb-true, leb-true}
use Rattle.sem_key.specs.declared.key.Kind.{Kind}
use Rattle.sem_key.specs.declared.key.Kind.TheVariants.{Mem as MemKind, Recv as RecvKind, Send as SendKind, Serv as ServKind, Sess as SessKind}
use Rattle.sem_key.specs.declared.limits.TheConstants.{SLOTS, ADDRESSES}
use Rattle.sem_key.specs.declared.object.Object.{Object}
use Rattle.sem_key.specs.declared.object.Object.TheVariants.{Mem, Recv, Send, Serv, Sess}
use Rattle.sem_key.specs.KeyName.{kind_number}
use Rattle.sem_key.specs.ObjectRanges.{object_kind, IsValidObject}
use Rattle.sem_wire.specs.declared.rows.Rows.{Rows}
use Rattle.sem_wire.specs.Records.{with_object}
use Rattle.sem_wire.specs.Grammar.{main_allowed, more_allowed, last_allowed}
use Rattle.sem_wire.specs.Reading.{◌>>=◌, allowed, unused, key_in, mem_in, recv_in, send_in, serv_in, sess_in, of_kind, object_in}
use Rattle.sem_wire.proofs.Words.{both, in_range, word_again}
use Rattle.sem_wire.proofs.Inverses.{ok_is, bind_ok, allowed_ok, unused_ok, kind_key_ok}

-- the object in the rows from 28 on
pub record IsObjectIn (r : Rows) (o : Object) : Type 0 where
  pub valid : IsValidObject o
  pub rows : (s : Rows) → with_object o (record s { kind = 0; main = 0; more = 0; last = 0 }) ≡ record s {
    kind = r.kind;
    main = r.main;
    more = r.more;
    last = r.last;
  }
  pub kind : kind_number (object_kind o) ≡ r.kind

-- kinds by their numbers
pub same_kind : (a b : Kind) → kind_number a ≡ kind_number b → a ≡ b
same_kind MemKind MemKind e = refl
same_kind RecvKind RecvKind e = refl
same_kind SendKind SendKind e = refl
same_kind ServKind ServKind e = refl
same_kind SessKind SessKind e = refl
same_kind a b e = absurd cc

mem_read : (r : Rows) (o : Object) → mem_in (record r { kind = 1 }) ≡ Ok o → IsObjectIn (record r { kind = 1 }) o
unfolding mem_in
mem_read r o e =
    let s : Rows = record r { kind = 1 } in
    let base = allowed_ok 32 (main_allowed s) (λ _. allowed 40 (more_allowed s) >>= λ _. allowed 48 (last_allowed s) >>= λ _. Ok (Mem r.main r.more r.last)) o e
    in
    let len = allowed_ok 40 (more_allowed s) (λ _. allowed 48 (last_allowed s) >>= λ _. Ok (Mem r.main r.more r.last)) o base.1 in
    let rights = allowed_ok 48 (last_allowed s) (λ _. Ok (Mem r.main r.more r.last)) o len.1 in
    let more = both (nat_lt r.more (2 ^ 32)) (nat_le (r.main + r.more) ADDRESSES) len.0 in
    let low : r.main < 2 ^ 32 = ltb-true _ _ base.0 in
    let long : r.more < 2 ^ 32 = ltb-true _ _ more.0 in
    subst (IsObjectIn s) (ok_is _ o rights.1) (record {
      valid = (omega (arith, low), omega (arith, long), leb-true _ _ rights.0, leb-true _ _ more.1);
      rows = λ s. refl;
      kind = refl;
    })

recv_read : (r : Rows) (o : Object) → recv_in (record r { kind = 2 }) ≡ Ok o → IsObjectIn (record r { kind = 2 }) o
unfolding recv_in
recv_read r o e =
    let s : Rows = record r { kind = 2 } in
    let slots = allowed_ok 32 (main_allowed s) (λ _. unused 40 r.more >>= λ _. unused 48 r.last >>= λ _. Ok (Recv r.main)) o e in
    let more = unused_ok 40 r.more (λ _. unused 48 r.last >>= λ _. Ok (Recv r.main)) o slots.1 in
    let last = unused_ok 48 r.last (λ _. Ok (Recv r.main)) o more.1 in
    subst (IsObjectIn s) (ok_is _ o last.1) (record {
      valid = in_range 1 SLOTS r.main slots.0;
      rows = λ s. λ i. record s { kind = 2; main = r.main; more = sym more.0 i; last = sym last.0 i };
      kind = refl;
    })

send_read : (r : Rows) (o : Object) → send_in (record r { kind = 3 }) ≡ Ok o → IsObjectIn (record r { kind = 3 }) o
unfolding send_in
send_read r o e =
    let s : Rows = record r { kind = 3 } in
    let gate = kind_key_ok 32 2 r.main (λ gate. allowed 40 (more_allowed s) >>= λ _. allowed 48 (last_allowed s) >>= λ _. Ok (Send gate r.more r.last)) o e in
    let label = allowed_ok 40 (more_allowed s) (λ _. allowed 48 (last_allowed s) >>= λ _. Ok (Send (key_in r.main) r.more r.last)) o gate.2 in
    let credits = allowed_ok 48 (last_allowed s) (λ _. Ok (Send (key_in r.main) r.more r.last)) o label.1 in
    let word = word_again r.main gate.0 in
    let low : r.more < 2 ^ 32 = ltb-true _ _ label.0 in
    let count = in_range 1 SLOTS r.last credits.0 in
    subst (IsObjectIn s) (ok_is _ o credits.1) (record {
      valid = (word.0, same_kind _ RecvKind gate.1, omega (arith, low), count.0, count.1);
      rows = λ s. λ i. record s { kind = 3; main = word.1 i; more = r.more; last = r.last };
      kind = refl;
    })

serv_read : (r : Rows) (o : Object) → serv_in (record r { kind = 4 }) ≡ Ok o → IsObjectIn (record r { kind = 4 }) o
unfolding serv_in
serv_read r o e =
    let s : Rows = record r { kind = 4 } in
    let name = allowed_ok 32 (main_allowed s) (λ _. unused 40 r.more >>= λ _. unused 48 r.last >>= λ _. Ok (Serv r.main)) o e in
    let more = unused_ok 40 r.more (λ _. unused 48 r.last >>= λ _. Ok (Serv r.main)) o name.1 in
    let last = unused_ok 48 r.last (λ _. Ok (Serv r.main)) o more.1 in
    let low : r.main < 2 ^ 8 = ltb-true _ _ name.0 in
    subst (IsObjectIn s) (ok_is _ o last.1) (record {
      valid = omega (arith, low);
      rows = λ s. λ i. record s { kind = 4; main = r.main; more = sym more.0 i; last = sym last.0 i };
      kind = refl;
    })

sess_read : (r : Rows) (o : Object) → sess_in (record r { kind = 5 }) ≡ Ok o → IsObjectIn (record r { kind = 5 }) o
unfolding sess_in
sess_read r o e =
    let s : Rows = record r { kind = 5 } in
    let service = kind_key_ok 32 4 r.main (λ service. allowed 40 (more_allowed s) >>= λ _. unused 48 r.last >>= λ _. Ok (Sess service r.more)) o e in
    let ident = allowed_ok 40 (more_allowed s) (λ _. unused 48 r.last >>= λ _. Ok (Sess (key_in r.main) r.more)) o service.2 in
    let last = unused_ok 48 r.last (λ _. Ok (Sess (key_in r.main) r.more)) o ident.1 in
    let word = word_again r.main service.0 in
    subst (IsObjectIn s) (ok_is _ o last.1) (record {
      valid = (word.0, same_kind _ ServKind service.1, ltb-true _ _ ident.0);
      rows = λ s. λ i. record s { kind = 5; main = word.1 i; more = r.more; last = sym last.0 i };
      kind = refl;
    })

pub object_read : (r : Rows) (o : Object) → is_in_range 1 5 r.kind ≡ true → object_in r ≡ Ok o → (r.after_kind ≡ 0) × (r.after_last ≡ 0) × IsObjectIn r o
unfolding object_in
object_read r o ranged e =
    let gap = unused_ok 29 r.after_kind (λ _. of_kind r.kind r >>= λ object. unused 56 r.after_last >>= λ _. Ok object) o e in
    let found = bind_ok (of_kind r.kind r) (λ object. unused 56 r.after_last >>= λ _. Ok object) o gap.1 in
    let after = unused_ok 56 r.after_last (λ _. Ok found.0) o found.2 in
    (gap.0, after.0, subst (IsObjectIn r) (ok_is found.0 o after.1) (by_kind r.kind r found.0 ranged found.1))
  where
    by_kind : (kind : ℕ) (r : Rows) (o : Object) → is_in_range 1 5 kind ≡ true → of_kind kind (record r { kind = kind }) ≡ Ok o →
        IsObjectIn (record r { kind = kind }) o
    by_kind (suc zero) r o ranged e = mem_read r o e
    by_kind (suc (suc zero)) r o ranged e = recv_read r o e
    by_kind (suc (suc (suc zero))) r o ranged e = send_read r o e
    by_kind (suc (suc (suc (suc zero)))) r o ranged e = serv_read r o e
    by_kind (suc (suc (suc (suc (suc zero))))) r o ranged e = sess_read r o e
    by_kind zero r o ranged e = absurd (let h = in_range 1 5 zero ranged in omega (arith, h.0))
    by_kind (suc (suc (suc (suc (suc (suc n)))))) r o ranged e = absurd (let h = in_range 1 5 (suc (suc (suc (suc (suc (suc n)))))) ranged in
        omega (arith, h.1))
