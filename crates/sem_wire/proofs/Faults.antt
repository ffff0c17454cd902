-- Reading stops at the first row that is wrong: what a reader of rows says is what the grammar says.
use Rattle.std.proofs.Common.{◌≡◌, ℕ, zero, suc, ◌<◌, Bool, true, false, List, [], ◌∷◌, Result, Ok, refl, ap, ◌∙◌, arith}
use Rattle.std.specs.Prelude.{◌&&◌, ◌==◌}
use Rattle.std.specs.Int.{is_in_range}
use Rattle.std.specs.List.{list_any}
use Rattle.sem_wire.specs.declared.fault.WireFault.{WireFault}
use Rattle.sem_wire.specs.declared.rows.Rows.{Rows}
use Rattle.sem_key.specs.declared.object.Object.{Object}
use Rattle.sem_key.specs.KeyName.{kind_number}
use Rattle.sem_msg.specs.declared.message.Message.{Message}
use Rattle.sem_msg.specs.declared.message.Message.TheVariants.{DelegatePrepared, Orphan, Unlink}
use Rattle.sem_wire.specs.Grammar.{Row, row_with, gap, grammar, wire_fault, kind_in, is_key, is_owned, main_allowed, more_allowed, last_allowed}
use Rattle.sem_wire.specs.Reading.{◌>>=◌, allowed, unused, kind_key_at, kind_at, no_index, no_object, no_job, mem_in, recv_in, send_in, serv_in, sess_in}
use Rattle.sem_wire.specs.Reading.{of_kind, object_in, sel_in, serv_target_in, offer_target_in, obtain_req_in, obtain_ok_in, obtain_no_in, delegate_req_in}
use Rattle.sem_wire.specs.Reading.{delegate_no_in, ack_in, two_keys_in, of_two, revoke_req_in, revoke_done_in, message_read}
use Rattle.std.proofs.lemmas.Bool.{ne_eqb, eqb-true}
use Rattle.sem_wire.proofs.Words.{both, renumbered, in_range, range_in, out_of_range}
use Rattle.sem_wire.proofs.Steps.{fault_in, Says, then_says, passed, failed, allowed_as, then_step, allowed_step, unused_step, unused_end, key_step}
use Rattle.sem_wire.proofs.Steps.{kind_key_step, place_step}

-- ---- rows that stand together

no_index_step : {B : Type 0} (r : Rows) (b2 b4 : Bool) (f : Unit {0} → Result B WireFault) (rows : List Row) → Says (f tt) rows →
    Says (no_index r >>= f) (row_with 2 r.vpe false b2 ∷ row_with 4 r.index false b4 ∷ gap 6 r.after_index ∷ rows)
unfolding no_index
no_index_step r b2 b4 f rows go =
    then_step (unused 2 r.vpe) _ f _
    (unused_step 2 r.vpe b2 _ _ (then_step (unused 4 r.index) _ f _ (unused_step 4 r.index b4 _ _ (unused_step 6 r.after_index true f rows go))))

no_object_fault : (r : Rows) (b28 b32 b40 b48 : Bool) →
    Says (no_object r) (row_with 28 r.kind false b28 ∷ gap 29 r.after_kind ∷ row_with 32 r.main false b32 ∷ row_with 40 r.more false b40 ∷ row_with 48 r.last false b48
    ∷ gap 56 r.after_last ∷ [])
unfolding no_object
no_object_fault r b28 b32 b40 b48 =
    unused_step 28 r.kind b28 _ _
    (unused_step 29 r.after_kind true _ _
    (unused_step 32 r.main b32 _ _ (unused_step 40 r.more b40 _ _ (unused_step 48 r.last b48 _ _ (unused_end 56 r.after_last true)))))

no_job_fault : (r : Rows) (b24 b28 b32 b40 b48 : Bool) →
    Says (no_job r) (row_with 24 r.job false b24 ∷ row_with 28 r.kind false b28 ∷ gap 29 r.after_kind ∷ row_with 32 r.main false b32 ∷ row_with 40 r.more false b40
    ∷ row_with 48 r.last false b48 ∷ gap 56 r.after_last ∷ [])
unfolding no_job
no_job_fault r b24 b28 b32 b40 b48 = unused_step 24 r.job b24 _ _ (no_object_fault r b28 b32 b40 b48)

-- ---- objects

-- the rows at 32, 40 and 48, of which the second and the third may not be used
abbrev object_rows : Rows → Bool → Bool → List Row → List Row
object_rows r more last rows = row_with 32 r.main true (main_allowed r) ∷ row_with 40 r.more more (more_allowed r) ∷ row_with 48 r.last last (last_allowed r) ∷ rows

module _ {B : Type 0} (f : Object → Result B WireFault) (rows : List Row) (go : (o : Object) → Says (f o) rows) where
  mem_step : (r : Rows) → Says (mem_in (record r { kind = 1 }) >>= f) (object_rows (record r { kind = 1 }) true true rows)
  unfolding mem_in
  mem_step r =
      let s : Rows = record r { kind = 1 } in
      then_step (allowed 32 (main_allowed s)) _ f _ (allowed_step 32 r.main (main_allowed s) _ _ (λ _.
      then_step (allowed 40 (more_allowed s)) _ f _ (allowed_step 40 r.more (more_allowed s) _ _ (λ _.
      then_step (allowed 48 (last_allowed s)) _ f _ (allowed_step 48 r.last (last_allowed s) _ _ (λ _. go _))))))

  recv_step : (r : Rows) → Says (recv_in (record r { kind = 2 }) >>= f) (object_rows (record r { kind = 2 }) false false rows)
  unfolding recv_in
  recv_step r =
      let s : Rows = record r { kind = 2 } in
      then_step (allowed 32 (main_allowed s)) _ f _ (allowed_step 32 r.main (main_allowed s) _ _ (λ _.
      then_step (unused 40 r.more) _ f _ (unused_step 40 r.more (more_allowed s) _ _ (
      then_step (unused 48 r.last) _ f _ (unused_step 48 r.last (last_allowed s) _ _ (go _))))))

  send_step : (r : Rows) → Says (send_in (record r { kind = 3 }) >>= f) (object_rows (record r { kind = 3 }) true true rows)
  unfolding send_in
  send_step r =
      let s : Rows = record r { kind = 3 } in
      then_step (kind_key_at 32 2 r.main) _ f _ (kind_key_step 32 2 r.main refl _ _ (λ _.
      then_step (allowed 40 (more_allowed s)) _ f _ (allowed_step 40 r.more (more_allowed s) _ _ (λ _.
      then_step (allowed 48 (last_allowed s)) _ f _ (allowed_step 48 r.last (last_allowed s) _ _ (λ _. go _))))))

  serv_step : (r : Rows) → Says (serv_in (record r { kind = 4 }) >>= f) (object_rows (record r { kind = 4 }) false false rows)
  unfolding serv_in
  serv_step r =
      let s : Rows = record r { kind = 4 } in
      then_step (allowed 32 (main_allowed s)) _ f _ (allowed_step 32 r.main (main_allowed s) _ _ (λ _.
      then_step (unused 40 r.more) _ f _ (unused_step 40 r.more (more_allowed s) _ _ (
      then_step (unused 48 r.last) _ f _ (unused_step 48 r.last (last_allowed s) _ _ (go _))))))

  sess_step : (r : Rows) → Says (sess_in (record r { kind = 5 }) >>= f) (object_rows (record r { kind = 5 }) true false rows)
  unfolding sess_in
  sess_step r =
      let s : Rows = record r { kind = 5 } in
      then_step (kind_key_at 32 4 r.main) _ f _ (kind_key_step 32 4 r.main refl _ _ (λ _.
      then_step (allowed 40 (more_allowed s)) _ f _ (allowed_step 40 r.more (more_allowed s) _ _ (λ _.
      then_step (unused 48 r.last) _ f _ (unused_step 48 r.last (last_allowed s) _ _ (go _))))))

-- whether it is one of these kinds
abbrev one_of : List ℕ → ℕ → Bool
one_of kinds kind = list_any (λ k. kind == k) kinds

kind_step : {B : Type 0} (kind : ℕ) (r : Rows) → is_in_range 1 5 kind ≡ true → (f : Object → Result B WireFault) (rows : List Row) →
    ((o : Object) → Says (f o) rows) →
    Says (of_kind kind (record r { kind = kind }) >>= f) (object_rows (record r { kind = kind }) (one_of (1 ∷ 3 ∷ 5 ∷ []) kind) (one_of (1 ∷ 3 ∷ []) kind) rows)
kind_step (suc zero) r e f rows go = mem_step f rows go r
kind_step (suc (suc zero)) r e f rows go = recv_step f rows go r
kind_step (suc (suc (suc zero))) r e f rows go = send_step f rows go r
kind_step (suc (suc (suc (suc zero)))) r e f rows go = serv_step f rows go r
kind_step (suc (suc (suc (suc (suc zero))))) r e f rows go = sess_step f rows go r
kind_step zero r e f rows go = absurd (let h = in_range 1 5 zero e in omega (arith, h.0))
kind_step (suc (suc (suc (suc (suc (suc n)))))) r e f rows go = absurd (let h = in_range 1 5 (suc (suc (suc (suc (suc (suc n)))))) e in omega (arith, h.1))

object_fault : (r : Rows) → is_in_range 1 5 r.kind ≡ true →
    Says (object_in r) (gap 29 r.after_kind ∷ object_rows r (one_of (1 ∷ 3 ∷ 5 ∷ []) r.kind) (one_of (1 ∷ 3 ∷ []) r.kind) (gap 56 r.after_last ∷ []))
unfolding object_in
object_fault r e =
    unused_step 29 r.after_kind true _ _ (kind_step r.kind r e _ _ (λ o. then_says (unused 56 r.after_last) _ _ (unused_end 56 r.after_last true)))

-- ---- messages

abbrev SaysSo : ℕ → (Rows → Result Message WireFault) → Type 0
SaysSo tag reader = (r : Rows) → Says (reader (record r { tag = tag })) (grammar (record r { tag = tag }))

-- the rows behind a last key or place
abbrev rest_says : (s : Rows) (b24 b28 b32 b40 b48 : Bool) {B : Type 0} (x : B) → Type 0
rest_says s b24 b28 b32 b40 b48 x =
    Says (no_job s >>= λ rest. Ok x) (row_with 24 s.job false b24 ∷ row_with 28 s.kind false b28 ∷ gap 29 s.after_kind
    ∷ row_with 32 s.main false b32 ∷ row_with 40 s.more false b40 ∷ row_with 48 s.last false b48 ∷ gap 56 s.after_last ∷ [])

rest : (s : Rows) (b24 b28 b32 b40 b48 : Bool) {B : Type 0} (x : B) → rest_says s b24 b28 b32 b40 b48 x
rest s b24 b28 b32 b40 b48 x = then_says (no_job s) (λ rest. x) _ (no_job_fault s b24 b28 b32 b40 b48)

sel_says : (r : Rows) → Says (obtain_req_in (record r { tag = 1; form = 1 })) (grammar (record r { tag = 1; form = 1 }))
unfolding sel_in
sel_says r =
    let s : Rows = record r { tag = 1; form = 1 } in
    passed 1 1 _ _ (allowed_step 2 r.vpe _ _ _ (λ _. allowed_step 4 r.index _ _ _ (λ _. unused_step 6 r.after_index _ _ _ (
    place_step 8 r.first _ _ (λ _. unused_step 16 r.second _ _ _ (rest s _ _ _ _ _ _))))))

serv_target_says : (r : Rows) → Says (obtain_req_in (record r { tag = 1; form = 2 })) (grammar (record r { tag = 1; form = 2 }))
unfolding serv_target_in
serv_target_says r =
    let s : Rows = record r { tag = 1; form = 2 } in
    passed 1 2 _ _ (no_index_step s _ _ _ _ (place_step 8 r.first _ _ (λ _. kind_key_step 16 4 r.second refl _ _ (λ _. rest s _ _ _ _ _ _))))

offer_says : (r : Rows) → Says (obtain_req_in (record r { tag = 1; form = 3 })) (grammar (record r { tag = 1; form = 3 }))
unfolding offer_target_in
offer_says r =
    let s : Rows = record r { tag = 1; form = 3 } in
    passed 1 3 _ _ (unused_step 2 r.vpe _ _ _ (allowed_step 4 r.index _ _ _ (λ _. unused_step 6 r.after_index _ _ _ (
    place_step 8 r.first _ _ (λ _. kind_key_step 16 4 r.second refl _ _ (λ _. rest s _ _ _ _ _ _))))))

beyond : (n k : ℕ) → k < 4 → (suc (suc (suc (suc n))) == k) ≡ false
beyond n k lt = ne_eqb _ k (λ e. omega (arith, lt, e))

obtain_req_says : SaysSo 1 obtain_req_in
obtain_req_says r = by_form r.form r
  where
    by_form : (form : ℕ) (r : Rows) → Says (obtain_req_in (record r { tag = 1; form = form })) (grammar (record r { tag = 1; form = form }))
    by_form zero r = failed 1 0 _
    by_form (suc zero) r = sel_says r
    by_form (suc (suc zero)) r = serv_target_says r
    by_form (suc (suc (suc zero))) r = offer_says r
    by_form (suc (suc (suc (suc n)))) r =
        rw (beyond n 1 (omega arith), beyond n 2 (omega arith), beyond n 3 (omega arith), out_of_range 1 3 (suc (suc (suc (suc n)))) (omega arith))
        (failed 1 (suc (suc (suc (suc n)))) _)

obtain_no_says : SaysSo 3 obtain_no_in
unfolding obtain_no_in
obtain_no_says r =
    let s : Rows = record r { tag = 3 } in
    allowed_step 1 r.form _ _ _ (λ _. no_index_step s _ _ _ _ (place_step 8 r.first _ _ (λ _. unused_step 16 r.second _ _ _ (rest s _ _ _ _ _ _))))

delegate_no_says : SaysSo 6 delegate_no_in
unfolding delegate_no_in
delegate_no_says r =
    let s : Rows = record r { tag = 6 } in
    allowed_step 1 r.form _ _ _ (λ _. no_index_step s _ _ _ _ (key_step 8 r.first _ _ (λ _. unused_step 16 r.second _ _ _ (rest s _ _ _ _ _ _))))

ack_says : SaysSo 7 ack_in
unfolding ack_in
ack_says r =
    let s : Rows = record r { tag = 7 } in
    allowed_step 1 r.form _ _ _ (λ _. no_index_step s _ _ _ _ (key_step 8 r.first _ _ (λ _. unused_step 16 r.second _ _ _ (rest s _ _ _ _ _ _))))

two_says : (s : Rows) (b1 b2 b4 b24 b28 b32 b40 b48 : Bool) → Says (two_keys_in s)
    (row_with 1 s.form false b1 ∷ row_with 2 s.vpe false b2 ∷ row_with 4 s.index false b4 ∷ gap 6 s.after_index ∷ row_with 8 s.first true (is_key s.first)
    ∷ row_with 16 s.second true (is_key s.second) ∷ row_with 24 s.job false b24 ∷ row_with 28 s.kind false b28 ∷ gap 29 s.after_kind ∷ row_with 32 s.main false b32
    ∷ row_with 40 s.more false b40 ∷ row_with 48 s.last false b48 ∷ gap 56 s.after_last ∷ [])
unfolding two_keys_in
two_says s b1 b2 b4 b24 b28 b32 b40 b48 =
    unused_step 1 s.form b1 _ _ (no_index_step s b2 b4 _ _ (key_step 8 s.first _ _ (λ _. key_step 16 s.second _ _ (λ _. rest s b24 b28 b32 b40 b48 _))))

prepared_says : SaysSo 5 (of_two DelegatePrepared)
prepared_says r = let s : Rows = record r { tag = 5 } in then_says (two_keys_in s) _ _ (two_says s _ _ _ _ _ _ _ _)

orphan_says : SaysSo 8 (of_two Orphan)
orphan_says r = let s : Rows = record r { tag = 8 } in then_says (two_keys_in s) _ _ (two_says s _ _ _ _ _ _ _ _)

unlink_says : SaysSo 11 (of_two Unlink)
unlink_says r = let s : Rows = record r { tag = 11 } in then_says (two_keys_in s) _ _ (two_says s _ _ _ _ _ _ _ _)

revoke_req_says : SaysSo 9 revoke_req_in
unfolding revoke_req_in
revoke_req_says r =
    let s : Rows = record r { tag = 9 } in
    unused_step 1 r.form _ _ _ (no_index_step s _ _ _ _ (key_step 8 r.first _ _ (λ _. unused_step 16 r.second _ _ _ (
    passed 24 r.job _ _ (then_says (no_object s) _ _ (no_object_fault s _ _ _ _))))))

revoke_done_says : SaysSo 10 revoke_done_in
unfolding revoke_done_in
revoke_done_says r =
    let s : Rows = record r { tag = 10 } in
    unused_step 1 r.form _ _ _ (no_index_step s _ _ _ _ (unused_step 8 r.first _ _ _ (unused_step 16 r.second _ _ _ (
    passed 24 r.job _ _ (then_says (no_object s) _ _ (no_object_fault s _ _ _ _))))))

-- the kind of a key by its word
kind_as : (w kind : ℕ) → is_key w ≡ true → (kind == kind_number (kind_at (kind_in w))) ≡ (kind == kind_in w)
kind_as w kind e = ap (λ n. kind == n) (renumbered (kind_in w) (both (is_in_range 1 5 (kind_in w)) (is_owned w) e).0)

obtain_ok_says : SaysSo 2 obtain_ok_in
unfolding obtain_ok_in
obtain_ok_says r =
    let s : Rows = record r { tag = 2 } in
    unused_step 1 r.form _ _ _ (no_index_step s _ _ _ _ (key_step 8 r.first _ _ (λ _. key_step 16 r.second _ _ (λ key. unused_step 24 r.job _ _ _ (
    allowed_as 28 r.kind _ _ (kind_as r.second r.kind key) _ _
    (λ same. then_says (object_in s) _ _ (object_fault s (kind_ranged r.second r.kind key same))))))))
  where
    kind_ranged : (w kind : ℕ) → is_key w ≡ true → (kind == kind_in w) ≡ true → is_in_range 1 5 kind ≡ true
    kind_ranged w kind key same = ap (is_in_range 1 5) (eqb-true kind (kind_in w) same) ∙ (both (is_in_range 1 5 (kind_in w)) (is_owned w) key).0

delegate_req_says : SaysSo 4 delegate_req_in
unfolding delegate_req_in
delegate_req_says r =
    let s : Rows = record r { tag = 4 } in
    unused_step 1 r.form _ _ _ (allowed_step 2 r.vpe _ _ _ (λ _. allowed_step 4 r.index _ _ _ (λ _. unused_step 6 r.after_index _ _ _ (
    key_step 8 r.first _ _ (λ key. unused_step 16 r.second _ _ _ (unused_step 24 r.job _ _ _ (
    allowed_as 28 r.kind _ _ (ap (λ b. is_in_range 1 3 r.kind && b) (kind_as r.first r.kind key)) _ _
    (λ is. then_says (object_in s) _ _ (object_fault s (wider r.kind (both (is_in_range 1 3 r.kind) _ is).0))))))))))
  where
    wider : (kind : ℕ) → is_in_range 1 3 kind ≡ true → is_in_range 1 5 kind ≡ true
    wider kind e = let h = in_range 1 3 kind e in range_in 1 5 kind h.0 (omega (arith, h.1))

-- what is read of any rows is refused for the first that is wrong
pub reads_to_the_fault : (r : Rows) → fault_in (message_read r) ≡ wire_fault r
reads_to_the_fault r = by_tag r.tag r
  where
    by_tag : (tag : ℕ) (r : Rows) → fault_in (message_read (record r { tag = tag })) ≡ wire_fault (record r { tag = tag })
    by_tag zero r = refl
    by_tag (suc zero) r = (obtain_req_says r).fault
    by_tag (suc (suc zero)) r = (obtain_ok_says r).fault
    by_tag (suc (suc (suc zero))) r = (obtain_no_says r).fault
    by_tag (suc (suc (suc (suc zero)))) r = (delegate_req_says r).fault
    by_tag (suc (suc (suc (suc (suc zero))))) r = (prepared_says r).fault
    by_tag (suc (suc (suc (suc (suc (suc zero)))))) r = (delegate_no_says r).fault
    by_tag (suc (suc (suc (suc (suc (suc (suc zero))))))) r = (ack_says r).fault
    by_tag (suc (suc (suc (suc (suc (suc (suc (suc zero)))))))) r = (orphan_says r).fault
    by_tag (suc (suc (suc (suc (suc (suc (suc (suc (suc zero))))))))) r = (revoke_req_says r).fault
    by_tag (suc (suc (suc (suc (suc (suc (suc (suc (suc (suc zero)))))))))) r = (revoke_done_says r).fault
    by_tag (suc (suc (suc (suc (suc (suc (suc (suc (suc (suc (suc zero))))))))))) r = (unlink_says r).fault
    by_tag (suc (suc (suc (suc (suc (suc (suc (suc (suc (suc (suc (suc n)))))))))))) r =
        let no : (k : ℕ) → k < 12 → (suc (suc (suc (suc (suc (suc (suc (suc (suc (suc (suc (suc n))))))))))) == k) ≡ false =
        λ k lt. ne_eqb _ k (λ e. omega (arith, lt, e)) in
        rw (
          no 1 (omega arith),
          no 2 (omega arith),
          no 3 (omega arith),
          no 4 (omega arith),
          no 5 (omega arith),
          no 6 (omega arith),
          no 7 (omega arith),
          no 8 (omega arith),
          no 9 (omega arith),
          no 10 (omega arith),
          no 11 (omega arith),
          out_of_range 1 11 (suc (suc (suc (suc (suc (suc (suc (suc (suc (suc (suc (suc n)))))))))))) (omega arith),
        ) refl
