-- Words that have the form of a message are those of one.
use Rattle.std.proofs.Common.{◌≡◌, ℕ, true, false, List, [], ◌∷◌, ◌++◌, None, refl, ap, sym, subst, arith, decimal, append_assoc}
use Rattle.std.specs.Prelude.{codes}
use Rattle.std.proofs.lemmas.Option.{none-some}
use Rattle.sem_msg.specs.declared.message.Message.TheVariants.{ObtainReq, ObtainOk, ObtainNo, DelegateReq, DelegatePrepared, DelegateNo, Ack, Orphan, RevokeReq}
use Rattle.sem_msg.specs.declared.message.Message.TheVariants.{RevokeDone, Unlink}
use Rattle.sem_trace.specs.Forms.{Place, form_fault, choice, word_at, word, byte, node, key, key_place}
use Rattle.sem_trace.specs.Forms.Place.{Word}
use Rattle.sem_trace.specs.Words.{key_word, place_word, object_words}
use Rattle.sem_journal.specs.EntryText.{message_words}
use Rattle.sem_trace.specs.MessageForms.{code, objects, targets, messages, message_form}
use Rattle.sem_journal.specs.EntryRanges.{MessageFits}
use Rattle.sem_readable.proofs.Values.{byte_fits}
use Rattle.sem_readable.proofs.Rows.{Begins, number, vpe, a_key, a_place, chosen, after_it, one_word}
use Rattle.sem_readable.proofs.Objects.{an_object, a_target}

module _ (version : ℕ) (more : List Place) where
  abbrev BeginsMessage : List (List ℕ) → Type 0
  BeginsMessage = Begins message_words (MessageFits version) more

  abbrev Row : List (List ℕ) → List ℕ → List Place → Type 0
  Row ws name places = form_fault (places ++ more) ws ≡ None → BeginsMessage (name ∷ ws)

  obtain_req_row : (ws : List (List ℕ)) → Row ws (codes "obtain-req") (key_place version ∷ choice (targets version) (word_at ws 1))
  obtain_req_row ws none =
      a_place version (λ ws. choice (targets version) (word_at ws 1) ++ more) (λ ws. BeginsMessage (codes "obtain-req" ∷ ws)) ws none (λ p ws p_in none.
      after_it (λ ws. BeginsMessage (codes "obtain-req" ∷ place_word p ∷ ws)) (a_target version more ws none) (λ t rest t_in none.
      record { value = ObtainReq p t; rest = rest; is = refl; fits = (p_in, t_in); rest_fits = none }))

  obtain_ok_row : (ws : List (List ℕ)) → Row ws (codes "obtain-ok") (key version ∷ key version ∷ choice (objects version) (word_at ws 2))
  obtain_ok_row ws none =
      a_key version (λ ws. key version ∷ choice (objects version) (word_at ws 2) ++ more) (λ ws. BeginsMessage (codes "obtain-ok" ∷ ws)) ws none
      (λ p ws p_in none.
      a_key version (λ ws. choice (objects version) (word_at ws 1) ++ more) (λ ws. BeginsMessage (codes "obtain-ok" ∷ key_word p ∷ ws)) ws none
      (λ k ws k_in none.
      after_it (λ ws. BeginsMessage (codes "obtain-ok" ∷ key_word p ∷ key_word k ∷ ws)) (an_object version more ws none) (λ o rest o_in none.
      record { value = ObtainOk p k o; rest = rest; is = refl; fits = (p_in, k_in, o_in); rest_fits = none })))

  obtain_no_row : (ws : List (List ℕ)) → Row ws (codes "obtain-no") (key_place version ∷ code ∷ [])
  obtain_no_row ws none =
      a_place version (λ ws. code ∷ more) (λ ws. BeginsMessage (codes "obtain-no" ∷ ws)) ws none (λ p ws p_in none.
      number 0 15 (omega arith) (λ ws. more) (λ ws. BeginsMessage (codes "obtain-no" ∷ place_word p ∷ ws)) ws none (λ c rest c_in none.
      record { value = ObtainNo p c; rest = rest; is = refl; fits = (p_in, c_in.1); rest_fits = none }))

  delegate_req_row : (ws : List (List ℕ)) → Row ws (codes "delegate-req") (key version ∷ choice (objects version) (word_at ws 1) ++ node version ∷ byte ∷ [])
  delegate_req_row ws none =
      a_key version (λ ws. (choice (objects version) (word_at ws 1) ++ node version ∷ byte ∷ []) ++ more) (λ ws. BeginsMessage (codes "delegate-req" ∷ ws)) ws
      none (λ p ws p_in none.
      after_it (λ ws. BeginsMessage (codes "delegate-req" ∷ key_word p ∷ ws))
      (an_object version (node version ∷ byte ∷ more) ws
      (subst (λ (places : List Place). form_fault places ws ≡ None) (append_assoc (choice (objects version) (word_at ws 0)) (node version ∷ byte ∷ []) more)
      none)) (λ o ws o_in none.
      vpe version (λ ws. byte ∷ more) (λ ws. BeginsMessage (codes "delegate-req" ∷ key_word p ∷ (object_words o ++ ws))) ws none (λ v ws v_in none.
      number 0 255 (omega arith) (λ ws. more) (λ ws. BeginsMessage (codes "delegate-req" ∷ key_word p ∷ (object_words o ++ (decimal v ∷ ws)))) ws none
      (λ s rest s_in none.
      record {
        value = DelegateReq p o v s;
        rest = rest;
        is = ap (λ (ws : List (List ℕ)). codes "delegate-req" ∷ key_word p ∷ ws) (sym (append_assoc (object_words o) (decimal v ∷ decimal s ∷ []) rest));
        fits = (p_in, o_in, v_in, byte_fits s s_in.1);
        rest_fits = none;
      }))))

  prepared_row : (ws : List (List ℕ)) → Row ws (codes "delegate-prepared") (key version ∷ key version ∷ [])
  prepared_row ws none =
      a_key version (λ ws. key version ∷ more) (λ ws. BeginsMessage (codes "delegate-prepared" ∷ ws)) ws none (λ p ws p_in none.
      a_key version (λ ws. more) (λ ws. BeginsMessage (codes "delegate-prepared" ∷ key_word p ∷ ws)) ws none (λ k rest k_in none.
      record { value = DelegatePrepared p k; rest = rest; is = refl; fits = (p_in, k_in); rest_fits = none }))

  delegate_no_row : (ws : List (List ℕ)) → Row ws (codes "delegate-no") (key version ∷ code ∷ [])
  delegate_no_row ws none =
      a_key version (λ ws. code ∷ more) (λ ws. BeginsMessage (codes "delegate-no" ∷ ws)) ws none (λ p ws p_in none.
      number 0 15 (omega arith) (λ ws. more) (λ ws. BeginsMessage (codes "delegate-no" ∷ key_word p ∷ ws)) ws none (λ c rest c_in none.
      record { value = DelegateNo p c; rest = rest; is = refl; fits = (p_in, c_in.1); rest_fits = none }))

  ack_row : (ws : List (List ℕ)) → Row ws (codes "ack") (key version ∷ Word (codes "yes" ∷ codes "no" ∷ []) ∷ [])
  ack_row ws none =
      a_key version (λ ws. Word (codes "yes" ∷ codes "no" ∷ []) ∷ more) (λ ws. BeginsMessage (codes "ack" ∷ ws)) ws none (λ k ws k_in none.
      one_word (codes "yes" ∷ codes "no" ∷ []) more (λ ws. BeginsMessage (codes "ack" ∷ key_word k ∷ ws)) ws none (λ rest none. (
        record { value = Ack k true; rest = rest; is = refl; fits = k_in; rest_fits = none },
        (record { value = Ack k false; rest = rest; is = refl; fits = k_in; rest_fits = none }, tt),
      )))

  orphan_row : (ws : List (List ℕ)) → Row ws (codes "orphan") (key version ∷ key version ∷ [])
  orphan_row ws none =
      a_key version (λ ws. key version ∷ more) (λ ws. BeginsMessage (codes "orphan" ∷ ws)) ws none (λ p ws p_in none.
      a_key version (λ ws. more) (λ ws. BeginsMessage (codes "orphan" ∷ key_word p ∷ ws)) ws none (λ k rest k_in none.
      record { value = Orphan p k; rest = rest; is = refl; fits = (p_in, k_in); rest_fits = none }))

  revoke_req_row : (ws : List (List ℕ)) → Row ws (codes "revoke-req") (key version ∷ word ∷ [])
  revoke_req_row ws none =
      a_key version (λ ws. word ∷ more) (λ ws. BeginsMessage (codes "revoke-req" ∷ ws)) ws none (λ k ws k_in none.
      number 0 4294967295 (omega arith) (λ ws. more) (λ ws. BeginsMessage (codes "revoke-req" ∷ key_word k ∷ ws)) ws none (λ job rest job_in none.
      record { value = RevokeReq k job; rest = rest; is = refl; fits = (k_in, job_in.1); rest_fits = none }))

  revoke_done_row : (ws : List (List ℕ)) → Row ws (codes "revoke-done") (word ∷ [])
  revoke_done_row ws none =
      number 0 4294967295 (omega arith) (λ ws. more) (λ ws. BeginsMessage (codes "revoke-done" ∷ ws)) ws none (λ job rest job_in none.
      record { value = RevokeDone job; rest = rest; is = refl; fits = job_in.1; rest_fits = none })

  unlink_row : (ws : List (List ℕ)) → Row ws (codes "unlink") (key version ∷ key version ∷ [])
  unlink_row ws none =
      a_key version (λ ws. key version ∷ more) (λ ws. BeginsMessage (codes "unlink" ∷ ws)) ws none (λ p ws p_in none.
      a_key version (λ ws. more) (λ ws. BeginsMessage (codes "unlink" ∷ key_word p ∷ ws)) ws none (λ k rest k_in none.
      record { value = Unlink p k; rest = rest; is = refl; fits = (p_in, k_in); rest_fits = none }))

  pub a_message : (words : List (List ℕ)) → form_fault (message_form version words ++ more) words ≡ None → BeginsMessage words
  unfolding form_fault message_form messages
  a_message [] none = absurd (none-some _ (sym none))
  a_message (w ∷ ws) none =
      chosen (messages version (w ∷ ws)) (λ places. places ++ more) BeginsMessage w ws (
        obtain_req_row ws,
        (
          obtain_ok_row ws,
          (
            obtain_no_row ws,
            (
              delegate_req_row ws,
              (prepared_row ws, (delegate_no_row ws, (ack_row ws, (orphan_row ws, (revoke_req_row ws, (revoke_done_row ws, (unlink_row ws, tt))))))),
            ),
          ),
        ),
      )
      none
