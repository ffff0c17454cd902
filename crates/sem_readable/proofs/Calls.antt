-- Words that have the form of a call are those of one.
use Rattle.std.proofs.Common.{◌≡◌, ℕ, List, [], ◌∷◌, ◌++◌, None, refl, sym, arith, decimal}
use Rattle.std.specs.Prelude.{codes}
use Rattle.std.proofs.lemmas.Option.{none-some}
use Rattle.sem_msg.specs.declared.call.Call.TheVariants.{Derive, Gate, Obtain, Delegate, OpenSession, AskOffer, Revoke, Bind, Read, Write, Send as SendCall}
use Rattle.sem_msg.specs.declared.call.Call.TheVariants.{Credit, Exit, Clear}
use Rattle.sem_msg.specs.Calls.{IsValidCall}
use Rattle.sem_msg.specs.Versions.{most_vpes}
use Rattle.sem_trace.specs.Forms.{Place, form_fault, choice, word_at, word, rights, slots, byte, node, endpoint_place, calls}
use Rattle.sem_trace.specs.Words.{call_words}
use Rattle.sem_readable.proofs.Values.{byte_fits, endpoint_fits}
use Rattle.sem_readable.proofs.Rows.{Begins, number, vpe, chosen}

module _ (version : ℕ) (more : List Place) where
  abbrev BeginsCall : List (List ℕ) → Type 0
  BeginsCall = Begins call_words (IsValidCall (most_vpes version)) more

  abbrev CallRow : List (List ℕ) → List ℕ → List Place → Type 0
  CallRow ws name places = form_fault (places ++ more) ws ≡ None → BeginsCall (name ∷ ws)

  derive_row : (ws : List (List ℕ)) → CallRow ws (codes "derive") (byte ∷ byte ∷ word ∷ word ∷ rights ∷ [])
  derive_row ws none =
      number 0 255 (omega arith) (λ ws. byte ∷ word ∷ word ∷ rights ∷ more) (λ ws. BeginsCall (codes "derive" ∷ ws)) ws none (λ src ws src_in none.
      number 0 255 (omega arith) (λ ws. word ∷ word ∷ rights ∷ more) (λ ws. BeginsCall (codes "derive" ∷ decimal src ∷ ws)) ws none (λ dst ws dst_in none.
      number 0 4294967295 (omega arith) (λ ws. word ∷ rights ∷ more) (λ ws. BeginsCall (codes "derive" ∷ decimal src ∷ decimal dst ∷ ws)) ws none
      (λ off ws off_in none.
      number 0 4294967295 (omega arith) (λ ws. rights ∷ more) (λ ws. BeginsCall (codes "derive" ∷ decimal src ∷ decimal dst ∷ decimal off ∷ ws)) ws none
      (λ len ws len_in none.
      number 0 7 (omega arith) (λ ws. more) (λ ws. BeginsCall (codes "derive" ∷ decimal src ∷ decimal dst ∷ decimal off ∷ decimal len ∷ ws)) ws none
      (λ r rest r_in none.
      record {
        value = Derive src dst off len r;
        rest = rest;
        is = refl;
        fits = (byte_fits src src_in.1, byte_fits dst dst_in.1, off_in.1, len_in.1, r_in.1);
        rest_fits = none;
      })))))

  gate_row : (ws : List (List ℕ)) → CallRow ws (codes "gate") (byte ∷ byte ∷ word ∷ slots ∷ [])
  gate_row ws none =
      number 0 255 (omega arith) (λ ws. byte ∷ word ∷ slots ∷ more) (λ ws. BeginsCall (codes "gate" ∷ ws)) ws none (λ src ws src_in none.
      number 0 255 (omega arith) (λ ws. word ∷ slots ∷ more) (λ ws. BeginsCall (codes "gate" ∷ decimal src ∷ ws)) ws none (λ dst ws dst_in none.
      number 0 4294967295 (omega arith) (λ ws. slots ∷ more) (λ ws. BeginsCall (codes "gate" ∷ decimal src ∷ decimal dst ∷ ws)) ws none
      (λ label ws label_in none.
      number 1 64 (omega arith) (λ ws. more) (λ ws. BeginsCall (codes "gate" ∷ decimal src ∷ decimal dst ∷ decimal label ∷ ws)) ws none (λ n rest n_in none.
      record {
        value = Gate src dst label n;
        rest = rest;
        is = refl;
        fits = (byte_fits src src_in.1, byte_fits dst dst_in.1, label_in.1, n_in.0, n_in.1);
        rest_fits = none;
      }))))

  obtain_row : (ws : List (List ℕ)) → CallRow ws (codes "obtain") (byte ∷ node version ∷ byte ∷ [])
  obtain_row ws none =
      number 0 255 (omega arith) (λ ws. node version ∷ byte ∷ more) (λ ws. BeginsCall (codes "obtain" ∷ ws)) ws none (λ dst ws dst_in none.
      vpe version (λ ws. byte ∷ more) (λ ws. BeginsCall (codes "obtain" ∷ decimal dst ∷ ws)) ws none (λ v ws v_in none.
      number 0 255 (omega arith) (λ ws. more) (λ ws. BeginsCall (codes "obtain" ∷ decimal dst ∷ decimal v ∷ ws)) ws none (λ src rest src_in none.
      record { value = Obtain dst v src; rest = rest; is = refl; fits = (byte_fits dst dst_in.1, v_in, byte_fits src src_in.1); rest_fits = none })))

  delegate_row : (ws : List (List ℕ)) → CallRow ws (codes "delegate") (byte ∷ node version ∷ byte ∷ [])
  delegate_row ws none =
      number 0 255 (omega arith) (λ ws. node version ∷ byte ∷ more) (λ ws. BeginsCall (codes "delegate" ∷ ws)) ws none (λ src ws src_in none.
      vpe version (λ ws. byte ∷ more) (λ ws. BeginsCall (codes "delegate" ∷ decimal src ∷ ws)) ws none (λ v ws v_in none.
      number 0 255 (omega arith) (λ ws. more) (λ ws. BeginsCall (codes "delegate" ∷ decimal src ∷ decimal v ∷ ws)) ws none (λ dst rest dst_in none.
      record { value = Delegate src v dst; rest = rest; is = refl; fits = (byte_fits src src_in.1, v_in, byte_fits dst dst_in.1); rest_fits = none })))

  open_row : (ws : List (List ℕ)) → CallRow ws (codes "open") (byte ∷ byte ∷ [])
  open_row ws none =
      number 0 255 (omega arith) (λ ws. byte ∷ more) (λ ws. BeginsCall (codes "open" ∷ ws)) ws none (λ dst ws dst_in none.
      number 0 255 (omega arith) (λ ws. more) (λ ws. BeginsCall (codes "open" ∷ decimal dst ∷ ws)) ws none (λ name rest name_in none.
      record { value = OpenSession dst name; rest = rest; is = refl; fits = (byte_fits dst dst_in.1, name_in.1); rest_fits = none }))

  ask_row : (ws : List (List ℕ)) → CallRow ws (codes "ask") (byte ∷ byte ∷ byte ∷ [])
  ask_row ws none =
      number 0 255 (omega arith) (λ ws. byte ∷ byte ∷ more) (λ ws. BeginsCall (codes "ask" ∷ ws)) ws none (λ dst ws dst_in none.
      number 0 255 (omega arith) (λ ws. byte ∷ more) (λ ws. BeginsCall (codes "ask" ∷ decimal dst ∷ ws)) ws none (λ session ws session_in none.
      number 0 255 (omega arith) (λ ws. more) (λ ws. BeginsCall (codes "ask" ∷ decimal dst ∷ decimal session ∷ ws)) ws none (λ index rest index_in none.
      record {
        value = AskOffer dst session index;
        rest = rest;
        is = refl;
        fits = (byte_fits dst dst_in.1, byte_fits session session_in.1, index_in.1);
        rest_fits = none;
      })))

  revoke_row : (ws : List (List ℕ)) → CallRow ws (codes "revoke") (byte ∷ [])
  revoke_row ws none =
      number 0 255 (omega arith) (λ ws. more) (λ ws. BeginsCall (codes "revoke" ∷ ws)) ws none (λ src rest src_in none.
      record { value = Revoke src; rest = rest; is = refl; fits = byte_fits src src_in.1; rest_fits = none })

  bind_row : (ws : List (List ℕ)) → CallRow ws (codes "bind") (endpoint_place ∷ byte ∷ [])
  bind_row ws none =
      number 0 15 (omega arith) (λ ws. byte ∷ more) (λ ws. BeginsCall (codes "bind" ∷ ws)) ws none (λ ep ws ep_in none.
      number 0 255 (omega arith) (λ ws. more) (λ ws. BeginsCall (codes "bind" ∷ decimal ep ∷ ws)) ws none (λ src rest src_in none.
      record { value = Bind ep src; rest = rest; is = refl; fits = (endpoint_fits ep ep_in.1, byte_fits src src_in.1); rest_fits = none }))

  read_row : (ws : List (List ℕ)) → CallRow ws (codes "read") (endpoint_place ∷ word ∷ word ∷ [])
  read_row ws none =
      number 0 15 (omega arith) (λ ws. word ∷ word ∷ more) (λ ws. BeginsCall (codes "read" ∷ ws)) ws none (λ ep ws ep_in none.
      number 0 4294967295 (omega arith) (λ ws. word ∷ more) (λ ws. BeginsCall (codes "read" ∷ decimal ep ∷ ws)) ws none (λ off ws off_in none.
      number 0 4294967295 (omega arith) (λ ws. more) (λ ws. BeginsCall (codes "read" ∷ decimal ep ∷ decimal off ∷ ws)) ws none (λ len rest len_in none.
      record { value = Read ep off len; rest = rest; is = refl; fits = (endpoint_fits ep ep_in.1, off_in.1, len_in.1); rest_fits = none })))

  write_row : (ws : List (List ℕ)) → CallRow ws (codes "write") (endpoint_place ∷ word ∷ word ∷ [])
  write_row ws none =
      number 0 15 (omega arith) (λ ws. word ∷ word ∷ more) (λ ws. BeginsCall (codes "write" ∷ ws)) ws none (λ ep ws ep_in none.
      number 0 4294967295 (omega arith) (λ ws. word ∷ more) (λ ws. BeginsCall (codes "write" ∷ decimal ep ∷ ws)) ws none (λ off ws off_in none.
      number 0 4294967295 (omega arith) (λ ws. more) (λ ws. BeginsCall (codes "write" ∷ decimal ep ∷ decimal off ∷ ws)) ws none (λ len rest len_in none.
      record { value = Write ep off len; rest = rest; is = refl; fits = (endpoint_fits ep ep_in.1, off_in.1, len_in.1); rest_fits = none })))

  send_row : (ws : List (List ℕ)) → CallRow ws (codes "send") (endpoint_place ∷ word ∷ [])
  send_row ws none =
      number 0 15 (omega arith) (λ ws. word ∷ more) (λ ws. BeginsCall (codes "send" ∷ ws)) ws none (λ ep ws ep_in none.
      number 0 4294967295 (omega arith) (λ ws. more) (λ ws. BeginsCall (codes "send" ∷ decimal ep ∷ ws)) ws none (λ len rest len_in none.
      record { value = SendCall ep len; rest = rest; is = refl; fits = (endpoint_fits ep ep_in.1, len_in.1); rest_fits = none }))

  credit_row : (ws : List (List ℕ)) → CallRow ws (codes "credit") (endpoint_place ∷ [])
  credit_row ws none =
      number 0 15 (omega arith) (λ ws. more) (λ ws. BeginsCall (codes "credit" ∷ ws)) ws none (λ ep rest ep_in none.
      record { value = Credit ep; rest = rest; is = refl; fits = endpoint_fits ep ep_in.1; rest_fits = none })

  exit_row : (ws : List (List ℕ)) → CallRow ws (codes "exit") []
  exit_row ws none = record { value = Exit; rest = ws; is = refl; fits = tt; rest_fits = none }

  clear_row : (ws : List (List ℕ)) → CallRow ws (codes "clear") (byte ∷ [])
  clear_row ws none =
      number 0 255 (omega arith) (λ ws. more) (λ ws. BeginsCall (codes "clear" ∷ ws)) ws none (λ src rest src_in none.
      record { value = Clear src; rest = rest; is = refl; fits = byte_fits src src_in.1; rest_fits = none })

  pub a_call : (words : List (List ℕ)) → form_fault (choice (calls version) (word_at words 0) ++ more) words ≡ None → BeginsCall words
  unfolding form_fault calls
  a_call [] none = absurd (none-some _ (sym none))
  a_call (w ∷ ws) none =
      chosen (calls version) (λ places. places ++ more) BeginsCall w ws (
        derive_row ws,
        (
          gate_row ws,
          (
            obtain_row ws,
            (
              delegate_row ws,
              (
                open_row ws,
                (
                  ask_row ws,
                  (revoke_row ws, (bind_row ws, (read_row ws, (write_row ws, (send_row ws, (credit_row ws, (exit_row ws, (clear_row ws, tt)))))))),
                ),
              ),
            ),
          ),
        ),
      )
      none
