-- Words that have the form of an object or of a target are those of one.
use Rattle.std.proofs.Common.{◌≡◌, ℕ, List, [], ◌∷◌, ◌++◌, None, refl, sym, arith, decimal}
use Rattle.std.specs.Prelude.{codes}
use Rattle.std.proofs.lemmas.Option.{none-some}
use Rattle.sem_key.specs.declared.object.Object.TheVariants.{Mem, Recv, Send, Serv, Sess}
use Rattle.sem_msg.specs.declared.message.Target.TheVariants.{Sel as SelTarget, Serv as ServTarget, Offer as OfferTarget}
use Rattle.sem_trace.specs.Forms.{Place, form_fault, choice, word_at, word, rights, slots, byte, node, key}
use Rattle.sem_trace.specs.Words.{key_word, object_words}
use Rattle.sem_journal.specs.EntryText.{target_words}
use Rattle.sem_trace.specs.MessageForms.{objects, targets}
use Rattle.sem_journal.specs.EntryRanges.{ObjectFits, TargetFits}
use Rattle.sem_readable.proofs.Values.{byte_fits}
use Rattle.sem_readable.proofs.Rows.{Begins, number, vpe, a_key, chosen}

module _ (version : ℕ) (more : List Place) where
  abbrev BeginsObject : List (List ℕ) → Type 0
  BeginsObject = Begins object_words (ObjectFits version) more

  abbrev ObjectRow : List (List ℕ) → List ℕ → List Place → Type 0
  ObjectRow ws name places = form_fault (places ++ more) ws ≡ None → BeginsObject (name ∷ ws)

  mem_row : (ws : List (List ℕ)) → ObjectRow ws (codes "mem") (word ∷ word ∷ rights ∷ [])
  mem_row ws none =
      number 0 4294967295 (omega arith) (λ ws. word ∷ rights ∷ more) (λ ws. BeginsObject (codes "mem" ∷ ws)) ws none (λ base ws base_in none.
      number 0 4294967295 (omega arith) (λ ws. rights ∷ more) (λ ws. BeginsObject (codes "mem" ∷ decimal base ∷ ws)) ws none (λ len ws len_in none.
      number 0 7 (omega arith) (λ ws. more) (λ ws. BeginsObject (codes "mem" ∷ decimal base ∷ decimal len ∷ ws)) ws none (λ r rest r_in none.
      record { value = Mem base len r; rest = rest; is = refl; fits = (base_in.1, len_in.1, r_in.1); rest_fits = none })))

  recv_row : (ws : List (List ℕ)) → ObjectRow ws (codes "recv") (slots ∷ [])
  recv_row ws none =
      number 1 64 (omega arith) (λ ws. more) (λ ws. BeginsObject (codes "recv" ∷ ws)) ws none (λ n rest n_in none.
      record { value = Recv n; rest = rest; is = refl; fits = (n_in.0, n_in.1); rest_fits = none })

  send_row : (ws : List (List ℕ)) → ObjectRow ws (codes "send") (key version ∷ word ∷ slots ∷ [])
  send_row ws none =
      a_key version (λ ws. word ∷ slots ∷ more) (λ ws. BeginsObject (codes "send" ∷ ws)) ws none (λ gate ws gate_in none.
      number 0 4294967295 (omega arith) (λ ws. slots ∷ more) (λ ws. BeginsObject (codes "send" ∷ key_word gate ∷ ws)) ws none (λ label ws label_in none.
      number 1 64 (omega arith) (λ ws. more) (λ ws. BeginsObject (codes "send" ∷ key_word gate ∷ decimal label ∷ ws)) ws none (λ n rest n_in none.
      record { value = Send gate label n; rest = rest; is = refl; fits = (gate_in, label_in.1, n_in.0, n_in.1); rest_fits = none })))

  serv_row : (ws : List (List ℕ)) → ObjectRow ws (codes "serv") (byte ∷ [])
  serv_row ws none =
      number 0 255 (omega arith) (λ ws. more) (λ ws. BeginsObject (codes "serv" ∷ ws)) ws none (λ name rest name_in none.
      record { value = Serv name; rest = rest; is = refl; fits = name_in.1; rest_fits = none })

  sess_row : (ws : List (List ℕ)) → ObjectRow ws (codes "sess") (key version ∷ node version ∷ [])
  sess_row ws none =
      a_key version (λ ws. node version ∷ more) (λ ws. BeginsObject (codes "sess" ∷ ws)) ws none (λ service ws service_in none.
      vpe version (λ ws. more) (λ ws. BeginsObject (codes "sess" ∷ key_word service ∷ ws)) ws none (λ ident rest ident_in none.
      record { value = Sess service ident; rest = rest; is = refl; fits = (service_in, ident_in); rest_fits = none }))

  pub an_object : (words : List (List ℕ)) → form_fault (choice (objects version) (word_at words 0) ++ more) words ≡ None → BeginsObject words
  unfolding form_fault objects
  an_object [] none = absurd (none-some _ (sym none))
  an_object (w ∷ ws) none = chosen (objects version) (λ places. places ++ more) BeginsObject w ws (
    mem_row ws,
    (recv_row ws, (send_row ws, (serv_row ws, (sess_row ws, tt)))),
  ) none

  abbrev BeginsTarget : List (List ℕ) → Type 0
  BeginsTarget = Begins target_words (TargetFits version) more

  abbrev TargetRow : List (List ℕ) → List ℕ → List Place → Type 0
  TargetRow ws name places = form_fault (places ++ more) ws ≡ None → BeginsTarget (name ∷ ws)

  sel_row : (ws : List (List ℕ)) → TargetRow ws (codes "sel") (node version ∷ byte ∷ [])
  sel_row ws none =
      vpe version (λ ws. byte ∷ more) (λ ws. BeginsTarget (codes "sel" ∷ ws)) ws none (λ v ws v_in none.
      number 0 255 (omega arith) (λ ws. more) (λ ws. BeginsTarget (codes "sel" ∷ decimal v ∷ ws)) ws none (λ s rest s_in none.
      record { value = SelTarget v s; rest = rest; is = refl; fits = (v_in, byte_fits s s_in.1); rest_fits = none }))

  service_row : (ws : List (List ℕ)) → TargetRow ws (codes "serv") (key version ∷ [])
  service_row ws none =
      a_key version (λ ws. more) (λ ws. BeginsTarget (codes "serv" ∷ ws)) ws none (λ k rest k_in none.
      record { value = ServTarget k; rest = rest; is = refl; fits = k_in; rest_fits = none })

  offer_row : (ws : List (List ℕ)) → TargetRow ws (codes "offer") (key version ∷ byte ∷ [])
  offer_row ws none =
      a_key version (λ ws. byte ∷ more) (λ ws. BeginsTarget (codes "offer" ∷ ws)) ws none (λ k ws k_in none.
      number 0 255 (omega arith) (λ ws. more) (λ ws. BeginsTarget (codes "offer" ∷ key_word k ∷ ws)) ws none (λ index rest index_in none.
      record { value = OfferTarget k index; rest = rest; is = refl; fits = (k_in, index_in.1); rest_fits = none }))

  pub a_target : (words : List (List ℕ)) → form_fault (choice (targets version) (word_at words 0) ++ more) words ≡ None → BeginsTarget words
  unfolding form_fault targets
  a_target [] none = absurd (none-some _ (sym none))
  a_target (w ∷ ws) none = chosen (targets version) (λ places. places ++ more) BeginsTarget w ws (sel_row ws, (service_row ws, (offer_row ws, tt))) none
