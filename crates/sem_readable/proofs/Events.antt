-- Words that have the form of an event are those of one.
use Rattle.std.proofs.Common.{◌≡◌, ℕ, ◌-◌, ◌≤◌, ◌<◌, List, [], ◌∷◌, ◌++◌, drop, None, refl, sym, arith, decimal}
use Rattle.std.specs.Prelude.{codes}
use Rattle.std.proofs.lemmas.Option.{none-some}
use Rattle.sem_key.specs.declared.limits.TheConstants.{KERNELS}
use Rattle.sem_msg.specs.declared.event.Act.{Act}
use Rattle.sem_msg.specs.declared.event.Act.TheVariants.{Call as Calls, Fetch, Handle, Upcall, Resume, Flush, Kill}
use Rattle.sem_msg.specs.declared.entry.Consent.TheVariants.{Yes, No, Dropped}
use Rattle.sem_msg.specs.declared.entry.Detail.{Detail}
use Rattle.sem_msg.specs.declared.entry.Detail.TheVariants.{Called, Carried, Asked, Nothing}
use Rattle.sem_msg.specs.declared.message.Message.{Message}
use Rattle.sem_trace.specs.Forms.{Place, place_fault, form_fault, choice, word_at, word, node, calls}
use Rattle.sem_trace.specs.Forms.Place.{Word}
use Rattle.sem_journal.specs.EntryText.{act_words, detail_words, message_words}
use Rattle.sem_trace.specs.MessageForms.{message_form}
use Rattle.sem_journal.specs.EntryForms.{kernel, events, event_form}
use Rattle.sem_journal.specs.EntryRanges.{MessageFits, EventFits}
use Rattle.sem_readable.proofs.Values.{IsWordOf, IsIn, number_word}
use Rattle.sem_readable.proofs.Rows.{Begins, next, number, vpe, chosen, after_it, one_word}
use Rattle.sem_readable.proofs.Calls.{a_call}
use Rattle.sem_readable.proofs.Messages.{a_message}

-- one of so many kernels
kernel_word : (kernels : ℕ) → 1 ≤ kernels → kernels ≤ KERNELS → (w : List ℕ) → place_fault (kernel kernels) w ≡ None → IsWordOf decimal (λ k. k < kernels) w
kernel_word kernels some few w none = from (number_word 0 (kernels - 1) w (omega (arith, few)) none)
  where
    below : (k : ℕ) → k ≤ kernels - 1 → k < kernels
    below k most = omega (arith, most, some)

    from : IsWordOf decimal (IsIn 0 (kernels - 1)) w → IsWordOf decimal (λ k. k < kernels) w
    from (k, is, inside) = (k, is, below k inside.1)

pub a_kernel : (kernels : ℕ) → 1 ≤ kernels → kernels ≤ KERNELS → (more : List (List ℕ) → List Place) (G : List (List ℕ) → Type 0) (words : List (List ℕ)) →
    form_fault (kernel kernels ∷ more words) words ≡ None → ((k : ℕ) (rest : List (List ℕ)) → k < kernels → form_fault (more (decimal k ∷ rest)) rest ≡ None →
    G (decimal k ∷ rest)) → G words
a_kernel kernels some few = next decimal (λ k. k < kernels) (kernel kernels) (kernel_word kernels some few)

abbrev pub event_words : Act × Detail → List (List ℕ)
event_words p = act_words p.0 ++ detail_words p.1

module _ (version kernels : ℕ) (some : 1 ≤ kernels) (few : kernels ≤ KERNELS) (more : List Place) where
  abbrev BeginsEvent : List (List ℕ) → Type 0
  BeginsEvent = Begins event_words (λ p. EventFits version kernels p.0 p.1) more

  abbrev Row : List (List ℕ) → List ℕ → List Place → Type 0
  Row ws name places = form_fault (places ++ more) ws ≡ None → BeginsEvent (name ∷ ws)

  call_row : (ws : List (List ℕ)) → Row ws (codes "call") (node version ∷ word ∷ choice (calls version) (word_at ws 2))
  call_row ws none =
      vpe version (λ ws. word ∷ choice (calls version) (word_at ws 2) ++ more) (λ ws. BeginsEvent (codes "call" ∷ ws)) ws none (λ v ws v_in none.
      number 0 4294967295 (omega arith) (λ ws. choice (calls version) (word_at ws 1) ++ more) (λ ws. BeginsEvent (codes "call" ∷ decimal v ∷ ws)) ws none
      (λ i ws i_in none.
      after_it (λ ws. BeginsEvent (codes "call" ∷ decimal v ∷ decimal i ∷ ws)) (a_call version more ws none) (λ c rest c_in none.
      record { value = (Calls v, Called i c); rest = rest; is = refl; fits = (v_in, i_in.1, c_in); rest_fits = none })))

  -- the other kernel and the message, behind the name
  carried : (name : List ℕ) (ws : List (List ℕ)) → ((p : ℕ) (m : Message) (rest : List (List ℕ)) → p < kernels → MessageFits version m →
      form_fault more rest ≡ None → BeginsEvent (name ∷ decimal p ∷ message_words m ++ rest)) → Row ws name (kernel kernels ∷ message_form version (drop 1 ws))
  carried name ws made_of none =
      a_kernel kernels some few (λ ws. message_form version (drop 1 ws) ++ more) (λ ws. BeginsEvent (name ∷ ws)) ws none (λ p ws p_in none.
      after_it (λ ws. BeginsEvent (name ∷ decimal p ∷ ws)) (a_message version more ws none) (λ m rest m_in none.
      made_of p m rest p_in m_in none))

  fetch_row : (ws : List (List ℕ)) → Row ws (codes "fetch") (kernel kernels ∷ message_form version (drop 1 ws))
  fetch_row ws = carried (codes "fetch") ws (λ p m rest p_in m_in none. record {
    value = (Fetch p, Carried p m);
    rest = rest;
    is = refl;
    fits = (refl, p_in, m_in);
    rest_fits = none;
  })

  handle_row : (ws : List (List ℕ)) → Row ws (codes "handle") (kernel kernels ∷ message_form version (drop 1 ws))
  handle_row ws = carried (codes "handle") ws (λ p m rest p_in m_in none. record {
    value = (Handle, Carried p m);
    rest = rest;
    is = refl;
    fits = (p_in, m_in);
    rest_fits = none;
  })

  flush_row : (ws : List (List ℕ)) → Row ws (codes "flush") (kernel kernels ∷ message_form version (drop 1 ws))
  flush_row ws = carried (codes "flush") ws (λ p m rest p_in m_in none. record {
    value = (Flush p, Carried p m);
    rest = rest;
    is = refl;
    fits = (refl, p_in, m_in);
    rest_fits = none;
  })

  upcall_row : (ws : List (List ℕ)) → Row ws (codes "upcall") (node version ∷ node version ∷ Word (codes "yes" ∷ codes "no" ∷ codes "drop" ∷ []) ∷ [])
  upcall_row ws none =
      vpe version (λ ws. node version ∷ Word (codes "yes" ∷ codes "no" ∷ codes "drop" ∷ []) ∷ more) (λ ws. BeginsEvent (codes "upcall" ∷ ws)) ws none
      (λ v ws v_in none.
      vpe version (λ ws. Word (codes "yes" ∷ codes "no" ∷ codes "drop" ∷ []) ∷ more) (λ ws. BeginsEvent (codes "upcall" ∷ decimal v ∷ ws)) ws none
      (λ asker ws asker_in none.
      one_word (codes "yes" ∷ codes "no" ∷ codes "drop" ∷ []) more (λ ws. BeginsEvent (codes "upcall" ∷ decimal v ∷ decimal asker ∷ ws)) ws none (λ rest none. (
        record { value = (Upcall v, Asked asker Yes); rest = rest; is = refl; fits = (v_in, asker_in); rest_fits = none },
        (
          record { value = (Upcall v, Asked asker No); rest = rest; is = refl; fits = (v_in, asker_in); rest_fits = none },
          (record { value = (Upcall v, Asked asker Dropped); rest = rest; is = refl; fits = (v_in, asker_in); rest_fits = none }, tt),
        ),
      ))))

  resume_row : (ws : List (List ℕ)) → Row ws (codes "resume") (node version ∷ [])
  resume_row ws none =
      vpe version (λ ws. more) (λ ws. BeginsEvent (codes "resume" ∷ ws)) ws none (λ v rest v_in none.
      record { value = (Resume v, Nothing); rest = rest; is = refl; fits = v_in; rest_fits = none })

  kill_row : (ws : List (List ℕ)) → Row ws (codes "kill") (node version ∷ [])
  kill_row ws none =
      vpe version (λ ws. more) (λ ws. BeginsEvent (codes "kill" ∷ ws)) ws none (λ v rest v_in none.
      record { value = (Kill v, Nothing); rest = rest; is = refl; fits = v_in; rest_fits = none })

  pub an_event : (words : List (List ℕ)) → form_fault (event_form version kernels words ++ more) words ≡ None → BeginsEvent words
  unfolding form_fault event_form events
  an_event [] none = absurd (none-some _ (sym none))
  an_event (w ∷ ws) none =
      chosen (events version kernels (w ∷ ws)) (λ places. places ++ more) BeginsEvent w ws
      (call_row ws, (fetch_row ws, (handle_row ws, (upcall_row ws, (resume_row ws, (flush_row ws, (kill_row ws, tt)))))))
      none
