-- Words that have the form of an entry are those of one.
use Rattle.std.proofs.Common.{◌≡◌, ℕ, ◌+◌, ◌≤◌, ◌<◌, false, List, [], ◌∷◌, ◌++◌, length, drop, Option, Some, None, refl, ap, sym, subst, ◌∙◌, arith, decimal}
use Rattle.std.proofs.Common.{drop-drop}
use Rattle.std.specs.Prelude.{codes}
use Rattle.sem_key.specs.KeyName.{KeyName}
use Rattle.sem_key.specs.declared.limits.TheConstants.{KERNELS}
use Rattle.sem_msg.specs.declared.event.Act.{Act}
use Rattle.sem_msg.specs.declared.entry.Detail.{Detail}
use Rattle.sem_msg.specs.declared.entry.Reply.{Reply}
use Rattle.sem_msg.specs.declared.entry.Entry.{Entry}
use Rattle.sem_trace.specs.Forms.{Place, form_fault, node, key}
use Rattle.sem_trace.specs.Places.{Fills}
use Rattle.sem_trace.specs.Words.{key_word}
use Rattle.sem_journal.specs.EntryText.{act_words, detail_words, cut_words, reply_words, entry_words}
use Rattle.sem_trace.specs.MessageForms.{code}
use Rattle.sem_journal.specs.EntryForms.{reply_row, cut_row, grant_row, behind_cut, behind_grant, behind_event, event_form, entry_form, has_long_memory}
use Rattle.sem_journal.specs.EntryRanges.{EventFits, CutFits, ReplyFits, EntryFits}
use Rattle.sem_journal.specs.ShownWords.{shown_words, ShownFits}
use Rattle.sem_journal.proofs.EntryParts.{nothing_more, behind_filled, entry, entry_is}
use Rattle.sem_journal.proofs.PrintedEntries.{event_filled}
use Rattle.sem_readable.proofs.Rows.{number, vpe, a_key, chosen}
use Rattle.sem_readable.proofs.Events.{a_kernel, an_event, event_words}

-- all words are those of what is in its ranges
pub record Spells {X : Type 0} (spelling : X → List (List ℕ)) (Fits : X → Type 0) (words : List (List ℕ)) : Type 0 where
  pub value : X
  pub is : words ≡ spelling value
  pub fits : Fits value

module _ (version : ℕ) where
  -- a reply, behind its name
  a_reply : (P : List (List ℕ) → Type 0) (ws : List (List ℕ)) → form_fault (node version ∷ code ∷ []) ws ≡ None →
      ((r : Reply) → ReplyFits version (Some r) → P (decimal r.vpe ∷ decimal r.code ∷ [])) → P ws
  a_reply P ws none follows =
      vpe version (λ ws. code ∷ []) P ws none (λ v ws v_in none.
      number 0 15 (omega arith) (λ ws. []) (λ ws. P (decimal v ∷ ws)) ws none (λ c rest c_in none.
      subst (λ (ws : List (List ℕ)). P (decimal v ∷ decimal c ∷ ws)) (sym (nothing_more rest none)) (follows (record { vpe = v; code = c }) (v_in, c_in.1))))

  behind_a_cut : (ws : List (List ℕ)) → form_fault (behind_cut version ws) ws ≡ None → Spells reply_words (ReplyFits version) ws
  unfolding behind_cut
  behind_a_cut [] none = record { value = None; is = refl; fits = tt }
  behind_a_cut (w ∷ ws) none = chosen (reply_row version ∷ []) (λ places. places) (Spells reply_words (ReplyFits version)) w ws (row, tt) none
    where
      row : form_fault (node version ∷ code ∷ []) ws ≡ None → Spells reply_words (ReplyFits version) (codes "reply" ∷ ws)
      row none = a_reply (λ ws. Spells reply_words (ReplyFits version) (codes "reply" ∷ ws)) ws none (λ r fits. record {
        value = Some r;
        is = refl;
        fits = fits;
      })

  -- a cut and what stands behind it
  abbrev SpellsCut : List (List ℕ) → Type 0
  SpellsCut = Spells (λ (p : Option KeyName × Option Reply). cut_words p.0 ++ reply_words p.1) (λ p. CutFits version p.0 × ReplyFits version p.1)

  a_cut : (P : List (List ℕ) → Type 0) (ws : List (List ℕ)) → form_fault (key version ∷ behind_cut version (drop 1 ws)) ws ≡ None →
      ((k : KeyName) (r : Option Reply) → CutFits version (Some k) → ReplyFits version r → P (key_word k ∷ reply_words r)) → P ws
  a_cut P ws none follows =
      a_key version (λ ws. behind_cut version (drop 1 ws)) P ws none (λ k ws k_in none.
      let reply = behind_a_cut ws none in
      subst (λ (ws : List (List ℕ)). P (key_word k ∷ ws)) (sym reply.is) (follows k reply.value k_in reply.fits))

  behind_a_grant : (ws : List (List ℕ)) → form_fault (behind_grant version ws) ws ≡ None → SpellsCut ws
  unfolding behind_grant
  behind_a_grant [] none = record { value = (None, None); is = refl; fits = (tt, tt) }
  behind_a_grant (w ∷ ws) none = chosen (cut_row version (w ∷ ws) ∷ reply_row version ∷ []) (λ places. places) SpellsCut w ws (
    cut_row_is,
    (reply_row_is, tt),
  ) none
    where
      cut_row_is : form_fault (key version ∷ behind_cut version (drop 1 ws)) ws ≡ None → SpellsCut (codes "cut" ∷ ws)
      cut_row_is none = a_cut (λ ws. SpellsCut (codes "cut" ∷ ws)) ws none (λ k r k_in r_in. record { value = (Some k, r); is = refl; fits = (k_in, r_in) })

      reply_row_is : form_fault (node version ∷ code ∷ []) ws ≡ None → SpellsCut (codes "reply" ∷ ws)
      reply_row_is none = a_reply (λ ws. SpellsCut (codes "reply" ∷ ws)) ws none (λ r fits. record { value = (None, Some r); is = refl; fits = (tt, fits) })

  -- what was granted, cut and replied
  abbrev SpellsShown : List (List ℕ) → Type 0
  SpellsShown = Spells shown_words (ShownFits version)

  with_grant : (ws : List (List ℕ)) → form_fault (key version ∷ key version ∷ behind_grant version (drop 2 ws)) ws ≡ None → SpellsShown (codes "grant" ∷ ws)
  with_grant ws none =
      a_key version (λ ws. key version ∷ behind_grant version (drop 2 ws)) (λ ws. SpellsShown (codes "grant" ∷ ws)) ws none (λ p ws p_in none.
      a_key version (λ ws. behind_grant version (drop 1 ws)) (λ ws. SpellsShown (codes "grant" ∷ key_word p ∷ ws)) ws none (λ k ws k_in none.
      let more = behind_a_grant ws none in
      record {
        value = record { grant = Some (p, k); cut = more.value.0; reply = more.value.1 };
        is = ap (λ (ws : List (List ℕ)). codes "grant" ∷ key_word p ∷ key_word k ∷ ws) more.is;
        fits = record { grant = (p_in, k_in); cut = more.fits.0; reply = more.fits.1 };
      }))

  with_cut : (ws : List (List ℕ)) → form_fault (key version ∷ behind_cut version (drop 1 ws)) ws ≡ None → SpellsShown (codes "cut" ∷ ws)
  with_cut ws none =
      a_cut (λ ws. SpellsShown (codes "cut" ∷ ws)) ws none (λ k r k_in r_in.
      record { value = record { grant = None; cut = Some k; reply = r }; is = refl; fits = record { grant = tt; cut = k_in; reply = r_in } })

  with_reply : (ws : List (List ℕ)) → form_fault (node version ∷ code ∷ []) ws ≡ None → SpellsShown (codes "reply" ∷ ws)
  with_reply ws none =
      a_reply (λ ws. SpellsShown (codes "reply" ∷ ws)) ws none (λ r fits.
      record { value = record { grant = None; cut = None; reply = Some r }; is = refl; fits = record { grant = tt; cut = tt; reply = fits } })

  pub behind_an_event : (ws : List (List ℕ)) → form_fault (behind_event version ws) ws ≡ None → Spells shown_words (ShownFits version) ws
  unfolding behind_event
  behind_an_event [] none = record { value = record { grant = None; cut = None; reply = None }; is = refl; fits = record { grant = tt; cut = tt; reply = tt } }
  behind_an_event (w ∷ ws) none = chosen (grant_row version (w ∷ ws) ∷ cut_row version (w ∷ ws) ∷ reply_row version ∷ []) (λ places. places) SpellsShown w ws
      (with_grant ws, (with_cut ws, (with_reply ws, tt))) none

-- an entry by its parts
module _ (version kernels : ℕ) (some : 1 ≤ kernels) (few : kernels ≤ KERNELS) where
  abbrev SpellsEntry : List (List ℕ) → Type 0
  SpellsEntry words = has_long_memory words ≡ false → Spells entry_words (EntryFits version kernels) words

  behind_is : (n : ℕ) (word : List ℕ) (words : List (List ℕ)) → drop (1 + n) (word ∷ words) ≡ drop n words
  behind_is n word words = sym (drop-drop n 1 (word ∷ words))

  past_event : (words rest : List (List ℕ)) (act : Act) (detail : Detail) → EventFits version kernels act detail → words ≡ event_words (act, detail) ++ rest →
      drop (length (event_form version kernels words)) words ≡ rest
  past_event words rest act detail fits is =
      let grouped : words ≡ act_words act ++ detail_words detail ++ rest = is in
      let fills : Fills (event_form version kernels words) words rest =
      rw grouped (λ more. (event_filled version kernels act detail some few fits (record { is = refl })).is) in
      behind_filled (event_form version kernels words) words rest fills

  entry_parts : (k : ℕ) (words : List (List ℕ)) → k < kernels →
      form_fault (event_form version kernels words ++ behind_event version (drop (1 + length (event_form version kernels words)) (decimal k ∷ words))) words
      ≡ None → SpellsEntry (decimal k ∷ words)
  entry_parts k words k_in none short =
      let more : List Place = behind_event version (drop (1 + length (event_form version kernels words)) (decimal k ∷ words)) in
      let event = an_event version kernels some few more words none in
      let past : drop (1 + length (event_form version kernels words)) (decimal k ∷ words) ≡ event.rest =
      behind_is (length (event_form version kernels words)) (decimal k) words
      ∙ past_event words event.rest event.value.0 event.value.1 event.fits event.is in
      let shown = behind_an_event version event.rest (subst (λ (ws : List (List ℕ)). form_fault (behind_event version ws) event.rest
      ≡ None) past event.rest_fits) in
      let e : Entry = entry k event.value.0 event.value.1 shown.value in
      let words_are : decimal k ∷ words ≡ entry_words e = entry_is k event.value.0 event.value.1 shown.value words event.rest event.is shown.is in
      record {
        value = e;
        is = words_are;
        fits = record {
          kernel = k_in;
          event = event.fits;
          grant = shown.fits.grant;
          cut = shown.fits.cut;
          reply = shown.fits.reply;
          memory = subst (λ (ws : List (List ℕ)). has_long_memory ws ≡ false) words_are short;
        };
      }

  pub an_entry : (words : List (List ℕ)) → form_fault (entry_form version kernels words) words ≡ None → has_long_memory words ≡ false →
      Spells entry_words (EntryFits version kernels) words
  unfolding entry_form
  an_entry words none =
      a_kernel kernels some few (λ ws. event_form version kernels (drop 1 ws)
      ++ behind_event version (drop (1 + length (event_form version kernels (drop 1 ws))) ws)) SpellsEntry words none (λ k rest k_in none.
      entry_parts k rest k_in none)
