-- The words of an entry, which are appended group by group, and its line.
use Rattle.std.proofs.Common.{◌≡◌, ℕ, List, [], ◌∷◌, ◌++◌, refl, append_assoc}
use Rattle.std.specs.Prelude.{decimal}
use Rattle.std.specs.List.{flat_map}
use Rattle.std.proofs.lemmas.Grind.{flat_map-append}
use Rattle.sem_msg.specs.declared.entry.Entry.{Entry}
use Rattle.sem_text.specs.Lines.{behind_blanks, line}
use Rattle.sem_journal.specs.SpacedWords.{spaced}
use Rattle.sem_journal.specs.EntryText.{act_words, detail_words, grant_words, cut_words, reply_words, entry_words}

flat_map-five : {X A : Type 0} (f : X → List A) (p q r s t : List X) → flat_map f (p ++ q ++ r ++ s ++ t) ≡ flat_map f p ++ flat_map f q ++ flat_map f r
    ++ flat_map f s ++ flat_map f t
flat_map-five f p q r s t = rw (flat_map-append, flat_map-append, flat_map-append, flat_map-append) refl

-- a first word and five groups of words
spaced-parts : (first : List ℕ) (p q r s t : List (List ℕ)) (before a b c d e f : List ℕ) → a ≡ before ++ first → b ≡ a ++ behind_blanks p →
    c ≡ b ++ behind_blanks q → d ≡ c ++ behind_blanks r → e ≡ d ++ behind_blanks s → f ≡ e ++ behind_blanks t →
    f ≡ before ++ spaced (first ∷ p ++ q ++ r ++ s ++ t)
spaced-parts first p q r s t before a b c d e f at_first at_p at_q at_r at_s at_t =
    let words : behind_blanks (p ++ q ++ r ++ s ++ t) ≡ behind_blanks p ++ behind_blanks q ++ behind_blanks r ++ behind_blanks s ++ behind_blanks t =
    flat_map-five (λ (w : List ℕ). 32 ∷ w) p q r s t in
    rw (at_t, at_s, at_r, at_q, at_p, at_first, words) (simp append_assoc)

-- the words of an entry, in six pieces
pub spaced-entry : (x : Entry) (before a b c d e f : List ℕ) → a ≡ before ++ decimal x.event.kernel → b ≡ a ++ behind_blanks (act_words x.event.act) →
    c ≡ b ++ behind_blanks (detail_words x.detail) → d ≡ c ++ behind_blanks (grant_words x.grant) → e ≡ d ++ behind_blanks (cut_words x.cut) →
    f ≡ e ++ behind_blanks (reply_words x.reply) → f ≡ before ++ spaced (entry_words x)
spaced-entry x = spaced-parts (decimal x.event.kernel) (act_words x.event.act) (detail_words x.detail) (grant_words x.grant) (cut_words x.cut)
    (reply_words x.reply)

-- and its line
pub line-entry : (x : Entry) (before words after : List ℕ) → words ≡ before ++ spaced (entry_words x) → after ≡ words ++ 10 ∷ [] →
    after ≡ before ++ line (entry_words x)
line-entry x before words after told ended = rw (ended, told) (simp append_assoc)
