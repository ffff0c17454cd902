-- The text of lines that are appended one after another.
use Rattle.std.proofs.Common.{◌≡◌, ℕ, zero, suc, ◌+◌, List, [], ◌∷◌, ◌++◌, length, take, map, Result, Ok, Err, OnOk, refl, arith, add-one, append_assoc}
use Rattle.std.proofs.Common.{append-nil, ap, ◌∙◌}
use Rattle.std.specs.Prelude.{codes, decimal}
use Rattle.std.specs.List.{slice_get}
use Rattle.std.specs.Option.{option_to_list}
use Rattle.std.proofs.lemmas.List.{map-append}
use Rattle.std.proofs.lemmas.Grind.{common_steps, flat_map-append}
use Rattle.sem_key.specs.KeyName.{KeyName}
use Rattle.sem_msg.specs.declared.entry.Entry.{Entry}
use Rattle.sem_msg.specs.Setup.{Setup}
use Rattle.sem_text.specs.Lines.{line, text}
use Rattle.sem_trace.specs.TraceText.{trace_lines}
use Rattle.sem_journal.specs.EntryText.{entry_words}
use Rattle.sem_journal.specs.ReportText.{held_line, audit_lines, report_text}
use Rattle.sem_report.specs.ReportHead.{BeginsReport}

-- what follows from what an `Ok` says
pub OnOk-then : {T E P Q : Type 0} (r : Result T E) → OnOk r P → (P → Q) → OnOk r Q
OnOk-then (Ok value) p follows = follows p
OnOk-then (Err error) p follows = tt

-- one more of the first elements, if there is one
take-suc-read : {X : Type 0} (xs : List X) (i : ℕ) → take (suc i) xs ≡ take i xs ++ option_to_list (slice_get xs i)
take-suc-read [] zero = refl
take-suc-read [] (suc i) = refl
take-suc-read (x ∷ xs) zero = refl
take-suc-read (x ∷ xs) (suc i) = rw (take-suc-read xs i) refl

-- `now` ends with the lines of the elements before place i; with those of the element there, they are the lines of one more
pub text-read-more : {X : Type 0} (f : X → List (List ℕ)) (xs : List X) (i : ℕ) (before now after : List ℕ) → now ≡ before ++ text (map f (take i xs)) →
    after ≡ now ++ text (map f (option_to_list (slice_get xs i))) → after ≡ before ++ text (map f (take (i + 1) xs))
text-read-more f xs i before now after so_far more =
    rw (add-one, take-suc-read xs i, map-append, flat_map-append) (grind (arith, common_steps, append_assoc))

-- a text of four lines, some lines more, and a last one
text-framed : (p q r s last : List (List ℕ)) (more : List (List (List ℕ))) (before a b c d e after : List ℕ) → a ≡ before ++ line p → b ≡ a ++ line q →
    c ≡ b ++ line r → d ≡ c ++ line s → e ≡ d ++ text more → after ≡ e ++ line last → after ≡ before ++ text (p ∷ q ∷ r ∷ s ∷ more ++ last ∷ [])
text-framed p q r s last more before a b c d e after at_p at_q at_r at_s at_more at_last =
    rw (at_last, at_more, at_s, at_r, at_q, at_p) (simp (flat_map-append, append_assoc, append-nil))

-- the lines of an audit, in six pieces
pub text-audit : (made cut : ℕ) (held : List (KeyName × ℕ)) (before a b c d e after : List ℕ) → a ≡ before ++ line (codes "audit" ∷ []) →
    b ≡ a ++ line (codes "made" ∷ decimal made ∷ []) → c ≡ b ++ line (codes "cut" ∷ decimal cut ∷ []) →
    d ≡ c ++ line (codes "held" ∷ decimal (length held) ∷ []) → e ≡ d ++ text (map held_line held) → after ≡ e ++ line (codes "end" ∷ []) →
    after ≡ before ++ text (audit_lines made cut held)
text-audit made cut held = text-framed (codes "audit" ∷ []) (codes "made" ∷ decimal made ∷ []) (codes "cut" ∷ decimal cut ∷ [])
    (codes "held" ∷ decimal (length held) ∷ []) (codes "end" ∷ []) (map held_line held)

-- a line, some lines, and a line, with two parts more behind them
text-parts : (first last : List (List ℕ)) (xs ys zs : List (List (List ℕ))) (before a b after : List ℕ) → a ≡ before ++ line first → b ≡ a ++ text xs →
    after ≡ b ++ line last → after ++ text ys ++ text zs ≡ before ++ text (first ∷ xs ++ (last ∷ ys) ++ zs)
text-parts first last xs ys zs before a b after at_first at_xs at_last = rw (at_last, at_xs, at_first) (simp (flat_map-append, append_assoc))

-- the text of a report before its entries, in three pieces
pub text-head : (T : Setup) (J : List Entry) (before a b after : List ℕ) →
    a ≡ before ++ line (codes "semper" ∷ codes "report" ∷ decimal T.version ∷ []) → b ≡ a ++ text (trace_lines T) →
    after ≡ b ++ line (codes "journal" ∷ decimal (length J) ∷ []) → BeginsReport T J before after
text-head T J before a b after at_first at_trace at_count made cut held = text-parts (codes "semper" ∷ codes "report" ∷ decimal T.version ∷ [])
    (codes "journal" ∷ decimal (length J) ∷ []) (trace_lines T) (map entry_words J) (audit_lines made cut held) before a b after at_first at_trace at_count

-- the text of a report: what comes before its entries, its entries and its audit
pub text-report : (T : Setup) (J : List Entry) (made cut : ℕ) (held : List (KeyName × ℕ)) (before head entries after : List ℕ) →
    BeginsReport T J before head → entries ≡ head ++ text (map entry_words J) → after ≡ entries ++ text (audit_lines made cut held) →
    after ≡ before ++ report_text T J made cut held
text-report T J made cut held before head entries after begins at_entries at_audit =
    at_audit ∙ (ap (λ e. e ++ text (audit_lines made cut held)) at_entries ∙ begins made cut held)
