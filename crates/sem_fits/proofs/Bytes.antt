-- How many bytes the report of a schedule has.
use Rattle.std.proofs.Common.{◌≡◌, ℕ, suc, Bool, ◌+◌, ◌*◌, ◌≤◌, true, false, nat_lt, List, [], ◌∷◌, ◌++◌, length, map, Option, Some, None, refl, sym, ◌∙◌, ap}
use Rattle.std.proofs.Common.{subst, inl, inr, arith, decimal, length-append}
use Rattle.std.specs.Prelude.{codes, if◌then◌else◌}
use Rattle.std.specs.List.{All}
use Rattle.std.proofs.Math.Nat.{suc-mul}
use Rattle.std.proofs.lemmas.Bool.{ltb-false}
use Rattle.std.proofs.lemmas.Fmt.{length-decimal-le}
use Rattle.std.proofs.lemmas.Grind.{flat_map-append}
use Rattle.std.proofs.lemmas.List.Elements.{All-head, All-tail}
use Rattle.sem_key.specs.declared.key.Kind.{Kind}
use Rattle.sem_key.specs.declared.key.Kind.TheVariants.{Mem as MemKind, Recv as RecvKind, Send as SendKind, Serv as ServKind, Sess as SessKind}
use Rattle.sem_key.specs.KeyName.{KeyName, kind_number}
use Rattle.sem_msg.specs.declared.entry.Entry.{Entry}
use Rattle.sem_msg.specs.Setup.{Setup, IsSetup}
use Rattle.sem_msg.proofs.Declared.{most_vpes-le}
use Rattle.sem_text.specs.Lines.{behind_blanks, line, text}
use Rattle.sem_trace.specs.Ranges.{IsKeyInText}
use Rattle.sem_trace.specs.declared.fault.TraceFault.{TraceFault}
use Rattle.sem_trace.specs.declared.fault.Cause.TheVariants.{InputTooLong}
use Rattle.sem_trace.specs.TextLines.{lines_of}
use Rattle.sem_trace.specs.Refusal.{lines_refusal, refusal}
use Rattle.sem_trace.specs.TraceText.{trace_lines, canonical}
use Rattle.sem_trace.specs.Words.{key_word}
use Rattle.sem_reader.proofs.PlainText.{width}
use Rattle.sem_reader.proofs.Whole.{stands}
use Rattle.sem_journal.specs.EntryText.{entry_words}
use Rattle.sem_journal.specs.ReportText.{held_line, audit_lines, journal_lines, report_text}
use Rattle.sem_journal.proofs.LineLength.{short_line}
use Rattle.sem_machine.specs.Schedules.{IsSchedule}
use Rattle.sem_machine.specs.Journals.{made, cut}
use Rattle.sem_machine.specs.HeldKeys.{held_after}
use Rattle.sem_fits.proofs.Entries.{entries-fit}
use Rattle.sem_fits.proofs.Held.{few-held, held-fits}
use Rattle.sem_fits.proofs.Audits.{few-entries, few-made, few-cut}

-- Lines.

-- the bytes of words behind blanks
length-behind : (ws : List (List ℕ)) → length (behind_blanks ws) ≡ width ws
length-behind [] = refl
length-behind (w ∷ ws) = let rest = length-behind ws in omega (arith, rest, length-append w (behind_blanks ws))

-- the line end stands for the blank before the first word
length-line : (w : List ℕ) (ws : List (List ℕ)) → length (line (w ∷ ws)) ≡ width (w ∷ ws)
length-line w ws = omega (arith, length-append (w ++ behind_blanks ws) (10 ∷ []), length-append w (behind_blanks ws), length-behind ws)

-- Texts.

-- the bytes of a text with one line more
text-more : (l : List (List ℕ)) (ls : List (List (List ℕ))) → length (text (l ∷ ls)) ≡ length (line l) + length (text ls)
text-more l ls = length-append (line l) (text ls)

-- the bytes of two texts, one behind the other
text-both : (xs ys : List (List (List ℕ))) → length (text (xs ++ ys)) ≡ length (text xs) + length (text ys)
text-both xs ys = ap (λ (bs : List ℕ). length bs) (flat_map-append line xs ys) ∙ length-append (text xs) (text ys)

-- the bytes of lines none of which is longer than m
text-each : {X : Type 0} (f : X → List (List ℕ)) (m : ℕ) (xs : List X) → All (λ x. length (line (f x)) ≤ m) xs → length (text (map f xs)) ≤ length xs * m
text-each f m [] short = omega arith
text-each f m (x ∷ xs) short =
    let here : length (line (f x)) ≤ m = All-head (λ y. length (line (f y)) ≤ m) x xs short in
    let rest : length (text (map f xs)) ≤ length xs * m = text-each f m xs (All-tail (λ y. length (line (f y)) ≤ m) x xs short) in
    let more : length (text (f x ∷ map f xs)) ≡ length (line (f x)) + length (text (map f xs)) = text-more (f x) (map f xs) in
    let product : suc (length xs) * m ≡ length xs * m + m = suc-mul (length xs) m in
    subst (λ n. length (text (f x ∷ map f xs)) ≤ n) (sym product) (omega (arith, here, rest, more))

-- The trace: it is not refused, so it is not too long.

-- where nothing was chosen, the test failed
not-chosen : (b : Bool) (x : TraceFault) (y : Option TraceFault) → (if b then Some x else y) ≡ None → b ≡ false
not-chosen true x y none = absurd cc
not-chosen false x y none = refl

-- a text that is not refused is not too long
not-long : (bytes : List ℕ) → refusal bytes ≡ None → length bytes ≤ 8388608
unfolding refusal
not-long bytes accepted = ltb-false 8388608 (length bytes)
    (not-chosen (nat_lt 8388608 (length bytes)) (record { line = 0; word = None; cause = InputTooLong }) (lines_refusal (lines_of bytes)) accepted)

-- the trace of a setup
short-trace : (T : Setup) → IsSetup T → length (canonical T) ≤ 8388608
short-trace T valid = not-long (canonical T) (stands T valid).accepted

-- The audit.

-- the number of a kind has one digit
kind-short : (q : Kind) → length (decimal (kind_number q)) ≤ 1
kind-short MemKind = length-decimal-le 1 1 (omega arith) (omega arith) (omega arith)
kind-short RecvKind = length-decimal-le 1 2 (omega arith) (omega arith) (omega arith)
kind-short SendKind = length-decimal-le 1 3 (omega arith) (omega arith) (omega arith)
kind-short ServKind = length-decimal-le 1 4 (omega arith) (omega arith) (omega arith)
kind-short SessKind = length-decimal-le 1 5 (omega arith) (omega arith) (omega arith)

-- the word of a key
short-key : (version : ℕ) (k : KeyName) → IsKeyInText version k → length (key_word k) ≤ 14
short-key version k here =
    let most = most_vpes-le version in
    let small_pe = here.0 in
    let small_vpe = here.1 in
    let small_number = here.2 in
    let pe = length-decimal-le 3 k.pe (omega arith) (omega arith) (omega (arith, most, small_pe)) in
    let vpe = length-decimal-le 3 k.vpe (omega arith) (omega arith) (omega (arith, most, small_vpe)) in
    let kind = kind-short k.kind in
    let number = length-decimal-le 4 k.number (omega arith) (omega arith) (omega (arith, small_number)) in
    let all : length (key_word k) ≡ length (decimal k.pe) + (1 + length (decimal k.vpe)) + (1 + length (decimal (kind_number k.kind))) + (1 + length
    (decimal k.number)) = rw (length-append, length-append, length-append) (omega arith) in
    omega (arith, pe, vpe, kind, number, all)

-- the line of a held key
short-held : (version : ℕ) (h : KeyName × ℕ) → IsKeyInText version h.0 → h.1 ≤ 255 → length (line (held_line h)) ≤ 23
short-held version h key selector =
    let whole = length-line (codes "key") (key_word h.0 ∷ decimal h.1 ∷ []) in
    let of_key = short-key version h.0 key in
    let of_selector = length-decimal-le 3 h.1 (omega arith) (omega arith) (omega (arith, selector)) in
    omega (arith, whole, of_key, of_selector)

-- a number of 32 bits has ten digits at most
ten : (n : ℕ) → n ≤ 4294967295 → length (decimal n) ≤ 10
ten n small = length-decimal-le 10 n (omega arith) (omega arith) (omega (arith, small))

-- the lines of an audit
short-audit : (version made' cut' : ℕ) (held : List (KeyName × ℕ)) → made' ≤ 4294967295 → cut' ≤ 4294967295 → length held ≤ 4294967295
    → All (λ h. IsKeyInText version h.0 × (h.1 ≤ 255)) held → length (text (audit_lines made' cut' held)) ≤ length held * 23 + 60
short-audit version made' cut' held few_made few_cut few_held keys =
    let keys_short = text-each held_line 23 held (λ k h within. short-held version _ (keys k h within).0 (keys k h within).1) in
    let ends : length (line (codes "end" ∷ [])) ≡ width (codes "end" ∷ []) = length-line (codes "end") [] in
    let last = text-more (codes "end" ∷ []) [] in
    let tail = text-both (map held_line held) ((codes "end" ∷ []) ∷ []) in
    let fourth = text-more (codes "held" ∷ decimal (length held) ∷ []) (map held_line held ++ (codes "end" ∷ []) ∷ []) in
    let third = text-more (codes "cut" ∷ decimal cut' ∷ []) ((codes "held" ∷ decimal (length held) ∷ []) ∷ map held_line held ++ (codes "end" ∷ []) ∷ []) in
    let second = text-more (codes "made" ∷ decimal made' ∷ [])
    ((codes "cut" ∷ decimal cut' ∷ []) ∷ (codes "held" ∷ decimal (length held) ∷ []) ∷ map held_line held ++ (codes "end" ∷ []) ∷ []) in
    let first = text-more (codes "audit" ∷ []) ((codes "made" ∷ decimal made' ∷ []) ∷ (codes "cut" ∷ decimal cut' ∷ []) ∷
    (codes "held" ∷ decimal (length held) ∷ []) ∷ map held_line held ++ (codes "end" ∷ []) ∷ []) in
    let line_1 = length-line (codes "audit") [] in
    let line_2 = length-line (codes "made") (decimal made' ∷ []) in
    let line_3 = length-line (codes "cut") (decimal cut' ∷ []) in
    let line_4 = length-line (codes "held") (decimal (length held) ∷ []) in
    let word_2 = ten made' few_made in
    let word_3 = ten cut' few_cut in
    let word_4 = ten (length held) few_held in
    omega (arith, keys_short, ends, last, tail, fourth, third, second, first, line_1, line_2, line_3, line_4, word_2, word_3, word_4)

-- The whole.

-- the report of a schedule has no more bytes than are read
pub short-report : (T : Setup) → IsSetup T → (J : List Entry) → IsSchedule T J
    → length (report_text T J (length (made T J)) (length (cut T J)) (held_after T J)) ≤ 134217728
short-report T valid J runs =
    let made' : ℕ = length (made T J) in
    let cut' : ℕ = length (cut T J) in
    let held : List (KeyName × ℕ) = held_after T J in
    let few_made = few-made T valid J runs in
    let few_cut = few-cut T valid J runs in
    let few_held = few-held T valid J runs in
    let few = few-entries T valid J runs in
    let kernels : T.kernels ≤ 32 = (let most = valid.membership.few_kernels in let same = valid.same_kernels in omega (arith, most, same)) in
    let fits = entries-fit T valid J runs in
    let audit : length (text (audit_lines made' cut' held)) ≤ length held * 23 + 60 = short-audit T.version made' cut' held (omega (arith, few_made))
    (omega (arith, few_cut)) (omega (arith, few_held)) (held-fits T valid J runs) in
    let entries : length (text (map entry_words J)) ≤ length J * 161 = text-each entry_words 161 J
    (λ k d within. short_line T.version T.kernels _ kernels (fits k d within)) in
    let journal : length (text (journal_lines J)) ≡ length (line (codes "journal" ∷ decimal (length J) ∷ [])) + length (text (map entry_words J)) = text-more
    (codes "journal" ∷ decimal (length J) ∷ []) (map entry_words J) in
    let journal_line = length-line (codes "journal") (decimal (length J) ∷ []) in
    let journal_word = ten (length J) (omega (arith, few)) in
    let trace : length (text (trace_lines T)) ≤ 8388608 = short-trace T valid in
    let behind = text-both (trace_lines T ++ journal_lines J) (audit_lines made' cut' held) in
    let before = text-both (trace_lines T) (journal_lines J) in
    let first = text-more (codes "semper" ∷ codes "report" ∷ decimal T.version ∷ []) (trace_lines T ++ journal_lines J ++ audit_lines made' cut' held) in
    let first_line = length-line (codes "semper") (codes "report" ∷ decimal T.version ∷ []) in
    let version_word = ten T.version (elim valid.versioned [ inl one ↦ omega (arith, one) | inr two ↦ omega (arith, two) ]) in
    omega (arith, few_held, few, audit, entries, journal, journal_line, journal_word, trace, behind, before, first, first_line, version_word)
