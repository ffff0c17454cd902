-- The lines of a trace are plain, and none but the last ends it.
use Rattle.std.proofs.Common.{◌≡◌, ℕ, ◌==◌, inl, inr, Bool, true, false, not, ◌&&◌, List, [], ◌∷◌, ◌++◌, map, Option, Some, None, refl, ap, sym, ◌∙◌}
use Rattle.std.proofs.Common.{append_assoc, true≢false, decimal}
use Rattle.std.specs.Prelude.{codes, flat_map}
use Rattle.std.specs.List.{list_all, enumerate_from}
use Rattle.std.proofs.lemmas.Bool.{cases_Bool}
use Rattle.std.proofs.lemmas.List.{map-append}
use Rattle.std.proofs.lemmas.List.Folds.{list_all-append}
use Rattle.sem_key.specs.declared.object.Object.{Object}
use Rattle.sem_key.specs.declared.object.Object.TheVariants.{Mem, Recv, Send, Serv, Sess}
use Rattle.sem_key.specs.KeyName.{KeyName, kind_number}
use Rattle.sem_msg.specs.declared.call.Call.{Call}
use Rattle.sem_msg.specs.declared.call.Call.TheVariants.{Derive, Gate, Obtain, Delegate, OpenSession, AskOffer, Revoke, Bind, Read, Write, Send as SendCall}
use Rattle.sem_msg.specs.declared.call.Call.TheVariants.{Credit, Exit, Clear}
use Rattle.sem_msg.specs.declared.setup.VpeDecl.{VpeDecl}
use Rattle.sem_msg.specs.Setup.{Setup}
use Rattle.sem_text.specs.Lines.{line}
use Rattle.sem_trace.specs.Declarations.{stands_at}
use Rattle.sem_trace.specs.TextLines.{is_word}
use Rattle.sem_trace.specs.Words.{key_word, call_words}
use Rattle.sem_trace.specs.TraceText.{pe_line, vpe_line, root_line_of, root_line, offer_line, deny_line, kill_line, window_lines, trace_lines}
use Rattle.sem_report.specs.ReportRefusal.{is_end_line, trace_section}
use Rattle.sem_reader.proofs.PlainText.{is_plain, is_plain_word, are_plain, and-left, and-right}
use Rattle.sem_report.proofs.WholeText.{both, decimal_plain, words_line}

-- a line of a trace that does not end it
abbrev pub is_inner : List (List ℕ) → Bool
is_inner ws = are_plain ws && not (stands_at ws 0 (codes "end"))

-- the lines of a trace but the last
abbrev pub inner_lines : Setup → List (List (List ℕ))
inner_lines T =
    (codes "semper" ∷ codes "trace" ∷ decimal T.version ∷ [])
    ∷ (codes "kernels" ∷ decimal T.kernels ∷ [])
    ∷ window_lines T
    ++ flat_map pe_line (enumerate_from 0 T.owners.owners)
    ++ map vpe_line T.vpes
    ++ flat_map (λ d. map (root_line d.vpe) d.roots) T.vpes
    ++ map offer_line T.offers
    ++ map deny_line T.denies
    ++ map kill_line T.kills
    ++ flat_map (λ d. map (λ c. codes "call" ∷ decimal d.vpe ∷ call_words c) d.calls) T.vpes

record AreInner (ls : List (List (List ℕ))) : Type 0 where
  pub are : list_all is_inner ls ≡ true

inner_map : {X : Type 0} (f : X → List (List ℕ)) (xs : List X) → ((x : X) → is_inner (f x) ≡ true) → AreInner (map f xs)
inner_map f [] each = record { are = refl }
inner_map f (x ∷ xs) each = record { are = both (is_inner (f x)) _ (each x) (inner_map f xs each).are }

inner_append : {a b : List (List (List ℕ))} → AreInner a → AreInner b → AreInner (a ++ b)
inner_append {a} {b} first second = record { are = list_all-append is_inner a b ∙ both (list_all is_inner a) (list_all is_inner b) first.are second.are }

inner_flat : {X : Type 0} (h : X → List (List (List ℕ))) (xs : List X) → ((x : X) → AreInner (h x)) → AreInner (flat_map h xs)
inner_flat h [] each = record { are = refl }
inner_flat h (x ∷ xs) each = inner_append (each x) (inner_flat h xs each)

pes_inner : (p : ℕ × Option ℕ) → AreInner (pe_line p)
pes_inner (p, None) = record { are = refl }
pes_inner (p, Some k) = record { are = rw (decimal_plain p, decimal_plain k) refl }

-- a number behind a point
longer_word : (a b : List ℕ) → is_word a ≡ true → is_word (a ++ b) ≡ true
longer_word [] b word = absurd (true≢false (sym word))
longer_word (x ∷ xs) b word = refl

with_number : (word : List ℕ) (n : ℕ) → is_plain_word word ≡ true → is_plain_word (word ++ 46 ∷ decimal n) ≡ true
with_number word n plain =
    let digits : list_all is_plain (decimal n) ≡ true = and-right (is_word (decimal n)) _ (decimal_plain n) in
    let bytes : list_all is_plain word ≡ true = and-right (is_word word) _ plain in
    let all : list_all is_plain (word ++ 46 ∷ decimal n) ≡ true = list_all-append is_plain word (46 ∷ decimal n)
    ∙ both (list_all is_plain word) (list_all is_plain (46 ∷ decimal n)) bytes digits in
    both (is_word (word ++ 46 ∷ decimal n)) (list_all is_plain (word ++ 46 ∷ decimal n)) (longer_word word (46 ∷ decimal n) (and-left (is_word word) _ plain))
    all

pub key_plain : (k : KeyName) → is_plain_word (key_word k) ≡ true
key_plain k =
    with_number (decimal k.pe ++ 46 ∷ decimal k.vpe ++ 46 ∷ decimal (kind_number k.kind)) k.number
    (with_number (decimal k.pe ++ 46 ∷ decimal k.vpe) (kind_number k.kind)
    (with_number (decimal k.pe) k.vpe (decimal_plain k.pe)))

root_inner : (v sel : ℕ) (o : Object) → is_inner (root_line_of v sel o) ≡ true
root_inner v sel (Mem base len rights) = rw (decimal_plain v, decimal_plain sel, decimal_plain base, decimal_plain len, decimal_plain rights) refl
root_inner v sel (Recv slots) = rw (decimal_plain v, decimal_plain sel, decimal_plain slots) refl
root_inner v sel (Send gate label credits) = rw (decimal_plain v, decimal_plain sel, key_plain gate, decimal_plain label, decimal_plain credits) refl
root_inner v sel (Serv name) = rw (decimal_plain v, decimal_plain sel, decimal_plain name) refl
root_inner v sel (Sess service ident) = rw (decimal_plain v, decimal_plain sel, key_plain service, decimal_plain ident) refl

call_inner : (v : ℕ) (c : Call) → is_inner (codes "call" ∷ decimal v ∷ call_words c) ≡ true
call_inner v (Derive src dst off len rights) = rw (
  decimal_plain v,
  decimal_plain src,
  decimal_plain dst,
  decimal_plain off,
  decimal_plain len,
  decimal_plain rights,
) refl
call_inner v (Gate src dst label credits) = rw (decimal_plain v, decimal_plain src, decimal_plain dst, decimal_plain label, decimal_plain credits) refl
call_inner v (Obtain dst vpe src) = rw (decimal_plain v, decimal_plain dst, decimal_plain vpe, decimal_plain src) refl
call_inner v (Delegate src vpe dst) = rw (decimal_plain v, decimal_plain src, decimal_plain vpe, decimal_plain dst) refl
call_inner v (OpenSession dst name) = rw (decimal_plain v, decimal_plain dst, decimal_plain name) refl
call_inner v (AskOffer dst session index) = rw (decimal_plain v, decimal_plain dst, decimal_plain session, decimal_plain index) refl
call_inner v (Revoke src) = rw (decimal_plain v, decimal_plain src) refl
call_inner v (Bind ep src) = rw (decimal_plain v, decimal_plain ep, decimal_plain src) refl
call_inner v (Read ep off len) = rw (decimal_plain v, decimal_plain ep, decimal_plain off, decimal_plain len) refl
call_inner v (Write ep off len) = rw (decimal_plain v, decimal_plain ep, decimal_plain off, decimal_plain len) refl
call_inner v (SendCall ep len) = rw (decimal_plain v, decimal_plain ep, decimal_plain len) refl
call_inner v (Credit ep) = rw (decimal_plain v, decimal_plain ep) refl
call_inner v Exit = rw (decimal_plain v) refl
call_inner v (Clear src) = rw (decimal_plain v, decimal_plain src) refl

window_inner : (T : Setup) → AreInner (window_lines T)
window_inner T =
    elim (cases_Bool (T.version == 1)) [
      | inl one ↦ record { are = rw one refl }
      | inr other ↦ record { are = rw (other, decimal_plain T.window) refl }
    ]

pub all_inner : (T : Setup) → list_all is_inner (inner_lines T) ≡ true
all_inner T =
    let pes = inner_flat pe_line (enumerate_from 0 T.owners.owners) pes_inner in
    let vpes = inner_map vpe_line T.vpes (λ d. rw (decimal_plain d.vpe, decimal_plain d.pe) refl) in
    let roots = inner_flat (λ (d : VpeDecl). map (root_line d.vpe) d.roots) T.vpes
    (λ d. inner_map (root_line d.vpe) d.roots (λ r. root_inner d.vpe r.sel r.object)) in
    let offers = inner_map offer_line T.offers (λ o. rw (decimal_plain o.name, decimal_plain o.index, decimal_plain o.sel) refl) in
    let denies = inner_map deny_line T.denies (λ d. rw (decimal_plain d.0, decimal_plain d.1) refl) in
    let kills = inner_map kill_line T.kills (λ k. rw (decimal_plain k.0, decimal_plain k.1) refl) in
    let calls = inner_flat (λ (d : VpeDecl). map (λ c. codes "call" ∷ decimal d.vpe ∷ call_words c) d.calls) T.vpes
    (λ d. inner_map (λ c. codes "call" ∷ decimal d.vpe ∷ call_words c) d.calls (λ c. call_inner d.vpe c)) in
    let first : is_inner (codes "semper" ∷ codes "trace" ∷ decimal T.version ∷ []) ≡ true = rw (decimal_plain T.version) refl in
    let second : is_inner (codes "kernels" ∷ decimal T.kernels ∷ []) ≡ true = rw (decimal_plain T.kernels) refl in
    both (is_inner (codes "semper" ∷ codes "trace" ∷ decimal T.version ∷ [])) _ first
    (both (is_inner (codes "kernels" ∷ decimal T.kernels ∷ [])) _ second
    (inner_append (inner_append (inner_append (inner_append (inner_append (inner_append (inner_append (window_inner T) pes) vpes) roots) offers) denies)
    kills) calls).are)

inner_plain : (ls : List (List (List ℕ))) → list_all is_inner ls ≡ true → list_all are_plain ls ≡ true
inner_plain [] inner = refl
inner_plain (l ∷ ls) inner = both _ _ (and-left (are_plain l) _ (and-left _ _ inner)) (inner_plain ls (and-right (is_inner l) _ inner))

pub trace_plain : (T : Setup) → list_all are_plain (trace_lines T) ≡ true
trace_plain T = list_all-append are_plain (inner_lines T) ((codes "end" ∷ []) ∷ []) ∙ both _ _ (inner_plain (inner_lines T) (all_inner T)) refl

no_true : (b : Bool) → not b ≡ true → b ≡ false
no_true true is = absurd (true≢false (sym is))
no_true false is = refl

no_end_line : (ws : List (List ℕ)) → is_inner ws ≡ true → is_end_line (line ws) ≡ false
no_end_line ws inner = rw (words_line ws (and-left (are_plain ws) _ inner)) (no_true _ (and-right (are_plain ws) _ inner))

-- lines of which the last ends a trace
section_is : (ls : List (List (List ℕ))) (rest : List (List ℕ)) → list_all is_inner ls ≡ true →
    trace_section (map line ls ++ line (codes "end" ∷ []) ∷ rest) ≡ map line ls ++ line (codes "end" ∷ []) ∷ []
unfolding trace_section
section_is [] rest inner = rw (words_line (codes "end" ∷ []) refl) refl
section_is (l ∷ ls) rest inner =
    rw (no_end_line l (and-left _ _ inner)) (ap (λ (more : List (List ℕ)). line l ∷ more) (section_is ls rest (and-right (is_inner l) _ inner)))

pub section_printed : (T : Setup) (rest : List (List ℕ)) → trace_section (map line (trace_lines T) ++ rest) ≡ map line (trace_lines T)
section_printed T rest =
    let lines : map line (trace_lines T) ≡ map line (inner_lines T) ++ line (codes "end" ∷ []) ∷ [] =
    map-append line (inner_lines T) ((codes "end" ∷ []) ∷ []) in
    let all : map line (trace_lines T) ++ rest ≡ map line (inner_lines T) ++ line (codes "end" ∷ []) ∷ rest = ap (λ (ls : List (List ℕ)). ls ++ rest) lines
    ∙ append_assoc (map line (inner_lines T)) (line (codes "end" ∷ []) ∷ []) rest in
    ap trace_section all ∙ (section_is (inner_lines T) rest (all_inner T) ∙ sym lines)
