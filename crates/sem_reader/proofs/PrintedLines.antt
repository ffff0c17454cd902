-- A line as it is printed has its form, and says what was printed.
use Rattle.std.proofs.Common.{◌≡◌, ℕ, ◌-◌, ◌<◌, ◌≤◌, ◌==◌, ◌^◌, ◌⊎◌, inl, inr, false, List, [], ◌∷◌, None, refl, ◌∙◌, arith, decimal, le-leb}
use Rattle.std.specs.Prelude.{codes}
use Rattle.std.proofs.lemmas.Bool.{cases_Bool}
use Rattle.sem_text.specs.Number.{number_value}
use Rattle.sem_msg.specs.declared.call.Call.{Call}
use Rattle.sem_msg.specs.declared.call.Call.TheVariants.{Derive, Gate, Obtain, Delegate, OpenSession, AskOffer, Revoke, Bind, Read, Write, Send as SendCall}
use Rattle.sem_msg.specs.declared.call.Call.TheVariants.{Credit, Exit, Clear}
use Rattle.sem_msg.specs.Calls.{IsValidCall}
use Rattle.sem_key.specs.declared.limits.TheConstants.{KERNELS, VPES}
use Rattle.sem_msg.specs.Versions.{most_kernels, most_vpes, least_window, most_window, IsWindow}
use Rattle.sem_trace.specs.declared.declaration.Declaration.{Declaration}
use Rattle.sem_trace.specs.declared.declaration.Declaration.TheVariants.{Kernels, Window, Pe, Vpe, Memory, Receive, Service, Offer, Deny, Kill, Call as Calls}
use Rattle.sem_trace.specs.declared.declaration.Declaration.TheVariants.{End}
use Rattle.sem_trace.specs.Words.{call_words}
use Rattle.sem_trace.specs.Forms.{Place, place_fault, form_fault, choice, word_at, node, byte, endpoint_place, rights, slots, word, up_to, root_objects, calls, lines}
use Rattle.sem_trace.specs.Forms.{form, kernel_count, window, first_form, second_form, third_form}
use Rattle.sem_trace.specs.Forms.Place.{Number}
use Rattle.sem_trace.specs.Declarations.{call_from, root_from, declaration, number_at}
use Rattle.sem_trace.specs.Refusal.{version_in}
use Rattle.std.proofs.lemmas.Fmt.{decimal_digit}
use Rattle.sem_trace.specs.Ranges.{IsNode, IsInRange}
use Rattle.sem_trace.proofs.PlaceSteps.{fills}
use Rattle.sem_trace.proofs.Nodes.{some_vpe, node_small, few_kernels}
use Rattle.sem_reader.proofs.Decimals.{is_number-decimal, digits-decimal}

-- what stands behind the second line of a printed text
abbrev pub IsSaid : ℕ → Declaration → Type 0
IsSaid version (Kernels n) = ⊥
IsSaid version (Window w) = (version == 1) ≡ false
IsSaid version d = Unit {0}

-- how a line is printed
abbrev pub spelled : Declaration → List (List ℕ)
spelled (Kernels n) = codes "kernels" ∷ decimal n ∷ []
spelled (Window w) = codes "window" ∷ decimal w ∷ []
spelled (Pe p k) = codes "pe" ∷ decimal p ∷ decimal k ∷ []
spelled (Vpe v p) = codes "vpe" ∷ decimal v ∷ decimal p ∷ []
spelled (Memory v s b l g) = codes "root" ∷ decimal v ∷ decimal s ∷ codes "mem" ∷ decimal b ∷ decimal l ∷ decimal g ∷ []
spelled (Receive v s n) = codes "root" ∷ decimal v ∷ decimal s ∷ codes "recv" ∷ decimal n ∷ []
spelled (Service v s n) = codes "service" ∷ decimal v ∷ decimal s ∷ decimal n ∷ []
spelled (Offer n i s) = codes "offer" ∷ decimal n ∷ decimal i ∷ decimal s ∷ []
spelled (Deny v w) = codes "deny" ∷ decimal v ∷ decimal w ∷ []
spelled (Kill v n) = codes "kill" ∷ decimal v ∷ decimal n ∷ []
spelled (Calls v c) = codes "call" ∷ decimal v ∷ call_words c
spelled End = codes "end" ∷ []

value : (n : ℕ) → n < 2 ^ 64 → number_value (decimal n) ≡ n
value n fits = (digits-decimal n fits).1

number_fits : (least most n : ℕ) → least ≤ n → n ≤ most → n < 2 ^ 64 → place_fault (Number least most) (decimal n) ≡ None
number_fits least most n low high fits = rw (is_number-decimal n fits, value n fits, le-leb least n low, le-leb n most high) refl

-- a number that is printed fills its place
fill : (least most n : ℕ) (places : List Place) (words : List (List ℕ)) → least ≤ n → n ≤ most → n < 2 ^ 64 →
    form_fault (Number least most ∷ places) (decimal n ∷ words) ≡ form_fault places words
fill least most n places words low high fits = fills places (Number least most) (decimal n) words (decimal n ∷ words) refl
    (number_fits least most n low high fits)

fill_node : (version n : ℕ) (places : List Place) (words : List (List ℕ)) → IsNode version n →
    form_fault (node version ∷ places) (decimal n ∷ words) ≡ form_fault places words
fill_node version n places words within =
    let some : 1 ≤ most_vpes version = some_vpe version in
    let small : n < VPES = node_small version n within in
    fill 0 (most_vpes version - 1) n places words (omega arith) (omega arith) (omega arith)

-- a window is small
pub window_small : (version n : ℕ) → IsWindow version n → n ≤ 32
window_small version n within =
    elim (cases_Bool (version == 1)) [
      | inl one ↦ let most : n ≤ most_window version = within.1 in let is : most_window version ≡ 4 = rw one refl in omega arith
      | inr other ↦ let most : n ≤ most_window version = within.1 in let is : most_window version ≡ 32 = rw other refl in omega arith
    ]

fill_window : (version n : ℕ) (places : List Place) (words : List (List ℕ)) → IsWindow version n →
    form_fault (window version ∷ places) (decimal n ∷ words) ≡ form_fault places words
fill_window version n places words within =
    let small : n ≤ 32 = window_small version n within in
    fill (least_window version) (most_window version) n places words within.0 within.1 (omega arith)

filled : form_fault [] [] ≡ None
unfolding form_fault
filled = refl

-- the first word of a call
call_derive : (version : ℕ) (ws : List (List ℕ)) → form_fault (choice (calls version) (codes "derive")) (codes "derive" ∷ ws)
    ≡ form_fault (byte ∷ byte ∷ word ∷ word ∷ rights ∷ []) ws
unfolding form_fault calls
call_derive version ws = refl

call_gate : (version : ℕ) (ws : List (List ℕ)) →
    form_fault (choice (calls version) (codes "gate")) (codes "gate" ∷ ws) ≡ form_fault (byte ∷ byte ∷ word ∷ slots ∷ []) ws
unfolding form_fault calls
call_gate version ws = refl

call_obtain : (version : ℕ) (ws : List (List ℕ)) → form_fault (choice (calls version) (codes "obtain")) (codes "obtain" ∷ ws)
    ≡ form_fault (byte ∷ node version ∷ byte ∷ []) ws
unfolding form_fault calls
call_obtain version ws = refl

call_delegate : (version : ℕ) (ws : List (List ℕ)) → form_fault (choice (calls version) (codes "delegate")) (codes "delegate" ∷ ws)
    ≡ form_fault (byte ∷ node version ∷ byte ∷ []) ws
unfolding form_fault calls
call_delegate version ws = refl

call_open : (version : ℕ) (ws : List (List ℕ)) → form_fault (choice (calls version) (codes "open")) (codes "open" ∷ ws) ≡ form_fault (byte ∷ byte ∷ []) ws
unfolding form_fault calls
call_open version ws = refl

call_ask : (version : ℕ) (ws : List (List ℕ)) → form_fault (choice (calls version) (codes "ask")) (codes "ask" ∷ ws) ≡ form_fault (byte ∷ byte ∷ byte ∷ []) ws
unfolding form_fault calls
call_ask version ws = refl

call_revoke : (version : ℕ) (ws : List (List ℕ)) → form_fault (choice (calls version) (codes "revoke")) (codes "revoke" ∷ ws) ≡ form_fault (byte ∷ []) ws
unfolding form_fault calls
call_revoke version ws = refl

call_bind : (version : ℕ) (ws : List (List ℕ)) → form_fault (choice (calls version) (codes "bind")) (codes "bind" ∷ ws) ≡ form_fault (endpoint_place ∷ byte ∷ []) ws
unfolding form_fault calls
call_bind version ws = refl

call_read : (version : ℕ) (ws : List (List ℕ)) →
    form_fault (choice (calls version) (codes "read")) (codes "read" ∷ ws) ≡ form_fault (endpoint_place ∷ word ∷ word ∷ []) ws
unfolding form_fault calls
call_read version ws = refl

call_write : (version : ℕ) (ws : List (List ℕ)) → form_fault (choice (calls version) (codes "write")) (codes "write" ∷ ws)
    ≡ form_fault (endpoint_place ∷ word ∷ word ∷ []) ws
unfolding form_fault calls
call_write version ws = refl

call_send : (version : ℕ) (ws : List (List ℕ)) → form_fault (choice (calls version) (codes "send")) (codes "send" ∷ ws) ≡ form_fault (endpoint_place ∷ word ∷ []) ws
unfolding form_fault calls
call_send version ws = refl

call_credit : (version : ℕ) (ws : List (List ℕ)) → form_fault (choice (calls version) (codes "credit")) (codes "credit" ∷ ws) ≡ form_fault (endpoint_place ∷ []) ws
unfolding form_fault calls
call_credit version ws = refl

call_exit : (version : ℕ) (ws : List (List ℕ)) → form_fault (choice (calls version) (codes "exit")) (codes "exit" ∷ ws) ≡ form_fault ([]) ws
unfolding form_fault calls
call_exit version ws = refl

call_clear : (version : ℕ) (ws : List (List ℕ)) → form_fault (choice (calls version) (codes "clear")) (codes "clear" ∷ ws) ≡ form_fault (byte ∷ []) ws
unfolding form_fault calls
call_clear version ws = refl

-- a call as it is printed
pub call_fits : (version : ℕ) (c : Call) → IsValidCall (most_vpes version) c → form_fault (choice (calls version) (word_at (call_words c) 0)) (call_words c)
    ≡ None
call_fits version (Derive src dst off len rights) valid =
    let high0 : src < 256 = valid.0 in
    let high1 : dst < 256 = valid.1 in
    let high2 : off ≤ 4294967295 = valid.2 in
    let high3 : len ≤ 4294967295 = valid.3 in
    let high4 : rights ≤ 7 = valid.4 in
    call_derive version _
    ∙ (fill 0 255 src _ _ (omega arith) (omega arith) (omega arith)
    ∙ (fill 0 255 dst _ _ (omega arith) (omega arith) (omega arith)
    ∙ (fill 0 4294967295 off _ _ (omega arith) (omega arith) (omega arith)
    ∙ (fill 0 4294967295 len _ _ (omega arith) (omega arith) (omega arith) ∙ (fill 0 7 rights _ _ (omega arith) (omega arith) (omega arith) ∙ (filled))))))
call_fits version (Gate src dst label credits) valid =
    let high0 : src < 256 = valid.0 in
    let high1 : dst < 256 = valid.1 in
    let high2 : label ≤ 4294967295 = valid.2 in
    let low3 : 1 ≤ credits = valid.3 in
    let high3 : credits ≤ 64 = valid.4 in
    call_gate version _
    ∙ (fill 0 255 src _ _ (omega arith) (omega arith) (omega arith)
    ∙ (fill 0 255 dst _ _ (omega arith) (omega arith) (omega arith) ∙ (fill 0 4294967295 label _ _ (omega arith) (omega arith) (omega arith)
    ∙ (fill 1 64 credits _ _ (omega arith) (omega arith) (omega arith) ∙ (filled)))))
call_fits version (Obtain dst vpe src) valid =
    let high0 : dst < 256 = valid.0 in
    let high1 : vpe < VPES = node_small version vpe valid.1 in
    let high2 : src < 256 = valid.2 in
    call_obtain version _
    ∙ (fill 0 255 dst _ _ (omega arith) (omega arith) (omega arith)
    ∙ (fill_node version vpe _ _ valid.1 ∙ (fill 0 255 src _ _ (omega arith) (omega arith) (omega arith) ∙ (filled))))
call_fits version (Delegate src vpe dst) valid =
    let high0 : src < 256 = valid.0 in
    let high1 : vpe < VPES = node_small version vpe valid.1 in
    let high2 : dst < 256 = valid.2 in
    call_delegate version _
    ∙ (fill 0 255 src _ _ (omega arith) (omega arith) (omega arith)
    ∙ (fill_node version vpe _ _ valid.1 ∙ (fill 0 255 dst _ _ (omega arith) (omega arith) (omega arith) ∙ (filled))))
call_fits version (OpenSession dst name) valid =
    let high0 : dst < 256 = valid.0 in
    let high1 : name ≤ 255 = valid.1 in
    call_open version _
    ∙ (fill 0 255 dst _ _ (omega arith) (omega arith) (omega arith) ∙ (fill 0 255 name _ _ (omega arith) (omega arith) (omega arith) ∙ (filled)))
call_fits version (AskOffer dst session index) valid =
    let high0 : dst < 256 = valid.0 in
    let high1 : session < 256 = valid.1 in
    let high2 : index ≤ 255 = valid.2 in
    call_ask version _
    ∙ (fill 0 255 dst _ _ (omega arith) (omega arith) (omega arith)
    ∙ (fill 0 255 session _ _ (omega arith) (omega arith) (omega arith) ∙ (fill 0 255 index _ _ (omega arith) (omega arith) (omega arith) ∙ (filled))))
call_fits version (Revoke src) valid =
    let high0 : src < 256 = valid in
    call_revoke version _ ∙ (fill 0 255 src _ _ (omega arith) (omega arith) (omega arith) ∙ (filled))
call_fits version (Bind ep src) valid =
    let high0 : ep < 16 = valid.0 in
    let high1 : src < 256 = valid.1 in
    call_bind version _
    ∙ (fill 0 15 ep _ _ (omega arith) (omega arith) (omega arith) ∙ (fill 0 255 src _ _ (omega arith) (omega arith) (omega arith) ∙ (filled)))
call_fits version (Read ep off len) valid =
    let high0 : ep < 16 = valid.0 in
    let high1 : off ≤ 4294967295 = valid.1 in
    let high2 : len ≤ 4294967295 = valid.2 in
    call_read version _
    ∙ (fill 0 15 ep _ _ (omega arith) (omega arith) (omega arith)
    ∙ (fill 0 4294967295 off _ _ (omega arith) (omega arith) (omega arith)
    ∙ (fill 0 4294967295 len _ _ (omega arith) (omega arith) (omega arith) ∙ (filled))))
call_fits version (Write ep off len) valid =
    let high0 : ep < 16 = valid.0 in
    let high1 : off ≤ 4294967295 = valid.1 in
    let high2 : len ≤ 4294967295 = valid.2 in
    call_write version _
    ∙ (fill 0 15 ep _ _ (omega arith) (omega arith) (omega arith)
    ∙ (fill 0 4294967295 off _ _ (omega arith) (omega arith) (omega arith)
    ∙ (fill 0 4294967295 len _ _ (omega arith) (omega arith) (omega arith) ∙ (filled))))
call_fits version (SendCall ep len) valid =
    let high0 : ep < 16 = valid.0 in
    let high1 : len ≤ 4294967295 = valid.1 in
    call_send version _
    ∙ (fill 0 15 ep _ _ (omega arith) (omega arith) (omega arith) ∙ (fill 0 4294967295 len _ _ (omega arith) (omega arith) (omega arith) ∙ (filled)))
call_fits version (Credit ep) valid =
    let high0 : ep < 16 = valid in
    call_credit version _ ∙ (fill 0 15 ep _ _ (omega arith) (omega arith) (omega arith) ∙ (filled))
call_fits version Exit valid =
    call_exit version _ ∙ (filled)
call_fits version (Clear src) valid =
    let high0 : src < 256 = valid in
    call_clear version _ ∙ (fill 0 255 src _ _ (omega arith) (omega arith) (omega arith) ∙ (filled))

pub call_says : (version : ℕ) (c : Call) → IsValidCall (most_vpes version) c → call_from (call_words c) ≡ c
unfolding call_from
call_says version (Derive src dst off len rights) valid =
    let high0 : src < 256 = valid.0 in
    let high1 : dst < 256 = valid.1 in
    let high2 : off ≤ 4294967295 = valid.2 in
    let high3 : len ≤ 4294967295 = valid.3 in
    let high4 : rights ≤ 7 = valid.4 in
    rw (value src (omega arith), value dst (omega arith), value off (omega arith), value len (omega arith), value rights (omega arith)) refl
call_says version (Gate src dst label credits) valid =
    let high0 : src < 256 = valid.0 in
    let high1 : dst < 256 = valid.1 in
    let high2 : label ≤ 4294967295 = valid.2 in
    let high3 : credits ≤ 64 = valid.4 in
    rw (value src (omega arith), value dst (omega arith), value label (omega arith), value credits (omega arith)) refl
call_says version (Obtain dst vpe src) valid =
    let high0 : dst < 256 = valid.0 in
    let high1 : vpe < VPES = node_small version vpe valid.1 in
    let high2 : src < 256 = valid.2 in
    rw (value dst (omega arith), value vpe (omega arith), value src (omega arith)) refl
call_says version (Delegate src vpe dst) valid =
    let high0 : src < 256 = valid.0 in
    let high1 : vpe < VPES = node_small version vpe valid.1 in
    let high2 : dst < 256 = valid.2 in
    rw (value src (omega arith), value vpe (omega arith), value dst (omega arith)) refl
call_says version (OpenSession dst name) valid =
    let high0 : dst < 256 = valid.0 in
    let high1 : name ≤ 255 = valid.1 in
    rw (value dst (omega arith), value name (omega arith)) refl
call_says version (AskOffer dst session index) valid =
    let high0 : dst < 256 = valid.0 in
    let high1 : session < 256 = valid.1 in
    let high2 : index ≤ 255 = valid.2 in
    rw (value dst (omega arith), value session (omega arith), value index (omega arith)) refl
call_says version (Revoke src) valid =
    let high0 : src < 256 = valid in
    rw (value src (omega arith)) refl
call_says version (Bind ep src) valid =
    let high0 : ep < 16 = valid.0 in
    let high1 : src < 256 = valid.1 in
    rw (value ep (omega arith), value src (omega arith)) refl
call_says version (Read ep off len) valid =
    let high0 : ep < 16 = valid.0 in
    let high1 : off ≤ 4294967295 = valid.1 in
    let high2 : len ≤ 4294967295 = valid.2 in
    rw (value ep (omega arith), value off (omega arith), value len (omega arith)) refl
call_says version (Write ep off len) valid =
    let high0 : ep < 16 = valid.0 in
    let high1 : off ≤ 4294967295 = valid.1 in
    let high2 : len ≤ 4294967295 = valid.2 in
    rw (value ep (omega arith), value off (omega arith), value len (omega arith)) refl
call_says version (SendCall ep len) valid =
    let high0 : ep < 16 = valid.0 in
    let high1 : len ≤ 4294967295 = valid.1 in
    rw (value ep (omega arith), value len (omega arith)) refl
call_says version (Credit ep) valid =
    let high0 : ep < 16 = valid in
    rw (value ep (omega arith)) refl
call_says version Exit valid = refl
call_says version (Clear src) valid =
    let high0 : src < 256 = valid in
    rw (value src (omega arith)) refl

-- the first word of a line
line_kernels : (version k : ℕ) (ws : List (List ℕ)) → form_fault (form version k (codes "kernels" ∷ ws)) (codes "kernels" ∷ ws)
    ≡ form_fault (kernel_count version ∷ []) ws
unfolding form_fault form lines
line_kernels version k ws = refl

line_pe : (version k : ℕ) (ws : List (List ℕ)) →
    form_fault (form version k (codes "pe" ∷ ws)) (codes "pe" ∷ ws) ≡ form_fault (node version ∷ up_to (k - 1) ∷ []) ws
unfolding form_fault form lines
line_pe version k ws = refl

line_vpe : (version k : ℕ) (ws : List (List ℕ)) →
    form_fault (form version k (codes "vpe" ∷ ws)) (codes "vpe" ∷ ws) ≡ form_fault (node version ∷ node version ∷ []) ws
unfolding form_fault form lines
line_vpe version k ws = refl

line_service : (version k : ℕ) (ws : List (List ℕ)) → form_fault (form version k (codes "service" ∷ ws)) (codes "service" ∷ ws)
    ≡ form_fault (node version ∷ byte ∷ byte ∷ []) ws
unfolding form_fault form lines
line_service version k ws = refl

line_offer : (version k : ℕ) (ws : List (List ℕ)) →
    form_fault (form version k (codes "offer" ∷ ws)) (codes "offer" ∷ ws) ≡ form_fault (byte ∷ byte ∷ byte ∷ []) ws
unfolding form_fault form lines
line_offer version k ws = refl

line_deny : (version k : ℕ) (ws : List (List ℕ)) →
    form_fault (form version k (codes "deny" ∷ ws)) (codes "deny" ∷ ws) ≡ form_fault (node version ∷ node version ∷ []) ws
unfolding form_fault form lines
line_deny version k ws = refl

line_kill : (version k : ℕ) (ws : List (List ℕ)) →
    form_fault (form version k (codes "kill" ∷ ws)) (codes "kill" ∷ ws) ≡ form_fault (node version ∷ word ∷ []) ws
unfolding form_fault form lines
line_kill version k ws = refl

line_call : (version k : ℕ) (ws : List (List ℕ)) →
    form_fault (form version k (codes "call" ∷ ws)) (codes "call" ∷ ws) ≡ form_fault (node version ∷ choice (calls version) (word_at ws 1)) ws
unfolding form_fault form lines
line_call version k ws = refl

line_root : (version k : ℕ) (ws : List (List ℕ)) →
    form_fault (form version k (codes "root" ∷ ws)) (codes "root" ∷ ws) ≡ form_fault (node version ∷ byte ∷ choice root_objects (word_at ws 2)) ws
unfolding form_fault form lines
line_root version k ws = refl

line_end : (version k : ℕ) (ws : List (List ℕ)) → form_fault (form version k (codes "end" ∷ ws)) (codes "end" ∷ ws) ≡ form_fault ([]) ws
unfolding form_fault form lines
line_end version k ws = refl

line_window : (version k : ℕ) (ws : List (List ℕ)) → (version == 1) ≡ false →
    form_fault (form version k (codes "window" ∷ ws)) (codes "window" ∷ ws) ≡ form_fault (window version ∷ []) ws
unfolding form_fault form lines
line_window version k ws two = rw two refl

object_mem : (ws : List (List ℕ)) → form_fault (choice root_objects (codes "mem")) (codes "mem" ∷ ws) ≡ form_fault (word ∷ word ∷ rights ∷ []) ws
unfolding form_fault root_objects
object_mem ws = refl

object_recv : (ws : List (List ℕ)) → form_fault (choice root_objects (codes "recv")) (codes "recv" ∷ ws) ≡ form_fault (slots ∷ []) ws
unfolding form_fault root_objects
object_recv ws = refl

-- a line as it is printed has its form
pub line_fits : (version k : ℕ) (d : Declaration) → 1 ≤ k → k ≤ KERNELS → IsInRange version k d → IsSaid version d →
    form_fault (form version k (spelled d)) (spelled d) ≡ None
line_fits version k (Kernels n) some few ranges said = absurd said
line_fits version k (Window w) some few ranges said = line_window version k _ said ∙ (fill_window version w _ _ ranges ∙ filled)
line_fits version k (Pe p j) some few ranges said =
    let a : p < VPES = node_small version p ranges.0 in
    let b : j < k = ranges.1 in
    line_pe version k _ ∙ (fill_node version p _ _ ranges.0 ∙ (fill 0 (k - 1) j _ _ (omega arith) (omega arith) (omega arith) ∙ filled))
line_fits version k (Vpe v p) some few ranges said =
    let a : v < VPES = node_small version v ranges.0 in
    let b : p < VPES = node_small version p ranges.1 in
    line_vpe version k _ ∙ (fill_node version v _ _ ranges.0 ∙ (fill_node version p _ _ ranges.1 ∙ filled))
line_fits version k (Memory v s b l g) some few ranges said =
    let a : v < VPES = node_small version v ranges.0 in
    let c : s < 256 = ranges.1 in
    let d : b ≤ 4294967295 = ranges.2 in
    let e : l ≤ 4294967295 = ranges.3 in
    let f : g ≤ 7 = ranges.4 in
    line_root version k _
    ∙ (fill_node version v _ _ ranges.0
    ∙ (fill 0 255 s _ _ (omega arith) (omega arith) (omega arith)
    ∙ (object_mem _ ∙ (fill 0 4294967295 b _ _ (omega arith) (omega arith) (omega arith)
    ∙ (fill 0 4294967295 l _ _ (omega arith) (omega arith) (omega arith) ∙ (fill 0 7 g _ _ (omega arith) (omega arith) (omega arith) ∙ filled))))))
line_fits version k (Receive v s n) some few ranges said =
    let a : v < VPES = node_small version v ranges.0 in
    let c : s < 256 = ranges.1 in
    let d : 1 ≤ n = ranges.2 in
    let e : n ≤ 64 = ranges.3 in
    line_root version k _
    ∙ (fill_node version v _ _ ranges.0
    ∙ (fill 0 255 s _ _ (omega arith) (omega arith) (omega arith) ∙ (object_recv _ ∙ (fill 1 64 n _ _ (omega arith) (omega arith) (omega arith) ∙ filled))))
line_fits version k (Service v s n) some few ranges said =
    let a : v < VPES = node_small version v ranges.0 in
    let c : s < 256 = ranges.1 in
    let d : n ≤ 255 = ranges.2 in
    line_service version k _
    ∙ (fill_node version v _ _ ranges.0
    ∙ (fill 0 255 s _ _ (omega arith) (omega arith) (omega arith) ∙ (fill 0 255 n _ _ (omega arith) (omega arith) (omega arith) ∙ filled)))
line_fits version k (Offer n i s) some few ranges said =
    let a : n ≤ 255 = ranges.0 in
    let c : i ≤ 255 = ranges.1 in
    let d : s < 256 = ranges.2 in
    line_offer version k _
    ∙ (fill 0 255 n _ _ (omega arith) (omega arith) (omega arith)
    ∙ (fill 0 255 i _ _ (omega arith) (omega arith) (omega arith) ∙ (fill 0 255 s _ _ (omega arith) (omega arith) (omega arith) ∙ filled)))
line_fits version k (Deny v w) some few ranges said =
    let a : v < VPES = node_small version v ranges.0 in
    let c : w < VPES = node_small version w ranges.1 in
    line_deny version k _ ∙ (fill_node version v _ _ ranges.0 ∙ (fill_node version w _ _ ranges.1 ∙ filled))
line_fits version k (Kill v n) some few ranges said =
    let a : v < VPES = node_small version v ranges.0 in
    let c : n ≤ 4294967295 = ranges.1 in
    line_kill version k _ ∙ (fill_node version v _ _ ranges.0 ∙ (fill 0 4294967295 n _ _ (omega arith) (omega arith) (omega arith) ∙ filled))
line_fits version k (Calls v c) some few ranges said =
    let a : v < VPES = node_small version v ranges.0 in
    line_call version k _ ∙ (fill_node version v _ _ ranges.0 ∙ call_fits version c ranges.1)
line_fits version k End some few ranges said = line_end version k [] ∙ filled

-- and says what was printed
pub line_says : (version k : ℕ) (d : Declaration) → k ≤ KERNELS → IsInRange version k d → IsSaid version d → declaration (spelled d) ≡ d
unfolding declaration root_from
line_says version k (Kernels n) few ranges said = absurd said
line_says version k (Window w) few ranges said =
    let a : w ≤ 32 = window_small version w ranges in
    rw (value w (omega arith)) refl
line_says version k (Pe p j) few ranges said =
    let a : p < VPES = node_small version p ranges.0 in
    let b : j < k = ranges.1 in
    rw (value p (omega arith), value j (omega arith)) refl
line_says version k (Vpe v p) few ranges said =
    let a : v < VPES = node_small version v ranges.0 in
    let b : p < VPES = node_small version p ranges.1 in
    rw (value v (omega arith), value p (omega arith)) refl
line_says version k (Memory v s b l g) few ranges said =
    let a : v < VPES = node_small version v ranges.0 in
    let c : s < 256 = ranges.1 in
    let d : b ≤ 4294967295 = ranges.2 in
    let e : l ≤ 4294967295 = ranges.3 in
    let f : g ≤ 7 = ranges.4 in
    rw (value v (omega arith), value s (omega arith), value b (omega arith), value l (omega arith), value g (omega arith)) refl
line_says version k (Receive v s n) few ranges said =
    let a : v < VPES = node_small version v ranges.0 in
    let c : s < 256 = ranges.1 in
    let e : n ≤ 64 = ranges.3 in
    rw (value v (omega arith), value s (omega arith), value n (omega arith)) refl
line_says version k (Service v s n) few ranges said =
    let a : v < VPES = node_small version v ranges.0 in
    let c : s < 256 = ranges.1 in
    let d : n ≤ 255 = ranges.2 in
    rw (value v (omega arith), value s (omega arith), value n (omega arith)) refl
line_says version k (Offer n i s) few ranges said =
    let a : n ≤ 255 = ranges.0 in
    let c : i ≤ 255 = ranges.1 in
    let d : s < 256 = ranges.2 in
    rw (value n (omega arith), value i (omega arith), value s (omega arith)) refl
line_says version k (Deny v w) few ranges said =
    let a : v < VPES = node_small version v ranges.0 in
    let c : w < VPES = node_small version w ranges.1 in
    rw (value v (omega arith), value w (omega arith)) refl
line_says version k (Kill v n) few ranges said =
    let a : v < VPES = node_small version v ranges.0 in
    let c : n ≤ 4294967295 = ranges.1 in
    rw (value v (omega arith), value n (omega arith)) refl
line_says version k (Calls v c) few ranges said =
    let a : v < VPES = node_small version v ranges.0 in
    rw (value v (omega arith), call_says version c ranges.1) refl
line_says version k End few ranges said = refl

-- the first lines
pub first_fits : (version : ℕ) → (version ≡ 1) ⊎ (version ≡ 2) → form_fault first_form (codes "semper" ∷ codes "trace" ∷ decimal version ∷ []) ≡ None
unfolding form_fault first_form
first_fits version (inl one) = rw (one, decimal_digit 1 (omega arith)) refl
first_fits version (inr two) = rw (two, decimal_digit 2 (omega arith)) refl

pub first_says : (version : ℕ) → (version ≡ 1) ⊎ (version ≡ 2) → version_in (codes "semper" ∷ codes "trace" ∷ decimal version ∷ []) ≡ version
first_says version (inl one) = value version (omega arith)
first_says version (inr two) = value version (omega arith)

second_word : (version : ℕ) (ws : List (List ℕ)) → form_fault (second_form version) (codes "kernels" ∷ ws) ≡ form_fault (kernel_count version ∷ []) ws
unfolding form_fault second_form
second_word version ws = refl

pub second_fits : (version k : ℕ) → 1 ≤ k → k ≤ most_kernels version → form_fault (second_form version) (codes "kernels" ∷ decimal k ∷ []) ≡ None
second_fits version k some few =
    let small : most_kernels version ≤ KERNELS = few_kernels version in
    second_word version _ ∙ (fill 1 (most_kernels version) k _ _ some few (omega arith) ∙ filled)

pub second_says : (k : ℕ) → k ≤ KERNELS → number_at (codes "kernels" ∷ decimal k ∷ []) 1 ≡ k
second_says k few = value k (omega arith)

third_word : (version : ℕ) (ws : List (List ℕ)) → form_fault (third_form version) (codes "window" ∷ ws) ≡ form_fault (window version ∷ []) ws
unfolding form_fault third_form
third_word version ws = refl

pub third_fits : (version w : ℕ) → IsWindow version w → form_fault (third_form version) (codes "window" ∷ decimal w ∷ []) ≡ None
third_fits version w within = third_word version _ ∙ (fill_window version w _ _ within ∙ filled)
