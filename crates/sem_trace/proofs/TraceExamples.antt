-- A small trace that stands for its setup, and texts that are refused, each computed by the definitions.
use Rattle.std.proofs.Common.{◌≡◌, ℕ, List, [], ◌∷◌, ◌++◌, Option, Some, None, replicate, refl}
use Rattle.std.specs.Prelude.{codes}
use Rattle.std.specs.List.{flat_map}
use Rattle.sem_key.specs.declared.object.Object.TheVariants.{Mem, Serv}
use Rattle.sem_key.specs.declared.key.Kind.TheVariants.{Serv as ServKind}
use Rattle.sem_msg.specs.declared.call.Call.TheVariants.{Derive, Revoke}
use Rattle.sem_msg.specs.Setup.{Setup, services_from}
use Rattle.sem_trace.specs.declared.fault.Cause.{Cause}
use Rattle.sem_trace.specs.declared.fault.Cause.TheVariants.{NotText, UnknownWord, BadNumber, OutOfRange, Twice, Undeclared, Missing, TooMany}
use Rattle.sem_trace.specs.declared.fault.TraceFault.{TraceFault}
use Rattle.sem_trace.specs.TextLines.{lines_of, words_of, bytes_fault}
use Rattle.sem_trace.specs.Forms.{form_fault, word_fault, root_objects, calls, lines, first_form, second_form, third_form, form}
use Rattle.sem_trace.specs.Declarations.{call_from, root_from, declaration}
use Rattle.sem_trace.specs.Earlier.{window_in, owner_in, pe_in, is_pe_taken, roots_in, calls_in, vpe_in, has_service, offer_in, is_denied, kill_in, call_number}
use Rattle.sem_trace.specs.Earlier.{is_ended}
use Rattle.sem_trace.specs.Context.{context_fault}
use Rattle.sem_trace.specs.Refusal.{body_fault, words_fault, line_fault, numbers, fault_at, first_fault, version_of, kernels_of, declarations_of, end_fault}
use Rattle.sem_trace.specs.Refusal.{refusal}
use Rattle.sem_trace.specs.SetupOfText.{vpes_of, services_of, offers_of, denies_of, kills_of, setup_of, Stands}

-- each line with its line end
abbrev ended_lines : List (List ℕ) → List ℕ
ended_lines ls = flat_map (λ l. l ++ 10 ∷ []) ls

abbrev start : List (List ℕ)
start = codes "semper trace 1" ∷ codes "kernels 1" ∷ codes "pe 0 0" ∷ codes "vpe 0 0" ∷ []

-- the trace with these lines behind the first four
abbrev trace : List (List ℕ) → List ℕ
trace ls = ended_lines (start ++ ls)

abbrev refused : ℕ → ℕ → Cause → Option TraceFault
refused line word cause = Some (record { line = line; word = Some word; cause = cause })

abbrev whole : ℕ → Cause → Option TraceFault
whole line cause = Some (record { line = line; word = None; cause = cause })

-- a number with a leading zero is no number
leading_zero : refusal (trace (codes "root 0 0 mem 0 4096 07" ∷ codes "end" ∷ [])) ≡ refused 5 6 BadNumber
unfolding refusal word_fault lines_of words_of bytes_fault form_fault root_objects calls lines first_form second_form third_form form call_from root_from
    declaration window_in owner_in pe_in is_pe_taken roots_in calls_in vpe_in has_service offer_in is_denied kill_in call_number is_ended context_fault
    body_fault words_fault line_fault
    numbers fault_at first_fault version_of kernels_of declarations_of end_fault
leading_zero = refl

-- the lines that say nothing are counted
no_end : refusal (trace (codes "# nothing" ∷ [] ∷ [])) ≡ whole 7 Missing
unfolding refusal word_fault lines_of words_of bytes_fault form_fault root_objects calls lines first_form second_form third_form form call_from root_from
    declaration window_in owner_in pe_in is_pe_taken roots_in calls_in vpe_in has_service offer_in is_denied kill_in call_number is_ended context_fault
    body_fault words_fault line_fault
    numbers fault_at first_fault version_of kernels_of declarations_of end_fault
no_end = refl

-- that something is undeclared is told before that it comes twice
undeclared_first : refusal (trace (codes "vpe 0 5" ∷ codes "end" ∷ [])) ≡ refused 5 2 Undeclared
unfolding refusal word_fault lines_of words_of bytes_fault form_fault root_objects calls lines first_form second_form third_form form call_from root_from
    declaration window_in owner_in pe_in is_pe_taken roots_in calls_in vpe_in has_service offer_in is_denied kill_in call_number is_ended context_fault
    body_fault words_fault line_fault
    numbers fault_at first_fault version_of kernels_of declarations_of end_fault
undeclared_first = refl

-- a service and a root share the selectors
twice : refusal (trace (codes "root 0 2 recv 1" ∷ codes "service 0 2 1" ∷ codes "end" ∷ [])) ≡ refused 6 2 Twice
unfolding refusal word_fault lines_of words_of bytes_fault form_fault root_objects calls lines first_form second_form third_form form call_from root_from
    declaration window_in owner_in pe_in is_pe_taken roots_in calls_in vpe_in has_service offer_in is_denied kill_in call_number is_ended context_fault
    body_fault words_fault line_fault
    numbers fault_at first_fault version_of kernels_of declarations_of end_fault
twice = refl

-- memory ends at 2 ^ 32 at most, and that is told before that the VPE is undeclared
too_far : refusal (trace (codes "root 1 0 mem 4294967295 2 7" ∷ codes "end" ∷ [])) ≡ refused 5 5 OutOfRange
unfolding refusal word_fault lines_of words_of bytes_fault form_fault root_objects calls lines first_form second_form third_form form call_from root_from
    declaration window_in owner_in pe_in is_pe_taken roots_in calls_in vpe_in has_service offer_in is_denied kill_in call_number is_ended context_fault
    body_fault words_fault line_fault
    numbers fault_at first_fault version_of kernels_of declarations_of end_fault
too_far = refl

-- the leftmost fault is told
leftmost : refusal (trace (codes "root 99 0 mem" ∷ codes "end" ∷ [])) ≡ refused 5 1 OutOfRange
unfolding refusal word_fault lines_of words_of bytes_fault form_fault root_objects calls lines first_form second_form third_form form call_from root_from
    declaration window_in owner_in pe_in is_pe_taken roots_in calls_in vpe_in has_service offer_in is_denied kill_in call_number is_ended context_fault
    body_fault words_fault line_fault
    numbers fault_at first_fault version_of kernels_of declarations_of end_fault
leftmost = refl

-- a word that is missing stands after all words
missing : refusal (trace (codes "root 0 0 mem 1" ∷ codes "end" ∷ [])) ≡ refused 5 5 Missing
unfolding refusal word_fault lines_of words_of bytes_fault form_fault root_objects calls lines first_form second_form third_form form call_from root_from
    declaration window_in owner_in pe_in is_pe_taken roots_in calls_in vpe_in has_service offer_in is_denied kill_in call_number is_ended context_fault
    body_fault words_fault line_fault
    numbers fault_at first_fault version_of kernels_of declarations_of end_fault
missing = refl

-- a word more is told after the places
too_many : refusal (trace (codes "call 0 exit 0" ∷ codes "end" ∷ [])) ≡ refused 5 3 TooMany
unfolding refusal word_fault lines_of words_of bytes_fault form_fault root_objects calls lines first_form second_form third_form form call_from root_from
    declaration window_in owner_in pe_in is_pe_taken roots_in calls_in vpe_in has_service offer_in is_denied kill_in call_number is_ended context_fault
    body_fault words_fault line_fault
    numbers fault_at first_fault version_of kernels_of declarations_of end_fault
too_many = refl

-- a call that there is not
unknown : refusal (trace (codes "call 0 derived 0" ∷ codes "end" ∷ [])) ≡ refused 5 2 UnknownWord
unfolding refusal word_fault lines_of words_of bytes_fault form_fault root_objects calls lines first_form second_form third_form form call_from root_from
    declaration window_in owner_in pe_in is_pe_taken roots_in calls_in vpe_in has_service offer_in is_denied kill_in call_number is_ended context_fault
    body_fault words_fault line_fault
    numbers fault_at first_fault version_of kernels_of declarations_of end_fault
unknown = refl

-- the second line that says something says how many kernels there are
second : refusal (ended_lines (codes "semper trace 1" ∷ codes "end" ∷ [])) ≡ refused 2 0 UnknownWord
unfolding refusal word_fault lines_of words_of bytes_fault form_fault root_objects calls lines first_form second_form third_form form call_from root_from
    declaration window_in owner_in pe_in is_pe_taken roots_in calls_in vpe_in has_service offer_in is_denied kill_in call_number is_ended context_fault
    body_fault words_fault line_fault
    numbers fault_at first_fault version_of kernels_of declarations_of end_fault
second = refl

-- nothing is said behind the last line
behind_end : refusal (trace (codes "end" ∷ codes "# nothing" ∷ codes "kernels" ∷ [])) ≡ whole 7 TooMany
unfolding refusal word_fault lines_of words_of bytes_fault form_fault root_objects calls lines first_form second_form third_form form call_from root_from
    declaration window_in owner_in pe_in is_pe_taken roots_in calls_in vpe_in has_service offer_in is_denied kill_in call_number is_ended context_fault
    body_fault words_fault line_fault
    numbers fault_at first_fault version_of kernels_of declarations_of end_fault
behind_end = refl

-- the bytes of a comment are tested
bytes_first : refusal (trace ((codes "#" ++ 13 ∷ []) ∷ codes "end" ∷ [])) ≡ whole 5 NotText
unfolding refusal word_fault lines_of words_of bytes_fault form_fault root_objects calls lines first_form second_form third_form form call_from root_from
    declaration window_in owner_in pe_in is_pe_taken roots_in calls_in vpe_in has_service offer_in is_denied kill_in call_number is_ended context_fault
    body_fault words_fault line_fault
    numbers fault_at first_fault version_of kernels_of declarations_of end_fault
bytes_first = refl

-- a small trace with blanks, a tab, a comment and no last line end
abbrev small : List ℕ
small =
    ended_lines (start ++ codes "# all that there is" ∷ codes " call 0  revoke 0" ∷ codes "deny 0 0" ∷ codes "service 0 3 9" ∷ codes "kill 0 5"
    ∷ codes "offer 9 1 0" ∷ (codes "root 0" ++ 9 ∷ codes "0 mem 0 4096 7") ∷ codes "call 0 derive 0 1 0 1024 1" ∷ []) ++ codes "end"

abbrev declared : Setup
declared = record {
  version = 1;
  window = 4;
  kernels = 1;
  owners = record { kernels = 1; owners = Some 0 ∷ replicate 127 None };
  vpes = record {
    vpe = 0;
    pe = 0;
    roots = record { sel = 3; object = Serv 9 } ∷ record { sel = 0; object = Mem 0 4096 7 } ∷ [];
    calls = Revoke 0 ∷ Derive 0 1 0 1024 1 ∷ [];
  } ∷ [];
  services = record { name = 9; key = record { pe = 0; vpe = 0; kind = ServKind; number = 0 } } ∷ [];
  offers = record { name = 9; index = 1; sel = 0 } ∷ [];
  denies = (0, 0) ∷ [];
  kills = (0, 5) ∷ [];
}

stands : Stands small declared
unfolding refusal word_fault lines_of words_of bytes_fault form_fault root_objects calls lines first_form second_form third_form form call_from root_from
    declaration window_in owner_in pe_in is_pe_taken roots_in calls_in vpe_in has_service offer_in is_denied kill_in call_number is_ended context_fault
    body_fault words_fault line_fault
    numbers fault_at first_fault version_of kernels_of declarations_of end_fault vpes_of services_of offers_of denies_of kills_of setup_of services_from
stands = record { accepted = refl; declared = refl }
