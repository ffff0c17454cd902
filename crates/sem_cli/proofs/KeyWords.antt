-- Words that are keys.
use Rattle.std.proofs.Common.{◌≡◌, ℕ, List, map, decimal, Some, None, Result, Ok, Err, IfOk, refl, sym, ap, ◌∙◌, arith}
use Rattle.std.specs.Prelude.{is_none}
use Rattle.std.specs.Option.{option_map}
use Rattle.std.specs.Result.{result_ok, result_err}
use Rattle.std.proofs.lemmas.Bool.{cond-true, cond-false}
use Rattle.sem_key.specs.declared.key.Kind.{Kind}
use Rattle.sem_key.specs.declared.key.Kind.TheVariants.{Mem as MemKind, Recv as RecvKind, Send as SendKind, Serv as ServKind, Sess as SessKind}
use Rattle.sem_key.specs.KeyName.{KeyName, kind_number, kind_numbered}
use Rattle.sem_text.specs.Number.{number_value}
use Rattle.sem_trace.specs.declared.fault.Cause.{Cause}
use Rattle.sem_trace.specs.Forms.{place_fault, parts_of, key as key_place}
use Rattle.sem_trace.specs.Ranges.{IsKeyInText}
use Rattle.sem_trace.specs.Words.{key_word}
use Rattle.sem_journal.proofs.PrintedPlaces.{value, small, kind_most, key_parts, key_numbers}
use Rattle.sem_cli.specs.Commands.{key_numbered, key_named}

kind-again : (kind : Kind) → kind_numbered (kind_number kind) ≡ Some kind
kind-again MemKind = refl
kind-again RecvKind = refl
kind-again SendKind = refl
kind-again ServKind = refl
kind-again SessKind = refl

numbers-again : (k : KeyName) → IsKeyInText 2 k → map number_value (map decimal (key_numbers k)) ≡ key_numbers k
numbers-again k valid = rw (
  value k.pe (small 2 k.pe valid.0),
  value k.vpe (small 2 k.vpe valid.1),
  value (kind_number k.kind) (omega (arith, kind_most k.kind)),
  value k.number (omega (arith, valid.2)),
) refl

numbers-are : (k : KeyName) → key_numbered (key_numbers k) ≡ Some k
numbers-are k = ap (option_map (λ kind. record { pe = k.pe; vpe = k.vpe; kind = kind; number = k.number })) (kind-again k.kind)

-- a word that is the key's is read as the key
pub key-read : (word : List ℕ) (k : KeyName) → place_fault (key_place 2) word ≡ None → word ≡ key_word k → IsKeyInText 2 k → key_named word ≡ Some k
key-read word k fault is valid =
    cond-true (is_none (place_fault (key_place 2) word)) (key_numbered (map number_value (parts_of word))) None (ap is_none fault)
    ∙ (ap (λ w. key_numbered (map number_value (parts_of w))) is
    ∙ (ap (λ parts. key_numbered (map number_value parts)) (key_parts 2 k valid)
    ∙ (ap key_numbered (numbers-again k valid)
    ∙ numbers-are k)))

-- one with a fault is no key
pub no-key : (word : List ℕ) (cause : Cause) → place_fault (key_place 2) word ≡ Some cause → key_named word ≡ None
no-key word cause fault = cond-false (is_none (place_fault (key_place 2) word)) (key_numbered (map number_value (parts_of word))) None (ap is_none fault)

-- what the reader gives is what the word is
pub read-is : (word : List ℕ) (r : Result KeyName Cause) → place_fault (key_place 2) word ≡ result_err r → IfOk r (λ k. word ≡ key_word k) →
    IfOk r (IsKeyInText 2) → result_ok r ≡ key_named word
read-is word (Ok k) fault is valid = sym (key-read word k fault is valid)
read-is word (Err cause) fault is valid = sym (no-key word cause fault)
