-- The load of a generated trace is one that can be generated.
use Rattle.std.proofs.Common.{◌≡◌, ℕ, ◌*◌, ◌≤◌, Bool, true, false, cond, List, [], ◌∷◌, Option, Some, None, Ok, Err, refl, subst}
use Rattle.std.specs.Prelude.{nat_lt, nat_le, not, ◌&&◌, codes}
use Rattle.std.specs.Option.{option_map}
use Rattle.std.specs.Result.{result_ok}
use Rattle.std.specs.Str.{bytes_eq}
use Rattle.std.proofs.lemmas.Bool.{and_parts, leb-true, ltb-false}
use Rattle.std.proofs.lemmas.Option.{none-some, same_Some}
use Rattle.sem_text.specs.declared.numbers.NumberFault.TheVariants.{Bad, Range}
use Rattle.sem_text.specs.Number.{is_number, number_value}
use Rattle.sem_cli.specs.declared.forms.Command.{Command}
use Rattle.sem_cli.specs.declared.forms.Command.TheVariants.{Run, Threads, Files, Generate, Soak, Ask}
use Rattle.sem_cli.specs.declared.forms.Question.{Question}
use Rattle.sem_cli.specs.declared.forms.Question.TheVariants.{Check, Contents}
use Rattle.sem_cli.specs.declared.forms.Load.{Load}
use Rattle.sem_cli.specs.Commands.{command_of, generate, soak, number_to, seed_of, load_from, load_of, question_of}

-- a load that can be generated
abbrev pub CanGenerate : ℕ → ℕ → Type 0
CanGenerate vpes calls = (1 ≤ vpes) × (vpes ≤ 128) × (vpes * calls ≤ 20000)

-- a number is at most as great as it may be
number-most : (word : List ℕ) (most n : ℕ) → number_to most word ≡ Some n → n ≤ most
number-most word most n some = from (is_number word) (nat_lt most (number_value word)) (number_value word) refl some
  where
    from : (spelled over : Bool) (value : ℕ) → nat_lt most value ≡ over → result_ok (cond (not spelled) (Err Bad) (cond over (Err Range) (Ok value))) ≡ Some n →
        n ≤ most
    from false over value test some = absurd (none-some n some)
    from true true value test some = absurd (none-some n some)
    from true false value test some = subst (λ v. v ≤ most) (same_Some value n some) (ltb-false most value test)

-- what the numbers of a load keep
load-kept : (seed vpes calls : Option ℕ) (load : Load) → ((n : ℕ) → vpes ≡ Some n → n ≤ 128) → load_from seed vpes calls ≡ Some load →
    CanGenerate load.vpes load.calls
load-kept None vpes calls load few some = absurd (none-some load some)
load-kept (Some s) None calls load few some = absurd (none-some load some)
load-kept (Some s) (Some v) None load few some = absurd (none-some load some)
load-kept (Some s) (Some v) (Some c) load few some = from (nat_le 1 v && nat_le (v * c) 20000) refl some
  where
    from : (b : Bool) → (nat_le 1 v && nat_le (v * c) 20000) ≡ b → cond b (Some (record { seed = s; vpes = v; calls = c })) None ≡ Some load →
        CanGenerate load.vpes load.calls
    from false test some = absurd (none-some load some)
    from true test some =
        let parts = and_parts (nat_le 1 v) (nat_le (v * c) 20000) test in
        subst (λ (l : Load). CanGenerate l.vpes l.calls) (same_Some (record { seed = s; vpes = v; calls = c }) load some) (
          leb-true 1 v parts.0,
          few v refl,
          leb-true (v * c) 20000 parts.1,
        )

-- a command that generates a setup has such a load
abbrev IsLoaded : Option Command → Type 0
IsLoaded None = Unit {0}
IsLoaded (Some (Run seed)) = Unit {0}
IsLoaded (Some (Threads seed)) = Unit {0}
IsLoaded (Some (Files seed)) = Unit {0}
IsLoaded (Some (Generate seed vpes calls)) = CanGenerate vpes calls
IsLoaded (Some (Soak seed vpes calls)) = CanGenerate vpes calls
IsLoaded (Some (Ask question)) = Unit {0}

plain-loaded : (a b : Bool) → IsLoaded (cond a (Some (Ask Check)) (cond b (Some (Ask Contents)) None))
plain-loaded true b = tt
plain-loaded false true = tt
plain-loaded false false = tt

seeded-loaded : (a b c : Bool) (o : Option ℕ) → IsLoaded (cond a (option_map Run o) (cond b (option_map Threads o) (cond c (option_map Files o) None)))
seeded-loaded true b c None = tt
seeded-loaded true b c (Some seed) = tt
seeded-loaded false true c None = tt
seeded-loaded false true c (Some seed) = tt
seeded-loaded false false true None = tt
seeded-loaded false false true (Some seed) = tt
seeded-loaded false false false o = tt

asked-loaded : (a : Bool) (o : Option Question) → IsLoaded (cond a (option_map Ask o) None)
asked-loaded true None = tt
asked-loaded true (Some question) = tt
asked-loaded false o = tt

load-loaded : (a b c : Bool) (o : Option Load) (q : Option Question) → ((load : Load) → o ≡ Some load → CanGenerate load.vpes load.calls) →
    IsLoaded (cond a (option_map generate o) (cond b (option_map soak o) (cond c (option_map Ask q) None)))
load-loaded true b c None q kept = tt
load-loaded true b c (Some load) q kept = kept load refl
load-loaded false true c None q kept = tt
load-loaded false true c (Some load) q kept = kept load refl
load-loaded false false c o q kept = asked-loaded c q

command-loaded : (words : List (List ℕ)) → IsLoaded (command_of words)
command-loaded [] = tt
command-loaded (name ∷ []) = plain-loaded (bytes_eq name (codes "check")) (bytes_eq name (codes "contents"))
command-loaded (name ∷ seed ∷ []) = seeded-loaded (bytes_eq name (codes "run")) (bytes_eq name (codes "threads")) (bytes_eq name (codes "files")) (seed_of seed)
command-loaded (name ∷ what ∷ word ∷ []) = asked-loaded (bytes_eq name (codes "query")) (question_of (what ∷ word ∷ []))
command-loaded (name ∷ seed ∷ vpes ∷ calls ∷ []) = load-loaded (bytes_eq name (codes "gen")) (bytes_eq name (codes "soak")) (bytes_eq name (codes "query"))
    (load_of seed vpes calls) (question_of (seed ∷ vpes ∷ calls ∷ [])) (λ load. load-kept (seed_of seed) (number_to 128 vpes) (number_to 20000 calls) load
    (number-most vpes 128))
command-loaded (name ∷ seed ∷ vpes ∷ calls ∷ more ∷ words) = tt

-- so has one that words are
pub can-generate : (words : List (List ℕ)) (seed vpes calls : ℕ) → command_of words ≡ Some (Generate seed vpes calls) → CanGenerate vpes calls
can-generate words seed vpes calls same = subst IsLoaded same (command-loaded words)

pub can-soak : (words : List (List ℕ)) (seed vpes calls : ℕ) → command_of words ≡ Some (Soak seed vpes calls) → CanGenerate vpes calls
can-soak words seed vpes calls same = subst IsLoaded same (command-loaded words)
