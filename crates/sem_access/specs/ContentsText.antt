-- The text that tells what memory holds ("What `contents` writes" in docs/texts.md).
use Rattle.std.specs.Prelude.{ℕ, not, List, [], ◌∷◌, ◌++◌, length, map, filter, codes, decimal, Option}
use Rattle.std.specs.Option.{option_map_or}
use Rattle.sem_machine.specs.Prelude.{Entry, Setup}
use Rattle.sem_text.specs.Lines.{text}
use Rattle.sem_access.specs.declared.access.Access.{Access}
use Rattle.sem_access.specs.declared.look.Look.{Look}
use Rattle.sem_access.specs.declared.run.Run.{Run}
use Rattle.sem_access.specs.Accesses.{accesses}
use Rattle.sem_access.specs.LastWrites.{last_write_in, looked}
use Rattle.sem_access.specs.Runs.{all_runs}

-- an entry, or a dash if there is none
abbrev pub entry_word : Option ℕ → List ℕ
entry_word entry = option_map_or decimal entry (codes "-")

-- a read, and what it found
abbrev pub read_line : Access → Look → List (List ℕ)
read_line x found =
    codes "read"
    ∷ decimal x.entry
    ∷ decimal x.base
    ∷ decimal x.len
    ∷ decimal found.written
    ∷ entry_word found.newest
    ∷ []

abbrev pub run_line : Run → List (List ℕ)
run_line r = codes "run" ∷ decimal r.base ∷ decimal r.len ∷ decimal r.entry ∷ []

-- the reads among accesses
abbrev pub reads : List Access → List Access
reads xs = filter (λ x. not x.write) xs

-- what an access finds: the last writes before it
abbrev pub found_by : List Access → Access → Look
found_by xs x = looked (last_write_in xs x.entry) x.base x.len

-- the lines of accesses by entries below n: each read with what it found, and the runs at the end
abbrev pub access_lines : List Access → ℕ → List (List (List ℕ))
access_lines xs n =
    (codes "semper" ∷ codes "contents" ∷ decimal 1 ∷ [])
    ∷ map (λ x. read_line x (found_by xs x)) (reads xs)
    ++ map run_line (all_runs (last_write_in xs n))
    ++ (codes "end" ∷ []) ∷ []

-- the text that tells what memory holds after a journal
abbrev pub contents : Setup → List Entry → List ℕ
contents T J = text (access_lines (accesses T J) (length J))
