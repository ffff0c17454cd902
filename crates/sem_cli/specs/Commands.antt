-- The command line ("The command line" in docs/texts.md).
use Rattle.std.specs.Prelude.{ℕ, ◌*◌, ◌&&◌, nat_le, List, [], ◌∷◌, map, codes, bytes_eq, Option, Some, None, is_none}
use Rattle.std.specs.Prelude.{option_map, if◌then◌else◌}
use Rattle.std.specs.Result.{result_ok}
use Rattle.sem_msg.specs.Prelude.{KeyName}
use Rattle.sem_key.specs.KeyName.{kind_numbered}
use Rattle.sem_text.specs.Number.{number_of, number_value}
use Rattle.sem_trace.specs.Forms.{place_fault, parts_of, key as key_place}
use Rattle.sem_cli.specs.declared.forms.Command.{Command}
use Rattle.sem_cli.specs.declared.forms.Command.TheVariants.{Run, Threads, Files, Generate, Soak, Ask}
use Rattle.sem_cli.specs.declared.forms.Question.{Question}
use Rattle.sem_cli.specs.declared.forms.Question.TheVariants.{Check, Contents, Holder, Path, Denied}
use Rattle.sem_cli.specs.declared.forms.Load.{Load}

-- the number of a word, if it is one and not above the limit
abbrev pub number_to : ℕ → List ℕ → Option ℕ
number_to most word = result_ok (number_of word most)

-- the seed, or the number of entries, that a word gives
abbrev pub seed_of : List ℕ → Option ℕ
seed_of word = number_to 18446744073709551615 word

-- the key of these numbers
abbrev pub key_numbered : List ℕ → Option KeyName
key_numbered (pe ∷ vpe ∷ kind ∷ number ∷ []) =
    option_map (λ k. record { pe = pe; vpe = vpe; kind = k; number = number }) (kind_numbered kind)
key_numbered numbers = None

-- the key of a word, with PE and VPE as in the texts of version 2
abbrev pub key_named : List ℕ → Option KeyName
key_named word =
    if is_none (place_fault (key_place 2) word)
    then key_numbered (map number_value (parts_of word))
    else None

-- a load is a seed, at least one VPE, and the calls of each VPE, at most 20000 in all
abbrev pub load_from : Option ℕ → Option ℕ → Option ℕ → Option Load
load_from (Some seed) (Some vpes) (Some calls) =
    if nat_le 1 vpes && nat_le (vpes * calls) 20000
    then Some (record { seed = seed; vpes = vpes; calls = calls })
    else None
load_from seed vpes calls = None

-- the load of three words, with at most 128 VPEs
abbrev pub load_of : List ℕ → List ℕ → List ℕ → Option Load
load_of seed vpes calls = load_from (seed_of seed) (number_to 128 vpes) (number_to 20000 calls)

abbrev pub generate : Load → Command
generate load = Generate load.seed load.vpes load.calls

abbrev pub soak : Load → Command
soak load = Soak load.seed load.vpes load.calls

-- the question where a key is, if these are a key and a number
abbrev pub holder_from : Option KeyName → Option ℕ → Option Question
holder_from (Some key) (Some count) = Some (Holder key count)
holder_from key count = None

-- the question of these words
abbrev pub question_of : List (List ℕ) → Option Question
question_of (what ∷ word ∷ []) =
    if bytes_eq what (codes "path") then option_map Path (key_named word)
    else (if bytes_eq what (codes "denied") then option_map Denied (seed_of word)
    else None)
question_of (what ∷ key ∷ count ∷ []) =
    if bytes_eq what (codes "holder") then holder_from (key_named key) (seed_of count) else None
question_of words = None

-- the command of the words
abbrev pub command_of : List (List ℕ) → Option Command
command_of (name ∷ []) =
    if bytes_eq name (codes "check") then Some (Ask Check)
    else (if bytes_eq name (codes "contents") then Some (Ask Contents)
    else None)
command_of (name ∷ seed ∷ []) =
    if bytes_eq name (codes "run") then option_map Run (seed_of seed)
    else (if bytes_eq name (codes "threads") then option_map Threads (seed_of seed)
    else (if bytes_eq name (codes "files") then option_map Files (seed_of seed)
    else None))
command_of (name ∷ what ∷ word ∷ []) =
    if bytes_eq name (codes "query") then option_map Ask (question_of (what ∷ word ∷ [])) else None
command_of (name ∷ seed ∷ vpes ∷ calls ∷ []) =
    if bytes_eq name (codes "gen") then option_map generate (load_of seed vpes calls)
    else (if bytes_eq name (codes "soak") then option_map soak (load_of seed vpes calls)
    else (if bytes_eq name (codes "query")
    then option_map Ask (question_of (seed ∷ vpes ∷ calls ∷ []))
    else None))
command_of words = None
