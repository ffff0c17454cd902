-- Questions about a derive, a revoke of the derived key, and a second revoke, which is refused.
use Rattle.std.specs.Prelude.{◌≡◌, [], ◌∷◌, codes, None}
use Rattle.sem_machine.specs.Prelude.{MemKind, KeyName, Revoke, Calls, Called, Entry}
use Rattle.sem_msg.specs.declared.code.Code.TheVariants.{NoCap}
use Rattle.sem_trace.specs.Words.{key_word}
use Rattle.sem_plays.specs.Words.{key, entry, reply}
use Rattle.sem_plays.specs.RevokedSelectorIsFree.{trace, journal}
use Rattle.sem_query.specs.declared.holder.Holder.TheVariants.{No}
use Rattle.sem_query.specs.Whereabouts.{holder}
use Rattle.sem_query.specs.Lives.{lives, told_of}
use Rattle.sem_query.specs.Paths.{path_lines}
use Rattle.sem_query.specs.Denials.{IsDenied, denied_line, none_line}

abbrev pub derived : KeyName
derived = key 0 0 MemKind 1

abbrev pub gone_by_its_revoke : Type 0
gone_by_its_revoke = holder trace journal derived 2 ≡ No

abbrev pub told_gone : Type 0
told_gone = told_of (lives trace journal) derived 2 ≡ No

abbrev pub path_of_what_was_cut : Type 0
path_of_what_was_cut =
    path_lines trace journal derived
    ≡ (codes "key" ∷ key_word derived ∷ codes "cut" ∷ [])
    ∷ (codes "key" ∷ key_word (key 0 0 MemKind 0) ∷ codes "kept" ∷ [])
    ∷ []

-- a key that was never made
abbrev pub no_path : Type 0
no_path = path_lines trace journal (key 0 0 MemKind 2) ≡ (codes "none" ∷ []) ∷ []

-- `0 call 0 2 revoke 1 reply 0 3`
abbrev pub refused_entry : Entry
refused_entry = entry 0 (Calls 0) (Called 2 (Revoke 1)) None None (reply 0 3)

-- a call that is refused at once settles itself: the answer is `denied 3 NoCap at 3` with that line
abbrev pub refused_at_once : Type 0
refused_at_once = IsDenied trace journal 3 (denied_line NoCap 3 refused_entry)

-- a call that succeeds is not denied
abbrev pub not_refused : Type 0
not_refused = IsDenied trace journal 0 none_line
