-- Why an obtain from another kernel was denied: its source was being revoked, as the answer says.
use Rattle.std.specs.Prelude.{None}
use Rattle.sem_machine.specs.Prelude.{Revoking, Handle, ObtainNo, Carried, Entry}
use Rattle.sem_plays.specs.Words.{place, entry}
use Rattle.sem_plays.specs.ObtainOfMarked.{trace, journal}
use Rattle.sem_query.specs.Denials.{IsDenied, denied_line}

-- `1 handle 0 obtain-no 3.3.0 4`
abbrev pub answer_entry : Entry
answer_entry = entry 1 Handle (Carried 0 (ObtainNo (place 3 3 0) 4)) None None None

-- so the answer is `denied 4 Revoking at 23` with that line
abbrev pub settled_by_the_answer : Type 0
settled_by_the_answer = IsDenied trace journal 24 (denied_line Revoking 23 answer_entry)
