-- What an audit holds, as contracts see it ("The report" in docs/texts.md).
use Rattle.std.specs.Prelude.{ℕ, List, map}
use Rattle.sem_key.specs.Prelude.{KeyName}
use Rattle.sem_msg.specs.declared.audit.Held.{Held}

-- the held keys, each with its selector
abbrev pub held_pairs : List Held → List (KeyName × ℕ)
held_pairs held = map (λ h. (h.key, h.sel)) held
