-- What the private functions say of the list of held keys, before and after it is sorted ("The
-- report" in docs/texts.md).
use Rattle.std.specs.Prelude.{◌≡◌, ◌==◌, List, filter}
use Rattle.std.specs.List.Sorted.{IsNonDecreasingBy}
use Rattle.sem_machine.specs.Prelude.{packed, Capability}
use Rattle.sem_msg.specs.declared.audit.Held.{Held}

-- the key of a capability with its selector
abbrev pub holding : Capability → Held
holding c = record { key = c.key; sel = c.selector }

-- no key comes before one that stands earlier
abbrev pub IsInOrder : List Held → Type 0
IsInOrder hs = IsNonDecreasingBy (λ h. packed h.key) hs

-- those of any one key stand in both lists in the same order
abbrev pub KeepsTies : List Held → List Held → Type 0
KeepsTies hs sorted = (h : Held) → filter (λ x. packed x.key == packed h.key) sorted
    ≡ filter (λ x. packed x.key == packed h.key) hs
