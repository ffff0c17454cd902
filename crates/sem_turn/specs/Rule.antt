-- The rule of the turn: what holds of the table between any two steps ("The turn" in
-- docs/machine.md).
-- The table has one word, one slot, and a view for each seat. Only the steps of Steps.antt change
-- them.
use Rattle.std.specs.Prelude.{◌≡◌, ◌≢◌, ◌⊎◌, ◌==◌, ◌<◌, nat_lt, cond, ℕ, Bool, true, false, List, [], ◌∷◌, map}
use Rattle.std.specs.Prelude.{length, Option, Some, None, All, count_by, sum_by}
use Rattle.std.specs.List.{range_with_len}
use mathlib.Core.Option as maybe
use lib.ListN.{get_elem?}
use Rattle.atomic_table.specs.Table.{State}
use Rattle.sem_msg.specs.declared.entry.Entry.{Entry}
use Rattle.sem_msg.specs.Prelude.{Setup, FabricValue}
use Rattle.sem_msg.specs.Journal.{part}
use Rattle.sem_turn.specs.declared.rule.Share.{Share}
use Rattle.sem_turn.specs.declared.rule.View.{View}
use Rattle.sem_turn.specs.Passes.{has_place, IsWhole}

-- the table as plain data: the word, the fabric if it is at home, and the views
abbrev pub Board : Type 0
Board = State (Option FabricValue) View

-- The share of a kernel is one of the fabric: its entries are the kernel's part of the journal, and
-- the kernel has every place that it notes.
abbrev pub IsShareOf : FabricValue → Share → Type 0
IsShareOf f p =
    (p.entries ≡ part f.journal p.kernel) × (p.placed ≡ true → has_place f p.kernel ≡ true)

-- The turn is free: the word is 0, the fabric is at home, and no view holds it.
abbrev pub IsFree : Board → FabricValue → Type 0
IsFree s f =
    (s.words ≡ 0 ∷ []) × (s.homes ≡ maybe.some (Some f) ∷ [])
    × ((j : ℕ) (v : View) → get_elem? s.views j ≡ maybe.some v → v.taken ≡ None)

-- The turn is held: the word is 1 and the fabric is out. The view that took it carries a kernel,
-- and no other view holds it.
abbrev pub IsTurnHeld : Board → FabricValue → Type 0
IsTurnHeld s f =
    (s.words ≡ 1 ∷ []) × (s.homes ≡ maybe.none ∷ [])
    × ((holder : ℕ) × (h : View) × (get_elem? s.views holder ≡ maybe.some h) × (h.taken ≡ Some f)
    × (0 < length h.shares)
    × ((j : ℕ) (v : View) → j ≢ holder → get_elem? s.views j ≡ maybe.some v → v.taken ≡ None))

-- how often the view carries kernel k
abbrev pub carries : ℕ → View → ℕ
carries k v = count_by (λ p. p.kernel == k) v.shares

-- 1 for a number below n, and 0 for the others
abbrev pub once_below : ℕ → ℕ → ℕ
once_below k n = cond (nat_lt k n) 1 0

-- The rule. There is a fabric, a whole one of the setup. The turn is free with it, or held since it
-- was taken so.
-- The shares of all views fit it. Each kernel of the setup is carried exactly once, and no other
-- kernel ever is.
pub record IsInTurn (T : Setup) (s : Board) : Type 0 where
  pub fabric : FabricValue
  pub whole : IsWhole T fabric
  pub stands : IsFree s fabric ⊎ IsTurnHeld s fabric
  pub each : (j : ℕ) (v : View) → get_elem? s.views j ≡ maybe.some v →
      All (IsShareOf fabric) v.shares
  pub once : (k : ℕ) → sum_by (carries k) s.views ≡ once_below k T.kernels

-- The start: the first seat's view carries every kernel, with no entry and no place.

abbrev pub share : ℕ → List Entry → Bool → Share
share k es placed = record { kernel = k; entries = es; placed = placed }

abbrev pub view : List Share → Option FabricValue → View
view ps taken = record { shares = ps; taken = taken }

-- new shares of n kernels, from number a on
abbrev pub new_shares : ℕ → ℕ → List Share
new_shares a n = map (λ k. share k [] false) (range_with_len a n)

abbrev pub first_view : ℕ → View
first_view n = view (new_shares 0 n) None
