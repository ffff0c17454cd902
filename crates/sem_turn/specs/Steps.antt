-- The steps of the turn, and what each tells its seat. There are six kinds: to take; to give back
-- with one more entry; to give back unchanged; a try to take that finds the turn held; to cut the
-- first seat in two; to join two seats.
use Rattle.std.specs.Prelude.{◌≡◌, ◌≢◌, ℕ, List, [], ◌∷◌, ◌++◌, map, Option, Some, None, All}
use Rattle.atomic_table.specs.Table.{Me, Step}
use Rattle.sem_msg.specs.Prelude.{Setup, FabricValue}
use Rattle.sem_msg.specs.Journal.{part}
use Rattle.sem_turn.specs.declared.rule.Share.{Share}
use Rattle.sem_turn.specs.declared.rule.View.{View}
use Rattle.sem_turn.specs.Passes.{has_place, IsWhole}
use Rattle.sem_turn.specs.Rule.{IsShareOf, share, view}

-- a seat: its view, and its slots that are out, with what is in them
abbrev pub Sat : Type 0
Sat = Me (Option FabricValue) View

-- To take: the word was 0, and the fabric is out with the seat, which notes it so; or the word was
-- 1, and nothing changed.
abbrev pub TakesOut : Setup → Step (Option FabricValue) → Sat → ℕ → Sat → Type 0
TakesOut T s me found now =
    (found ≡ 0 → (f : FabricValue) × (now ≡ (view me.0.shares (Some f), (0, Some f) ∷ me.1)) × IsWhole T f
    × All (IsShareOf f) me.0.shares)
    × (found ≢ 0 → now ≡ me)

-- the shares of the same kernels, as the fabric has them
abbrev pub shares_in : FabricValue → List Share → List Share
shares_in f ps = map (λ p. share p.kernel (part f.journal p.kernel) (has_place f p.kernel)) ps

-- To give back, with one more entry or unchanged: the fabric is at home, and the seat's shares are
-- as that fabric has them.
abbrev pub Returns : Step (Option FabricValue) → Sat → ℕ → Sat → Type 0
Returns s me found now = (f : FabricValue) → me.1 ≡ (0, Some f) ∷ [] → now ≡ (view (shares_in f me.0.shares) None, [])

-- To cut: the new seat carries the first kernel, and the old one the others.

abbrev pub rest_of : List Share → List Share
rest_of [] = []
rest_of (p ∷ ps) = ps

abbrev pub front_of : List Share → List Share
front_of [] = []
front_of (p ∷ ps) = p ∷ []

abbrev pub cut_rest : View → View
cut_rest v = view (rest_of v.shares) v.taken

abbrev pub cut_front : View → View
cut_front v = view (front_of v.shares) None

-- To join: one seat carries the kernels of both, and the other is spent.

abbrev pub glued : View → View → View
glued v w = view (v.shares ++ w.shares) v.taken

abbrev pub nobody : View
nobody = view [] None
