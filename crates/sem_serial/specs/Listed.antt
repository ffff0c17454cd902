-- Lists of the enabled events, one for each kernel.
use Rattle.std.specs.Prelude.{◌≡◌, ℕ, ◌-◌, ◌==◌, nat_lt, Bool, ◌&&◌, ◌||◌, List, length, map, Option, Some, None}
use Rattle.std.specs.Prelude.{is_some, if◌then◌else◌}
use Rattle.std.specs.List.{list_any, range_with_len}
use Rattle.sem_machine.specs.Prelude.{Act, Fetch, Flush, Event, Setup, World, side, link}
use Rattle.sem_kernel.specs.Listing.{enabled_of}

-- the lists are the enabled events of each kernel, in the order of the kernels
abbrev pub AreListed : Setup → World → List (List Event) → Type 0
AreListed T W lists = lists ≡ map (enabled_of T W) (range_with_len 0 T.kernels)

-- no kernel has more enabled events than this
abbrev pub most_enabled : ℕ
most_enabled = 1000

-- all kernels together have no more than this
abbrev pub most_listed : ℕ
most_listed = 32000

-- whether a kill comes due with the last of that many replies, if the last event made one
abbrev pub comes_due : Setup → ℕ → Bool → Bool
comes_due T replies replied = replied && list_any (λ k. k.1 == replies) T.kills

-- The other kernel whose enabled events an act of kernel i can have changed; the act led to the
-- world. A fetch changes them if the link was full. A flush changes them if the link was empty and
-- nothing is in the inbox.
abbrev pub touched_peer : Setup → World → ℕ → Act → Option ℕ
touched_peer T W i (Fetch j) = if nat_lt (length (link W j i)) (T.window - 1) then None else Some j
touched_peer T W i (Flush j) = if is_some (side W j).inbox || nat_lt 1 (length (link W i j)) then None else Some j
touched_peer T W i act = None
