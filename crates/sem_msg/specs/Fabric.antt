-- The fabric as contracts see it: the links and the journal of a run, its steps, and when it agrees
-- with its journal ("Fabric" in docs/machine.md).
use Rattle.std.specs.Prelude.{◌≡◌, ℕ, ◌<◌, nat_le, Bool, false, List, [], ◌∷◌, ◌++◌, length, slice_index_or}
use Rattle.std.specs.Prelude.{slice_set, All}
use Rattle.std.specs.Option.{option_map_or}
use Rattle.sem_key.specs.Prelude.{put}
use Rattle.sem_msg.specs.declared.message.Message.{Message}
use Rattle.sem_msg.specs.declared.event.Act.{Act}
use Rattle.sem_msg.specs.declared.event.Act.TheVariants.{Call as Calls, Fetch, Handle, Upcall, Resume, Flush, Kill}
use Rattle.sem_msg.specs.declared.entry.Entry.{Entry}
use Rattle.sem_msg.specs.Setup.{Setup}
use Rattle.sem_msg.specs.Journal.{flushed, fetched, kill_number, Agrees}

pub record FabricValue : Type 0 where
  -- the number of kernels, the window of a link, and after how many replies each VPE is killed
  pub kernels : ℕ
  pub window : ℕ
  pub kills : List (ℕ × ℕ)
  -- the entries of all kernels
  pub journal : List Entry
  -- the messages in each link, the oldest first, by sender and then by receiver
  pub links : List (List (List Message))
  -- whether each kernel has a place in the journal
  pub places : List Bool

-- the link from kernel i to kernel j
abbrev pub link_in : List (List (List Message)) → ℕ → ℕ → List Message
link_in links i j = slice_index_or (slice_index_or links i []) j []

-- the links with other messages in this one
abbrev pub link_put : ℕ → ℕ → List Message → List (List (List Message)) → List (List (List Message))
link_put i j messages links = put [] links i (put [] (slice_index_or links i []) j messages)

-- there is a link for each pair of n kernels
pub record IsSquare (n : ℕ) (links : List (List (List Message))) : Type 0 where
  pub rows : length links ≡ n
  pub each : (i : ℕ) → i < n → length (slice_index_or links i []) ≡ n

-- The steps.

-- the link from kernel i to kernel j has other messages
abbrev pub relinked : ℕ → ℕ → List Message → FabricValue → FabricValue
relinked i j messages f = record f { links = link_put i j messages f.links }

-- the entry is in the journal, and has used up its kernel's place
abbrev pub entered : Entry → FabricValue → FabricValue
entered e f = record f { journal = f.journal ++ e ∷ []; places = slice_set f.places e.event.kernel false }

-- an act that a kernel does alone: no fetch, flush or kill
abbrev pub IsOwnAct : Act → Type 0
IsOwnAct (Calls v) = Unit {0}
IsOwnAct (Fetch from) = ⊥
IsOwnAct Handle = Unit {0}
IsOwnAct (Upcall v) = Unit {0}
IsOwnAct (Resume v) = Unit {0}
IsOwnAct (Flush to) = ⊥
IsOwnAct (Kill v) = ⊥

-- whether a VPE is due to be killed after that many replies
abbrev pub is_due : Setup → ℕ → ℕ → Bool
is_due T replies v = option_map_or (λ n. nat_le n replies) (kill_number T v) false

-- When the fabric agrees: its numbers are those of the setup, and the links hold what the journal
-- says.
pub record AgreeAt (T : Setup) (kernels window : ℕ) (kills : List (ℕ × ℕ)) (J : List Entry)
    (links : List (List (List Message))) : Type 0 where
  pub same_kernels : kernels ≡ T.kernels
  pub same_window : window ≡ T.window
  pub same_kills : kills ≡ T.kills
  -- each entry is of a declared kernel
  pub owned : All (λ e. e.event.kernel < T.kernels) J
  pub agrees : Agrees T J
  -- a link holds what was flushed and not yet fetched
  pub linked : (i j : ℕ) → flushed J i j ≡ fetched J i j ++ link_in links i j

-- the fabric agrees with its journal; its places do not matter
abbrev pub FabricAgrees : Setup → FabricValue → Type 0
FabricAgrees T f = AgreeAt T f.kernels f.window f.kills f.journal f.links
