-- What a journal tells: which keys were made from which, which were revoked, and which should be
-- left ("Derived notions" in docs/machine.md).
use Rattle.std.specs.Prelude.{ℕ, zero, suc, ◌+◌, ◌==◌, Bool, false, not, List, [], ◌∷◌, ◌++◌, length, map, filter}
use Rattle.std.specs.Prelude.{filter_map, flat_map, find, Contains, Option, Some, None, if◌then◌else◌}
use Rattle.std.specs.List.{list_any}
use Rattle.std.specs.Option.{option_map, option_map_or}
use Rattle.sem_msg.specs.Prelude.{KeyName, key_eq, Setup}
use Rattle.sem_key.specs.KeyList.{key_set}
use Rattle.sem_msg.specs.declared.call.Call.TheVariants.{Revoke, Clear, Exit}
use Rattle.sem_msg.specs.declared.event.Act.{Act}
use Rattle.sem_msg.specs.declared.event.Act.TheVariants.{Call as Calls, Kill}
use Rattle.sem_msg.specs.declared.entry.Detail.{Detail}
use Rattle.sem_msg.specs.declared.entry.Detail.TheVariants.{Called}
use Rattle.sem_msg.specs.declared.entry.Entry.{Entry}
use Rattle.sem_msg.specs.declared.setup.Root.{Root}
use Rattle.sem_msg.specs.declared.setup.VpeDecl.{VpeDecl}
use Rattle.sem_msg.specs.Setup.{root_key}
use Rattle.sem_msg.specs.Journal.{replies}
use Rattle.sem_key.specs.Region.{has_key}

-- the grants, each a parent and its child, in order
abbrev pub grants : List Entry → List (KeyName × KeyName)
grants J = filter_map (λ e. e.grant) J

-- the keys of roots that are numbered from n on
unfoldable pub root_keys_from : VpeDecl → ℕ → List Root → List KeyName
root_keys_from d n [] = []
root_keys_from d n (r ∷ rs) = root_key d n r ∷ root_keys_from d (n + 1) rs

-- the keys of all roots and services
abbrev pub root_keys : Setup → List KeyName
root_keys T = flat_map (λ d. root_keys_from d 0 d.roots) T.vpes

-- the made keys: those of roots and services, and the children of grants
abbrev pub made : Setup → List Entry → List KeyName
made T J = root_keys T ++ map (λ g. g.1) (grants J)

-- the parent of a key, by the first grant of the key
abbrev pub parent_in : List (KeyName × KeyName) → KeyName → Option KeyName
parent_in gs k = option_map (λ g. g.0) (find (λ g. key_eq g.1 k) gs)

-- a key and the parents above it, at most n of them
unfoldable pub ancestry_in : ℕ → List (KeyName × KeyName) → KeyName → List KeyName
ancestry_in zero gs k = k ∷ []
ancestry_in (suc n) gs k = k ∷ option_map_or (ancestry_in n gs) (parent_in gs k) []

-- the ancestry of a key: the key, its parent, the parent's parent, and so on
abbrev pub ancestry : List Entry → KeyName → List KeyName
ancestry J k = ancestry_in (length J) (grants J) k

-- b descends from a: a is in the ancestry of b
abbrev pub Descends : List Entry → KeyName → KeyName → Type 0
Descends J a b = Contains (ancestry J b) a

-- the VPE that ends by an act, if one does: it is killed, or calls `exit`
abbrev pub ended_by : Act → Detail → Option ℕ
ended_by (Kill w) detail = Some w
ended_by (Calls w) (Called index Exit) = Some w
ended_by act detail = None

-- whether a VPE ends by an act
abbrev pub ends : ℕ → Act → Detail → Bool
ends v (Kill w) detail = w == v
ends v (Calls w) (Called index Exit) = w == v
ends v act detail = false

-- whether a VPE has ended in the journal
abbrev pub has_ended : List Entry → ℕ → Bool
has_ended J v = list_any (λ e. ends v e.event.act e.detail) J

-- the keys granted below a parent
abbrev pub children_in : List (KeyName × KeyName) → KeyName → List KeyName
children_in gs p = map (λ g. g.1) (filter (λ g. key_eq g.0 p) gs)

-- What a call cuts off, given the grants before it: a revoke cuts its key, a clear every key
-- granted below its key by then.
abbrev pub cut_off : List (KeyName × KeyName) → Detail → KeyName → List KeyName
cut_off gs (Called index (Revoke src)) k = k ∷ []
cut_off gs (Called index (Clear src)) k = children_in gs k
cut_off gs detail k = []

-- what an entry cuts off, given the entries before it
abbrev pub cut_by : List Entry → Entry → List KeyName
cut_by before e = option_map_or (cut_off (grants before) e.detail) e.cut []

-- what the entries cut off, given the entries before them
unfoldable pub cut_from : List Entry → List Entry → List KeyName
cut_from before [] = []
cut_from before (e ∷ es) = cut_by before e ++ cut_from (before ++ e ∷ []) es

-- the cut: all that revokes and clears cut off, and the made keys of ended VPEs; each once
abbrev pub cut : Setup → List Entry → List KeyName
cut T J = key_set (cut_from [] J ++ filter (λ k. has_ended J k.vpe) (made T J))

-- the code of the first reply to a VPE
abbrev pub first_reply : List Entry → ℕ → Option ℕ
first_reply J v = option_map (λ r. r.code) (find (λ r. r.vpe == v) (replies J))

-- whether the code is there and is 0
abbrev pub is_success : Option ℕ → Bool
is_success code = option_map_or (λ c. c == 0) code false

-- whether the call of an act succeeds: the first reply to its VPE among the later entries is
-- success
abbrev pub succeeds : Act → List Entry → Bool
succeeds (Calls v) later = is_success (first_reply later v)
succeeds act later = false

-- what the entries cut off by calls that succeed, given the entries before them
unfoldable pub answered_from : List Entry → List Entry → List KeyName
answered_from before [] = []
answered_from before (e ∷ es) = (if succeeds e.event.act es then cut_by before e else [])
    ++ answered_from (before ++ e ∷ []) es

-- the answered keys: what revokes and clears that succeeded cut off
abbrev pub answered : List Entry → List KeyName
answered J = answered_from [] J

-- whether a key has an ancestor among these keys; a key is its own ancestor
abbrev pub descends_from_any : List Entry → List KeyName → KeyName → Bool
descends_from_any J ks k = list_any (has_key ks) (ancestry J k)

-- the forest: the made keys without an ancestor in the cut
abbrev pub forest : Setup → List Entry → List KeyName
forest T J = filter (λ k. not (descends_from_any J (cut T J) k)) (made T J)
