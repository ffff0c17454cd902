-- What holds of revocation after every schedule: links, marks, jobs, and the calls that wait
-- ("Revocation" in docs/proof.md).
use Rattle.std.specs.Prelude.{◌≡◌, ℕ, ◌≤◌, true, false, ◌⊎◌, List, [], ◌∷◌, ◌++◌, Contains, Some, None}
use Rattle.sem_machine.specs.Prelude.{Object, KeyName, PlaceName, Capability, VpeDecl, Handle, Upcall, Entry, Message}
use Rattle.sem_machine.specs.Prelude.{ObtainReq, ObtainOk, Ack, Orphan, RevokeReq, Unlink, ObtainAsk, ObtainWait}
use Rattle.sem_machine.specs.Prelude.{ObtainReady, RevokeWait, Ready, JobRow, Setup, owner_of, kernel_of, row, job}
use Rattle.sem_machine.specs.Prelude.{parked, World, side, world_after, grants, root_keys, made, ancestry, has_ended}
use Rattle.sem_machine.specs.Prelude.{forest, InFlight, HoldsCap, IsLive}
use Rattle.sem_msg.specs.declared.message.Target.{Target}
use Rattle.sem_msg.specs.Lookups.{pe_owner}
use Rattle.sem_machine.specs.Sides.{is_alive}
use Rattle.sem_machine.specs.Living.{way}
use Rattle.sem_machine.specs.Safety.{IsInUse}
use Rattle.sem_revoke.specs.Resting.{IsCutOff, Names, HasMarkedParent}
use Rattle.sem_safety.specs.History.{history}
use Rattle.sem_revoke.specs.Scales.{of_world, requesting, naming, counting}

-- the kernel that owns the key holds it
abbrev pub IsHeldAtHome : Setup → World → KeyName → Type 0
IsHeldAtHome T W k = (c : Capability) × HoldsCap W (owner_of T k) k c

-- job n of that kernel has marked it
abbrev pub IsMarkedAtHome : Setup → World → KeyName → ℕ → Type 0
IsMarkedAtHome T W k n = (c : Capability) × HoldsCap W (owner_of T k) k c × (c.mark ≡ Some n)

-- a kernel owns the keys that it holds
abbrev pub held_at_home : Setup → List Entry → Type 0
held_at_home T J = (i : ℕ) (k : KeyName) (c : Capability) → HoldsCap (world_after T J) i k c → owner_of T k ≡ i

-- the parent of a live key is held, and has a link to it
abbrev pub live_are_linked : Setup → List Entry → Type 0
live_are_linked T J = (p k : KeyName) → IsLive (world_after T J) k → Contains (grants J) (p, k) →
    (c : Capability) × HoldsCap (world_after T J) (owner_of T p) p c × Contains c.children k

-- so every ancestor of a key in use is held, except the key itself
abbrev pub ancestors_held : Setup → List Entry → Type 0
ancestors_held T J = (k a : KeyName) → IsInUse (world_after T J) k → Contains (ancestry J k) a →
    (k ≡ a) ⊎ IsHeldAtHome T (world_after T J) a

-- a key that an Orphan or an Unlink in flight names is dead
abbrev pub orphans_dead : Setup → List Entry → Type 0
orphans_dead T J = (p k : KeyName) → InFlight (world_after T J) (Orphan p k) → IsLive (world_after T J) k → ⊥

abbrev pub unlinked_dead : Setup → List Entry → Type 0
unlinked_dead T J = (p k : KeyName) → InFlight (world_after T J) (Unlink p k) → IsLive (world_after T J) k → ⊥

-- a key that a kernel asks another to revoke is below a mark of the asking job, if the parent is
-- still held
abbrev pub asked_below_marks : Setup → List Entry → Type 0
asked_below_marks T J =
    (k : KeyName) (a b j : ℕ) → Contains (way (world_after T J) a b) (RevokeReq k j)
    → (p : KeyName) (c : Capability) → Contains (grants J) (p, k) → HoldsCap (world_after T J) (owner_of T p) p c →
    (owner_of T p ≡ a) × (c.mark ≡ Some j)

-- a capability travels before the request to revoke it
abbrev pub capability_first : Setup → List Entry → Type 0
capability_first T J =
    (k : KeyName) (a b j : ℕ) (before after : List Message) →
    way (world_after T J) a b ≡ before ++ RevokeReq k j ∷ after
    → ((p : KeyName) (o : Object) → Contains after (ObtainOk p k o) → ⊥) × (Contains after (Ack k true) → ⊥)

-- marks spread: a live child of a marked capability is marked by the same job of the same kernel,
-- or that job has asked for it
abbrev pub marks_spread : Setup → List Entry → Type 0
marks_spread T J =
    (p k : KeyName) (d : Capability) (n : ℕ) → HoldsCap (world_after T J) (owner_of T p) p d → d.mark ≡ Some n →
    Contains d.children k → IsLive (world_after T J) k
    → ((owner_of T k ≡ owner_of T p) × IsMarkedAtHome T (world_after T J) k n)
    ⊎ (1 ≤ of_world (requesting k (owner_of T p) n) (world_after T J))

-- a mark is of an open job: the key is its root, or the parent has the same owner and the same mark
abbrev pub marks_of_jobs : Setup → List Entry → Type 0
marks_of_jobs T J =
    (k : KeyName) (c : Capability) (n : ℕ) → HoldsCap (world_after T J) (owner_of T k) k c → c.mark ≡ Some n
    → (x : JobRow) × (job (side (world_after T J) (owner_of T k)) n ≡ Some x)
    × ((x.root ≡ k) ⊎ ((p : KeyName) × Contains (grants J) (p, k) × (owner_of T p ≡ owner_of T k)
    × IsMarkedAtHome T (world_after T J) p n))

-- the root of an open job is a key of its kernel, held, and marked by it
abbrev pub roots_marked : Setup → List Entry → Type 0
roots_marked T J = (i n : ℕ) (x : JobRow) → job (side (world_after T J) i) n ≡ Some x →
    (owner_of T x.root ≡ i) × IsMarkedAtHome T (world_after T J) x.root n

-- no other job waits for a job that keeps its root
abbrev pub keepers_alone : Setup → List Entry → Type 0
keepers_alone T J = (i n : ℕ) (x : JobRow) → job (side (world_after T J) i) n ≡ Some x → x.keep ≡ true → x.up ≡ None

-- the root of such a job belongs to a VPE that waits for the job
abbrev pub keepers_waited_for : Setup → List Entry → Type 0
keepers_waited_for T J = (i n : ℕ) (x : JobRow) → job (side (world_after T J) i) n ≡ Some x → x.keep ≡ true →
    parked (side (world_after T J) i) x.root.vpe ≡ Some (RevokeWait n)

-- a job counts exactly its tokens that are out
abbrev pub tokens_counted : Setup → List Entry → Type 0
tokens_counted T J = (i n : ℕ) → of_world (naming i n) (world_after T J) ≡ of_world (counting i n) (world_after T J)

-- A call of v without an answer cuts off k, by its own key r: k itself for a revoke, the parent of
-- k for a clear.
pub record IsWaiting (T : Setup) (J : List Entry) (v : ℕ) (k r : KeyName) : Type 0 where
  pub key : (k ≡ r) ⊎ Contains (grants J) (r, k)
  pub home : kernel_of T v ≡ owner_of T r
  -- the call waits for a job, or will be answered, or v is dead
  pub rest :
      (is_alive (side (world_after T J) (owner_of T r)) v ≡ false)
      ⊎ (((n : ℕ) × (parked (side (world_after T J) (owner_of T r)) v ≡ Some (RevokeWait n)))
      ⊎ ((code : ℕ) × (parked (side (world_after T J) (owner_of T r)) v ≡ Some (Ready code))))
  -- if r is still held, the job has marked it, will wake v, and does not keep what is cut off
  pub marked :
      (n : ℕ) (c : Capability) → parked (side (world_after T J) (owner_of T r)) v ≡ Some (RevokeWait n) →
      HoldsCap (world_after T J) (owner_of T r) r c
      → (c.mark ≡ Some n) × ((x : JobRow) → job (side (world_after T J) (owner_of T r)) n ≡ Some x →
      Contains x.waiters v × (k ≡ r → x.root ≡ r → x.keep ≡ false))
  -- once the call will succeed, k is dead
  pub ready : parked (side (world_after T J) (owner_of T r)) v ≡ Some (Ready 0) → IsLive (world_after T J) k → ⊥

abbrev pub revokers_wait : Setup → List Entry → Type 0
revokers_wait T J = (v : ℕ) (ks : List KeyName) (k : KeyName) → Contains (history J).waiting (v, ks) → Contains ks k →
    (r : KeyName) × IsWaiting T J v k r

-- an ancestor of the key was cut off, or belongs to a VPE that has ended; a key is its own ancestor
abbrev pub IsDoomed : List Entry → KeyName → Type 0
IsDoomed J k = (a : KeyName) × Contains (ancestry J k) a × IsCutOff J a

-- a key that a kernel holds stays held, unless it is doomed
abbrev pub held_unless_doomed : Setup → List Entry → Type 0
held_unless_doomed T J =
    (before later : List Entry) (i : ℕ) (k : KeyName) (c : Capability) → J ≡ before ++ later →
    HoldsCap (world_after T before) i k c
    → ((d : Capability) × HoldsCap (world_after T J) i k d) ⊎ IsDoomed J k

-- a key that a call of a living VPE is ready to install is live from then on, unless it is doomed
abbrev pub ready_unless_doomed : Setup → List Entry → Type 0
ready_unless_doomed T J =
    (before later : List Entry) (i v sel : ℕ) (k parent : KeyName) (object : Object) → J ≡ before ++ later
    → parked (side (world_after T before) i) v ≡ Some (ObtainReady k parent object sel) →
    is_alive (side (world_after T before) i) v ≡ true
    → IsLive (world_after T J) k ⊎ IsDoomed J k

-- a key that a VPE consents to give is live from then on, unless it is doomed
abbrev pub given_unless_doomed : Setup → List Entry → Type 0
given_unless_doomed T J =
    (before : List Entry) (e : Entry) (later : List Entry) (u : ℕ) (p k : KeyName) → J ≡ before ++ e ∷ later →
    e.event.act ≡ Upcall u → e.grant ≡ Some (p, k)
    → IsLive (world_after T J) k ⊎ IsDoomed J k

-- every granted key is live from then on, unless it is doomed
abbrev pub granted_unless_doomed : Setup → List Entry → Type 0
granted_unless_doomed T J =
    (before : List Entry) (e : Entry) (later : List Entry) (p k : KeyName) → J ≡ before ++ e ∷ later →
    e.grant ≡ Some (p, k)
    → IsLive (world_after T J) k ⊎ IsDoomed J k

-- a marked key is doomed, or the root of a job that keeps it
abbrev pub marks_doom : Setup → List Entry → Type 0
marks_doom T J =
    (i n : ℕ) (k : KeyName) (c : Capability) → HoldsCap (world_after T J) i k c → c.mark ≡ Some n
    → IsDoomed J k ⊎ ((x : JobRow) × (job (side (world_after T J) i) n ≡ Some x) × (x.root ≡ k) × (x.keep ≡ true))

-- a key that a kernel asks another to revoke is doomed
abbrev pub requests_doom : Setup → List Entry → Type 0
requests_doom T J = (k : KeyName) (j : ℕ) → InFlight (world_after T J) (RevokeReq k j) → IsDoomed J k

-- every key in the forest was made and is not doomed
abbrev pub forest_spared : Setup → List Entry → Type 0
forest_spared T J = (k : KeyName) → Contains (forest T J) k → Contains (made T J) k × (IsDoomed J k → ⊥)

-- a root in the forest is live
abbrev pub roots_last : Setup → List Entry → Type 0
roots_last T J = (k : KeyName) → Contains (root_keys T) k → Contains (forest T J) k → IsLive (world_after T J) k

-- a key in the forest that was granted within one kernel is live
abbrev pub near_keys_last : Setup → List Entry → Type 0
near_keys_last T J = (p k : KeyName) → Contains (grants J) (p, k) → owner_of T p ≡ owner_of T k →
    Contains (forest T J) k → IsLive (world_after T J) k

-- a granted key is live at that moment
abbrev pub born_live : Setup → List Entry → Type 0
born_live T J = (before later : List Entry) (e : Entry) (p k : KeyName) → J ≡ before ++ e ∷ later →
    e.grant ≡ Some (p, k) → IsLive (world_after T (before ++ e ∷ [])) k

-- if another job waits for a job, the root of the latter is a child of a capability that the other
-- has marked
abbrev pub waited_below_marks : Setup → List Entry → Type 0
waited_below_marks T J =
    (i' n : ℕ) (y : JobRow) → job (side (world_after T J) i') n ≡ Some y → (i j : ℕ) → Names y.up i' i j →
    HasMarkedParent J (world_after T J) i j y.root

-- a key that a job has marked is its root, or a child of a capability that it has marked too
abbrev pub marked_below_roots : Setup → List Entry → Type 0
marked_below_roots T J =
    (i : ℕ) (k : KeyName) (c : Capability) (j : ℕ) (x : JobRow) → HoldsCap (world_after T J) i k c → c.mark ≡ Some j →
    job (side (world_after T J) i) j ≡ Some x
    → (k ≡ x.root) ⊎ HasMarkedParent J (world_after T J) i j k

-- the VPE, if it lives, waits for the answer to the obtain that drew that place
abbrev pub IsPlaceAwaited : Setup → World → PlaceName → Type 0
IsPlaceAwaited T W place = is_alive (side W (kernel_of T place.vpe)) place.vpe ≡ true →
    (sel : ℕ) × (parked (side W (kernel_of T place.vpe)) place.vpe ≡ Some (ObtainWait place.number sel))

-- a queued or travelling ask of an obtain is awaited
abbrev pub asks_awaited : Setup → List Entry → Type 0
asks_awaited T J = (i u : ℕ) (place : PlaceName) (target : Target) →
    Contains (row (side (world_after T J) i) u).asks (ObtainAsk place target) →
    IsPlaceAwaited T (world_after T J) place

abbrev pub requests_awaited : Setup → List Entry → Type 0
requests_awaited T J = (place : PlaceName) (target : Target) → InFlight (world_after T J) (ObtainReq place target) →
    IsPlaceAwaited T (world_after T J) place

-- a message in flight stays in flight after one more entry, unless that entry handles it
abbrev pub flights_go_on : Setup → List Entry → Type 0
flights_go_on T J =
    (before : List Entry) (e : Entry) (later : List Entry) → J ≡ before ++ e ∷ later → (a b : ℕ) (m : Message) →
    Contains (way (world_after T before) a b) m
    → Contains (way (world_after T (before ++ e ∷ [])) a b) m
    ⊎ ((b ≡ e.event.kernel) × ((side (world_after T before) b).inbox ≡ Some (a, m)) × (e.event.act ≡ Handle))

-- a declared VPE that is dead has ended
abbrev pub dead_have_ended : Setup → List Entry → Type 0
dead_have_ended T J = (d : VpeDecl) → Contains T.vpes d →
    is_alive (side (world_after T J) (pe_owner T d.pe)) d.vpe ≡ false → has_ended J d.vpe ≡ true
