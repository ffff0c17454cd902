-- What a file service has under way, kernel by kernel: only allowed asks, and no refusal ("The file
-- service" in docs/proof.md).
use Rattle.std.specs.Prelude.{◌≡◌, ℕ, ◌≤◌, Contains, Option, Some, None}
use Rattle.sem_machine.specs.Prelude.{PlaceName, Message, ObtainReq, ObtainOk, ObtainNo, DelegateReq}
use Rattle.sem_machine.specs.Prelude.{DelegatePrepared, DelegateNo, Ack, Orphan, RevokeReq, RevokeDone, Unlink}
use Rattle.sem_machine.specs.Prelude.{SelTarget, ServTarget, OfferTarget, Ask, ObtainAsk, DelegateAsk, Parked}
use Rattle.sem_machine.specs.Prelude.{ObtainWait, ObtainReady, ObtainCancelled, DelegateWait, DelegateReady}
use Rattle.sem_machine.specs.Prelude.{RevokeWait, Ready, Pending, Setup, root_keys, World, side, link, Side, row}
use Rattle.sem_machine.specs.Prelude.{parked, outbox}
use Rattle.sem_msg.specs.declared.message.Target.{Target}
use Rattle.sem_msg.specs.Lookups.{offered}
use Rattle.sem_files.specs.Compiled.{SERVER, service_key}
use Rattle.sem_fs.specs.Service.{GIVEN, IsExtent}

-- what a client may ask for: a session, or an extent
abbrev pub MayBeAskedFor : Setup → Target → Type 0
MayBeAskedFor T (SelTarget vpe sel) = ⊥
MayBeAskedFor T (ServTarget service) = service ≡ service_key
MayBeAskedFor T (OfferTarget service index) =
    (service ≡ service_key) × ((sel : ℕ) × (offered T service_key index ≡ Some sel) × IsExtent T sel)

-- The following takes a relation of places and targets: which place asks for which target.

-- the server is asked only for what it serves, and a client is given to only where it may be
abbrev pub IsAskBy : (PlaceName → Target → Type 0) → ℕ → Ask → Type 0
IsAskBy A u (ObtainAsk place target) = (u ≡ SERVER) × A place target
IsAskBy A u (DelegateAsk parent object sel) = GIVEN ≤ sel

-- no message refuses, and everything given to a client comes from a root of the server
abbrev pub IsMessageBy : Setup → (PlaceName → Target → Type 0) → Message → Type 0
IsMessageBy T A (ObtainReq place target) = A place target
IsMessageBy T A (ObtainOk parent key object) = Contains (root_keys T) parent
IsMessageBy T A (ObtainNo place code) = ⊥
IsMessageBy T A (DelegateReq parent object vpe sel) = GIVEN ≤ sel
IsMessageBy T A (DelegatePrepared parent key) = Unit {0}
IsMessageBy T A (DelegateNo parent code) = ⊥
IsMessageBy T A (Ack key accepted) = Unit {0}
IsMessageBy T A (Orphan parent key) = Unit {0}
IsMessageBy T A (RevokeReq key job) = Unit {0}
IsMessageBy T A (RevokeDone job) = Unit {0}
IsMessageBy T A (Unlink parent key) = Unit {0}

-- no parked call was refused
abbrev pub IsServedCall : Setup → Option Parked → Type 0
IsServedCall T None = Unit {0}
IsServedCall T (Some (ObtainWait number sel)) = Unit {0}
IsServedCall T (Some (ObtainReady key parent object sel)) = Contains (root_keys T) parent
IsServedCall T (Some ObtainCancelled) = ⊥
IsServedCall T (Some (DelegateWait parent)) = Unit {0}
IsServedCall T (Some (DelegateReady parent key)) = Unit {0}
IsServedCall T (Some (RevokeWait job)) = Unit {0}
IsServedCall T (Some (Ready code)) = code ≡ 0

-- a side with nothing else
pub record IsSideBy (T : Setup) (A : PlaceName → Target → Type 0) (s : Side) : Type 0 where
  pub asks : (u : ℕ) (a : Ask) → Contains (row s u).asks a → IsAskBy A u a
  pub calls : (u : ℕ) → IsServedCall T (parked s u)
  pub pendings : (p : Pending) → Contains s.pendings p → GIVEN ≤ p.sel
  pub outs : (j : ℕ) (m : Message) → Contains (outbox s j) m → IsMessageBy T A m
  pub inbox : (from : ℕ) (m : Message) → s.inbox ≡ Some (from, m) → IsMessageBy T A m

-- a world with nothing else
pub record IsWorldBy (T : Setup) (A : PlaceName → Target → Type 0) (W : World) : Type 0 where
  pub sides : (i : ℕ) → IsSideBy T A (side W i)
  pub links : (i j : ℕ) (m : Message) → Contains (link W i j) m → IsMessageBy T A m

-- The relation in which any place asks for anything served.

abbrev pub Served : Setup → PlaceName → Target → Type 0
Served T place target = MayBeAskedFor T target

abbrev pub IsServedAsk : Setup → ℕ → Ask → Type 0
IsServedAsk T u a = IsAskBy (Served T) u a

abbrev pub IsServedMessage : Setup → Message → Type 0
IsServedMessage T m = IsMessageBy T (Served T) m

abbrev pub IsServedSide : Setup → Side → Type 0
IsServedSide T s = IsSideBy T (Served T) s

abbrev pub IsServedWorld : Setup → World → Type 0
IsServedWorld T W = IsWorldBy T (Served T) W
