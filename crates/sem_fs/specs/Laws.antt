-- The laws of file services, and of file commands ("The file service" in docs/proof.md).
use Rattle.std.specs.Prelude.{◌≡◌, ◌⊎◌, ℕ, false, List, Contains, Some, None}
use Rattle.sem_machine.specs.Prelude.{KeyName, Capability, Entry, RevokeReq, VpeDecl, RevokeWait, Ready, Setup, decl}
use Rattle.sem_machine.specs.Prelude.{parked, World, IsSchedule, world_after, grants, root_keys, has_ended, HoldsCap}
use Rattle.sem_machine.specs.Prelude.{InFlight, IsLive}
use Rattle.sem_machine.specs.Journals.{Descends}
use Rattle.sem_machine.specs.Safety.{IsInUse}
use Rattle.sem_files.specs.Files.{Files}
use Rattle.sem_files.specs.Compiled.{compiled, AreFiles}
use Rattle.sem_fs.specs.Openings.{Opening, IsKeyOfOpening, IsClosedOpening}
use Rattle.sem_fs.specs.Service.{IsService}
use Rattle.sem_fs.specs.Holding.{home}
use Rattle.sem_fs.specs.Going.{AllSucceed}

-- in every schedule of every file service
abbrev pub OfServices : (Setup → List Entry → Type 0) → Type 0
OfServices P = (T : Setup) → IsService T → (J : List Entry) → IsSchedule T J → P T J

-- in every schedule of the setup that file commands compile to
abbrev pub OfFiles : (Files → List Entry → Type 0) → Type 0
OfFiles P = (F : Files) → AreFiles F → (J : List Entry) → IsSchedule (compiled F) J → P F J

-- Services.

-- no VPE ends
abbrev pub nobody_ends : Setup → List Entry → Type 0
nobody_ends T J = (v : ℕ) → has_ended J v ≡ false

-- the VPE waits for a revoke, or is about to reply to a call
abbrev pub IsRevoking : Setup → World → ℕ → Type 0
IsRevoking T W v =
    ((n : ℕ) × (parked (home T W v) v ≡ Some (RevokeWait n)))
    ⊎ ((code : ℕ) × (parked (home T W v) v ≡ Some (Ready code)))

-- a capability granted below a root is marked only while its VPE waits for a revoke
abbrev pub marks_are_own : Setup → List Entry → Type 0
marks_are_own T J =
    (p k : KeyName) (d : VpeDecl) → Contains (root_keys T) p → Contains (grants J) (p, k)
    → decl T k.vpe ≡ Some d → (IsRevoking T (world_after T J) k.vpe → ⊥)
    → (i : ℕ) (c : Capability) → HoldsCap (world_after T J) i k c → c.mark ≡ None

-- and a request to revoke it exists only then
abbrev pub requests_are_own : Setup → List Entry → Type 0
requests_are_own T J =
    (p k : KeyName) (d : VpeDecl) → Contains (root_keys T) p → Contains (grants J) (p, k)
    → decl T k.vpe ≡ Some d → IsLive (world_after T J) k
    → (IsRevoking T (world_after T J) k.vpe → ⊥)
    → (j : ℕ) → InFlight (world_after T J) (RevokeReq k j) → ⊥

-- every reply is a success
abbrev pub replies_succeed : Setup → List Entry → Type 0
replies_succeed T J = AllSucceed J

-- File commands.

abbrev pub commands_succeed : Files → List Entry → Type 0
commands_succeed F J = AllSucceed J

-- no key that descends from a key of a closed opening is live or bound
abbrev pub closed_are_gone : Files → List Entry → Type 0
closed_are_gone F J =
    (o : Opening F) → IsClosedOpening J o → (a k : KeyName) → IsKeyOfOpening J o a → Descends J a k
    → IsInUse (world_after (compiled F) J) k → ⊥
