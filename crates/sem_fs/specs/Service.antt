-- The setup of file commands, as far as its schedules depend on it: a server that rests, and
-- clients whose calls are in order ("The file service" in docs/proof.md).
use Rattle.std.specs.Prelude.{◌≡◌, ◌≢◌, ℕ, ◌<◌, ◌≤◌, ◌+◌, ◌==◌, Bool, true, false, ◌&&◌, List, [], ◌∷◌, ◌++◌, length}
use Rattle.std.specs.Prelude.{take, fold, filter, sum_by, slice_get, Contains, Some, if◌then◌else◌}
use Rattle.sem_key.specs.declared.limits.TheConstants.{NUMBERS, RIGHTS}
use Rattle.sem_machine.specs.Prelude.{Object, Mem, Recv, Send, Serv, Sess, KeyName, Call, Derive, Gate, Obtain}
use Rattle.sem_machine.specs.Prelude.{Delegate, OpenSession, AskOffer, Revoke, Bind, Read as ReadCall}
use Rattle.sem_machine.specs.Prelude.{Write as WriteCall, SendCall, Credit, Exit, Clear, Root, VpeDecl, Setup}
use Rattle.sem_machine.specs.Prelude.{IsSetup, decl, root_keys}
use Rattle.sem_msg.specs.Lookups.{calls_of, is_declared, service_named, offered}
use Rattle.sem_files.specs.Files.{EXTENT}
use Rattle.sem_files.specs.Compiled.{SERVER, SESSION, ACCESS, service_key}

-- Selectors. Below this number a client holds what it asked for, and from it on what it was given.
abbrev pub GIVEN : ℕ
GIVEN = 128

-- whether a VPE holds something that it asked for at a selector, after a call that succeeded
abbrev pub holds_after : ℕ → Bool → Call → Bool
holds_after sel held (OpenSession dst name) = if dst == sel then true else held
holds_after sel held (AskOffer dst session index) = if dst == sel then true else held
holds_after sel held (Revoke src) = if src == sel then false else held
holds_after sel held c = held

-- and after calls that all succeeded
abbrev pub holds : List Call → ℕ → Bool
holds before sel = fold (holds_after sel) false before

-- the memory of an extent is at a selector of the server
pub record IsExtent (T : Setup) (sel : ℕ) : Type 0 where
  pub server : VpeDecl
  pub declared : decl T SERVER ≡ Some server
  pub base : ℕ
  pub root : Contains server.roots (record { sel = sel; object = Mem base EXTENT RIGHTS })
  pub near : sel < GIVEN

-- memory is a whole extent with all rights, and a session is one with the server
abbrev pub IsWholeExtent : Object → Type 0
IsWholeExtent (Mem base len rights) = (len ≡ EXTENT) × (rights ≡ RIGHTS)
IsWholeExtent (Recv slots) = Unit {0}
IsWholeExtent (Send gate label credits) = Unit {0}
IsWholeExtent (Serv name) = Unit {0}
IsWholeExtent (Sess service ident) = service ≡ service_key

-- a client uses an extent that it opened
abbrev pub HasOpened : List Call → ℕ → Type 0
HasOpened before src = (SESSION < src) × (src < GIVEN) × (holds before src ≡ true)

-- the last call bound the endpoint to an extent
pub record BindsExtent (before : List Call) : Type 0 where
  pub first : List Call
  pub selector : ℕ
  pub last : before ≡ first ++ Bind ACCESS selector ∷ []

abbrev pub IsAccess : List Call → ℕ → ℕ → ℕ → Type 0
IsAccess before ep off len = (ep ≡ ACCESS) × (off + len ≤ EXTENT) × BindsExtent before

-- a call that VPE v may make after others
abbrev pub MayComeNext : Setup → ℕ → List Call → Call → Type 0
MayComeNext T v before (OpenSession dst name) =
    (dst ≡ SESSION) × (name ≡ 0) × (holds before dst ≡ false)
MayComeNext T v before (AskOffer dst session index) =
    (session ≡ SESSION) × (holds before SESSION ≡ true) × (SESSION < dst) × (dst < GIVEN)
    × (holds before dst ≡ false)
    × ((sel : ℕ) × (offered T service_key index ≡ Some sel) × IsExtent T sel)
MayComeNext T v before (Bind ep src) = (ep ≡ ACCESS) × HasOpened before src
MayComeNext T v before (ReadCall ep off len) = IsAccess before ep off len
MayComeNext T v before (WriteCall ep off len) = IsAccess before ep off len
MayComeNext T v before (Delegate src w dst) =
    HasOpened before src × (is_declared T w ≡ true) × (w ≢ v) × (w ≢ SERVER) × (GIVEN ≤ dst)
MayComeNext T v before (Revoke src) = HasOpened before src
MayComeNext T v before (Derive src dst off len rights) = ⊥
MayComeNext T v before (Gate src dst label credits) = ⊥
MayComeNext T v before (Obtain dst w src) = ⊥
MayComeNext T v before (SendCall ep len) = ⊥
MayComeNext T v before (Credit ep) = ⊥
MayComeNext T v before Exit = ⊥
MayComeNext T v before (Clear src) = ⊥

-- whether a call draws a number of its VPE
abbrev pub is_ask : Call → Bool
is_ask (OpenSession dst name) = true
is_ask (AskOffer dst session index) = true
is_ask c = false

-- whether a call gives to a selector of a VPE that passes the test
abbrev pub gives_where : ℕ → (ℕ → Bool) → Call → Bool
gives_where w such (Delegate src to dst) = (to == w) && such dst
gives_where w such c = false

-- how many calls of one VPE give so, and how many of all VPEs
abbrev pub times_given_by : Setup → ℕ → (ℕ → Bool) → VpeDecl → ℕ
times_given_by T w such d = length (filter (gives_where w such) (calls_of T d.vpe))

abbrev pub times_given : Setup → ℕ → (ℕ → Bool) → ℕ
times_given T w such = sum_by (times_given_by T w such) T.vpes

abbrev pub any : ℕ → Bool
any sel = true

-- how many numbers a client may draw: for what it is given, and for what it asks for
abbrev pub draws : Setup → ℕ → VpeDecl → ℕ
draws T w d = times_given_by T w any d + (if d.vpe == w then length (filter is_ask (calls_of T w)) else 0)

abbrev pub numbers_wanted : Setup → ℕ → ℕ
numbers_wanted T w = sum_by (draws T w) T.vpes

pub record IsService (T : Setup) : Type 0 where
  pub setup : IsSetup T
  -- the server is declared, has everything at the start, and makes no call
  pub server : VpeDecl
  pub declared : decl T SERVER ≡ Some server
  pub roots : (k : KeyName) → Contains (root_keys T) k → k.vpe ≡ SERVER
  pub rests : calls_of T SERVER ≡ []
  pub served : service_named T 0 ≡ Some (record { name = 0; key = service_key })
  pub service_is_root : Contains (root_keys T) service_key
  pub whole :
      (d : VpeDecl) (r : Root) → Contains T.vpes d → Contains d.roots r → IsWholeExtent r.object
  -- no pair is denied, and no VPE is killed
  pub no_denies : T.denies ≡ []
  pub no_kills : T.kills ≡ []
  -- calls are in order
  pub calls :
      (v n : ℕ) (c : Call) → slice_get (calls_of T v) n ≡ Some c
      → MayComeNext T v (take n (calls_of T v)) c
  -- at most one call gives to a selector of a client, and none to the server
  pub given_once : (w dst : ℕ) → GIVEN ≤ dst → times_given T w (λ sel. sel == dst) ≤ 1
  pub ungiven : times_given T SERVER any ≡ 0
  -- numbers do not run out
  pub numbers : (w : ℕ) → (w ≢ SERVER) → numbers_wanted T w ≤ NUMBERS
