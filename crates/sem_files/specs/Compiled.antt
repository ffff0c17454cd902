-- The setup that file commands compile to ("File commands" in docs/machine.md).
use Rattle.std.specs.Prelude.{◌≡◌, ◌≢◌, ℕ, ◌≤◌, ◌+◌, ◌-◌, ◌*◌, ◌%◌, ◌==◌, nat_lt, ◌||◌, List, [], ◌∷◌, ◌++◌, length}
use Rattle.std.specs.Prelude.{map, filter, flat_map, Option, Some, None, All, AllPairs, sum_by, if◌then◌else◌}
use Rattle.std.specs.List.{list_any, range_with_len}
use Rattle.sem_msg.specs.Prelude.{PES, RIGHTS, ServKind, Mem, Serv, KeyName, Setup}
use Rattle.sem_msg.specs.declared.call.Call.{Call}
use Rattle.sem_msg.specs.declared.call.Call.TheVariants.{Delegate, OpenSession, AskOffer, Revoke, Bind}
use Rattle.sem_msg.specs.declared.call.Call.TheVariants.{Read as ReadCall, Write as WriteCall}
use Rattle.sem_msg.specs.declared.limits.TheConstants.{CALLS}
use Rattle.sem_msg.specs.declared.setup.Root.{Root}
use Rattle.sem_msg.specs.declared.setup.Offer.{Offer}
use Rattle.sem_msg.specs.declared.setup.VpeDecl.{VpeDecl}
use Rattle.sem_files.specs.declared.files.FileAct.{FileAct}
use Rattle.sem_files.specs.declared.files.FileAct.TheVariants.{OpenFile, Read, Write, Share, Close}
use Rattle.sem_files.specs.declared.files.Command.{Command}
use Rattle.sem_files.specs.Files.{Files, EXTENT, is_file, is_client, extents_of, file_of, IsCommand}

-- The places of things.

-- the VPE that serves files
abbrev pub SERVER : ℕ
SERVER = 0

-- the selector of a session, and the endpoint through which a client reads and writes
abbrev pub SESSION : ℕ
SESSION = 0

abbrev pub ACCESS : ℕ
ACCESS = 0

-- the number of extent i of file f among all extents: the index of its offer
abbrev pub extent_number : ℕ → ℕ → ℕ
extent_number f i = 4 * f + i

-- the selector of an extent at the server
abbrev pub extent_root : ℕ → ℕ
extent_root x = 1 + x

-- the selector of a client for extent i of the file that handle h has open
abbrev pub opened_at : ℕ → ℕ → ℕ
opened_at h i = 1 + (4 * h + i)

-- the selector of a client for extent i of the file given to it under the number g
abbrev pub given_at : ℕ → ℕ → ℕ
given_at g i = 128 + (4 * g + i)

-- the numbers below n
abbrev pub below : ℕ → List ℕ
below n = range_with_len 0 n

-- The calls of a command.

abbrev pub greater : ℕ → ℕ → ℕ
greater a b = if nat_lt a b then b else a

abbrev pub less : ℕ → ℕ → ℕ
less a b = if nat_lt a b then a else b

-- where the part of a range in extent i begins and ends, counted from the beginning of the file
abbrev pub part_begin : ℕ → ℕ → ℕ
part_begin off i = greater off (EXTENT * i)

abbrev pub part_end : ℕ → ℕ → ℕ → ℕ
part_end off len i = less (off + len) (EXTENT * (i + 1))

-- an extent that a range touches is bound, and the part of the range in it is accessed
abbrev pub part_accessed : (ℕ → ℕ → Call) → ℕ → ℕ → ℕ → ℕ → List Call
part_accessed access h off len i =
    let begins : ℕ = part_begin off i in
    let ends : ℕ = part_end off len i in
    if nat_lt begins ends
    then Bind ACCESS (opened_at h i) ∷ access (begins - EXTENT * i) (ends - begins) ∷ []
    else []

-- the calls of an act on a file of n extents
abbrev pub calls_of_act : ℕ → FileAct → List Call
calls_of_act n (OpenFile handle file) =
    map (λ i. AskOffer (opened_at handle i) SESSION (extent_number file i)) (below n)
calls_of_act n (Read handle off len) =
    flat_map (part_accessed (ReadCall ACCESS) handle off len) (below n)
calls_of_act n (Write handle off len) =
    flat_map (part_accessed (WriteCall ACCESS) handle off len) (below n)
calls_of_act n (Share handle to other) =
    map (λ i. Delegate (opened_at handle i) to (given_at other i)) (below n)
calls_of_act n (Close handle) = map (λ i. Revoke (opened_at handle i)) (below n)

-- the calls of a command after others
abbrev pub calls_of_command : Files → List Command → Command → List Call
calls_of_command F before c = calls_of_act (extents_of F (file_of before c.client c.act)) c.act

-- the calls of a client for the commands after those before them
unfoldable pub calls_from : Files → ℕ → List Command → List Command → List Call
calls_from F v before [] = []
calls_from F v before (c ∷ cs) =
    (if c.client == v then calls_of_command F before c else [])
    ++ calls_from F v (before ++ c ∷ []) cs

-- a client opens a session before it does anything else
abbrev pub client_calls : Files → ℕ → List Call
client_calls F v =
    if list_any (λ c. c.client == v) F.commands
    then OpenSession SESSION 0 ∷ calls_from F v [] F.commands
    else []

-- The setup.

-- the declared files, and the declared clients, in rising order
abbrev pub rising_files : Files → List ℕ
rising_files F = filter (is_file F) (below 16)

abbrev pub rising_clients : Files → List ℕ
rising_clients F = filter (is_client F) (range_with_len 1 63)

-- the numbers of all extents, in rising order
unfoldable pub extents : Files → List ℕ
extents F = flat_map (λ f. map (extent_number f) (below (extents_of F f))) (rising_files F)

abbrev pub service_root : Root
service_root = record { sel = 0; object = Serv 0 }

abbrev pub root_of_extent : ℕ → Root
root_of_extent x = record { sel = extent_root x; object = Mem (EXTENT * x) EXTENT RIGHTS }

abbrev pub offer_of_extent : ℕ → Offer
offer_of_extent x = record { name = 0; index = x; sel = extent_root x }

abbrev pub service_key : KeyName
service_key = record { pe = SERVER; vpe = SERVER; kind = ServKind; number = 0 }

-- the server holds the service and all extents
abbrev pub server : Files → VpeDecl
server F = record {
  vpe = SERVER;
  pe = SERVER;
  roots = service_root ∷ map root_of_extent (extents F);
  calls = [];
}

abbrev pub client : Files → ℕ → VpeDecl
client F v = record { vpe = v; pe = v; roots = []; calls = client_calls F v }

-- PE p belongs to kernel p mod kernels, if a VPE is on it
abbrev pub owner_of_pe : Files → ℕ → Option ℕ
owner_of_pe F p = if (p == SERVER) || is_client F p then Some (p % F.kernels) else None

unfoldable pub compiled : Files → Setup
compiled F = record {
  version = 1;
  window = 4;
  kernels = F.kernels;
  owners = record { kernels = F.kernels; owners = map (owner_of_pe F) (below PES) };
  vpes = server F ∷ map (client F) (rising_clients F);
  services = record { name = 0; key = service_key } ∷ [];
  offers = map offer_of_extent (extents F);
  denies = [];
  kills = [];
}

-- What the type of files keeps: there are 1 to 16 kernels. Its files, its clients and its commands,
-- taken as lines in this order, pass the tests of the grammar.
pub record AreFiles (F : Files) : Type 0 where
  pub some_kernel : 1 ≤ F.kernels
  pub few_kernels : F.kernels ≤ 16
  pub files : All (λ d. (d.file ≤ 15) × (1 ≤ d.extents) × (d.extents ≤ 4)) F.files
  pub files_differ : AllPairs (λ a b. a.file ≢ b.file) F.files
  pub clients : All (λ v. (1 ≤ v) × (v ≤ 63)) F.clients
  pub clients_differ : AllPairs (λ a b. a ≢ b) F.clients
  pub commands :
      (before later : List Command) (c : Command) → F.commands ≡ before ++ c ∷ later
      → IsCommand F before c
  pub few_calls : sum_by (λ v. length (client_calls F v)) (rising_clients F) ≤ CALLS
