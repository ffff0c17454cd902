-- What a journal tells of file commands: the keys of an opening, and when it is closed ("File
-- commands" in docs/machine.md).
use Rattle.std.specs.Prelude.{◌≡◌, ℕ, ◌<◌, ◌+◌, ◌==◌, Bool, true, false, List, [], ◌∷◌, ◌++◌, length, filter}
use Rattle.std.specs.Prelude.{Contains, Some}
use Rattle.sem_machine.specs.Prelude.{KeyName, Act, Calls, Yes, Asked, Entry}
use Rattle.sem_machine.specs.Living.{reply_count}
use Rattle.sem_files.specs.declared.files.FileAct.TheVariants.{OpenFile, Close}
use Rattle.sem_files.specs.declared.files.Command.{Command}
use Rattle.sem_files.specs.Files.{Files, extents_of, is_about}
use Rattle.sem_files.specs.Compiled.{calls_from}

-- Calls of a VPE by number, counted from 0.

abbrev pub is_call_of : ℕ → Act → Bool
is_call_of v (Calls w) = w == v
is_call_of v act = false

-- how many calls a VPE made
abbrev pub call_count_of : List Entry → ℕ → ℕ
call_count_of J v = length (filter (λ e. is_call_of v e.event.act) J)

-- call n of v has its reply
abbrev pub HasReply : List Entry → ℕ → ℕ → Type 0
HasReply J v n = n < reply_count J v

-- the key was granted to call n of v: a VPE consented to v's ask while that was the last call of v
pub record IsGrantedTo (J : List Entry) (v n : ℕ) (k : KeyName) : Type 0 where
  pub before : List Entry
  pub later : List Entry
  pub entry : Entry
  pub parent : KeyName
  pub among : J ≡ before ++ entry ∷ later
  pub consents : entry.detail ≡ Asked v Yes
  pub grants : entry.grant ≡ Some (parent, k)
  pub last_call : call_count_of before v ≡ n + 1

-- Openings.

-- how many calls a client makes for the session and the first commands
abbrev pub calls_before : Files → ℕ → List Command → ℕ
calls_before F v before = 1 + length (calls_from F v [] before)

-- a command that opens a file
pub record Opening (F : Files) : Type 0 where
  pub client : ℕ
  pub handle : ℕ
  pub file : ℕ
  pub before : List Command
  pub later : List Command
  pub among :
      F.commands ≡ before ++ record { client = client; act = OpenFile handle file } ∷ later

abbrev pub opening_command : {F : Files} → Opening F → Command
opening_command o = record { client = o.client; act = OpenFile o.handle o.file }

-- a key of an opening: it was granted to one of its asks
pub record IsKeyOfOpening {F : Files} (J : List Entry) (o : Opening F) (k : KeyName) : Type 0 where
  pub extent : ℕ
  pub within : extent < extents_of F o.file
  pub granted : IsGrantedTo J o.client (calls_before F o.client o.before + extent) k

-- the command that closes an opening: the first one about the handle that closes it
pub record Closing {F : Files} (o : Opening F) : Type 0 where
  pub between : List Command
  pub behind : List Command
  pub among : o.later ≡ between ++ record { client = o.client; act = Close o.handle } ∷ behind
  pub stays_open :
      (c : Command) → Contains between c → is_about o.client o.handle c ≡ true
      → c.act ≡ Close o.handle → ⊥

-- how many calls a client makes before those of a closing
abbrev pub calls_before_closing : {F : Files} {o : Opening F} → Closing o → ℕ
calls_before_closing {F} {o} x =
    calls_before F o.client (o.before ++ opening_command o ∷ x.between)

-- an opening is closed: the last revoke of its closing has its reply
pub record IsClosedOpening {F : Files} (J : List Entry) (o : Opening F) : Type 0 where
  pub closing : Closing o
  pub last : ℕ
  pub is_last : last + 1 ≡ extents_of F o.file
  pub answered : HasReply J o.client (calls_before_closing closing + last)
