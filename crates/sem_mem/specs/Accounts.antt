-- What memory holds after some accesses, told as they come.
use Rattle.std.specs.Prelude.{◌≡◌, ℕ, List, length, map}
use Rattle.sem_text.specs.Lines.{text}
use Rattle.sem_machine.specs.Prelude.{Entry, Setup, world_after}
use Rattle.sem_access.specs.declared.access.Access.{Access}
use Rattle.sem_access.specs.Accesses.{accesses}
use Rattle.sem_access.specs.Transfers.{transfer_of, access_by}
use Rattle.sem_access.specs.LastWrites.{is_write_at, greatest_entry}
use Rattle.sem_access.specs.Runs.{entry_at, IsNewer}
use Rattle.sem_access.specs.ContentsText.{read_line, reads, found_by}
use Rattle.sem_mem.specs.Reading.{AreBefore}
use Rattle.sem_mem.specs.declared.account.Account.{Account}

-- the account tells which of these accesses wrote each address last, and has the lines of the reads
-- among them
pub record IsAccount (xs : List Access) (x : Account) : Type 0 where
  pub kept : (a : ℕ) → entry_at x.memory a ≡ greatest_entry (is_write_at a) xs
  pub newer : (n : ℕ) → AreBefore n xs → IsNewer x.memory n
  pub told : x.lines.items ≡ text (map (λ y. read_line y (found_by xs y)) (reads xs))

-- the account is that of the accesses of a journal
abbrev pub IsAccountOf : Setup → List Entry → Account → Type 0
IsAccountOf T J x = IsAccount (accesses T J) x

-- the account also has what the next entry reads or writes
pub record IsAccountBefore (T : Setup) (J : List Entry) (e : Entry) (x : Account) : Type 0 where
  pub past : IsAccountOf T J x
  pub next : x.next ≡ access_by T (world_after T J) (length J) (transfer_of e)
