-- What is found of a report as its entries come.
use Rattle.std.proofs.Common.{◌≡◌, List, [], refl, subst}
use Rattle.sem_msg.specs.declared.entry.Entry.{Entry}
use Rattle.sem_msg.specs.Setup.{Setup}
use Rattle.sem_access.proofs.Gathering.{no-accesses}
use Rattle.sem_mem.specs.declared.account.Account.{Account}
use Rattle.sem_mem.specs.Accounts.{IsAccount}
use Rattle.sem_query.specs.declared.sighting.Sighting.{Sighting}
use Rattle.sem_run.specs.declared.findings.Finding.{Finding}
use Rattle.sem_run.specs.declared.findings.Finding.TheVariants.{Nothing, Accounted, Sighted, Line, Denial}
use Rattle.sem_run.specs.Findings.{IsNew, IsFound}

-- at the start, where no key is followed
pub begun : (T : Setup) (f : Finding) → ((s : Sighting) → f ≡ Sighted s → ⊥) → IsNew f → IsFound T [] f
begun T Nothing other new = tt
begun T (Accounted x) other new = subst (λ xs. IsAccount xs x) (no-accesses T) new
begun T (Sighted s) other new = absurd (other s refl)
begun T (Line key) other new = tt
begun T (Denial entry) other new = tt

-- where nothing is gathered
pub idle-after : (T : Setup) (J : List Entry) (f : Finding) → ((x : Account) → f ≡ Accounted x → ⊥) → ((s : Sighting) → f ≡ Sighted s → ⊥) → IsFound T J f
idle-after T J Nothing one other = tt
idle-after T J (Accounted x) one other = absurd (one x refl)
idle-after T J (Sighted s) one other = absurd (other s refl)
idle-after T J (Line key) one other = tt
idle-after T J (Denial entry) one other = tt
