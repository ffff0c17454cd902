use Rattle.std.proofs.Common.{◌≡◌, ℕ, List, Option, length, sym, ◌∙◌, ap, subst}
use Rattle.sem_msg.specs.Setup.{Setup}
use Rattle.sem_msg.specs.declared.entry.Entry.{Entry}
use Rattle.sem_access.specs.Accesses.{accesses}
use Rattle.sem_access.specs.LastWrites.{is_write_at, greatest_entry, last_write}
use Rattle.sem_access.specs.Runs.{entry_at}
use Rattle.sem_mem.specs.Reading.{AreInOrder}
use Rattle.sem_mem.proofs.Ordering.{in-order, all-before}
use Rattle.sem_mem.proofs.Telling.{last-of-all}
use Rattle.sem_mem.proofs.KeptLongest.{kept-runs}
use Rattle.sem_writers.proofs.holdings.holdings_after.Goals as goal

pub followed-requires : goal.followed-requires
followed-requires c =
    subst AreInOrder (sym (c.as_slice.ensures ∙ c.in_ok-list.ensures))
    (in-order c.args.setup.now c.keeps_its_rules.ensures c.args.journal.now.entries c.requires)

-- memory tells the last write of each address
pub returns-clause-memory : goal.returns-clause-memory
returns-clause-memory c a =
    let T : Setup = c.args.setup.now in
    let J : List Entry = c.args.journal.now.entries in
    c.in_ok-memory.ensures.memory a
    ∙ (ap (greatest_entry (is_write_at a)) (c.as_slice.ensures ∙ c.in_ok-list.ensures)
    ∙ sym (last-of-all (accesses T J) (length J) a (all-before T J)))

-- so its runs are the longest ones
pub returns-clause-runs : goal.returns-clause-runs
returns-clause-runs c =
    let T : Setup = c.args.setup.now in
    let J : List Entry = c.args.journal.now.entries in
    let last : ℕ → Option ℕ = last_write T J (length J) in
    let tells : (a : ℕ) → entry_at c.in_ok-memory.memory a ≡ last a =
    λ a.
    c.in_ok-memory.ensures.memory a
    ∙ (ap (greatest_entry (is_write_at a)) (c.as_slice.ensures ∙ c.in_ok-list.ensures)
    ∙ sym (last-of-all (accesses T J) (length J) a (all-before T J))) in
    c.in_ok-rows.ensures.runs ∙ (c.deref.ensures.value ∙ (c.in_ok-runs.ensures.runs ∙ kept-runs last c.in_ok-memory.memory c.in_ok-runs.ensures.apart tells))
