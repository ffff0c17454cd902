use Rattle.std.proofs.Common.{◌≡◌, ◌∙◌, sym, ap}
use Rattle.sem_journal.specs.EntryForms.{has_long_memory, long_word}
use Rattle.sem_journal.proofs.LongMemory.{long_entry, place_entry}
use Rattle.sem_journal.proofs.EntryParts.{fault_behind, long_fault, no_fault}
use Rattle.sem_journal.proofs.read_entries.read_entry.Goals as goal

pub returns-in-Err-clause-fault : goal.returns-in-Err-clause-fault
returns-in-Err-clause-fault c =
    rw (c.fault_in.ensures, ← c.of-words.ensures) (fault_behind c.args.version c.args.kernels c.of-words.result _ _ c.in-Err.ensures.fault)

pub returns-then-carries_long-clause-fault : goal.returns-then-carries_long-clause-fault
returns-then-carries_long-clause-fault c =
    let e = c.in-Ok.entry in
    let long = sym c.if-carries_long.ensures in
    let place : long_word c.of-words.result ≡ c.length_word.result = ap long_word c.in-Ok.ensures.printed
    ∙ (place_entry c.args.version c.args.kernels e c.in-Ok.ensures.event long ∙ sym c.length_word.ensures) in
    rw (← c.of-words.ensures, ← place) (long_fault c.args.version c.args.kernels c.of-words.result c.in-Ok.ensures.fault
    (ap has_long_memory c.in-Ok.ensures.printed ∙ (long_entry c.args.version c.args.kernels e c.in-Ok.ensures.event ∙ long)))

pub returns-clause-fault : goal.returns-clause-fault
returns-clause-fault c =
    rw (← c.of-words.ensures) (no_fault c.args.version c.args.kernels c.of-words.result c.in-Ok.ensures.fault
    (ap has_long_memory c.in-Ok.ensures.printed
    ∙ (long_entry c.args.version c.args.kernels c.in-Ok.entry c.in-Ok.ensures.event ∙ sym c.if-carries_long.ensures)))

pub returns-clause-fits : goal.returns-clause-fits
returns-clause-fits c =
    c.in-Ok.ensures.fits (long_entry c.args.version c.args.kernels c.in-Ok.entry c.in-Ok.ensures.event ∙ sym c.if-carries_long.ensures)
