use Rattle.std.proofs.Common.{[], refl, sym, ap, subst}
use Rattle.sem_msg.specs.Journal.{JournalList}
use Rattle.sem_run.specs.Ends.{WouldEnd}
use Rattle.sem_run.specs.Texts.{text_of}
use Rattle.sem_run.proofs.Ending.{load-ends, soak-part, memory-ends}
use Rattle.sem_run.proofs.soaks.soak_load.Goals as goal

-- the load was run to its end
pub returns-in-Ok-kernels : goal.returns-in-Ok-kernels
returns-in-Ok-kernels g c given asked untouched =
    let valid = c.keeps_its_rules.ensures in
    let complete = rw c.in-Ok-kernels.is at c.run_to_end-journal.ensures.complete in
    let told = rw (c.from-in-Ok-kernels.ensures, c.from.ensures, c.from-2.ensures) at c.tell_load.ensures.told in
    let r = c.tell_load.result in
    let text = text_of r.text r.journal.entries in
    let ends = load-ends given c.run_to_end-journal.result.journal.entries text c.args.seed c.args.vpes c.args.calls c.in-Ok.setup asked c.in-Ok.ensures valid
    untouched complete r.status told in
    subst (λ (j : JournalList). WouldEnd given j.entries text r.status) (sym c.tell_load.ensures.journal) ends

-- memory was lacking on the way
pub returns : goal.returns
returns g c given asked untouched =
    let valid = c.keeps_its_rules.ensures in
    let J = c.run_to_end-journal.result.journal.entries in
    let ends = soak-part given J [] c.args.seed c.args.vpes c.args.calls c.in-Ok.setup asked c.in-Ok.ensures valid untouched
    c.run_to_end-journal.ensures.schedule refl in
    memory-ends given c.out_of_memory-in-Err-kernels.result J c.out_of_memory-in-Err-kernels.ensures.status c.out_of_memory-in-Err-kernels.ensures.text
    (ap (λ (j : JournalList). j.entries) c.out_of_memory-in-Err-kernels.ensures.journal) ends
