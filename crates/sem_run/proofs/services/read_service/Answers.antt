use Rattle.std.proofs.Common.{subst}
use Rattle.sem_files.specs.Compiled.{AreFiles}
use Rattle.sem_run.proofs.Ending.{files-fault-ends}
use Rattle.sem_run.proofs.ReadInput.{reads-files, files-refused}
use Rattle.sem_run.proofs.services.read_service.Goals as goal

-- the text stands for file commands, which are compiled to the setup
pub returns-in-Ok-compile-clause-reads : goal.returns-in-Ok-compile-clause-reads
returns-in-Ok-compile-clause-reads g c asked = record {
  files = c.in-Ok-read_files.files;
  read = reads-files _ c.in-Ok.bytes.items c.in-Ok.ensures.bytes c.in-Ok-read_files.files c.in-Ok.ensures.taken
      (rw c.deref.ensures.value at c.in-Ok-read_files.ensures.stands) (subst AreFiles c.files.view_is c.files.invariant);
  made = c.in-Ok-compile.ensures;
  valid = c.keeps_its_rules.ensures;
}

-- it is refused
pub returns-in-Err-Refused-clause-refused : goal.returns-in-Err-Refused-clause-refused
returns-in-Err-Refused-clause-refused g c seed asked is =
    let refused = files-refused _ c.in-Ok.bytes.items c.deref.result.now c.in-Err-Refused.fault c.in-Err-Refused.field-0 c.in-Ok.ensures.bytes
    c.deref.ensures.value c.in-Err-Refused.ensures.refused c.in-Err-Refused.field-0-is in
    files-fault-ends _ _ _ (c.in-Ok.bytes.items, c.in-Ok.ensures.taken) c.in-Ok.ensures.quiet c.refuse_files.ensures.0 seed c.in-Err-Refused.fault is refused
    c.refuse_files.result.status c.refuse_files.ensures.1
