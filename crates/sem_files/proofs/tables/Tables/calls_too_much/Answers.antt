use Rattle.std.specs.Prelude.{nat_lt}
use Rattle.std.proofs.Common.{ap, sym}
use Rattle.sem_msg.specs.declared.limits.TheConstants.{CALLS}
use Rattle.sem_files.specs.Tells.{files_in}
use Rattle.sem_files.proofs.CallNumbers.{call_number-more}
use Rattle.sem_files.proofs.tables.Tables.calls_too_much.Goals as goal

pub returns : goal.returns
returns c = ap (nat_lt CALLS)
    (rw (
      c.requires.tells.calls,
      c.new_calls.ensures.number,
    )
    (sym (call_number-more (files_in c.args.self.now) c.args.command.now c.requires.declared c.requires.client.0 c.requires.client.1)))
