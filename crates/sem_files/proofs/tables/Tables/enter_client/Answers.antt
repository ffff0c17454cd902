use Rattle.std.proofs.Common.{◌<◌, length, arith}
use Rattle.sem_files.proofs.Entered.{tells_client}
use Rattle.sem_files.proofs.tables.Tables.enter_client.Goals as goal

pub returns-clause-tells : goal.returns-clause-tells
returns-clause-tells c =
    let within : c.args.client < length c.args.self.now.declared = omega (arith, c.requires.range.1) in
    rw c.from.ensures (tells_client c.args.self.now c.args.client c.push.new.self c.requires.tells within c.requires.range c.requires.fine
    c.in_ok-push.ensures.ok)
