use Rattle.std.proofs.Common.{◌<◌, length, arith}
use Rattle.sem_files.proofs.Entered.{tells_file}
use Rattle.sem_files.proofs.tables.Tables.enter_file.Goals as goal

pub returns-clause-tells : goal.returns-clause-tells
returns-clause-tells c =
    let within : c.args.declared.file < length c.args.self.now.extents = omega (arith, c.requires.range.0) in
    rw c.from.ensures (tells_file c.args.self.now c.args.declared c.push.new.self c.requires.tells within c.requires.range c.requires.fine
    c.in_ok-push.ensures.ok)
