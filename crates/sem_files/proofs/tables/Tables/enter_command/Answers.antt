use Rattle.std.proofs.Common.{◌+◌, ap}
use Rattle.sem_files.specs.declared.lines.FileLine.TheVariants.{Do}
use Rattle.sem_files.specs.Tells.{files_in}
use Rattle.sem_files.proofs.StillFiles.{is_fine, or_false_left}
use Rattle.sem_files.proofs.Entered.{tells_command}
use Rattle.sem_files.proofs.tables.Tables.enter_command.Goals as goal

pub count_opening-requires-clause-few : goal.count_opening-requires-clause-few
count_opening-requires-clause-few c =
    rw (c.requires.tells.openings c.args.command.client) (or_false_left _ _ (is_fine (files_in c.args.self.now) (Do c.args.command) c.requires.fine).few)

pub returns-clause-tells : goal.returns-clause-tells
returns-clause-tells c =
    let told = c.requires.tells in
    tells_command c.args.self.now c.args.command c.push.new.self c.begin.new.begun c.count_opening.new.openings c.note_handle.new.handles c.use_number.new.used
    _ told c.requires.range c.requires.fine c.in_ok-push.ensures.ok
    (c.begin.ensures c.args.self.now.commands told.begun)
    (c.count_opening.ensures c.args.self.now.commands told.openings)
    (c.note_handle.ensures c.args.self.now.commands told.open')
    (c.use_number.ensures c.args.self.now.commands told.used)
    (ap (λ n. c.args.self.now.calls + n) c.new_calls-calls.ensures.number)
