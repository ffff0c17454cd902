use Rattle.std.proofs.Common.{◌<◌, ◌^◌, sym, ◌∙◌, rules}
use Rattle.sem_trace.proofs.PrintedNumbers.{read_number}
use Rattle.sem_trace.proofs.forms.number_in.Goals as goal

pub returns-in-Ok-clause-printed : goal.returns-in-Ok-clause-printed
returns-in-Ok-clause-printed c =
    let small : c.in-Ok.value < 2 ^ 64 = search rules in
    (read_number c.args.word.now c.args.range.most c.in-Ok.value small (sym c.number.ensures ∙ c.in-Ok.is)).1
