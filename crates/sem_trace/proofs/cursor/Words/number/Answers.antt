use Rattle.std.proofs.Common.{decimal}
use Rattle.sem_trace.specs.Places.{number_place}
use Rattle.sem_trace.proofs.WordReads.{read_place}
use Rattle.sem_trace.proofs.cursor.Words.number.Goals as goal

pub returns-clause-reads : goal.returns-clause-reads
returns-clause-reads c = read_place (number_place c.args.range) decimal _ _ _ c.number_in.result c.in_ok-word.ensures.ok c.number_in.ensures.fault
    c.number_in.ensures.printed
