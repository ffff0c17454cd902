use Rattle.sem_trace.specs.Forms.{key_place}
use Rattle.sem_trace.specs.Words.{place_word}
use Rattle.sem_trace.proofs.WordReads.{read_place}
use Rattle.sem_trace.proofs.cursor.Words.place.Goals as goal

pub returns-clause-reads : goal.returns-clause-reads
returns-clause-reads c = read_place (key_place c.args.version) place_word _ _ _ c.place.result c.in_ok-word.ensures.ok c.place.ensures.fault
    c.place.ensures.printed
