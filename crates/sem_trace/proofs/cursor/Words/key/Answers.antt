use Rattle.sem_trace.specs.Forms.{key}
use Rattle.sem_trace.specs.Words.{key_word}
use Rattle.sem_trace.proofs.WordReads.{read_place}
use Rattle.sem_trace.proofs.cursor.Words.key.Goals as goal

pub returns-clause-reads : goal.returns-clause-reads
returns-clause-reads c = read_place (key c.args.version) key_word _ _ _ c.read_key.result c.in_ok-word.ensures.ok c.read_key.ensures.fault
    c.read_key.ensures.printed
