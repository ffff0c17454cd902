use Rattle.sem_serial.proofs.drains.make_entry.Goals as goal

pub returns-clause-stand : goal.returns-clause-stand
returns-clause-stand c = c.advance.ensures.stands c.requires.stand
