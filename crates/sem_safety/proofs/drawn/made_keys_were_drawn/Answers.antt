use Rattle.sem_safety.proofs.OneLife.{made-drawn}
use Rattle.sem_safety.proofs.drawn.made_keys_were_drawn.Goals as goal

pub returns : goal.returns
returns c = record { drawn = made-drawn }
