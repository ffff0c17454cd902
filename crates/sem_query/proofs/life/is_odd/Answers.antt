use Rattle.std.proofs.Common.{sym}
use Rattle.sem_query.proofs.Odd.{odd-rest}
use Rattle.sem_query.proofs.life.is_odd.Goals as goal

pub returns : goal.returns
returns c = sym (odd-rest c.args.number)
