use Rattle.std.proofs.Common.{◌+◌, ◌≤◌, length, take, arith}
use Rattle.sem_io.specs.SourceBytes.{TakesAtMost}
use Rattle.std.proofs.lemmas.Grind.{common_steps}
use Rattle.sem_io.proofs.Moves.{reads_at_most, holds_on_err}
use Rattle.sem_io.proofs.transfer.read_all.Goals as goal

-- the last piece was taken and could not be kept
pub returns-in_err-extend_from_slice-clause-err : goal.returns-in_err-extend_from_slice-clause-err
returns-in_err-extend_from_slice-clause-err g c =
    let within : length c.loop-piece.bytes.items + length (take c.in_ok-count.count c.read.new.buf) ≤ c.args.limit + 1 =
    grind (arith, common_steps, c.in_ok-count.ensures.within, c.read.auto.buf, c.min-most.ensures, c.loop-piece.bytes.ok.0) in
    let at_most : TakesAtMost (g.S.Source.left c.args.input.now) (g.S.Source.left c.read.new.self) (c.args.limit + 1) =
    reads_at_most _ _ _ _ _ _ _ _ c.loop-piece.invariant c.in_ok-count.ensures.taken within in
    holds_on_err _ at_most
