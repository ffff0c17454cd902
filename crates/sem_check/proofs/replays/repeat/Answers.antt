use Rattle.std.proofs.Common.{refl, arith}
use Rattle.sem_kernel.specs.Worlds.{world_of}
use Rattle.sem_machine.specs.Machine.{entry_of}
use Rattle.sem_check.proofs.Repeating.{next-enabled, repeated-more, repeated-all}
use Rattle.sem_check.proofs.replays.repeat.Goals as goal

pub advance-requires-clause-enabled : goal.advance-requires-clause-enabled
advance-requires-clause-enabled c =
    let l = c.loop-entry in
    next-enabled c.args.setup.now c.args.entries.now c.requires l.kernels.items l.fabric l.entry-index l.invariant c.entry-item.result
    (omega arith) c.entry-item.is

pub loop-entry-preserved : goal.loop-entry-preserved
loop-entry-preserved c =
    let l = c.loop-entry in
    repeated-more c.args.setup.now c.args.entries.now c.requires l.kernels.items l.fabric l.entry-index l.invariant c.entry-item.result
    (omega arith) c.entry-item.is c.advance.new.kernels.items c.advance.new.fabric
    (entry_of c.args.setup.now (world_of l.kernels.items l.fabric) c.entry-item.result.event) (c.advance.ensures.stands l.invariant.stand) refl
    c.in_ok-advance.ensures.journal

pub returns-clause-journal : goal.returns-clause-journal
returns-clause-journal c =
    let l = c.loop-entry in
    repeated-all c.args.setup.now c.args.entries.now l.kernels.items l.fabric l.entry-index l.invariant (omega arith)
