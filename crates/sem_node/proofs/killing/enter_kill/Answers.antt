use Rattle.sem_node.proofs.KilledEntry.{can-put, put-held, put-whole}
use Rattle.sem_node.proofs.killing.enter_kill.Goals as goal

pub put-killed-requires : goal.put-killed-requires
put-killed-requires g c =
    can-put g.N.RunName.setup c.args.kernel.now c.args.pass.now c.take-fabric.new.pass c.take-fabric.result c.args.vpe c.requires.kernel c.requires.setup
    c.requires.place
    c.take-fabric.ensures.pass c.take-fabric.ensures.kernel c.take-fabric.ensures.entries c.take-fabric.ensures.place c.take-fabric.ensures.whole

pub give_back-requires-clause-held : goal.give_back-requires-clause-held
give_back-requires-clause-held g c =
    put-held g.N.RunName.setup c.args.kernel.now c.args.pass.now c.take-fabric.new.pass c.take-fabric.result c.args.vpe c.requires.kernel c.requires.setup
    c.requires.place
    c.take-fabric.ensures.pass c.take-fabric.ensures.kernel c.take-fabric.ensures.entries c.take-fabric.ensures.place c.take-fabric.ensures.whole
    c.put-killed.result.due c.put-killed.new.fabric c.put-killed.ensures.put

pub give_back-requires-clause-whole : goal.give_back-requires-clause-whole
give_back-requires-clause-whole g c =
    put-whole g.N.RunName.setup c.args.kernel.now c.args.pass.now c.take-fabric.new.pass c.take-fabric.result c.args.vpe c.requires.kernel c.requires.setup
    c.requires.place
    c.take-fabric.ensures.pass c.take-fabric.ensures.kernel c.take-fabric.ensures.entries c.take-fabric.ensures.place c.take-fabric.ensures.whole
    c.put-killed.result.due c.put-killed.new.fabric c.put-killed.ensures.put
