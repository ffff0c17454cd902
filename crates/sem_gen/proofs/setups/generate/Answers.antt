use Rattle.std.proofs.Common.{refl, subst, sym}
use Rattle.sem_msg.specs.Setup.{IsSetup}
use Rattle.sem_gen.proofs.Sound.{setup-is, generated-is}
use Rattle.sem_gen.proofs.setups.generate.Goals as goal

pub invariant_of-result : goal.invariant_of-result
invariant_of-result c =
    let is = generated-is c.args.seed c.args.vpes c.args.calls c.version_of.result _ c.own.result c.in_ok-declare.field-0 c.new.result c.new-2.result
    c.new-3.result c.new-4.result c.version_of.ensures refl c.own.ensures c.in_ok-declare.ensures c.new.ensures c.new-2.ensures c.new-3.ensures
    c.new-4.ensures in
    subst IsSetup (sym is) (setup-is c.args.seed c.args.vpes c.args.calls c.requires.vpes.0 c.requires.vpes.1 c.requires.calls)

pub returns : goal.returns
returns c = generated-is c.args.seed c.args.vpes c.args.calls c.version_of.result _ c.own.result c.in_ok-declare.field-0 c.new.result c.new-2.result
    c.new-3.result c.new-4.result c.version_of.ensures refl c.own.ensures c.in_ok-declare.ensures c.new.ensures c.new-2.ensures c.new-3.ensures c.new-4.ensures
