use Rattle.std.proofs.Common.{◌≡◌, ◌∙◌, ℕ, Option, Some, None, ap, sym, subst, rules, length}
use Rattle.std.specs.Prelude.{IfSome}
use Rattle.sem_machine.specs.Sound.{IsSoundBut}
use Rattle.sem_machine.specs.Revokes.{finished}
use Rattle.sem_mark.proofs.Begun.{finish-none}
use Rattle.sem_kernel.proofs.Openings.{can-sweep, ups-of}
use Rattle.sem_kernel.specs.KernelStores.{side_of}
use Rattle.sem_kernel.proofs.stores.Stores.finish.Goals as goal

pub sweep-requires-clause-caps : goal.sweep-requires-clause-caps
sweep-requires-clause-caps c =
    let is : c.args.job ≡ Some c.in-Some.job = search rules in
    let sound = subst (λ (o : Option ℕ). IfSome o (λ j. IsSoundBut c.args.setup.now c.args.kernel None None None (Some j) 0 (side_of c.args.self.now))) is
    c.requires.sound in
    can-sweep c.args.setup.now c.requires.setup c.args.kernel c.requires.is_one None None None (Some c.in-Some.job) (side_of c.args.self.now) sound

pub sweep-requires-clause-ups : goal.sweep-requires-clause-ups
sweep-requires-clause-ups c =
    let is : c.args.job ≡ Some c.in-Some.job = search rules in
    let sound = subst (λ (o : Option ℕ). IfSome o (λ j. IsSoundBut c.args.setup.now c.args.kernel None None None (Some j) 0 (side_of c.args.self.now))) is
    c.requires.sound in
    ups-of c.args.setup.now c.requires.setup c.args.kernel c.requires.is_one None None None (Some c.in-Some.job) (side_of c.args.self.now) sound

pub returns-in-Some-clause-row : goal.returns-in-Some-clause-row
returns-in-Some-clause-row c =
    let is : c.args.job ≡ Some c.in-Some.job = search rules in
    c.sweep.ensures.row (side_of c.args.self.now) ∙ ap (λ (o : Option ℕ). finished c.args.setup.now c.args.kernel o (side_of c.args.self.now)) (sym is)

pub returns-in_default-clause-row : goal.returns-in_default-clause-row
returns-in_default-clause-row c =
    let is : c.args.job ≡ None = search rules in
    sym (finish-none c.args.setup.now c.args.kernel (length c.args.self.now.jobs.jobs) (side_of c.args.self.now))
    ∙ ap (λ (o : Option ℕ). finished c.args.setup.now c.args.kernel o (side_of c.args.self.now)) (sym is)
