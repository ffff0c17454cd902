use Rattle.std.proofs.Common.{◌≤◌, List, Option, [], ◌∷◌, sym, ◌∙◌, ap, arith}
use Rattle.std.proofs.lemmas.Bool.{false≢true}
use Rattle.std.proofs.lemmas.List.Elements.{All-contains}
use Rattle.std.specs.Prelude.{nat_lt, filter}
use Rattle.sem_key.specs.Lists.{in_turn}
use Rattle.sem_key.proofs.InTurns.{in_turn-append}
use Rattle.sem_msg.specs.declared.state.Parked.{Parked}
use Rattle.sem_msg.specs.declared.state.Parked.TheVariants.{Ready}
use Rattle.sem_msg.specs.declared.code.Code.TheVariants.{Ok as OkCode}
use Rattle.sem_msg.specs.Codes.{code_number}
use Rattle.sem_msg.specs.ParkedStates.{parked_as}
use Rattle.sem_machine.specs.Revokes.{all_woken}
use Rattle.sem_sweep.proofs.Swept.{below-all, below-there, below-absent, below-none}
use Rattle.sem_sweep.proofs.sweeps.wake_all.Goals.{then-has, else-has}
use Rattle.sem_sweep.proofs.sweeps.wake_all.Goals as goal

-- nobody is below the first
pub loop-vpe-init : goal.loop-vpe-init
unfolding in_turn
loop-vpe-init c =
    ap (λ ws. all_woken ws c.args.park.now)
    (sym (below-none c.first-vpe.result c.args.waiters.now
    (λ x there. All-contains (λ v. c.first-vpe.result ≤ v) c.args.waiters.now x c.first-vpe.ensures.first there)))

pub loop-vpe-preserved : goal.loop-vpe-preserved
unfolding in_turn
loop-vpe-preserved c =
    let ws = c.args.waiters.now in
    let v = c.loop-vpe.vpe in
    let before = c.args.park.now in
    elim c.if-has.branch [
      | then-has w ↦
          w.park-is ∙ (w.wake.ensures ∙ (ap (λ (ps : List (Option Parked)). parked_as ps v (Ready (code_number OkCode))) c.loop-vpe.invariant
          ∙ sym (ap (λ xs. all_woken xs before) (below-there v ws c.has.ensures.list.rising (c.has.ensures.has.0 w.if-has.true))
          ∙ in_turn-append (λ x ps. parked_as ps x (Ready (code_number OkCode))) (filter (λ x. nat_lt x v) ws) (v ∷ []) before)))
      | else-has w ↦
          w.park-is ∙ (c.loop-vpe.invariant
          ∙ sym (ap (λ xs. all_woken xs before) (below-absent v ws (λ there. false≢true (sym w.if-has.false ∙ c.has.ensures.has.1 there)))))
    ]

pub returns : goal.returns
returns c = c.loop-vpe.invariant
    ∙ ap (λ xs. all_woken xs c.args.park.now) (below-all c.loop-vpe.vpe c.args.waiters.now (λ k d lt. let few = c.first-vpe.ensures.list.below k d lt in
    omega arith))
