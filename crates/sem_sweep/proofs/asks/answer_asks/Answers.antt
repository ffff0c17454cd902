use Rattle.std.proofs.Common.{◌≡◌, ◌<◌, drop, length, sym, ◌∙◌, ap, subst, arith, rules}
use Rattle.std.specs.List.{All}
use Rattle.sem_msg.specs.ParkedStates.{state_of}
use Rattle.sem_msg.specs.VpeRows.{row}
use Rattle.sem_vpe.specs.VpeTable.{VpeTable}
use Rattle.sem_machine.specs.Sides.{Side, no_side, ask_taken}
use Rattle.sem_machine.specs.Stores.{with_vpes_parks_outs}
use Rattle.sem_sweep.specs.Sweeping.{CanOwe, HasAsker}
use Rattle.sem_sweep.proofs.Unasked.{turn-asks, turn-row, last-row, rest-all, rest-length, ended-owes}
use Rattle.sem_sweep.proofs.asks.answer_asks.Goals as goal

pub loop-ask-smaller : goal.loop-ask-smaller
loop-ask-smaller c =
    let T = c.args.setup.now in
    let v = c.args.vpe in
    let asks = (row c.loop-ask.vpes.rows v).asks in
    let s0 : Side = with_vpes_parks_outs c.loop-ask.vpes.rows c.loop-ask.park c.loop-ask.outs.boxes no_side in
    let s1 : Side = with_vpes_parks_outs c.next_ask.new.self.rows c.loop-ask.park c.loop-ask.outs.boxes no_side in
    let s2 : Side = with_vpes_parks_outs c.end_ask.new.vpes.rows c.end_ask.new.park c.end_ask.new.outs.boxes no_side in
    let taken : s1 ≡ ask_taken v s0 = ap (λ (t : VpeTable). with_vpes_parks_outs t.rows c.loop-ask.park c.loop-ask.outs.boxes no_side) c.in-Some.ensures.taken in
    let left = turn-asks T c.args.kernel v c.in-Some.ask s0 s1 s2 taken (c.end_ask.ensures.row no_side) in
    let less = rest-length c.in-Some.ask asks c.in-Some.ensures.front in
    let fewer : length (row c.end_ask.new.vpes.rows v).asks < length asks = omega (arith, ap length left, less) in
    fewer

pub loop-ask-preserved : goal.loop-ask-preserved
loop-ask-preserved c =
    let T = c.args.setup.now in
    let i = c.args.kernel in
    let v = c.args.vpe in
    let a = c.in-Some.ask in
    let asks = (row c.loop-ask.vpes.rows v).asks in
    let s0 : Side → Side = λ s. with_vpes_parks_outs c.loop-ask.vpes.rows c.loop-ask.park c.loop-ask.outs.boxes s in
    let s1 : Side → Side = λ s. with_vpes_parks_outs c.next_ask.new.self.rows c.loop-ask.park c.loop-ask.outs.boxes s in
    let s2 : Side → Side = λ s. with_vpes_parks_outs c.end_ask.new.vpes.rows c.end_ask.new.park c.end_ask.new.outs.boxes s in
    let taken : (s : Side) → s1 s ≡ ask_taken v (s0 s) =
    λ s. ap (λ (t : VpeTable). with_vpes_parks_outs t.rows c.loop-ask.park c.loop-ask.outs.boxes s) c.in-Some.ensures.taken in
    let left : (row c.end_ask.new.vpes.rows v).asks ≡ drop 1 asks = turn-asks T i v a (s0 no_side) (s1 no_side) (s2 no_side) (taken no_side)
    (c.end_ask.ensures.row no_side) in
    let less = rest-length a asks c.in-Some.ensures.front in
    record {
      ours = c.end_ask.ensures.ours ∙ ap (λ (t : VpeTable). t.ours) c.in-Some.ensures.taken ∙ c.loop-ask.invariant.ours;
      askers = subst (All (HasAsker T)) (sym left) (rest-all (HasAsker T) a asks c.in-Some.ensures.front c.loop-ask.invariant.askers);
      owes = subst (λ (t : Side). CanOwe T (state_of t.parks v)) (sym (c.end_ask.ensures.row no_side))
          (ended-owes T i v a (s1 no_side) c.loop-ask.invariant.owes);
      boxes = c.end_ask.ensures.left.boxes;
      spare = omega (arith, ap length left, less, c.end_ask.ensures.left.spare, c.loop-ask.invariant.spare);
      row = λ s. turn-row T i v a (s0 s) (s1 s) (s2 s) (taken s) (c.end_ask.ensures.row s) c.in-Some.ensures.front ∙ c.loop-ask.invariant.row s;
    }

pub returns-clause-row : goal.returns-clause-row
returns-clause-row c s =
    let s0 : Side = with_vpes_parks_outs c.loop-ask.vpes.rows c.loop-ask.park c.loop-ask.outs.boxes s in
    let s1 : Side = with_vpes_parks_outs c.next_ask.new.self.rows c.loop-ask.park c.loop-ask.outs.boxes s in
    last-row c.args.setup.now c.args.kernel c.args.vpe s0 s1 (ap (λ (t : VpeTable). with_vpes_parks_outs t.rows c.loop-ask.park c.loop-ask.outs.boxes s)
    c.in_default.ensures.taken)
    (search rules) ∙ c.loop-ask.invariant.row s
