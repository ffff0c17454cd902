use Rattle.std.proofs.Common.{◌≡◌, List, length, sym, ◌∙◌, ap, subst, arith}
use Rattle.std.specs.List.{All}
use Rattle.sem_key.specs.Lists.{in_turn}
use Rattle.sem_msg.specs.declared.state.Ask.{Ask}
use Rattle.sem_msg.specs.VpeRows.{row}
use Rattle.sem_vpe.specs.VpeTable.{VpeTable}
use Rattle.sem_machine.specs.Sides.{Side, buried}
use Rattle.sem_machine.specs.Ends.{ask_ended}
use Rattle.sem_machine.specs.Stores.{with_jobs, with_vpes, with_vpes_parks_outs}
use Rattle.sem_sweep.specs.Sweeping.{HasAsker, call_taken, unasked}
use Rattle.sem_sweep.proofs.Unasked.{buried-is, died-asks}
use Rattle.sem_sweep.proofs.ends.end_vpe.Goals as goal

pub answer_asks-requires-clause-asks : goal.answer_asks-requires-clause-asks
answer_asks-requires-clause-asks c =
    let same : (row c.end.new.self.rows c.args.vpe).asks ≡ (row c.args.vpes.now.rows c.args.vpe).asks =
    ap (λ (t : VpeTable). (row t.rows c.args.vpe).asks) c.end.ensures ∙ died-asks c.args.vpe c.args.vpes.now.rows in
    subst (All (HasAsker c.args.setup.now)) (sym same) c.requires.asks

pub answer_asks-requires-clause-spare : goal.answer_asks-requires-clause-spare
answer_asks-requires-clause-spare c =
    let same : (row c.end.new.self.rows c.args.vpe).asks ≡ (row c.args.vpes.now.rows c.args.vpe).asks =
    ap (λ (t : VpeTable). (row t.rows c.args.vpe).asks) c.end.ensures ∙ died-asks c.args.vpe c.args.vpes.now.rows in
    omega (arith, ap length same, c.requires.spare)

pub end_call-requires-clause-sends : goal.end_call-requires-clause-sends
end_call-requires-clause-sends c =
    let same : (row c.end.new.self.rows c.args.vpe).asks ≡ (row c.args.vpes.now.rows c.args.vpe).asks =
    ap (λ (t : VpeTable). (row t.rows c.args.vpe).asks) c.end.ensures ∙ died-asks c.args.vpe c.args.vpes.now.rows in
    record {
      boxes = c.answer_asks.ensures.boxes;
      spare = omega (arith, ap length same, c.requires.spare, c.answer_asks.ensures.spare);
    }

pub returns-clause-row : goal.returns-clause-row
returns-clause-row c s =
    let T = c.args.setup.now in
    let i = c.args.kernel in
    let v = c.args.vpe in
    let t : Side = with_jobs c.args.jobs.now.jobs c.args.jobs.now.next s in
    let s0 : Side = with_vpes_parks_outs c.args.vpes.now.rows c.args.park.now c.args.outs.now.boxes t in
    let asks : List Ask = (row c.args.vpes.now.rows v).asks in
    let dead : unasked v (with_vpes_parks_outs c.end.new.self.rows c.args.park.now c.args.outs.now.boxes t) ≡ buried v s0 =
    ap (λ (u : VpeTable). unasked v (with_vpes_parks_outs u.rows c.args.park.now c.args.outs.now.boxes t)) c.end.ensures ∙ buried-is v s0 in
    let same : (row c.end.new.self.rows v).asks ≡ asks = ap (λ (u : VpeTable). (row u.rows v).asks) c.end.ensures ∙ died-asks v c.args.vpes.now.rows in
    c.end_call.ensures.row (with_vpes c.answer_asks.new.vpes.rows s)
    ∙ ap (call_taken T v) (c.answer_asks.ensures.row t
    ∙ ap (λ waiting. in_turn (ask_ended T i) waiting (unasked v (with_vpes_parks_outs c.end.new.self.rows c.args.park.now c.args.outs.now.boxes t))) same
    ∙ ap (in_turn (ask_ended T i) asks) dead)

pub returns-clause-spare : goal.returns-clause-spare
returns-clause-spare c =
    let same : (row c.end.new.self.rows c.args.vpe).asks ≡ (row c.args.vpes.now.rows c.args.vpe).asks =
    ap (λ (t : VpeTable). (row t.rows c.args.vpe).asks) c.end.ensures ∙ died-asks c.args.vpe c.args.vpes.now.rows in
    omega (arith, ap length same, c.answer_asks.ensures.spare, c.end_call.ensures.left.spare)
