use Rattle.std.proofs.Common.{◌≡◌, ◌+◌, List, [], ◌∷◌, ◌++◌, take, refl, sym, ◌∙◌, ap, arith}
use Rattle.std.proofs.lemmas.List.{take_more}
use Rattle.sem_key.specs.KeyName.{KeyName}
use Rattle.sem_key.specs.Lists.{in_turn}
use Rattle.sem_key.proofs.InTurns.{in_turn-append}
use Rattle.sem_machine.specs.Sides.{Side}
use Rattle.sem_machine.specs.Revokes.{request_or_adopt}
use Rattle.sem_machine.specs.Stores.{with_caps, with_jobs, with_outs}
use Rattle.sem_mark.proofs.Opened.{count-below}
use Rattle.sem_mark.proofs.opening.request_all.Goals as goal

pub loop-at-init : goal.loop-at-init
unfolding in_turn
loop-at-init c = record {
  row = λ s. refl;
  count = c.requires.count;
  boxes = c.requires.boxes;
  sent = omega arith;
  spare = omega (arith, c.requires.spare);
  job_spare = refl;
}

pub loop-at-preserved : goal.loop-at-preserved
unfolding in_turn
loop-at-preserved c =
    let f = request_or_adopt c.args.setup.now c.args.kernel c.args.job in
    let keys : List KeyName = c.args.keys.now in
    let at = c.loop-at.at in
    let k = c.index-keys-at.result in
    let taken : take (at + 1) keys ≡ take at keys ++ k ∷ [] = take_more keys at k (omega arith) ∙ ap (λ x. take at keys ++ x ∷ []) (sym c.index-keys-at.is) in
    record {
      row = λ s.
          let s0 : Side = with_caps c.args.caps.now.caps (with_jobs c.args.jobs.now.jobs c.args.jobs.now.next (with_outs c.args.outs.now.boxes s)) in
          c.request_or_adopt.ensures.row s
          ∙ (ap (f k) (c.loop-at.invariant.row s) ∙ sym (ap (λ ks. in_turn f ks s0) taken ∙ in_turn-append f (take at keys) (k ∷ []) s0));
      count = c.request_or_adopt.ensures.count at c.loop-at.invariant.count;
      boxes = c.request_or_adopt.ensures.boxes;
      sent = omega (arith, c.request_or_adopt.ensures.spare, c.loop-at.invariant.sent);
      spare = omega (arith, c.request_or_adopt.ensures.spare, c.loop-at.invariant.spare);
      job_spare = c.request_or_adopt.ensures.job_spare ∙ c.loop-at.invariant.job_spare;
    }

-- each key brings one token at most
pub request_or_adopt-requires-clause-count : goal.request_or_adopt-requires-clause-count
request_or_adopt-requires-clause-count c = count-below c.args.job c.loop-at.at 18446744073709551614 c.loop-at.jobs.jobs (omega arith) c.loop-at.invariant.count
