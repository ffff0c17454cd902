use Rattle.std.proofs.Common.{◌≡◌, ℕ, ◌≤◌, length, length-set, List, [], drop, ap, ◌∙◌, drop-drop, get_or-drop, add-zero, arith}
use Rattle.sem_text.specs.Number.{number_value}
use Rattle.sem_trace.specs.Forms.{word_at}
use Rattle.sem_trace.specs.Declarations.{number_at}
use Rattle.sem_trace.specs.Places.{number_place, least_at, most_at}
use Rattle.sem_trace.proofs.PlaceSteps.{behind_first, more_places, more_all, printed_more}
use Rattle.sem_trace.proofs.cursor.Words.numbers.Goals as goal

pub loop-place-preserved : goal.loop-place-preserved
loop-place-preserved c =
    let i : ℕ = c.loop-place.place in
    let all : List (List ℕ) = c.args.self.now in
    let behind : c.loop-place.self ≡ drop i all = c.loop-place.invariant.behind in
    let here : word_at c.loop-place.self 0 ≡ word_at all i = ap (λ (words : List (List ℕ)). word_at words 0) behind
    ∙ (get_or-drop i all 0 [] ∙ ap (λ (n : ℕ). word_at all n) (add-zero i)) in
    let five : length c.loop-place.values ≡ 5 = c.loop-place.invariant.five in
    let short : length c.args.ranges.now ≤ 5 = c.requires in
    record {
      five = rw length-set five;
      fault = λ places. c.loop-place.invariant.fault places ∙ more_places number_place c.args.ranges.now i _ places _ _ (omega arith) c.in_ok-values.ensures.reads.filled;
      values = more_all c.loop-place.values i c.in_ok-values.field-0 (λ k n. n ≡ number_at all k) (omega arith) c.loop-place.invariant.values
          (c.in_ok-values.ensures.value ∙ ap number_value here);
      least = more_all c.loop-place.values i c.in_ok-values.field-0 (λ k n. least_at c.args.ranges.now k ≤ n) (omega arith) c.loop-place.invariant.least
          c.in_ok-values.ensures.within.least;
      most = more_all c.loop-place.values i c.in_ok-values.field-0 (λ k n. n ≤ most_at c.args.ranges.now k) (omega arith) c.loop-place.invariant.most
          c.in_ok-values.ensures.within.most;
      spelled = printed_more c.loop-place.values i c.in_ok-values.field-0 _ _ _ (omega arith) c.loop-place.invariant.spelled
          c.in_ok-values.ensures.reads.spelled;
      behind = behind_first _ _ _ c.in_ok-values.ensures.reads.spelled ∙ (ap (drop 1) behind ∙ drop-drop 1 i all);
    }
