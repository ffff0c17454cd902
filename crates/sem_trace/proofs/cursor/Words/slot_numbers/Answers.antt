use Rattle.std.proofs.Common.{◌≡◌, ℕ, ◌≤◌, length, length-set, List, [], drop, refl, ap, ◌∙◌, drop-drop, get_or-drop, add-zero, arith}
use Rattle.std.proofs.lemmas.List.{drop_all}
use Rattle.std.proofs.lemmas.Result.{err_from_is_err_and}
use Rattle.sem_text.specs.Number.{number_value}
use Rattle.sem_trace.specs.declared.slots.Slot.TheVariants.{Selector}
use Rattle.sem_trace.specs.Forms.{word_at}
use Rattle.sem_trace.specs.Declarations.{number_at}
use Rattle.sem_trace.specs.Slots.{slot_place}
use Rattle.sem_trace.proofs.PlaceSteps.{behind_first, more_places, more_failed, more_all, more_stand, can_stand_in, printed_more}
use Rattle.sem_trace.proofs.cursor.Words.slot_numbers.Goals as goal

pub returns-in_err-values-clause-reads : goal.returns-in_err-values-clause-reads
returns-in_err-values-clause-reads c =
    let p = err_from_is_err_and c.from_residual.result c.from_residual.ensures.1 in
    rw (p.1, p.2) (λ more. c.loop-place.invariant.fault more
    ∙ more_failed (slot_place c.args.version c.args.kernels) c.args.slots.now c.loop-place.place Selector more _ _ c.loop-place-test.true c.in_err-values.ensures.reads)

pub loop-place-preserved : goal.loop-place-preserved
loop-place-preserved c =
    let i : ℕ = c.loop-place.place in
    let all : List (List ℕ) = c.args.self.now in
    let behind : c.loop-place.self ≡ drop i all = c.loop-place.invariant.behind in
    let here : word_at c.loop-place.self 0 ≡ word_at all i = ap (λ (words : List (List ℕ)). word_at words 0) behind
    ∙ (get_or-drop i all 0 [] ∙ ap (λ (n : ℕ). word_at all n) (add-zero i)) in
    let five : length c.loop-place.values ≡ 5 = c.loop-place.invariant.five in
    let short : length c.args.slots.now ≤ 5 = c.requires in
    record {
      five = rw length-set five;
      fault = λ places. c.loop-place.invariant.fault places
          ∙ more_places (slot_place c.args.version c.args.kernels) c.args.slots.now i _ places _ _ (omega arith)
          c.in_ok-values.ensures.reads.filled;
      values = more_all c.loop-place.values i c.in_ok-values.field-0 (λ k n. n ≡ number_at all k) (omega arith) c.loop-place.invariant.values
          (c.in_ok-values.ensures.value ∙ ap number_value here);
      within = more_stand (slot_place c.args.version c.args.kernels) c.args.slots.now Selector c.loop-place.values i c.in_ok-values.field-0 (omega arith)
          c.loop-place.invariant.within c.in_ok-values.ensures.within;
      spelled = printed_more c.loop-place.values i c.in_ok-values.field-0 _ _ _ (omega arith) c.loop-place.invariant.spelled
          c.in_ok-values.ensures.reads.spelled;
      behind = behind_first _ _ _ c.in_ok-values.ensures.reads.spelled ∙ (ap (drop 1) behind ∙ drop-drop 1 i all);
    }

pub returns-clause-reads : goal.returns-clause-reads
returns-clause-reads c =
    let whole : c.loop-place.place ≡ length c.args.slots.now = omega arith in
    record {
      filled = λ more. c.loop-place.invariant.fault more ∙ (rw (drop_all c.loop-place.place c.args.slots.now (omega arith)) refl);
      spelled = rw (← whole) c.loop-place.invariant.spelled;
    }

pub returns-clause-within : goal.returns-clause-within
returns-clause-within c =
    let whole : c.loop-place.place ≡ length c.args.slots.now = omega arith in
    can_stand_in (slot_place c.args.version c.args.kernels) c.args.slots.now Selector c.loop-place.values (λ i within. c.loop-place.invariant.within i (omega arith))
