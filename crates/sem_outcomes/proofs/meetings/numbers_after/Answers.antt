use Rattle.std.proofs.Common.{arith, [], ◌∙◌, ap, List, ℕ, length, get_or, sym, subst, ◌<◌}
use Rattle.std.proofs.lemmas.List.{get_or_read}
use Rattle.sem_outcomes.specs.Met.{HistoriesValue}
use Rattle.sem_outcomes.proofs.Meeting.{own-number}
use Rattle.sem_outcomes.proofs.meetings.numbers_after.Goals as goal

pub index-from-requires : goal.index-from-requires
index-from-requires c =
    let less = own-number c.args.setup.now c.args.histories.now _ c.histories.view_is c.requires.met c.args.at c.requires.at c.args.event c.requires.enabled in
    let long = ap length (c.in_ok-numbers.ensures ∙ ap (λ (g : HistoriesValue). get_or g.numbers c.args.at []) c.histories.view_is) in
    omega (arith, less, long, c.in_ok-numbers.numbers.ok.0)

pub part_after-requires-clause-from : goal.part_after-requires-clause-from
part_after-requires-clause-from c =
    let less = own-number c.args.setup.now c.args.histories.now _ c.histories.view_is c.requires.met c.args.at c.requires.at c.args.event c.requires.enabled in
    let same = c.in_ok-numbers.ensures ∙ ap (λ (g : HistoriesValue). get_or g.numbers c.args.at []) c.histories.view_is in
    let within = subst (λ (ns : List ℕ). c.args.event.kernel < length ns) (sym same) less in
    get_or_read c.in_ok-numbers.numbers.items _ _ within c.index-from.ensures 0 ∙ ap (λ (ns : List ℕ). get_or ns c.args.event.kernel 0) same

pub index_mut-requires : goal.index_mut-requires
index_mut-requires c =
    let less = own-number c.args.setup.now c.args.histories.now _ c.histories.view_is c.requires.met c.args.at c.requires.at c.args.event c.requires.enabled in
    let long = ap length (c.in_ok-numbers.ensures ∙ ap (λ (g : HistoriesValue). get_or g.numbers c.args.at []) c.histories.view_is) in
    omega (arith, less, long, c.in_ok-numbers.numbers.ok.0)
