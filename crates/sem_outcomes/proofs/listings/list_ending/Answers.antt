use Rattle.std.proofs.Common.{◌≡◌, ◌≢◌, ◌∷◌, ◌++◌, [], ◌∙◌, List, sym, ap, subst, arith}
use Rattle.std.specs.List.{All}
use Rattle.std.proofs.lemmas.List.{length-map}
use Rattle.std.proofs.lemmas.Option.{slice_get_within}
use Rattle.sem_histories.specs.Outcomes.{outcome}
use Rattle.sem_histories.specs.Listing.{Witness, witness_of}
use Rattle.sem_histories.specs.declared.witnesses.Listed.{Listed}
use Rattle.sem_outcomes.specs.Endings.{ListsEndings}
use Rattle.sem_outcomes.proofs.Listing.{listed-few, endings-again-at, endings-first-at}
use Rattle.sem_outcomes.proofs.listings.list_ending.Goals as goal

pub overflow_add-index_mut : goal.overflow_add-index_mut
overflow_add-index_mut c =
    let there = rw c.as_slice-2.ensures.value at c.in-Some.ensures.there in
    let mapped = slice_get_within _ c.in-Some.place _ there in
    let long = length-map c.args.found.now.items (λ (l : Listed). l.witness.outcome) in
    let few =
    listed-few c.args.setup.now c.args.found.now.items c.requires.few c.in-Some.place c.index_mut.result.now
    (omega (arith, mapped, long)) c.index_mut.ensures.value in
    omega (arith, few)

pub returns-in-Some : goal.returns-in-Some
returns-in-Some c =
    let T = c.args.setup.now in
    let own = c.in_ok-outcome.ensures ∙ ap (outcome T) (c.as_slice.ensures ∙ c.into_journal-journal.ensures) in
    endings-again-at T c.args.fabric.journal c.args.found.now.items c.requires.complete c.in-Some.place c.index_mut.result.now c.in_ok-outcome.outcome
    c.index_mut.ensures.value (rw c.as_slice-2.ensures.value at c.in-Some.ensures.there) own

pub returns-in_ok-push-in-None : goal.returns-in_ok-push-in-None
returns-in_ok-push-in-None c = λ V is.
    let T = c.args.setup.now in
    let J = c.args.fabric.journal in
    let journal : c.into_journal-journal.result.entries ≡ J = c.into_journal-journal.ensures in
    let own : c.in_ok-outcome.outcome ≡ outcome T J = c.in_ok-outcome.ensures ∙ ap (outcome T) (c.as_slice.ensures ∙ journal) in
    let w : Witness = record { journal = c.into_journal-journal.result.entries; outcome = c.in_ok-outcome.outcome } in
    let made : w ≡ witness_of T J = λ k. record { journal = journal k; outcome = own k } in
    let none = subst (λ (xs : List Listed). All (λ (l : Listed). l.witness.outcome ≢ c.in_ok-outcome.outcome) xs) c.as_slice-2.ensures.value
    c.in-None.ensures.none in
    subst (ListsEndings T (V ++ J ∷ [])) (sym c.in_ok-push-in-None.ensures.items)
    (endings-first-at T J c.args.found.now.items c.requires.complete w made none V is)
