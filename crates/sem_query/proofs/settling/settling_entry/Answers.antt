use Rattle.std.proofs.Common.{◌≡◌, ℕ, ◌-◌, ◌<◌, List, length, take, get_or, Option, None, ap, ◌∙◌, subst, sym, arith}
use Rattle.std.proofs.lemmas.List.{get_or_default}
use Rattle.sem_msg.specs.declared.entry.Entry.{Entry}
use Rattle.sem_msg.specs.declared.state.Parked.{Parked}
use Rattle.sem_machine.specs.Schedules.{IsSchedule}
use Rattle.sem_query.specs.Denials.{IsLastCall}
use Rattle.sem_query.specs.Denials.Settles.{at_once}
use Rattle.sem_query.specs.Parking.{states_since, IsFirstPlace}
use Rattle.sem_query.proofs.Settlements.{front-runs, called-small, states-length, settles-there}
use Rattle.sem_query.proofs.settling.settling_entry.Goals as goal

pub returns-then-call-n-clause-settles : goal.returns-then-call-n-clause-settles
returns-then-call-n-clause-settles c = at_once (subst (IsLastCall c.args.journal.now.entries c.args.vpe c.args.n) c.if-call-n.true c.last_call-call.ensures)

pub states_since-requires-clause-schedule : goal.states_since-requires-clause-schedule
states_since-requires-clause-schedule c =
    subst (λ (J : List Entry). IsSchedule c.args.setup.now (take c.args.n J)) (sym c.as_slice.ensures)
    (front-runs c.args.setup.now c.keeps_its_rules.ensures c.args.journal.now.entries c.requires.schedule c.args.n c.requires.there)

pub states_since-requires-clause-vpe : goal.states_since-requires-clause-vpe
states_since-requires-clause-vpe c =
    called-small c.args.setup.now c.keeps_its_rules.ensures c.args.journal.now.entries c.requires.schedule c.args.vpe c.args.n
    c.requires.called

pub index-last-requires : goal.index-last-requires
index-last-requires c =
    let T = c.args.setup.now in
    let J = c.args.journal.now.entries in
    let b : ℕ = c.last_call-call.result in
    let early : b < c.args.n = let by = c.last_call-call.ensures.by_then in let other = c.if-call-n.false in omega (arith, by, other) in
    let items : c.in_ok-states.states.items ≡ states_since T (take c.args.n J) c.args.vpe b = c.in_ok-states.ensures
    ∙ ap (λ (K : List Entry). states_since T (take c.args.n K) c.args.vpe b) c.as_slice.ensures in
    let long = ap length items ∙ states-length T J c.args.vpe c.args.n b c.last_call-call.ensures early c.requires.there in
    omega (arith, early, long)

pub returns-clause-settles : goal.returns-clause-settles
returns-clause-settles c =
    let T = c.args.setup.now in
    let J = c.args.journal.now.entries in
    let v : ℕ = c.args.vpe in
    let n : ℕ = c.args.n in
    let b : ℕ = c.last_call-call.result in
    let early : b < n = let by = c.last_call-call.ensures.by_then in let other = c.if-call-n.false in omega (arith, by, other) in
    let items : c.in_ok-states.states.items ≡ states_since T (take n J) v b = c.in_ok-states.ensures
    ∙ ap (λ (K : List Entry). states_since T (take n K) v b) c.as_slice.ensures in
    let within : n - b - 1 < length (states_since T (take n J) v b) = let long = states-length T J v n b c.last_call-call.ensures early c.requires.there in
    omega (arith, early, long) in
    let last : c.index-last.result.now ≡ get_or (states_since T (take n J) v b) (n - b - 1) None =
    c.index-last.ensures ∙ (ap (λ (xs : List (Option Parked)). get_or xs (n - b - 1) c.index-last.result.now) items
    ∙ get_or_default (states_since T (take n J) v b) (n - b - 1) c.index-last.result.now None within) in
    let place : IsFirstPlace (states_since T (take n J) v b) c.index-last.result.now c.first_place.result =
    subst (λ (xs : List (Option Parked)). IsFirstPlace xs c.index-last.result.now c.first_place.result) (c.deref.ensures.value
    ∙ items) c.first_place.ensures in
    settles-there T J v n b c.last_call-call.ensures early c.requires.there c.index-last.result.now last c.first_place.result place
