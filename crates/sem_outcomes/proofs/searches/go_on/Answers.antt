use Rattle.std.proofs.Common.{arith, List, length, sym, ◌∙◌, ap}
use Rattle.std.specs.Vec.{vec_len}
use Rattle.std.proofs.lemmas.Bool.{eqb-true, eqb-false}
use Rattle.std.proofs.lemmas.List.{nil_from_length}
use Rattle.std.proofs.lemmas.Result.{on_ok_weaker}
use Rattle.sem_machine.specs.Machine.{enabled}
use Rattle.sem_kernel.specs.KernelValue.{KernelValue}
use Rattle.sem_kernel.specs.Worlds.{world_of}
use Rattle.sem_outcomes.specs.declared.steps.Step.{Step}
use Rattle.sem_outcomes.specs.Met.{journal_at}
use Rattle.sem_outcomes.proofs.GoingOn.{some-elements, is-complete, each-enabled, ended-search, ended-listed, went-search, went-listed}
use Rattle.sem_outcomes.proofs.searches.go_on.Goals as goal

pub list_ending-requires-clause-complete : goal.list_ending-requires-clause-complete
list_ending-requires-clause-complete c =
    let T = c.args.setup.now in
    let ks = c.in_ok-kernels.kernels.items in
    let f = c.in_ok-kernels.fabric in
    let out = c.enabled_events.new.out in
    let entered = c.in_ok-kernels.ensures.journal ∙ ap (λ (ss : List Step). journal_at T ss c.args.at) c.as_slice.ensures.value in
    let all = c.in_ok-enabled_events.ensures.ok ∙ ap (λ (ls : List KernelValue). enabled T (world_of ls f)) c.as_slice-2.ensures.value in
    let zero = eqb-true (vec_len out) 0 (sym c.is_empty.ensures ∙ c.if-is_empty.true) in
    let none = nil_from_length out.items (omega (arith, zero, out.ok.0)) in
    is-complete T c.args.limit c.args.at c.args.histories.now _ c.histories.view_is c.requires.search c.requires.at ks f c.in_ok-kernels.ensures.stand entered
    out.items all none c.keeps_its_rules.ensures

pub returns-then-is_empty-clause-search : goal.returns-then-is_empty-clause-search
returns-then-is_empty-clause-search c =
    let T = c.args.setup.now in
    let ks = c.in_ok-kernels.kernels.items in
    let f = c.in_ok-kernels.fabric in
    let out = c.enabled_events.new.out in
    let entered = c.in_ok-kernels.ensures.journal ∙ ap (λ (ss : List Step). journal_at T ss c.args.at) c.as_slice.ensures.value in
    let all = c.in_ok-enabled_events.ensures.ok ∙ ap (λ (ls : List KernelValue). enabled T (world_of ls f)) c.as_slice-2.ensures.value in
    let zero = eqb-true (vec_len out) 0 (sym c.is_empty.ensures ∙ c.if-is_empty.true) in
    let none = nil_from_length out.items (omega (arith, zero, out.ok.0)) in
    ended-search T c.args.limit c.args.at c.args.histories.now _ c.histories.view_is c.requires.search c.requires.at ks f c.in_ok-kernels.ensures.stand entered
    out.items all none

pub returns-then-is_empty-clause-listed : goal.returns-then-is_empty-clause-listed
returns-then-is_empty-clause-listed c =
    let T = c.args.setup.now in
    let ks = c.in_ok-kernels.kernels.items in
    let f = c.in_ok-kernels.fabric in
    let out = c.enabled_events.new.out in
    let entered = c.in_ok-kernels.ensures.journal ∙ ap (λ (ss : List Step). journal_at T ss c.args.at) c.as_slice.ensures.value in
    let all = c.in_ok-enabled_events.ensures.ok ∙ ap (λ (ls : List KernelValue). enabled T (world_of ls f)) c.as_slice-2.ensures.value in
    let zero = eqb-true (vec_len out) 0 (sym c.is_empty.ensures ∙ c.if-is_empty.true) in
    let none = nil_from_length out.items (omega (arith, zero, out.ok.0)) in
    ended-listed T c.args.limit c.args.at c.args.histories.now _ c.histories.view_is c.requires.search c.requires.at ks f c.in_ok-kernels.ensures.stand entered
    out.items all none c.args.found.now.items c.list_ending.new.found.items c.requires.listed c.in_ok-list_ending.ensures

pub meet_all-requires-clause-enabled : goal.meet_all-requires-clause-enabled
meet_all-requires-clause-enabled c =
    let T = c.args.setup.now in
    let ks = c.in_ok-kernels.kernels.items in
    let f = c.in_ok-kernels.fabric in
    let out = c.enabled_events.new.out in
    let entered = c.in_ok-kernels.ensures.journal ∙ ap (λ (ss : List Step). journal_at T ss c.args.at) c.as_slice.ensures.value in
    let all = c.in_ok-enabled_events.ensures.ok ∙ ap (λ (ls : List KernelValue). enabled T (world_of ls f)) c.as_slice-2.ensures.value in
    each-enabled T c.args.limit c.args.at c.args.histories.now _ c.histories.view_is c.requires.search c.requires.at ks f c.in_ok-kernels.ensures.stand entered
    c.as_slice-3.result.now (c.as_slice-3.ensures.value ∙ all)

pub returns-clause-search : goal.returns-clause-search
returns-clause-search c =
    let T = c.args.setup.now in
    let ks = c.in_ok-kernels.kernels.items in
    let f = c.in_ok-kernels.fabric in
    let out = c.enabled_events.new.out in
    let entered = c.in_ok-kernels.ensures.journal ∙ ap (λ (ss : List Step). journal_at T ss c.args.at) c.as_slice.ensures.value in
    let all = c.in_ok-enabled_events.ensures.ok ∙ ap (λ (ls : List KernelValue). enabled T (world_of ls f)) c.as_slice-2.ensures.value in
    let long = ap length c.as_slice-3.ensures.value in
    let some = some-elements c.as_slice-3.result.now
    (λ same. eqb-false (vec_len out) 0 (sym c.is_empty.ensures ∙ c.if-is_empty.false) (omega (arith, same, long, out.ok.0))) in
    on_ok_weaker c.meet_all.result (λ more. went-search T c.args.limit c.args.at c.args.histories.now _ c.histories.view_is c.requires.search c.requires.at ks f
    c.in_ok-kernels.ensures.stand entered
    c.as_slice-3.result.now (c.as_slice-3.ensures.value ∙ all) some c.meet_all.new.histories more) c.meet_all.ensures.met

pub returns-clause-listed : goal.returns-clause-listed
returns-clause-listed c =
    let T = c.args.setup.now in
    let ks = c.in_ok-kernels.kernels.items in
    let f = c.in_ok-kernels.fabric in
    let out = c.enabled_events.new.out in
    let entered = c.in_ok-kernels.ensures.journal ∙ ap (λ (ss : List Step). journal_at T ss c.args.at) c.as_slice.ensures.value in
    let all = c.in_ok-enabled_events.ensures.ok ∙ ap (λ (ls : List KernelValue). enabled T (world_of ls f)) c.as_slice-2.ensures.value in
    let long = ap length c.as_slice-3.ensures.value in
    let some = some-elements c.as_slice-3.result.now
    (λ same. eqb-false (vec_len out) 0 (sym c.is_empty.ensures ∙ c.if-is_empty.false) (omega (arith, same, long, out.ok.0))) in
    on_ok_weaker c.meet_all.result (λ more. went-listed T c.args.limit c.args.at c.args.histories.now _ c.histories.view_is c.requires.search c.requires.at ks f
    c.in_ok-kernels.ensures.stand entered
    c.as_slice-3.result.now (c.as_slice-3.ensures.value ∙ all) some c.meet_all.new.histories more c.args.found.now.items c.requires.listed)
    c.meet_all.ensures.met
