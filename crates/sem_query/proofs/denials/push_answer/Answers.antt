use Rattle.std.proofs.Common.{◌≡◌, ℕ, ◌<◌, ◌++◌, List, length, get_or, slice_get, Some, refl, sym, ap, ◌∙◌, arith, rules}
use Rattle.std.specs.Prelude.{OnOk}
use Rattle.std.proofs.lemmas.Option.{slice_get_within, slice_get_read}
use Rattle.std.proofs.lemmas.Result.{on_ok_weaker}
use Rattle.sem_msg.specs.declared.entry.Entry.{Entry}
use Rattle.sem_query.specs.Denials.{denied_line, none_line}
use Rattle.sem_query.specs.Denials.IsDenied.{denied, not_denied}
use Rattle.sem_query.proofs.Replied.{reply-called}
use Rattle.sem_query.proofs.ReplyCodes.{reply-small}
use Rattle.sem_query.proofs.denials.push_answer.Goals as goal

pub returns-in_default : goal.returns-in_default
returns-in_default c =
    let written : OnOk c.extend_from_slice.result (c.extend_from_slice.new.self.items ≡ c.args.out.now.items ++ none_line) = search rules in
    on_ok_weaker {P = c.extend_from_slice.new.self.items ≡ c.args.out.now.items ++ none_line} c.extend_from_slice.result
    (λ is. (none_line, not_denied c.in_default.ensures, is)) written

pub settling_entry-requires-clause-called : goal.settling_entry-requires-clause-called
settling_entry-requires-clause-called c =
    let denies = c.in-Some.ensures in
    reply-called c.args.setup.now c.keeps_its_rules.ensures c.args.journal.now.entries c.requires c.args.n denies.0 c.in-Some.reply
    denies.1 denies.2

pub settling_entry-requires-clause-there : goal.settling_entry-requires-clause-there
settling_entry-requires-clause-there c = let denies = c.in-Some.ensures in slice_get_within c.args.journal.now.entries c.args.n denies.0 denies.1

pub bounds-as_slice-place : goal.bounds-as_slice-place
bounds-as_slice-place c =
    let denies = c.in-Some.ensures in
    let there = slice_get_within c.args.journal.now.entries c.args.n denies.0 denies.1 in
    let by = c.in_ok-place.ensures.by_then in
    omega (arith, there, by, ap length c.as_slice.ensures)

pub code_of-requires : goal.code_of-requires
code_of-requires c =
    let denies = c.in-Some.ensures in
    reply-small c.args.setup.now c.keeps_its_rules.ensures c.args.journal.now.entries c.requires c.args.n denies.0 denies.1
    c.in-Some.reply denies.2

pub returns : goal.returns
returns c =
    let J = c.args.journal.now.entries in
    let denies = c.in-Some.ensures in
    let there = slice_get_within J c.args.n denies.0 denies.1 in
    let within : c.in_ok-place.place < length J = let by = c.in_ok-place.ensures.by_then in omega (arith, there, by) in
    let is : c.index-as_slice-place.result ≡ get_or J c.in_ok-place.place c.index-as_slice-place.result = c.index-as_slice-place.is
    ∙ ap (λ (es : List Entry). get_or es c.in_ok-place.place c.index-as_slice-place.result) c.as_slice.ensures in
    let at : slice_get J c.in_ok-place.place ≡ Some c.index-as_slice-place.result =
    slice_get_read J (length J) c.in_ok-place.place c.index-as_slice-place.result refl within is in
    let text : List ℕ = denied_line c.code_of.result c.in_ok-place.place c.index-as_slice-place.result in
    on_ok_weaker {P = c.push_denial.new.out.items ≡ c.args.out.now.items ++ text} c.push_denial.result
    (λ written. (
      text,
      denied c.in-Some.reply c.code_of.result c.in_ok-place.place c.index-as_slice-place.result denies (sym c.code_of.ensures) c.in_ok-place.ensures.settles
          at,
      written,
    ))
    c.push_denial.ensures
