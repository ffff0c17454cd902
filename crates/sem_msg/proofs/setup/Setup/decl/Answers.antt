use Rattle.std.proofs.Common.{◌≡◌, ◌<◌, sym, ◌∙◌, ap, rules}
use Rattle.std.specs.Prelude.{AllPairs, length}
use Rattle.std.proofs.lemmas.List.Sorted.{answers_always}
use Rattle.sem_msg.specs.declared.setup.VpeDecl.{VpeDecl}
use Rattle.sem_msg.specs.Setup.{Setup}
use Rattle.sem_msg.proofs.FoundDecls.{IsDeclAt, searched, found, guessed}
use Rattle.sem_msg.proofs.setup.Setup.decl.Goals as goal

-- no declaration is of that VPE
pub returns-in_err-at-clause-decl : goal.returns-in_err-at-clause-decl
returns-in_err-at-clause-decl c =
    let facts = c.binary_search_by_key.ensures in
    let by_vpe = facts.position (λ (d : VpeDecl). d.vpe) (answers_always _ _ _ (λ f a r g called. search rules)) in
    let vpes : c.args.self.now.vpes ≡ c.as_slice-decls.result.now = sym (ap (λ (T : Setup). T.vpes) c.self.view_is) ∙ sym c.as_slice-decls.ensures in
    let parts = searched c.as_slice-decls.result.now (rw c.as_slice-decls.ensures c.self.invariant.vpes_rise) c.args.vpe _ facts.bound by_vpe in
    rw (c.from_residual.ensures, vpes) (sym (parts.absent (sym c.ok.ensures.value ∙ c.in_err-at.was)))

-- the one in its place is
pub returns-clause-decl : goal.returns-clause-decl
returns-clause-decl c =
    let facts = c.binary_search_by_key.ensures in
    let by_vpe = facts.position (λ (d : VpeDecl). d.vpe) (answers_always _ _ _ (λ f a r g called. search rules)) in
    let vpes : c.args.self.now.vpes ≡ c.as_slice-decls.result.now = sym (ap (λ (T : Setup). T.vpes) c.self.view_is) ∙ sym c.as_slice-decls.ensures in
    let rise : AllPairs (λ (a b : VpeDecl). a.vpe < b.vpe) c.as_slice-decls.result.now = rw c.as_slice-decls.ensures c.self.invariant.vpes_rise in
    let parts = searched c.as_slice-decls.result.now rise c.args.vpe _ facts.bound by_vpe in
    let place : IsDeclAt c.as_slice-decls.result.now c.args.vpe c.in_ok-at.at = rw (sym c.ok.ensures.value ∙ c.in_ok-at.was) at parts.place in
    rw vpes (sym (found c.as_slice-decls.result.now rise c.args.vpe c.in_ok-at.at c.index-decls-at.result place c.index-decls-at.is))

-- the one at the number of the VPE is, if it is of that VPE
pub returns-then-decls-guess-clause-decl : goal.returns-then-decls-guess-clause-decl
returns-then-decls-guess-clause-decl c =
    let vpes : c.args.self.now.vpes ≡ c.as_slice-decls.result.now = sym (ap (λ (T : Setup). T.vpes) c.self.view_is) ∙ sym c.as_slice-decls.ensures in
    let rise : AllPairs (λ (a b : VpeDecl). a.vpe < b.vpe) c.as_slice-decls.result.now = rw c.as_slice-decls.ensures c.self.invariant.vpes_rise in
    let within : c.args.vpe < length c.as_slice-decls.result.now = search rules in
    let same : c.index-decls-guess.result.vpe ≡ c.args.vpe = search rules in
    rw vpes (sym (guessed c.as_slice-decls.result.now rise c.args.vpe c.args.vpe c.index-decls-guess.result c.index-decls-guess-then-decls-guess.result within
    c.index-decls-guess.is same c.index-decls-guess-then-decls-guess.is))
