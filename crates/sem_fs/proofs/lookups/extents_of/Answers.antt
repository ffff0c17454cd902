use Rattle.std.proofs.Common.{◌≡◌, ℕ, ◌≤◌, List, ap, sym, subst, ◌∙◌}
use Rattle.sem_files.specs.declared.files.FileDecl.{FileDecl}
use Rattle.sem_files.specs.Files.{Files, extents_of}
use Rattle.sem_files.specs.Compiled.{AreFiles}
use Rattle.sem_fs.specs.Extents.{extents_among}
use Rattle.sem_fs.proofs.Rising.{few-extents}
use Rattle.sem_fs.proofs.lookups.extents_of.Goals as goal

pub returns-clause-few : goal.returns-clause-few
returns-clause-few c =
    let few : extents_of c.args.files.now c.args.file ≤ 4 = few-extents c.args.files.now (subst AreFiles c.files.view_is c.files.invariant) c.args.file in
    let is : c.extents_in.result ≡ extents_of c.args.files.now c.args.file = c.extents_in.ensures
    ∙ ap (λ (ds : List FileDecl). extents_among ds c.args.file) (c.as_slice.ensures ∙ ap (λ (F : Files). F.files) c.files.view_is) in
    subst (λ (n : ℕ). n ≤ 4) (sym is) few
