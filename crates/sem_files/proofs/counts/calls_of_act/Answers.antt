use Rattle.std.proofs.Common.{◌≡◌, inl, inr, length, arith, sym, ◌∙◌}
use Rattle.sem_files.specs.Compiled.{calls_of_act}
use Rattle.sem_files.proofs.PartCalls.{each-once}
use Rattle.sem_files.proofs.counts.calls_of_act.Goals as goal

pub returns-in-OpenFile : goal.returns-in-OpenFile
returns-in-OpenFile c = record {
  number = c.from.ensures ∙ elim c.in-OpenFile.is as (λ is. c.args.extents ≡ length (calls_of_act c.args.extents c.args.act.now)) [
    | inl (handle, file, is) ↦ rw is (sym (each-once _ c.args.extents))
    | inr (inl (handle, to, other, is)) ↦ rw is (sym (each-once _ c.args.extents))
    | inr (inr (handle, is)) ↦ rw is (sym (each-once _ c.args.extents))
  ];
  few = omega (arith, c.from.ensures);
}
