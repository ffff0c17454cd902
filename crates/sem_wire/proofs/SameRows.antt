-- Rows are the same where each of their numbers is.
use Rattle.std.proofs.Common.{◌≡◌}
use Rattle.sem_wire.specs.declared.rows.Rows.{Rows}

pub same_rows : (r s : Rows) → r.tag ≡ s.tag → r.form ≡ s.form → r.vpe ≡ s.vpe → r.index ≡ s.index → r.after_index ≡ s.after_index → r.first ≡ s.first →
    r.second ≡ s.second
    → r.job ≡ s.job → r.kind ≡ s.kind → r.after_kind ≡ s.after_kind → r.main ≡ s.main → r.more ≡ s.more → r.last ≡ s.last → r.after_last ≡ s.after_last → r ≡ s
same_rows r s tag form vpe index after_index first second job kind after_kind main more last after_last = λ i. record {
  tag = tag i;
  form = form i;
  vpe = vpe i;
  index = index i;
  after_index = after_index i;
  first = first i;
  second = second i;
  job = job i;
  kind = kind i;
  after_kind = after_kind i;
  main = main i;
  more = more i;
  last = last i;
  after_last = after_last i;
}
