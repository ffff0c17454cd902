use Rattle.std.proofs.Common.{◌≡◌, length, sym, ◌∙◌}
use Rattle.std.proofs.lemmas.List.{length-map}
use Rattle.sem_msg.specs.declared.audit.Held.{Held}
use Rattle.sem_msg.specs.Audits.{held_pairs}
use Rattle.sem_report.proofs.LinesJoined.{OnOk-then, text-audit}
use Rattle.sem_report.proofs.report.push_audit.Goals as goal

pub returns : goal.returns
returns c =
    let count : c.len.result ≡ length (held_pairs c.args.audit.now.held) = c.len.ensures
    ∙ sym (length-map c.args.audit.now.held (λ (h : Held). (h.key, h.sel))) in
    record {
      ok = OnOk-then c.push_line-5.result c.push_line-5.ensures.ok
          (text-audit c.args.audit.now.made c.args.audit.now.cut (held_pairs c.args.audit.now.held) _ _ _ _ _ _ _ c.in_ok-push_line.ensures.ok
          c.in_ok-push_line-2.ensures.ok c.in_ok-push_line-3.ensures.ok (rw count at c.in_ok-push_line-4.ensures.ok) c.in_ok-push_all_held.ensures.ok);
    }
