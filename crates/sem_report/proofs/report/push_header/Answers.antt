use Rattle.std.proofs.Common.{◌≡◌, ℕ, [], ◌∷◌, ◌++◌, codes, decimal, OnOk, ap, subst, ◌∙◌}
use Rattle.sem_msg.specs.Setup.{Setup}
use Rattle.sem_text.specs.Lines.{line}
use Rattle.sem_report.proofs.report.push_header.Goals as goal

pub returns : goal.returns
returns c =
    let version : c.from.result ≡ c.args.setup.now.version = c.from.ensures ∙ ap (λ (T : Setup). T.version) c.setup.view_is in
    record {
      ok = subst (λ (v : ℕ). OnOk c.push_line.result (c.push_line.new.out.items ≡ c.args.out.now.items ++ line (codes "semper report" ∷ decimal v ∷ [])))
          version c.push_line.ensures.ok;
    }
