use Rattle.std.proofs.Common.{◌≡◌, ◌∙◌, is_some, rules}
use Rattle.std.specs.Prelude.{count_by}
use Rattle.sem_audit.proofs.Upwards.{replied-count}
use Rattle.sem_audit.proofs.strays.answered.Goals as goal

pub returns : goal.returns
returns c =
    let counted : c.count.result ≡ count_by (λ e. is_some e.reply) c.args.journal.now.entries = search rules in
    counted ∙ replied-count c.args.journal.now.entries
