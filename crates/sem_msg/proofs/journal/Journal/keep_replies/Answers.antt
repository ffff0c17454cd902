use Rattle.std.proofs.Common.{is_some, filter, ap, rules, ◌∙◌}
use Rattle.std.proofs.lemmas.Fn.{filter_same}
use Rattle.sem_msg.specs.declared.entry.Entry.{Entry}
use Rattle.sem_msg.specs.Journal.{JournalList}
use Rattle.sem_msg.proofs.journal.Journal.keep_replies.Goals as goal

pub returns-clause-entries : goal.returns-clause-entries
returns-clause-entries c =
    filter_same _ (λ (e : Entry). is_some e.reply) _ (λ e b f' k. search rules) _ _ c.retain.ensures.filtered
    ∙ ap (λ (j : JournalList). filter (λ (e : Entry). is_some e.reply) j.entries) c.self.view_is
