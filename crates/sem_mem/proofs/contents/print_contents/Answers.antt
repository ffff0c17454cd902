use Rattle.std.proofs.Common.{◌≡◌, List, ◌++◌, length, ◌∙◌, ap, subst}
use Rattle.sem_msg.specs.Setup.{Setup}
use Rattle.sem_msg.specs.declared.entry.Entry.{Entry}
use Rattle.sem_text.specs.Lines.{text}
use Rattle.sem_access.specs.Accesses.{accesses}
use Rattle.sem_access.specs.ContentsText.{access_lines}
use Rattle.sem_mem.specs.Accounts.{IsAccountOf}
use Rattle.sem_mem.proofs.Ordering.{all-before}
use Rattle.sem_mem.proofs.Telling.{appended}
use Rattle.sem_mem.proofs.contents.print_contents.Goals as goal

pub returns-clause-ok : goal.returns-clause-ok
returns-clause-ok c =
    let T : Setup = c.args.setup.now in
    let J : List Entry = c.args.journal.now.entries in
    let account = c.in_ok-account.account in
    let is : IsAccountOf T J account = subst (λ K. IsAccountOf T K account) c.as_slice.ensures c.in_ok-account.ensures in
    let told : c.push_contents.new.out.items ≡ c.new-told.result.items ++ text (access_lines (accesses T J) (length J)) =
    c.in_ok-push_contents.ensures (accesses T J) (length J) is (all-before T J) in
    let bytes : c.deref.result.now ≡ text (access_lines (accesses T J) (length J)) =
    c.deref.ensures.value ∙ (told ∙ ap (λ bs. bs ++ text (access_lines (accesses T J) (length J))) c.new-told.ensures.items) in
    appended c.extend_from_slice.result c.args.out.now.items c.deref.result.now (text (access_lines (accesses T J) (length J)))
    c.extend_from_slice.new.self.items bytes c.extend_from_slice.ensures.items
