use Rattle.std.proofs.Common.{◌≡◌, ℕ, ◌<◌, [], length, get_or, ◌∙◌, arith}
use Rattle.std.proofs.lemmas.List.{get_or_default}
use Rattle.sem_files.proofs.tables.Tables.open_file.Goals as goal

pub returns : goal.returns
returns c =
    let v : ℕ = c.args.client in
    let within : v < length c.args.self.now.handles = omega (arith, c.requires.client.1) in
    let here : get_or c.args.self.now.handles v c.index-self-from.result ≡ get_or c.args.self.now.handles v [] =
    get_or_default c.args.self.now.handles v c.index-self-from.result [] within in
    c.file.ensures ∙ (rw (c.from.ensures, here) ((c.requires.tells.open' v c.requires.client.1).1 c.args.handle c.requires.handle))
