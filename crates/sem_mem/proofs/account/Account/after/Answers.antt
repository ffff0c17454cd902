use Rattle.std.proofs.Common.{Result, Ok, Err}
use Rattle.std.specs.Prelude.{OnOk}
use Rattle.sem_mem.specs.declared.account.Account.{Account}
use Rattle.sem_mem.proofs.Accounting.{account-same, account-next, next-fits, next-newer}
use Rattle.sem_mem.proofs.account.Account.after.Goals as goal

-- three facts after success give a fourth
on-ok : {V E A B C D : Type 0} (r : Result V E) → (A → B → C → D) → OnOk r A → OnOk r B → OnOk r C → OnOk r D
on-ok (Ok v) f a b c = f a b c
on-ok (Err e) f a b c = tt

pub take_in-requires-clause-fits : goal.take_in-requires-clause-fits
take_in-requires-clause-fits c = next-fits c.args.setup.now c.keeps_its_rules.ensures c.args.past.now c.args.entry.now
    c.requires.schedule c.args.self.now c.requires.expected c.in-Some.access c.in-Some.is

pub take_in-requires-clause-newer : goal.take_in-requires-clause-newer
take_in-requires-clause-newer c = next-newer c.args.setup.now c.keeps_its_rules.ensures c.args.past.now c.args.entry.now
    c.requires.schedule c.args.self.now c.requires.expected c.in-Some.access c.in-Some.is

pub returns-in-Some : goal.returns-in-Some
returns-in-Some c =
    let new : Account = record { memory = c.take_in.new.memory; lines = c.take_in.new.out; next = c.args.self.now.next } in
    on-ok c.take_in.result
    (account-next c.args.setup.now c.keeps_its_rules.ensures c.args.past.now c.args.entry.now c.requires.schedule c.args.self.now
    c.requires.expected c.in-Some.access c.in-Some.is new)
    c.take_in.ensures.memory c.take_in.ensures.newest c.take_in.ensures.text

pub returns-in-None : goal.returns-in-None
returns-in-None c = account-same c.args.setup.now c.keeps_its_rules.ensures c.args.past.now c.args.entry.now c.requires.schedule
    c.args.self.now c.requires.expected c.in-None.is
