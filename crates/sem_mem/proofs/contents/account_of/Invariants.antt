use Rattle.std.proofs.Common.{◌≡◌, take}
use Rattle.sem_machine.specs.Schedules.{world_after}
use Rattle.sem_mem.specs.Accounts.{IsAccountOf}
use Rattle.sem_mem.proofs.contents.account_of.Given as goal

-- the world after the first entries, and their account
abbrev pub invariant-loop-place : goal.invariant-loop-place
invariant-loop-place l = record {
  world : l.world ≡ record { setup = l.setup; world = world_after l.setup (take l.place l.entries) };
  told : IsAccountOf l.setup (take l.place l.entries) l.account;
}
