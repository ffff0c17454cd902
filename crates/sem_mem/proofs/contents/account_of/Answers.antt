use Rattle.std.proofs.Common.{◌≡◌, length, take, arith, sym, ◌∙◌, ap, subst}
use Rattle.std.proofs.lemmas.List.{length-take-le}
use Rattle.sem_machine.specs.Schedules.{world_after}
use Rattle.sem_kernel.specs.Worlds.{WorldValue}
use Rattle.sem_access.specs.Transfers.{transfer_of, access_by}
use Rattle.sem_access.proofs.Gathering.{no-accesses}
use Rattle.sem_mem.specs.Accounts.{IsAccount, IsAccountOf, IsAccountBefore}
use Rattle.sem_mem.proofs.Replaying.{next-enabled, next-world, next-runs, next-entries}
use Rattle.sem_mem.proofs.contents.account_of.Goals as goal

pub loop-place-init : goal.loop-place-init
loop-place-init c = record {
  world = c.in_ok-world.ensures;
  told = subst (λ xs. IsAccount xs c.new-account.result) (no-accesses c.args.setup.now) c.new-account.ensures;
}

pub advance-requires : goal.advance-requires
advance-requires c = next-enabled c.args.setup.now c.args.entries.now c.requires c.loop-place.place c.index-entries-place.result c.loop-place.world
    c.loop-place.invariant.world (omega arith) c.index-entries-place.is

pub after-requires-clause-schedule : goal.after-requires-clause-schedule
after-requires-clause-schedule c = next-runs c.args.setup.now c.args.entries.now c.requires c.loop-place.place c.index-entries-place.result c.loop-place.world
    c.loop-place.invariant.world (omega arith) c.index-entries-place.is

pub after-requires-clause-expected : goal.after-requires-clause-expected
after-requires-clause-expected c =
    let T = c.args.setup.now in
    let J = c.args.entries.now in
    let i = c.loop-place.place in
    let e = c.index-entries-place.result in
    let told = c.loop-place.invariant.told in
    let count : length (take i J) ≡ i = length-take-le i J (omega arith) in
    subst (IsAccountBefore T (take i J) e) (sym c.before-in-loop-place.ensures) (record {
      past = record { kept = told.kept; newer = told.newer; told = told.told };
      next = ap (λ (w : WorldValue). access_by w.setup w.world i (transfer_of e)) c.loop-place.invariant.world
          ∙ ap (λ n. access_by T (world_after T (take i J)) n (transfer_of e)) (sym count);
    })

pub loop-place-preserved : goal.loop-place-preserved
loop-place-preserved c =
    let T = c.args.setup.now in
    let J = c.args.entries.now in
    let i = c.loop-place.place in
    let e = c.index-entries-place.result in
    record {
      world = next-world T J c.requires i e c.loop-place.world c.loop-place.invariant.world (omega arith) c.index-entries-place.is c.advance.new.self
          c.in_ok-advance.ensures.ok;
      told = subst (λ K. IsAccountOf T K c.after.new.self) (next-entries T J c.requires i e c.loop-place.world c.loop-place.invariant.world
          (omega arith) c.index-entries-place.is) c.in_ok-after.ensures;
    }
