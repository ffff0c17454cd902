use Rattle.std.proofs.Common.{◌≡◌, ◌+◌, ◌<◌, List, map, take, length, sym, ap, subst, ◌∙◌}
use Rattle.std.proofs.lemmas.List.{take_all}
use Rattle.sem_key.specs.KeyList.{key_set}
use Rattle.sem_msg.specs.declared.entry.Entry.{Entry}
use Rattle.sem_machine.specs.Machine.{start}
use Rattle.sem_machine.specs.Schedules.{world_after}
use Rattle.sem_kernel.specs.Worlds.{WorldValue}
use Rattle.sem_machine.specs.Journals.{made}
use Rattle.sem_query.specs.Building.{life_so_far}
use Rattle.sem_query.proofs.Begin.{lives-are}
use Rattle.sem_query.specs.MarkedKeys.{AreAllMarked}
use Rattle.sem_query.proofs.Built.{next-lives, next-entry}
use Rattle.sem_query.proofs.Following.{none-marked}
use Rattle.sem_query.proofs.StatesSince.{next-enabled, next-world}
use Rattle.sem_query.proofs.builds.follow_all.Goals as goal

pub follow-requires-clause-enabled : goal.follow-requires-clause-enabled
follow-requires-clause-enabled c =
    let within : c.loop-place.place < length c.args.entries.now = c.loop-place-test.true in
    next-enabled c.args.setup.now c.args.entries.now c.requires.schedule c.loop-place.place c.index-entries-place.result c.loop-place.world
    c.loop-place.invariant.world within c.index-entries-place.is

pub follow-requires-clause-world : goal.follow-requires-clause-world
follow-requires-clause-world c = ap (λ (w : WorldValue). w.setup) c.loop-place.invariant.world

pub follow-requires-clause-next : goal.follow-requires-clause-next
follow-requires-clause-next c =
    let within : c.loop-place.place < length c.args.entries.now = c.loop-place-test.true in
    next-entry c.args.setup.now c.requires.setup c.args.entries.now c.requires.schedule c.loop-place.place c.index-entries-place.result within
    c.index-entries-place.is c.loop-place.world c.loop-place.invariant.world

pub follow-requires-clause-marked : goal.follow-requires-clause-marked
follow-requires-clause-marked c = subst (λ (w : WorldValue). AreAllMarked c.args.setup.now w.world c.loop-place.marked.items)
    (sym c.loop-place.invariant.world) c.loop-place.invariant.marked

pub loop-place-init : goal.loop-place-init
loop-place-init c = record {
  world = c.requires.start;
  lives = c.requires.index;
  marked = subst (AreAllMarked c.args.setup.now (start c.args.setup.now)) (sym c.new-marked.ensures.items) (none-marked c.args.setup.now);
}

pub loop-place-preserved : goal.loop-place-preserved
loop-place-preserved c =
    let T = c.args.setup.now in
    let J = c.args.entries.now in
    let i = c.loop-place.place in
    let e = c.index-entries-place.result in
    let within : i < length J = c.loop-place-test.true in
    let next : c.follow.new.world ≡ record { setup = T; world = world_after T (take (i + 1) J) } =
    next-world T J c.requires.schedule i e c.loop-place.world c.loop-place.invariant.world within c.index-entries-place.is c.follow.new.world
    c.in_ok-follow.ensures.world in
    record {
      world = next;
      marked = subst (λ (w : WorldValue). AreAllMarked T w.world c.follow.new.marked.items) next c.in_ok-follow.ensures.marked;
      lives = next-lives T c.requires.setup J c.requires.schedule i e within c.index-entries-place.is c.loop-place.world c.loop-place.invariant.world
          (key_set (made T J)) c.loop-place.index c.follow.new.index c.loop-place.invariant.lives c.in_ok-follow.ensures.index;
    }

pub returns : goal.returns
returns c =
    let T = c.args.setup.now in
    let J = c.args.entries.now in
    c.loop-place.invariant.lives
    ∙ (ap (λ (K : List Entry). map (life_so_far T K) (key_set (made T J))) (take_all c.loop-place.place J c.loop-place-test.false)
    ∙ lives-are T c.requires.setup J c.requires.schedule)
