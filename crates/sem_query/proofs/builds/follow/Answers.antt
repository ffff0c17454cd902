use Rattle.std.proofs.Common.{◌≡◌, sym, ap, subst, ◌∙◌}
use Rattle.std.proofs.lemmas.Result.{on_ok_weaker}
use Rattle.sem_msg.specs.Setup.{Setup}
use Rattle.sem_machine.specs.Machine.{World, after}
use Rattle.sem_kernel.specs.Worlds.{WorldValue}
use Rattle.sem_query.specs.MarkedKeys.{AreAllMarked}
use Rattle.sem_query.proofs.Following.{follows-marked, follows-lives}
use Rattle.sem_query.proofs.builds.follow.Goals as goal

pub token_of-token-requires : goal.token_of-token-requires
token_of-token-requires c = subst (AreAllMarked c.args.setup.now c.args.world.now.world) (sym c.deref.ensures.value) c.requires.marked

pub returns-clause-marked : goal.returns-clause-marked
returns-clause-marked c =
    let T = c.args.setup.now in
    let W : World = c.args.world.now.world in
    let e = c.args.entry.now in
    let V : World = c.advance.new.self.world in
    let later : V ≡ after T W e.event = ap (λ (w : WorldValue). w.world) c.in_ok-advance.ensures.ok ∙ ap (λ (S : Setup). after S W e.event) c.requires.world in
    let first = c.in_ok-moved.ensures in
    let parted = c.in_ok-push_swept.ensures in
    on_ok_weaker c.note_grant.result (λ is.
    follows-marked T c.requires.setup W e c.requires.next first.0 first.1 c.token_of-token.result c.token_of-token.ensures c.args.marked.now.items
    c.push_swept.new.marked.items parted.0 c.requires.marked V later parted.2 c.in_ok-moved.moved.items c.deref-2.result.now first.2
    (c.deref-2.ensures.value ∙ parted.1)
    c.note_moved.new.marked.items c.in_ok-note_moved.ensures.marked) c.note_grant.ensures

pub returns-clause-index : goal.returns-clause-index
returns-clause-index c =
    let T = c.args.setup.now in
    let W : World = c.args.world.now.world in
    let e = c.args.entry.now in
    let V : World = c.advance.new.self.world in
    let later : V ≡ after T W e.event = ap (λ (w : WorldValue). w.world) c.in_ok-advance.ensures.ok ∙ ap (λ (S : Setup). after S W e.event) c.requires.world in
    let first = c.in_ok-moved.ensures in
    let parted = c.in_ok-push_swept.ensures in
    on_ok_weaker c.note_grant.result (λ is.
    follows-lives T c.requires.setup W e c.requires.next first.0 first.1 c.token_of-token.result c.token_of-token.ensures c.args.marked.now.items
    c.push_swept.new.marked.items parted.0 c.requires.marked V later parted.2 c.in_ok-moved.moved.items c.deref-2.result.now first.2
    (c.deref-2.ensures.value ∙ parted.1)
    c.args.n c.args.index.now c.note_moved.new.index c.note_grant.new.index c.in_ok-note_moved.ensures.index is) c.note_grant.ensures
