use Rattle.std.proofs.Common.{◌≡◌, ◌++◌, List, [], sym, subst, ◌∙◌}
use Rattle.std.proofs.lemmas.Result.{on_ok_weaker}
use Rattle.sem_key.specs.KeyName.{KeyName}
use Rattle.sem_machine.specs.Sides.{Side, no_side}
use Rattle.sem_machine.specs.Machine.{side}
use Rattle.sem_query.specs.Building.{revoked_by, moved_at}
use Rattle.sem_query.specs.Reaching.{AreRevoked}
use Rattle.sem_query.proofs.Pushing.{moved-loud, nothing-moved, nothing-reached}
use Rattle.sem_query.proofs.moves.push_moved_at.Goals as goal

pub returns-in_default : goal.returns-in_default
returns-in_default c =
    let s : Side = side c.args.world.now.world c.args.entry.now.event.kernel in
    let none : s ≡ no_side = sym c.in_default.ensures in
    ([], nothing-reached s c.args.entry.now none, nothing-moved c.args.setup.now c.args.entry.now.event.kernel s c.args.entry.now c.args.keys.now.items none)

pub returns : goal.returns
returns c =
    let T = c.args.setup.now in
    let e = c.args.entry.now in
    let old : List KeyName = c.args.keys.now.items in
    let new : List KeyName = c.push_revoked.new.keys.items in
    let s : Side = c.in-Some.kernel.now.side in
    let loud = sym c.is_revoking.ensures ∙ c.if-not-is_revoking.false in
    on_ok_weaker c.push_revoked.result (λ (is : (ks : List KeyName) × AreRevoked s.caps e ks
    × (new ≡ c.push_ready_by.new.keys.items ++ revoked_by T e.event.kernel s e ks)). subst (λ (t : Side). (ks : List KeyName) × AreRevoked t.caps e ks
    × (new ≡ old ++ moved_at T e.event.kernel t e ks)) c.in-Some.ensures
    (is.0, is.1, moved-loud T e.event.kernel s e is.0 old c.push_ready_by.new.keys.items new loud (rw c.resumed.ensures at c.in_ok-push_ready_by.ensures) is.2))
    c.push_revoked.ensures
