use Rattle.std.proofs.Common.{◌∙◌, ◌<◌, length, ap, rules}
use Rattle.sem_key.specs.KeyName.{KeyName}
use Rattle.sem_park.proofs.Ready.{cancelled-ready, cancelled-none}
use Rattle.sem_park.proofs.park.Park.cancel.Goals as goal

-- no call is about to install the key
pub returns-in_err-sel-clause-states : goal.returns-in_err-sel-clause-states
returns-in_err-sel-clause-states c =
    let within : c.args.key.vpe < length c.self.inside.states = search rules in
    let place = c.from-place.ensures ∙ ap (λ (k : KeyName). k.vpe) c.key.view_is in
    rw (← c.self.view_is) (cancelled-none c.self.inside.states c.args.key c.from-place.result place within c.index-self-place.result c.selector_for.result
    c.selector_for.ensures c.in_err-sel.was)

-- its call is
pub returns-clause-states : goal.returns-clause-states
returns-clause-states c =
    let within : c.args.key.vpe < length c.self.inside.states = search rules in
    let place = c.from-place.ensures ∙ ap (λ (k : KeyName). k.vpe) c.key.view_is in
    rw (← c.self.view_is) (cancelled-ready c.self.inside.states c.args.key c.from-place.result place within c.index-self-place.result c.selector_for.result
    c.selector_for.ensures c.in_ok-sel.sel c.in_ok-sel.was)
