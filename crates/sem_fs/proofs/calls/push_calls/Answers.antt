use Rattle.std.proofs.Common.{◌≡◌, ◌<◌, List, length, take, get_or, ap, sym, subst, ◌∙◌, arith}
use Rattle.sem_files.specs.declared.files.Command.{Command}
use Rattle.sem_files.specs.Files.{Files}
use Rattle.sem_files.specs.Compiled.{AreFiles}
use Rattle.sem_fs.proofs.ClientCalls.{first, plain-at, handle-at, none-behind, own-behind, other-behind, all-behind}
use Rattle.sem_fs.proofs.calls.push_calls.Goals as goal

pub loop-command-init : goal.loop-command-init
loop-command-init c = none-behind c.args.files.now c.args.client c.args.calls.now c.new-handles.result (c.new-handles.ensures.tells c.args.client)

pub loop-command-preserved-then-command-client : goal.loop-command-preserved-then-command-client
loop-command-preserved-then-command-client c =
    let i = c.loop-command.command-index in
    let command : Command = get_or c.as_slice-command-items.result.now i first in
    let all : c.as_slice-command-items.result.now ≡ c.args.files.now.commands = c.as_slice-command-items.ensures
    ∙ ap (λ (F : Files). F.commands) c.files.view_is in
    other-behind c.args.files.now c.args.client i first command c.args.calls.now c.loop-command.calls c.loop-command.handles
    (omega (arith, ap (length {A = Command}) all)) (ap (λ (cs : List Command). get_or cs i first) (sym all)) c.if-command-client.true c.loop-command.invariant

pub push_command-requires : goal.push_command-requires
push_command-requires c =
    let i = c.loop-command.command-index in
    let command : Command = get_or c.as_slice-command-items.result.now i first in
    let all : c.as_slice-command-items.result.now ≡ c.args.files.now.commands = c.as_slice-command-items.ensures
    ∙ ap (λ (F : Files). F.commands) c.files.view_is in
    plain-at c.args.files.now (subst AreFiles c.files.view_is c.files.invariant) i first command
    (omega (arith, ap (length {A = Command}) all)) (ap (λ (cs : List Command). get_or cs i first) (sym all))

pub note-requires : goal.note-requires
note-requires c =
    let i = c.loop-command.command-index in
    let command : Command = get_or c.as_slice-command-items.result.now i first in
    let all : c.as_slice-command-items.result.now ≡ c.args.files.now.commands = c.as_slice-command-items.ensures
    ∙ ap (λ (F : Files). F.commands) c.files.view_is in
    handle-at c.args.files.now (subst AreFiles c.files.view_is c.files.invariant) i first command
    (omega (arith, ap (length {A = Command}) all)) (ap (λ (cs : List Command). get_or cs i first) (sym all))

pub loop-command-preserved : goal.loop-command-preserved
loop-command-preserved c =
    let i = c.loop-command.command-index in
    let F : Files = c.args.files.now in
    let command : Command = get_or c.as_slice-command-items.result.now i first in
    let all : c.as_slice-command-items.result.now ≡ F.commands = c.as_slice-command-items.ensures ∙ ap (λ (G : Files). G.commands) c.files.view_is in
    let within : i < length F.commands = omega (arith, ap (length {A = Command}) all) in
    let here : get_or F.commands i first ≡ command = ap (λ (cs : List Command). get_or cs i first) (sym all) in
    own-behind F c.args.client i first command c.args.calls.now c.loop-command.calls c.push_command.new.calls c.loop-command.handles c.note.new.self
    within here c.if-command-client.false (handle-at F (subst AreFiles c.files.view_is c.files.invariant) i first command within here) c.loop-command.invariant
    c.in_ok-push_command.ensures (c.note.ensures.own (take i F.commands) c.args.client c.loop-command.invariant.told)

pub returns : goal.returns
returns c =
    let all : c.as_slice-command-items.result.now ≡ c.args.files.now.commands = c.as_slice-command-items.ensures
    ∙ ap (λ (F : Files). F.commands) c.files.view_is in
    all-behind c.args.files.now c.args.client c.loop-command.command-index c.args.calls.now c.loop-command.calls c.loop-command.handles c.loop-command.invariant
    (omega (arith, ap (length {A = Command}) all))
