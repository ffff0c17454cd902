use Rattle.std.proofs.Common.{◌≡◌, ℕ, [], ◌∷◌, ◌++◌, ap, sym, ◌∙◌, arith}
use Rattle.sem_fs.specs.Clients.{clients_below}
use Rattle.sem_fs.specs.Extents.{server_with}
use Rattle.sem_fs.proofs.CompiledParts.{clients-none, clients-more}
use Rattle.sem_fs.proofs.setups.all_vpes.Goals as goal

pub loop-before-init : goal.loop-before-init
loop-before-init c =
    c.in_ok-push.ensures.ok
    ∙ (ap (λ ds. ds ++ c.in_ok-server.field-0 ∷ []) c.new-vpes.ensures
    ∙ (ap (λ d. d ∷ []) c.in_ok-server.ensures
    ∙ ap (λ ds. server_with c.args.extents.now ∷ ds) (sym (clients-none c.args.files.now))))

pub loop-before-preserved : goal.loop-before-preserved
loop-before-preserved c = clients-more c.args.files.now c.loop-before.before (server_with c.args.extents.now) c.loop-before.vpes c.push_client.new.vpes
    c.loop-before.invariant c.in_ok-push_client.ensures

pub returns : goal.returns
returns c =
    let all : c.loop-before.before ≡ 63 = omega arith in
    c.loop-before.invariant ∙ ap (λ (n : ℕ). server_with c.args.extents.now ∷ clients_below c.args.files.now n) all
