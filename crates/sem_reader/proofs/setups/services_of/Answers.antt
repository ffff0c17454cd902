use Rattle.std.proofs.Common.{◌≡◌, ℕ, List, [], ap, ◌∙◌, arith}
use Rattle.std.specs.List.{filter_map}
use Rattle.sem_msg.specs.declared.setup.Service.{Service}
use Rattle.sem_trace.specs.Refusal.{numbers}
use Rattle.sem_trace.specs.SetupOfText.{named, services_among, services_of}
use Rattle.sem_trace.proofs.ReadText.{numbers-none}
use Rattle.sem_reader.proofs.MoreItems.{more_number}
use Rattle.sem_reader.proofs.setups.services_of.Goals as goal

pub loop-name-init : goal.loop-name-init
loop-name-init c = rw numbers-none c.new-services.ensures

pub loop-name-preserved : goal.loop-name-preserved
loop-name-preserved c = more_number (named (services_among c.args.vpes.now)) c.loop-name.name _ [] _ _ c.loop-name.invariant c.in_ok-push_some.ensures.ok
    (c.named.ensures ∙ ap (λ (ss : List Service). named ss c.loop-name.name) (c.as_slice.ensures ∙ c.in_ok-declared.ensures))

pub returns : goal.returns
unfolding services_of
returns c =
    let all : c.loop-name.name ≡ 256 = omega arith in
    c.loop-name.invariant ∙ ap (λ (n : ℕ). filter_map (named (services_among c.args.vpes.now)) (numbers n)) all
