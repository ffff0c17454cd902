use Rattle.std.proofs.Common.{◌≡◌, ℕ, [], ap, ◌∙◌, arith}
use Rattle.std.specs.List.{filter_map}
use Rattle.sem_trace.specs.Refusal.{numbers}
use Rattle.sem_trace.specs.Earlier.{vpe_in}
use Rattle.sem_trace.specs.SetupOfText.{vpes_of}
use Rattle.sem_trace.proofs.ReadText.{numbers-none}
use Rattle.sem_reader.proofs.MoreItems.{more_number}
use Rattle.sem_reader.proofs.tables.Tables.vpes.Goals as goal

pub loop-vpe-init : goal.loop-vpe-init
loop-vpe-init c version kernels ds told = rw (numbers-none) c.new-vpes.ensures

pub loop-vpe-preserved : goal.loop-vpe-preserved
loop-vpe-preserved c version kernels ds told =
    more_number (vpe_in ds) c.loop-vpe.vpe _ [] _ _ (c.loop-vpe.invariant version kernels ds told) c.in_ok-push_some.ensures.ok
    (c.in_ok-vpe.ensures version kernels ds told)

pub returns : goal.returns
unfolding vpes_of
returns c version kernels ds told =
    let all : c.loop-vpe.vpe ≡ 128 = omega arith in
    c.loop-vpe.invariant version kernels ds told ∙ ap (λ (n : ℕ). filter_map (vpe_in ds) (numbers n)) all
