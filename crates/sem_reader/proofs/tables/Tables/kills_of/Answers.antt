use Rattle.std.proofs.Common.{[], rules}
use Rattle.std.specs.Option.{option_map}
use Rattle.sem_msg.specs.declared.setup.VpeDecl.{VpeDecl}
use Rattle.sem_trace.specs.Earlier.{kill_in}
use Rattle.sem_trace.specs.SetupOfText.{kills_of}
use Rattle.sem_reader.proofs.MoreItems.{more_item}
use Rattle.sem_reader.proofs.tables.Tables.kills_of.Goals as goal

pub loop-declared-init : goal.loop-declared-init
unfolding kills_of
loop-declared-init c version kernels ds told = c.new-kills.ensures

pub loop-declared-preserved : goal.loop-declared-preserved
unfolding kills_of
loop-declared-preserved c version kernels ds told =
    more_item (λ (d : VpeDecl). option_map (λ replies. (d.vpe, replies)) (kill_in ds d.vpe)) c.args.vpes.now c.loop-declared.declared-index
    c.declared-item.result _ [] _ _ (search rules) (rw c.as_slice-declared-items.ensures at c.declared-item.is)
    (c.loop-declared.invariant version kernels ds told) c.in_ok-push_some.ensures.ok (c.kill.ensures version kernels ds told)
