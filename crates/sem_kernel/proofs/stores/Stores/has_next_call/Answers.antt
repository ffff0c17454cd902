use Rattle.std.proofs.Common.{◌∙◌, sym, ap, is_some, slice_get}
use Rattle.std.specs.Prelude.{nat_lt}
use Rattle.sem_msg.specs.Lookups.{calls_of}
use Rattle.sem_kernel.proofs.Passing.{some-within}
use Rattle.sem_kernel.proofs.stores.Stores.has_next_call.Goals as goal

pub returns : goal.returns
returns c =
    ap (nat_lt c.next_call.result) (sym c.requires.calls)
    ∙ (some-within (calls_of c.args.setup.now c.args.own.vpe) c.next_call.result
    ∙ ap (λ n. is_some (slice_get (calls_of c.args.setup.now c.args.own.vpe) n)) c.next_call.ensures)
