use Rattle.std.proofs.Common.{ap, ◌∙◌}
use Rattle.std.specs.Option.{ok_or}
use Rattle.sem_wire.specs.declared.fault.WireFault.TheVariants.{Field}
use Rattle.sem_wire.proofs.Words.{unpacked, key_or_fault}
use Rattle.sem_wire.proofs.read_rows.key_at.Goals as goal

pub returns : goal.returns
returns c =
    let word = unpacked c.args.word c.unpack.result c.unpack.ensures.key c.unpack.ensures.valid in
    c.ok_or.ensures.value ∙ ap (λ key. ok_or key (Field c.args.at)) word ∙ key_or_fault c.args.at c.args.word
