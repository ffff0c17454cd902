use Rattle.std.proofs.Common.{refl, arith}
use Rattle.std.proofs.lemmas.Bool.Decides.{nat_tests}
use Rattle.std.proofs.lemmas.Nat.Bits.{shr_and_one}
use Rattle.sem_jobs.proofs.Masks.{IsVpeList-vpes_of, bit-of, below-of, of-bit}
use Rattle.sem_jobs.proofs.vpe_list.VpeList.has.Goals as goal

-- the bit of the VPE is read
pub returns-then-vpe-lt-VPES-clause-has : goal.returns-then-vpe-lt-VPES-clause-has
returns-then-vpe-lt-VPES-clause-has c =
    let mask = c.self.inside.mask in
    let read = shr_and_one mask c.args.vpe in
    rw (← c.self.view_is, read) (
      λ test. of-bit mask c.args.vpe c.if-vpe-lt-VPES.true (grind (arith, nat_tests)),
      λ there. let bit = bit-of mask c.args.vpe there in rw bit refl,
    )

pub returns-then-vpe-lt-VPES-clause-list : goal.returns-then-vpe-lt-VPES-clause-list
returns-then-vpe-lt-VPES-clause-list c = rw (← c.self.view_is) (IsVpeList-vpes_of c.self.inside.mask)

-- there is no such VPE
pub returns-else-vpe-lt-VPES-clause-has : goal.returns-else-vpe-lt-VPES-clause-has
returns-else-vpe-lt-VPES-clause-has c =
    rw (← c.self.view_is) (λ test. absurd (grind (arith, nat_tests)), λ there. let lt = below-of c.self.inside.mask c.args.vpe there in absurd (omega arith))

pub returns-else-vpe-lt-VPES-clause-list : goal.returns-else-vpe-lt-VPES-clause-list
returns-else-vpe-lt-VPES-clause-list c = rw (← c.self.view_is) (IsVpeList-vpes_of c.self.inside.mask)
