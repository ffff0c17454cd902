use Rattle.std.proofs.Common.{◌≡◌, ℕ, ◌*◌, ◌%◌, ◌^◌, List, ◌∷◌, [], ◌++◌, length, ◌∙◌, ap, arith, rules}
use Rattle.std.specs.Int.{bit_not, trailing_zeros}
use Rattle.std.specs.Prelude.{bit_and}
use Rattle.std.proofs.lemmas.Nat.Bits.{bit_at-trailing_zeros}
use mir.Syntax.{w128}
use Rattle.sem_machine.specs.Machine.{event}
use Rattle.sem_kernel.proofs.Appending.{next-appended, all-appended}
use Rattle.sem_kernel.specs.Listing.{vpe_act, vpes_in}
use Rattle.sem_kernel.proofs.VpeMasks.{vpes-none, vpes-first}
use Rattle.sem_kernel.proofs.listing.append_vpes.Goals as goal

-- the lowest VPE that is left
pub overflow_shl-left : goal.overflow_shl-left
overflow_shl-left c = (bit_at-trailing_zeros w128 c.loop-left.left (omega arith) (search rules)).0

pub loop-left-smaller : goal.loop-left-smaller
loop-left-smaller c =
    let first = ap length (vpes-first c.loop-left.left (omega arith) (search rules)) in
    omega (arith, first)

pub loop-left-preserved : goal.loop-left-preserved
loop-left-preserved c =
    let l = c.loop-left in
    let out = l.out.items in
    let low : ℕ = trailing_zeros w128 l.left in
    let rest : List ℕ = vpes_in (bit_and l.left (bit_not w128 (1 * 2 ^ low % 2 ^ 128))) in
    let first : vpes_in l.left ≡ low ∷ rest = vpes-first l.left (omega arith) (search rules) in
    next-appended (λ v. event c.args.kernel (vpe_act c.args.row v)) out (vpes_in l.left) _ l.invariant low rest c.push.new.self.items first
    (c.in_ok-push.ensures.items ∙ ap (λ act. out ++ event c.args.kernel act ∷ []) c.act.ensures)

-- none is left
pub returns : goal.returns
returns c =
    let l = c.loop-left in
    all-appended (λ v. event c.args.kernel (vpe_act c.args.row v)) l.out.items (vpes_in l.left) _ l.invariant (ap vpes_in (omega arith) ∙ vpes-none)
