use Rattle.std.proofs.Common.{◌≡◌, ℕ, ◌*◌, ◌%◌, ◌^◌, List, ◌∷◌, [], ◌++◌, length, map, ◌∙◌, ap, arith, rules, w32}
use Rattle.std.specs.Int.{bit_not, trailing_zeros}
use Rattle.std.specs.Prelude.{bit_and}
use Rattle.std.proofs.lemmas.Nat.Bits.{bit_at-trailing_zeros}
use Rattle.sem_msg.proofs.Masks.{kernels_in, kernels-none, kernels-first}
use Rattle.sem_machine.specs.Machine.{event}
use Rattle.sem_kernel.proofs.Appending.{next-appended, all-appended}
use Rattle.sem_kernel.specs.Listing.{peer_act}
use Rattle.sem_kernel.proofs.PeerRows.{others-start}
use Rattle.sem_kernel.proofs.listing.append_peers.Goals as goal

pub loop-left-init : goal.loop-left-init
loop-left-init c = ap (λ js. c.args.out.now.items ++ map (λ j. event c.args.kernel (peer_act c.args.row j)) js)
    (others-start c.args.mask c.args.kernel c.with_bit-left.result c.with_bit-left.ensures)

-- the lowest kernel that is left
pub overflow_shl-left : goal.overflow_shl-left
overflow_shl-left c = (bit_at-trailing_zeros w32 c.loop-left.left (omega arith) (search rules)).0

pub loop-left-smaller : goal.loop-left-smaller
loop-left-smaller c =
    let first = ap length (kernels-first c.loop-left.left (omega arith) (search rules)) in
    omega (arith, first)

pub loop-left-preserved : goal.loop-left-preserved
loop-left-preserved c =
    let l = c.loop-left in
    let out = l.out.items in
    let low : ℕ = trailing_zeros w32 l.left in
    let rest : List ℕ = kernels_in (bit_and l.left (bit_not w32 (1 * 2 ^ low % 2 ^ 32))) in
    let first : kernels_in l.left ≡ low ∷ rest = kernels-first l.left (omega arith) (search rules) in
    next-appended (λ j. event c.args.kernel (peer_act c.args.row j)) out (kernels_in l.left) _ l.invariant low rest c.push.new.self.items first
    (c.in_ok-push.ensures.items ∙ ap (λ act. out ++ event c.args.kernel act ∷ []) c.act.ensures)

-- none is left
pub returns : goal.returns
returns c =
    let l = c.loop-left in
    all-appended (λ j. event c.args.kernel (peer_act c.args.row j)) l.out.items (kernels_in l.left) _ l.invariant (ap kernels_in (omega arith) ∙ kernels-none)
