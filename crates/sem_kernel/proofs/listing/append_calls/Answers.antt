use Rattle.std.proofs.Common.{◌≡◌, ◌<◌, ◌≤◌, ◌∙◌, List, ◌∷◌, [], ◌++◌, length, get_or, ap, sym, arith}
use Rattle.std.proofs.lemmas.List.{get_or_default}
use Rattle.sem_machine.specs.Machine.{event}
use Rattle.sem_kernel.specs.declared.listing.VpeRow.TheVariants.{Calls, Resumes, Upcalls}
use Rattle.sem_kernel.specs.declared.own.OwnVpe.{OwnVpe}
use Rattle.sem_kernel.specs.Worlds.{world_of}
use Rattle.sem_kernel.specs.Listing.{vpe_act}
use Rattle.sem_kernel.specs.Owning.{own_rows}
use Rattle.sem_kernel.proofs.Listings.{row-more, row-all, one-enabled, one-disabled}
use Rattle.sem_kernel.proofs.Owned.{own-same, own-enough, vpe-told}
use Rattle.sem_kernel.proofs.VpeMasks.{kept-below, mask-set, mask-kept, mask-all}
use Rattle.sem_kernel.proofs.listing.append_calls.Goals as goal
use Rattle.sem_kernel.proofs.listing.append_calls.Goals.{After-loop-own}
use Rattle.sem_kernel.proofs.listing.append_calls.Goals.{then-acts+in_ok-push, else-acts, then-acts-2, else-acts-2, then-acts-3, else-acts-3}

pub with_vpe-resumes-requires : goal.with_vpe-resumes-requires
with_vpe-resumes-requires c = kept-below c.args.setup.now c.keeps_its_rules.ensures c.args.kernel c.own_vpes-own-items.result.now
    (c.own_vpes-own-items.ensures ∙ own-same c.args.setup.now c.args.kernels.now c.args.fabric.now c.requires.together c.args.kernel c.requires.few
    c.index-kernels-kernel.result c.index-kernels-kernel.is) c.loop-own.own-index (record { vpe = 0; calls = 0 }) c.loop-own-test.true

pub with_vpe-upcalls-requires : goal.with_vpe-upcalls-requires
with_vpe-upcalls-requires c = kept-below c.args.setup.now c.keeps_its_rules.ensures c.args.kernel c.own_vpes-own-items.result.now
    (c.own_vpes-own-items.ensures ∙ own-same c.args.setup.now c.args.kernels.now c.args.fabric.now c.requires.together c.args.kernel c.requires.few
    c.index-kernels-kernel.result c.index-kernels-kernel.is) c.loop-own.own-index (record { vpe = 0; calls = 0 }) c.loop-own-test.true

-- one more of its VPEs is looked at
pub loop-own-preserved : goal.loop-own-preserved
loop-own-preserved c =
    let T = c.args.setup.now in
    let ks = c.args.kernels.now in
    let f = c.args.fabric.now in
    let i = c.args.kernel in
    let k = c.index-kernels-kernel.result in
    let W = world_of ks f in
    let n = c.loop-own.own-index in
    let now = c.loop-own.out.items in
    let none : OwnVpe = record { vpe = 0; calls = 0 } in
    let x : OwnVpe = get_or c.own_vpes-own-items.result.now n none in
    let items = c.own_vpes-own-items.ensures ∙ own-same T ks f c.requires.together i c.requires.few k c.index-kernels-kernel.is in
    let more : n < length (own_rows T i) = omega (arith, c.loop-own-test.true, ap length items) in
    let found : x ≡ get_or (own_rows T i) n x = ap (λ (xs : List OwnVpe). get_or xs n none) items ∙ get_or_default (own_rows T i) n none x more in
    let told = vpe-told T ks f c.requires.together i c.requires.few k c.index-kernels-kernel.is in
    let call = c.vpe_acts-acts.ensures.call ∙ told Calls x.vpe in
    let resume = c.vpe_acts-acts.ensures.resume ∙ told Resumes x.vpe in
    let upcall = c.vpe_acts-acts.ensures.upcall ∙ told Upcalls x.vpe in
    let next = row-more T W (λ (o : OwnVpe). event i (vpe_act Calls o.vpe)) (own_rows T i) n x c.args.out.now.items now in (
      elim c.if-acts.branch [
        | then-acts+in_ok-push w ↦ rw w.out-is (next w.push.new.self.items more found c.loop-own.invariant.0 (w.in_ok-push.ensures.items
            ∙ (ap (λ act. now ++ event i act ∷ []) w.act.ensures ∙ one-enabled T W (event i (vpe_act Calls x.vpe)) now (sym call ∙ w.if-acts.true))))
        | else-acts w ↦ rw w.out-is (next now more found c.loop-own.invariant.0 (one-disabled T W (event i (vpe_act Calls x.vpe)) now (sym call
            ∙ w.if-acts.false)))
      ],
      elim c.if-acts-2.branch [
        | then-acts-2 w ↦ rw w.resumes-is (mask-set T W i Resumes n x c.loop-own.resumes more found c.loop-own.invariant.1 w.with_vpe-resumes.result
            (sym resume ∙ w.if-acts-2.true) w.with_vpe-resumes.ensures)
        | else-acts-2 w ↦ rw w.resumes-is (mask-kept T W i Resumes n x c.loop-own.resumes more found c.loop-own.invariant.1 (sym resume ∙ w.if-acts-2.false))
      ],
      elim c.if-acts-3.branch [
        | then-acts-3 w ↦ rw w.upcalls-is (mask-set T W i Upcalls n x c.loop-own.upcalls more found c.loop-own.invariant.2 w.with_vpe-upcalls.result
            (sym upcall ∙ w.if-acts-3.true) w.with_vpe-upcalls.ensures)
        | else-acts-3 w ↦ rw w.upcalls-is (mask-kept T W i Upcalls n x c.loop-own.upcalls more found c.loop-own.invariant.2 (sym upcall ∙ w.if-acts-3.false))
      ],
    )

-- all of its VPEs were looked at
all-seen : (c : After-loop-own) → length (own_rows c.args.setup.now c.args.kernel) ≤ c.loop-own.own-index
all-seen c = omega (
  arith,
  c.loop-own-test.false,
  ap length (c.own_vpes-own-items.ensures
      ∙ own-same c.args.setup.now c.args.kernels.now c.args.fabric.now c.requires.together c.args.kernel c.requires.few c.index-kernels-kernel.result
      c.index-kernels-kernel.is),
)

-- the VPEs of other kernels have no calls
pub returns-clause-calls : goal.returns-clause-calls
returns-clause-calls c =
    let T = c.args.setup.now in
    let W = world_of c.args.kernels.now c.args.fabric.now in
    let i = c.args.kernel in
    row-all T W (λ (o : OwnVpe). event i (vpe_act Calls o.vpe)) (own_rows T i) c.loop-own.own-index c.args.out.now.items c.loop-own.out.items (all-seen c)
    c.loop-own.invariant.0
    ∙ ap (λ es. c.args.out.now.items ++ es) (own-enough T W c.keeps_its_rules.ensures i Calls)

pub returns-clause-resumes : goal.returns-clause-resumes
returns-clause-resumes c = mask-all c.args.setup.now (world_of c.args.kernels.now c.args.fabric.now) c.args.kernel Resumes
    c.keeps_its_rules.ensures c.loop-own.own-index c.loop-own.resumes (all-seen c) c.loop-own.invariant.1

pub returns-clause-upcalls : goal.returns-clause-upcalls
returns-clause-upcalls c = mask-all c.args.setup.now (world_of c.args.kernels.now c.args.fabric.now) c.args.kernel Upcalls
    c.keeps_its_rules.ensures c.loop-own.own-index c.loop-own.upcalls (all-seen c) c.loop-own.invariant.2
