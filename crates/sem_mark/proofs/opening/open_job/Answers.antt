use Rattle.std.proofs.Common.{◌≡◌, ℕ, List, refl, sym, ◌∙◌, ap, subst}
use Rattle.std.specs.List.{All}
use Rattle.sem_key.specs.KeyName.{KeyName}
use Rattle.sem_key.specs.KeyList.{IsRising}
use Rattle.sem_key.specs.Lists.{in_turn}
use Rattle.sem_key.specs.Capability.{Capability}
use Rattle.sem_key.specs.Region.{region, children_of, all_marked}
use Rattle.sem_msg.specs.JobRows.{waiters_of}
use Rattle.sem_msg.specs.EndpointRows.{unbind_all as rows_unbound}
use Rattle.sem_caps.specs.CapStore.{CapStore}
use Rattle.sem_dtu.specs.EndpointTable.{EndpointTable}
use Rattle.sem_machine.specs.Sides.{Side, mark_all, unbind_all, job_opened}
use Rattle.sem_machine.specs.Revokes.{HasOwner, opened, request_or_adopt}
use Rattle.sem_machine.specs.Stores.{with_endpoints}
use Rattle.sem_mark.specs.Marking.{beginning}
use Rattle.sem_mark.proofs.Opened.{children-owned}
use Rattle.sem_mark.proofs.opening.open_job.Goals as goal

-- the keys of the region were sorted
pub unbind_all-requires : goal.unbind_all-requires
unbind_all-requires c = subst IsRising (sym c.deref.ensures.value) c.mark_region.ensures.rising

-- each child has an owner
pub request_all-requires-clause-owners : goal.request_all-requires-clause-owners
request_all-requires-clause-owners c =
    let caps : List Capability = c.args.caps.now.caps in
    subst (All (HasOwner c.args.setup.now)) (sym (c.deref-2.ensures.value ∙ c.mark_region.ensures.links))
    (children-owned c.args.setup.now caps (region caps c.args.wanted.root) c.requires.owners)

-- what the stores are, one after the other
pub returns-clause-opened : goal.returns-clause-opened
unfolding opened
returns-clause-opened c s =
    let T = c.args.setup.now in
    let i = c.args.wanted.kernel in
    let j : ℕ = c.args.jobs.now.next in
    let caps : List Capability = c.args.caps.now.caps in
    let ks : List KeyName = region caps c.args.wanted.root in
    let s0 : Side = beginning c.args.caps.now c.args.dtus.now c.args.jobs.now c.args.outs.now s in
    let marked : Side = unbind_all ks (mark_all ks j (job_opened c.args.wanted.root c.args.wanted.up (waiters_of c.args.wanted.waiter) c.args.wanted.keep s0)) in
    let half : Side = beginning c.mark_region.new.caps c.unbind_all.new.self c.start_job-job.new.jobs c.args.outs.now s in
    let id : c.start_job-job.result ≡ j = c.start_job-job.ensures.id in
    let caps1 : c.mark_region.new.caps.caps ≡ all_marked ks j caps = ap (λ (x : CapStore). x.caps) c.mark_region.ensures.caps
    ∙ ap (λ n. all_marked ks n caps) id in
    let rows1 : c.unbind_all.new.self.rows ≡ rows_unbound ks c.args.dtus.now.rows = ap (λ (t : EndpointTable). t.rows) c.unbind_all.ensures
    ∙ ap (λ qs. rows_unbound qs c.args.dtus.now.rows) (c.deref.ensures.value ∙ c.mark_region.ensures.keys) in
    let base : half ≡ marked = rw (caps1, rows1, c.start_job-job.ensures.jobs, c.start_job-job.ensures.next) refl in
    let links : c.deref-2.result.now ≡ children_of caps ks = c.deref-2.ensures.value ∙ c.mark_region.ensures.links in
    c.request_all.ensures.row (with_endpoints c.unbind_all.new.self.rows s)
    ∙ ap (λ n. in_turn (request_or_adopt T i n) c.deref-2.result.now half) id
    ∙ ap (λ qs. in_turn (request_or_adopt T i j) qs half) links
    ∙ ap (in_turn (request_or_adopt T i j) (children_of caps ks)) base
