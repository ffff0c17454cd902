use Rattle.std.proofs.Common.{List, [], None, ap, ◌∙◌, length, replicate}
use Rattle.std.proofs.lemmas.List.{length-replicate}
use Rattle.sem_key.specs.declared.limits.TheConstants.{VPES}
use Rattle.sem_msg.specs.Setup.{Setup, IsSetup}
use Rattle.sem_msg.specs.declared.message.Message.{Message}
use Rattle.sem_vpe.specs.VpeTable.{VpeTable}
use Rattle.sem_dtu.specs.EndpointTable.{EndpointTable}
use Rattle.sem_machine.specs.Sides.{no_side}
use Rattle.sem_kernel.proofs.StartSides.{side-start, own-here, marks-start}
use Rattle.sem_kernel.proofs.stores.Stores.boot.Goals as goal

pub returns-clause-side : goal.returns-clause-side
returns-clause-side c =
    let valid : IsSetup c.args.setup.now = c.keeps_its_rules.ensures in
    let outs = rw (ap (λ (T : Setup). T.kernels) c.setup.view_is) at c.in_ok-new-5.ensures in
    side-start c.args.setup.now valid c.args.kernel c.requires _ c.in_ok-start_caps.ensures
    (ap (λ (t : VpeTable). t.rows) c.in_ok-new.ensures.start)
    (ap (λ (t : EndpointTable). t.rows) c.in_ok-new-2.ensures)
    (ap (λ ps. record no_side {
      parks = ps;
      pendings = c.in_ok-new-3.field-0.pendings;
      jobs = c.in_ok-new-4.field-0.jobs;
      next_job = c.in_ok-new-4.field-0.next;
      outs = c.in_ok-new-5.field-0.boxes;
    }) c.new-3.ensures.none
    ∙ (ap (λ ps. record no_side {
      parks = replicate VPES None;
      pendings = ps;
      jobs = c.in_ok-new-4.field-0.jobs;
      next_job = c.in_ok-new-4.field-0.next;
      outs = c.in_ok-new-5.field-0.boxes;
    }) c.in_ok-new-3.ensures
    ∙ (ap (λ js. record no_side { parks = replicate VPES None; jobs = js; next_job = c.in_ok-new-4.field-0.next; outs = c.in_ok-new-5.field-0.boxes })
    c.in_ok-new-4.ensures.jobs
    ∙ (ap (λ n. record no_side { parks = replicate VPES None; next_job = n; outs = c.in_ok-new-5.field-0.boxes }) c.in_ok-new-4.ensures.next
    ∙ ap (λ bs. record no_side { parks = replicate VPES None; outs = bs }) outs))))

pub returns-clause-stores : goal.returns-clause-stores
returns-clause-stores c =
    let T : Setup = c.args.setup.now in
    let valid : IsSetup c.args.setup.now = c.keeps_its_rules.ensures in
    let outs = rw (ap (λ (T : Setup). T.kernels) c.setup.view_is) at c.in_ok-new-5.ensures in
    record {
      vpes = λ v here. (c.in_ok-new.ensures.declared.ours v).1 (own-here T valid c.args.kernel c.requires v here);
      endpoints = λ v here. rw c.in_ok-new-2.ensures (marks-start T valid c.args.kernel c.requires v here);
      boxes = ap length outs ∙ length-replicate {A = List Message} c.args.setup.now.kernels [];
    }
