use Rattle.std.proofs.Common.{◌≡◌, [], ◌∷◌, ◌++◌, sym, ap, subst, ◌∙◌}
use Rattle.std.specs.Prelude.{OnOk}
use Rattle.std.specs.List.{All}
use Rattle.sem_wire.specs.MessageOfBytes.{IsRecord}
use Rattle.sem_fabric.specs.Links.{relined}
use Rattle.sem_fabric.specs.contracts.link.Link.{the_view}
use Rattle.sem_fabric.proofs.Messages.{pushed-all, link-pushed}
use Rattle.sem_fabric.proofs.link.Link.push.Goals as goal
use Rattle.sem_fabric.proofs.link.Link.push.Goals.{in-Ok, in-Err}

-- the records and the new one are records
pub invariant_of-self : goal.invariant_of-self
invariant_of-self c =
    let items = c.self.inside.records.items in
    elim c.match-try_push_back.branch [
      | in-Ok w ↦ subst (All IsRecord) (sym (ap (λ b. b.items) w.in-Ok.ensures.ok ∙ ap (λ r. items ++ r ∷ []) c.encode.ensures))
          (pushed-all items c.args.message c.requires c.self.invariant)
      | in-Err w ↦ subst (All IsRecord) (sym (ap (λ b. b.items) w.in-Err.ensures.err.1)) c.self.invariant
    ]

pub returns-clause-ok : goal.returns-clause-ok
returns-clause-ok c =
    elim c.match-try_push_back.branch [
      | in-Ok w ↦ subst (λ r. OnOk r (the_view (record { records = c.try_push_back.new.self })
          ≡ relined (c.args.self.now.messages ++ c.args.message ∷ []) c.args.self.now)) (sym w.result-is)
          (rw (← c.self.view_is) (link-pushed c.self.inside.records c.try_push_back.new.self c.args.message c.encode.result c.requires c.encode.ensures
          w.in-Ok.ensures.ok))
      | in-Err w ↦ subst (λ r. OnOk r (the_view (record { records = c.try_push_back.new.self })
          ≡ relined (c.args.self.now.messages ++ c.args.message ∷ []) c.args.self.now)) (sym w.result-is) tt
    ]
