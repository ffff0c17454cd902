use Rattle.std.proofs.Common.{ℕ, ◌∙◌, subst, arith}
use Rattle.sem_trace.specs.Ranges.{IsInRange}
use Rattle.sem_reader.proofs.Entered.{owner_set, enter_kernels, enter_window, enter_end, enter_pe, enter_vpe, enter_memory, enter_receive, enter_service}
use Rattle.sem_reader.proofs.Entered.{enter_offer, enter_deny, enter_kill, enter_call}
use Rattle.sem_reader.proofs.OneMore.{no_fault, is_none}
use Rattle.sem_reader.proofs.tables.Tables.enter.Goals as goal

pub returns-in-Kernels-clause-ok : goal.returns-in-Kernels-clause-ok
returns-in-Kernels-clause-ok c version kernels ds told fault =
    rw c.in-Kernels.is (enter_kernels version kernels ds c.args.self.now c.in-Kernels.kernels (rw c.in-Kernels.is at fault))

pub returns-in-Window-clause-ok : goal.returns-in-Window-clause-ok
returns-in-Window-clause-ok c version kernels ds told fault =
    let ranges = subst (λ (k : ℕ). IsInRange version k c.args.d) told.number
    (subst (λ (v : ℕ). IsInRange v c.args.self.now.owners.kernels c.args.d) told.same_version c.requires.range) in
    rw c.in-Window.is (enter_window version kernels ds c.args.self.now c.in-Window.window told (rw c.in-Window.is at ranges) (rw c.in-Window.is at fault))

pub returns-in-End-clause-ok : goal.returns-in-End-clause-ok
returns-in-End-clause-ok c version kernels ds told fault = rw c.in-End.is (enter_end version kernels ds c.args.self.now told (rw c.in-End.is at fault))

pub returns-in-Pe-clause-ok : goal.returns-in-Pe-clause-ok
returns-in-Pe-clause-ok c version kernels ds told fault =
    let ranges = subst (λ (k : ℕ). IsInRange version k c.args.d) told.number
    (subst (λ (v : ℕ). IsInRange v c.args.self.now.owners.kernels c.args.d) told.same_version c.requires.range) in
    rw c.in-Pe.is (enter_pe version kernels ds c.args.self.now c.in-Pe.pe c.in-Pe.kernel c.set.new.self told (rw c.in-Pe.is at ranges)
    (rw c.in-Pe.is at fault) c.set.ensures.table.all_pes
    (owner_set c.set.result c.args.self.now.owners c.set.new.self c.in-Pe.pe c.in-Pe.kernel c.set.ensures.taken c.set.ensures.ok (told.owner c.in-Pe.pe
    ∙ is_none _ (no_fault ds _ (rw c.in-Pe.is at fault)).2)))

pub returns-in-Vpe-clause-ok : goal.returns-in-Vpe-clause-ok
returns-in-Vpe-clause-ok c version kernels ds told fault =
    let ranges = subst (λ (k : ℕ). IsInRange version k c.args.d) told.number
    (subst (λ (v : ℕ). IsInRange v c.args.self.now.owners.kernels c.args.d) told.same_version c.requires.range) in
    rw (
      c.in-Vpe.is,
      c.from.ensures,
      c.from-in-Vpe.ensures,
    ) (enter_vpe version kernels ds c.args.self.now c.in-Vpe.vpe c.in-Vpe.pe told (rw c.in-Vpe.is at ranges) (rw c.in-Vpe.is at fault)
    (omega arith) (omega arith))

pub returns-in_ok-push_root-in-Memory-clause-ok : goal.returns-in_ok-push_root-in-Memory-clause-ok
returns-in_ok-push_root-in-Memory-clause-ok c version kernels ds told fault =
    let ranges = subst (λ (k : ℕ). IsInRange version k c.args.d) told.number
    (subst (λ (v : ℕ). IsInRange v c.args.self.now.owners.kernels c.args.d) told.same_version c.requires.range) in
    rw c.in-Memory.is (enter_memory version kernels ds c.args.self.now c.in-Memory.vpe c.in-Memory.sel c.in-Memory.base c.in-Memory.len c.in-Memory.rights
    (record c.args.self.now { roots = c.push_root.new.lists }) told (rw c.in-Memory.is at ranges) (rw c.in-Memory.is at fault) c.requires.sizes.roots
    c.in_ok-push_root-in-Memory.ensures.ok)

pub returns-in_ok-push_root-in-Receive-clause-ok : goal.returns-in_ok-push_root-in-Receive-clause-ok
returns-in_ok-push_root-in-Receive-clause-ok c version kernels ds told fault =
    let ranges = subst (λ (k : ℕ). IsInRange version k c.args.d) told.number
    (subst (λ (v : ℕ). IsInRange v c.args.self.now.owners.kernels c.args.d) told.same_version c.requires.range) in
    rw c.in-Receive.is (enter_receive version kernels ds c.args.self.now c.in-Receive.vpe c.in-Receive.sel c.in-Receive.slots
    (record c.args.self.now { roots = c.push_root-in-Receive.new.lists }) told (rw c.in-Receive.is at ranges)
    (rw c.in-Receive.is at fault) c.requires.sizes.roots c.in_ok-push_root-in-Receive.ensures.ok)

pub returns-in_ok-push_root-in-Service-clause-ok : goal.returns-in_ok-push_root-in-Service-clause-ok
returns-in_ok-push_root-in-Service-clause-ok c version kernels ds told fault =
    let ranges = subst (λ (k : ℕ). IsInRange version k c.args.d) told.number
    (subst (λ (v : ℕ). IsInRange v c.args.self.now.owners.kernels c.args.d) told.same_version c.requires.range) in
    rw (c.in-Service.is, c.from-in-Service.ensures) (enter_service version kernels ds c.args.self.now c.in-Service.vpe c.in-Service.sel c.in-Service.name
    (record c.args.self.now { roots = c.push_root-in-Service.new.lists }) told (rw c.in-Service.is at ranges)
    (rw c.in-Service.is at fault) c.requires.sizes.roots (omega arith) c.in_ok-push_root-in-Service.ensures.ok)

pub returns-in_ok-put_offer-in-Offer-clause-ok : goal.returns-in_ok-put_offer-in-Offer-clause-ok
returns-in_ok-put_offer-in-Offer-clause-ok c version kernels ds told fault =
    let ranges = subst (λ (k : ℕ). IsInRange version k c.args.d) told.number
    (subst (λ (v : ℕ). IsInRange v c.args.self.now.owners.kernels c.args.d) told.same_version c.requires.range) in
    rw c.in-Offer.is (enter_offer version kernels ds c.args.self.now c.in-Offer.name c.in-Offer.index c.in-Offer.sel
    (record c.args.self.now { offers = c.put_offer.new.offers }) told (rw c.in-Offer.is at ranges)
    (rw c.in-Offer.is at fault) c.in_ok-put_offer-in-Offer.ensures.ok)

pub returns-in_ok-put_deny-in-Deny-clause-ok : goal.returns-in_ok-put_deny-in-Deny-clause-ok
returns-in_ok-put_deny-in-Deny-clause-ok c version kernels ds told fault =
    let ranges = subst (λ (k : ℕ). IsInRange version k c.args.d) told.number
    (subst (λ (v : ℕ). IsInRange v c.args.self.now.owners.kernels c.args.d) told.same_version c.requires.range) in
    rw c.in-Deny.is (enter_deny version kernels ds c.args.self.now c.in-Deny.vpe c.in-Deny.asker (record c.args.self.now { denied = c.put_deny.new.denied })
    told (rw c.in-Deny.is at ranges) (rw c.in-Deny.is at fault) c.in_ok-put_deny-in-Deny.ensures.ok)

pub returns-in-Kill-clause-ok : goal.returns-in-Kill-clause-ok
returns-in-Kill-clause-ok c version kernels ds told fault =
    let ranges = subst (λ (k : ℕ). IsInRange version k c.args.d) told.number
    (subst (λ (v : ℕ). IsInRange v c.args.self.now.owners.kernels c.args.d) told.same_version c.requires.range) in
    rw (c.in-Kill.is, c.from-in-Kill.ensures) (enter_kill version kernels ds c.args.self.now c.in-Kill.vpe c.in-Kill.replies told (rw c.in-Kill.is at ranges)
    (rw c.in-Kill.is at fault) (omega arith))

pub returns-in_ok-push_call-in-Call-clause-ok : goal.returns-in_ok-push_call-in-Call-clause-ok
returns-in_ok-push_call-in-Call-clause-ok c version kernels ds told fault =
    let ranges = subst (λ (k : ℕ). IsInRange version k c.args.d) told.number
    (subst (λ (v : ℕ). IsInRange v c.args.self.now.owners.kernels c.args.d) told.same_version c.requires.range) in
    rw c.in-Call.is (enter_call version kernels ds c.args.self.now c.in-Call.vpe c.in-Call.call (record c.args.self.now { calls = c.push_call.new.lists }) told
    (rw c.in-Call.is at ranges) (rw c.in-Call.is at fault) c.requires.sizes.calls c.in_ok-push_call-in-Call.ensures.ok)
