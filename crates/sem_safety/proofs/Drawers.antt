-- Which VPE an enabled event may draw for, and the side of its kernel after it.
use Rattle.std.proofs.Common.{◌≡◌, ℕ, true, List, get_or, ◌∙◌, ap}
use Rattle.std.specs.Prelude.{◌==◌, nat_lt}
use Rattle.std.proofs.lemmas.Bool.{and_parts, eqb-true}
use Rattle.sem_msg.specs.declared.event.Act.{Act}
use Rattle.sem_msg.specs.declared.event.Act.TheVariants.{Call as Calls, Fetch, Handle, Upcall, Resume, Flush, Kill}
use Rattle.sem_msg.specs.declared.event.Event.{Event}
use Rattle.sem_msg.specs.Setup.{Setup}
use Rattle.sem_msg.specs.Lookups.{kernel_of}
use Rattle.sem_machine.specs.Sides.{Side, no_side}
use Rattle.sem_machine.specs.Machine.{World, side, with_side, after, is_enabled, is_locally_enabled, is_allowed}
use Rattle.sem_key.proofs.Puts.{get_or-put_same}
use Rattle.sem_safety.proofs.KeptSteps.{MayDraw}
use Rattle.sem_safety.proofs.CarryingWorlds.{stepped}
use Rattle.sem_safety.proofs.GoingOn.{moved-sides}

-- the side after the step of an event
pub side-after : (T : Setup) (W : World) (e : Event) → side (after T W e) e.kernel ≡ (stepped T W e).side
unfolding after
side-after T W e =
    ap (λ (sides : List Side). get_or sides e.kernel no_side) (moved-sides e.kernel (side W e.kernel) e.act (with_side e.kernel (stepped T W e).side W))
    ∙ get_or-put_same no_side W.sides e.kernel (stepped T W e).side

-- an enabled event draws for a VPE of its kernel
may_act_here : (T : Setup) (i : ℕ) (s : Side) (a : Act) → is_locally_enabled T i s a ≡ true → MayDraw (λ v. kernel_of T v ≡ i) a
unfolding is_locally_enabled
may_act_here T i s (Calls v) allowed = eqb-true (kernel_of T v) i (and_parts (kernel_of T v == i) _ allowed).0
may_act_here T i s (Upcall v) allowed = eqb-true (kernel_of T v) i (and_parts (kernel_of T v == i) _ allowed).0
may_act_here T i s (Fetch from) allowed = tt
may_act_here T i s Handle allowed = tt
may_act_here T i s (Resume v) allowed = tt
may_act_here T i s (Flush to) allowed = tt
may_act_here T i s (Kill v) allowed = tt

pub may_draw : (T : Setup) (W : World) (e : Event) → is_enabled T W e ≡ true → MayDraw (λ v. kernel_of T v ≡ e.kernel) e.act
unfolding is_enabled
may_draw T W e enabled =
    may_act_here T e.kernel (side W e.kernel) e.act (and_parts (is_locally_enabled T e.kernel (side W e.kernel) e.act) (is_allowed T W e.kernel e.act)
    (and_parts (nat_lt e.kernel T.kernels) _ enabled).1).0
