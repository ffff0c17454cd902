-- What each change of a side keeps, and that asks nothing of keys, is kept along every run.
use Rattle.std.proofs.Common.{ℕ, List, [], ◌∷◌, get_or, Option, sym, ◌∙◌, ap, subst, inl, inr}
use Rattle.std.proofs.lemmas.Bool.{cases_eq}
use Rattle.sem_msg.specs.declared.event.Act.{Act}
use Rattle.sem_msg.specs.declared.event.Act.TheVariants.{Call as Calls, Fetch, Handle, Upcall, Resume, Flush, Kill}
use Rattle.sem_msg.specs.declared.event.Event.{Event}
use Rattle.sem_msg.specs.declared.entry.Entry.{Entry}
use Rattle.sem_msg.specs.declared.message.Message.{Message}
use Rattle.sem_msg.specs.Setup.{Setup}
use Rattle.sem_machine.specs.Sides.{Side, no_side, parked}
use Rattle.sem_machine.specs.Steps.{Step}
use Rattle.sem_machine.specs.Machine.{World, side, with_side, local_step, input_of, after}
use Rattle.sem_machine.specs.Schedules.{run}
use Rattle.sem_key.proofs.Puts.{get_or-put_same, get_or-put_other}
use Rattle.sem_safety.proofs.CarryingWorlds.{stepped}
use Rattle.sem_safety.proofs.GoingOn.{AnyVpe, may_act, any_grant, any_cut, any_end, moved-sides}
use Rattle.sem_safety.proofs.KeptSteps.{Takes, blind-act, facts-blind, local_step-kept}
use Rattle.sem_safety.proofs.Layers.{facts, AsksFor, IsKept}
use Rattle.sem_msg.specs.declared.state.Ask.{Ask}
use Rattle.sem_msg.specs.declared.state.Ask.TheVariants.{Obtain as ObtainAsk, Delegate as DelegateAsk}
use Rattle.sem_safety.proofs.Onwards.{Any, AnyPlace, any_call, any_inbox, any_input}

any_ask : (a : Ask) → AsksFor (facts Any AnyPlace) a
any_ask (ObtainAsk place target) = tt
any_ask (DelegateAsk parent object sel) = tt

any_taken : (s : Side) (a : Act) → Takes (facts Any AnyPlace) s a
any_taken s (Calls v) = tt
any_taken s (Upcall v) = λ a there. any_ask a
any_taken s (Fetch j) = tt
any_taken s Handle = any_inbox s.inbox
any_taken s (Resume v) = any_call (parked s v)
any_taken s (Flush j) = tt
any_taken s (Kill v) = tt

module _ (P : Side → Type 0) (kept : IsKept (facts Any AnyPlace) P) (T : Setup) where
  pub step-kept : (i : ℕ) (s : Side) (a : Act) (input : Option Message) → P s → P (local_step T i s a input).side
  step-kept i s a input is = local_step-kept (facts Any AnyPlace) AnyVpe P kept T i s a input (may_act a) is (λ k c held. tt) (any_taken s a)
      (blind-act (facts Any AnyPlace) (facts-blind Any AnyPlace (λ p k. Unit {0}) (λ k. Unit {0})) T s a) (any_end T s a) (any_input input)
      (any_grant (local_step T i s a input).outcome.grant, λ v n may low below. tt, any_cut (local_step T i s a input).outcome.cut)

  pub after-kept : (W : World) (e : Event) → ((i : ℕ) → P (side W i)) → (i : ℕ) → P (side (after T W e) i)
  unfolding after
  after-kept W e each i =
      let x : Step = stepped T W e in
      let V : World = with_side e.kernel x.side W in
      let now : P x.side = step-kept e.kernel (side W e.kernel) e.act (input_of W e.kernel e.act) (each e.kernel) in
      let here : P (side V i) = elim (cases_eq i e.kernel) [
        | inl same ↦ subst P (sym (ap (side V) same ∙ get_or-put_same no_side W.sides e.kernel x.side)) now
        | inr other ↦ subst P (sym (get_or-put_other no_side W.sides e.kernel i x.side other)) (each i)
      ] in
      subst (λ (sides : List Side). P (get_or sides i no_side)) (sym (moved-sides e.kernel (side W e.kernel) e.act V)) here

  pub run-kept : (J : List Entry) (W : World) → ((i : ℕ) → P (side W i)) → (i : ℕ) → P (side (run T W J) i)
  run-kept [] W each i = each i
  run-kept (e ∷ es) W each i = run-kept es (after T W e.event) (after-kept W e.event each) i
