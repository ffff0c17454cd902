-- The number of each ask of an obtain was drawn by a call that asks for its target.
use Rattle.std.proofs.Common.{◌≡◌, ℕ, List, [], ◌∷◌, ◌++◌, Option, Some, None, slice_get, true, ◌<◌, refl, sym, ap, ◌∙◌, subst, arith}
use Rattle.sem_key.specs.PlaceName.{PlaceName}
use Rattle.sem_msg.specs.declared.call.Call.{Call}
use Rattle.sem_msg.specs.declared.call.Call.TheVariants.{Derive, Gate, Obtain, Delegate, OpenSession, AskOffer, Revoke, Bind, Read as ReadCall}
use Rattle.sem_msg.specs.declared.call.Call.TheVariants.{Write as WriteCall, Send as SendCall, Credit, Exit, Clear}
use Rattle.sem_msg.specs.declared.event.Act.{Act}
use Rattle.sem_msg.specs.declared.event.Act.TheVariants.{Call as Calls, Fetch, Handle, Upcall, Resume, Flush, Kill}
use Rattle.sem_msg.specs.declared.entry.Entry.{Entry}
use Rattle.sem_msg.specs.declared.message.Message.{Message}
use Rattle.sem_msg.specs.declared.message.Message.TheVariants.{ObtainReq, ObtainOk, ObtainNo, DelegateReq, DelegatePrepared, DelegateNo, Ack, Orphan, RevokeReq}
use Rattle.sem_msg.specs.declared.message.Message.TheVariants.{RevokeDone, Unlink}
use Rattle.sem_msg.specs.declared.message.Target.{Target}
use Rattle.sem_msg.specs.declared.message.Target.TheVariants.{Sel as SelTarget, Serv as ServTarget, Offer as OfferTarget}
use Rattle.sem_msg.specs.declared.setup.VpeDecl.{VpeDecl}
use Rattle.sem_msg.specs.declared.state.Ask.{Ask}
use Rattle.sem_msg.specs.declared.state.Ask.TheVariants.{Obtain as ObtainAsk, Delegate as DelegateAsk}
use Rattle.sem_msg.specs.declared.state.Parked.TheVariants.{ObtainWait}
use Rattle.sem_msg.specs.Setup.{Setup}
use Rattle.sem_msg.specs.Lookups.{decl, kernel_of, calls_of}
use Rattle.sem_machine.specs.Sides.{Side, row, parked, call_counted}
use Rattle.sem_machine.specs.Calls.{next_place}
use Rattle.sem_machine.specs.Machine.{World, side, start, next_call, is_locally_enabled}
use Rattle.sem_machine.specs.Schedules.{IsSchedule, world_after}
use Rattle.sem_sound.proofs.Named.{kernel-decl}
use Rattle.sem_revoke.proofs.Serving.{enabled-call}
use Rattle.sem_files.specs.Compiled.{SERVER}
use Rattle.sem_fs.specs.Service.{IsService}
use Rattle.sem_fs.specs.Serving.{MayBeAskedFor, IsAskBy, IsMessageBy, IsSideBy, IsWorldBy, IsServedWorld}
use Rattle.sem_fs.specs.Holding.{home}
use Rattle.sem_fs.specs.Going.{AllHold}
use Rattle.sem_fs.specs.Drawings.{IsDrawnBy}
use Rattle.sem_fs.proofs.Lifting.{world-next}
use Rattle.sem_fs.proofs.ServedSteps.{AsksFor, ActPasses, ActAsks}
use Rattle.sem_fs.proofs.ServedWorlds.{start-served, after-served}
use Rattle.sem_fs.proofs.OwnCalls.{ParksAs}
use Rattle.sem_fs.proofs.HoldingSteps.{few, locally, made-so, goes}
use Rattle.sem_fs.proofs.Drawing.{drawn-more}
use Rattle.sem_fs.proofs.AskedCalls.{drew}

-- the place asks for the target: a call that does drew its number
pub record IsAskedFor (T : Setup) (J : List Entry) (place : PlaceName) (target : Target) : Type 0 where
  pub served : MayBeAskedFor T target
  pub index : ℕ
  pub drawn : IsDrawnBy T J place.vpe place.number index
  pub call : Call
  pub at_index : slice_get (calls_of T place.vpe) index ≡ Some call
  pub asks : AsksFor call target

pub asked-serves : (T : Setup) (J : List Entry) (place : PlaceName) (target : Target) → IsAskedFor T J place target → MayBeAskedFor T target
asked-serves T J place target x = x.served

-- A world in which more may be asked for.
module _ (T : Setup) (A B : PlaceName → Target → Type 0) (more : (place : PlaceName) (target : Target) → A place target → B place target) where
  more-ask : (u : ℕ) (a : Ask) → IsAskBy A u a → IsAskBy B u a
  more-ask u (ObtainAsk place target) is = (is.0, more place target is.1)
  more-ask u (DelegateAsk parent object sel) is = is

  more-message : (m : Message) → IsMessageBy T A m → IsMessageBy T B m
  more-message (ObtainReq place target) is = more place target is
  more-message (ObtainOk parent key object) is = is
  more-message (ObtainNo place code) is = is
  more-message (DelegateReq parent object vpe sel) is = is
  more-message (DelegatePrepared parent key) is = is
  more-message (DelegateNo parent code) is = is
  more-message (Ack key accepted) is = is
  more-message (Orphan parent key) is = is
  more-message (RevokeReq key job) is = is
  more-message (RevokeDone job) is = is
  more-message (Unlink parent key) is = is

  more-side : (s : Side) → IsSideBy T A s → IsSideBy T B s
  more-side s is = record {
    asks = λ u a among. more-ask u a (is.asks u a among);
    calls = is.calls;
    pendings = is.pendings;
    outs = λ j m among. more-message m (is.outs j m among);
    inbox = λ from m there. more-message m (is.inbox from m there);
  }

  more-world : (W : World) → IsWorldBy T A W → IsWorldBy T B W
  more-world W is = record { sides = λ i. more-side (side W i) (is.sides i); links = λ i j m among. more-message m (is.links i j m among) }

pub asked-start : (T : Setup) → IsWorldBy T (IsAskedFor T []) (start T)
asked-start T = start-served T (IsAskedFor T []) (asked-serves T [])

module _ (T : Setup) (S : IsService T) (J : List Entry) (e : Entry) (runs' : IsSchedule T (J ++ e ∷ [])) (served : IsServedWorld T (world_after T J))
    (passes : ActPasses T e.event.kernel (side (world_after T J) e.event.kernel) e.event.act) (H : AllHold T J) where
  abbrev J' : List Entry
  J' = J ++ e ∷ []

  abbrev W : World
  W = world_after T J

  abbrev i : ℕ
  i = e.event.kernel

  abbrev here : Side
  here = side W i

  -- a VPE that calls is a client
  abbrev pub Caller : ℕ → Type 0
  Caller v = (d : VpeDecl) × (decl T v ≡ Some d) × (v ≡ SERVER → ⊥) × (kernel_of T v ≡ i)

  pub caller : (v : ℕ) (c : Call) → e.event.act ≡ Calls v → next_call T here v ≡ Some c → Caller v
  caller v c act next =
      let at = enabled-call T i here v (subst (λ a. is_locally_enabled T i here a ≡ true) act (locally T S J e runs' served passes)) in
      let d = kernel-decl T S.setup v (less i (kernel_of T v) (few T S J e runs' served passes) at.0) in (
        d.0,
        d.1,
        λ same. (let none : ◌≡◌ {A = Option Call} None (Some c) = sym (ap (λ cs. slice_get cs (row here SERVER).next_call) S.rests)
            ∙ (ap (next_call T here) (sym same) ∙ next) in absurd cc),
        at.0,
      )
    where
      less : (a b : ℕ) → a < T.kernels → b ≡ a → b < T.kernels
      less a b low same = omega (arith, low, same)

  more : (place : PlaceName) (target : Target) → IsAskedFor T J place target → IsAskedFor T J' place target
  more place target x =
      record {
        served = x.served;
        index = x.index;
        drawn = drawn-more T J place.vpe place.number e x.index x.drawn;
        call = x.call;
        at_index = x.at_index;
        asks =
            x.asks;
      }

  call-asks : (v : ℕ) → e.event.act ≡ Calls v → (c : Call) → next_call T here v ≡ Some c → (target : Target) → MayBeAskedFor T target → AsksFor c target
      → IsAskedFor T J' (next_place T (call_counted v here) v) target
  call-asks v act c next target so asks =
      record {
        served = so;
        index = (row (home T W v) v).next_call;
        drawn = by_call c refl target asks (goes T S J e runs' served passes v who.0 who.1 who.3 who.2 (H v who.0 who.1 who.2) act c next').1;
        call = c;
        at_index = next';
        asks = asks;
      }
    where
      who : Caller v
      who = caller v c act next

      next' : next_call T (home T W v) v ≡ Some c
      next' = ap (λ j. next_call T (side W j) v) who.3 ∙ next

      drew-it : (number dst : ℕ) → parked (home T (world_after T J') v) v ≡ Some (ObtainWait number dst) → number ≡ (row (call_counted v here) v).next_number
          → IsDrawnBy T J' v (row (call_counted v here) v).next_number (row (home T W v) v).next_call
      drew-it number dst parks numbered = subst (λ n. IsDrawnBy T J' v n (row (home T W v) v).next_call) numbered
          (drew T S J e runs' served passes v who.0 who.1 who.2 (H v who.0 who.1 who.2) act c next' number dst parks numbered)

      by_call : (c' : Call) → c' ≡ c → (target : Target) → AsksFor c' target → ParksAs (call_counted v here) v c' (parked (home T (world_after T J') v) v)
          → IsDrawnBy T J' v (row (call_counted v here) v).next_number (row (home T W v) v).next_call
      by_call (OpenSession dst name) is (ServTarget service) asks parks = drew-it parks.0 dst parks.1 parks.2
      by_call (AskOffer dst session index) is (OfferTarget service index') asks parks = drew-it parks.0 dst parks.1 parks.2
      by_call (OpenSession dst name) is (SelTarget vpe sel) asks parks = absurd asks
      by_call (OpenSession dst name) is (OfferTarget service index) asks parks = absurd asks
      by_call (AskOffer dst session index) is (SelTarget vpe sel) asks parks = absurd asks
      by_call (AskOffer dst session index) is (ServTarget service) asks parks = absurd asks
      by_call (Delegate src w dst) is target asks parks = absurd asks
      by_call (Revoke src) is target asks parks = absurd asks
      by_call (Bind ep src) is target asks parks = absurd asks
      by_call (ReadCall ep off len) is target asks parks = absurd asks
      by_call (WriteCall ep off len) is target asks parks = absurd asks
      by_call (Derive src dst off len rights) is target asks parks = absurd asks
      by_call (Gate src dst label credits) is target asks parks = absurd asks
      by_call (Obtain dst w src) is target asks parks = absurd asks
      by_call (SendCall ep len) is target asks parks = absurd asks
      by_call (Credit ep) is target asks parks = absurd asks
      by_call Exit is target asks parks = absurd asks
      by_call (Clear src) is target asks parks = absurd asks

  act-asks : (a : Act) → e.event.act ≡ a → ActAsks T (IsAskedFor T J') (asked-serves T J') here a
  act-asks (Calls v) act = λ c next target so asks. call-asks v act c next target so asks
  act-asks (Fetch j) act = tt
  act-asks Handle act = tt
  act-asks (Upcall v) act = tt
  act-asks (Resume v) act = tt
  act-asks (Flush j) act = tt
  act-asks (Kill v) act = tt

  pub asked-next : IsWorldBy T (IsAskedFor T J) W → IsWorldBy T (IsAskedFor T J') (world_after T J')
  asked-next is =
      subst (IsWorldBy T (IsAskedFor T J')) (sym (world-next T J e))
      (after-served T (IsAskedFor T J') (asked-serves T J') W (more-world T (IsAskedFor T J) (IsAskedFor T J') more W is) e
      (made-so T S J e runs' served passes) passes
      (act-asks e.event.act refl))
