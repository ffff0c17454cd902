-- A service that is served stays so by an event whose tests pass, and the event replies with success.
use Rattle.std.proofs.Common.{◌≡◌, ℕ, [], Option, Some, None, refl, sym, ap, ◌∙◌, subst}
use Rattle.std.specs.List.{Contains}
use Rattle.std.specs.Option.{option_map}
use Rattle.std.proofs.lemmas.Option.{same_Some}
use Rattle.sem_key.specs.PlaceName.{PlaceName}
use Rattle.sem_key.specs.CapList.{fresh}
use Rattle.sem_key.proofs.Members.{Contains-nil}
use Rattle.sem_msg.specs.declared.event.Act.{Act}
use Rattle.sem_msg.specs.declared.event.Act.TheVariants.{Call as Calls, Fetch, Handle, Upcall, Resume, Flush, Kill}
use Rattle.sem_msg.specs.declared.entry.Entry.{Entry}
use Rattle.sem_msg.specs.declared.entry.Reply.{Reply}
use Rattle.sem_msg.specs.declared.message.Message.{Message}
use Rattle.sem_msg.specs.declared.message.Target.{Target}
use Rattle.sem_msg.specs.declared.setup.Root.{Root}
use Rattle.sem_msg.specs.declared.setup.VpeDecl.{VpeDecl}
use Rattle.sem_msg.specs.Rows.{VpeRow, no_vpe}
use Rattle.sem_msg.specs.Setup.{Setup}
use Rattle.sem_msg.specs.Lookups.{own_vpes}
use Rattle.sem_msg.specs.VpeRows.{new_vpe, root_held, next_root}
use Rattle.sem_machine.specs.Sides.{Side, no_side, row, cap_added}
use Rattle.sem_machine.specs.Machine.{World, side, start, start_side, empty_side, root_added, vpe_added, vpe_fresh, input_of, after, entry_of, replied_vpe}
use Rattle.sem_machine.proofs.Folds.{in_turn-keeps}
use Rattle.sem_safety.proofs.CarryingWorlds.{stepped}
use Rattle.sem_sound.proofs.Starting.{get_or-replicate}
use Rattle.sem_revoke.proofs.Serving.{tells}
use Rattle.sem_fs.specs.Serving.{MayBeAskedFor, IsMessageBy, IsServedCall, IsSideBy, IsWorldBy, Served}
use Rattle.sem_fs.proofs.Lifting.{IsSpread, after-spread, start-spread, input-among}
use Rattle.sem_fs.proofs.ServedRows.{Succeeds, served-row, served-caps}
use Rattle.sem_fs.proofs.ServedSteps.{ActPasses, IsServedInput, ActAsks, step-succeeds}

module _ (T : Setup) (A : PlaceName → Target → Type 0) (serves : (place : PlaceName) (target : Target) → A place target → MayBeAskedFor T target) where
  abbrev P : Side → Type 0
  P s = IsSideBy T A s

  abbrev Q : Message → Type 0
  Q m = IsMessageBy T A m

  spread : (W : World) → IsWorldBy T A W → IsSpread P Q W
  spread W is = record { sides = is.sides; links = is.links }

  module _ (W : World) (is : IsWorldBy T A W) (e : Entry) (made : e ≡ entry_of T W e.event)
      (passes : ActPasses T e.event.kernel (side W e.event.kernel) e.event.act)
      (asks : ActAsks T A serves (side W e.event.kernel) e.event.act) where
    succeeds : Succeeds T A serves (stepped T W e.event)
    succeeds = step-succeeds T A serves e.event.kernel (side W e.event.kernel) e.event.act (input_of W e.event.kernel e.event.act) (is.sides e.event.kernel)
        (takes (input_of W e.event.kernel e.event.act) refl) asks passes
      where
        takes : (o : Option Message) → input_of W e.event.kernel e.event.act ≡ o → IsServedInput T A serves o
        takes None none = tt
        takes (Some m) there = input-among P Q W (spread W is) e.event.kernel e.event.act m there

    pub after-served : IsWorldBy T A (after T W e.event)
    after-served = let next = after-spread P Q T W e.event (spread W is) succeeds.0 (is.sides e.event.kernel).outs in
        record { sides = next.sides; links = next.links }

    pub reply-succeeds : (r : Reply) → e.reply ≡ Some r → r.code ≡ 0
    reply-succeeds r there = from (stepped T W e.event).outcome.reply refl (sym (tells T W e made).reply ∙ there)
      where
        from : (o : Option ℕ) → (stepped T W e.event).outcome.reply ≡ o
            → option_map {U = Reply} (λ code. record { vpe = replied_vpe e.event.act; code = code }) o ≡ Some r → r.code ≡ 0
        from None at none = absurd cc
        from (Some code) at some = ap (λ (x : Reply). x.code) (sym (same_Some (record { vpe = replied_vpe e.event.act; code = code }) r some))
            ∙ succeeds.1 code at

-- At the start nothing is under way.
module _ (T : Setup) (A : PlaceName → Target → Type 0) (serves : (place : PlaceName) (target : Target) → A place target → MayBeAskedFor T target) where
  no_side-served : IsSideBy T A no_side
  no_side-served = record {
    asks = λ u a among. absurd (Contains-nil a among);
    calls = λ u. tt;
    pendings = λ p among. absurd (Contains-nil p among);
    outs =
        λ j m among. absurd (Contains-nil m among);
    inbox = λ from m some. absurd cc;
  }

  empty-served : IsSideBy T A (empty_side T)
  empty-served = record {
    asks = λ u a among. absurd (Contains-nil a (subst (λ (r : VpeRow). Contains r.asks a) (get_or-replicate 128 no_vpe u) among));
    calls = λ u. subst (IsServedCall T) (sym (get_or-replicate 128 None u)) tt;
    pendings = λ p among. absurd (Contains-nil p among);
    outs = λ j m among. absurd (Contains-nil m (subst (λ ms. Contains ms m) (get_or-replicate T.kernels [] j) among));
    inbox = λ from m some. absurd cc;
  }

  root-served : (d : VpeDecl) (r : Root) (s : Side) → IsSideBy T A s → IsSideBy T A (root_added d r s)
  root-served d r s is =
      let t : Side = cap_added (fresh (next_root d r (row s d.vpe)) None r.sel r.object) s in
      served-row T A serves t (served-caps T A serves s t.caps is) d.vpe (root_held d r (row s d.vpe)) (is.asks d.vpe)

  vpe-served : (d : VpeDecl) (s : Side) → IsSideBy T A s → IsSideBy T A (vpe_added d s)
  vpe-served d s is =
      let one = served-row T A serves s is d.vpe new_vpe (λ a among. absurd (Contains-nil a among)) in
      in_turn-keeps (IsSideBy T A) (root_added d) (root-served d) d.roots (vpe_fresh d s)
      (record { asks = one.asks; calls = one.calls; pendings = one.pendings; outs = one.outs; inbox = one.inbox })

  side-served : (i : ℕ) → IsSideBy T A (start_side T i)
  unfolding start_side
  side-served i = in_turn-keeps (IsSideBy T A) vpe_added vpe-served (own_vpes T i) (empty_side T) empty-served

  pub start-served : IsWorldBy T A (start T)
  start-served = let x = start-spread (IsSideBy T A) (IsMessageBy T A) T no_side-served side-served in record { sides = x.sides; links = x.links }

-- where any place may ask
module _ (T : Setup) where
  pub any-serves : (place : PlaceName) (target : Target) → Served T place target → MayBeAskedFor T target
  any-serves place target is = is

  pub any-asks : (s : Side) (a : Act) → ActAsks T (Served T) any-serves s a
  any-asks s (Calls v) = λ c next target served asks. served
  any-asks s (Fetch j) = tt
  any-asks s Handle = tt
  any-asks s (Upcall v) = tt
  any-asks s (Resume v) = tt
  any-asks s (Flush j) = tt
  any-asks s (Kill v) = tt
