-- All memory of a file service is whole extents with all rights, and all sessions are with its server.
use Rattle.std.proofs.Common.{◌≡◌, ℕ, List, [], ◌∷◌, ◌++◌, drop, map, replicate, Option, Some, None, slice_get, refl, sym, subst}
use Rattle.std.specs.List.{All, Contains, range_with_len}
use Rattle.std.specs.Option.{option_and_then}
use Rattle.std.proofs.lemmas.List.Elements.{All-contains, All-nil, All-cons, All-replicate}
use Rattle.sem_key.specs.declared.limits.TheConstants.{RIGHTS}
use Rattle.sem_key.specs.declared.object.Object.TheVariants.{Mem}
use Rattle.sem_key.specs.KeyName.{KeyName, key_eq}
use Rattle.sem_key.specs.PlaceName.{PlaceName}
use Rattle.sem_key.specs.Capability.{Capability}
use Rattle.sem_key.specs.CapList.{fresh}
use Rattle.sem_key.proofs.Members.{found, Contains-from_filter}
use Rattle.sem_msg.specs.declared.call.Call.{Call}
use Rattle.sem_msg.specs.declared.call.Call.TheVariants.{Derive, Gate, Obtain, Delegate, OpenSession, AskOffer, Revoke, Bind, Read as ReadCall}
use Rattle.sem_msg.specs.declared.call.Call.TheVariants.{Write as WriteCall, Send as SendCall, Credit, Exit, Clear}
use Rattle.sem_msg.specs.declared.entry.Entry.{Entry}
use Rattle.sem_msg.specs.declared.event.Act.{Act}
use Rattle.sem_msg.specs.declared.event.Act.TheVariants.{Call as Calls, Fetch, Handle, Upcall, Resume, Flush, Kill}
use Rattle.sem_msg.specs.declared.message.Message.{Message}
use Rattle.sem_msg.specs.declared.message.Target.{Target}
use Rattle.sem_msg.specs.declared.message.Target.TheVariants.{Sel as SelTarget, Serv as ServTarget, Offer as OfferTarget}
use Rattle.sem_msg.specs.declared.setup.Root.{Root}
use Rattle.sem_msg.specs.declared.setup.VpeDecl.{VpeDecl}
use Rattle.sem_msg.specs.declared.state.Ask.{Ask}
use Rattle.sem_msg.specs.declared.state.Ask.TheVariants.{Obtain as ObtainAsk, Delegate as DelegateAsk}
use Rattle.sem_msg.specs.declared.state.Slot.{Slot}
use Rattle.sem_msg.specs.declared.state.Slot.TheVariants.{Free, Held, Promised}
use Rattle.sem_msg.specs.Rows.{no_vpe}
use Rattle.sem_msg.specs.Setup.{Setup}
use Rattle.sem_msg.specs.Lookups.{own_vpes, runs_on, offered}
use Rattle.sem_msg.specs.VpeRows.{new_vpe, next_root, root_held}
use Rattle.sem_machine.specs.Sides.{Side, row, slot, own, cap, cap_in, with_row, cap_added, call_counted, ask_taken}
use Rattle.sem_machine.specs.Upcalls.{source, given}
use Rattle.sem_machine.specs.Machine.{World, side, start, start_side, empty_side, root_added, vpe_added, vpe_fresh, entry_of}
use Rattle.sem_machine.specs.Schedules.{IsSchedule, world_after}
use Rattle.sem_machine.proofs.Folds.{in_turn-keeps_each}
use Rattle.sem_safety.proofs.CarryingWorlds.{side-in, after-in}
use Rattle.sem_safety.proofs.Layers.{Facts, AsksFor, Awaits, Brings, InEndpoint, InGrant, InCut}
use Rattle.sem_safety.proofs.Carrying.{AreFitting, InCap, InRow, InEndpoints, BringsAll, InSide, InWorld, All-drop_one, no_vpe-in, row-in, put_row-in}
use Rattle.sem_safety.proofs.Carrying.{put_endpoints-in, cap_added-in}
use Rattle.sem_safety.proofs.GoingOn.{AnyVpe, may_act}
use Rattle.sem_safety.proofs.KeptRows.{CallGives}
use Rattle.sem_safety.proofs.KeptSteps.{Dies, AskGives, ActGives}
use Rattle.sem_files.specs.Files.{EXTENT}
use Rattle.sem_fs.specs.Service.{IsWholeExtent, IsService, MayComeNext}
use Rattle.sem_fs.specs.Serving.{MayBeAskedFor, IsServedWorld}
use Rattle.sem_fs.proofs.Lifting.{world-next}
use Rattle.sem_fs.proofs.ServedSteps.{ActPasses, ask-among}
use Rattle.sem_fs.proofs.HoldingSteps.{order}

abbrev pub whole : Facts
whole = record {
  key = λ k o. IsWholeExtent o;
  acked = λ k. Unit {0};
  place = λ v n. Unit {0};
  asked = λ v n. Unit {0};
  calls = λ v. Unit {0};
  ends = λ v. Unit {0};
  offered = λ k o. IsWholeExtent o;
  handed = λ o. Unit {0};
  pends = λ p. IsWholeExtent p.object;
  prepared = λ p k. Unit {0};
  link = λ p k. Unit {0};
  doomed = λ k. Unit {0};
  given = Mem 0 EXTENT RIGHTS;
}

whole-fitting : AreFitting whole
whole-fitting = record {
  spreads = λ p k l d. tt;
  asks = λ v m calls is. tt;
  offers = λ k x is. is;
  prepares = λ parent key object sel offered place handed. (offered, tt);
  acks = λ parent key prepared offered is. tt;
  settles = λ p is acked. is;
}

-- The start: the roots are whole.
module _ (T : Setup) (S : IsService T) where
  root-whole : (d : VpeDecl) → Contains T.vpes d → (r : Root) → Contains d.roots r → (s : Side) → InSide whole s → InSide whole (root_added d r s)
  root-whole d declared r among s is =
      let c : Capability = fresh (next_root d r (row s d.vpe)) None r.sel r.object in
      put_row-in whole (cap_added c s) (cap_added-in whole s is c (S.whole d r declared among) refl refl) d.vpe (root_held d r (row s d.vpe))
      (row-in whole s is d.vpe)

  vpe-whole : (d : VpeDecl) → Contains T.vpes d → (s : Side) → InSide whole s → InSide whole (vpe_added d s)
  vpe-whole d declared s is =
      in_turn-keeps_each (InSide whole) (root_added d) d.roots (λ r among t here. root-whole d declared r among t here) (vpe_fresh d s)
      (put_endpoints-in whole (with_row d.vpe (λ v. new_vpe) s) (put_row-in whole s is d.vpe new_vpe (All-nil (AsksFor whole))) d.vpe (replicate 16 None)
      (All-replicate (InEndpoint whole) 16 None tt))

  side-whole : (i : ℕ) → InSide whole (start_side T i)
  unfolding start_side
  side-whole i = in_turn-keeps_each (InSide whole) vpe_added (own_vpes T i)
      (λ d among s is. vpe-whole d (Contains-from_filter (runs_on T i) T.vpes d among).0 s is)
      (empty_side T) (record {
        caps = All-nil (InCap whole);
        rows = All-replicate (InRow whole) 128 no_vpe (no_vpe-in whole);
        parks = All-replicate (Awaits whole) 128 None tt;
        endpoints = All-replicate (InEndpoints whole) 128 [] (All-nil (InEndpoint whole));
        inbox = tt;
        outs = All-replicate (BringsAll whole) T.kernels [] (All-nil (Brings whole));
        pendings = All-nil whole.pends;
      })

  pub start-whole : InWorld whole (start T)
  unfolding start
  start-whole = record {
    sides = sides_of (range_with_len 0 T.kernels);
    links = All-replicate (λ (r : List (List Message)). All (BringsAll whole) r) T.kernels (replicate T.kernels [])
        (All-replicate (BringsAll whole) T.kernels [] (All-nil (Brings whole)));
  }
    where
      sides_of : (is : List ℕ) → All (InSide whole) (map (start_side T) is)
      sides_of [] = All-nil (InSide whole)
      sides_of (i ∷ is) = All-cons (InSide whole) (start_side T i) (map (start_side T) is) (side-whole i) (sides_of is)

-- the object of what is held
pub held-whole : (s : Side) → InSide whole s → (k : KeyName) (c : Capability) → cap s k ≡ Some c → IsWholeExtent c.object
held-whole s is k c held = (All-contains (InCap whole) s.caps c is.caps (found (λ (x : Capability). key_eq x.key k) s.caps c held).0).key

own-whole : (s : Side) → InSide whole s → (v sel : ℕ) (c : Capability) → own s v sel ≡ Some c → IsWholeExtent c.object
own-whole s is v sel c held = from (slot s v sel) held
  where
    from : (x : Slot) → cap_in s x ≡ Some c → IsWholeExtent c.object
    from Free none = absurd cc
    from Promised none = absurd cc
    from (Held k) some = held-whole s is k c some

module _ (T : Setup) (S : IsService T) (J : List Entry) (e : Entry) (runs' : IsSchedule T (J ++ e ∷ [])) (served : IsServedWorld T (world_after T J))
    (passes : ActPasses T e.event.kernel (side (world_after T J) e.event.kernel) e.event.act) (is : InWorld whole (world_after T J)) where
  abbrev W : World
  W = world_after T J

  abbrev here : Side
  here = side W e.event.kernel

  here-whole : InSide whole here
  here-whole = side-in whole W is e.event.kernel

  call-gives : (v : ℕ) (before : List Call) (c : Call) → MayComeNext T v before c → CallGives whole (call_counted v here) v c
  call-gives v before (Derive src dst off len rights) so = absurd so
  call-gives v before (Gate src dst label credits) so = absurd so
  call-gives v before (Obtain dst w src) so = absurd so
  call-gives v before (Delegate src w dst) so = tt
  call-gives v before (OpenSession dst name) so = tt
  call-gives v before (AskOffer dst session index) so = tt
  call-gives v before (Revoke src) so = tt
  call-gives v before (Bind ep src) so = tt
  call-gives v before (ReadCall ep off len) so = tt
  call-gives v before (WriteCall ep off len) so = tt
  call-gives v before (SendCall ep len) so = absurd so
  call-gives v before (Credit ep) so = absurd so
  call-gives v before Exit so = absurd so
  call-gives v before (Clear src) so = absurd so

  taken-whole : (v : ℕ) → InSide whole (ask_taken v here)
  taken-whole v = put_row-in whole here here-whole v (record (row here v) { asks = drop 1 (row here v).asks })
      (All-drop_one (AsksFor whole) (row here v).asks (row-in whole here here-whole v))

  source-whole : (v : ℕ) (place : PlaceName) (target : Target) → MayBeAskedFor T target → (p : Capability) → source T (ask_taken v here) v target ≡ Some p
      → IsWholeExtent (given target place.vpe p)
  source-whole v place (SelTarget vpe sel) so p from = absurd so
  source-whole v place (ServTarget service) so p from = so
  source-whole v place (OfferTarget service index) so p from = by_offer (offered T service index) from
    where
      by_offer : (o : Option ℕ) → option_and_then (own (ask_taken v here) v) o ≡ Some p → IsWholeExtent p.object
      by_offer None none = absurd cc
      by_offer (Some sel) some = own-whole (ask_taken v here) (taken-whole v) v sel p some

  ask-gives : (v : ℕ) (a : Ask) → slice_get (row here v).asks 0 ≡ Some a → AskGives whole T (ask_taken v here) v a
  ask-gives v (ObtainAsk place target) there = λ p from k so. source-whole v place target
      ((served.sides e.event.kernel).asks v (ObtainAsk place target) (ask-among T v (ObtainAsk place target) here there)).1 p from
  ask-gives v (DelegateAsk parent object sel) there = (
    λ k so. All-contains (AsksFor whole) (row here v).asks (DelegateAsk parent object sel) (row-in whole here here-whole v)
        (ask-among T v (DelegateAsk parent object sel) here there),
    tt,
  )

  act-gives : (a : Act) → e.event.act ≡ a → ActGives whole T here a
  act-gives (Calls v) act = λ c there. let o = order T S J e runs' served passes v c act there in call-gives v o.0 c o.1
  act-gives (Upcall v) act = λ a there. ask-gives v a there
  act-gives (Resume v) act = λ parent key there. (refl, refl)
  act-gives (Fetch j) act = tt
  act-gives Handle act = tt
  act-gives (Flush j) act = tt
  act-gives (Kill v) act = tt

  dies : (a : Act) → Dies whole T here a
  dies (Calls v) = λ exits k same. tt
  dies (Upcall v) = tt
  dies (Fetch j) = tt
  dies Handle = tt
  dies (Resume v) = tt
  dies (Flush j) = tt
  dies (Kill v) = λ k same. tt

  in-grant : (x : Option (KeyName × KeyName)) → InGrant whole x
  in-grant None = tt
  in-grant (Some q) = ((refl, refl), tt)

  in-cut : (x : Option KeyName) → InCut whole x
  in-cut None = tt
  in-cut (Some k) = tt

  pub whole-next : InWorld whole (world_after T (J ++ e ∷ []))
  whole-next =
      subst (InWorld whole) (sym (world-next T J e))
      (after-in whole AnyVpe T W e.event (may_act e.event.act) is whole-fitting (act-gives e.event.act refl) (dies e.event.act)
      (in-grant (entry_of T W e.event).grant)
      (λ v n may low below. tt) (in-cut (entry_of T W e.event).cut))
