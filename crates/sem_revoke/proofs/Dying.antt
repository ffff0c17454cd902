-- A declared VPE that is dead has ended: it was killed, or called `exit`.
use Rattle.sem_key.specs.declared.key.Kind.TheVariants.{Mem as MemKind}
use Rattle.std.proofs.lemmas.List.FromFn.{get_or-map-range_with_len}
use Rattle.sem_machine.proofs.FirstNumbers.{owner-is}
use Rattle.sem_key.specs.MembershipTable.{owner_at}
use Rattle.sem_machine.proofs.Folds.{in_turn-keeps}
use Rattle.sem_msg.specs.Lookups.{pe_owner}
use Rattle.sem_msg.specs.VpeRows.{new_vpe, root_held}
use Rattle.sem_msg.specs.declared.setup.Root.{Root}
use Rattle.sem_msg.specs.declared.setup.VpeDecl.{VpeDecl}
use Rattle.std.proofs.Common.{◌≡◌, ◌⊎◌, ℕ, ◌+◌, ◌++◌, true, false, List, [], ◌∷◌, Option, Some, None, get_or, append-nil, append_assoc, refl, sym, ap, ◌∙◌}
use Rattle.std.proofs.Common.{subst, inl, inr, arith, eq-eqb, ◌<◌}
use Rattle.std.specs.Prelude.{◌==◌}
use Rattle.std.specs.List.{Contains, filter}
use Rattle.std.proofs.lemmas.Bool.{cases_eq, true≢false}
use Rattle.std.proofs.lemmas.List.Elements.{Contains-append_right, All-contains}
use Rattle.sem_key.specs.KeyName.{KeyName}
use Rattle.sem_key.specs.declared.object.Object.TheVariants.{Recv}
use Rattle.sem_key.specs.Lists.{put, in_turn}
use Rattle.sem_key.proofs.Puts.{get_or-put_same, get_or-put_other}
use Rattle.sem_key.proofs.Members.{Contains-head, list_any-at, Contains-nil, Contains-cons_cases, Contains-filter}
use Rattle.sem_msg.specs.declared.call.Call.{Call}
use Rattle.sem_msg.specs.declared.call.Call.TheVariants.{Derive, Gate, Obtain, Delegate, OpenSession, AskOffer, Revoke, Bind, Read, Write, Send as SendCall}
use Rattle.sem_msg.specs.declared.call.Call.TheVariants.{Credit, Exit, Clear}
use Rattle.sem_msg.specs.declared.entry.Entry.{Entry}
use Rattle.sem_msg.specs.declared.event.Act.{Act}
use Rattle.sem_msg.specs.declared.event.Act.TheVariants.{Call as Calls, Fetch, Handle, Upcall, Resume, Flush, Kill}
use Rattle.sem_msg.specs.declared.message.Message.{Message}
use Rattle.sem_msg.specs.declared.message.Message.TheVariants.{ObtainReq, ObtainOk, ObtainNo, DelegateReq, DelegatePrepared, DelegateNo, Ack, Orphan, RevokeReq}
use Rattle.sem_msg.specs.declared.message.Message.TheVariants.{RevokeDone, Unlink}
use Rattle.sem_msg.specs.declared.state.Ask.{Ask}
use Rattle.sem_msg.specs.declared.state.Ask.TheVariants.{Obtain as ObtainAsk, Delegate as DelegateAsk}
use Rattle.sem_msg.specs.declared.state.Parked.{Parked}
use Rattle.sem_msg.specs.declared.state.Parked.TheVariants.{ObtainWait, ObtainReady, ObtainCancelled, DelegateWait, DelegateReady, RevokeWait, Ready}
use Rattle.sem_msg.specs.Rows.{VpeRow, no_vpe}
use Rattle.sem_msg.specs.Setup.{Setup, IsSetup, IsVpeDecl, root_key}
use Rattle.sem_machine.specs.Sides.{Side, row, parked, is_alive, call_counted, ask_taken, no_side, cap_added}
use Rattle.sem_machine.specs.Machine.{World, side, start, next_call, local_step, input_of, start_side, empty_side, root_added, vpe_added, vpe_fresh}
use Rattle.sem_machine.specs.Schedules.{IsSchedule, world_after}
use Rattle.sem_machine.specs.Journals.{ends, has_ended}
use Rattle.sem_safety.proofs.CarryingWorlds.{Ends, entry-dies}
use Rattle.sem_safety.proofs.GoingOn.{AnyVpe, may_act, entry-enabled}
use Rattle.sem_safety.proofs.KeptRows.{CallGives}
use Rattle.sem_safety.proofs.KeptSteps.{Takes, Dies, AskGives, ActGives, local_step-kept}
use Rattle.sem_safety.proofs.Layers.{Facts, IsKept, Brings, BringsIn, BringsFrom, Awaits, AsksFor, InGrant, InCut, facts_of}
use Rattle.sem_revoke.proofs.Lasting.{all-caused, side-here, side-other}

-- facts of who ends alone
abbrev ending : (ℕ → Type 0) → Facts
ending ends' = record {
  key = λ k o. Unit {0};
  acked = λ k. Unit {0};
  place = λ v n. Unit {0};
  asked = λ v n. Unit {0};
  calls = λ v. Unit {0};
  ends = ends';
  offered = λ k o. Unit {0};
  handed = λ o. Unit {0};
  pends = λ p. Unit {0};
  prepared = λ p k. Unit {0};
  link = λ p k. Unit {0};
  doomed = λ k. Unit {0};
  given = Recv 0;
}

module _ (v : ℕ) (Ended : Type 0) where
  abbrev E : Facts
  E = ending (λ w. w ≡ v → Ended)

  -- it lives, or has ended
  abbrev pub Lives : Side → Type 0
  Lives t = ((row t v).alive ≡ true) ⊎ Ended

  row-lives : (t : Side) → Lives t → (w : ℕ) (r : VpeRow) → r.alive ≡ (row t w).alive → Lives (record t { vpes = put no_vpe t.vpes w r })
  row-lives t (inr is) w r same = inr is
  row-lives t (inl is) w r same = elim (cases_eq v w) [
    | inl here ↦ inl (ap (λ n. (get_or (put no_vpe t.vpes w r) n no_vpe).alive) here
        ∙ (ap (λ (x : VpeRow). x.alive) (get_or-put_same no_vpe t.vpes w r) ∙ (same ∙ (ap (λ n. (row t n).alive) (sym here) ∙ is))))
    | inr other ↦ inl (ap (λ (x : VpeRow). x.alive) (get_or-put_other no_vpe t.vpes w v r other) ∙ is)
  ]

  buried-lives : (t : Side) → Lives t → (w : ℕ) → (w ≡ v → Ended) →
      Lives (record t { vpes = put no_vpe t.vpes w (record (row t w) { alive = false; asks = [] }) })
  buried-lives t is w ends' = elim (cases_eq v w) [
    | inl here ↦ inr (ends' (sym here))
    | inr other ↦ elim is [
      | inl lives ↦ inl (ap (λ (x : VpeRow). x.alive) (get_or-put_other no_vpe t.vpes w v (record (row t w) { alive = false; asks = [] }) other) ∙ lives)
      | inr over ↦ inr over
    ]
  ]

  living : IsKept E Lives
  living = record {
    keeps_counted = λ s is w. row-lives s is w (record (row s w) { next_call = (row s w).next_call + 1 }) refl;
    keeps_drawn = λ s is w. row-lives s is w (record (row s w) { next_number = (row s w).next_number + 1 }) refl;
    keeps_slot = λ s is w sel state of_vpe. row-lives s is w _ refl;
    keeps_parked = λ s is w p here. is;
    keeps_unparked = λ s is w. is;
    keeps_asked = λ s is w a here. row-lives s is w _ refl;
    keeps_taken = λ s is w. row-lives s is w _ refl;
    keeps_buried = λ s is w ends'. buried-lives s is w ends';
    keeps_bound = λ s is w ep src c held unmarked here. is;
    keeps_rung = λ s is w ep f. is;
    keeps_added = λ s is c here childless unmarked. is;
    keeps_linked = λ s is p k here. is;
    keeps_unlinked = λ s is p k. is;
    keeps_marked = λ s is ks j here. is;
    keeps_restored = λ s is k. is;
    keeps_removed = λ s is j. is;
    keeps_pending_added = λ s is p pends. is;
    keeps_pending_removed = λ s is k. is;
    keeps_opened = λ s is root up waiters keep. is;
    keeps_changed = λ s is j f same. is;
    keeps_left = λ s is j w. is;
    keeps_closed = λ s is j. is;
    keeps_send = λ s is j m here. is;
    keeps_sent = λ s is j. is;
    keeps_inbox = λ s is message here. is;
    of_link = λ s is c among k child. tt;
    spreads = λ p k here doomed. tt;
    asks = λ w n calls is. tt;
    offers = λ k o is. tt;
    prepares = λ parent k object sel offered place handed. (tt, tt);
    acks = λ parent k prepared offered is. tt;
    of_pending = λ s is k p there acked. tt;
  }

  any_brings : (m : Message) → Brings E m
  any_brings (ObtainReq place target) = tt
  any_brings (ObtainOk parent key object) = tt
  any_brings (ObtainNo place code) = tt
  any_brings (DelegateReq parent object vpe sel) = tt
  any_brings (DelegatePrepared parent key) = tt
  any_brings (DelegateNo parent code) = tt
  any_brings (Ack key true) = tt
  any_brings (Ack key false) = tt
  any_brings (Orphan parent key) = tt
  any_brings (RevokeReq key job) = tt
  any_brings (RevokeDone job) = tt
  any_brings (Unlink parent key) = tt

  any_in : (o : Option Message) → BringsIn E o
  any_in None = tt
  any_in (Some m) = any_brings m

  any_from : (o : Option (ℕ × Message)) → BringsFrom E o
  any_from None = tt
  any_from (Some m) = any_brings m.1

  any_awaits : (p : Option Parked) → Awaits E p
  any_awaits None = tt
  any_awaits (Some (ObtainWait number sel)) = tt
  any_awaits (Some (ObtainReady key parent object sel)) = tt
  any_awaits (Some ObtainCancelled) = tt
  any_awaits (Some (DelegateWait parent)) = tt
  any_awaits (Some (DelegateReady parent key)) = tt
  any_awaits (Some (RevokeWait job)) = tt
  any_awaits (Some (Ready code)) = tt

  any_asks : (a : Ask) → AsksFor E a
  any_asks (ObtainAsk place target) = tt
  any_asks (DelegateAsk parent object sel) = tt

  takes : (s : Side) (a : Act) → Takes E s a
  takes s (Calls w) = tt
  takes s (Upcall w) = λ a there. any_asks a
  takes s (Fetch j) = tt
  takes s Handle = any_from s.inbox
  takes s (Resume w) = any_awaits (parked s w)
  takes s (Flush j) = tt
  takes s (Kill w) = tt

  call-gives : (s : Side) (w : ℕ) (c : Call) → (c ≡ Exit → w ≡ v → Ended) → CallGives E s w c
  call-gives s w (Derive src dst off len rights) ends' = λ p held k is. tt
  call-gives s w (Gate src dst label credits) ends' = λ p held k is. tt
  call-gives s w (Obtain dst u src) ends' = tt
  call-gives s w (Delegate src u dst) ends' = tt
  call-gives s w (OpenSession dst name) ends' = tt
  call-gives s w (AskOffer dst session index) ends' = tt
  call-gives s w (Revoke src) ends' = tt
  call-gives s w (Bind ep src) ends' = tt
  call-gives s w (Read ep off len) ends' = tt
  call-gives s w (Write ep off len) ends' = tt
  call-gives s w (SendCall ep len) ends' = tt
  call-gives s w (Credit ep) ends' = tt
  call-gives s w Exit ends' = ends' refl
  call-gives s w (Clear src) ends' = tt

  ask-gives : (T : Setup) (s : Side) (w : ℕ) (a : Ask) → AskGives E T s w a
  ask-gives T s w (ObtainAsk place target) = λ p held k is. tt
  ask-gives T s w (DelegateAsk parent object sel) = (λ k is. tt, tt)

  -- who ends by an act
  abbrev pub ActEnds : Setup → Side → Act → Type 0
  ActEnds T s (Calls w) = next_call T s w ≡ Some Exit → w ≡ v → Ended
  ActEnds T s (Kill w) = w ≡ v → Ended
  ActEnds T s (Fetch j) = Unit {0}
  ActEnds T s Handle = Unit {0}
  ActEnds T s (Upcall w) = Unit {0}
  ActEnds T s (Resume w) = Unit {0}
  ActEnds T s (Flush j) = Unit {0}

  gives : (T : Setup) (s : Side) (a : Act) → ActEnds T s a → ActGives E T s a
  gives T s (Calls w) ends' = λ c there. call-gives (call_counted w s) w c (λ exit. ends' (there ∙ ap Some exit))
  gives T s (Upcall w) ends' = λ a there. ask-gives T (ask_taken w s) w a
  gives T s (Resume w) ends' = λ parent key there. tt
  gives T s (Fetch j) ends' = tt
  gives T s Handle ends' = tt
  gives T s (Flush j) ends' = tt
  gives T s (Kill w) ends' = ends'

  dies : (T : Setup) (s : Side) (a : Act) → Dies E T s a
  dies T s (Calls w) = λ exits k same. tt
  dies T s (Kill w) = λ k same. tt
  dies T s (Upcall w) = tt
  dies T s (Fetch j) = tt
  dies T s Handle = tt
  dies T s (Resume w) = tt
  dies T s (Flush j) = tt

  in-grant : (o : Option (KeyName × KeyName)) → InGrant E o
  in-grant None = tt
  in-grant (Some g) = (tt, tt)

  in-cut : (o : Option KeyName) → InCut E o
  in-cut None = tt
  in-cut (Some k) = tt

  pub step-lives : (T : Setup) (i : ℕ) (s : Side) (a : Act) (input : Option Message) → ActEnds T s a → Lives s → Lives (local_step T i s a input).side
  step-lives T i s a input ends' is =
      local_step-kept E AnyVpe Lives living T i s a input (may_act a) is (λ k p held. tt) (takes s a) (gives T s a ends') (dies T s a) (any_in input)
      (in-grant (local_step T i s a input).outcome.grant, λ w n may low below. tt, in-cut (local_step T i s a input).outcome.cut)

-- At the start each declared VPE lives.

root-lives : (v : ℕ) (d : VpeDecl) (r : Root) (t : Side) → Lives v ⊥ t → Lives v ⊥ (root_added d r t)
root-lives v d r t is =
    row-lives v ⊥ (cap_added (record {
      key = root_key d (row t d.vpe).next_number r;
      parent = None;
      children = [];
      mark = None;
      selector = r.sel;
      object = r.object;
    }) t) is d.vpe (root_held d r (row t d.vpe)) refl

added-lives : (v : ℕ) (d : VpeDecl) (s : Side) → (d.vpe ≡ v → ⊥) → Lives v ⊥ s → Lives v ⊥ (vpe_added d s)
added-lives v d s other is = in_turn-keeps (Lives v ⊥) (root_added d) (λ r t here. root-lives v d r t here) d.roots (vpe_fresh d s) (elim is [
  | inl lives ↦ inl (ap (λ (x : VpeRow). x.alive) (get_or-put_other no_vpe s.vpes d.vpe v new_vpe (λ same. other (sym same))) ∙ lives)
  | inr none ↦ absurd none
])

new-lives : (d : VpeDecl) (s : Side) → Lives d.vpe ⊥ (vpe_added d s)
new-lives d s = in_turn-keeps (Lives d.vpe ⊥) (root_added d) (λ r t here. root-lives d.vpe d r t here) d.roots (vpe_fresh d s)
    (inl (ap (λ (x : VpeRow). x.alive) (get_or-put_same no_vpe s.vpes d.vpe new_vpe)))

again-lives : (v : ℕ) (d : VpeDecl) (s : Side) → Lives v ⊥ s → Lives v ⊥ (vpe_added d s)
again-lives v d s is = elim (cases_eq d.vpe v) [
  | inl same ↦ subst (λ w. Lives w ⊥ (vpe_added d s)) same (new-lives d s)
  | inr other ↦ added-lives v d s other is
]

all-live : (ds : List VpeDecl) (d : VpeDecl) (s : Side) → Contains ds d → Lives d.vpe ⊥ (in_turn vpe_added ds s)
unfolding in_turn
all-live [] d s among = absurd (Contains-nil d among)
all-live (x ∷ xs) d s among = elim (Contains-cons_cases x xs d among) [
  | inl same ↦ in_turn-keeps (Lives d.vpe ⊥) vpe_added (λ y t here. again-lives d.vpe y t here) xs (vpe_added x s)
      (subst (λ (y : VpeDecl). Lives y.vpe ⊥ (vpe_added x s)) same (new-lives x s))
  | inr later ↦ all-live xs d (vpe_added x s) later
]

started-lives : (T : Setup) → IsSetup T → (d : VpeDecl) → Contains T.vpes d → Lives d.vpe ⊥ (side (start T) (pe_owner T d.pe))
unfolding start start_side
started-lives T valid d among =
    let i : ℕ = pe_owner T d.pe in
    let declared : IsVpeDecl T d = All-contains (IsVpeDecl T) T.vpes d valid.vpes among in
    let few : i < T.kernels =
    owner-is T.kernels (owner_at T.owners d.pe) declared.owned
    (λ j there. subst (λ n. j < n) valid.same_kernels (valid.membership.owners_exist d.pe j there)) in
    let at : side (start T) i ≡ start_side T i = get_or-map-range_with_len (start_side T) 0 T.kernels i i no_side few (omega arith) in
    subst (Lives d.vpe ⊥) (sym at) (all-live (filter (λ (x : VpeDecl). pe_owner T x.pe == i) T.vpes) d (empty_side T)
    (Contains-filter (λ (x : VpeDecl). pe_owner T x.pe == i) T.vpes d among (eq-eqb i i refl)))

-- Along the journal.
module _ (T : Setup) (valid : IsSetup T) (J : List Entry) (runs : IsSchedule T J) (v j : ℕ) where
  abbrev Ended : Type 0
  Ended = has_ended J v ≡ true

  abbrev Over : Facts
  Over = facts_of (λ k. Unit {0}) (λ w n. Unit {0}) (λ p k. Unit {0}) (λ k. has_ended J k.vpe ≡ true)

  next-lives : (before : List Entry) (e : Entry) (later : List Entry) → J ≡ before ++ e ∷ later → Lives v Ended (side (world_after T before) j) →
      Lives v Ended (side (world_after T (before ++ e ∷ [])) j)
  next-lives before e later parts is =
      let W : World = world_after T before in
      let i : ℕ = e.event.kernel in
      let caused = all-caused T valid J runs before (e ∷ later) parts in
      let enabled = entry-enabled T before (start T) e later (subst (IsSchedule T) parts runs) in
      elim (cases_eq j i) [
        | inl here ↦ subst (Lives v Ended) (sym (side-here T valid J runs before e later parts caused j here))
            (step-lives v Ended T i (side W i) e.event.act (input_of W i e.event.act)
            (who e.event.act (entry-dies Over T W e.event (subst (Ends Over) enabled.2 over))) (subst (λ n. Lives v Ended (side W n)) here is))
        | inr away ↦ subst (Lives v Ended) (sym (side-other T valid J runs before e later parts caused j away)) is
      ]
    where
      over : (w : ℕ) → ends w e.event.act e.detail ≡ true → (k : KeyName) → k.vpe ≡ w → has_ended J k.vpe ≡ true
      over w ends' k same = ap (has_ended J) same
          ∙ list_any-at (λ (x : Entry). ends w x.event.act x.detail) J e
          (subst (λ xs. Contains xs e) (sym parts) (Contains-append_right before (e ∷ later) e (Contains-head e later))) ends'

      who : (a : Act) → Dies Over T (side (world_after T before) e.event.kernel) a → ActEnds v Ended T (side (world_after T before) e.event.kernel) a
      who (Calls w) dies' = λ exits same. subst (λ u. has_ended J u ≡ true) same (dies' exits (record { pe = 0; vpe = w; kind = MemKind; number = 0 }) refl)
      who (Kill w) dies' = λ same. subst (λ u. has_ended J u ≡ true) same (dies' (record { pe = 0; vpe = w; kind = MemKind; number = 0 }) refl)
      who (Fetch n) dies' = tt
      who Handle dies' = tt
      who (Upcall w) dies' = tt
      who (Resume w) dies' = tt
      who (Flush n) dies' = tt

  lives-from : (xs later : List Entry) → J ≡ xs ++ later → Lives v Ended (side (world_after T xs) j) → Lives v Ended (side (world_after T J) j)
  lives-from xs [] parts is = subst (λ K. Lives v Ended (side (world_after T K) j)) (sym (parts ∙ append-nil xs)) is
  lives-from xs (e ∷ later) parts is = lives-from (xs ++ e ∷ []) later (parts ∙ sym (append_assoc xs (e ∷ []) later)) (next-lives xs e later parts is)

pub dead-ended : (T : Setup) → IsSetup T → (J : List Entry) → IsSchedule T J → (d : VpeDecl) → Contains T.vpes d →
    is_alive (side (world_after T J) (pe_owner T d.pe)) d.vpe ≡ false → has_ended J d.vpe ≡ true
dead-ended T valid J runs d among dead =
    elim (lives-from T valid J runs d.vpe (pe_owner T d.pe) [] J refl (elim (started-lives T valid d among) [ inl lives ↦ inl lives | inr none ↦ absurd none ])) [
      | inl lives ↦ absurd (true≢false (sym lives ∙ dead))
      | inr over ↦ over
    ]
