-- Who asks waits: where an ask of an obtain is about, in a queue or on its way, its VPE waits for the answer, or is dead.
use Rattle.sem_key.specs.PlaceName.{PlaceName}
use Rattle.sem_key.specs.declared.key.Kind.TheVariants.{Mem as MemKind}
use Rattle.sem_msg.specs.declared.limits.TheConstants.{ASKS}
use Rattle.std.proofs.Common.{◌≡◌, ◌⊎◌, ℕ, ◌+◌, ◌≤◌, ◌<◌, ◌++◌, true, false, not, ◌&&◌, List, [], ◌∷◌, get_or, Option, Some, None, is_none, append-nil}
use Rattle.std.proofs.Common.{append_assoc, refl, sym, ap, ◌∙◌, subst, inl, inr, arith, nat_lt, length}
use Rattle.std.specs.Prelude.{◌==◌, if◌then◌else◌}
use Rattle.std.specs.List.{All, Contains, sum_by}
use Rattle.std.proofs.lemmas.Bool.{cases_eq, cases_Bool, cond-true, cond_both, and_from, true≢false}
use Rattle.std.proofs.lemmas.List.Elements.{Contains-get_or, All-contains}
use Rattle.std.proofs.lemmas.List.Sums.{sum_by-cons}
use Rattle.sem_key.specs.declared.object.Object.TheVariants.{Recv}
use Rattle.sem_key.specs.KeyName.{KeyName}
use Rattle.sem_key.specs.Lists.{put}
use Rattle.sem_key.proofs.Puts.{get_or-put_same, get_or-put_other}
use Rattle.sem_msg.specs.declared.call.Call.{Call}
use Rattle.sem_msg.specs.declared.call.Call.TheVariants.{Derive, Gate, Obtain, Delegate, OpenSession, AskOffer, Revoke, Bind, Read, Write, Send as SendCall}
use Rattle.sem_msg.specs.declared.call.Call.TheVariants.{Credit, Exit, Clear}
use Rattle.sem_msg.specs.declared.code.Code.TheVariants.{NoService, BadKind}
use Rattle.sem_msg.specs.declared.entry.Entry.{Entry}
use Rattle.sem_msg.specs.declared.event.Act.{Act}
use Rattle.sem_msg.specs.declared.event.Act.TheVariants.{Call as Calls, Fetch, Handle, Upcall, Resume, Flush, Kill}
use Rattle.sem_msg.specs.declared.message.Message.{Message}
use Rattle.sem_msg.specs.declared.message.Message.TheVariants.{ObtainReq, ObtainOk, ObtainNo, DelegateReq, DelegatePrepared, DelegateNo, Ack, Orphan, RevokeReq}
use Rattle.sem_msg.specs.declared.message.Message.TheVariants.{RevokeDone, Unlink}
use Rattle.sem_msg.specs.declared.message.Target.{Target}
use Rattle.sem_msg.specs.declared.message.Target.TheVariants.{Sel as SelTarget, Serv as ServTarget, Offer as OfferTarget}
use Rattle.sem_msg.specs.declared.setup.Service.{Service}
use Rattle.sem_msg.specs.declared.state.Ask.{Ask}
use Rattle.sem_msg.specs.declared.state.Ask.TheVariants.{Obtain as ObtainAsk, Delegate as DelegateAsk}
use Rattle.sem_msg.specs.declared.state.Parked.{Parked}
use Rattle.sem_msg.specs.declared.state.Parked.TheVariants.{ObtainWait, ObtainReady, ObtainCancelled, DelegateWait, DelegateReady, RevokeWait, Ready}
use Rattle.sem_msg.specs.declared.state.Slot.TheVariants.{Free, Promised}
use Rattle.sem_msg.specs.Rows.{Endpoint, VpeRow, no_vpe}
use Rattle.sem_msg.specs.Setup.{Setup, IsSetup}
use Rattle.sem_msg.specs.Lookups.{kernel_of, service_named}
use Rattle.sem_machine.specs.Sides.{Side, no_side, row, parked, is_alive, call_counted, drawn, promised, parked_as, asked, send, ask_taken}
use Rattle.sem_machine.specs.Steps.{Step, answer}
use Rattle.sem_machine.specs.Asks.{target_vpe}
use Rattle.sem_machine.specs.Calls.{obtain_tests, open_tests, offer_tests, next_place, ask_made, call_row}
use Rattle.sem_machine.specs.Machine.{World, side, start, next_call, local_step, local_entry, input_of, after, entry_of, is_enabled}
use Rattle.sem_machine.specs.Schedules.{IsSchedule, world_after}
use Rattle.sem_machine.specs.Living.{InFlight}
use Rattle.sem_machine.proofs.Folds.{option-keeps}
use Rattle.sem_machine.proofs.FirstCodes.{unless-keeps}
use Rattle.sem_machine.proofs.Weighing.{weigh-among}
use Rattle.sem_safety.proofs.Carrying.{AreFitting, InCap, InRow, BringsAll, InSide, InWorld, row-in}
use Rattle.sem_safety.proofs.CarryingWorlds.{stepped, side-in, after-in, start-in, flight-in}
use Rattle.sem_safety.proofs.Drawers.{may_draw}
use Rattle.sem_safety.proofs.GoingOn.{after-onward, entry-enabled, run-append, run-prefix}
use Rattle.sem_safety.proofs.HeldOnce.{weigh-at}
use Rattle.sem_safety.proofs.KeptRows.{CallGives}
use Rattle.sem_safety.proofs.KeptSteps.{Dies, AskGives, ActGives}
use Rattle.sem_safety.proofs.Layers.{Facts, Brings, BringsFrom, Awaits, AsksFor, InEndpoint, InGrant, InCut}
use Rattle.sem_safety.proofs.AskWeights.{waits, free, of_message, of_messages, of_ask, of_asks, of_inbox, of_job, of_side}
use Rattle.sem_safety.proofs.AskWorlds.{of_links}
use Rattle.sem_revoke.proofs.Lasting.{all-caused, side-here, side-other, call-step}
use Rattle.sem_revoke.proofs.ReadyCalls.{single, here-one, calls-unparked, quiet-event}
use Rattle.sem_revoke.proofs.Waits.{parked-here}
use Rattle.sem_revoke.proofs.Weaker.{world-weaker}

-- facts of asks alone
abbrev pub about : (ℕ → ℕ → Type 0) → (ℕ → Type 0) → (ℕ → ℕ → Type 0) → Facts
about place calls asked' = record {
  key = λ k o. Unit {0};
  acked = λ k. Unit {0};
  place = place;
  asked = asked';
  calls = calls;
  ends = λ v. Unit {0};
  offered = λ k o. Unit {0};
  handed = λ o. Unit {0};
  pends = λ p. Unit {0};
  prepared = λ p k. Unit {0};
  link = λ p k. Unit {0};
  doomed = λ k. Unit {0};
  given = Recv 0;
}

-- a living VPE waits for the answer to an ask of that number
abbrev pub Waits : Setup → World → ℕ → ℕ → Type 0
Waits T W v n = is_alive (side W (kernel_of T v)) v ≡ true → (sel : ℕ) × (parked (side W (kernel_of T v)) v ≡ Some (ObtainWait n sel))

-- What a VPE has about, but for itself.

abbrev pub rest : ℕ → Side → ℕ
rest v s = sum_by (of_asks v) s.vpes + (sum_by (of_job v) s.jobs + (of_inbox v s.inbox + sum_by (of_messages v) s.outs))

abbrev frees : ℕ → Side → ℕ
frees v s = free (row s v) (parked s v)

abbrev pub HasAbout : World → ℕ → Type 0
HasAbout W v = 1 ≤ sum_by (rest v) W.sides + of_links v W.links

sides-split : (v : ℕ) (ss : List Side) → sum_by (of_side v) ss ≡ sum_by (frees v) ss + sum_by (rest v) ss
sides-split v [] = refl
sides-split v (s ∷ ss) =
    let one = sum_by-cons (of_side v) s ss in
    let two = sum_by-cons (frees v) s ss in
    let three = sum_by-cons (rest v) s ss in
    let more = sides-split v ss in
    omega (arith, one, two, three, more)

-- a living VPE of which something is about waits
pub about-waits : (T : Setup) → IsSetup T → (J : List Entry) → IsSchedule T J → (v j : ℕ) → HasAbout (world_after T J) v →
    is_alive (side (world_after T J) j) v ≡ true → waits (parked (side (world_after T J) j) v) ≡ true
about-waits T valid J runs v j some alive =
    let W : World = world_after T J in
    let most = single T valid J runs v in
    let split = sides-split v W.sides in
    let part = weigh-at (frees v) no_side refl W.sides j in
    elim (cases_Bool (waits (parked (side W j) v))) [
      | inl busy ↦ busy
      | inr idle ↦
          let one : free (row (side W j) v) (parked (side W j) v) ≡ 1 = cond-true ((row (side W j) v).alive && not (waits (parked (side W j) v))) 1 0
          (and_from (row (side W j) v).alive (not (waits (parked (side W j) v))) alive (ap not idle)) in
          absurd (omega (arith, most, split, part, one, some))
    ]

-- A world that carries the facts, with what is about in hand.
All-seen : {X : Type 0} (P Q : X → Type 0) (xs : List X) → ((x : X) → Contains xs x → P x → Q x) → All P xs → All Q xs
All-seen P Q xs f all = λ n d within. f (get_or xs n d) (Contains-get_or xs n d within) (all n d within)

module _ (A B A' B' : ℕ → ℕ → Type 0) (C C' : ℕ → Type 0) (W : World) (seen : (v n : ℕ) → HasAbout W v → B v n → B' v n) where
  abbrev F : Facts
  F = about A C B

  abbrev G : Facts
  G = about A' C' B'

  brings-seen : (m : Message) → ((v : ℕ) → 1 ≤ of_message v m → HasAbout W v) → Brings F m → Brings G m
  brings-seen (ObtainReq place target) some is = seen place.vpe place.number (some place.vpe (let one = here-one place.vpe in omega (arith, one))) is
  brings-seen (ObtainOk parent k object) some is = tt
  brings-seen (ObtainNo place code) some is = tt
  brings-seen (DelegateReq parent object vpe sel) some is = tt
  brings-seen (DelegatePrepared parent k) some is = tt
  brings-seen (DelegateNo parent code) some is = tt
  brings-seen (Ack k true) some is = tt
  brings-seen (Ack k false) some is = tt
  brings-seen (Orphan parent k) some is = tt
  brings-seen (RevokeReq k job) some is = tt
  brings-seen (RevokeDone job) some is = tt
  brings-seen (Unlink parent k) some is = tt

  asked-seen : (a : Ask) → ((v : ℕ) → 1 ≤ of_ask v a → HasAbout W v) → AsksFor F a → AsksFor G a
  asked-seen (ObtainAsk place target) some is = seen place.vpe place.number (some place.vpe (let one = here-one place.vpe in omega (arith, one))) is
  asked-seen (DelegateAsk parent object sel) some is = tt

  awaits-seen : (p : Option Parked) → Awaits G p
  awaits-seen None = tt
  awaits-seen (Some (ObtainWait number sel)) = tt
  awaits-seen (Some (ObtainReady k parent object sel)) = tt
  awaits-seen (Some ObtainCancelled) = tt
  awaits-seen (Some (DelegateWait parent)) = tt
  awaits-seen (Some (DelegateReady parent k)) = tt
  awaits-seen (Some (RevokeWait job)) = tt
  awaits-seen (Some (Ready code)) = tt

  bound-seen : (e : Option Endpoint) → InEndpoint G e
  bound-seen None = tt
  bound-seen (Some e) = tt

  in-side : (s : Side) → Contains W.sides s → (v : ℕ) → 1 ≤ rest v s → HasAbout W v
  in-side s among v some = let one = weigh-among (rest v) W.sides s among in omega (arith, some, one)

  inbox-seen : (s : Side) → Contains W.sides s → (o : Option (ℕ × Message)) → s.inbox ≡ o → BringsFrom F o → BringsFrom G o
  inbox-seen s among None is here' = tt
  inbox-seen s among (Some m) is here' = brings-seen m.1 (λ v some. let weighs : of_inbox v s.inbox ≡ of_message v m.1 = ap (of_inbox v) is in
      in-side s among v (omega (arith, some, weighs))) here'

  side-seen : (s : Side) → Contains W.sides s → InSide F s → InSide G s
  side-seen s among is = record {
    caps = All-seen (InCap F) (InCap G) s.caps (λ c there here'. record { key = tt; links = λ n d within. tt; mark = λ j marked. tt }) is.caps;
    rows = All-seen (InRow F) (InRow G) s.vpes (λ r there here'. All-seen (AsksFor F) (AsksFor G) r.asks (λ a inside one. asked-seen a (λ v some.
        let first = weigh-among (of_ask v) r.asks a inside in
        let all = weigh-among (of_asks v) s.vpes r there in
        in-side s among v (omega (arith, some, first, all))) one) here') is.rows;
    parks = λ n d within. awaits-seen (get_or s.parks n d);
    endpoints = λ n d within. (λ m e inside. bound-seen (get_or (get_or s.endpoints n d) m e));
    inbox = inbox-seen s among s.inbox refl is.inbox;
    outs = All-seen (BringsAll F) (BringsAll G) s.outs (λ ms there here'. All-seen (Brings F) (Brings G) ms (λ m inside one. brings-seen m (λ v some.
        let first = weigh-among (of_message v) ms m inside in
        let all = weigh-among (of_messages v) s.outs ms there in
        in-side s among v (omega (arith, some, first, all))) one) here') is.outs;
    pendings = λ n d within. tt;
  }

  world-seen : InWorld F W → InWorld G W
  world-seen is = record {
    sides = All-seen (InSide F) (InSide G) W.sides side-seen is.sides;
    links = All-seen (λ (r : List (List Message)). All (BringsAll F) r) (λ (r : List (List Message)). All (BringsAll G) r) W.links
        (λ r inside here'. All-seen (BringsAll F) (BringsAll G) r (λ ms there these. All-seen (Brings F) (Brings G) ms (λ m last one. brings-seen m (λ v some.
        let first = weigh-among (of_message v) ms m last in
        let second = weigh-among (of_messages v) r ms there in
        let all = weigh-among (λ ls. sum_by (of_messages v) ls) W.links r inside in
        omega (arith, some, first, second, all)) one) these) here') is.links;
  }

-- A call that asks draws one number, and waits for the answer to it.

abbrev IsAsking : Call → Type 0
IsAsking (Derive src dst off len rights) = ⊥
IsAsking (Gate src dst label credits) = ⊥
IsAsking (Obtain dst w src) = Unit {0}
IsAsking (Delegate src w dst) = ⊥
IsAsking (OpenSession dst name) = Unit {0}
IsAsking (AskOffer dst session index) = Unit {0}
IsAsking (Revoke src) = ⊥
IsAsking (Bind ep src) = ⊥
IsAsking (Read ep off len) = ⊥
IsAsking (Write ep off len) = ⊥
IsAsking (SendCall ep len) = ⊥
IsAsking (Credit ep) = ⊥
IsAsking Exit = ⊥
IsAsking (Clear src) = ⊥

abbrev next : Side → ℕ → ℕ
next t v = (row t v).next_number

-- it drew nothing, or drew one and waits
abbrev Called : Side → ℕ → Step → Type 0
Called t v x = (next x.side v ≡ next t v) ⊎ ((next x.side v ≡ next t v + 1) × ((sel : ℕ) × (parked x.side v ≡ Some (ObtainWait (next t v) sel))))

kept-next : (t : Side) (w : ℕ) (r : VpeRow) (v : ℕ) → r.next_number ≡ next t w → next (record t { vpes = put no_vpe t.vpes w r }) v ≡ next t v
kept-next t w r v same = elim (cases_eq v w) [
  | inl here' ↦ ap (next (record t { vpes = put no_vpe t.vpes w r })) here' ∙ (ap (λ (x : VpeRow). x.next_number) (get_or-put_same no_vpe t.vpes w r)
      ∙ (same ∙ ap (next t) (sym here')))
  | inr other ↦ ap (λ (x : VpeRow). x.next_number) (get_or-put_other no_vpe t.vpes w v r other)
]

ask-called : (T : Setup) (i v dst : ℕ) (target : Target) (t : Side) → Called t v (ask_made T i v dst target t)
ask-called T i v dst target t =
    let w : ℕ = target_vpe target in
    let drawing : Side = drawn v t in
    let promising : Side = promised v dst drawing in
    let waiting : Side = parked_as v (ObtainWait (next t v) dst) promising in
    let one : next drawing v ≡ next t v + 1 =
    ap (λ (x : VpeRow). x.next_number) (get_or-put_same no_vpe t.vpes v (record (row t v) { next_number = (row t v).next_number + 1 })) in
    let two : next promising v ≡ next drawing v = kept-next drawing v (record (row drawing v) { slots = put Free (row drawing v).slots dst Promised }) v refl in
    let there : parked waiting v ≡ Some (ObtainWait (next t v) dst) = parked-here promising v (Some (ObtainWait (next t v) dst)) in
    inr (cond_both (kernel_of T w == i) (asked w (ObtainAsk (next_place T t v) target) waiting)
    (send (kernel_of T w) (ObtainReq (next_place T t v) target) waiting) (λ (u : Side). (next u v ≡ next t v + 1)
    × ((sel : ℕ) × (parked u v ≡ Some (ObtainWait (next t v) sel))))
    (λ _. (
      kept-next waiting w (record (row waiting w) {
        asks = if nat_lt (length (row waiting w).asks) ASKS
            then (row waiting w).asks ++ ObtainAsk (next_place T t v) target ∷ [] else (row waiting w).asks;
      }) v refl ∙ (two ∙ one),
      (dst, there),
    ))
    (λ _. (two ∙ one, (dst, there))))

asking-called : (T : Setup) (i v : ℕ) (c : Call) (t : Side) → IsAsking c → Called t v (call_row T i t v c)
unfolding call_row
asking-called T i v (Obtain dst w src) t asks = unless-keeps (Called t v) (obtain_tests T i t v dst w) _ _ (λ code. inl refl)
    (ask-called T i v dst (SelTarget w src) t)
asking-called T i v (OpenSession dst name) t asks = unless-keeps (Called t v) (open_tests T i t v dst name) _ _ (λ code. inl refl)
    (option-keeps (Called t v) (λ (x : Service). ask_made T i v dst (ServTarget x.key) t) (service_named T name) (answer NoService t)
    (λ x there. ask-called T i v dst (ServTarget x.key) t) (inl refl))
asking-called T i v (AskOffer dst session index) t asks = unless-keeps (Called t v) (offer_tests T i t v dst session) _ _ (λ code. inl refl)
    (option-keeps (Called t v) (λ (k : KeyName). ask_made T i v dst (OfferTarget k index) t) _ (answer BadKind t)
    (λ k there. ask-called T i v dst (OfferTarget k index) t) (inl refl))
asking-called T i v (Derive src dst off len rights) t asks = absurd asks
asking-called T i v (Gate src dst label credits) t asks = absurd asks
asking-called T i v (Delegate src w dst) t asks = absurd asks
asking-called T i v (Revoke src) t asks = absurd asks
asking-called T i v (Bind ep src) t asks = absurd asks
asking-called T i v (Read ep off len) t asks = absurd asks
asking-called T i v (Write ep off len) t asks = absurd asks
asking-called T i v (SendCall ep len) t asks = absurd asks
asking-called T i v (Credit ep) t asks = absurd asks
asking-called T i v Exit t asks = absurd asks
asking-called T i v (Clear src) t asks = absurd asks

-- An event.

abbrev pub any_place : ℕ → ℕ → Type 0
any_place v n = Unit {0}

abbrev pub any_vpe : ℕ → Type 0
any_vpe v = Unit {0}

-- asks are awaited
abbrev pub Awaited : Setup → World → Type 0
Awaited T W = InWorld (about any_place any_vpe (Waits T W)) W

module _ (T : Setup) (valid : IsSetup T) (J : List Entry) (runs : IsSchedule T J) (before : List Entry) (e : Entry) (later : List Entry) (parts : J ≡ before
    ++ e ∷ later) (I : Awaited T (world_after T before)) where
  abbrev W : World
  W = world_after T before

  abbrev V : World
  V = world_after T (before ++ e ∷ [])

  abbrev i : ℕ
  i = e.event.kernel

  abbrev s : Side
  s = side W i

  abbrev t : Side
  t = (stepped T W e.event).side

  enabled : IsSchedule T before × (is_enabled T W e.event ≡ true)
  enabled = let x = entry-enabled T before (start T) e later (subst (IsSchedule T) parts runs) in (x.0, x.1)

  prefix : IsSchedule T (before ++ e ∷ [])
  prefix = run-prefix T before later e (start T) (subst (IsSchedule T) parts runs)

  world-is : V ≡ after T W e.event
  world-is = run-append T before (e ∷ []) (start T)

  abbrev Drawn : ℕ → ℕ → Type 0
  Drawn v n = (kernel_of T v ≡ i) × ((next s v ≤ n) × (n < next t v))

  abbrev Asks : ℕ → Type 0
  Asks v = (e.event.act ≡ Calls v) × ((c : Call) × (next_call T s v ≡ Some c) × IsAsking c)

  abbrev Now : Facts
  Now = about Drawn Asks (λ v n. Waits T W v n ⊎ (Asks v × Drawn v n))

  fitting : AreFitting Now
  fitting = record {
    spreads = λ p k l d. tt;
    asks = λ v n asks drawn'. inr (asks, drawn');
    offers = λ k o is. tt;
    prepares = λ parent k object sel offered place handed. (tt, tt);
    acks = λ parent k prep offered is. tt;
    settles = λ p is acked. tt;
  }

  call-gives : (v : ℕ) (c : Call) → e.event.act ≡ Calls v → next_call T s v ≡ Some c → CallGives Now (call_counted v s) v c
  call-gives v (Derive src dst off len rights) act there = λ p held k is. tt
  call-gives v (Gate src dst label credits) act there = λ p held k is. tt
  call-gives v (Obtain dst w src) act there = (act, (Obtain dst w src, there, tt))
  call-gives v (Delegate src w dst) act there = tt
  call-gives v (OpenSession dst name) act there = (act, (OpenSession dst name, there, tt))
  call-gives v (AskOffer dst session index) act there = (act, (AskOffer dst session index, there, tt))
  call-gives v (Revoke src) act there = tt
  call-gives v (Bind ep src) act there = tt
  call-gives v (Read ep off len) act there = tt
  call-gives v (Write ep off len) act there = tt
  call-gives v (SendCall ep len) act there = tt
  call-gives v (Credit ep) act there = tt
  call-gives v Exit act there = tt
  call-gives v (Clear src) act there = tt

  ask-gives : (u : Side) (v : ℕ) (a : Ask) → AskGives Now T u v a
  ask-gives u v (ObtainAsk place target) = λ p held k is. tt
  ask-gives u v (DelegateAsk parent object sel) = (λ k is. tt, tt)

  gives : (a : Act) → e.event.act ≡ a → ActGives Now T s a
  gives (Calls v) act = λ c there. call-gives v c act there
  gives (Upcall v) act = λ a there. ask-gives (ask_taken v s) v a
  gives (Resume v) act = λ parent key there. tt
  gives (Fetch j) act = tt
  gives Handle act = tt
  gives (Flush j) act = tt
  gives (Kill v) act = tt

  dies : (a : Act) → Dies Now T s a
  dies (Calls v) = λ exits k same. tt
  dies (Kill v) = λ k same. tt
  dies (Upcall v) = tt
  dies (Fetch j) = tt
  dies Handle = tt
  dies (Resume v) = tt
  dies (Flush j) = tt

  in-grant : (o : Option (KeyName × KeyName)) → InGrant Now o
  in-grant None = tt
  in-grant (Some g) = (tt, tt)

  in-cut : (o : Option KeyName) → InCut Now o
  in-cut None = tt
  in-cut (Some k) = tt

  carried-now : InWorld Now (after T W e.event)
  unfolding entry_of local_entry
  carried-now = after-in Now (λ v. kernel_of T v ≡ i) T W e.event (may_draw T W e.event enabled.1)
      (world-weaker (about any_place any_vpe (Waits T W)) Now (record {
        key = λ k o is. tt;
        acked = λ k is. tt;
        asked = λ v n is. inl is;
        offered = λ k o is. tt;
        pends = λ p is. tt;
        prepared = λ p k is. tt;
        link = λ p k. tt;
        doomed = λ k. tt;
      }) W I)
      fitting (gives e.event.act refl) (dies e.event.act) (in-grant (stepped T W e.event).outcome.grant) (λ v n may low below. (may, (low, below)))
      (in-cut (stepped T W e.event).outcome.cut)

  at-i : (j : ℕ) → j ≡ i → side V j ≡ t
  at-i j same = side-here T valid J runs before e later parts (all-caused T valid J runs before (e ∷ later) parts) j same

  not-at : (j : ℕ) → (j ≡ i → ⊥) → side V j ≡ side W j
  not-at j away = side-other T valid J runs before e later parts (all-caused T valid J runs before (e ∷ later) parts) j away

  no_key : KeyName
  no_key = record { pe = 0; vpe = 0; kind = MemKind; number = 0 }

  -- who waits goes on to wait
  pub waits-on : (v n : ℕ) → HasAbout V v → Waits T W v n → Waits T V v n
  waits-on v n some q alive =
      let j : ℕ = kernel_of T v in
      let busy = about-waits T valid (before ++ e ∷ []) prefix v j some alive in
      let was : is_alive (side W j) v ≡ true = ((after-onward T W e.event).sides j).dead v (ap (λ (X : World). is_alive (side X j) v) (sym world-is) ∙ alive) in
      let there = q was in
      elim (cases_eq j i) [
        | inr away ↦ (there.0, ap (λ (u : Side). parked u v) (not-at j away) ∙ there.1)
        | inl here' ↦
            let now : parked s v ≡ Some (ObtainWait n there.0) = ap (λ a. parked (side W a) v) (sym here') ∙ there.1 in
            let Q = quiet-event T valid J runs before e later parts v no_key (Unit {0}) (Some (ObtainWait n there.0)) None
            (record { park = inl now; life = inr tt; waiters = λ x among w. tt; asks = λ u a among who. tt; pend = λ p none. absurd cc })
            (λ u act same. let none = calls-unparked T valid J runs before e later parts u act in waiting (parked s u) none (ap (parked s) same ∙ now))
            (λ u act same. tt) (λ u act same. tt) (λ from m full one. tt) (λ from accepted act full x none. absurd cc) (λ from k j' full ready same. tt) in
            elim Q.park [
              | inl same ↦ (there.0, ap (λ (u : Side). parked u v) (at-i j here') ∙ same)
              | inr (quiet, touched) ↦ absurd (true≢false (sym (ap (λ (u : Side). waits (parked u v)) (sym (at-i j here')) ∙ busy) ∙ quiet))
            ]
      ]
    where
      waiting : {p : Parked} → (o : Option Parked) → is_none o ≡ true → o ≡ Some p → ⊥
      waiting None none some = absurd cc
      waiting (Some x) none some = absurd cc

  -- who asks now waits
  waits-now : (v n : ℕ) → HasAbout V v → Asks v → Drawn v n → Waits T V v n
  waits-now v n some (act, (c, there, asks)) (home, (low, below)) alive =
      let j : ℕ = kernel_of T v in
      let busy = about-waits T valid (before ++ e ∷ []) prefix v j some alive in
      let u : Side = call_counted v s in
      let step : t ≡ (call_row T i u v c).side = ap (λ a. (local_step T i s a (input_of W i a)).side) act
      ∙ ap (λ (x : Step). x.side) (call-step T i s v (input_of W i (Calls v)) c there) in
      let counted : next u v ≡ next s v =
      ap (λ (x : VpeRow). x.next_number) (get_or-put_same no_vpe s.vpes v (record (row s v) { next_call = (row s v).next_call + 1 })) in
      let after_is : next t v ≡ next (call_row T i u v c).side v = ap (λ (x : Side). next x v) step in
      elim (asking-called T i v c u asks) [
        | inl same ↦ absurd (omega (arith, same, counted, after_is, low, below))
        | inr (plus, (sel, parks)) ↦
            let is : next u v ≡ n = omega (arith, plus, counted, after_is, low, below) in
            (sel, ap (λ (x : Side). parked x v) (at-i j home ∙ step) ∙ (parks ∙ ap (λ m. Some (ObtainWait m sel)) is))
      ]

  pub next-awaited : Awaited T V
  next-awaited = world-seen Drawn (λ v n. Waits T W v n ⊎ (Asks v × Drawn v n)) any_place (Waits T V) Asks any_vpe V
      (λ v n some is. elim is [ inl q ↦ waits-on v n some q | inr (asks, drawn') ↦ waits-now v n some asks drawn' ])
      (subst (InWorld Now) (sym world-is) carried-now)

-- Along the journal.
pub all-awaited : (T : Setup) → IsSetup T → (J : List Entry) → IsSchedule T J → Awaited T (world_after T J)
all-awaited T valid J runs = from [] J refl (start-in (about any_place any_vpe (Waits T (start T))) T (λ k root o. tt))
  where
    from : (before later : List Entry) → J ≡ before ++ later → Awaited T (world_after T before) → Awaited T (world_after T J)
    from before [] parts is = subst (λ K. Awaited T (world_after T K)) (sym (parts ∙ append-nil before)) is
    from before (e ∷ later) parts is = from (before ++ e ∷ []) later (parts
        ∙ sym (append_assoc before (e ∷ []) later)) (next-awaited T valid J runs before e later parts is)

pub asks-awaited : (T : Setup) → IsSetup T → (J : List Entry) → IsSchedule T J → (i u : ℕ) (place : PlaceName) (target : Target) →
    Contains (row (side (world_after T J) i) u).asks (ObtainAsk place target) → Waits T (world_after T J) place.vpe place.number
asks-awaited T valid J runs i u place target among =
    let W : World = world_after T J in
    let G : Facts = about any_place any_vpe (Waits T W) in
    All-contains (AsksFor G) (row (side W i) u).asks (ObtainAsk place target) (row-in G (side W i) (side-in G W (all-awaited T valid J runs) i) u) among

pub requests-awaited : (T : Setup) → IsSetup T → (J : List Entry) → IsSchedule T J → (place : PlaceName) (target : Target) →
    InFlight (world_after T J) (ObtainReq place target) → Waits T (world_after T J) place.vpe place.number
requests-awaited T valid J runs place target flight =
    let W : World = world_after T J in
    flight-in (about any_place any_vpe (Waits T W)) W (all-awaited T valid J runs) (ObtainReq place target) flight
