-- What a kernel holds, it holds on, or the key is doomed, along every schedule of every setup.
use Rattle.sem_msg.specs.declared.code.Code.TheVariants.{Revoking}
use Rattle.sem_msg.specs.declared.message.Message.{Message}
use Rattle.sem_msg.specs.JobRows.{job_of}
use Rattle.sem_key.proofs.KeyTests.{key_eq-same}
use Rattle.std.proofs.Common.{◌≡◌, ◌⊎◌, ℕ, ◌++◌, List, [], ◌∷◌, length, Option, Some, None, option_to_list, is_some, append-nil, append_assoc, get_or, refl}
use Rattle.std.proofs.Common.{sym, ap, ◌∙◌, subst, inl, inr, true}
use Rattle.std.specs.Prelude.{if◌then◌else◌}
use Rattle.std.specs.List.{Contains, filter}
use Rattle.std.specs.Option.{option_map_or}
use Rattle.std.proofs.lemmas.Bool.{cases_eq}
use Rattle.std.proofs.lemmas.Option.{same_Some}
use Rattle.std.proofs.lemmas.List.Elements.{Contains-append_left, Contains-append_right, filter_map-append}
use Rattle.sem_key.specs.KeyName.{KeyName, key_eq}
use Rattle.sem_key.specs.Capability.{Capability}
use Rattle.sem_msg.specs.declared.call.Call.{Call}
use Rattle.sem_msg.specs.declared.call.Call.TheVariants.{Derive, Gate, Obtain, Delegate, OpenSession, AskOffer, Revoke, Bind, Read, Write, Send as SendCall}
use Rattle.sem_msg.specs.declared.call.Call.TheVariants.{Credit, Exit, Clear}
use Rattle.sem_msg.specs.declared.code.Code.{Code}
use Rattle.sem_msg.specs.declared.entry.Detail.TheVariants.{Called, Nothing}
use Rattle.sem_msg.specs.declared.entry.Entry.{Entry}
use Rattle.sem_msg.specs.declared.event.Act.{Act}
use Rattle.sem_msg.specs.declared.event.Act.TheVariants.{Call as Calls, Fetch, Handle, Upcall, Resume, Flush, Kill}
use Rattle.sem_msg.specs.Rows.{JobRow}
use Rattle.sem_msg.specs.Setup.{Setup, IsSetup}
use Rattle.sem_msg.specs.Lookups.{owner_of}
use Rattle.sem_machine.specs.Sides.{Side, no_side, row, cap, job, own, call_counted}
use Rattle.sem_machine.specs.Steps.{Step, unshown, answer, unless, cutting}
use Rattle.sem_machine.specs.Revokes.{revoke_begun, clear_begun}
use Rattle.sem_machine.specs.Calls.{own_tests, with_held, call_row}
use Rattle.sem_machine.specs.Machine.{World, side, start, with_side, next_call, local_step, local_entry, input_of, after, entry_of, is_enabled, detail_of}
use Rattle.sem_machine.specs.Schedules.{IsSchedule, world_after}
use Rattle.sem_machine.specs.Journals.{grants, root_keys, ends, has_ended, children_in, cut_off, cut_by, cut_from}
use Rattle.sem_machine.specs.Living.{HoldsCap}
use Rattle.sem_key.proofs.Puts.{get_or-put_other}
use Rattle.sem_key.proofs.Members.{list_any-at, Contains-map, Contains-filter, Contains-head}
use Rattle.sem_safety.proofs.CarryingWorlds.{stepped, Ends, entry-dies}
use Rattle.sem_safety.proofs.Drawers.{side-after}
use Rattle.sem_safety.proofs.GoingOn.{entry-enabled, moved-sides, run-append, run-prefix}
use Rattle.sem_safety.proofs.GrownLines.{line-self, line-above, child-grown, few-grants}
use Rattle.sem_safety.proofs.KeptSteps.{Dies}
use Rattle.sem_safety.proofs.Layers.{facts_of}
use Rattle.sem_safety.proofs.MarkCauses.{above}
use Rattle.sem_safety.proofs.OneLife.{all-grown, all-new}
use Rattle.sem_safety.proofs.Onwards.{Any, AnyPlace}
use Rattle.sem_safety.proofs.Parents.{local_step-below}
use Rattle.sem_safety.specs.Growth.{IsGrown}
use Rattle.sem_revoke.specs.Resting.{IsCutOff}
use Rattle.sem_revoke.specs.Revocation.{IsDoomed}
use Rattle.sem_revoke.specs.Views.{IsCaused}
use Rattle.sem_revoke.proofs.Arriving.{no-late, schedule-revokes}
use Rattle.sem_revoke.proofs.Events.{Par, IsReady, Losing, Holds}
use Rattle.sem_revoke.proofs.Losing.{Leaves, event-leaves}
use Rattle.sem_revoke.proofs.Readying.{schedule-ready, schedule-valid, last-granted}
use Rattle.sem_revoke.proofs.Revoking.{Told, ActLoses, start-each, start-bare, more-grants, granted-last, shown}
use Rattle.sem_revoke.proofs.Turning.{CallLoses}

-- what an entry of a journal cuts off
cut-among : (xs ys : List Entry) (e : Entry) (later : List Entry) (k : KeyName) → Contains (cut_by (xs ++ ys) e) k → Contains (cut_from xs (ys ++ e ∷ later)) k
unfolding cut_from
cut-among xs [] e later k among =
    Contains-append_left (cut_by xs e) (cut_from (xs ++ e ∷ []) later) k (subst (λ zs. Contains (cut_by zs e) k) (append-nil xs) among)
cut-among xs (y ∷ ys) e later k among = Contains-append_right (cut_by xs y) (cut_from (xs ++ y ∷ []) (ys ++ e ∷ later)) k
    (cut-among (xs ++ y ∷ []) ys e later k (subst (λ zs. Contains (cut_by zs e) k) (sym (append_assoc xs (y ∷ []) ys)) among))

-- the tests of a capability that is held and not marked pass
own-pass : (o : Option Capability) (c : Capability) (refuse : Code → Step) (done : Step) → o ≡ Some c → c.mark ≡ None → unless (own_tests o) refuse done ≡ done
unfolding unless
own-pass o c refuse done held unmarked = ap (λ x. unless (own_tests x) refuse done) held ∙ ap (λ m. if is_some m then refuse Revoking else done) unmarked

-- what is cut by a call on what is held
revoke-cuts : (T : Setup) (i : ℕ) (s : Side) (v src : ℕ) (c : Capability) → own s v src ≡ Some c →
    ◌≡◌ {A = Option KeyName} (call_row T i s v (Revoke src)).outcome.cut (Some c.key)
unfolding call_row
revoke-cuts T i s v src c held = ap (λ o. (with_held o (λ (c : Capability). cutting c.key (unshown (revoke_begun T i v c.key c.mark s))) s).outcome.cut) held

clear-cuts : (T : Setup) (i : ℕ) (s : Side) (v src : ℕ) (c : Capability) → own s v src ≡ Some c → c.mark ≡ None →
    ◌≡◌ {A = Option KeyName} (call_row T i s v (Clear src)).outcome.cut (Some c.key)
unfolding call_row
clear-cuts T i s v src c held unmarked =
    ap (λ (x : Step). x.outcome.cut)
    (own-pass (own s v src) c (λ code. answer code s) (with_held (own s v src) (λ (c : Capability). cutting c.key (unshown (clear_begun T i v c.key s))) s)
    held unmarked)
    ∙ ap (λ o. (with_held o (λ (c : Capability). cutting c.key (unshown (clear_begun T i v c.key s))) s).outcome.cut) held

pub call-step : (T : Setup) (i : ℕ) (s : Side) (v : ℕ) (input : Option Message) (c : Call) → next_call T s v ≡ Some c →
    local_step T i s (Calls v) input ≡ call_row T i (call_counted v s) v c
unfolding local_step
call-step T i s v input c there = ap (λ o. option_map_or (call_row T i (call_counted v s) v) o (unshown s)) there

-- a child of a key is among the keys that were granted below it
among-children : (gs : List (KeyName × KeyName)) (p k : KeyName) → Par gs p k → Contains (children_in gs p) k
among-children gs p k granted = Contains-map (λ (g : KeyName × KeyName). g.1) (filter (λ (g : KeyName × KeyName). key_eq g.0 p) gs) (
  p,
  k,
) (Contains-filter (λ (g : KeyName × KeyName). key_eq g.0 p) gs (p, k) granted (key_eq-same p))

module _ (T : Setup) (valid : IsSetup T) (J : List Entry) (runs : IsSchedule T J) where
  abbrev lost : KeyName → Type 0
  lost k = IsDoomed J k

  itself : (k : KeyName) → IsCutOff J k → lost k
  itself k is = (k, line-self (length J) (grants J) k, is)

  pub grants-on : (before later : List Entry) → J ≡ before ++ later → (p k : KeyName) → Par (grants before) p k → Par (grants J) p k
  grants-on before later parts p k granted = subst (λ gs. Contains gs (p, k)) (sym (ap grants parts ∙ filter_map-append (λ (e : Entry). e.grant) before later))
      (Contains-append_left (grants before) (grants later) (p, k) granted)

  pub lower-all : (p k : KeyName) → Par (grants J) p k → lost p → lost k
  lower-all p k granted (a, among, is) = (
    a,
    line-above (root_keys T) (grants J) (all-grown T valid J runs) (length J) k p a (few-grants J) (child-grown (root_keys T) (grants J) p k granted)
        (above T valid J runs p k granted) among,
    is,
  )

  abbrev pub Caused : List Entry → Type 0
  Caused before = (a n : ℕ) (x : JobRow) → job (side (world_after T before) a) n ≡ Some x → IsCaused (Par (grants before)) lost x

  abbrev pub losing : (before later : List Entry) → J ≡ before ++ later → Caused before → Losing (grants before) (world_after T before)
  losing before later parts caused = record {
    lost = lost;
    lower = λ p k granted is. lower-all p k (grants-on before later parts p k granted) is;
    caused = caused;
  }

  -- An entry.
  module _ (before : List Entry) (e : Entry) (later : List Entry) (parts : J ≡ before ++ e ∷ later) where
    abbrev W : World
    W = world_after T before

    abbrev i : ℕ
    i = e.event.kernel

    abbrev s : Side
    s = side W i

    abbrev gs : List (KeyName × KeyName)
    gs = grants before

    abbrev o : Option (KeyName × KeyName)
    o = (stepped T W e.event).outcome.grant

    runs' : IsSchedule T (before ++ e ∷ later)
    runs' = subst (IsSchedule T) parts runs

    pub at : IsSchedule T before × (is_enabled T W e.event ≡ true) × (e ≡ entry_of T W e.event)
    at = entry-enabled T before (start T) e later runs'

    pub H : Holds T gs W
    H = (schedule-revokes T valid before at.0).0

    pub R : IsReady T gs W
    R = schedule-ready T valid before at.0 (no-late T valid before at.0 H (schedule-revokes T valid before at.0).1)

    more : grants (before ++ e ∷ []) ≡ gs ++ option_to_list o
    more = more-grants before e o (shown T W e at.2)

    pub told : Told T gs o
    told =
        let prefix : IsSchedule T (before ++ e ∷ []) = run-prefix T before later e (start T) runs' in
        record {
          next = subst (IsGrown (root_keys T)) more (all-grown T valid (before ++ e ∷ []) prefix);
          new = λ p k is. all-new T valid J runs before later e p k parts (shown T W e at.2 ∙ is);
          valid = λ p k is. schedule-valid T valid (before ++ e ∷ []) prefix p k (subst (λ xs. Contains xs (p, k)) (sym more) (granted-last gs o p k is));
        }

    -- what it cuts off
    cuts-off : (k q : KeyName) → ◌≡◌ {A = Option KeyName} e.cut (Some k) → Contains (cut_off gs e.detail k) q → IsCutOff J q
    cuts-off k q cuts among =
        inl (subst (λ xs. Contains (cut_from [] xs) q) (sym parts)
        (cut-among [] before e later q (subst (λ x. Contains (option_map_or (cut_off gs e.detail) x []) q) (sym cuts) among)))

    -- the call of the entry, which cuts at k
    by-call : (v : ℕ) (c : Call) (k q : KeyName) → e.event.act ≡ Calls v → next_call T s v ≡ Some c →
        ◌≡◌ {A = Option KeyName} (call_row T i (call_counted v s) v c).outcome.cut (Some k) → ((n : ℕ) → Contains (cut_off gs (Called n c) k) q) → IsCutOff J q
    unfolding entry_of local_entry
    by-call v c k q act there cuts among =
        let shows : ◌≡◌ {A = Option KeyName} e.cut (Some k) =
        ap (λ (x : Entry). x.cut) at.2
        ∙ (ap (λ a. (local_step T i s a (input_of W i a)).outcome.cut) act
        ∙ (ap (λ (x : Step). x.outcome.cut) (call-step T i s v (input_of W i (Calls v)) c there) ∙ cuts)) in
        let detail : e.detail ≡ Called (row s v).next_call c =
        ap (λ (x : Entry). x.detail) at.2 ∙ (ap (λ a. detail_of T s a (input_of W i a) (local_step T i s a (input_of W i a)).outcome) act
        ∙ ap (λ x. option_map_or (λ call. Called (row s v).next_call call) x Nothing) there) in
        cuts-off k q shows (subst (λ d. Contains (cut_off gs d k) q) (sym detail) (among (row s v).next_call))

    -- the keys of a VPE that it ends
    pub ended : Dies (facts_of Any AnyPlace (λ p k. Unit {0}) lost) T s e.event.act
    ended = entry-dies (facts_of Any AnyPlace (λ p k. Unit {0}) lost) T W e.event
        (subst (Ends (facts_of Any AnyPlace (λ p k. Unit {0}) lost)) at.2
        (λ v over k same. itself k (inr (subst (λ w. has_ended J w ≡ true) (sym same) (over-in v over)))))
      where
        over-in : (v : ℕ) → ends v e.event.act e.detail ≡ true → has_ended J v ≡ true
        over-in v over = list_any-at (λ (x : Entry). ends v x.event.act x.detail) J e
            (subst (λ xs. Contains xs e) (sym parts) (Contains-append_right before (e ∷ later) e (Contains-head e later))) over

    pub loses : (a : Act) → e.event.act ≡ a → ActLoses gs lost T s a
    loses (Calls v) act = λ c there. call c there (subst (Dies (facts_of Any AnyPlace (λ p k. Unit {0}) lost) T s) act ended)
      where
        call : (c : Call) → next_call T s v ≡ Some c → (next_call T s v ≡ Some Exit → (k : KeyName) → k.vpe ≡ v → lost k) →
            CallLoses gs lost (call_counted v s) v c
        call (Revoke src) there dies =
            λ c held. itself c.key (by-call v (Revoke src) c.key c.key act there (revoke-cuts T i (call_counted v s) v src c held)
            (λ n. Contains-head c.key []))
        call (Clear src) there dies =
            λ c held unmarked k granted. itself k (by-call v (Clear src) c.key k act there (clear-cuts T i (call_counted v s) v src c held unmarked)
            (λ n. among-children gs c.key k granted))
        call Exit there dies = dies there
        call (Derive src dst off len rights) there dies = tt
        call (Gate src dst label credits) there dies = tt
        call (Obtain dst w src) there dies = tt
        call (Delegate src w dst) there dies = tt
        call (OpenSession dst name) there dies = tt
        call (AskOffer dst session index) there dies = tt
        call (Bind ep src) there dies = tt
        call (Read ep off len) there dies = tt
        call (Write ep off len) there dies = tt
        call (SendCall ep len) there dies = tt
        call (Credit ep) there dies = tt
    loses (Kill v) act = subst (Dies (facts_of Any AnyPlace (λ p k. Unit {0}) lost) T s) act ended
    loses (Fetch j) act = tt
    loses Handle act = tt
    loses (Upcall v) act = tt
    loses (Resume v) act = tt
    loses (Flush j) act = tt

    module _ (caused : Caused before) where
      leaves : Leaves T gs W R H (losing before (e ∷ later) parts caused) i o (stepped T W e.event).side
      leaves = event-leaves T gs W R H (losing before (e ∷ later) parts caused) i e.event.act (loses e.event.act refl) told

      world-next : world_after T (before ++ e ∷ []) ≡ after T W e.event
      world-next = run-append T before (e ∷ []) (start T)

      pub side-here : (j : ℕ) → j ≡ i → side (world_after T (before ++ e ∷ [])) j ≡ (stepped T W e.event).side
      side-here j same = ap (side (world_after T (before ++ e ∷ []))) same ∙ (ap (λ (V : World). side V i) world-next ∙ side-after T W e.event)

      pub side-other : (j : ℕ) → (j ≡ i → ⊥) → side (world_after T (before ++ e ∷ [])) j ≡ side W j
      unfolding after
      side-other j away =
          ap (λ (V : World). side V j) world-next
          ∙ (ap (λ (ss : List Side). get_or ss j no_side) (moved-sides i s e.event.act (with_side i (stepped T W e.event).side W))
          ∙ get_or-put_other no_side W.sides i j (stepped T W e.event).side away)

      -- what is granted is not below the root of a job
      not-below : (a n : ℕ) (x : JobRow) (k : KeyName) → job (side W a) n ≡ Some x → ◌≡◌ {A = Option (KeyName × KeyName)} o (Some (x.root, k)) → ⊥
      not-below a n x k open_ is = elim (H.roots a n x open_) [
        | inl none ↦ none
        | inr (at_a, (c, held, marked)) ↦
            let below = local_step-below T i s e.event.act (input_of W i e.event.act) x.root k is in
            let home : owner_of T x.root ≡ i = R.homes i x.root below.0 below.1 in
            let same : c ≡ below.0 = same_Some c below.0 (sym held ∙ (ap (λ b. cap (side W b) x.root) home ∙ below.1)) in
            let no' : None ≡ Some n = sym below.2 ∙ (ap (λ (d : Capability). d.mark) (sym same) ∙ marked) in
            absurd cc
      ]

      caused-more : (x : JobRow) → ((k : KeyName) → ◌≡◌ {A = Option (KeyName × KeyName)} o (Some (x.root, k)) → ⊥) → IsCaused (Par gs) lost x →
          IsCaused (Par (grants (before ++ e ∷ []))) lost x
      caused-more x none is = (
        is.0,
        λ k granted. elim (last-granted T valid gs o x.root k (subst (λ xs. Contains xs (x.root, k)) more granted)) [
          | inl old ↦ is.1 k old
          | inr now ↦ absurd (none k now)
        ],
      )

      next-caused : Caused (before ++ e ∷ [])
      next-caused a n x open_ = elim (cases_eq a i) [
        | inl here ↦
            let open' : job (stepped T W e.event).side n ≡ Some x = ap (λ (t : Side). job t n) (sym (side-here a here)) ∙ open_ in
            caused-more x (λ k is. not-below i n x k (ap (λ xs. job_of xs n) (sym (leaves.steady x.root k is)) ∙ open') is) (leaves.caused n x open')
        | inr away ↦
            let open' : job (side W a) n ≡ Some x = ap (λ (t : Side). job t n) (sym (side-other a away)) ∙ open_ in
            caused-more x (λ k is. not-below a n x k open' is) (caused a n x open')
      ]

      pub next-held : (j : ℕ) (k : KeyName) (c : Capability) → HoldsCap W j k c → ((d : Capability) × HoldsCap (world_after T (before ++ e ∷ [])) j k d)
          ⊎ lost k
      next-held j k c held = elim (cases_eq j i) [
        | inl here ↦ elim (leaves.lasts k c (ap (λ a. cap (side W a) k) (sym here) ∙ held)) [
          | inl (d, holds) ↦ inl (d, ap (λ (t : Side). cap t k) (side-here j here) ∙ holds)
          | inr is ↦ inr is
        ]
        | inr away ↦ inl (c, ap (λ (t : Side). cap t k) (side-other j away) ∙ held)
      ]

  -- Along the journal.
  no-jobs : Caused []
  no-jobs a n x open_ = let none = start-each T (λ (t : Side). t.jobs ≡ []) refl (λ b. (start-bare T b).0) a in
      let no' : None ≡ Some x = ap (λ xs. job_of xs n) (sym none) ∙ open_ in absurd cc

  caused-from : (xs ys later : List Entry) → J ≡ (xs ++ ys) ++ later → Caused xs → Caused (xs ++ ys)
  caused-from xs [] later parts caused = subst Caused (sym (append-nil xs)) caused
  caused-from xs (e ∷ ys) later parts caused =
      let same : xs ++ e ∷ ys ≡ (xs ++ e ∷ []) ++ ys = sym (append_assoc xs (e ∷ []) ys) in
      let whole : J ≡ xs ++ e ∷ (ys ++ later) = parts ∙ append_assoc xs (e ∷ ys) later in
      subst Caused (sym same) (caused-from (xs ++ e ∷ []) ys later (parts ∙ ap (λ zs. zs ++ later) same) (next-caused xs e (ys ++ later) whole caused))

  pub all-caused : (before later : List Entry) → J ≡ before ++ later → Caused before
  all-caused before later parts = caused-from [] before later parts no-jobs

  pub held-lasts : (before later : List Entry) (i : ℕ) (k : KeyName) (c : Capability) → J ≡ before ++ later → HoldsCap (world_after T before) i k c →
      ((d : Capability) × HoldsCap (world_after T J) i k d) ⊎ lost k
  held-lasts before [] i k c parts held = inl (c, subst (λ K. HoldsCap (world_after T K) i k c) (sym (parts ∙ append-nil before)) held)
  held-lasts before (e ∷ later) i k c parts held = elim (next-held before e later parts (all-caused before (e ∷ later) parts) i k c held) [
    | inl (d, holds) ↦ held-lasts (before ++ e ∷ []) later i k d (parts ∙ sym (append_assoc before (e ∷ []) later)) holds
    | inr is ↦ inr is
  ]
