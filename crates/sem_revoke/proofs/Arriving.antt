-- A request for a key that is not held finds nothing of the key on its way; so revocation is so along every schedule of every setup.
use Rattle.std.proofs.Common.{◌≡◌, ◌≢◌, ◌⊎◌, ℕ, suc, ◌+◌, ◌≤◌, ◌++◌, Bool, true, false, not, ◌&&◌, List, [], ◌∷◌, get_or, drop, Option, Some, None, is_some}
use Rattle.std.proofs.Common.{is_none, slice_get, option_to_list, append-nil, append_assoc, refl, sym, ap, ◌∙◌, subst, inl, inr, arith, eq-eqb}
use Rattle.std.specs.Prelude.{◌==◌}
use Rattle.std.specs.List.{Contains, sum_by}
use Rattle.std.specs.Option.{option_map, option_map_or}
use Rattle.std.proofs.lemmas.Bool.{cases_Bool, cases_eq, cases_order, cond-true, cond-false, eqb-true, and_from, and_parts, true≢false}
use Rattle.std.proofs.lemmas.Option.{same_Some}
use Rattle.std.proofs.lemmas.List.Sums.{sum_by-cons, sum_by-append}
use Rattle.sem_key.specs.KeyName.{KeyName, key_eq}
use Rattle.sem_key.specs.declared.object.Object.{Object}
use Rattle.sem_msg.specs.declared.entry.Entry.{Entry}
use Rattle.sem_msg.specs.declared.event.Act.{Act}
use Rattle.sem_msg.specs.declared.event.Act.TheVariants.{Call as Calls, Fetch, Handle, Upcall, Resume, Flush, Kill}
use Rattle.sem_msg.specs.declared.message.Message.{Message}
use Rattle.sem_msg.specs.declared.message.Message.TheVariants.{RevokeReq}
use Rattle.sem_msg.specs.declared.state.Parked.{Parked}
use Rattle.sem_msg.specs.declared.state.Parked.TheVariants.{ObtainWait, ObtainReady, ObtainCancelled, DelegateWait, DelegateReady, RevokeWait, Ready}
use Rattle.sem_msg.specs.ParkedStates.{is_ready_with}
use Rattle.sem_msg.specs.Setup.{Setup, IsSetup}
use Rattle.sem_msg.specs.Lookups.{owner_of}
use Rattle.sem_machine.specs.Sides.{Side, no_side, parked, outbox, call_counted, parked_as, freed, sent, with_inbox}
use Rattle.sem_machine.specs.Steps.{unshown}
use Rattle.sem_machine.specs.Calls.{call_row}
use Rattle.sem_machine.specs.Ends.{ended}
use Rattle.sem_machine.specs.Revokes.{ready_freed, obtain_cancelled}
use Rattle.sem_machine.specs.Machine.{World, side, link, with_side, with_link, input_of, start, local_step, next_call, after, event, is_enabled}
use Rattle.sem_machine.specs.Machine.{is_locally_enabled, is_allowed, is_other_kernel}
use Rattle.sem_machine.specs.Living.{fetched_from, way}
use Rattle.sem_machine.specs.Schedules.{IsSchedule, world_after}
use Rattle.sem_machine.specs.Journals.{grants, root_keys}
use Rattle.sem_key.proofs.KeyTests.{key_eq-same, key_eq-true}
use Rattle.sem_key.proofs.Members.{Contains-nil}
use Rattle.sem_key.proofs.Puts.{get_or-put_same, get_or-put_other}
use Rattle.sem_safety.specs.Growth.{IsGrown}
use Rattle.sem_safety.proofs.CarryingWorlds.{stepped}
use Rattle.sem_safety.proofs.GoingOn.{run-append, entry-enabled, run-prefix}
use Rattle.sem_machine.proofs.Folds.{option-keeps}
use Rattle.sem_safety.proofs.OneLife.{all-new, all-grown}
use Rattle.sem_safety.proofs.Parents.{local_step-below}
use Rattle.sem_machine.proofs.Weighing.{weigh-none}
use Rattle.sem_safety.proofs.Lives.{all_held, at_key, at_cap, at_message, at_messages, at_parked, at_inbox, at_side, lives-park, lives-inbox}
use Rattle.sem_safety.proofs.LiveWorlds.{at_world, at_root, start-lives, world-side, after-lives, lives-once}
use Rattle.sem_safety.proofs.Worlds.{way-flushed, way-fetched}
use Rattle.sem_sound.proofs.Scheduling.{schedule-sound}
use Rattle.sem_revoke.specs.Views.{Under}
use Rattle.sem_revoke.specs.Scales.{of_inbox, requesting, bit, straying}
use Rattle.sem_revoke.proofs.Viewing.{on_its_way, one-true}
use Rattle.sem_revoke.proofs.Worlds.{whole, held-parts}
use Rattle.sem_revoke.proofs.Events.{Par, Made, IsReady, anything, Holds}
use Rattle.sem_revoke.proofs.Turning.{Keeps, Sends, by-call, by-upcall, by-resume, by-inbox, row-step, in_row, here}
use Rattle.sem_revoke.proofs.Revoking.{Told, anything-loses, facts-of, event-holds, start-holds, enabled-parts, fetch-empty, more-grants, granted-last, shown}
use Rattle.sem_revoke.proofs.Rowing.{row-ended}
use Rattle.sem_revoke.proofs.Readying.{schedule-past, schedule-homes, schedule-valid, schedule-ready, unmade-none, NoLate, last-granted}
use Rattle.sem_revoke.proofs.Ordering.{late, late-le, Ordered, inbox-part, way-gifts, ordered-on, ordered-same}

-- An element of a sum that is not nothing.
some-of : {X : Type 0} (w : X → ℕ) (d : X) (xs : List X) → 1 ≤ sum_by w xs → (n : ℕ) × (1 ≤ w (get_or xs n d))
some-of w d [] more = absurd (omega (arith, more))
some-of w d (x ∷ xs) more =
    let all = sum_by-cons w x xs in
    elim (cases_eq (w x) 0) [
      | inl none ↦ let rest = some-of w d xs (omega (arith, all, none, more)) in (suc rest.0, rest.1)
      | inr some ↦ (0, omega (arith, some))
    ]

-- the key that a call is ready to install
ready-key : (k : KeyName) (p : Option Parked) → 1 ≤ at_parked k p → (parent : KeyName) × (object : Object) × (sel : ℕ)
    × (p ≡ Some (ObtainReady k parent object sel))
ready-key k None some = absurd (omega (arith, some))
ready-key k (Some (ObtainWait number sel)) some = absurd (omega (arith, some))
ready-key k (Some (ObtainReady key parent object sel)) some = elim (cases_Bool (key_eq key k)) [
  | inl same ↦ (parent, object, sel, ap (λ z. Some (ObtainReady z parent object sel)) (key_eq-true key k same))
  | inr differ ↦ let none : at_key k key ≡ 0 = cond-false (key_eq key k) 1 0 differ in absurd (omega (arith, none, some))
]
ready-key k (Some ObtainCancelled) some = absurd (omega (arith, some))
ready-key k (Some (DelegateWait parent)) some = absurd (omega (arith, some))
ready-key k (Some (DelegateReady parent key)) some = absurd (omega (arith, some))
ready-key k (Some (RevokeWait j)) some = absurd (omega (arith, some))
ready-key k (Some (Ready code)) some = absurd (omega (arith, some))

ready-parked : (k : KeyName) (p : Option Parked) → is_ready_with k p ≡ true → (parent : KeyName) × (object : Object) × (sel : ℕ)
    × (p ≡ Some (ObtainReady k parent object sel))
ready-parked k None no' = absurd cc
ready-parked k (Some (ObtainWait number sel)) no' = absurd cc
ready-parked k (Some (ObtainReady key parent object sel)) same =
    (parent, object, sel, ap (λ z. Some (ObtainReady z parent object sel)) (key_eq-true key k same))
ready-parked k (Some ObtainCancelled) no' = absurd cc
ready-parked k (Some (DelegateWait parent)) no' = absurd cc
ready-parked k (Some (DelegateReady parent key)) no' = absurd cc
ready-parked k (Some (RevokeWait j)) no' = absurd cc
ready-parked k (Some (Ready code)) no' = absurd cc

pub flush-some : (T : Setup) (i : ℕ) (s : Side) (j : ℕ) → is_locally_enabled T i s (Flush j) ≡ true → is_some (slice_get (outbox s j) 0) ≡ true
unfolding is_locally_enabled
flush-some T i s j enabled = (and_parts (is_other_kernel T i j) (is_some (slice_get (outbox s j) 0)) enabled).1

module _ (T : Setup) (valid : IsSetup T) where
  -- A request is handled.
  module _ (J : List Entry) (runs : IsSchedule T J) (H : Holds T (grants J) (world_after T J)) (O : Ordered T (grants J) (world_after T J)) (i from j : ℕ)
      (k : KeyName) (full : (side (world_after T J) i).inbox ≡ Some (from, RevokeReq k j)) where
    abbrev W : World
    W = world_after T J

    abbrev s : Side
    s = side W i

    abbrev base : Side
    base = with_inbox None s

    -- the parent of the key is held by the sender
    under : Under (owner_of T) (Par (grants J)) (Made T (grants J)) (whole T W) k from j
    under =
        let part = inbox-part (requesting k from j) W i in
        let weight : of_inbox (requesting k from j) i s.inbox ≡ bit (key_eq k k && ((from == from) && (j == j))) = ap (of_inbox (requesting k from j) i) full in
        let one = one-true (key_eq k k && ((from == from) && (j == j)))
        (and_from (key_eq k k) ((from == from) && (j == j)) (key_eq-same k) (and_from (from == from) (j == j) (eq-eqb from from refl) (eq-eqb j j refl))) in
        H.asking k from j (omega (arith, part, weight, one))

    -- the key is this kernel's
    home : owner_of T k ≡ i
    home =
        let part = inbox-part (straying (owner_of T)) W i in
        let none = H.placed in
        let weight : of_inbox (straying (owner_of T)) i s.inbox ≡ bit (not ((owner_of T k == i) && not (owner_of T k == from))) =
        ap (of_inbox (straying (owner_of T)) i) full in
        eqb-true (owner_of T k) i
        (and_parts (owner_of T k == i) (not (owner_of T k == from))
        (test ((owner_of T k == i) && not (owner_of T k == from)) (omega (arith, part, none, weight)))).0
      where
        test : (t : Bool) → bit (not t) ≡ 0 → t ≡ true
        test true none = refl
        test false none = absurd (omega (arith, none))

    -- behind the request there is no gift
    behind : at_messages k (link W from i) + at_messages k (outbox (side W from) i) ≡ 0
    behind =
        let front : way W from i ≡ ((RevokeReq k j ∷ []) ++ link W from i) ++ outbox (side W from) i =
        ap (λ xs. (xs ++ link W from i) ++ outbox (side W from) i) (ap (fetched_from from) full
        ∙ cond-true (from == from) (RevokeReq k j ∷ []) [] (eq-eqb from from refl)) in
        let none : late k (RevokeReq k j ∷ (link W from i ++ outbox (side W from) i)) ≡ 0 = ap (late k) (sym front) ∙ O.order k from i in
        let at = cond-true (key_eq k k) (at_messages k (link W from i ++ outbox (side W from) i)) (late k (link W from i ++ outbox (side W from) i))
        (key_eq-same k) in
        let both = sum_by-append (at_message k) (link W from i) (outbox (side W from) i) in
        omega (arith, none, at, both)

    -- a gift on a way is behind the request
    no-link : (a b : ℕ) → 1 ≤ at_messages k (link W a b) → ⊥
    no-link a b some =
        let one = sum_by-append (at_message k) (fetched_from a (side W b).inbox ++ link W a b) (outbox (side W a) b) in
        let two = sum_by-append (at_message k) (fetched_from a (side W b).inbox) (link W a b) in
        let at = O.place under.0 k a b under.1 (omega (arith, one, two, some)) in
        let none = behind in
        let is : at_messages k (link W a b) ≡ at_messages k (link W from i) = ap (λ n. at_messages k (link W n b)) (sym at.0 ∙ under.2)
        ∙ ap (λ n. at_messages k (link W from n)) (sym at.1 ∙ home) in
        omega (arith, some, is, none)

    no-outbox : (a b : ℕ) → 1 ≤ at_messages k (outbox (side W a) b) → ⊥
    no-outbox a b some =
        let one = sum_by-append (at_message k) (fetched_from a (side W b).inbox ++ link W a b) (outbox (side W a) b) in
        let at = O.place under.0 k a b under.1 (omega (arith, one, some)) in
        let none = behind in
        let is : at_messages k (outbox (side W a) b) ≡ at_messages k (outbox (side W from) i) = ap (λ n. at_messages k (outbox (side W n) b)) (sym at.0
        ∙ under.2) ∙ ap (λ n. at_messages k (outbox (side W from) n)) (sym at.1 ∙ home) in
        omega (arith, some, is, none)

    no-inbox : (b : ℕ) → b ≢ i → (o : Option (ℕ × Message)) → (side W b).inbox ≡ o → 1 ≤ at_inbox k o → ⊥
    no-inbox b away None is some = omega (arith, some)
    no-inbox b away (Some (a, m)) is some =
        let one = sum_by-append (at_message k) (fetched_from a (side W b).inbox ++ link W a b) (outbox (side W a) b) in
        let two = sum_by-append (at_message k) (fetched_from a (side W b).inbox) (link W a b) in
        let front : fetched_from a (side W b).inbox ≡ m ∷ [] = ap (fetched_from a) is ∙ cond-true (a == a) (m ∷ []) [] (eq-eqb a a refl) in
        let weight = ap (at_messages k) front in
        let single = sum_by-cons (at_message k) m [] in
        let at = O.place under.0 k a b under.1 (omega (arith, one, two, weight, single, some)) in
        away (sym at.1 ∙ home)

    -- a call that is ready to install the key is of its VPE, here
    no-row : (a v : ℕ) → 1 ≤ at_parked k (parked (side W a) v) → is_ready_with k (parked s k.vpe) ≡ false → ⊥
    no-row a v some unready = elim (cases_order a T.kernels) [
      | inl same ↦ past (omega (arith, same))
      | inr (inl below) ↦
          let p = ready-key k (parked (side W a) v) some in
          let sound = (schedule-sound T valid J runs).sides a below in
          let call = (sound.calls v (ObtainReady k p.0 p.1 p.2) p.3).1 in
          let here' : a ≡ i = sym call.1.1 ∙ home in
          let ready : is_ready_with k (parked s k.vpe) ≡ true = ap (λ n. is_ready_with k (parked s n)) call.0
          ∙ (ap (λ n. is_ready_with k (parked (side W n) v)) (sym here') ∙ (ap (is_ready_with k) p.3 ∙ key_eq-same k)) in
          true≢false (sym ready ∙ unready)
      | inr (inr above) ↦ past (omega (arith, above))
    ]
      where
        past : T.kernels ≤ a → ⊥
        past beyond = let is : at_parked k (parked (side W a) v) ≡ 0 = ap (λ (x : Side). at_parked k (parked x v)) (schedule-past T J runs a beyond) in
            omega (arith, some, is)

    -- with nothing to cancel
    unready-none : is_ready_with k (parked s k.vpe) ≡ false → at_world k on_its_way (with_side i base W) ≡ 0
    unready-none unready = elim (cases_eq (at_world k on_its_way (with_side i base W)) 0) [
      | inl none ↦ none
      | inr some ↦ absurd (elim (cases_eq (sum_by (at_side k on_its_way) (with_side i base W).sides) 0) [
        | inl none ↦
            let a = some-of (λ (ls : List (List Message)). sum_by (at_messages k) ls) [] W.links (omega (arith, some, none)) in
            let b = some-of (at_messages k) [] (get_or W.links a.0 []) a.1 in
            no-link a.0 b.0 b.1
        | inr more ↦
            let a = some-of (at_side k on_its_way) no_side (with_side i base W).sides (omega (arith, more)) in
            elim (cases_eq a.0 i) [
              | inl same ↦
                  let at : side (with_side i base W) a.0 ≡ base = ap (side (with_side i base W)) same ∙ get_or-put_same no_side W.sides i base in
                  let weight = ap (at_side k on_its_way) at in
                  let big = a.1 in
                  no-side i base refl refl (inl refl) (omega (arith, weight, big))
              | inr away ↦
                  let at : side (with_side i base W) a.0 ≡ side W a.0 = get_or-put_other no_side W.sides i a.0 base away in
                  let weight = ap (at_side k on_its_way) at in
                  let big = a.1 in
                  no-side a.0 (side W a.0) refl refl (inr (away, refl)) (omega (arith, weight, big))
            ]
      ])
    ]
      where
        no-side : (a : ℕ) (x : Side) → x.parks ≡ (side W a).parks → x.outs ≡ (side W a).outs → (x.inbox ≡ None) ⊎ ((a ≢ i) × (x.inbox ≡ (side W a).inbox)) →
            1 ≤ at_side k on_its_way x → ⊥
        no-side a x parks outs inbox big =
            let caps = weigh-none (at_cap k on_its_way) x.caps (λ c among. refl) in
            elim (cases_eq (sum_by (at_parked k) x.parks) 0) [
              | inr some ↦
                  let v = some-of (at_parked k) None x.parks (omega (arith, some)) in
                  let is : at_parked k (parked x v.0) ≡ at_parked k (parked (side W a) v.0) =
                  ap (λ (ps : List (Option Parked)). at_parked k (get_or ps v.0 None)) parks in
                  let one = v.1 in
                  no-row a v.0 (omega (arith, is, one)) unready
              | inl none ↦ elim (cases_eq (sum_by (at_messages k) x.outs) 0) [
                | inr some ↦
                    let b = some-of (at_messages k) [] x.outs (omega (arith, some)) in
                    let is : at_messages k (get_or x.outs b.0 []) ≡ at_messages k (outbox (side W a) b.0) =
                    ap (λ (bs : List (List Message)). at_messages k (get_or bs b.0 [])) outs in
                    let one = b.1 in
                    no-outbox a b.0 (omega (arith, is, one))
                | inl empty ↦ elim inbox [
                  | inl nothing ↦ let zero' : at_inbox k x.inbox ≡ 0 = ap (at_inbox k) nothing in omega (arith, caps, none, empty, zero', big)
                  | inr (away, same) ↦ let is : at_inbox k x.inbox ≡ at_inbox k (side W a).inbox = ap (at_inbox k) same in
                      no-inbox a away (side W a).inbox refl (omega (arith, caps, none, empty, is, big))
                ]
              ]
            ]

    -- and with a ready obtain, which was the one place
    ready-none : is_ready_with k (parked s k.vpe) ≡ true →
        at_world k on_its_way (with_side i (parked_as k.vpe ObtainCancelled (ready_freed (parked base k.vpe) k.vpe base)) W) ≡ 0
    ready-none ready =
        let p = ready-parked k (parked s k.vpe) ready in
        let once = lives-once k all_held T valid J runs in
        let parts = held-parts T W k in
        let u : Side = ready_freed (parked base k.vpe) k.vpe base in
        let t : Side = parked_as k.vpe ObtainCancelled u in
        let world = world-side k on_its_way W i t in
        let calls = lives-park k on_its_way u k.vpe (Some ObtainCancelled) in
        let inbox = lives-inbox k on_its_way s None in
        let free = subst (λ z. at_side k on_its_way (ready_freed z k.vpe base) + 1 ≤ at_side k on_its_way base + at_parked k
        (parked (ready_freed z k.vpe base) k.vpe)) (sym p.3) (freed-le p.0 p.1 p.2 p.3) in
        omega (arith, once, parts, world, calls, inbox, free)
      where
        freed-le : (parent : KeyName) (object : Object) (sel : ℕ) → parked s k.vpe ≡ Some (ObtainReady k parent object sel) →
            at_side k on_its_way (freed k.vpe sel base) + 1 ≤ at_side k on_its_way base + at_parked k (parked (freed k.vpe sel base) k.vpe)
        freed-le parent object sel is =
            let here' : at_parked k (parked s k.vpe) ≡ 1 = ap (at_parked k) is ∙ cond-true (key_eq k k) 1 0 (key_eq-same k) in
            omega (arith, here')

    pub nothing-late : at_world k on_its_way (with_side i (obtain_cancelled k base) W) ≡ 0
    nothing-late = elim (cases_Bool (is_ready_with k (parked s k.vpe))) [
      | inl ready ↦ ap (λ (t : Side). at_world k on_its_way (with_side i t W))
          (cond-true (is_ready_with k (parked base k.vpe)) (parked_as k.vpe ObtainCancelled (ready_freed (parked base k.vpe) k.vpe base)) base ready)
          ∙ ready-none ready
      | inr unready ↦ ap (λ (t : Side). at_world k on_its_way (with_side i t W))
          (cond-false (is_ready_with k (parked base k.vpe)) (parked_as k.vpe ObtainCancelled (ready_freed (parked base k.vpe) k.vpe base)) base unready)
          ∙ unready-none unready
    ]

  pub no-late : (J : List Entry) (runs : IsSchedule T J) → Holds T (grants J) (world_after T J) → Ordered T (grants J) (world_after T J) → NoLate T valid J
  no-late J runs H O = λ i from j k full none. nothing-late J runs H O i from j k full

  -- The start.
  start-ordered : Ordered T [] (start T)
  start-ordered = record {
    order = λ k a b. let less = late-le k (way (start T) a b) in let none = way-gifts k (start T) a b (nowhere k) in omega (arith, less, none);
    place = λ p k a b granted some. absurd (Contains-nil (p, k) granted);
  }
    where
      nowhere : (k : KeyName) → at_world k on_its_way (start T) ≡ 0
      nowhere k = let few = start-lives k on_its_way T in let none = weigh-none (at_root k on_its_way) (root_keys T) (λ q among. refl) in
          omega (arith, few, none)

  -- An event.
  module _ (before : List Entry) (runs : IsSchedule T before) (H : Holds T (grants before) (world_after T before))
      (O : Ordered T (grants before) (world_after T before)) (i : ℕ) where
    abbrev V : World
    V = world_after T before

    abbrev now : Side
    now = side V i

    abbrev gs : List (KeyName × KeyName)
    gs = grants before

    fits : IsReady T gs V
    fits = schedule-ready T valid before runs (no-late before runs H O)

    list-front : (ms : List Message) (m : Message) → slice_get ms 0 ≡ Some m → ms ≡ m ∷ drop 1 ms
    list-front [] m none = absurd cc
    list-front (x ∷ xs) m some = ap (λ y. y ∷ xs) (same_Some x m some)

    stepped-ordered : (a : Act) (o : Option (KeyName × KeyName)) → ◌≡◌ {A = Option (KeyName × KeyName)} o (stepped T V (event i a)).outcome.grant →
        Told T gs (stepped T V (event i a)).outcome.grant → (base t : Side) → base.outs ≡ now.outs → (base.inbox ≡ now.inbox) ⊎ (base.inbox ≡ None) →
        Sends T gs V fits H (anything gs V) i o base t → Ordered T (gs ++ option_to_list o) (with_side i t V)
    stepped-ordered a o is told base t boxes inboxes S =
        ordered-on T gs (gs ++ option_to_list o) V fits H (anything gs V) O i o (λ p k granted. last-granted T valid gs o p k granted)
        (λ p k now'. told.new p k (sym is ∙ now'))
        (λ k unmade. let none = unmade-none T valid before runs k unmade in let parts = held-parts T V k in omega (arith, none, parts))
        (λ p k now'. let held = local_step-below T i now a (input_of V i a) p k (sym is ∙ now') in schedule-homes T valid before runs i p held.0 held.1)
        base t boxes inboxes S

    event-ordered : (a : Act) → is_enabled T V (event i a) ≡ true → Told T gs (stepped T V (event i a)).outcome.grant →
        Ordered T (gs ++ option_to_list (stepped T V (event i a)).outcome.grant) (after T V (event i a))
    unfolding after local_step
    event-ordered (Calls v) enabled told = ordered-same T (gs ++ option_to_list (stepped T V (event i (Calls v))).outcome.grant)
        (with_side i (stepped T V (event i (Calls v))).side V) (after T V (event i (Calls v))) (λ a b. refl)
        (stepped-ordered (Calls v) (stepped T V (event i (Calls v))).outcome.grant refl told now (stepped T V (event i (Calls v))).side refl (inl refl)
        (option-keeps (Keeps T gs V fits H (anything gs V) i) (call_row T i (call_counted v now) v) (next_call T now v) (unshown now)
        (λ c there. by-call T gs V fits H (anything gs V) i v c (anything-loses gs T now (Calls v) c there))
        (λ _. row-step T gs V fits H (anything gs V) i now (in_row T gs V fits H (anything gs V) i))
        (facts-of T gs V fits H (anything gs V) i (Calls v) (stepped T V (event i (Calls v))) refl told (λ k. after-lives k all_held T V i (Calls v)))).1)
    event-ordered (Upcall v) enabled told = ordered-same T (gs ++ option_to_list (stepped T V (event i (Upcall v))).outcome.grant)
        (with_side i (stepped T V (event i (Upcall v))).side V) (after T V (event i (Upcall v))) (λ a b. refl)
        (stepped-ordered (Upcall v) (stepped T V (event i (Upcall v))).outcome.grant refl told now (stepped T V (event i (Upcall v))).side refl (inl refl)
        (by-upcall T gs V fits H (anything gs V) i v (facts-of T gs V fits H (anything gs V) i (Upcall v) (stepped T V (event i (Upcall v))) refl told
        (λ k. after-lives k all_held T V i (Upcall v)))).1)
    event-ordered (Resume v) enabled told = ordered-same T (gs ++ option_to_list (stepped T V (event i (Resume v))).outcome.grant)
        (with_side i (stepped T V (event i (Resume v))).side V) (after T V (event i (Resume v))) (λ a b. refl)
        (stepped-ordered (Resume v) (stepped T V (event i (Resume v))).outcome.grant refl told now (stepped T V (event i (Resume v))).side refl (inl refl)
        (by-resume T gs V fits H (anything gs V) i v (facts-of T gs V fits H (anything gs V) i (Resume v) (stepped T V (event i (Resume v))) refl told
        (λ k. after-lives k all_held T V i (Resume v)))).1)
    event-ordered (Kill v) enabled told = ordered-same T (gs ++ option_to_list None) (with_side i (stepped T V (event i (Kill v))).side V)
        (after T V (event i (Kill v))) (λ a b. refl) (stepped-ordered (Kill v) None refl told now (ended T i v now) refl (inl refl)
        (row-step T gs V fits H (anything gs V) i (ended T i v now)
        (row-ended (here T gs V fits H (anything gs V) i) v now (λ k same. tt) (in_row T gs V fits H (anything gs V) i))).1)
    event-ordered Handle enabled told = ordered-same T (gs ++ option_to_list None) (with_side i (stepped T V (event i Handle)).side V)
        (after T V (event i Handle)) (λ a b. refl) (stepped-ordered Handle None refl told (with_inbox None now) (stepped T V (event i Handle)).side refl
        (inr refl) (by-inbox T gs V fits H (anything gs V) i now.inbox refl
        (facts-of T gs V fits H (anything gs V) i Handle (stepped T V (event i Handle)) refl told (λ k. after-lives k all_held T V i Handle))).1)
    event-ordered (Fetch j) enabled told = subst (λ xs. Ordered T xs (after T V (event i (Fetch j)))) (sym (append-nil gs))
        (fetched (slice_get (link V j i) 0) refl)
      where
        outer : (is_locally_enabled T i now (Fetch j) ≡ true) × (is_allowed T V i (Fetch j) ≡ true)
        outer = enabled-parts T V i (Fetch j) enabled

        empty : (o : Option (ℕ × Message)) → now.inbox ≡ o → now.inbox ≡ None
        empty None none = none
        empty (Some x) full = absurd (true≢false (sym (fetch-empty T i now j outer.0) ∙ ap is_none full))

        fetched : (o : Option Message) → slice_get (link V j i) 0 ≡ o → Ordered T gs (after T V (event i (Fetch j)))
        fetched None none = absurd (true≢false (sym outer.1 ∙ ap is_some none))
        fetched (Some m) some = ordered-same T gs V (after T V (event i (Fetch j)))
            (λ a b. subst (λ o. way (with_link j i (drop 1 (link V j i)) (with_side i (with_inbox (option_map (λ q. (j, q)) o) now) V)) a b ≡ way V a b)
            (sym some) (way-fetched j i m (drop 1 (link V j i)) V (list-front (link V j i) m some) (empty now.inbox refl) a b)) O
    event-ordered (Flush j) enabled told = subst (λ xs. Ordered T xs (after T V (event i (Flush j)))) (sym (append-nil gs))
        (flushed (slice_get (outbox now j) 0) refl)
      where
        outer : (is_locally_enabled T i now (Flush j) ≡ true) × (is_allowed T V i (Flush j) ≡ true)
        outer = enabled-parts T V i (Flush j) enabled

        flushed : (o : Option Message) → slice_get (outbox now j) 0 ≡ o → Ordered T gs (after T V (event i (Flush j)))
        flushed None none = absurd (true≢false (sym (flush-some T i now j outer.0) ∙ ap is_some none))
        flushed (Some m) some = ordered-same T gs V (after T V (event i (Flush j)))
            (λ a b. subst (λ o. way (option_map_or (λ q. with_link i j (link V i j ++ q ∷ []) (with_side i (sent j now) V)) o (with_side i (sent j now) V)) a b
            ≡ way V a b) (sym some) (way-flushed i j m (drop 1 (outbox now j)) V (list-front (outbox now j) m some) a b)) O

  -- Along every schedule of every setup.
  pub schedule-revokes : (J : List Entry) → IsSchedule T J → Holds T (grants J) (world_after T J) × Ordered T (grants J) (world_after T J)
  schedule-revokes J runs = from [] J refl (start-holds T) start-ordered
    where
      from : (before later : List Entry) → J ≡ before ++ later → Holds T (grants before) (world_after T before) →
          Ordered T (grants before) (world_after T before) → Holds T (grants J) (world_after T J) × Ordered T (grants J) (world_after T J)
      from before [] parts H O = subst (λ K. Holds T (grants K) (world_after T K) × Ordered T (grants K) (world_after T K)) (sym (parts ∙ append-nil before))
          (H, O)
      from before (e ∷ es) parts H O =
          let V : World = world_after T before in
          let runs' : IsSchedule T (before ++ e ∷ es) = subst (IsSchedule T) parts runs in
          let at = entry-enabled T before (start T) e es runs' in
          let o : Option (KeyName × KeyName) = (stepped T V e.event).outcome.grant in
          let shows : e.grant ≡ o = shown T V e at.2 in
          let prefix : IsSchedule T (before ++ e ∷ []) = run-prefix T before es e (start T) runs' in
          let gs : grants (before ++ e ∷ []) ≡ grants before ++ option_to_list o = more-grants before e o shows in
          let told : Told T (grants before) o = record {
            next = subst (IsGrown (root_keys T)) gs (all-grown T valid (before ++ e ∷ []) prefix);
            new = λ p k is. all-new T valid J runs before es e p k parts (shows ∙ is);
            valid = λ p k is. schedule-valid T valid (before ++ e ∷ []) prefix p k
                (subst (λ xs. Contains xs (p, k)) (sym gs) (granted-last (grants before) o p k is));
          } in
          let world : world_after T (before ++ e ∷ []) ≡ after T V e.event = run-append T before (e ∷ []) (start T) in
          let holds : Holds T (grants before ++ option_to_list o) (after T V e.event) =
          event-holds T (grants before) V (fits before at.0 H O e.event.kernel) H (anything (grants before) V) e.event.kernel e.event.act
          (anything-loses (grants before) T (side V e.event.kernel) e.event.act) at.1 told in
          let ordered : Ordered T (grants before ++ option_to_list o) (after T V e.event) =
          event-ordered before at.0 H O e.event.kernel e.event.act at.1 told in
          from (before ++ e ∷ []) es (parts ∙ sym (append_assoc before (e ∷ []) es))
          (subst (λ xs. Holds T xs (world_after T (before ++ e ∷ []))) (sym gs) (subst (Holds T (grants before ++ option_to_list o)) (sym world) holds))
          (subst (λ xs. Ordered T xs (world_after T (before ++ e ∷ []))) (sym gs) (subst (Ordered T (grants before ++ option_to_list o)) (sym world) ordered))
