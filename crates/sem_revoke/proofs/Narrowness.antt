-- Narrowing, along every schedule of every setup.
use Rattle.std.proofs.Common.{true, ◌≡◌, ◌≤◌, ℕ, ◌++◌, List, [], ◌∷◌, replicate, get_or, Option, Some, None, option_to_list, append-nil, append_assoc, refl}
use Rattle.std.proofs.Common.{sym, ap, ◌∙◌, subst, inl, inr, arith}
use Rattle.std.specs.List.{Contains, All, filter, find, sum_by}
use Rattle.std.specs.Prelude.{◌==◌}
use Rattle.std.specs.Option.{option_map_or, IsSome}
use Rattle.std.proofs.lemmas.Bool.{cases_Bool, cond-true, cond-false, true≢false}
use Rattle.std.proofs.lemmas.List.Elements.{All-contains, All-nil, All-replicate, Contains-get_or}
use Rattle.std.proofs.lemmas.List.Sums.{sum_by-cons}
use Rattle.sem_key.specs.declared.object.Object.{Object}
use Rattle.sem_key.specs.declared.object.Object.TheVariants.{Recv}
use Rattle.sem_key.specs.KeyName.{KeyName, key_eq}
use Rattle.sem_key.specs.ObjectRanges.{narrows}
use Rattle.sem_key.specs.Capability.{Capability}
use Rattle.sem_msg.specs.declared.entry.Entry.{Entry}
use Rattle.sem_msg.specs.declared.message.Message.{Message}
use Rattle.sem_msg.specs.declared.message.Message.TheVariants.{ObtainOk, Ack}
use Rattle.sem_msg.specs.declared.state.Pending.{Pending}
use Rattle.sem_msg.specs.Setup.{Setup, IsSetup}
use Rattle.sem_msg.specs.Lookups.{kernel_of, owner_of}
use Rattle.sem_machine.specs.Machine.{World, side, start, start_side, empty_side, root_added, vpe_added, vpe_fresh, after}
use Rattle.sem_machine.specs.Schedules.{IsRun, IsSchedule, world_after}
use Rattle.sem_machine.specs.Journals.{grants, root_keys}
use Rattle.sem_machine.specs.Living.{HasObject, as_held, as_granted, as_ready, as_pending}
use Rattle.sem_machine.specs.Safety.{narrowing}
use Rattle.sem_key.proofs.KeyTests.{key_eq-from, key_eq-true}
use Rattle.sem_key.proofs.Members.{found, Contains-nil, Contains-cons_cases}
use Rattle.sem_safety.proofs.CarryingWorlds.{stepped, used-made}
use Rattle.sem_machine.proofs.Folds.{in_turn-keeps}
use Rattle.sem_machine.specs.Sides.{Side, no_side, row, cap, with_row}
use Rattle.sem_msg.specs.VpeRows.{new_vpe, root_held}
use Rattle.sem_msg.specs.Rows.{no_vpe}
use Rattle.sem_msg.specs.Lookups.{pe_owner}
use Rattle.std.proofs.lemmas.List.{get_or_default}
use Rattle.sem_safety.proofs.GoingOn.{after-onward, run-append, entry-enabled}
use Rattle.sem_safety.proofs.Lives.{all_held, at_cap}
use Rattle.sem_safety.proofs.OneLife.{all-new, all-grown}
use Rattle.sem_safety.proofs.SoundWorlds.{held-once}
use Rattle.sem_machine.proofs.Weighing.{weigh-among}
use Rattle.sem_safety.proofs.Layers.{Facts, AsksFor, Awaits, Brings, InEndpoint}
use Rattle.sem_safety.proofs.Carrying.{InCap, InRow, InEndpoints, BringsAll, InSide, no_vpe-in, no_side-in, row-in, parked-in, put_row-in, put_endpoints-in}
use Rattle.sem_safety.proofs.CarryingWorlds.{side-in, flight-in}
use Rattle.sem_safety.proofs.GrownLines.{parent-grown}
use Rattle.sem_revoke.proofs.Revoking.{start-each, more-grants, shown}
use Rattle.sem_revoke.proofs.Readying.{schedule-homes}
use Rattle.sem_revoke.proofs.Linking.{all-linked}
use Rattle.sem_revoke.proofs.Narrowed.{drawn_by, said, Objects, next-objects}

-- a key that is held once is found
one-found : (k : KeyName) (cs : List Capability) (c : Capability) → c.key ≡ k → Contains cs c → sum_by (at_cap k all_held) cs ≤ 1 →
    find (λ x. key_eq x.key k) cs ≡ Some c
one-found k [] c same among once = absurd (Contains-nil c among)
one-found k (x ∷ xs) c same among once =
    let all = sum_by-cons (at_cap k all_held) x xs in
    let here : at_cap k all_held c ≡ 1 = cond-true (key_eq c.key k) 1 0 (key_eq-from c.key k same) in
    elim (cases_Bool (key_eq x.key k)) [
      | inl pass ↦ elim (Contains-cons_cases x xs c among) [
        | inl first ↦ cond-true (key_eq x.key k) (Some x) (find (λ x. key_eq x.key k) xs) pass ∙ ap Some first
        | inr rest ↦
            let one : at_cap k all_held x ≡ 1 = cond-true (key_eq x.key k) 1 0 pass in
            let more = weigh-among (at_cap k all_held) xs c rest in
            absurd (omega (arith, all, here, one, more, once))
      ]
      | inr fail ↦ elim (Contains-cons_cases x xs c among) [
        | inl first ↦ absurd (true≢false (sym (key_eq-from x.key k (ap (λ (y : Capability). y.key) first ∙ same)) ∙ fail))
        | inr rest ↦ cond-false (key_eq x.key k) (Some x) (find (λ x. key_eq x.key k) xs) fail ∙ one-found k xs c same rest (omega (arith, all, once))
      ]
    ]

no-run : (T : Setup) → IsSchedule T []
unfolding IsRun
no-run T = tt

-- The start.
module _ (T : Setup) (valid : IsSetup T) where
  abbrev first_object : KeyName → Object
  first_object k = option_map_or (λ (c : Capability). c.object) (cap (side (start T) (owner_of T k)) k) (Recv 0)

  abbrev F : Facts
  F = said T [] first_object (λ k. Recv 0) (drawn_by T (start T)) (λ v m. Unit {0}) (Recv 0)

  first-right : (i : ℕ) (c : Capability) → Contains (side (start T) i).caps c → InCap F c
  first-right i c among =
      let held : cap (side (start T) i) c.key ≡ Some c = one-found c.key (side (start T) i).caps c refl among (held-once c.key T valid [] (no-run T) i) in
      let home = schedule-homes T valid [] (no-run T) i c.key c held in
      record {
        key = (
          used-made T [] (no-run T) c.key (inl (inl (i, subst IsSome (sym held) refl))),
          ap (λ a. option_map_or (λ (x : Capability). x.object) (cap (side (start T) a) c.key) (Recv 0)) home
              ∙ ap (λ o. option_map_or (λ (x : Capability). x.object) o (Recv 0)) held,
        );
        links = λ n d within. tt;
        mark = λ j marked. tt;
      }

  -- what a side has but capabilities
  abbrev IsBare : Side → Type 0
  IsBare s = InSide F (record s { caps = [] })

  first-bare : (i : ℕ) → IsBare (start_side T i)
  unfolding start_side
  first-bare i =
      in_turn-keeps IsBare vpe_added (λ d s here.
      in_turn-keeps IsBare (root_added d) (λ r t is. put_row-in F (record t { caps = [] }) is d.vpe (root_held d r (row t d.vpe))
      (row-in F (record t { caps = [] }) is d.vpe))
      d.roots (vpe_fresh d s) (put_endpoints-in F (record (with_row d.vpe (λ v. new_vpe) s) { caps = [] })
      (put_row-in F (record s { caps = [] }) here d.vpe new_vpe (All-nil (AsksFor F))) d.vpe (replicate 16 None) (All-replicate (InEndpoint F) 16 None tt)))
      (filter (λ d. pe_owner T d.pe == i) T.vpes) (empty_side T) (record {
        caps = All-nil (InCap F);
        rows = All-replicate (InRow F) 128 no_vpe (no_vpe-in F);
        parks = All-replicate (Awaits F) 128 None tt;
        endpoints = All-replicate (InEndpoints F) 128 [] (All-nil (InEndpoint F));
        inbox = tt;
        outs = All-replicate (BringsAll F) T.kernels [] (All-nil (Brings F));
        pendings = All-nil F.pends;
      })

  first-side : (i : ℕ) → InSide F (side (start T) i)
  first-side i =
      let bare : IsBare (side (start T) i) = start-each T IsBare (no_side-in F) first-bare i in
      record {
        caps = λ n d within. first-right i (get_or (side (start T) i).caps n d) (Contains-get_or (side (start T) i).caps n d within);
        rows = bare.rows;
        parks = bare.parks;
        endpoints = bare.endpoints;
        inbox = bare.inbox;
        outs = bare.outs;
        pendings = bare.pendings;
      }

  first-links : All (λ (r : List (List Message)). All (BringsAll F) r) (start T).links
  unfolding start
  first-links = All-replicate (λ (r : List (List Message)). All (BringsAll F) r) T.kernels (replicate T.kernels [])
      (All-replicate (BringsAll F) T.kernels [] (All-nil (Brings F)))

  first-objects : Objects T [] (start T)
  first-objects = record {
    ob = first_object;
    prepared = λ k. Recv 0;
    right = record {
      sides = λ n d within. subst (InSide F) (sym (get_or_default (start T).sides n d no_side within)) (first-side n);
      links = first-links;
    };
    narrower = λ p k among. absurd (Contains-nil (p, k) among);
  }

  pub schedule-objects : (J : List Entry) → IsSchedule T J → Objects T (grants J) (world_after T J)
  schedule-objects J runs = from [] J refl first-objects
    where
      from : (before later : List Entry) → J ≡ before ++ later → Objects T (grants before) (world_after T before) → Objects T (grants J) (world_after T J)
      from before [] parts is = subst (λ K. Objects T (grants K) (world_after T K)) (sym (parts ∙ append-nil before)) is
      from before (e ∷ es) parts is =
          let W : World = world_after T before in
          let runs' : IsSchedule T (before ++ e ∷ es) = subst (IsSchedule T) parts runs in
          let at = entry-enabled T before (start T) e es runs' in
          let o : Option (KeyName × KeyName) = (stepped T W e.event).outcome.grant in
          let shows : e.grant ≡ o = shown T W e at.2 in
          let gs : grants (before ++ e ∷ []) ≡ grants before ++ option_to_list o = more-grants before e o shows in
          let next : Objects T (grants before ++ option_to_list o) (after T W e.event) =
          next-objects T valid before at.0 is e.event at.1 (λ v. ((after-onward T W e.event).sides (kernel_of T v)).numbers v)
          (λ p k now. all-new T valid J runs before es e p k parts (shows ∙ now))
          (λ p k. parent-grown (root_keys T) (grants before) (all-grown T valid before at.0) p k) in
          from (before ++ e ∷ []) es (parts ∙ sym (append_assoc before (e ∷ []) es))
          (subst (λ xs. Objects T xs (world_after T (before ++ e ∷ []))) (sym gs)
          (subst (Objects T (grants before ++ option_to_list o)) (sym (run-append T before (e ∷ []) (start T))) next))

module _ (T : Setup) (valid : IsSetup T) (J : List Entry) (runs : IsSchedule T J) where
  abbrev W : World
  W = world_after T J

  objects : Objects T (grants J) W
  objects = schedule-objects T valid J runs

  abbrev Now : Facts
  Now = said T (grants J) objects.ob objects.prepared (drawn_by T W) (λ v m. Unit {0}) (Recv 0)

  held-right : (i : ℕ) (k : KeyName) (c : Capability) → cap (side W i) k ≡ Some c → objects.ob k ≡ c.object
  held-right i k c held =
      let at = found (λ (x : Capability). key_eq x.key k) (side W i).caps c held in
      subst (λ q. objects.ob q ≡ c.object) (key_eq-true c.key k at.1)
      (All-contains (InCap Now) (side W i).caps c (side-in Now W objects.right i).caps at.0).key.1

  object-right : (k : KeyName) (o : Object) → HasObject W k o → objects.ob k ≡ o
  object-right k o (as_held i c held same) = held-right i k c held ∙ same
  object-right k o (as_granted parent flight) = (flight-in Now W objects.right (ObtainOk parent k o) flight).1
  object-right k o (as_ready i v sel parent there) = (subst (Awaits Now) there (parked-in Now (side W i) (side-in Now W objects.right i) v)).1
  object-right k o (as_pending i p flight there same) =
      let acked = flight-in Now W objects.right (Ack k true) flight in
      let at = found (λ (x : Pending). key_eq x.key k) (side W i).pendings p there in
      let pend = All-contains Now.pends (side W i).pendings p (side-in Now W objects.right i).pendings at.0 in
      sym acked.1.1 ∙ (ap objects.prepared (sym (key_eq-true p.key k at.1)) ∙ (pend.1 ∙ same))

pub all-narrowing : (T : Setup) → IsSetup T → (J : List Entry) → IsSchedule T J → narrowing T J
all-narrowing T valid J runs = λ p k live granted.
    let above = all-linked T valid J runs p k live granted in
    record {
      kernel = owner_of T p;
      parent = above.0;
      held = above.1;
      narrower = λ o has. subst (λ x. narrows x p above.0.object ≡ true) (object-right T valid J runs k o has)
          (subst (λ x. narrows ((objects T valid J runs).ob k) p x ≡ true) (held-right T valid J runs (owner_of T p) p above.0 above.1)
          ((objects T valid J runs).narrower p k granted));
    }
