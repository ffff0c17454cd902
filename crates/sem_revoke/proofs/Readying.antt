-- Every world of a schedule is ready for revocation, but for the order of gifts and requests.
use Rattle.std.proofs.Common.{◌≡◌, ◌⊎◌, ℕ, zero, suc, ◌+◌, ◌≤◌, ◌<◌, ◌++◌, true, false, List, [], ◌∷◌, map, get_or, Option, Some, None, option_to_list}
use Rattle.std.proofs.Common.{append-nil, append_assoc, refl, sym, ap, ◌∙◌, subst, inl, inr, arith}
use Rattle.std.specs.Prelude.{◌==◌, nat_lt}
use Rattle.std.specs.List.{Contains, range_with_len}
use Rattle.std.specs.Option.{option_map_or}
use Rattle.std.proofs.lemmas.Bool.{cases_Bool, cases_order, cond-false, eqb-true, and_parts, ltb-true, true≢false, false_from_ne_true}
use Rattle.std.proofs.lemmas.List.Elements.{All-contains, Contains-append_left, Contains-append_right, Contains-append_cases}
use Rattle.sem_key.specs.KeyName.{KeyName, IsValidKey, key_eq}
use Rattle.sem_key.specs.Capability.{Capability}
use Rattle.sem_msg.specs.declared.entry.Entry.{Entry}
use Rattle.sem_msg.specs.declared.event.Act.{Act}
use Rattle.sem_msg.specs.declared.event.Act.TheVariants.{Call as Calls, Fetch, Handle, Upcall, Resume, Flush, Kill}
use Rattle.sem_msg.specs.declared.event.Event.{Event}
use Rattle.sem_msg.specs.declared.message.Message.TheVariants.{RevokeReq}
use Rattle.sem_msg.specs.declared.setup.VpeDecl.{VpeDecl}
use Rattle.sem_msg.specs.Setup.{Setup, IsSetup, IsVpeDecl}
use Rattle.sem_key.specs.declared.limits.TheConstants.{PES, VPES}
use Rattle.sem_msg.proofs.Declared.{most_vpes-le}
use Rattle.sem_msg.specs.Lookups.{decl, owner_of, kernel_of, is_declared_at}
use Rattle.sem_machine.specs.Sides.{Side, no_side, cap, with_inbox}
use Rattle.sem_key.specs.Region.{has_key}
use Rattle.sem_machine.specs.Revokes.{obtain_cancelled}
use Rattle.sem_machine.specs.Machine.{World, side, with_side, input_of, start, start_side, local_step, after, event, is_enabled}
use Rattle.sem_machine.specs.Schedules.{IsSchedule, world_after}
use Rattle.sem_machine.specs.Journals.{grants, root_keys, made}
use Rattle.sem_key.proofs.KeyTests.{key_eq-true, Contains-from_has_key, has_key-from_Contains}
use Rattle.sem_key.proofs.Members.{found, Contains-nil, Contains-cons_cases, Contains-map}
use Rattle.sem_key.proofs.Puts.{get_or-put_other}
use Rattle.sem_safety.proofs.CarryingWorlds.{stepped}
use Rattle.sem_safety.proofs.GoingOn.{moved-sides, run-append, entry-enabled}
use Rattle.sem_safety.proofs.MarkCauses.{link-granted}
use Rattle.sem_safety.proofs.OneLife.{all-new, all-grown, made-drawn}
use Rattle.sem_safety.proofs.Parents.{local_step-below}
use Rattle.sem_safety.proofs.GrownLines.{child-grown}
use Rattle.sem_safety.proofs.SideLayers.{run-kept}
use Rattle.sem_machine.proofs.Weighing.{weigh-none}
use Rattle.sem_safety.proofs.Lives.{all_held, at_key, at_side, at_grant}
use Rattle.sem_safety.proofs.LiveWorlds.{at_world, at_root, world-side, after-lives, schedule-lives, lives-once}
use Rattle.sem_safety.proofs.JobIds.{HasIds, ids, start-ids}
use Rattle.sem_sound.proofs.Named.{declared-below, declared-kernel}
use Rattle.sem_sound.proofs.Scheduling.{schedule-sound}
use Rattle.sem_revoke.specs.Views.{IsFit}
use Rattle.sem_revoke.proofs.Viewing.{on_its_way, Rises}
use Rattle.sem_revoke.proofs.Worlds.{whole, held-parts, held-weighs, alive-weighs}
use Rattle.sem_revoke.proofs.Events.{Par, Made, IsReady}
use Rattle.sem_revoke.proofs.Revoking.{enabled-parts, more-grants, shown}
use Rattle.sem_revoke.proofs.Naming.{step-named}

-- Past the last kernel nothing is kept.

range-past : (T : Setup) (a n j : ℕ) → n ≤ j → get_or (map (start_side T) (range_with_len a n)) j no_side ≡ no_side
range-past T a zero j past = refl
range-past T a (suc n) zero past = absurd (omega (arith, past))
range-past T a (suc n) (suc j) past = range-past T (a + 1) n j (omega (arith, past))

start-past : (T : Setup) (j : ℕ) → T.kernels ≤ j → side (start T) j ≡ no_side
unfolding start
start-past T j past = range-past T 0 T.kernels j past

after-past : (T : Setup) (W : World) (e : Event) → is_enabled T W e ≡ true → ((j : ℕ) → T.kernels ≤ j → side W j ≡ no_side) → (j : ℕ) → T.kernels ≤ j →
    side (after T W e) j ≡ no_side
unfolding after is_enabled
after-past T W e enabled before j past =
    let x : Side = (stepped T W e).side in
    let low = ltb-true e.kernel T.kernels (and_parts (nat_lt e.kernel T.kernels) _ enabled).0 in
    ap (λ (ss : List Side). get_or ss j no_side) (moved-sides e.kernel (side W e.kernel) e.act (with_side e.kernel x W))
    ∙ (get_or-put_other no_side W.sides e.kernel j x (λ same. omega (arith, same, low, past)) ∙ before j past)

pub schedule-past : (T : Setup) (J : List Entry) → IsSchedule T J → (j : ℕ) → T.kernels ≤ j → side (world_after T J) j ≡ no_side
schedule-past T J runs = from [] J refl (start-past T)
  where
    from : (before later : List Entry) → J ≡ before ++ later → ((j : ℕ) → T.kernels ≤ j → side (world_after T before) j ≡ no_side) → (j : ℕ) → T.kernels ≤ j →
        side (world_after T J) j ≡ no_side
    from before [] parts is = λ j past. ap (λ K. side (world_after T K) j) (parts ∙ append-nil before) ∙ is j past
    from before (e ∷ es) parts is =
        let at = entry-enabled T before (start T) e es (subst (IsSchedule T) parts runs) in
        from (before ++ e ∷ []) es (parts ∙ sym (append_assoc before (e ∷ []) es))
        (λ j past. ap (λ V. side V j) (run-append T before (e ∷ []) (start T)) ∙ after-past T (world_after T before) e.event at.1 is j past)

pub enabled-low : (T : Setup) (W : World) (e : Event) → is_enabled T W e ≡ true → e.kernel < T.kernels
unfolding is_enabled
enabled-low T W e enabled = ltb-true e.kernel T.kernels (and_parts (nat_lt e.kernel T.kernels) _ enabled).0

module _ (T : Setup) (valid : IsSetup T) where
  -- the kernel that holds a key owns it
  pub schedule-homes : (J : List Entry) → IsSchedule T J → (i : ℕ) (k : KeyName) (c : Capability) → cap (side (world_after T J) i) k ≡ Some c → owner_of T k ≡ i
  schedule-homes J runs i k c held = elim (cases_order i T.kernels) [
    | inl same ↦ absurd (none (omega (arith, same)))
    | inr (inl below) ↦
        let sound = (schedule-sound T valid J runs).sides i below in
        let there = found (λ (x : Capability). key_eq x.key k) (side (world_after T J) i).caps c held in
        ap (owner_of T) (sym (key_eq-true c.key k there.1)) ∙ (sound.caps c there.0).own.1
    | inr (inr above) ↦ absurd (none (omega (arith, above)))
  ]
    where
      none : T.kernels ≤ i → ⊥
      none past = let no' : None ≡ Some c = ap (λ (s : Side). cap s k) (sym (schedule-past T J runs i past)) ∙ held in absurd cc

  -- what was never made is nowhere
  pub unmade-none : (J : List Entry) → IsSchedule T J → (k : KeyName) → (Contains (made T J) k → ⊥) → at_world k all_held (world_after T J) ≡ 0
  unmade-none J runs k unmade =
      let few = schedule-lives k all_held T J runs in
      let roots = weigh-none (at_root k all_held) (root_keys T)
      (λ q among. cond-false (key_eq q k) 1 0
      (false_from_ne_true (key_eq q k)
      (λ same. unmade (Contains-append_left (root_keys T) (map (λ g. g.1) (grants J)) k (subst (Contains (root_keys T)) (key_eq-true q k same) among))))) in
      let children = weigh-none (λ (g : KeyName × KeyName). at_key k g.1) (grants J)
      (λ g among. cond-false (key_eq g.1 k) 1 0
      (false_from_ne_true (key_eq g.1 k)
      (λ same. unmade (Contains-append_right (root_keys T) (map (λ g. g.1) (grants J)) k
      (subst (Contains (map (λ (g : KeyName × KeyName). g.1) (grants J))) (key_eq-true g.1 k same)
      (Contains-map (λ (g : KeyName × KeyName). g.1) (grants J) g among)))))) in
      omega (arith, few, roots, children)

  pub alive-made : (J : List Entry) → IsSchedule T J → (k : KeyName) → 1 ≤ at_world k all_held (world_after T J) → Contains (made T J) k
  alive-made J runs k more = elim (cases_Bool (has_key (made T J) k)) [
    | inl has ↦ Contains-from_has_key (made T J) k has
    | inr none ↦ let zero' = unmade-none J runs k (λ among. true≢false (sym (has_key-from_Contains (made T J) k among) ∙ none)) in
        absurd (omega (arith, more, zero'))
  ]

  -- Each grant is of a named key, which is never on its way where the parent has the same owner.
  abbrev pub IsTidy : List Entry → Type 0
  IsTidy J = (p k : KeyName) → Contains (grants J) (p, k) → (is_declared_at T k.pe k.vpe ≡ true)
      × (owner_of T p ≡ owner_of T k → at_world k on_its_way (world_after T J) ≡ 0)

  pub grant-weighs : (k : KeyName) (o : Option (KeyName × KeyName)) → ((p : KeyName) → ◌≡◌ {A = Option (KeyName × KeyName)} o (Some (p, k)) → ⊥) →
      at_grant k o ≡ 0
  grant-weighs k None not_now = refl
  grant-weighs k (Some g) not_now =
      cond-false (key_eq g.1 k) 1 0
      (false_from_ne_true (key_eq g.1 k)
      (λ same. not_now g.0 (subst (λ z. ◌≡◌ {A = Option (KeyName × KeyName)} (Some g) (Some (g.0, z))) (key_eq-true g.1 k same) refl)))

  pub last-granted : (gs : List (KeyName × KeyName)) (o : Option (KeyName × KeyName)) (p k : KeyName) → Contains (gs ++ option_to_list o) (p, k) →
      Contains gs (p, k) ⊎ (◌≡◌ {A = Option (KeyName × KeyName)} o (Some (p, k)))
  last-granted gs None p k among = elim (Contains-append_cases gs [] (p, k) among) [ inl before ↦ inl before | inr none ↦ absurd (Contains-nil (p, k) none) ]
  last-granted gs (Some g) p k among = elim (Contains-append_cases gs (g ∷ []) (p, k) among) [
    | inl before ↦ inl before
    | inr now ↦ elim (Contains-cons_cases g [] (p, k) now) [ inl same ↦ inr (ap Some same) | inr none ↦ absurd (Contains-nil (p, k) none) ]
  ]

  -- a grant of this event within one kernel leaves nothing on its way
  granted-here : (W : World) (i : ℕ) (a : Act) (p k : KeyName) → ◌≡◌ {A = Option (KeyName × KeyName)} (stepped T W (event i a)).outcome.grant (Some (p, k)) →
      at_side k on_its_way (stepped T W (event i a)).side ≤ at_side k on_its_way (side W i) → at_world k on_its_way W ≡ 0 →
      at_world k on_its_way (after T W (event i a)) ≡ 0
  unfolding after local_step
  granted-here W i (Calls v) p k some less none = let world = world-side k on_its_way W i (local_step T i (side W i) (Calls v) None).side in
      omega (arith, world, less, none)
  granted-here W i (Upcall v) p k some less none = let world = world-side k on_its_way W i (local_step T i (side W i) (Upcall v) None).side in
      omega (arith, world, less, none)
  granted-here W i (Resume v) p k some less none = let world = world-side k on_its_way W i (local_step T i (side W i) (Resume v) None).side in
      omega (arith, world, less, none)
  granted-here W i (Kill v) p k some less none = absurd cc
  granted-here W i Handle p k some less none = absurd cc
  granted-here W i (Fetch j) p k some less none = absurd cc
  granted-here W i (Flush j) p k some less none = absurd cc

  pub schedule-tidy : (J : List Entry) → IsSchedule T J → IsTidy J
  schedule-tidy J runs = from [] J refl (λ p k none. absurd (Contains-nil (p, k) none))
    where
      from : (before later : List Entry) → J ≡ before ++ later → IsTidy before → IsTidy J
      from before [] parts is = subst IsTidy (sym (parts ∙ append-nil before)) is
      from before (e ∷ es) parts is =
          let W : World = world_after T before in
          let at = entry-enabled T before (start T) e es (subst (IsSchedule T) parts runs) in
          let i : ℕ = e.event.kernel in
          let o : Option (KeyName × KeyName) = (stepped T W e.event).outcome.grant in
          let shows : e.grant ≡ o = shown T W e at.2 in
          let gs : grants (before ++ e ∷ []) ≡ grants before ++ option_to_list o = more-grants before e o shows in
          let world : world_after T (before ++ e ∷ []) ≡ after T W e.event = run-append T before (e ∷ []) (start T) in
          let low : i < T.kernels = enabled-low T W e.event at.1 in
          let sound = (schedule-sound T valid before at.0).sides i low in
          let named = step-named T valid i low (λ k. at_side k on_its_way (side W i)) (side W i) e.event.act (input_of W i e.event.act) sound
          (enabled-parts T W i e.event.act at.1).0 (λ k. omega arith) in
          let next : IsTidy (before ++ e ∷ []) = λ p k granted. elim (last-granted (grants before) o p k (subst (λ xs. Contains xs (p, k)) gs granted)) [
            | inl old ↦
                let was = is p k old in
                let not_now = grant-weighs k o (λ q now. all-new T valid J runs before es e q k parts (shows
                ∙ now) (child-grown (root_keys T) (grants before) p k old)) in
                let less = after-lives k on_its_way T W i e.event.act in
                (was.0, λ same. let none = was.1 same in let moved = ap (at_world k on_its_way) world in omega (arith, none, not_now, less, moved))
            | inr now ↦
                let name = named p k now in (
                  name.0,
                  λ same.
                      let held = local_step-below T i (side W i) e.event.act (input_of W i e.event.act) p k now in
                      let owned = schedule-homes before at.0 i p held.0 held.1 in
                      let unmade = unmade-none before at.0 k (λ among. all-new T valid J runs before es e p k parts (shows ∙ now) among) in
                      let parts' = held-parts T W k in
                      ap (at_world k on_its_way) world ∙ granted-here W i e.event.act p k now (name.1 (sym same ∙ owned)) (omega (arith, unmade, parts')),
                )
          ] in
          from (before ++ e ∷ []) es (parts ∙ sym (append_assoc before (e ∷ []) es)) next

  -- what is granted is valid
  declared-valid : (pe v : ℕ) → is_declared_at T pe v ≡ true → (pe < PES) × (v < VPES)
  declared-valid pe v declared = by (decl T v) refl declared
    where
      by : (o : Option VpeDecl) → decl T v ≡ o → option_map_or (λ d. d.pe == pe) o false ≡ true → (pe < PES) × (v < VPES)
      by None none no' = absurd cc
      by (Some d) some same =
          let there = found (λ (x : VpeDecl). x.vpe == v) T.vpes d some in
          let is : IsVpeDecl T d = All-contains (IsVpeDecl T) T.vpes d valid.vpes there.0 in
          let one = eqb-true d.pe pe same in
          let two = eqb-true d.vpe v there.1 in
          let few = is.pe in
          let few' = is.vpe in
          let most = most_vpes-le T.version in
          (omega (arith, one, few, most), omega (arith, two, few', most))

  pub schedule-valid : (J : List Entry) → IsSchedule T J → (p k : KeyName) → Par (grants J) p k → IsValidKey k
  schedule-valid J runs p k granted =
      let declared = (schedule-tidy J runs p k granted).0 in
      let places = declared-valid k.pe k.vpe declared in
      let low : kernel_of T k.vpe < T.kernels = subst (λ n. n < T.kernels) (sym (declared-kernel T k.pe k.vpe declared))
      (declared-below T valid k.pe k.vpe declared) in
      let sound = (schedule-sound T valid J runs).sides (kernel_of T k.vpe) low in
      let drawn = made-drawn T valid J runs k (child-grown (root_keys T) (grants J) p k granted) in
      let most = (sound.rows k.vpe).next_number in
      (places.0, places.1, omega (arith, drawn, most))

  pub schedule-fit : (J : List Entry) → IsSchedule T J → IsFit (owner_of T) (Par (grants J)) (Made T (grants J)) (whole T (world_after T J))
  schedule-fit J runs = record {
    links = λ p k (c, held, child). link-granted T valid J runs (owner_of T p) p k c held (Contains-from_has_key c.children k child);
    apart = λ k c held. let once = lives-once k all_held T valid J runs in let parts = held-parts T W k in let one = held-weighs T W k (owner_of T k) c held in
        omega (arith, once, parts, one);
    few = λ k. let once = lives-once k all_held T valid J runs in let parts = held-parts T W k in omega (arith, once, parts);
    near = λ p k granted same. (schedule-tidy J runs p k granted).1 same;
    made = λ k alive. alive-made J runs k (alive-weighs T W k (Par (grants J)) (Made T (grants J)) alive);
  }
    where
      W : World
      W = world_after T J

  -- the keys that a kernel holds rise
  pub schedule-rises : (J : List Entry) → IsSchedule T J → (i : ℕ) → Rises (side (world_after T J) i).caps
  schedule-rises J runs i = elim (cases_order i T.kernels) [
    | inl same ↦ past (omega (arith, same))
    | inr (inl below) ↦ ((schedule-sound T valid J runs).sides i below).caps_rise
    | inr (inr above) ↦ past (omega (arith, above))
  ]
    where
      past : T.kernels ≤ i → Rises (side (world_after T J) i).caps
      past beyond = subst (λ (s : Side). Rises s.caps) (sym (schedule-past T J runs i beyond)) (λ m n e lt within. absurd (omega (arith, lt, within)))

  -- no gift comes behind the request for its key
  abbrev pub NoLate : List Entry → Type 0
  NoLate J = (i from j : ℕ) (k : KeyName) → (side (world_after T J) i).inbox ≡ Some (from, RevokeReq k j) → cap (side (world_after T J) i) k ≡ None →
      at_world k on_its_way (with_side i (obtain_cancelled k (with_inbox None (side (world_after T J) i))) (world_after T J)) ≡ 0

  pub schedule-ready : (J : List Entry) → IsSchedule T J → NoLate J → IsReady T (grants J) (world_after T J)
  schedule-ready J runs late = record {
    grown_so = all-grown T valid J runs;
    fit = schedule-fit J runs;
    rises = schedule-rises J runs;
    ids = run-kept HasIds ids T J (start T) (start-ids T);
    homes = schedule-homes J runs;
    valid = schedule-valid J runs;
    late = late;
  }
