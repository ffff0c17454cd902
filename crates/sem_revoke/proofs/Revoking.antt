-- Along every schedule whose worlds are ready, revocation is so.
use Rattle.sem_msg.specs.declared.call.Call.TheVariants.{Derive, Gate, Obtain, Delegate, OpenSession, AskOffer, Revoke, Bind, Read, Write, Send as SendCall}
use Rattle.sem_msg.specs.declared.call.Call.TheVariants.{Credit, Exit, Clear}
use Rattle.sem_msg.specs.declared.call.Call.{Call}
use Rattle.std.proofs.Common.{◌≡◌, ℕ, zero, suc, ◌+◌, ◌≤◌, true, ◌&&◌, List, [], ◌∷◌, ◌++◌, map, get_or, drop, replicate, Option, Some, None, slice_get}
use Rattle.std.proofs.Common.{is_some, is_none, option_to_list, append-nil, append_assoc, refl, sym, ap, ◌∙◌, subst, arith}
use Rattle.std.specs.Prelude.{◌==◌, nat_lt}
use Rattle.std.specs.List.{Contains, All, filter, range_with_len, sum_by}
use Rattle.std.specs.Option.{option_map}
use Rattle.std.proofs.lemmas.Bool.{and_parts, true≢false}
use Rattle.std.proofs.lemmas.Option.{same_Some}
use Rattle.std.proofs.lemmas.List.Elements.{All-contains, All-nil, Contains-append_right}
use Rattle.sem_key.specs.KeyName.{KeyName, IsValidKey, key_eq}
use Rattle.sem_key.specs.Capability.{Capability}
use Rattle.sem_msg.specs.declared.entry.Entry.{Entry}
use Rattle.sem_msg.specs.declared.event.Act.{Act}
use Rattle.sem_msg.specs.declared.event.Act.TheVariants.{Call as Calls, Fetch, Handle, Upcall, Resume, Flush, Kill}
use Rattle.sem_msg.specs.declared.message.Message.{Message}
use Rattle.sem_msg.specs.Rows.{JobRow}
use Rattle.sem_msg.specs.JobRows.{job_of}
use Rattle.sem_msg.specs.Setup.{Setup, IsSetup}
use Rattle.sem_msg.specs.Lookups.{owner_of, pe_owner}
use Rattle.sem_machine.specs.Sides.{Side, no_side, with_inbox, job, call_counted, sent}
use Rattle.sem_machine.specs.Steps.{Step, unshown}
use Rattle.sem_machine.specs.Ends.{ended}
use Rattle.sem_machine.specs.Calls.{call_row}
use Rattle.sem_machine.specs.Machine.{World, side, link, with_side, with_link, input_of, is_other_kernel, start, start_side, empty_side, root_added, vpe_fresh}
use Rattle.sem_machine.specs.Machine.{vpe_added, local_step, local_entry, next_call, after, entry_of, event, is_enabled, is_locally_enabled, is_allowed}
use Rattle.sem_machine.specs.Schedules.{IsSchedule, world_after}
use Rattle.sem_machine.specs.Journals.{grants, root_keys}
use Rattle.sem_key.proofs.Members.{found, Contains-nil, Contains-head}
use Rattle.sem_safety.specs.Growth.{IsGrown}
use Rattle.sem_machine.proofs.Folds.{in_turn-keeps}
use Rattle.sem_safety.proofs.CarryingWorlds.{stepped}
use Rattle.sem_safety.proofs.FirstCaps.{IsFirst, first-bare, first-outs}
use Rattle.sem_safety.proofs.GoingOn.{moved-sides, run-append, entry-enabled, run-prefix}
use Rattle.sem_machine.proofs.Folds.{option-keeps}
use Rattle.sem_safety.proofs.NewGrants.{with_grant, without_grant}
use Rattle.sem_safety.proofs.OneLife.{all-new, all-grown}
use Rattle.sem_safety.proofs.Parents.{local_step-below}
use Rattle.sem_safety.proofs.Lives.{all_held, at_grant}
use Rattle.sem_safety.proofs.LiveWorlds.{at_world, after-lives}
use Rattle.sem_revoke.specs.Views.{Marked}
use Rattle.sem_revoke.specs.Scales.{Scale, sum_from, of_messages, of_side, of_inbox, of_links, of_world, requesting, naming, noticing, straying, counting}
use Rattle.sem_revoke.proofs.Scaling.{from-replicate}
use Rattle.sem_revoke.proofs.Viewing.{on_its_way}
use Rattle.sem_revoke.proofs.Closing.{from-none}
use Rattle.sem_revoke.proofs.Worlds.{whole}
use Rattle.sem_revoke.proofs.Events.{Par, Made, IsReady, Losing, anything, Holds}
use Rattle.sem_revoke.proofs.Turning.{CallLoses, here, Facts, Keeps, by-call, by-upcall, by-resume, by-inbox, row-step, in_row, moved, fetched-sum, flushed-sum}
use Rattle.sem_revoke.proofs.Rowing.{row-ended}

-- what the journal tells of the grant of a step
pub record Told (T : Setup) (gs : List (KeyName × KeyName)) (o : Option (KeyName × KeyName)) : Type 0 where
  pub next : IsGrown (root_keys T) (gs ++ option_to_list o)
  pub new : (p k : KeyName) → ◌≡◌ {A = Option (KeyName × KeyName)} o (Some (p, k)) → Made T gs k → ⊥
  pub valid : (p k : KeyName) → ◌≡◌ {A = Option (KeyName × KeyName)} o (Some (p, k)) → IsValidKey k

pub enabled-parts : (T : Setup) (W : World) (i : ℕ) (a : Act) → is_enabled T W (event i a) ≡ true → (is_locally_enabled T i (side W i) a ≡ true)
    × (is_allowed T W i a ≡ true)
unfolding is_enabled
enabled-parts T W i a enabled = let one = and_parts (nat_lt i T.kernels) (is_locally_enabled T i (side W i) a && is_allowed T W i a) enabled in
    and_parts (is_locally_enabled T i (side W i) a) (is_allowed T W i a) one.1

pub fetch-empty : (T : Setup) (i : ℕ) (s : Side) (j : ℕ) → is_locally_enabled T i s (Fetch j) ≡ true → is_none s.inbox ≡ true
unfolding is_locally_enabled
fetch-empty T i s j enabled = (and_parts (is_other_kernel T i j) (is_none s.inbox) enabled).1

-- what an act cuts off is lost, and so is what a VPE has that ends
abbrev pub ActLoses : List (KeyName × KeyName) → (KeyName → Type 0) → Setup → Side → Act → Type 0
ActLoses gs lost T s (Calls v) = (c : Call) → next_call T s v ≡ Some c → CallLoses gs lost (call_counted v s) v c
ActLoses gs lost T s (Kill v) = (k : KeyName) → k.vpe ≡ v → lost k
ActLoses gs lost T s (Fetch from) = Unit {0}
ActLoses gs lost T s Handle = Unit {0}
ActLoses gs lost T s (Upcall v) = Unit {0}
ActLoses gs lost T s (Resume v) = Unit {0}
ActLoses gs lost T s (Flush to) = Unit {0}

-- where anything may be lost
anything-lost : (gs : List (KeyName × KeyName)) (s : Side) (v : ℕ) (c : Call) → CallLoses gs (λ k. Unit {0}) s v c
anything-lost gs s v (Revoke src) = λ c held. tt
anything-lost gs s v (Clear src) = λ c held unmarked k granted. tt
anything-lost gs s v Exit = λ k same. tt
anything-lost gs s v (Derive src dst off len rights) = tt
anything-lost gs s v (Gate src dst label credits) = tt
anything-lost gs s v (Obtain dst w src) = tt
anything-lost gs s v (Delegate src w dst) = tt
anything-lost gs s v (OpenSession dst name) = tt
anything-lost gs s v (AskOffer dst session index) = tt
anything-lost gs s v (Bind ep src) = tt
anything-lost gs s v (Read ep off len) = tt
anything-lost gs s v (Write ep off len) = tt
anything-lost gs s v (SendCall ep len) = tt
anything-lost gs s v (Credit ep) = tt

pub anything-loses : (gs : List (KeyName × KeyName)) (T : Setup) (s : Side) (a : Act) → ActLoses gs (λ k. Unit {0}) T s a
anything-loses gs T s (Calls v) = λ c there. anything-lost gs (call_counted v s) v c
anything-loses gs T s (Kill v) = λ k same. tt
anything-loses gs T s (Fetch from) = tt
anything-loses gs T s Handle = tt
anything-loses gs T s (Upcall v) = tt
anything-loses gs T s (Resume v) = tt
anything-loses gs T s (Flush to) = tt

module _ (T : Setup) (gs : List (KeyName × KeyName)) (W : World) (R : IsReady T gs W) (H : Holds T gs W) (L : Losing gs W) (i : ℕ) where
  abbrev now : Side
  now = side W i

  pub facts-of : (a : Act) (x : Step) → x ≡ stepped T W (event i a) → Told T gs x.outcome.grant →
      ((k : KeyName) → at_world k all_held (with_side i x.side W) ≤ at_world k all_held W + at_grant k x.outcome.grant) → Facts T gs W R H L i x
  facts-of a x same told few = record {
    next = told.next;
    new = told.new;
    below = λ p k is. local_step-below T i now a (input_of W i a) p k (ap (λ (y : Step). y.outcome.grant) (sym same) ∙ is);
    valid = told.valid;
    few = few;
  }

  pub event-holds : (a : Act) → ActLoses gs L.lost T now a → is_enabled T W (event i a) ≡ true → Told T gs (stepped T W (event i a)).outcome.grant →
      Holds T (gs ++ option_to_list (stepped T W (event i a)).outcome.grant) (after T W (event i a))
  unfolding after local_step
  event-holds (Calls v) loses enabled told =
      (option-keeps (Keeps T gs W R H L i) (call_row T i (call_counted v now) v) (next_call T now v) (unshown now)
      (λ c there. by-call T gs W R H L i v c (loses c there)) (λ _. row-step T gs W R H L i now (in_row T gs W R H L i))
      (facts-of (Calls v) (stepped T W (event i (Calls v))) refl told (λ k. after-lives k all_held T W i (Calls v)))).0
  event-holds (Upcall v) loses enabled told =
      (by-upcall T gs W R H L i v (facts-of (Upcall v) (stepped T W (event i (Upcall v))) refl told (λ k. after-lives k all_held T W i (Upcall v)))).0
  event-holds (Resume v) loses enabled told =
      (by-resume T gs W R H L i v (facts-of (Resume v) (stepped T W (event i (Resume v))) refl told (λ k. after-lives k all_held T W i (Resume v)))).0
  event-holds (Kill v) loses enabled told = (row-step T gs W R H L i (ended T i v now) (row-ended (here T gs W R H L i) v now loses (in_row T gs W R H L i))).0
  event-holds Handle loses enabled told = subst (λ xs. Holds T xs (after T W (event i Handle))) (sym (append-nil gs))
      (by-inbox T gs W R H L i now.inbox refl (facts-of Handle (stepped T W (event i Handle)) refl told (λ k. after-lives k all_held T W i Handle))).0
  event-holds (Fetch j) loses enabled told = subst (λ xs. Holds T xs (after T W (event i (Fetch j)))) (sym (append-nil gs))
      (fetched (slice_get (link W j i) 0) refl)
    where
      outer : (is_locally_enabled T i now (Fetch j) ≡ true) × (is_allowed T W i (Fetch j) ≡ true)
      outer = enabled-parts T W i (Fetch j) enabled

      fetched : (o : Option Message) → slice_get (link W j i) 0 ≡ o → Holds T gs (after T W (event i (Fetch j)))
      fetched None none = absurd (true≢false (sym outer.1 ∙ ap is_some none))
      fetched (Some m) some =
          moved T gs W R H L i (with_inbox (option_map (λ m. (j, m)) (slice_get (link W j i) 0)) now) (after T W (event i (Fetch j))) refl refl refl
          (λ S. subst (λ o. of_world S (with_link j i (drop 1 (link W j i)) (with_side i (with_inbox (option_map (λ m. (j, m)) o) now) W)) ≡ of_world S W)
          (sym some) (fetched-sum T gs W R H L i S j m some (empty now.inbox refl)))
          (λ k. let less = after-lives k on_its_way T W i (Fetch j) in omega (arith, less))
        where
          empty : (o : Option (ℕ × Message)) → now.inbox ≡ o → now.inbox ≡ None
          empty None none = none
          empty (Some x) full = absurd (true≢false (sym (fetch-empty T i now j outer.0) ∙ ap is_none full))
  event-holds (Flush j) loses enabled told = subst (λ xs. Holds T xs (after T W (event i (Flush j)))) (sym (append-nil gs))
      (moved T gs W R H L i (sent j now) (after T W (event i (Flush j))) (moved-sides i now (Flush j) (with_side i (sent j now) W)) refl refl
      (λ S. flushed-sum T gs W R H L i S j) (λ k. let less = after-lives k on_its_way T W i (Flush j) in omega (arith, less)))

-- The start.

pub start-each : (T : Setup) (P : Side → Type 0) → P no_side → ((i : ℕ) → P (start_side T i)) → (i : ℕ) → P (side (start T) i)
unfolding start
start-each T P none each i = from (range_with_len 0 T.kernels) i
  where
    from : (is : List ℕ) (j : ℕ) → P (get_or (map (start_side T) is) j no_side)
    from [] j = none
    from (n ∷ ns) zero = each n
    from (n ∷ ns) (suc j) = from ns j

pub start-bare : (T : Setup) (i : ℕ) → ((start_side T i).jobs ≡ []) × ((start_side T i).inbox ≡ None)
unfolding start_side
start-bare T i = in_turn-keeps (λ (t : Side). (t.jobs ≡ []) × (t.inbox ≡ None)) vpe_added (λ d t here. in_turn-keeps (λ (u : Side). (u.jobs ≡ [])
    × (u.inbox ≡ None)) (root_added d) (λ r u same. same) d.roots (vpe_fresh d t) here) (filter (λ d. pe_owner T d.pe == i) T.vpes) (empty_side T) (refl, refl)

module _ (T : Setup) where
  side-none : (S : Scale) (i n : ℕ) → of_side S n (start_side T i) ≡ 0
  side-none S i n =
      let bare = start-bare T i in
      let jobs : sum_by (S.job n) (start_side T i).jobs ≡ 0 = ap (sum_by (S.job n)) bare.0 in
      let inbox : of_inbox S n (start_side T i).inbox ≡ 0 = ap (of_inbox S n) bare.1 in
      let outs : sum_from (of_messages S n) 0 (start_side T i).outs ≡ 0 = ap (sum_from (of_messages S n) 0) (first-outs T i)
      ∙ from-replicate (of_messages S n) [] (λ m. refl) 0 T.kernels [] (λ m. refl) in
      omega (arith, jobs, inbox, outs)

  links-none : (S : Scale) → of_links S (start T).links ≡ 0
  unfolding start
  links-none S = from-replicate (λ i ls. sum_from (of_messages S i) 0 ls) [] (λ m. refl) 0 T.kernels (replicate T.kernels [])
      (λ i. from-replicate (of_messages S i) [] (λ m. refl) 0 T.kernels [] (λ m. refl))

  pub world-none : (S : Scale) → of_world S (start T) ≡ 0
  world-none S =
      let sides = from-none (of_side S) no_side 0 (start T).sides
      (λ k. start-each T (λ (s : Side). of_side S (0 + k) s ≡ 0) refl (λ i. side-none S i (0 + k)) k) in
      let links = links-none S in
      omega (arith, sides, links)

  no-mark : (k : KeyName) (n : ℕ) → Marked (owner_of T) (Par []) (Made T []) (whole T (start T)) k n → ⊥
  no-mark k n (c, held, marked) =
      let first = start-each T (λ (s : Side). All IsFirst s.caps) (All-nil IsFirst) (first-bare T) (owner_of T k) in
      let there = found (λ (x : Capability). key_eq x.key k) (side (start T) (owner_of T k)).caps c held in
      let none : None ≡ Some n = sym (All-contains IsFirst (side (start T) (owner_of T k)).caps c first there.0).unmarked ∙ marked in
      absurd cc

  no-job : (a n : ℕ) (x : JobRow) → job (side (start T) a) n ≡ Some x → ⊥
  no-job a n x open_ =
      let bare = start-each T (λ (s : Side). s.jobs ≡ []) refl (λ i. (start-bare T i).0) a in
      let none : None ≡ Some x = ap (λ xs. job_of xs n) (sym bare) ∙ open_ in
      absurd cc

  pub start-holds : Holds T [] (start T)
  start-holds = record {
    linked = λ p k granted alive. absurd (Contains-nil (p, k) granted);
    caught = λ p k d n held marked child alive. absurd (no-mark p n (d, held, marked));
    asking = λ k a b more. let none = world-none (requesting k a b) in absurd (omega (arith, none, more));
    marks = λ k n marked. absurd (no-mark k n marked);
    roots = λ a n x open_. absurd (no-job a n x open_);
    alone = λ a n x open_. absurd (no-job a n x open_);
    counted = λ a b. let none = world-none (naming a b) in let zero' = world-none (counting a b) in omega (arith, none, zero');
    single = (λ k a b. let none = world-none (requesting k a b) in omega (arith, none), λ k a b care. absurd care);
    noticed = λ k more. let none = world-none (noticing k) in absurd (omega (arith, none, more));
    placed = world-none (straying (owner_of T));
  }

-- Along a schedule.

pub more-grants : (J : List Entry) (e : Entry) (o : Option (KeyName × KeyName)) → e.grant ≡ o → grants (J ++ e ∷ []) ≡ grants J ++ option_to_list o
more-grants J e None none = without_grant J e none ∙ sym (append-nil (grants J))
more-grants J e (Some g) some = with_grant J e g some

pub granted-last : (gs : List (KeyName × KeyName)) (o : Option (KeyName × KeyName)) (p k : KeyName) → ◌≡◌ {A = Option (KeyName × KeyName)} o (Some (p, k)) →
    Contains (gs ++ option_to_list o) (p, k)
granted-last gs None p k none = absurd cc
granted-last gs (Some g) p k some = Contains-append_right gs (g ∷ []) (p, k) (subst (Contains (g ∷ [])) (same_Some g (p, k) some) (Contains-head g []))

pub shown : (T : Setup) (W : World) (e : Entry) → e ≡ entry_of T W e.event → e.grant ≡ (stepped T W e.event).outcome.grant
unfolding entry_of local_entry
shown T W e made' = ap (λ (x : Entry). x.grant) made'

pub schedule-holds : (T : Setup) → IsSetup T → ((J : List Entry) → IsSchedule T J → IsReady T (grants J) (world_after T J)) → (J : List Entry) →
    IsSchedule T J → Holds T (grants J) (world_after T J)
schedule-holds T valid ready J runs = from [] J refl start-so
  where
    start-so : Holds T (grants []) (world_after T [])
    start-so = start-holds T

    from : (before later : List Entry) → J ≡ before ++ later → Holds T (grants before) (world_after T before) → Holds T (grants J) (world_after T J)
    from before [] parts is = subst (λ K. Holds T (grants K) (world_after T K)) (sym (parts ∙ append-nil before)) is
    from before (e ∷ es) parts is =
        let W : World = world_after T before in
        let runs' : IsSchedule T (before ++ e ∷ es) = subst (IsSchedule T) parts runs in
        let at = entry-enabled T before (start T) e es runs' in
        let o : Option (KeyName × KeyName) = (stepped T W e.event).outcome.grant in
        let shows : e.grant ≡ o = shown T W e at.2 in
        let prefix : IsSchedule T (before ++ e ∷ []) = run-prefix T before es e (start T) runs' in
        let gs : grants (before ++ e ∷ []) ≡ grants before ++ option_to_list o = more-grants before e o shows in
        let told : Told T (grants before) o = record {
          next = subst (IsGrown (root_keys T)) gs (all-grown T valid (before ++ e ∷ []) prefix);
          new = λ p k is. all-new T valid J runs before es e p k parts (shows ∙ is);
          valid = λ p k is. (ready (before ++ e ∷ []) prefix).valid p k (subst (λ xs. Contains xs (p, k)) (sym gs) (granted-last (grants before) o p k is));
        } in
        let next : Holds T (grants before ++ option_to_list o) (after T W e.event) =
        event-holds T (grants before) W (ready before at.0) is (anything (grants before) W) e.event.kernel e.event.act
        (anything-loses (grants before) T (side W e.event.kernel) e.event.act) at.1 told in
        from (before ++ e ∷ []) es (parts ∙ sym (append_assoc before (e ∷ []) es))
        (subst (λ xs. Holds T xs (world_after T (before ++ e ∷ []))) (sym gs)
        (subst (Holds T (grants before ++ option_to_list o)) (sym (run-append T before (e ∷ []) (start T))) next))
