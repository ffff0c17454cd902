-- A job without a token out is closed: what it marked is swept, the parent of its root is left, the job is removed, and the job above it gets its token back.
use Rattle.std.proofs.Common.{◌≡◌, ◌≢◌, ◌⊎◌, ℕ, suc, ◌+◌, ◌-◌, ◌≤◌, Bool, true, false, not, ◌&&◌, List, [], ◌∷◌, get_or, Option, Some, None, refl, sym, ap, ◌∙◌}
use Rattle.std.proofs.Common.{subst, inl, inr, arith, eq-eqb}
use Rattle.std.specs.Prelude.{◌==◌, if◌then◌else◌}
use Rattle.std.specs.List.{sum_by}
use Rattle.std.specs.Option.{option_map}
use Rattle.std.proofs.lemmas.Bool.{cases_Bool, cases_eq, cond-true, cond-false, cond_both, ne_eqb, and_parts, and_from, true≢false, not-true, not_from_false}
use Rattle.std.proofs.lemmas.Bool.{false_from_ne_true}
use Rattle.std.proofs.lemmas.Option.{same_Some}
use Rattle.sem_key.specs.KeyName.{KeyName, key_eq}
use Rattle.sem_key.specs.KeyList.{without_key}
use Rattle.sem_key.specs.Lists.{change}
use Rattle.sem_key.specs.Capability.{Capability}
use Rattle.sem_msg.specs.declared.message.Message.{Message}
use Rattle.sem_msg.specs.declared.message.Message.TheVariants.{ObtainReq, ObtainOk, ObtainNo, DelegateReq, DelegatePrepared, DelegateNo, Ack, Orphan, RevokeReq}
use Rattle.sem_msg.specs.declared.message.Message.TheVariants.{RevokeDone, Unlink}
use Rattle.sem_msg.specs.Rows.{JobRow}
use Rattle.sem_machine.specs.Sides.{Side, no_side, cap, job, unlinked, job_removed}
use Rattle.sem_key.specs.Region.{has_key}
use Rattle.sem_machine.specs.Revokes.{count_lowered}
use Rattle.sem_machine.specs.Machine.{World}
use Rattle.sem_key.proofs.KeyTests.{key_eq-true, Contains-from_has_key, has_key-from_Contains}
use Rattle.sem_key.proofs.Members.{not_found, Contains-filter, Contains-from_filter}
use Rattle.sem_key.proofs.Puts.{get_or-put_same}
use Rattle.sem_safety.specs.Observations.{ObservedSide}
use Rattle.sem_safety.proofs.Updates.{seen-cap_changed}
use Rattle.sem_machine.proofs.Weighing.{weigh-none}
use Rattle.sem_safety.proofs.Lives.{at_side, at_cap}
use Rattle.sem_safety.proofs.LiveWorlds.{sum-le}
use Rattle.sem_safety.proofs.JobIds.{HasIds, ids}
use Rattle.sem_sound.proofs.Rising.{mapped-rises}
use Rattle.sem_revoke.specs.Views.{Obligations, no_obligations, token}
use Rattle.sem_revoke.specs.Scales.{Scale, sum_from, of_messages, of_inbox, of_side, of_world, bit, names, requesting, naming, counting, noticing, straying}
use Rattle.sem_revoke.specs.Scales.{requesting_message, token_message}
use Rattle.sem_revoke.proofs.Keeping.{HoldsOn, holds-same, cases_Option, not-gone}
use Rattle.sem_revoke.proofs.Scaling.{side-changed, side-removed}
use Rattle.sem_revoke.proofs.Viewing.{on_its_way, Rises, Scene, owner, elsewhere, view, IsAlive, IsGone, Row, hold-here, hold-away, job-id, no-roots}
use Rattle.sem_revoke.proofs.Viewing.{changed-roots, step, one-true}

-- Keys that rise, where no capability changes its key, and where some go.
pub changed-rises : (test : Capability → Bool) (f : Capability → Capability) → ((c : Capability) → (f c).key ≡ c.key) → (cs : List Capability) → Rises cs →
    Rises (change test f cs)
changed-rises test f same cs rise = mapped-rises (λ c. if test c then f c
    else c) (λ c. cond_both (test c) (f c) c (λ (x : Capability). x.key ≡ c.key) (λ _. same c) (λ _. refl)) cs rise

-- Scales that are below one another.

from-le : {X : Type 0} (f g : ℕ → X → ℕ) → ((n : ℕ) (x : X) → f n x ≤ g n x) → (n : ℕ) (xs : List X) → sum_from f n xs ≤ sum_from g n xs
from-le f g less n [] = omega arith
from-le f g less n (x ∷ xs) = let here = less n x in let rest = from-le f g less (n + 1) xs in omega (arith, here, rest)

-- where nothing weighs anything at its place
pub from-none : {X : Type 0} (f : ℕ → X → ℕ) (d : X) (n : ℕ) (xs : List X) → ((k : ℕ) → f (n + k) (get_or xs k d) ≡ 0) → sum_from f n xs ≡ 0
from-none f d n [] none = refl
from-none f d n (x ∷ xs) none =
    let first : f n x ≡ 0 = ap (λ m. f m x) (omega arith) ∙ none 0 in
    let rest = from-none f d (n + 1) xs (λ k. ap (λ m. f m (get_or xs k d)) (omega arith) ∙ none (suc k)) in
    omega (arith, first, rest)

module _ (S U : Scale) (messages : (i j : ℕ) (m : Message) → S.message i j m ≤ U.message i j m) (jobs : (i : ℕ) (x : JobRow) → S.job i x ≤ U.job i x) where
  inbox-le : (i : ℕ) (o : Option (ℕ × Message)) → of_inbox S i o ≤ of_inbox U i o
  inbox-le i None = omega arith
  inbox-le i (Some m) = messages m.0 i m.1

  outs-le : (i : ℕ) (outs : List (List Message)) → sum_from (of_messages S i) 0 outs ≤ sum_from (of_messages U i) 0 outs
  outs-le i outs = from-le (of_messages S i) (of_messages U i) (λ j ms. sum-le (S.message i j) (U.message i j) (messages i j) ms) 0 outs

  pub side-le : (i : ℕ) (s : Side) → of_side S i s ≤ of_side U i s
  side-le i s =
      let one = sum-le (S.job i) (U.job i) (jobs i) s.jobs in
      let two = inbox-le i s.inbox in
      let three = outs-le i s.outs in
      omega (arith, one, two, three)

  pub world-le : (W : World) → of_world S W ≤ of_world U W
  world-le W =
      let one = from-le (of_side S) (of_side U) side-le 0 W.sides in
      let two = from-le (λ i ls. sum_from (of_messages S i) 0 ls) (λ i ls. sum_from (of_messages U i) 0 ls) outs-le 0 W.links in
      omega (arith, one, two)

-- what is asked for is a token
one-and : (t u : Bool) → bit (t && u) ≤ bit u
one-and true u = omega arith
one-and false u = omega arith

asking-token : (k : KeyName) (a b from to : ℕ) (m : Message) → requesting_message k a b from to m ≤ token_message a b from to m
asking-token k a b from to (ObtainReq place target) = omega arith
asking-token k a b from to (ObtainOk parent key object) = omega arith
asking-token k a b from to (ObtainNo place code) = omega arith
asking-token k a b from to (DelegateReq parent object vpe sel) = omega arith
asking-token k a b from to (DelegatePrepared parent key) = omega arith
asking-token k a b from to (DelegateNo parent code) = omega arith
asking-token k a b from to (Ack key accepted) = omega arith
asking-token k a b from to (Orphan parent key) = omega arith
asking-token k a b from to (RevokeReq key j) = one-and (key_eq key k) ((from == a) && (j == b))
asking-token k a b from to (RevokeDone j) = omega arith
asking-token k a b from to (Unlink parent key) = omega arith

-- counts
lowered-count : (t : Bool) (n : ℕ) → 1 ≤ n → (if t then n else 0) ≡ (if t then n - 1 else 0) + bit t
lowered-count true n some = omega (arith, some)
lowered-count false n some = refl

module _ (C : Scene) where
  abbrev i : ℕ
  i = C.kernel

  pub asked-token : (s : Side) (k : KeyName) (a b : ℕ) → (view C s).asked k a b ≤ (view C s).tokens a b
  asked-token s k a b =
      let world = world-le (requesting k a b) (naming a b) (asking-token k a b) (λ i x. one-and (key_eq x.root k) (names i x.up a b)) (elsewhere C) in
      let here = side-le (requesting k a b) (naming a b) (asking-token k a b) (λ i x. one-and (key_eq x.root k) (names i x.up a b)) i s in
      omega (arith, world, here)

  -- the jobs of this kernel count here alone
  counts-here : (b : ℕ) → of_world (counting i b) (elsewhere C) ≡ 0
  counts-here b =
      let S : Scale = counting i b in
      let sides = from-none (of_side S) no_side 0 (elsewhere C).sides (λ k. at_place k (cases_eq k i)) in
      let links = from-none (λ a ls. sum_from (of_messages S a) 0 ls) [] 0 (elsewhere C).links (λ k. no-row (0 + k) (get_or (elsewhere C).links k [])) in
      omega (arith, sides, links)
    where
      no-messages : (a c : ℕ) (ms : List Message) → of_messages (counting i b) a c ms ≡ 0
      no-messages a c ms = weigh-none (λ m. 0) ms (λ m among. refl)

      no-row : (a : ℕ) (ls : List (List Message)) → sum_from (of_messages (counting i b) a) 0 ls ≡ 0
      no-row a ls = from-none (of_messages (counting i b) a) [] 0 ls (λ k. no-messages a (0 + k) (get_or ls k []))

      no-inbox : (a : ℕ) (o : Option (ℕ × Message)) → of_inbox (counting i b) a o ≡ 0
      no-inbox a None = refl
      no-inbox a (Some m) = refl

      at_place : (k : ℕ) → (k ≡ i) ⊎ (k ≢ i) → of_side (counting i b) (0 + k) (get_or (elsewhere C).sides k no_side) ≡ 0
      at_place k (inl here) =
          let gone : get_or (elsewhere C).sides k no_side ≡ no_side = ap (λ n. get_or (elsewhere C).sides n no_side) here
          ∙ get_or-put_same no_side C.world.sides i no_side in
          ap (of_side (counting i b) (0 + k)) gone
      at_place k (inr away) =
          let s : Side = get_or (elsewhere C).sides k no_side in
          let other : ((0 + k) == i) ≡ false = ne_eqb (0 + k) i (λ same. away (omega (arith, same))) in
          let jobs = weigh-none (λ (x : JobRow). if ((0 + k) == i) && (x.id == b) then x.count
          else 0) s.jobs (λ x among. ap (λ t. if t && (x.id == b) then x.count else 0) other) in
          let inbox = no-inbox (0 + k) s.inbox in
          let outs = no-row (0 + k) s.outs in
          omega (arith, jobs, inbox, outs)

  -- the count of an open job, and of none
  no-others : (s : Side) (a b : ℕ) → of_side (counting a b) i s ≡ sum_by (λ (x : JobRow). if (i == a) && (x.id == b) then x.count else 0) s.jobs
  no-others s a b =
      let inbox = inbox0 s.inbox in
      let outs = from-none (of_messages (counting a b) i) [] 0 s.outs (λ k. weigh-none (λ (m : Message). 0) (get_or s.outs k []) (λ m among. refl)) in
      omega (arith, inbox, outs)
    where
      inbox0 : (o : Option (ℕ × Message)) → of_inbox (counting a b) i o ≡ 0
      inbox0 None = refl
      inbox0 (Some m) = refl

  pub open-count : (s : Side) (n : ℕ) (x : JobRow) → HasIds s → job s n ≡ Some x → (view C s).count i n ≡ x.count
  open-count s n x is open_ =
      let world = counts-here n in
      let here = side-removed (counting i n) i s n x is.rise open_ in
      let rest = no-others (job_removed n s) i n in
      let none = weigh-none (λ (y : JobRow). if (i == i) && (y.id == n) then y.count
      else 0) (job_removed n s).jobs (λ y among. ap (λ t. if t then y.count
      else 0) (off y (Contains-from_filter (λ (z : JobRow). not (z.id == n)) s.jobs y among).1)) in
      let this : (if (i == i) && (x.id == n) then x.count else 0) ≡ x.count =
      cond-true ((i == i) && (x.id == n)) x.count 0 (and_from (i == i) (x.id == n) (eq-eqb i i refl) (eq-eqb x.id n (job-id C s n x open_))) in
      omega (arith, world, here, rest, none, this)
    where
      off : (y : JobRow) → not (y.id == n) ≡ true → ((i == i) && (y.id == n)) ≡ false
      off y pass = false_from_ne_true ((i == i) && (y.id == n)) (λ both. let fail = not-true (y.id == n) pass in
          let parts = and_parts (i == i) (y.id == n) both in true≢false (sym parts.1 ∙ fail))

  -- a job that has a token out is open
  pub counted-open : (s : Side) (n : ℕ) → 1 ≤ (view C s).count i n → (x : JobRow) × (job s n ≡ Some x)
  counted-open s n more = elim (cases_Option (job s n)) [
    | inl open_ ↦ open_
    | inr none ↦
        let world = counts-here n in
        let here = no-others s i n in
        let nothing = weigh-none (λ (y : JobRow). if (i == i) && (y.id == n) then y.count
        else 0) s.jobs (λ y among. ap (λ t. if t then y.count
        else 0) (false_from_ne_true ((i == i) && (y.id == n)) (λ both. let fail = not_found (λ (z : JobRow). z.id == n) s.jobs y none among in
        true≢false (sym (and_parts (i == i) (y.id == n) both).1 ∙ fail)))) in
        absurd (omega (arith, world, here, nothing, more))
  ]

  -- A token comes back to a job of this kernel.
  pub row-lowered : (s : Side) (j : ℕ) (x : JobRow) → job s j ≡ Some x → Row C (token i j) s → Row C no_obligations (count_lowered j s)
  row-lowered s j x open_ R =
      step C (token i j) no_obligations s (count_lowered j s)
      (holds-same (owner C) C.parent C.one_parent C.made (view C s) (view C (count_lowered j s)) (λ k. refl) (λ k. omega arith))
      (changed-roots C s j lower (λ x. (refl, refl)) (λ x there. (λ is. is, λ is. is)))
      R.rises (ids.keeps_changed s R.ids j lower (λ x. (refl, refl))) R.homes (record { inbox = R.sent.inbox; sends = R.sent.sends })
      (λ k a b alive under before. inr
      (inl (elim before [
        | inl more ↦ (let same = side-changed (requesting k a b) i s j lower x R.ids.rise open_ in omega (arith, same, more))
        | inr care ↦ absurd care
      ])))
      (λ k a b more. let same = side-changed (requesting k a b) i s j lower x R.ids.rise open_ in inl (omega (arith, same, more)))
      (λ a n loose. loose)
      (λ a b.
      let tokens = side-changed (naming a b) i s j lower x R.ids.rise open_ in
      let counts = side-changed (counting a b) i s j lower x R.ids.rise open_ in
      let less = lowered-count ((i == a) && (x.id == b)) x.count some in
      let id : bit ((i == a) && (x.id == b)) ≡ bit ((i == a) && (j == b)) = ap (λ n. bit ((i == a) && (n == b))) (job-id C s j x open_) in
      let is = R.revokes.counted a b in
      omega (arith, tokens, counts, less, id, is)) (
        λ k a b. let same = side-changed (requesting k a b) i s j lower x R.ids.rise open_ in let most = R.revokes.single.0 k a b in
            omega (arith, same, most),
        λ k a b care. absurd care,
      )
      (λ k more. let same = side-changed (noticing k) i s j lower x R.ids.rise open_ in inl (omega (arith, same, more)))
      (let same = side-changed (straying (owner C)) i s j lower x R.ids.rise open_ in let is = R.revokes.placed in omega (arith, same, is))
      R
    where
      lower : JobRow → JobRow
      lower x = record x { count = x.count - 1 }

      -- the token that the row owes is counted
      some : 1 ≤ x.count
      some =
          let is = R.revokes.counted i j in
          let count = open-count s j x R.ids open_ in
          let one = one-true ((i == i) && (j == j)) (and_from (i == i) (j == j) (eq-eqb i i refl) (eq-eqb j j refl)) in
          omega (arith, is, count, one)

  -- The parent of a key that is gone leads to it no more.
  module _ (s : Side) (p k : KeyName) where
    abbrev t : Side
    t = unlinked p k s

    abbrev f : Capability → Capability
    f c = record c { children = without_key c.children k }

    cap-t : (q : KeyName) → cap t q ≡ (if key_eq q p then option_map f (cap s q) else cap s q)
    cap-t q = ap (λ (z : ObservedSide). z.cap q) (seen-cap_changed p f s (λ c. refl))

    -- a child that is left was a child, and a child that is not k is left
    still : (ks : List KeyName) (q : KeyName) → has_key (without_key ks k) q ≡ true → has_key ks q ≡ true
    still ks q has = has_key-from_Contains ks q (Contains-from_filter (λ x. not (key_eq x k)) ks q (Contains-from_has_key (without_key ks k) q has)).0

    left : (ks : List KeyName) (q : KeyName) → (q ≡ k → ⊥) → has_key ks q ≡ true → has_key (without_key ks k) q ≡ true
    left ks q other has =
        has_key-from_Contains (without_key ks k) q (Contains-filter (λ x. not (key_eq x k)) ks q (Contains-from_has_key ks q has)
        (not_from_false (key_eq q k) (false_from_ne_true (key_eq q k) (λ same. other (key_eq-true q k same)))))

    on-cap : (q : KeyName) (d : Capability) → cap s q ≡ Some d → (e : Capability) × (cap t q ≡ Some e) × (e.mark ≡ d.mark)
        × ((r : KeyName) → (r ≡ k → ⊥) → has_key d.children r ≡ true → has_key e.children r ≡ true)
    on-cap q d held = elim (cases_Bool (key_eq q p)) [
      | inl same ↦ (
        f d,
        cap-t q ∙ (cond-true (key_eq q p) (option_map f (cap s q)) (cap s q) same ∙ ap (option_map f) held),
        refl,
        λ r other child. left d.children r other child,
      )
      | inr differ ↦ (d, cap-t q ∙ (cond-false (key_eq q p) (option_map f (cap s q)) (cap s q) differ ∙ held), refl, λ r other child. child)
    ]

    mapped : (o : Option Capability) (e : Capability) → option_map f o ≡ Some e → (d : Capability) × (o ≡ Some d) × (f d ≡ e)
    mapped None e none = absurd cc
    mapped (Some d) e some = (d, refl, same_Some (f d) e some)

    pub back-cap : (q : KeyName) (e : Capability) → cap t q ≡ Some e → (d : Capability) × (cap s q ≡ Some d) × (d.mark ≡ e.mark)
        × ((r : KeyName) → has_key e.children r ≡ true → has_key d.children r ≡ true)
    back-cap q e held = elim (cases_Bool (key_eq q p)) [
      | inl same ↦
          let d = mapped (cap s q) e (sym (cap-t q ∙ cond-true (key_eq q p) (option_map f (cap s q)) (cap s q) same) ∙ held) in
          (d.0, d.1, ap (λ (x : Capability). x.mark) d.2, λ r child. still d.0.children r (ap (λ (x : Capability). has_key x.children r) d.2 ∙ child))
      | inr differ ↦ (e, sym (cap-t q ∙ cond-false (key_eq q p) (option_map f (cap s q)) (cap s q) differ) ∙ held, refl, λ r child. child)
    ]

    gifts : (q : KeyName) → at_side q on_its_way t ≡ at_side q on_its_way s
    gifts q =
        let one = weigh-none (at_cap q on_its_way) t.caps (λ c among. refl) in
        let two = weigh-none (at_cap q on_its_way) s.caps (λ c among. refl) in
        omega (arith, one, two)

    -- what is gone stays gone
    pub unlinked-gone : (r : KeyName) → IsGone C s r → IsGone C t r
    unlinked-gone r (none, zero') = (
      elim (cases_Option ((view C t).hold r)) [
        | inl (c, held) ↦ elim (cases_eq (owner C r) i) [
          | inl here ↦ let d = back-cap r c (sym (hold-here C t r here) ∙ held) in let no' : None ≡ Some d.0 = sym none ∙ (hold-here C s r here ∙ d.1) in
              absurd cc
          | inr away ↦ let no' : None ≡ Some c = sym none ∙ (hold-away C s r away ∙ (sym (hold-away C t r away) ∙ held)) in absurd cc
        ]
        | inr none' ↦ none'
      ],
      let same = gifts r in omega (arith, same, zero'),
    )

    module _ (gone : IsGone C s k) where
      alive-other : (r : KeyName) → IsAlive C t r → r ≡ k → ⊥
      alive-other r alive same = not-gone (owner C) C.parent C.one_parent C.made (view C s) k gone (subst (IsAlive C s) same (before alive))
        where
          before : IsAlive C t r → IsAlive C s r
          before (inl (c, held)) = elim (cases_eq (owner C r) i) [
            | inl here ↦ let d = back-cap r c (sym (hold-here C t r here) ∙ held) in inl (d.0, hold-here C s r here ∙ d.1)
            | inr away ↦ inl (c, hold-away C s r away ∙ (sym (hold-away C t r away) ∙ held))
          ]
          before (inr more) = let same' = gifts r in inr (omega (arith, same', more))

      pub unlinked-holds : HoldsOn (owner C) C.parent C.one_parent C.made (view C s) (view C t)
      unlinked-holds = record {
        on = λ q d held. elim (cases_eq (owner C q) i) [
          | inl here ↦ let e = on-cap q d (sym (hold-here C s q here) ∙ held) in
              (e.0, hold-here C t q here ∙ e.1, e.2, λ r alive child. e.3 r (alive-other r alive) child)
          | inr away ↦ (d, hold-away C t q away ∙ (sym (hold-away C s q away) ∙ held), refl, λ r alive child. child)
        ];
        back = λ q e held. elim (cases_eq (owner C q) i) [
          | inl here ↦ let d = back-cap q e (sym (hold-here C t q here) ∙ held) in (d.0, hold-here C s q here ∙ d.1, d.2, d.3)
          | inr away ↦ (e, hold-away C s q away ∙ (sym (hold-away C t q away) ∙ held), refl, λ r child. child)
        ];
        fewer = λ q. let same = gifts q in omega (arith, same);
      }

      pub row-unlinked : (h : Obligations) → Row C h s → Row C h t
      row-unlinked h R =
          step C h h s t unlinked-holds (no-roots C s t refl) (changed-rises (λ c. key_eq c.key p) f (λ c. refl) s.caps R.rises)
          (record { rise = R.ids.rise; drawn = R.ids.drawn })
          (λ q c held. let d = back-cap q c held in R.homes q d.0 d.1) (record { inbox = R.sent.inbox; sends = R.sent.sends })
          (λ q a b alive under before. inr before)
          (λ q a b more. inl more)
          (λ a n loose. loose)
          R.revokes.counted
          R.revokes.single
          (λ q more. inl more)
          R.revokes.placed
          R
