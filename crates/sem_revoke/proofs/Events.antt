-- Each event keeps what is so of the revocation of a world.
use Rattle.std.proofs.Common.{◌≡◌, ℕ, ◌+◌, ◌≤◌, ◌<◌, List, [], ◌∷◌, ◌++◌, map, Option, Some, None, option_to_list, append-nil, refl, sym, ap, ◌∙◌, subst, inl}
use Rattle.std.proofs.Common.{inr, arith}
use Rattle.std.specs.List.{Contains, sum_by}
use Rattle.std.specs.Prelude.{if◌then◌else◌}
use Rattle.std.proofs.lemmas.Bool.{cases_Bool, cases_eq, cond-true, cond-false, false_from_ne_true}
use Rattle.std.proofs.lemmas.Option.{same_Some}
use Rattle.std.proofs.lemmas.List.Elements.{Contains-append_left, Contains-append_right, Contains-append_cases}
use Rattle.sem_key.specs.KeyName.{KeyName, IsValidKey, key_eq}
use Rattle.sem_key.specs.Capability.{Capability}
use Rattle.sem_key.specs.CapList.{cap_of}
use Rattle.sem_msg.specs.JobRows.{job_of}
use Rattle.sem_msg.specs.declared.message.Message.TheVariants.{ObtainReq, ObtainOk, ObtainNo, DelegateReq, DelegatePrepared, DelegateNo, Ack, Orphan, RevokeReq}
use Rattle.sem_msg.specs.declared.message.Message.TheVariants.{RevokeDone, Unlink}
use Rattle.sem_msg.specs.declared.state.Slot.{Slot}
use Rattle.sem_msg.specs.declared.state.Slot.TheVariants.{Free, Held, Promised}
use Rattle.sem_msg.specs.Rows.{JobRow}
use Rattle.sem_msg.specs.Setup.{Setup}
use Rattle.sem_msg.specs.Lookups.{owner_of}
use Rattle.sem_machine.specs.Sides.{Side, no_side, cap, cap_in, own, slot, job, outbox, with_inbox}
use Rattle.sem_key.specs.Region.{has_key}
use Rattle.sem_machine.specs.Revokes.{obtain_cancelled}
use Rattle.sem_machine.specs.Machine.{World, side, with_side}
use Rattle.sem_machine.specs.Journals.{root_keys}
use Rattle.sem_key.proofs.KeyTests.{key_eq-same, key_eq-true}
use Rattle.sem_key.proofs.Members.{found, Contains-head, Contains-cons_cases, Contains-nil, Contains-map, Contains-from_map}
use Rattle.sem_key.proofs.Puts.{get_or-put_same, get_or-put_other}
use Rattle.sem_safety.specs.Growth.{grown, IsGrown}
use Rattle.sem_safety.specs.Growth.IsGrown.{no_grants, granted_next}
use Rattle.sem_safety.proofs.GrownLines.{parent-grown, parent-is, child-grown}
use Rattle.sem_safety.proofs.Lives.{all_held, at_key, at_grant}
use Rattle.sem_safety.proofs.LiveWorlds.{at_world}
use Rattle.sem_safety.proofs.JobIds.{HasIds}
use Rattle.sem_revoke.specs.Views.{no_obligations, IsFit, Revokes, IsCaused}
use Rattle.sem_revoke.specs.Scales.{Scale, sum_from, of_messages, of_side, of_inbox, of_world, requesting, naming, counting, noticing, straying}
use Rattle.sem_revoke.proofs.Scaling.{world-side}
use Rattle.sem_revoke.proofs.Viewing.{on_its_way, Rises, Scene, Row}
use Rattle.sem_revoke.proofs.Growing.{IsOfRevokes, Grown}
use Rattle.sem_revoke.proofs.Worlds.{whole, enter, leave, alive-weighs, weighs-alive, Grows, revokes-grown}

abbrev pub Par : List (KeyName × KeyName) → KeyName → KeyName → Type 0
Par gs p k = Contains gs (p, k)

abbrev pub Made : Setup → List (KeyName × KeyName) → KeyName → Type 0
Made T gs k = Contains (grown (root_keys T) gs) k

-- a key has one parent
pub one-parent : (T : Setup) (gs : List (KeyName × KeyName)) → IsGrown (root_keys T) gs → (p q k : KeyName) → Par gs p k → Par gs q k → p ≡ q
one-parent T gs grown_so p q k one two = same_Some p q (sym (parent-is (root_keys T) gs grown_so p k one) ∙ parent-is (root_keys T) gs grown_so q k two)

-- how far a key is from a root: a child is farther than its parent
abbrev pub Ranks : List (KeyName × KeyName) → Type 0
Ranks gs = (rank : KeyName → ℕ) × ((p k : KeyName) → Par gs p k → rank p < rank k)

rank-next : (T : Setup) (gs : List (KeyName × KeyName)) (p k : KeyName) → IsGrown (root_keys T) gs → Made T gs p → (Made T gs k → ⊥) → Ranks gs →
    Ranks (gs ++ (p, k) ∷ [])
rank-next T gs p k grown_so above new before = (next, further)
  where
    next : KeyName → ℕ
    next q = if key_eq q k then before.0 p + 1 else before.0 q

    -- a key that was there keeps its rank
    old : (q : KeyName) → Made T gs q → next q ≡ before.0 q
    old q there = cond-false (key_eq q k) (before.0 p + 1) (before.0 q)
        (false_from_ne_true (key_eq q k) (λ same. new (subst (Made T gs) (key_eq-true q k same) there)))

    child : next k ≡ before.0 p + 1
    child = cond-true (key_eq k k) (before.0 p + 1) (before.0 k) (key_eq-same k)

    further : (q r : KeyName) → Par (gs ++ (p, k) ∷ []) q r → next q < next r
    further q r among = elim (Contains-append_cases gs ((p, k) ∷ []) (q, r) among) [
      | inl was ↦
          let less = before.1 q r was in
          let one = old q (parent-grown (root_keys T) gs grown_so q r was) in
          let two = old r (child-grown (root_keys T) gs q r was) in
          omega (arith, less, one, two)
      | inr last ↦ elim (Contains-cons_cases (p, k) [] (q, r) last) [
        | inl same ↦ subst (λ (g : KeyName × KeyName). next g.0 < next g.1) same (let one = old p above in let two = child in omega (arith, one, two))
        | inr none ↦ absurd (Contains-nil (q, r) none)
      ]
    ]

pub ranked : (T : Setup) (gs : List (KeyName × KeyName)) → IsGrown (root_keys T) gs → Ranks gs
ranked T [] no_grants = (λ k. 0, λ p k among. absurd (Contains-nil (p, k) among))
ranked T gs' (granted_next gs p k grown_so above new) = rank-next T gs p k grown_so above new (ranked T gs grown_so)

-- what is so of a world by the other layers
pub record IsReady (T : Setup) (gs : List (KeyName × KeyName)) (W : World) : Type 0 where
  pub grown_so : IsGrown (root_keys T) gs
  pub fit : IsFit (owner_of T) (Par gs) (Made T gs) (whole T W)
  pub rises : (i : ℕ) → Rises (side W i).caps
  pub ids : (i : ℕ) → HasIds (side W i)
  pub homes : (i : ℕ) (k : KeyName) (c : Capability) → cap (side W i) k ≡ Some c → owner_of T k ≡ i
  pub valid : (p k : KeyName) → Par gs p k → IsValidKey k
  -- no gift comes behind the request for its key, and a call that is ready to install is that of the key's VPE
  pub late : (i from j : ℕ) (k : KeyName) → (side W i).inbox ≡ Some (from, RevokeReq k j) → cap (side W i) k ≡ None →
      at_world k on_its_way (with_side i (obtain_cancelled k (with_inbox None (side W i))) W) ≡ 0

-- what may be lost, what was made from that, and that each open job has a cause
pub record Losing (gs : List (KeyName × KeyName)) (W : World) : Type 1 where
  pub lost : KeyName → Type 0
  pub lower : (p k : KeyName) → Par gs p k → lost p → lost k
  pub caused : (a n : ℕ) (x : JobRow) → job (side W a) n ≡ Some x → IsCaused (Par gs) lost x

-- anything may be lost
abbrev pub anything : (gs : List (KeyName × KeyName)) (W : World) → Losing gs W
anything gs W = record { lost = λ k. Unit {0}; lower = λ p k granted is. tt; caused = λ a n x open_. (λ leaves. tt, λ k granted. tt) }

-- what is so of its revocation
abbrev pub Holds : Setup → List (KeyName × KeyName) → World → Type 0
Holds T gs W = Revokes (owner_of T) (Par gs) (Made T gs) no_obligations (whole T W)

pub own-cap : (s : Side) (v sel : ℕ) (c : Capability) → own s v sel ≡ Some c → cap s c.key ≡ Some c
own-cap s v sel c held = from (slot s v sel) held
  where
    from : (x : Slot) → cap_in s x ≡ Some c → cap s c.key ≡ Some c
    from Free none = absurd cc
    from (Held k) some = ap (cap s) (key_eq-true c.key k (found (λ (x : Capability). key_eq x.key k) s.caps c some).1) ∙ some
    from Promised none = absurd cc

pub of_asking : (k : KeyName) (a b : ℕ) → IsOfRevokes (requesting k a b)
of_asking k a b from to (ObtainReq place target) is = refl
of_asking k a b from to (ObtainOk parent' key object) is = refl
of_asking k a b from to (ObtainNo place code) is = refl
of_asking k a b from to (DelegateReq parent' object vpe sel) is = refl
of_asking k a b from to (DelegatePrepared parent' key) is = refl
of_asking k a b from to (DelegateNo parent' code) is = refl
of_asking k a b from to (Ack key accepted) is = refl
of_asking k a b from to (Orphan parent' key) is = refl
of_asking k a b from to (RevokeReq key j) is = absurd cc
of_asking k a b from to (RevokeDone j) is = refl
of_asking k a b from to (Unlink parent' key) is = refl

module _ (T : Setup) (gs : List (KeyName × KeyName)) (W : World) (R : IsReady T gs W) (H : Holds T gs W) (L : Losing gs W) (i : ℕ) where
  abbrev pub C : Scene
  C = record {
    setup = T;
    parent = Par gs;
    one_parent = one-parent T gs R.grown_so;
    valid = R.valid;
    rank = (ranked T gs R.grown_so).0;
    older = (ranked T gs R.grown_so).1;
    made = Made T gs;
    lost = L.lost;
    lower = L.lower;
    world = W;
    kernel = i;
    others = L.caused;
    before = side W i;
  }

  abbrev pub s : Side
  s = side W i

  pub entered : Row C no_obligations s
  entered = enter C R.fit H (R.rises i) (R.ids i) (R.homes i) (record { inbox = refl; sends = λ j. ([], sym (append-nil (outbox (side W i) j)), λ k. refl) })
      (L.caused i) (λ k c was. inl (c, was))

  pub left : (t : Side) → Row C no_obligations t → Holds T gs (with_side i t W)
  left t S = leave C t S

  -- the grants with one more, if one is made
  abbrev pub more : Option (KeyName × KeyName) → List (KeyName × KeyName)
  more o = gs ++ option_to_list o

  pub more-none : (V : World) → Holds T gs V → Holds T (more None) V
  more-none V K = subst (λ xs. Holds T xs V) (sym (append-nil gs)) K

  -- An event that revokes nothing.

  module _ (o : Option (KeyName × KeyName)) (base t : Side) where
    abbrev pub link_of : KeyName → KeyName → Type 0
    link_of p k = ◌≡◌ {A = Option (KeyName × KeyName)} o (Some (p, k))

    pub grown-holds : (caps : base.caps ≡ s.caps) (jobs : base.jobs ≡ s.jobs) (outs : base.outs ≡ s.outs)
        → (quiet : (S : Scale) → IsOfRevokes S → of_inbox S i base.inbox ≡ of_inbox S i s.inbox)
        → (next : IsGrown (root_keys T) (more o))
        → (new : (p k : KeyName) → link_of p k → Made T gs k → ⊥)
        → (below : (p k : KeyName) → link_of p k → (d : Capability) × (cap s p ≡ Some d) × (d.mark ≡ None))
        → (valid : (p k : KeyName) → link_of p k → IsValidKey k) (absent : (p k : KeyName) → link_of p k → cap base k ≡ None) (parent : (p k : KeyName) →
        link_of p k → (d : Capability) × (cap base p ≡ Some d))
        → ((k : KeyName) → at_world k all_held (with_side i t W) ≤ at_world k all_held W + at_grant k o)
        → Grown (owner_of T) i base link_of valid absent parent link_of t
        → Holds T (more o) (with_side i t W)
    grown-holds caps jobs outs quiet next new below valid absent parent few G =
        revokes-grown (owner_of T) (Par gs) (Par (more o)) (one-parent T (more o) next) (Made T gs) (Made T (more o)) link_of (whole T W)
        (whole T V) grows R.fit.links H
      where
        V : World
        V = with_side i t W

        at-i : side V i ≡ t
        at-i = get_or-put_same no_side W.sides i t

        cap-base : (k : KeyName) → cap base k ≡ cap s k
        cap-base k = ap (λ (cs : List Capability). cap_of cs k) caps

        hold-i : (k : KeyName) → owner_of T k ≡ i → (whole T V).hold k ≡ cap t k
        hold-i k here = ap (λ a. cap (side V a) k) here ∙ ap (λ (x : Side). cap x k) at-i

        hold-was : (k : KeyName) → owner_of T k ≡ i → (whole T W).hold k ≡ cap base k
        hold-was k here = ap (λ a. cap (side W a) k) here ∙ sym (cap-base k)

        hold-other : (k : KeyName) → (owner_of T k ≡ i → ⊥) → (whole T V).hold k ≡ (whole T W).hold k
        hold-other k away = ap (λ (x : Side). cap x k) (get_or-put_other no_side W.sides i (owner_of T k) t away)

        side-same : (S : Scale) → IsOfRevokes S → of_side S i t ≡ of_side S i s
        side-same S of =
            let j1 : sum_by (S.job i) t.jobs ≡ sum_by (S.job i) s.jobs = ap (sum_by (S.job i)) (G.jobs ∙ jobs) in
            let i1 : of_inbox S i t.inbox ≡ of_inbox S i s.inbox = ap (of_inbox S i) G.inbox ∙ quiet S of in
            let o1 : sum_from (of_messages S i) 0 t.outs ≡ sum_from (of_messages S i) 0 s.outs = G.outs S of ∙ ap (sum_from (of_messages S i) 0) outs in
            omega (arith, j1, i1, o1)

        sum-same : (S : Scale) → IsOfRevokes S → of_world S V ≡ of_world S W
        sum-same S of = let world = world-side S W i t in let same = side-same S of in omega (arith, world, same)

        of_naming : (a b : ℕ) → IsOfRevokes (naming a b)
        of_naming a b from to (ObtainReq place target) is = refl
        of_naming a b from to (ObtainOk parent' key object) is = refl
        of_naming a b from to (ObtainNo place code) is = refl
        of_naming a b from to (DelegateReq parent' object vpe sel) is = refl
        of_naming a b from to (DelegatePrepared parent' key) is = refl
        of_naming a b from to (DelegateNo parent' code) is = refl
        of_naming a b from to (Ack key accepted) is = refl
        of_naming a b from to (Orphan parent' key) is = refl
        of_naming a b from to (RevokeReq key j) is = absurd cc
        of_naming a b from to (RevokeDone j) is = absurd cc
        of_naming a b from to (Unlink parent' key) is = refl

        of_noticing : (k : KeyName) → IsOfRevokes (noticing k)
        of_noticing k from to (ObtainReq place target) is = refl
        of_noticing k from to (ObtainOk parent' key object) is = refl
        of_noticing k from to (ObtainNo place code) is = refl
        of_noticing k from to (DelegateReq parent' object vpe sel) is = refl
        of_noticing k from to (DelegatePrepared parent' key) is = refl
        of_noticing k from to (DelegateNo parent' code) is = refl
        of_noticing k from to (Ack key accepted) is = refl
        of_noticing k from to (Orphan parent' key) is = absurd cc
        of_noticing k from to (RevokeReq key j) is = refl
        of_noticing k from to (RevokeDone j) is = refl
        of_noticing k from to (Unlink parent' key) is = absurd cc

        of_straying : IsOfRevokes (straying (owner_of T))
        of_straying from to (ObtainReq place target) is = refl
        of_straying from to (ObtainOk parent' key object) is = refl
        of_straying from to (ObtainNo place code) is = refl
        of_straying from to (DelegateReq parent' object vpe sel) is = refl
        of_straying from to (DelegatePrepared parent' key) is = refl
        of_straying from to (DelegateNo parent' code) is = refl
        of_straying from to (Ack key accepted) is = refl
        of_straying from to (Orphan parent' key) is = refl
        of_straying from to (RevokeReq key j) is = absurd cc
        of_straying from to (RevokeDone j) is = refl
        of_straying from to (Unlink parent' key) is = refl

        grant-link : (k : KeyName) (x : Option (KeyName × KeyName)) → o ≡ x → 1 ≤ at_grant k x → (p : KeyName) × link_of p k
        grant-link k None is some = absurd (omega (arith, some))
        grant-link k (Some g) is some = elim (cases_Bool (key_eq g.1 k)) [
          | inl same ↦ (g.0, subst (λ z. ◌≡◌ {A = Option (KeyName × KeyName)} o (Some (g.0, z))) (key_eq-true g.1 k same) is)
          | inr differ ↦ let none : at_key k g.1 ≡ 0 = cond-false (key_eq g.1 k) 1 0 differ in absurd (omega (arith, some, none))
        ]

        in-more : (p k : KeyName) (x : Option (KeyName × KeyName)) → Contains (option_to_list x) (p, k) → x ≡ Some (p, k)
        in-more p k None among = absurd (Contains-nil (p, k) among)
        in-more p k (Some g) among = elim (Contains-cons_cases g [] (p, k) among) [ inl same ↦ ap Some same | inr none ↦ absurd (Contains-nil (p, k) none) ]

        to-more : (p k : KeyName) (x : Option (KeyName × KeyName)) → x ≡ Some (p, k) → Contains (option_to_list x) (p, k)
        to-more p k None none = absurd cc
        to-more p k (Some g) some = subst (Contains (g ∷ [])) (same_Some g (p, k) some) (Contains-head g [])

        grows : Grows (owner_of T) (Par gs) (Par (more o)) (one-parent T (more o) next) (Made T gs) (Made T (more o)) link_of (whole T W) (whole T V)
        grows = record {
          on = λ p d held. elim (cases_eq (owner_of T p) i) [
            | inl here ↦ let e = G.on p d (sym (hold-was p here) ∙ held) in (e.0, hold-i p here ∙ e.1, e.2, e.3)
            | inr away ↦ (d, hold-other p away ∙ held, refl, λ k child. child)
          ];
          back = λ p e n held marked. elim (cases_eq (owner_of T p) i) [
            | inl here ↦ let d = G.back p e n (sym (hold-i p here) ∙ held) marked in (d.0, hold-was p here ∙ d.1, d.2, d.3)
            | inr away ↦ (e, sym (hold-other p away) ∙ held, marked, λ k child. inl child)
          ];
          alive = λ k alive. elim (cases_eq (at_grant k o) 0) [
            | inl none ↦
                let weighs = alive-weighs T V k (Par (more o)) (Made T (more o)) alive in
                let less = few k in
                inl (weighs-alive T W k (Par gs) (Made T gs) (λ a c held. R.homes a k c held) (omega (arith, weighs, less, none)))
            | inr some ↦ inr (grant-link k o refl (omega (arith, some)))
          ];
          new = λ p k now.
              let d = below p k now in
              let here : owner_of T p ≡ i = R.homes i p d.0 d.1 in
              let e = G.on p d.0 (cap-base p ∙ d.1) in
              let l = (G.leads p k now).1 in
              let same : l.0 ≡ e.0 = same_Some l.0 e.0 (sym l.1 ∙ e.1) in
              (e.0, hold-i p here ∙ e.1, e.2 ∙ d.2, ap (λ (x : Capability). has_key x.children k) (sym same) ∙ l.2);
          fresh = new;
          child = λ p k granted. child-grown (root_keys T) gs p k granted;
          alive_made = λ k alive. R.fit.made k alive;
          more = λ p k granted. Contains-append_left gs (option_to_list o) (p, k) granted;
          less = λ p k granted. elim (Contains-append_cases gs (option_to_list o) (p, k) granted) [
            | inl before ↦ inl before
            | inr now ↦ inr (in-more p k o now)
          ];
          granted = λ p k now. Contains-append_right gs (option_to_list o) (p, k) (to-more p k o now);
          made_more = λ k made. made-more k made;
          job = λ a n. elim (cases_eq a i) [
            | inl here ↦ ap (λ b. job (side V b) n) here
                ∙ (ap (λ (x : Side). job x n) at-i ∙ (ap (λ (xs : List JobRow). job_of xs n) (G.jobs ∙ jobs) ∙ ap (λ b. job (side W b) n) (sym here)))
            | inr away ↦ ap (λ (x : Side). job x n) (get_or-put_other no_side W.sides i a t away)
          ];
          asked = λ k a b. sum-same (requesting k a b) (of_asking k a b);
          tokens = λ a b. sum-same (naming a b) (of_naming a b);
          count = λ a b. sum-same (counting a b) (λ from to m is. refl);
          notices = λ k. sum-same (noticing k) (of_noticing k);
          misplaced = sum-same (straying (owner_of T)) of_straying;
        }
          where
            made-more : (k : KeyName) → Made T gs k → Made T (more o) k
            made-more k made = elim (Contains-append_cases (root_keys T) (map (λ (g : KeyName × KeyName). g.1) gs) k made) [
              | inl root ↦ Contains-append_left (root_keys T) (map (λ (g : KeyName × KeyName). g.1) (more o)) k root
              | inr child ↦
                  let g = Contains-from_map (λ (g : KeyName × KeyName). g.1) gs k child in
                  Contains-append_right (root_keys T) (map (λ (g : KeyName × KeyName). g.1) (more o)) k
                  (subst (Contains (map (λ (g : KeyName × KeyName). g.1) (more o))) g.2
                  (Contains-map (λ (g : KeyName × KeyName). g.1) (more o) g.0 (Contains-append_left gs (option_to_list o) g.0 g.1)))
            ]
