-- The keys that an entry moves, and those that are marked after it.
use Rattle.std.proofs.Common.{◌≡◌, ℕ, ◌<◌, Bool, true, false, List, [], ◌∷◌, ◌++◌, Option, Some, None, IsSome, refl, sym, ap, ◌∙◌, subst, inl, inr}
use Rattle.std.specs.List.{Contains, flat_map}
use Rattle.std.specs.Option.{option_map, option_map_or, option_and_then}
use Rattle.std.proofs.lemmas.Bool.{cases_Bool, cases_eq, true≢false}
use Rattle.std.proofs.lemmas.Option.{same_Some}
use Rattle.std.proofs.lemmas.List.Elements.{Contains-append_left, Contains-append_right, Contains-append_cases}
use Rattle.sem_key.specs.KeyName.{KeyName, key_eq}
use Rattle.sem_key.specs.Capability.{Capability}
use Rattle.sem_key.specs.Region.{has_key}
use Rattle.sem_key.proofs.KeyTests.{has_key-from_Contains, Contains-from_has_key}
use Rattle.sem_key.proofs.Members.{found, Contains-nil, Contains-head, Contains-cons_cases, Contains-flat_map, Contains-from_flat_map}
use Rattle.sem_msg.specs.declared.message.Message.{Message}
use Rattle.sem_msg.specs.declared.message.Message.TheVariants.{RevokeDone}
use Rattle.sem_msg.specs.declared.event.Act.{Act}
use Rattle.sem_msg.specs.declared.event.Act.TheVariants.{Call as Calls, Fetch, Handle, Upcall, Resume, Flush, Kill}
use Rattle.sem_msg.specs.declared.entry.Detail.{Detail}
use Rattle.sem_msg.specs.declared.entry.Detail.TheVariants.{Carried, Nothing}
use Rattle.sem_msg.specs.declared.entry.Entry.{Entry}
use Rattle.sem_msg.specs.declared.state.Parked.{Parked}
use Rattle.sem_key.specs.declared.limits.TheConstants.{VPES}
use Rattle.sem_msg.specs.Setup.{Setup, IsSetup}
use Rattle.sem_msg.specs.Lookups.{owner_of}
use Rattle.sem_machine.specs.Sides.{Side, cap, parked}
use Rattle.sem_machine.specs.Machine.{World, side, start, after, input_of, detail_of}
use Rattle.sem_machine.specs.Schedules.{IsSchedule, world_after}
use Rattle.sem_safety.proofs.CarryingWorlds.{stepped}
use Rattle.sem_revoke.proofs.Readying.{schedule-homes}
use Rattle.sem_query.specs.declared.holder.Holder.{Holder}
use Rattle.sem_query.specs.declared.holder.Holder.TheVariants.{Marked}
use Rattle.sem_query.specs.Whereabouts.{held_with, held_as, unheld, is_coming, whereabouts, Passes}
use Rattle.sem_query.specs.Whereabouts.Passes.{born_on_its_way, born_held, stays_marked}
use Rattle.sem_query.specs.Changes.{may_revoke, revokes_by, grants_key, MayChange}
use Rattle.sem_query.specs.Changes.MayChange.{by_revoking}
use Rattle.sem_query.specs.Lives.{KeyLife}
use Rattle.sem_query.specs.Building.{all_noted, grant_noted, followed, returned_in, returned, moved_by, AreMoved, IsNextEntry, IsFollowed}
use Rattle.sem_query.specs.Reaching.{AreRevoked}
use Rattle.sem_query.specs.declared.marked.Token.{Token}
use Rattle.sem_query.specs.MarkedKeys.{mark_in, mark_at, AreAllMarked, marking, above_in, IsToken, IsIdleToken, IsSeen, IsBounded, StaysMarked, AreParted}
use Rattle.sem_query.specs.MarkedKeys.IsSeen.{idle, token}
use Rattle.sem_query.specs.MarkedKeys.StaysMarked.{no_token, elsewhere, still_marked, still_open, of_other}
use Rattle.sem_query.proofs.Passing.{at, is-after, passes}
use Rattle.sem_query.proofs.Changing.{made-so, shown-detail, side-away, held-on, changes}
use Rattle.sem_query.proofs.Spared.{spared}
use Rattle.sem_query.proofs.Stayed.{stays-held}
use Rattle.sem_query.proofs.Telling.{start-unmarked}
use Rattle.sem_query.proofs.There.{some-of}
use Rattle.sem_query.proofs.Begin.{parked-low}
use Rattle.sem_query.proofs.Rooting.{reached-held}
use Rattle.sem_query.proofs.Moved.{third, revoked-four, lists, listed}
use Rattle.sem_query.proofs.Returned.{returned-open, returned-idle, returned-rests}

-- Marked keys.

-- a capability with a mark
mark-of : (o : Option Capability) (j : ℕ) → option_and_then (λ (c : Capability). c.mark) o ≡ Some j → (c : Capability) × (o ≡ Some c) × (c.mark ≡ Some j)
mark-of None j none = absurd cc
mark-of (Some c) j some = (c, refl, some)

mark-from : (o : Option Capability) (c : Capability) (j : ℕ) → o ≡ Some c → c.mark ≡ Some j → option_and_then (λ (c : Capability). c.mark) o ≡ Some j
mark-from o c j is some = ap (option_and_then (λ (c : Capability). c.mark)) is ∙ some

-- a key is told as marked where it is held with a mark
abbrev is_marked : Holder → Bool
is_marked (Marked sel) = true
is_marked h = false

marked-held : (o : Option Capability) (b : Bool) → is_marked (option_map_or held_as o (unheld b)) ≡ true →
    (j : ℕ) × (option_and_then (λ (c : Capability). c.mark) o ≡ Some j)
marked-held None true is = absurd cc
marked-held None false is = absurd cc
marked-held (Some c) b is = by c.mark refl is
  where
    by : (m : Option ℕ) → c.mark ≡ m → is_marked (held_with m c.selector) ≡ true → (j : ℕ) × (c.mark ≡ Some j)
    by None none no' = absurd cc
    by (Some j) some yes' = (j, some)

held-marked : (o : Option Capability) (b : Bool) (j : ℕ) → option_and_then (λ (c : Capability). c.mark) o ≡ Some j →
    is_marked (option_map_or held_as o (unheld b)) ≡ true
held-marked o b j is =
    let c = mark-of o j is in
    ap (λ (x : Option Capability). is_marked (option_map_or held_as x (unheld b))) c.1 ∙ ap (λ m. is_marked (held_with m c.0.selector)) c.2

-- at the start none is
pub none-marked : (T : Setup) → AreAllMarked T (start T) []
none-marked T k j = (
  λ among. absurd (Contains-nil (k, j) among),
  λ is. (
      let c = mark-of (cap (side (start T) (owner_of T k)) k) j is in
      let none = start-unmarked T (owner_of T k) c.0 (found (λ (x : Capability). key_eq x.key k) (side (start T) (owner_of T k)).caps c.0 c.1).0 in
      let clash : ◌≡◌ {A = Option ℕ} None (Some j) = sym none ∙ c.2 in
      absurd cc),
)

-- keys with their jobs
in-markings : (T : Setup) (V : World) (ks : List KeyName) (k : KeyName) (j : ℕ) → Contains ks k → mark_at T V k ≡ Some j →
    Contains (flat_map (marking T V) ks) (k, j)
in-markings T V ks k j among is = Contains-flat_map (marking T V) ks k (
  k,
  j,
) among (subst (λ (o : Option ℕ). Contains {X = KeyName × ℕ} (option_map_or (λ i. (k, i) ∷ []) o []) (k, j)) (sym is) (Contains-head (k, j) []))

from-markings : (T : Setup) (V : World) (ks : List KeyName) (k : KeyName) (j : ℕ) → Contains (flat_map (marking T V) ks) (k, j) → mark_at T V k ≡ Some j
from-markings T V ks k j among =
    let q = Contains-from_flat_map (marking T V) ks (k, j) among in
    by q.0 (mark_at T V q.0) refl q.2
  where
    by : (q : KeyName) (o : Option ℕ) → mark_at T V q ≡ o → Contains {X = KeyName × ℕ} (option_map_or (λ i. (q, i) ∷ []) o []) (k, j) → mark_at T V k ≡ Some j
    by q None none here = absurd (Contains-nil (k, j) here)
    by q (Some i) some here = elim (Contains-cons_cases (q, i) [] (k, j) here) [
      | inr none ↦ absurd (Contains-nil (k, j) none)
      | inl same ↦ ap (mark_at T V) (sym (ap (λ (p : KeyName × ℕ). p.0) same)) ∙ (some ∙ ap (λ (p : KeyName × ℕ). Some p.1) same)
    ]

-- An entry of a schedule.
module _ (T : Setup) (valid : IsSetup T) (before : List Entry) (e : Entry) (runs : IsSchedule T (before ++ e ∷ [])) where
  abbrev J : List Entry
  J = before ++ e ∷ []

  abbrev W : World
  W = world_after T before

  abbrev V : World
  V = after T W e.event

  abbrev n : ℕ
  n = e.event.kernel

  abbrev s : Side
  s = side W n

  abbrev later-is : KeyName → Type 0
  later-is k = whereabouts T W k ≡ whereabouts T V k

  module _ (k : KeyName) where
    was-runs : IsSchedule T before
    was-runs = (at T valid J runs before [] e refl k).0

    -- the world after it
    now-is : world_after T J ≡ V
    now-is = is-after T valid J runs before [] e refl k

    then : whereabouts T W k ≡ whereabouts T (world_after T J) k → later-is k
    then same = same ∙ ap (λ (U : World). whereabouts T U k) now-is

    -- A token that comes back.

    returned-is : (j : ℕ) → returned e.event.act e.detail ≡ Some j → (e.event.act ≡ Handle) × (from : ℕ) × (e.detail ≡ Carried from (RevokeDone j))
    returned-is j is = by e.event.act e.detail refl refl is
      where
        message : (m : Message) → returned_in m ≡ Some j → m ≡ RevokeDone j
        message (RevokeDone i) some = ap RevokeDone (same_Some i j some)
        message m none = absurd cc

        by : (a : Act) (d : Detail) → e.event.act ≡ a → e.detail ≡ d → returned a d ≡ Some j →
            (e.event.act ≡ Handle) × (from : ℕ) × (e.detail ≡ Carried from (RevokeDone j))
        by Handle (Carried from m) act detail some = (act, from, detail ∙ ap (Carried from) (message m some))
        by a d act detail none = absurd cc

    -- where none comes back to an entry that revokes, its message is another one
    no-token : returned e.event.act e.detail ≡ None → may_revoke e ≡ true → (from j : ℕ) → e.detail ≡ Carried from (RevokeDone j) → ⊥
    no-token none loud from j detail = by e.event.act refl (ap (λ d. returned e.event.act d) (sym detail) ∙ none) (ap (revokes_by e.event.act) (sym detail)
        ∙ loud)
      where
        by : (a : Act) → e.event.act ≡ a → returned a (Carried from (RevokeDone j)) ≡ None → revokes_by a (Carried from (RevokeDone j)) ≡ true → ⊥
        by Handle act none' loud' = cc
        by (Kill v) act none' loud' =
            let shown : e.detail ≡ Nothing = shown-detail T W e (made-so T valid J runs before [] e refl k)
            ∙ ap (λ a. detail_of T s a (input_of W n a) (stepped T W e.event).outcome) act in
            let clash : Carried from (RevokeDone j) ≡ Nothing = sym detail ∙ shown in
            cc
        by (Calls v) act none' loud' = cc
        by (Fetch i) act none' loud' = cc
        by (Upcall v) act none' loud' = cc
        by (Resume v) act none' loud' = cc
        by (Flush i) act none' loud' = cc

    -- A key that is marked.
    module _ (j : ℕ) (mark : mark_at T W k ≡ Some j) where
      this : (c : Capability) × (cap (side W (owner_of T k)) k ≡ Some c) × (c.mark ≡ Some j)
      this = mark-of (cap (side W (owner_of T k)) k) j mark

      abbrev c : Capability
      c = this.0

      abbrev StaysSo : Type 0
      StaysSo = mark_at T V k ≡ Some j

      -- one that is held on with its mark
      held-so : (d : Capability) → cap (side (world_after T J) (owner_of T k)) k ≡ Some d → d.mark ≡ c.mark → StaysSo
      held-so d is same = mark-from (cap (side V (owner_of T k)) k) d j (ap (λ (U : World). cap (side U (owner_of T k)) k) (sym now-is) ∙ is) (same ∙ this.2)

      away : (owner_of T k ≡ n → ⊥) → StaysSo
      away other = held-so c (ap (λ (t : Side). cap t k) (side-away T valid J runs before [] e refl k (owner_of T k) other) ∙ this.1) refl

      quiet : owner_of T k ≡ n → may_revoke e ≡ false → StaysSo
      quiet home still = let d = held-on T valid J runs before [] e refl k c this.1 home still in held-so d.0 d.1 d.2.mark

      -- it stays, if no token comes back to a job that marks one
      idle-stays : IsIdleToken T W e → StaysSo
      idle-stays none = elim (cases_eq (owner_of T k) n) [
        | inr other ↦ away other
        | inl home ↦ elim (cases_Bool (may_revoke e)) [
          | inr still ↦ quiet home still
          | inl loud ↦ by home loud (returned e.event.act e.detail) refl
        ]
      ]
        where
          by : owner_of T k ≡ n → may_revoke e ≡ true → (o : Option ℕ) → returned e.event.act e.detail ≡ o → StaysSo
          by home loud None is = let d = stays-held T valid J runs before [] e refl (no-token is loud) k home loud c j this.1 this.2 in held-so d.0 d.1 d.2.mark
          by home loud (Some i) is =
              let back = returned-is i is in
              let d = returned-idle T valid J runs before [] e refl k back.1 i back.0 back.2 home c this.1
              (λ q x at_home held some. none i q is at_home (mark-from (cap (side W (owner_of T q)) q) x i (ap (λ a. cap (side W a) q) at_home
              ∙ held) some)) in
              held-so d.0 d.1 d.2.mark

      module _ (t : Token) (seen : IsToken T W e t) where
        back : (e.event.act ≡ Handle) × (from : ℕ) × (e.detail ≡ Carried from (RevokeDone t.job))
        back = returned-is t.job seen.comes_back

        -- the job of the token marks a key still
        open-stays : owner_of T k ≡ n → mark_at T V t.key ≡ Some t.job → StaysSo
        open-stays home is =
            let q = mark-of (cap (side V (owner_of T t.key)) t.key) t.job is in
            let d = returned-open T valid J runs before [] e refl k back.1 t.job back.0 back.2 home c this.1 t.key q.0
            (ap (λ (U : World). cap (side U n) t.key) now-is ∙ (ap (λ i. cap (side V i) t.key) (sym seen.home) ∙ q.1)) q.2 in
            held-so d.0 d.1 d.2.mark

        -- it is one of another job, and the one above marks still
        other-stays : owner_of T k ≡ n → (j ≡ t.job → ⊥) → IsBounded T V t → StaysSo
        other-stays home other bounded =
            let r = mark-of (cap (side W (owner_of T t.key)) t.key) t.job seen.marked in
            let held_r : cap s t.key ≡ Some r.0 = ap (λ i. cap (side W i) t.key) (sym seen.home) ∙ r.1 in
            let d = returned-rests T valid J runs before [] e refl k back.1 t.job back.0 back.2 home c this.1 j this.2 other t.key r.0 held_r r.2
            (above held_r) in
            held-so d.0 d.1 d.2.mark
          where
            above : {r : Capability} → cap s t.key ≡ Some r → (p : KeyName) (d : Capability) (i : ℕ) → r.parent ≡ Some p → cap s p ≡ Some d → d.mark ≡ Some i →
                (x : Capability) × (cap (side (world_after T J) n) p ≡ Some x) × (x.mark ≡ Some i)
            above {r} held_r p d i parent held some =
                let up : above_in s t.key ≡ Some (p, i) =
                ap (λ (o : Option Capability). option_and_then (λ q. option_map (λ a. (q, a)) (mark_in s q)) (option_and_then (λ (x : Capability). x.parent) o))
                held_r
                ∙ (ap (option_and_then (λ q. option_map (λ a. (q, a)) (mark_in s q))) parent
                ∙ ap (option_map (λ a. (p, a))) (mark-from (cap s p) d i held some)) in
                let at_home : owner_of T p ≡ n = schedule-homes T valid before was-runs n p d held in
                let x = mark-of (cap (side V (owner_of T p)) p) i (bounded p i (seen.parent ∙ up)) in
                (x.0, ap (λ (U : World). cap (side U n) p) now-is ∙ (ap (λ a. cap (side V a) p) (sym at_home) ∙ x.1), x.2)

      stays-marked : (o : Option Token) → IsSeen T W e o → StaysMarked T V e o k j → StaysSo
      stays-marked None (idle none) S = idle-stays none
      stays-marked (Some t) (token seen) (no_token none) = absurd cc
      stays-marked (Some t) (token seen) (elsewhere other) = away other
      stays-marked (Some t) (token seen) (still_marked is) = is
      stays-marked (Some t) (token seen) (still_open u same is) = elim (cases_eq (owner_of T k) n) [
        | inr other ↦ away other
        | inl home ↦ let is_t : u ≡ t = same_Some u t (sym same) in open-stays t seen home (subst (λ (x : Token). mark_at T V x.key ≡ Some x.job) is_t is)
      ]
      stays-marked (Some t) (token seen) (of_other u same other bounded) = elim (cases_eq (owner_of T k) n) [
        | inr away' ↦ away away'
        | inl home ↦
            let is_t : u ≡ t = same_Some u t (sym same) in
            other-stays t seen home (λ is. other (is ∙ ap (λ (x : Token). x.job) (sym is_t))) (subst (IsBounded T V) is_t bounded)
      ]

      -- a marked key that stays so stays at its selector
      both-marked : StaysSo → later-is k
      both-marked is = then (by (grants_key k e) (whereabouts T W k) (whereabouts T (world_after T J) k) (passes T valid J runs before [] e refl k)
          (held-marked (cap (side W (owner_of T k)) k) (is_coming k W) j mark)
          (ap (λ (U : World). is_marked (whereabouts T U k)) now-is ∙ held-marked (cap (side V (owner_of T k)) k) (is_coming k V) j is))
        where
          by : (g : Bool) (a b : Holder) → Passes g a b → is_marked a ≡ true → is_marked b ≡ true → a ≡ b
          by _ _ _ (stays_marked sel) one two = refl
          by _ _ _ p one two = absurd cc

  -- a key that is granted is not marked
  fresh-unmarked : (k : KeyName) (j : ℕ) → grants_key k e ≡ true → mark_at T V k ≡ Some j → ⊥
  fresh-unmarked k j granted is = by (grants_key k e) (whereabouts T W k) (whereabouts T (world_after T J) k) (passes T valid J runs before [] e refl k) granted
      (ap (λ (U : World). is_marked (whereabouts T U k)) (now-is k) ∙ held-marked (cap (side V (owner_of T k)) k) (is_coming k V) j is)
    where
      by : (g : Bool) (a b : Holder) → Passes g a b → g ≡ true → is_marked b ≡ true → ⊥
      by _ _ _ born_on_its_way one two = cc
      by _ _ _ (born_held sel) one two = cc
      by _ _ _ p one two = cc

  -- The keys that were listed, what is reached, the token, and the marked keys before the entry.
  module _ (reached : List KeyName) (are : AreRevoked s.caps e reached) (o : Option Token) (seen : IsSeen T W e o) (marked kept : List (KeyName × ℕ))
      (gone : List KeyName) (M : AreAllMarked T W marked) (P : AreParted T V e o marked kept gone) where
    abbrev first : List KeyName
    first = moved_by T W e reached

    low : (k : KeyName) → (i v : ℕ) (p : Parked) → parked (side W i) v ≡ Some p → v < VPES
    low k = parked-low T valid before (was-runs k)

    home-of : (k : KeyName) → IsSome (cap s k) → owner_of T k ≡ n
    home-of k some = let c = some-of (cap s k) some in schedule-homes T valid before (was-runs k) n k c.0 c.1

    may-first : (k : KeyName) → Contains first k → MayChange T W e k
    may-first k among = listed T W e (low k) reached k (λ loud here. (
        let is = (are loud k).0 here in
        let held = reached-held s.caps e is.0 k is.2 in
        (home-of k held, held))) among

    some-token : (p : Option Token) → IsSeen T W e p → IsSome p → (t : Token) × (returned e.event.act e.detail ≡ Some t.job)
    some-token None (idle none) no' = absurd cc
    some-token (Some t) (token is) yes' = (t, is.comes_back)

    may-gone : (k : KeyName) → Contains gone k → MayChange T W e k
    may-gone k among =
        let is = P.goes k among in
        let c = mark-of (cap (side W (owner_of T k)) k) is.0 ((M k is.0).0 is.1) in
        let t = some-token o seen is.3 in
        let back = returned-is k t.0.job t.1 in
        by_revoking is.2 (ap (λ a. revokes_by a e.detail) back.0
        ∙ ap (revokes_by Handle) back.2) (subst (λ (x : Option Capability). IsSome x) (sym (ap (λ i. cap (side W i) k) (sym is.2) ∙ c.1)) refl)

    -- what was not listed stays
    stays-else : (k : KeyName) → grants_key k e ≡ false → (Contains (first ++ gone) k → ⊥) → later-is k
    stays-else k not_granted absent = elim (changes T valid J runs before [] e refl k) [
      | inl same ↦ then k same
      | inr may ↦ elim (lists T W e (low k) reached k may) [
        | inl granted ↦ absurd (true≢false (sym granted ∙ not_granted))
        | inr (inl among) ↦ absurd (absent (Contains-append_left first gone k among))
        | inr (inr (home, loud, held)) ↦
            let c = some-of (cap s k) held in
            by home loud c.0 (ap (λ i. cap (side W i) k) home ∙ c.1) c.0.mark refl
      ]
    ]
      where
        by : owner_of T k ≡ n → may_revoke e ≡ true → (c : Capability) → cap (side W (owner_of T k)) k ≡ Some c → (m : Option ℕ) → c.mark ≡ m → later-is k
        by home loud c held None none = then k (spared T valid J runs before [] e refl k home loud c held none (λ (a, root, is). (
            absent (Contains-append_left first gone k
            (third T W e (low k) reached k loud (revoked-four T W e (low k) reached k ((are loud k).1 (a, root, is))))))))
        by home loud c held (Some j) some =
            let mark : mark_at T W k ≡ Some j = mark-from (cap (side W (owner_of T k)) k) c j held some in
            elim (P.each k j ((M k j).1 mark)) [
              | inr out ↦ absurd (absent (Contains-append_right first gone k out))
              | inl stays ↦ both-marked k j mark (stays-marked k j mark o seen (P.stays k j stays).1)
            ]

    pub moved-are : AreMoved T W e (first ++ gone)
    moved-are = record {
      may = λ k among. elim (Contains-append_cases first gone k among) [ inl one ↦ may-first k one | inr two ↦ may-gone k two ];
      others = stays-else;
    }

    abbrev new : List (KeyName × ℕ)
    new = flat_map (marking T V) (first ++ gone)

    -- what is marked after it
    pub marked-are : AreAllMarked T V (kept ++ new)
    marked-are k j = (only, all)
      where
        only : Contains (kept ++ new) (k, j) → mark_at T V k ≡ Some j
        only among = elim (Contains-append_cases kept new (k, j) among) [
          | inr now ↦ from-markings T V (first ++ gone) k j now
          | inl old ↦ let is = P.stays k j old in stays-marked k j ((M k j).0 is.0) o seen is.1
        ]

        -- one that was not listed was marked before, by the same job
        by : (Contains (first ++ gone) k → ⊥) → mark_at T V k ≡ Some j → (i : ℕ) → mark_at T W k ≡ Some i → Contains (kept ++ new) (k, j)
        by absent is i was = elim (P.each k i ((M k i).1 was)) [
          | inr out ↦ absurd (absent (Contains-append_right first gone k out))
          | inl stays ↦
              let same : i ≡ j = same_Some i j (sym (stays-marked k i was o seen (P.stays k i stays).1) ∙ is) in
              Contains-append_left kept new (k, j) (subst (λ x. Contains kept (k, x)) same stays)
        ]

        all : mark_at T V k ≡ Some j → Contains (kept ++ new) (k, j)
        all is = elim (cases_Bool (has_key (first ++ gone) k)) [
          | inl here ↦ Contains-append_right kept new (k, j) (in-markings T V (first ++ gone) k j (Contains-from_has_key (first ++ gone) k here) is)
          | inr away' ↦ elim (cases_Bool (grants_key k e)) [
            | inl granted ↦ absurd (fresh-unmarked k j granted is)
            | inr not_granted ↦
                let absent : Contains (first ++ gone) k → ⊥ = λ among. true≢false (sym (has_key-from_Contains (first ++ gone) k among) ∙ away') in
                let told : is_marked (whereabouts T W k) ≡ true = ap is_marked (stays-else k not_granted absent)
                ∙ held-marked (cap (side V (owner_of T k)) k) (is_coming k V) j is in
                let was = marked-held (cap (side W (owner_of T k)) k) (is_coming k W) told in
                by absent is was.0 was.1
          ]
        ]

-- The same, as the code goes through it: V is the world after the entry.
module _ (T : Setup) (valid : IsSetup T) (W : World) (e : Entry) (next : IsNextEntry T W e) (reached : List KeyName)
    (are : AreRevoked (side W e.event.kernel).caps e reached) (o : Option Token) (seen : IsSeen T W e o) (marked kept : List (KeyName × ℕ))
    (gone : List KeyName) (M : AreAllMarked T W marked) (V : World) (later : V ≡ after T W e.event) (P : AreParted T V e o marked kept gone)
    (first moved : List KeyName) (listed : first ≡ moved_by T W e reached) (all : moved ≡ first ++ gone) where
  abbrev Both : World → Type 0
  Both U = AreMoved T U e (moved_by T U e reached ++ gone)
      × AreAllMarked T (after T U e.event) (kept ++ flat_map (marking T (after T U e.event)) (moved_by T U e reached ++ gone))

  both : Both W
  both =
      subst (λ (U : World). AreRevoked (side U e.event.kernel).caps e reached → IsSeen T U e o → AreAllMarked T U marked →
      AreParted T (after T U e.event) e o marked kept gone → Both U) (sym next.world)
      (λ are' seen' M' P'. (
        moved-are T valid next.before e next.runs reached are' o seen' marked kept gone M' P',
        marked-are T valid next.before e next.runs reached are' o seen' marked kept gone M' P',
      ))
      are seen M (subst (λ (U : World). AreParted T U e o marked kept gone) later P)

  moved-is : moved ≡ moved_by T W e reached ++ gone
  moved-is = all ∙ ap (λ ks. ks ++ gone) listed

  pub follows-moved : AreMoved T W e moved
  follows-moved = subst (AreMoved T W e) (sym moved-is) both.0

  pub follows-marked : (now : List (KeyName × ℕ)) → now ≡ kept ++ flat_map (marking T V) moved → AreAllMarked T V now
  follows-marked now is =
      subst (λ (U : World). AreAllMarked T U now) (sym later)
      (subst (AreAllMarked T (after T W e.event)) (sym (is
      ∙ (ap (λ (U : World). kept ++ flat_map (marking T U) moved) later ∙ ap (λ ks. kept ++ flat_map (marking T (after T W e.event)) ks) moved-is))) both.1)

  pub follows-lives : (n : ℕ) (old noted done : List KeyLife) → noted ≡ all_noted T V n moved old → done ≡ grant_noted T V n e.grant noted →
      IsFollowed T W n e old done
  follows-lives n old noted done one two = (
    moved,
    follows-moved,
    two
        ∙ (ap (grant_noted T V n e.grant) one ∙ ap (λ (U : World). followed T U n e moved old) later),
  )
