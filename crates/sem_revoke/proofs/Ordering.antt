-- A gift of a key never stands behind a request for it, and stands on the way from the owner of the parent to the owner of the key.
use Rattle.std.proofs.Common.{◌≡◌, ◌⊎◌, ℕ, zero, suc, ◌+◌, ◌≤◌, ◌++◌, Bool, false, ◌&&◌, List, [], ◌∷◌, get_or, Option, Some, None, append-nil, append_assoc}
use Rattle.std.proofs.Common.{refl, sym, ap, ◌∙◌, subst, inl, inr, arith, eq-eqb}
use Rattle.std.specs.Prelude.{◌==◌, if◌then◌else◌}
use Rattle.std.specs.List.{sum_by}
use Rattle.std.proofs.lemmas.Bool.{cases_Bool, cases_eq, cond-true, cond-false, cond_both, eqb-true, and_from}
use Rattle.std.proofs.lemmas.List.Sums.{sum_by-cons, sum_by-append}
use Rattle.sem_key.specs.KeyName.{KeyName, key_eq}
use Rattle.sem_msg.specs.declared.message.Message.{Message}
use Rattle.sem_msg.specs.declared.message.Message.TheVariants.{ObtainReq, ObtainOk, ObtainNo, DelegateReq, DelegatePrepared, DelegateNo, Ack, Orphan, RevokeReq}
use Rattle.sem_msg.specs.declared.message.Message.TheVariants.{RevokeDone, Unlink}
use Rattle.sem_msg.specs.Setup.{Setup}
use Rattle.sem_msg.specs.Lookups.{owner_of}
use Rattle.sem_machine.specs.Sides.{Side, no_side, outbox}
use Rattle.sem_machine.specs.Machine.{World, side, link, with_side}
use Rattle.sem_machine.specs.Living.{fetched_from, way}
use Rattle.sem_machine.specs.Journals.{root_keys}
use Rattle.sem_key.proofs.Puts.{get_or-put_same, get_or-put_other}
use Rattle.sem_safety.proofs.HeldOnce.{weigh-at}
use Rattle.sem_safety.proofs.Lives.{at_message, at_messages, at_inbox, at_side}
use Rattle.sem_safety.proofs.LiveWorlds.{at_world}
use Rattle.sem_safety.proofs.GrownLines.{child-grown}
use Rattle.sem_revoke.specs.Scales.{Scale, sum_from, of_messages, of_inbox, of_side, of_world, bit, requesting, requesting_message}
use Rattle.sem_revoke.proofs.Viewing.{on_its_way}
use Rattle.sem_revoke.proofs.Events.{Par, Made, IsReady, Losing, Holds}
use Rattle.sem_revoke.proofs.Turning.{Sends}

module _ (k : KeyName) where
  abbrev pub is_request : Message → Bool
  is_request (ObtainReq place target) = false
  is_request (ObtainOk parent key object) = false
  is_request (ObtainNo place code) = false
  is_request (DelegateReq parent object vpe sel) = false
  is_request (DelegatePrepared parent key) = false
  is_request (DelegateNo parent code) = false
  is_request (Ack key accepted) = false
  is_request (Orphan parent key) = false
  is_request (RevokeReq key j) = key_eq key k
  is_request (RevokeDone j) = false
  is_request (Unlink parent key) = false

  -- the gifts of the key behind the first request for it
  abbrev pub late : List Message → ℕ
  late [] = 0
  late (m ∷ ms) = if is_request m then at_messages k ms else late ms

  pub late-le : (ms : List Message) → late ms ≤ at_messages k ms
  late-le [] = omega arith
  late-le (m ∷ ms) =
      let all = sum_by-cons (at_message k) m ms in
      let rest = late-le ms in
      cond_both (is_request m) (at_messages k ms) (late ms) (λ n. n ≤ at_messages k (m ∷ ms)) (λ _. omega (arith, all)) (λ _. omega (arith, all, rest))

  pub late-rest : (m : Message) (ms : List Message) → late (m ∷ ms) ≡ 0 → late ms ≡ 0
  late-rest m ms none = elim (cases_Bool (is_request m)) [
    | inl request ↦ let at = cond-true (is_request m) (at_messages k ms) (late ms) request in let less = late-le ms in omega (arith, none, at, less)
    | inr other ↦ sym (cond-false (is_request m) (at_messages k ms) (late ms) other) ∙ none
  ]

  late-more : (xs ys : List Message) → late xs ≡ 0 → at_messages k ys ≡ 0 → late (xs ++ ys) ≡ 0
  late-more [] ys none nothing = let less = late-le ys in omega (arith, less, nothing)
  late-more (m ∷ ms) ys none nothing = elim (cases_Bool (is_request m)) [
    | inl request ↦
        let was = cond-true (is_request m) (at_messages k ms) (late ms) request in
        let both = sum_by-append (at_message k) ms ys in
        cond-true (is_request m) (at_messages k (ms ++ ys)) (late (ms ++ ys)) request ∙ omega (arith, none, was, both, nothing)
    | inr other ↦ cond-false (is_request m) (at_messages k (ms ++ ys)) (late (ms ++ ys)) other ∙ late-more ms ys (late-rest m ms none) nothing
  ]

  -- where nothing is asked for, nothing is late
  late-unasked : (from to : ℕ) (ms : List Message) → ((b : ℕ) → sum_by (requesting_message k from b from to) ms ≡ 0) → late ms ≡ 0
  late-unasked from to [] none = refl
  late-unasked from to (m ∷ ms) none =
      cond-false (is_request m) (at_messages k ms) (late ms) (no-request m (λ b. let all = sum_by-cons (requesting_message k from b from to) m ms in
      let zero' = none b in omega (arith, all, zero')))
      ∙ late-unasked from to ms (λ b. let all = sum_by-cons (requesting_message k from b from to) m ms in let zero' = none b in omega (arith, all, zero'))
    where
      no-request : (m : Message) → ((b : ℕ) → requesting_message k from b from to m ≡ 0) → is_request m ≡ false
      no-request (ObtainReq place target) zero' = refl
      no-request (ObtainOk parent key object) zero' = refl
      no-request (ObtainNo place code) zero' = refl
      no-request (DelegateReq parent object vpe sel) zero' = refl
      no-request (DelegatePrepared parent key) zero' = refl
      no-request (DelegateNo parent code) zero' = refl
      no-request (Ack key accepted) zero' = refl
      no-request (Orphan parent key) zero' = refl
      no-request (RevokeReq key j) zero' = elim (cases_Bool (key_eq key k)) [
        | inr other ↦ other
        | inl same ↦
            let one : bit (key_eq key k && ((from == from) && (j == j))) ≡ 1 =
            cond-true (key_eq key k && ((from == from) && (j == j))) 1 0
            (and_from (key_eq key k) ((from == from) && (j == j)) same (and_from (from == from) (j == j) (eq-eqb from from refl) (eq-eqb j j refl))) in
            let none' = zero' j in
            absurd (omega (arith, one, none'))
      ]
      no-request (RevokeDone j) zero' = refl
      no-request (Unlink parent key) zero' = refl

-- The ways of a world.

pub record Ordered (T : Setup) (gs : List (KeyName × KeyName)) (W : World) : Type 0 where
  pub order : (k : KeyName) (a b : ℕ) → late k (way W a b) ≡ 0
  pub place : (p k : KeyName) (a b : ℕ) → Par gs p k → 1 ≤ at_messages k (way W a b) → (owner_of T p ≡ a) × (owner_of T k ≡ b)

-- what was fetched is one message at most
front-gone : (P : List Message → Type 0) → ((m : Message) → P (m ∷ []) → P []) → (a : ℕ) (o : Option (ℕ × Message)) → P (fetched_from a o) → P []
front-gone P less a None is = is
front-gone P less a (Some m) is = elim (cases_Bool (m.0 == a)) [
  | inl same ↦ less m.1 (subst P (cond-true (m.0 == a) (m.1 ∷ []) [] same) is)
  | inr other ↦ subst P (cond-false (m.0 == a) (m.1 ∷ []) [] other) is
]

-- the parts of a sum by place
from-at : {X : Type 0} (f : ℕ → X → ℕ) (d : X) → ((n : ℕ) → f n d ≡ 0) → (n : ℕ) (xs : List X) (i : ℕ) → f (n + i) (get_or xs i d) ≤ sum_from f n xs
from-at f d none n [] i = let zero' = none (n + i) in omega (arith, zero')
from-at f d none n (x ∷ xs) zero = let same : f (n + 0) x ≡ f n x = ap (λ m. f m x) (omega arith) in omega (arith, same)
from-at f d none n (x ∷ xs) (suc i) =
    let rest = from-at f d none (n + 1) xs i in
    let same : f ((n + 1) + i) (get_or xs i d) ≡ f (n + suc i) (get_or xs i d) = ap (λ m. f m (get_or xs i d)) (omega arith) in
    omega (arith, rest, same)

from-here : {X : Type 0} (f : ℕ → X → ℕ) (d : X) → ((n : ℕ) → f n d ≡ 0) → (xs : List X) (i : ℕ) → f i (get_or xs i d) ≤ sum_from f 0 xs
from-here f d none xs i = let at = from-at f d none 0 xs i in
    let same : f (0 + i) (get_or xs i d) ≡ f i (get_or xs i d) = ap (λ m. f m (get_or xs i d)) (omega arith) in omega (arith, at, same)

module _ (S : Scale) (W : World) where
  pub side-part : (b : ℕ) → of_side S b (side W b) ≤ of_world S W
  side-part b = let at = from-here (of_side S) no_side (λ n. refl) W.sides b in omega (arith, at)

  pub inbox-part : (b : ℕ) → of_inbox S b (side W b).inbox ≤ of_world S W
  inbox-part b = let at = side-part b in omega (arith, at)

  pub jobs-part : (b : ℕ) → sum_by (S.job b) (side W b).jobs ≤ of_world S W
  jobs-part b = let at = side-part b in omega (arith, at)

  pub outs-part : (a b : ℕ) → of_messages S a b (outbox (side W a) b) ≤ of_world S W
  outs-part a b =
      let at = side-part a in
      let box = from-here (of_messages S a) [] (λ n. refl) (side W a).outs b in
      omega (arith, at, box)

  pub link-part : (a b : ℕ) → of_messages S a b (link W a b) ≤ of_world S W
  link-part a b =
      let row = from-here (λ i ls. sum_from (of_messages S i) 0 ls) [] (λ n. refl) W.links a in
      let box = from-here (of_messages S a) [] (λ n. refl) (get_or W.links a []) b in
      omega (arith, row, box)

pub fetched-le : (S : Scale) (a b : ℕ) (o : Option (ℕ × Message)) → of_messages S a b (fetched_from a o) ≤ of_inbox S b o
fetched-le S a b None = omega arith
fetched-le S a b (Some m) = elim (cases_Bool (m.0 == a)) [
  | inl same ↦
      let list : of_messages S a b (fetched_from a (Some m)) ≡ of_messages S a b (m.1 ∷ []) =
      ap (of_messages S a b) (cond-true (m.0 == a) (m.1 ∷ []) [] same) in
      let one = sum_by-cons (S.message a b) m.1 [] in
      let is : S.message m.0 b m.1 ≡ S.message a b m.1 = ap (λ n. S.message n b m.1) (eqb-true m.0 a same) in
      omega (arith, list, one, is)
  | inr other ↦ let list : of_messages S a b (fetched_from a (Some m)) ≡ 0 = ap (of_messages S a b) (cond-false (m.0 == a) (m.1 ∷ []) [] other) in
      omega (arith, list)
]

gift-fetched : (k : KeyName) (a : ℕ) (o : Option (ℕ × Message)) → at_messages k (fetched_from a o) ≤ at_inbox k o
gift-fetched k a None = omega arith
gift-fetched k a (Some m) = cond_both (m.0 == a) (m.1 ∷ []) [] (λ xs. at_messages k xs ≤ at_inbox k (Some m)) (λ _. let one =
    sum_by-cons (at_message k) m.1 [] in omega (arith, one)) (λ _. omega arith)

-- the gifts on a way are counted in the world
pub way-gifts : (k : KeyName) (W : World) (a b : ℕ) → at_world k on_its_way W ≡ 0 → at_messages k (way W a b) ≡ 0
way-gifts k W a b none =
    let from = weigh-at (at_side k on_its_way) no_side refl W.sides a in
    let to = weigh-at (at_side k on_its_way) no_side refl W.sides b in
    let row = weigh-at (λ (ls : List (List Message)). sum_by (at_messages k) ls) [] refl W.links a in
    let box = weigh-at (at_messages k) [] refl (get_or W.links a []) b in
    let out = weigh-at (at_messages k) [] refl (side W a).outs b in
    let fetched = gift-fetched k a (side W b).inbox in
    let one = sum_by-append (at_message k) (fetched_from a (side W b).inbox ++ link W a b) (outbox (side W a) b) in
    let two = sum_by-append (at_message k) (fetched_from a (side W b).inbox) (link W a b) in
    omega (arith, none, from, to, row, box, out, fetched, one, two)

-- An event that moves no message.

module _ (T : Setup) (gs gs' : List (KeyName × KeyName)) (W : World) (R : IsReady T gs W) (H : Holds T gs W) (L : Losing gs W) (O : Ordered T gs W) (i : ℕ)
    (o : Option (KeyName × KeyName))
    (more : (p k : KeyName) → Par gs' p k → Par gs p k ⊎ (◌≡◌ {A = Option (KeyName × KeyName)} o (Some (p, k))))
    (new : (p k : KeyName) → ◌≡◌ {A = Option (KeyName × KeyName)} o (Some (p, k)) → Made T gs k → ⊥)
    (none_on : (k : KeyName) → (Made T gs k → ⊥) → at_world k on_its_way W ≡ 0)
    (held : (p k : KeyName) → ◌≡◌ {A = Option (KeyName × KeyName)} o (Some (p, k)) → owner_of T p ≡ i)
    (base t : Side) (boxes : base.outs ≡ (side W i).outs) (inboxes : (base.inbox ≡ (side W i).inbox)
    ⊎ (base.inbox ≡ None)) (S : Sends T gs W R H L i o base t) where
  abbrev V : World
  V = with_side i t W

  -- a way is what it was, but for its front, and with more behind
  record Parts (a b : ℕ) : Type 0 where
    front : List Message
    ms : List Message
    whole_way : way V a b ≡ ((front ++ link W a b) ++ outbox (side W a) b) ++ ms
    fronts : (front ≡ fetched_from a (side W b).inbox) ⊎ (front ≡ [])
    gifts : (k : KeyName) → 1 ≤ at_messages k ms → (a ≡ i) × (owner_of T k ≡ b) × ((p : KeyName) × ◌≡◌ {A = Option (KeyName × KeyName)} o (Some (p, k)))
    boxed : (ms ≡ []) ⊎ ((a ≡ i) × (outbox t b ≡ outbox (side W a) b ++ ms))

  at-i : side V i ≡ t
  at-i = get_or-put_same no_side W.sides i t

  front-is : (a b : ℕ) → (xs : List Message) × (fetched_from a (side V b).inbox ≡ xs) × ((xs ≡ fetched_from a (side W b).inbox) ⊎ (xs ≡ []))
  front-is a b = elim (cases_eq b i) [
    | inl same ↦
        let at : (side V b).inbox ≡ base.inbox = ap (λ n. (side V n).inbox) same ∙ (ap (λ (x : Side). x.inbox) at-i ∙ S.inbox) in
        elim inboxes [
          | inl kept ↦ (fetched_from a (side W b).inbox, ap (fetched_from a) (at ∙ (kept ∙ ap (λ n. (side W n).inbox) (sym same))), inl refl)
          | inr none ↦ ([], ap (fetched_from a) (at ∙ none), inr refl)
        ]
    | inr other ↦ (fetched_from a (side W b).inbox, ap (λ (x : Side). fetched_from a x.inbox) (get_or-put_other no_side W.sides i b t other), inl refl)
  ]

  parts : (a b : ℕ) → Parts a b
  parts a b =
      let f = front-is a b in
      elim (cases_eq a i) [
        | inl same ↦
            let sends = S.sends b in
            let box : outbox t b ≡ outbox (side W a) b ++ sends.0 = sends.1 ∙ ap (λ xs. xs ++ sends.0) (ap (λ (bs : List (List Message)). get_or bs b []) boxes
            ∙ ap (λ n. outbox (side W n) b) (sym same)) in
            let out : outbox (side V a) b ≡ outbox (side W a) b ++ sends.0 = ap (λ n. outbox (side V n) b) same ∙ (ap (λ (x : Side). outbox x b) at-i ∙ box) in
            record {
              front = f.0;
              ms = sends.0;
              whole_way = ap (λ xs. (xs ++ link W a b) ++ outbox (side V a) b) f.1
                  ∙ (ap (λ xs. (f.0 ++ link W a b) ++ xs) out ∙ sym (append_assoc (f.0 ++ link W a b) (outbox (side W a) b) sends.0));
              fronts = f.2;
              gifts = λ k some. let g = sends.2 k some in (same, g.0, g.1);
              boxed = inr (same, box);
            }
        | inr other ↦ record {
          front = f.0;
          ms = [];
          whole_way = ap (λ xs. (xs ++ link W a b) ++ outbox (side V a) b) f.1
              ∙ (ap (λ (x : Side). (f.0 ++ link W a b) ++ outbox x b) (get_or-put_other no_side W.sides i a t other)
              ∙ sym (append-nil ((f.0 ++ link W a b) ++ outbox (side W a) b)));
          fronts = f.2;
          gifts = λ k some. absurd (omega (arith, some));
          boxed = inl refl;
        }
      ]

  -- what was on the way and is left
  old-late : (k : KeyName) (a b : ℕ) (front : List Message) → (front ≡ fetched_from a (side W b).inbox) ⊎ (front ≡ []) →
      late k ((front ++ link W a b) ++ outbox (side W a) b) ≡ 0
  old-late k a b front (inl same) = ap (λ xs. late k ((xs ++ link W a b) ++ outbox (side W a) b)) same ∙ O.order k a b
  old-late k a b front (inr none) = ap (λ xs. late k ((xs ++ link W a b) ++ outbox (side W a) b)) none
      ∙ front-gone (λ xs. late k ((xs ++ link W a b) ++ outbox (side W a) b) ≡ 0) (λ m is. late-rest k m (link W a b ++ outbox (side W a) b) is) a
      (side W b).inbox (O.order k a b)

  old-gifts : (k : KeyName) (a b : ℕ) (front : List Message) → (front ≡ fetched_from a (side W b).inbox) ⊎ (front ≡ []) →
      at_messages k ((front ++ link W a b) ++ outbox (side W a) b) ≤ at_messages k (way W a b)
  old-gifts k a b front (inl same) = let is = ap (λ xs. at_messages k ((xs ++ link W a b) ++ outbox (side W a) b)) same in omega (arith, is)
  old-gifts k a b front (inr none) =
      let is = ap (λ xs. at_messages k ((xs ++ link W a b) ++ outbox (side W a) b)) none in
      let one = sum_by-append (at_message k) (fetched_from a (side W b).inbox ++ link W a b) (outbox (side W a) b) in
      let two = sum_by-append (at_message k) (fetched_from a (side W b).inbox) (link W a b) in
      let three = sum_by-append (at_message k) (link W a b) (outbox (side W a) b) in
      omega (arith, is, one, two, three)

  -- what is granted was never asked for
  unasked : (k : KeyName) → (Made T gs k → ⊥) → (a c : ℕ) → of_world (requesting k a c) W ≡ 0
  unasked k unmade a c = elim (cases_eq (of_world (requesting k a c) W) 0) [
    | inl none ↦ none
    | inr some ↦ let under = H.asking k a c (omega (arith, some)) in absurd (unmade (child-grown (root_keys T) gs under.0 k under.1))
  ]

  now-unasked : (p k : KeyName) → ◌≡◌ {A = Option (KeyName × KeyName)} o (Some (p, k)) → (a b : ℕ) → late k (way V a b) ≡ 0
  now-unasked p k now a b =
      let P : Parts a b = parts a b in
      ap (late k) P.whole_way ∙ late-unasked k a b (((P.front ++ link W a b) ++ outbox (side W a) b) ++ P.ms) (λ c. none c P)
    where
      none : (c : ℕ) (P : Parts a b) → sum_by (requesting_message k a c a b) (((P.front ++ link W a b) ++ outbox (side W a) b) ++ P.ms) ≡ 0
      none c P =
          let Q : Scale = requesting k a c in
          let zero' = unasked k (new p k now) a c in
          let inbox = inbox-part Q W b in
          let linked = link-part Q W a b in
          let out = outs-part Q W a b in
          let first : of_messages Q a b P.front ≤ of_inbox Q b (side W b).inbox = elim P.fronts [
            | inl same ↦ (let is = ap (of_messages Q a b) same in let less = fetched-le Q a b (side W b).inbox in omega (arith, is, less))
            | inr empty ↦ (let is : of_messages Q a b P.front ≡ 0 = ap (of_messages Q a b) empty in omega (arith, is))
          ] in
          let last : of_messages Q a b P.ms ≡ 0 = elim P.boxed [
            | inl empty ↦ ap (of_messages Q a b) empty
            | inr (at, box) ↦
                let all = from-here (of_messages Q i) [] (λ n. refl) t.outs b in
                let quiet = S.quiet p k now k a c in
                let same = ap (sum_from (of_messages Q i) 0) boxes in
                let side' = side-part Q W i in
                let list = ap (of_messages Q a b) box in
                let both = sum_by-append (Q.message a b) (outbox (side W a) b) P.ms in
                let here : of_messages Q a b (outbox t b) ≡ of_messages Q i b (outbox t b) = ap (λ n. of_messages Q n b (outbox t b)) at in
                omega (arith, zero', all, quiet, same, side', list, both, here)
          ] in
          let one = sum_by-append (Q.message a b) ((P.front ++ link W a b) ++ outbox (side W a) b) P.ms in
          let two = sum_by-append (Q.message a b) (P.front ++ link W a b) (outbox (side W a) b) in
          let three = sum_by-append (Q.message a b) P.front (link W a b) in
          omega (arith, zero', inbox, linked, out, first, last, one, two, three)

  pub ordered-on : Ordered T gs' V
  ordered-on = record {
    order = λ k a b.
        let P : Parts a b = parts a b in
        elim (cases_eq (at_messages k P.ms) 0) [
          | inl none ↦ ap (late k) P.whole_way ∙ late-more k ((P.front ++ link W a b) ++ outbox (side W a) b) P.ms (old-late k a b P.front P.fronts) none
          | inr some ↦ let g = P.gifts k (omega (arith, some)) in now-unasked g.2.0 k g.2.1 a b
        ];
    place = λ p k a b granted some.
        let P : Parts a b = parts a b in
        let all = sum_by-append (at_message k) ((P.front ++ link W a b) ++ outbox (side W a) b) P.ms in
        let is = ap (at_messages k) P.whole_way in
        let old = old-gifts k a b P.front P.fronts in
        elim (cases_eq (at_messages k P.ms) 0) [
          | inr gift ↦
              let g = P.gifts k (omega (arith, gift)) in
              elim (more p k granted) [
                | inl before ↦ absurd (new g.2.0 k g.2.1 (child-grown (root_keys T) gs p k before))
                | inr now ↦ (held p k now ∙ sym g.0, g.1)
              ]
          | inl none ↦ elim (more p k granted) [
            | inl before ↦ O.place p k a b before (omega (arith, all, is, old, none, some))
            | inr now ↦ let empty = way-gifts k W a b (none_on k (new p k now)) in absurd (omega (arith, all, is, old, none, some, empty))
          ]
        ];
  }

-- A message that moves leaves every way.
pub ordered-same : (T : Setup) (gs : List (KeyName × KeyName)) (W V : World) → ((a b : ℕ) → way V a b ≡ way W a b) → Ordered T gs W → Ordered T gs V
ordered-same T gs W V same O = record {
  order = λ k a b. ap (late k) (same a b) ∙ O.order k a b;
  place = λ p k a b granted some. let is = ap (at_messages k) (same a b) in O.place p k a b granted (omega (arith, is, some));
}
