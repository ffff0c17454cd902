-- What weighs is live.
use Rattle.std.proofs.Common.{◌≡◌, ℕ, zero, suc, ◌≤◌, true, false, List, [], ◌∷◌, ◌++◌, get_or, Option, Some, None, IsSome, refl, sym, ap, ◌∙◌, subst, inl, inr}
use Rattle.std.proofs.Common.{arith, eq-eqb}
use Rattle.std.specs.Prelude.{◌==◌}
use Rattle.std.specs.List.{Contains, sum_by}
use Rattle.std.proofs.lemmas.Bool.{cases_Bool, cases_eq, cond-true, cond-false, true≢false}
use Rattle.std.proofs.lemmas.List.Elements.{Contains-append_left, Contains-append_right}
use Rattle.std.proofs.lemmas.List.Sums.{sum_by-cons}
use Rattle.sem_key.specs.KeyName.{KeyName, key_eq}
use Rattle.sem_key.specs.Capability.{Capability}
use Rattle.sem_msg.specs.declared.message.Message.{Message}
use Rattle.sem_msg.specs.declared.message.Message.TheVariants.{ObtainReq, ObtainOk, ObtainNo, DelegateReq, DelegatePrepared, DelegateNo, Ack, Orphan, RevokeReq}
use Rattle.sem_msg.specs.declared.message.Message.TheVariants.{RevokeDone, Unlink}
use Rattle.sem_msg.specs.declared.state.Parked.{Parked}
use Rattle.sem_msg.specs.declared.state.Parked.TheVariants.{ObtainWait, ObtainReady, ObtainCancelled, DelegateWait, DelegateReady, RevokeWait, Ready}
use Rattle.sem_machine.specs.Sides.{no_side, cap, parked, outbox}
use Rattle.sem_machine.specs.Machine.{World, side, link}
use Rattle.sem_machine.specs.Living.{fetched_from, InFlight, IsLive}
use Rattle.sem_key.proofs.KeyTests.{key_eq-true}
use Rattle.sem_key.proofs.Members.{not_found, Contains-head, Contains-tail}
use Rattle.sem_safety.proofs.Lives.{all_held, at_key, at_cap, at_side, at_message, at_messages, at_inbox, at_parked}
use Rattle.sem_safety.proofs.LiveWorlds.{at_world}

pub some-at : {X : Type 0} (w : X → ℕ) (d : X) (xs : List X) → 1 ≤ sum_by w xs → (i : ℕ) × (1 ≤ w (get_or xs i d))
some-at w d [] some = absurd (omega (arith, some))
some-at w d (x ∷ xs) some = elim (cases_eq (w x) 0) [
  | inl none ↦ let all = sum_by-cons w x xs in let rest = some-at w d xs (omega (arith, all, some, none)) in (suc rest.0, rest.1)
  | inr more ↦ (zero, positive (w x) more)
]
  where
    positive : (n : ℕ) → (n ≡ 0 → ⊥) → 1 ≤ n
    positive zero never = absurd (never refl)
    positive (suc n) never = omega arith

pub some-in : {X : Type 0} (w : X → ℕ) (xs : List X) → 1 ≤ sum_by w xs → (x : X) × Contains xs x × (1 ≤ w x)
some-in w [] some = absurd (omega (arith, some))
some-in w (x ∷ xs) some = elim (cases_eq (w x) 0) [
  | inl none ↦ let all = sum_by-cons w x xs in let rest = some-in w xs (omega (arith, all, some, none)) in (rest.0, Contains-tail x xs rest.0 rest.1, rest.2)
  | inr more ↦ (x, Contains-head x xs, positive (w x) more)
]
  where
    positive : (n : ℕ) → (n ≡ 0 → ⊥) → 1 ≤ n
    positive zero never = absurd (never refl)
    positive (suc n) never = omega arith

module _ (k : KeyName) (W : World) where
  same-key : (q : KeyName) → 1 ≤ at_key k q → q ≡ k
  same-key q some = elim (cases_Bool (key_eq q k)) [
    | inl same ↦ key_eq-true q k same
    | inr differ ↦ let none : at_key k q ≡ 0 = cond-false (key_eq q k) 1 0 differ in absurd (omega (arith, none, some))
  ]

  -- a message in flight that weighs
  flight-live : (m : Message) → InFlight W m → 1 ≤ at_message k m → IsLive W k
  flight-live (ObtainReq place target) flight some = absurd (omega (arith, some))
  flight-live (ObtainOk parent key object) flight some =
      inr (inl (record { parent = parent; object = object; arriving = subst (λ q. InFlight W (ObtainOk parent q object)) (same-key key some) flight }))
  flight-live (ObtainNo place code) flight some = absurd (omega (arith, some))
  flight-live (DelegateReq parent object vpe sel) flight some = absurd (omega (arith, some))
  flight-live (DelegatePrepared parent key) flight some = absurd (omega (arith, some))
  flight-live (DelegateNo parent code) flight some = absurd (omega (arith, some))
  flight-live (Ack key true) flight some = inr (inr (inl (subst (λ q. InFlight W (Ack q true)) (same-key key some) flight)))
  flight-live (Ack key false) flight some = absurd (omega (arith, some))
  flight-live (Orphan parent key) flight some = absurd (omega (arith, some))
  flight-live (RevokeReq key j) flight some = absurd (omega (arith, some))
  flight-live (RevokeDone j) flight some = absurd (omega (arith, some))
  flight-live (Unlink parent key) flight some = absurd (omega (arith, some))

  parked-live : (i v : ℕ) (p : Option Parked) → parked (side W i) v ≡ p → 1 ≤ at_parked k p → IsLive W k
  parked-live i v None is some = absurd (omega (arith, some))
  parked-live i v (Some (ObtainWait number sel)) is some = absurd (omega (arith, some))
  parked-live i v (Some (ObtainReady key parent object sel)) is some =
      inr (inr (inr (record {
        kernel = i;
        vpe = v;
        selector = sel;
        parent = parent;
        object = object;
        ready = subst (λ q. parked (side W i) v ≡ Some (ObtainReady q parent object sel)) (same-key key some) is;
      })))
  parked-live i v (Some ObtainCancelled) is some = absurd (omega (arith, some))
  parked-live i v (Some (DelegateWait parent)) is some = absurd (omega (arith, some))
  parked-live i v (Some (DelegateReady parent key)) is some = absurd (omega (arith, some))
  parked-live i v (Some (RevokeWait j)) is some = absurd (omega (arith, some))
  parked-live i v (Some (Ready code)) is some = absurd (omega (arith, some))

  inbox-live : (i : ℕ) (o : Option (ℕ × Message)) → (side W i).inbox ≡ o → 1 ≤ at_inbox k o → IsLive W k
  inbox-live i None is some = absurd (omega (arith, some))
  inbox-live i (Some m) is some =
      flight-live m.1 (
        m.0,
        i,
        Contains-append_left (fetched_from m.0 (side W i).inbox ++ link W m.0 i) (outbox (side W m.0) i) m.1
            (Contains-append_left (fetched_from m.0 (side W i).inbox) (link W m.0 i) m.1
            (subst (λ ms. Contains ms m.1) (sym (ap (fetched_from m.0) is ∙ cond-true (m.0 == m.0) (m.1 ∷ []) [] (eq-eqb m.0 m.0 refl))) (Contains-head m.1 []))),
      )
      some

  held-live : (i : ℕ) (c : Capability) → Contains (side W i).caps c → 1 ≤ at_key k c.key → (o : Option Capability) → cap (side W i) k ≡ o → IsLive W k
  held-live i c among some (Some d) is = inl (i, subst IsSome (sym is) refl)
  held-live i c among some None none = elim (cases_Bool (key_eq c.key k)) [
    | inl same ↦ absurd (true≢false (sym same ∙ not_found (λ y. key_eq y.key k) (side W i).caps c none among))
    | inr differ ↦ let zero' : at_key k c.key ≡ 0 = cond-false (key_eq c.key k) 1 0 differ in absurd (omega (arith, zero', some))
  ]

  outs-live : (i : ℕ) → 1 ≤ sum_by (at_messages k) (side W i).outs → IsLive W k
  outs-live i some =
      let j = some-at (at_messages k) [] (side W i).outs some in
      let m = some-in (at_message k) (outbox (side W i) j.0) j.1 in
      flight-live m.0 (i, j.0, Contains-append_right (fetched_from i (side W j.0).inbox ++ link W i j.0) (outbox (side W i) j.0) m.0 m.1) m.2

  links-live : 1 ≤ sum_by (λ (ls : List (List Message)). sum_by (at_messages k) ls) W.links → IsLive W k
  links-live some =
      let i = some-at (λ (ls : List (List Message)). sum_by (at_messages k) ls) [] W.links some in
      let j = some-at (at_messages k) [] (get_or W.links i.0 []) i.1 in
      let m = some-in (at_message k) (link W i.0 j.0) j.1 in
      flight-live m.0 (
        i.0,
        j.0,
        Contains-append_left (fetched_from i.0 (side W j.0).inbox ++ link W i.0 j.0) (outbox (side W i.0) j.0) m.0
            (Contains-append_right (fetched_from i.0 (side W j.0).inbox) (link W i.0 j.0) m.0 m.1),
      ) m.2

  side-live : (i : ℕ) → 1 ≤ at_side k all_held (side W i) → IsLive W k
  side-live i some = elim (cases_eq (sum_by (at_cap k all_held) (side W i).caps) 0) [
    | inr caps ↦ let c = some-in (at_cap k all_held) (side W i).caps (positive (sum_by (at_cap k all_held) (side W i).caps) caps) in
        held-live i c.0 c.1 c.2 (cap (side W i) k) refl
    | inl no-caps ↦ elim (cases_eq (sum_by (at_parked k) (side W i).parks) 0) [
      | inr rows ↦ let v = some-at (at_parked k) None (side W i).parks (positive (sum_by (at_parked k) (side W i).parks) rows) in
          parked-live i v.0 (parked (side W i) v.0) refl v.1
      | inl no-rows ↦ elim (cases_eq (at_inbox k (side W i).inbox) 0) [
        | inr inbox ↦ inbox-live i (side W i).inbox refl (positive (at_inbox k (side W i).inbox) inbox)
        | inl no-inbox ↦ outs-live i (omega (arith, some, no-caps, no-rows, no-inbox))
      ]
    ]
  ]
    where
      positive : (n : ℕ) → (n ≡ 0 → ⊥) → 1 ≤ n
      positive zero never = absurd (never refl)
      positive (suc n) never = omega arith

  pub weighs-live : 1 ≤ at_world k all_held W → IsLive W k
  weighs-live some = elim (cases_eq (sum_by (at_side k all_held) W.sides) 0) [
    | inl none ↦ links-live (omega (arith, some, none))
    | inr more ↦ let i = some-at (at_side k all_held) no_side W.sides (positive (sum_by (at_side k all_held) W.sides) more) in side-live i.0 i.1
  ]
    where
      positive : (n : ℕ) → (n ≡ 0 → ⊥) → 1 ≤ n
      positive zero never = absurd (never refl)
      positive (suc n) never = omega arith
