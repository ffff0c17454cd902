-- Two states in which a call is parked are the same or differ.
use Rattle.std.proofs.Common.{◌≡◌, Option, Some, None, refl, inl, inr, ◌⊎◌}
use Rattle.std.proofs.lemmas.Bool.{cases_Bool, cases_eq, both_ways}
use Rattle.sem_key.specs.declared.object.Object.{Object}
use Rattle.sem_key.specs.declared.object.Object.TheVariants.{Mem, Recv, Send, Serv, Sess}
use Rattle.sem_key.specs.KeyName.{KeyName, key_eq}
use Rattle.sem_key.proofs.KeyTests.{key_eq-true, key_eq-from}
use Rattle.sem_msg.specs.declared.state.Parked.{Parked}
use Rattle.sem_msg.specs.declared.state.Parked.TheVariants.{ObtainWait, ObtainReady, ObtainCancelled, DelegateWait, DelegateReady, RevokeWait, Ready}

-- a fact that holds or not
abbrev pub Decided : Type 0 → Type 0
Decided A = A ⊎ (A → ⊥)

-- the one holds where the other does
along : {A B : Type 0} → (A → B) → (B → A) → Decided A → Decided B
along f g (inl holds) = inl (f holds)
along f g (inr fails) = inr (λ b. fails (g b))

both : {A B : Type 0} → Decided A → Decided B → Decided (A × B)
both (inl first) (inl second) = inl (first, second)
both (inl first) (inr fails) = inr (λ p. fails p.1)
both (inr fails) d = inr (λ p. fails p.0)

same-key : (k l : KeyName) → Decided (k ≡ l)
same-key k l = elim (cases_Bool (key_eq k l)) [
  | inl same ↦ inl (key_eq-true k l same)
  | inr other ↦ inr (λ is. both_ways (key_eq k l) other (key_eq-from k l is))
]

same-object : (o p : Object) → Decided (o ≡ p)
same-object (Mem a b c) (Mem x y z) = along (λ h. cc) (λ is. ((cc), ((cc), (cc)))) (both (cases_eq a x) (both (cases_eq b y) (cases_eq c z)))
same-object (Recv a) (Recv x) = along (λ h. cc) (λ is. cc) (cases_eq a x)
same-object (Send k a b) (Send l x y) = along (λ h. cc) (λ is. ((cc), ((cc), (cc)))) (both (same-key k l) (both (cases_eq a x) (cases_eq b y)))
same-object (Serv a) (Serv x) = along (λ h. cc) (λ is. cc) (cases_eq a x)
same-object (Sess k a) (Sess l x) = along (λ h. cc) (λ is. ((cc), (cc))) (both (same-key k l) (cases_eq a x))
same-object o p = inr (λ is. absurd cc)

same-parked : (p q : Parked) → Decided (p ≡ q)
same-parked (ObtainWait a b) (ObtainWait x y) = along (λ h. cc) (λ is. ((cc), (cc))) (both (cases_eq a x) (cases_eq b y))
same-parked (ObtainReady k l o a) (ObtainReady m n p x) =
    along (λ h. cc) (λ is. ((cc), ((cc), ((cc), (cc))))) (both (same-key k m) (both (same-key l n) (both (same-object o p) (cases_eq a x))))
same-parked ObtainCancelled ObtainCancelled = inl refl
same-parked (DelegateWait k) (DelegateWait l) = along (λ h. cc) (λ is. cc) (same-key k l)
same-parked (DelegateReady k l) (DelegateReady m n) = along (λ h. cc) (λ is. ((cc), (cc))) (both (same-key k m) (same-key l n))
same-parked (RevokeWait a) (RevokeWait x) = along (λ h. cc) (λ is. cc) (cases_eq a x)
same-parked (Ready a) (Ready x) = along (λ h. cc) (λ is. cc) (cases_eq a x)
same-parked p q = inr (λ is. absurd cc)

pub same-state : (p q : Option Parked) → Decided (p ≡ q)
same-state None None = inl refl
same-state (Some p) (Some q) = along (λ h. cc) (λ is. cc) (same-parked p q)
same-state p q = inr (λ is. absurd cc)
