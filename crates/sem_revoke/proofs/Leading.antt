-- Where the link from an unmarked capability leads: what a change of a side does to one link, and to the key that it leads to.
use Rattle.std.proofs.Common.{◌≡◌, ◌⊎◌, ℕ, get_or, Bool, true, false, not, List, [], ◌∷◌, filter, map, Option, Some, None, is_some, refl, sym, ap, ◌∙◌, subst}
use Rattle.std.proofs.Common.{inl, inr}
use Rattle.std.specs.Prelude.{if◌then◌else◌}
use Rattle.std.specs.List.{Contains}
use Rattle.std.proofs.lemmas.Bool.{cases_Bool, cond_both, true≢false}
use Rattle.std.proofs.lemmas.List.Elements.{Contains-append_cases, Contains-append_left, Contains-append_right}
use Rattle.sem_key.specs.declared.object.Object.{Object}
use Rattle.sem_key.specs.KeyName.{KeyName, key_eq, key_lt}
use Rattle.sem_key.specs.KeyList
use Rattle.sem_key.specs.KeyList.{with_key}
use Rattle.sem_key.specs.Region.{has_key}
use Rattle.sem_key.specs.Capability.{Capability}
use Rattle.sem_key.specs.CapList
use Rattle.sem_key.specs.CapList.{fresh}
use Rattle.sem_key.proofs.KeySets.{with_key-from}
use Rattle.sem_key.proofs.KeyTests.{key_eq-true, key_eq-same, key_eq-from, Contains-from_has_key, has_key-from_Contains}
use Rattle.sem_key.proofs.Members.{Contains-cons_cases, Contains-from_filter, Contains-from_map, Contains-map, Contains-filter, Contains-tail}
use Rattle.sem_msg.specs.declared.message.Message.{Message}
use Rattle.sem_msg.specs.declared.message.Message.TheVariants.{Unlink}
use Rattle.sem_machine.specs.Sides.{Side, outbox, linked, unlinked, installed, send}
use Rattle.sem_revoke.proofs.Pendings.{outbox-more}
use Rattle.sem_revoke.proofs.Steady.{IsSteady, unlinked-steady}

-- the side has a capability of the key
abbrev pub Has : KeyName → Side → Type 0
Has k t = (c : Capability) × Contains t.caps c × (c.key ≡ k)

-- where the side has an unmarked capability of p that leads to k, Was is so
abbrev pub Linking : KeyName → KeyName → Type 0 → Side → Type 0
Linking p k Was t = (c : Capability) → Contains t.caps c → c.key ≡ p → c.mark ≡ None → has_key c.children k ≡ true → Was

-- a capability of k names p as its parent
abbrev pub Below : KeyName → KeyName → Side → Type 0
Below p k t = (c : Capability) → Contains t.caps c → c.key ≡ k → c.parent ≡ Some p

-- What is kept by each change that is no part of a revoke. G tells which links may be made.
pub record IsKept (G : KeyName → KeyName → Type 0) (P : Side → Type 0) : Type 0 where
  pub other : (s t : Side) → t.caps ≡ s.caps → t.outs ≡ s.outs → P s → P t
  pub sends : (t : Side) (j : ℕ) (m : Message) → P t → P (send j m t)
  pub links : (t : Side) (q r : KeyName) → G q r → P t → P (linked q r t)
  pub installs : (t : Side) (r : KeyName) (parent : Option KeyName) (sel : ℕ) (object : Object) → P t → P (installed r parent sel object t)
  pub unlinks : (t : Side) (q r : KeyName) → P t → P (unlinked q r t)

-- what comes of what is not marked was not
unmarked-was : (m n : Option ℕ) → (is_some m ≡ true → is_some n ≡ true) → n ≡ None → m ≡ None
unmarked-was None n marks none = refl
unmarked-was (Some j) None marks none = let no' : false ≡ true = marks refl in absurd cc
unmarked-was (Some j) (Some q) marks none = absurd cc

-- where one of two is chosen, and it is the one
chosen : {X : Type 0} (b : Bool) (x y z : X) → (if b then x else y) ≡ z → ((b ≡ true) × (x ≡ z)) ⊎ ((b ≡ false) × (y ≡ z))
chosen true x y z is = inl (refl, is)
chosen false x y z is = inr (refl, is)

module _ (p k : KeyName) (Was : Type 0) where
  -- what is restored leads to nothing
  linking-restored : (t : Side) (root : KeyName) → Linking p k Was t → Linking p k Was (record t { caps = CapList.restored t.caps root })
  linking-restored t root is c there key unmarked child =
      let f : Capability → Capability = λ d. record d { children = []; mark = None } in
      let d = Contains-from_map (λ (y : Capability). if key_eq y.key root then f y else y) t.caps c there in
      elim (chosen (key_eq d.0.key root) (f d.0) d.0 c d.2) [
        | inl (at, same) ↦ (let no' : false ≡ true = ap (λ (y : Capability). has_key y.children k) same ∙ child in absurd cc)
        | inr (off, same) ↦ is d.0 d.1 (ap (λ (y : Capability). y.key) same ∙ key) (ap (λ (y : Capability). y.mark) same
            ∙ unmarked) (ap (λ (y : Capability). has_key y.children k) same ∙ child)
      ]

  pub linking-steady : IsSteady (Linking p k Was)
  linking-steady = record {
    caps = λ t cs thin is c among key unmarked child. let d = thin c among in
        is d.0 d.1 (sym d.2.key ∙ key) (unmarked-was d.0.mark c.mark d.2.marks unmarked) (d.2.children k child);
    restores = λ u t x was among keeps is. linking-restored t x.root is;
    bound = λ t es is. is;
    jobs = λ t js less is. is;
    opens = λ t root up ws is. is;
    frees = λ t v sel is. is;
    wakes = λ t v is. is;
    sends = λ t j m loud is. is;
  }

  -- a link that is made is another one
  linking-linked : (t : Side) (q r : KeyName) → (q ≡ p → r ≡ k → ⊥) → Linking p k Was t → Linking p k Was (linked q r t)
  linking-linked t q r apart is c there key unmarked child =
      let f : Capability → Capability = λ d. record d { children = with_key d.children r } in
      let d = Contains-from_map (λ (y : Capability). if key_eq y.key q then f y else y) t.caps c there in
      elim (chosen (key_eq d.0.key q) (f d.0) d.0 c d.2) [
        | inr (off, same) ↦ is d.0 d.1 (ap (λ (y : Capability). y.key) same ∙ key) (ap (λ (y : Capability). y.mark) same
            ∙ unmarked) (ap (λ (y : Capability). has_key y.children k) same ∙ child)
        | inl (at, same) ↦
            let here : d.0.key ≡ p = ap (λ (y : Capability). y.key) same ∙ key in
            let more : has_key (with_key d.0.children r) k ≡ true = ap (λ (y : Capability). has_key y.children k) same ∙ child in
            elim (with_key-from d.0.children r k (Contains-from_has_key (with_key d.0.children r) k more)) [
              | inl is_k ↦ absurd (apart (sym (key_eq-true d.0.key q at) ∙ here) is_k)
              | inr before ↦ is d.0 d.1 here (ap (λ (y : Capability). y.mark) same ∙ unmarked) (has_key-from_Contains d.0.children k before)
            ]
      ]

  linking-installed : (t : Side) (r : KeyName) (parent : Option KeyName) (sel : ℕ) (object : Object) → Linking p k Was t
      → Linking p k Was (installed r parent sel object t)
  linking-installed t r parent sel object is c among key unmarked child =
      elim (Contains-append_cases (filter (λ x. key_lt x.key r) t.caps) (fresh r parent sel object ∷ filter (λ x. not (key_lt x.key r)) t.caps) c among) [
        | inl before ↦ is c (Contains-from_filter (λ (x : Capability). key_lt x.key r) t.caps c before).0 key unmarked child
        | inr rest ↦ elim (Contains-cons_cases (fresh r parent sel object) (filter (λ x. not (key_lt x.key r)) t.caps) c rest) [
          | inl same ↦ let no' : false ≡ true = ap (λ (y : Capability). has_key y.children k) same ∙ child in absurd cc
          | inr after ↦ is c (Contains-from_filter (λ (x : Capability). not (key_lt x.key r)) t.caps c after).0 key unmarked child
        ]
      ]

  -- where no link from p to k is made
  pub linking-kept : (G : KeyName → KeyName → Type 0) → ((q r : KeyName) → G q r → q ≡ p → r ≡ k → ⊥) → IsKept G (Linking p k Was)
  linking-kept G apart = record {
    other = λ s t caps outs is c among. is c (subst (λ cs. Contains cs c) caps among);
    sends = λ t j m is. is;
    links = λ t q r link is. linking-linked t q r (apart q r link) is;
    installs = linking-installed;
    unlinks = λ t q r is. unlinked-steady (Linking p k Was) linking-steady q r t is;
  }

  -- once a link is gone
  pub linking-cut : (t : Side) → Linking p k Was (unlinked p k t)
  linking-cut t c there key unmarked child =
      let f : Capability → Capability = λ d. record d { children = KeyList.without_key d.children k } in
      let d = Contains-from_map (λ (y : Capability). if key_eq y.key p then f y else y) t.caps c there in
      elim (chosen (key_eq d.0.key p) (f d.0) d.0 c d.2) [
        | inl (at, same) ↦
            let more : has_key (KeyList.without_key d.0.children k) k ≡ true = ap (λ (y : Capability). has_key y.children k) same ∙ child in
            let kept = Contains-from_filter (λ x. not (key_eq x k)) d.0.children k (Contains-from_has_key (KeyList.without_key d.0.children k) k more) in
            absurd (true≢false (sym kept.1 ∙ ap not (key_eq-same k)))
        | inr (off, same) ↦ absurd (true≢false (sym (key_eq-from d.0.key p (ap (λ (y : Capability). y.key) same ∙ key)) ∙ off))
      ]

-- What is so once the key is gone: an Unlink for its parent waits to be sent, or the parent is near and leads to it no more, or E.
module _ (p k : KeyName) (j : ℕ) (Near E : Type 0) where
  abbrev pub Off : Side → Type 0
  Off t = Contains (outbox t j) (Unlink p k) ⊎ ((Near × Linking p k ⊥ t) ⊎ E)

  onto : (s t : Side) → (Contains (outbox s j) (Unlink p k) → Contains (outbox t j) (Unlink p k)) → (Linking p k ⊥ s → Linking p k ⊥ t) → Off s → Off t
  onto s t sent cut (inl is) = inl (sent is)
  onto s t sent cut (inr (inl (near, is))) = inr (inl (near, cut is))
  onto s t sent cut (inr (inr is)) = inr (inr is)

  abbrev cut-steady : IsSteady (Linking p k ⊥)
  cut-steady = linking-steady p k ⊥

  pub off-steady : IsSteady Off
  off-steady = record {
    caps = λ t cs thin is. onto t (record t { caps = cs }) (λ sent. sent) (λ cut. cut-steady.caps t cs thin cut) is;
    restores = λ u t x was among keeps is. onto t (record t { caps = CapList.restored t.caps x.root }) (λ sent. sent)
        (λ cut. linking-restored p k ⊥ t x.root cut) is;
    bound = λ t es is. is;
    jobs = λ t js less is. is;
    opens = λ t root up ws is. is;
    frees = λ t v sel is. is;
    wakes = λ t v is. is;
    sends = λ t n m loud is. onto t (send n m t) (λ sent. outbox-more t n j m (Unlink p k) sent) (λ cut. cut) is;
  }

  pub off-kept : (G : KeyName → KeyName → Type 0) → ((q r : KeyName) → G q r → q ≡ p → r ≡ k → ⊥) → IsKept G Off
  off-kept G apart = let C = linking-kept p k ⊥ G apart in record {
    other = λ s t caps outs is. onto s t (λ sent. subst (λ xs. Contains (get_or xs j []) (Unlink p k)) (sym outs) sent) (λ cut. C.other s t caps outs cut) is;
    sends = λ t n m is. onto t (send n m t) (λ sent. outbox-more t n j m (Unlink p k) sent) (λ cut. cut) is;
    links = λ t q r link is. onto t (linked q r t) (λ sent. sent) (λ cut. C.links t q r link cut) is;
    installs = λ t r parent sel object is. onto t (installed r parent sel object t) (λ sent. sent) (λ cut. C.installs t r parent sel object cut) is;
    unlinks = λ t q r is. onto t (unlinked q r t) (λ sent. sent) (λ cut. C.unlinks t q r cut) is;
  }

-- what a side has it has on
module _ (k : KeyName) where
  -- where each capability stands on with its key
  pub has-mapped : (test : Capability → Bool) (f : Capability → Capability) → ((c : Capability) → (f c).key ≡ c.key) → (xs : List Capability)
      → (c : Capability) × Contains xs c × (c.key ≡ k) → (d : Capability) × Contains (map (λ y. if test y then f y else y) xs) d × (d.key ≡ k)
  has-mapped test f same xs (c, among, key) = (
    if test c then f c else c,
    Contains-map (λ (y : Capability). if test y then f y else y) xs c among,
    cond_both (test c) (f c) c (λ (y : Capability). y.key ≡ c.key) (λ _. same c) (λ _. refl) ∙ key,
  )

  has-installed : (t : Side) (r : KeyName) (parent : Option KeyName) (sel : ℕ) (object : Object) → Has k t → Has k (installed r parent sel object t)
  has-installed t r parent sel object (c, among, key) = (
    c,
    elim (cases_Bool (key_lt c.key r)) [
      | inl less ↦ Contains-append_left (filter (λ x. key_lt x.key r) t.caps) (fresh r parent sel object ∷ filter (λ x. not (key_lt x.key r)) t.caps) c
          (Contains-filter (λ (x : Capability). key_lt x.key r) t.caps c among less)
      | inr more ↦ Contains-append_right (filter (λ x. key_lt x.key r) t.caps) (fresh r parent sel object ∷ filter (λ x. not (key_lt x.key r)) t.caps) c
          (Contains-tail (fresh r parent sel object) (filter (λ x. not (key_lt x.key r)) t.caps) c
          (Contains-filter (λ (x : Capability). not (key_lt x.key r)) t.caps c among (ap not more)))
    ],
    key,
  )

  pub has-kept : (G : KeyName → KeyName → Type 0) → IsKept G (Has k)
  has-kept G = record {
    other = λ s t caps outs (c, among, key). (c, subst (λ cs. Contains cs c) (sym caps) among, key);
    sends = λ t j m is. is;
    links = λ t q r link is. has-mapped (λ c. key_eq c.key q) (λ c. record c { children = with_key c.children r }) (λ c. refl) t.caps is;
    installs = has-installed;
    unlinks = λ t q r is. has-mapped (λ c. key_eq c.key q) (λ c. record c { children = KeyList.without_key c.children r }) (λ c. refl) t.caps is;
  }

-- either is kept, if each is
pub either-kept : (G : KeyName → KeyName → Type 0) (P Q : Side → Type 0) → IsKept G P → IsKept G Q → IsKept G (λ t. P t ⊎ Q t)
either-kept G P Q A B = record {
  other = λ s t caps outs is. elim is [ inl one ↦ inl (A.other s t caps outs one) | inr two ↦ inr (B.other s t caps outs two) ];
  sends = λ t j m is. elim is [ inl one ↦ inl (A.sends t j m one) | inr two ↦ inr (B.sends t j m two) ];
  links = λ t q r link is. elim is [ inl one ↦ inl (A.links t q r link one) | inr two ↦ inr (B.links t q r link two) ];
  installs = λ t r parent sel object is. elim is [
    | inl one ↦ inl (A.installs t r parent sel object one)
    | inr two ↦ inr (B.installs t r parent sel object two)
  ];
  unlinks = λ t q r is. elim is [ inl one ↦ inl (A.unlinks t q r one) | inr two ↦ inr (B.unlinks t q r two) ];
}

-- the parent that a capability names stays
pub below-steady : (p k : KeyName) → IsSteady (Below p k)
below-steady p k = record {
  caps = λ t cs thin is c among key. let d = thin c among in d.2.parent ∙ is d.0 d.1 (sym d.2.key ∙ key);
  restores = λ u t x was among keeps is c there key.
      let f : Capability → Capability = λ d. record d { children = []; mark = None } in
      let d = Contains-from_map (λ (y : Capability). if key_eq y.key x.root then f y else y) t.caps c there in
      let e : Capability = if key_eq d.0.key x.root then f d.0 else d.0 in
      let same : (e.key ≡ d.0.key) × (e.parent ≡ d.0.parent) =
      cond_both (key_eq d.0.key x.root) (f d.0) d.0 (λ (y : Capability). (y.key ≡ d.0.key) × (y.parent ≡ d.0.parent)) (λ _. (refl, refl)) (λ _. (refl, refl)) in
      ap (λ (y : Capability). y.parent) (sym d.2) ∙ (same.1 ∙ is d.0 d.1 (sym same.0 ∙ (ap (λ (y : Capability). y.key) d.2 ∙ key)));
  bound = λ t es is. is;
  jobs = λ t js less is. is;
  opens = λ t root up ws is. is;
  frees = λ t v sel is. is;
  wakes = λ t v is. is;
  sends = λ t j m loud is. is;
}
