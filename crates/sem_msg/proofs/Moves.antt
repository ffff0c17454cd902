-- What one entry more changes in the parts and in what was flushed and fetched, and what a link is after it was written.
use Rattle.std.proofs.Common.{◌≡◌, ◌≢◌, ℕ, cond, List, [], ◌∷◌, ◌++◌, get_or, sym, ◌∙◌, ap, subst, inl, inr, append-nil, eq-eqb}
use Rattle.std.specs.Prelude.{◌==◌}
use Rattle.std.proofs.lemmas.Bool.{cases_eq, ne_eqb, cond-true, cond-false}
use Rattle.std.proofs.lemmas.List.Elements.{filter-append}
use Rattle.sem_key.specs.Lists.{put}
use Rattle.sem_msg.specs.declared.message.Message.{Message}
use Rattle.sem_msg.specs.declared.event.Act.{Act}
use Rattle.sem_msg.specs.declared.entry.Detail.{Detail}
use Rattle.sem_msg.specs.declared.entry.Entry.{Entry}
use Rattle.sem_msg.specs.Journal.{part, message_in, is_flush_to, is_fetch_from, flushed, fetched}
use Rattle.sem_key.proofs.Puts.{get_or-put_same, get_or-put_other}
use Rattle.sem_msg.specs.Fabric.{link_in, link_put}
use Rattle.sem_msg.proofs.Snocs.{sifted-snoc}

-- The parts.

-- the part of the kernel whose entry it is
pub part-own : (J : List Entry) (e : Entry) (i : ℕ) → e.event.kernel ≡ i → part (J ++ e ∷ []) i ≡ part J i ++ e ∷ []
part-own J e i here = filter-append (λ (x : Entry). x.event.kernel == i) J (e ∷ [])
    ∙ ap (λ l. part J i ++ l) (cond-true (e.event.kernel == i) (e ∷ []) [] (eq-eqb e.event.kernel i here))

-- the parts of the others
pub part-other : (J : List Entry) (e : Entry) (i : ℕ) → e.event.kernel ≢ i → part (J ++ e ∷ []) i ≡ part J i
part-other J e i apart = filter-append (λ (x : Entry). x.event.kernel == i) J (e ∷ [])
    ∙ (ap (λ l. part J i ++ l) (cond-false (e.event.kernel == i) (e ∷ []) [] (ne_eqb e.event.kernel i apart)) ∙ append-nil (part J i))

-- What was flushed and fetched.

-- what kernel i sends to kernel j by an act
abbrev pub sends : ℕ → Act → Detail → ℕ → ℕ → List Message
sends k act detail i j = cond (is_flush_to j act) (cond (k == i) (message_in detail) []) []

-- what kernel j takes from kernel i by an act
abbrev pub takes : ℕ → Act → Detail → ℕ → ℕ → List Message
takes k act detail i j = cond (is_fetch_from i act) (cond (k == j) (message_in detail) []) []

pub flushed-snoc : (J : List Entry) (e : Entry) (i j : ℕ) → flushed (J ++ e ∷ []) i j ≡ flushed J i j ++ sends e.event.kernel e.event.act e.detail i j
flushed-snoc J e i j = sifted-snoc (λ (x : Entry). message_in x.detail) (λ (x : Entry). is_flush_to j x.event.act) (λ (x : Entry). x.event.kernel == i) J e

pub fetched-snoc : (J : List Entry) (e : Entry) (i j : ℕ) → fetched (J ++ e ∷ []) i j ≡ fetched J i j ++ takes e.event.kernel e.event.act e.detail i j
fetched-snoc J e i j = sifted-snoc (λ (x : Entry). message_in x.detail) (λ (x : Entry). is_fetch_from i x.event.act) (λ (x : Entry). x.event.kernel == j) J e

-- Links.

pub link_in-same : (links : List (List (List Message))) (i j : ℕ) (ms : List Message) → link_in (link_put i j ms links) i j ≡ ms
link_in-same links i j ms = ap (λ (row : List (List Message)). get_or row j []) (get_or-put_same [] links i (put [] (get_or links i []) j ms))
    ∙ get_or-put_same [] (get_or links i []) j ms

pub link_in-other : (links : List (List (List Message))) (i j a b : ℕ) (ms : List Message) → ((a ≡ i) × (b ≡ j) → ⊥) →
    link_in (link_put i j ms links) a b ≡ link_in links a b
link_in-other links i j a b ms other = elim (cases_eq a i) [
  | inr apart ↦ ap (λ (row : List (List Message)). get_or row b []) (get_or-put_other [] links i a (put [] (get_or links i []) j ms) apart)
  | inl same ↦ elim (cases_eq b j) [
    | inl to ↦ absurd (other (same, to))
    | inr apart ↦ subst (λ c. link_in (link_put i j ms links) c b ≡ link_in links c b) (sym same)
        (ap (λ (row : List (List Message)). get_or row b []) (get_or-put_same [] links i (put [] (get_or links i []) j ms))
        ∙ get_or-put_other [] (get_or links i []) j b ms apart)
  ]
]
