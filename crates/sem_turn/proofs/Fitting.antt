-- Shares that fit a fabric, and what one turn makes of them.
use Rattle.std.proofs.Common.{◌≡◌, ◌≢◌, ℕ, ◌+◌, List, [], ◌∷◌, ◌++◌, refl, sym, ap, ◌∙◌, ⊎_elim, arith}
use Rattle.std.specs.Prelude.{All}
use Rattle.std.proofs.lemmas.List.Elements.{All-nil, All-cons, All-head, All-tail}
use Rattle.sem_msg.specs.declared.entry.Entry.{Entry}
use Rattle.sem_msg.specs.Journal.{part}
use Rattle.sem_msg.specs.Fabric.{FabricValue}
use Rattle.sem_msg.proofs.Moves.{part-other}
use Rattle.sem_turn.specs.declared.rule.Share.{Share}
use Rattle.sem_turn.specs.Passes.{has_place, MayFollow, Follows}
use Rattle.sem_turn.specs.Rule.{IsShareOf}
use Rattle.sem_turn.specs.Steps.{shares_in, rest_of, front_of}
use Rattle.sem_turn.proofs.Totals.{is_of, is_of_hit, shares_of, shares_of-cons}

-- the part of another kernel is not changed by what kernel k may enter
part-followed : (k : ℕ) (old new : List Entry) (n : ℕ) → MayFollow k old new → n ≢ k → part new n ≡ part old n
part-followed k old new n may apart =
    ⊎_elim
    (λ (same : new ≡ old). ap (λ J. part J n) same)
    (λ (more : (e : Entry) × (e.event.kernel ≡ k) × (new ≡ old ++ e ∷ [])). ap (λ J. part J n) more.2 ∙ part-other old more.0 n (λ is. apart (sym is ∙ more.1)))
    may

-- shares without kernel k fit on after what kernel k may do
pub fits-followed : (k : ℕ) (old new : FabricValue) (ps : List Share) → Follows k old new → shares_of k ps ≡ 0 → All (IsShareOf old) ps → All (IsShareOf new) ps
fits-followed k old new [] may none h = All-nil (IsShareOf new)
fits-followed k old new (p ∷ ps) may none h =
    let all = shares_of-cons k p ps in
    let first = All-head (IsShareOf old) p ps h in
    let apart : p.kernel ≢ k = λ same. absurd (let one = is_of_hit k p same in omega (arith, one, all, none)) in
    All-cons (IsShareOf new) p ps (first.0 ∙ sym (part-followed k old.journal new.journal p.kernel may.0 apart), λ placed. may.1 p.kernel apart ∙ first.1 placed)
    (fits-followed k old new ps may (omega (arith, all, none)) (All-tail (IsShareOf old) p ps h))

-- the shares that the fabric has fit it
pub fits-self : (f : FabricValue) (ps : List Share) → All (IsShareOf f) (shares_in f ps)
fits-self f [] = All-nil (IsShareOf f)
fits-self f (p ∷ ps) = All-cons (IsShareOf f) (record { kernel = p.kernel; entries = part f.journal p.kernel; placed = has_place f p.kernel }) (shares_in f ps)
    (refl, λ placed. placed) (fits-self f ps)

-- and they are of the same kernels
pub shares_of-in : (k : ℕ) (f : FabricValue) (ps : List Share) → shares_of k (shares_in f ps) ≡ shares_of k ps
shares_of-in k f [] = refl
shares_of-in k f (p ∷ ps) =
    let q : Share = record { kernel = p.kernel; entries = part f.journal p.kernel; placed = has_place f p.kernel } in
    shares_of-cons k q (shares_in f ps) ∙ (ap (λ n. is_of k p + n) (shares_of-in k f ps) ∙ sym (shares_of-cons k p ps))

-- one of two lists of shares that fit
pub fits-parts : (f : FabricValue) (ps qs : List Share) → All (IsShareOf f) (ps ++ qs) → All (IsShareOf f) ps × All (IsShareOf f) qs
fits-parts f [] qs h = (All-nil (IsShareOf f), h)
fits-parts f (p ∷ ps) qs h =
    let rest = fits-parts f ps qs (All-tail (IsShareOf f) p (ps ++ qs) h) in
    (All-cons (IsShareOf f) p ps (All-head (IsShareOf f) p (ps ++ qs) h) rest.0, rest.1)

pub fits-rest : (f : FabricValue) (ps : List Share) → All (IsShareOf f) ps → All (IsShareOf f) (rest_of ps)
fits-rest f [] h = h
fits-rest f (p ∷ ps) h = All-tail (IsShareOf f) p ps h

pub fits-front : (f : FabricValue) (ps : List Share) → All (IsShareOf f) ps → All (IsShareOf f) (front_of ps)
fits-front f [] h = h
fits-front f (p ∷ ps) h = All-cons (IsShareOf f) p [] (All-head (IsShareOf f) p ps h) (All-nil (IsShareOf f))

-- the shares of kernel k in both halves of a cut
pub shares_of-cut : (k : ℕ) (ps : List Share) → shares_of k (rest_of ps) + shares_of k (front_of ps) ≡ shares_of k ps
shares_of-cut k [] = refl
shares_of-cut k (p ∷ ps) = omega (arith, shares_of-cons k p ps, shares_of-cons k p [])
