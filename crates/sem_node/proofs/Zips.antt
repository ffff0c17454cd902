-- Kernels beside their passes, one by one.
use Rattle.std.proofs.Common.{◌≡◌, ℕ, zero, suc, ◌+◌, ◌<◌, ◌≤◌, List, [], ◌∷◌, ◌++◌, map, None, refl, sym, ap, ◌∙◌, subst, arith}
use Rattle.std.specs.Prelude.{All}
use Rattle.std.specs.List.{range_with_len, AllZip}
use Rattle.std.proofs.lemmas.List.Elements.{All-nil, All-cons}
use Rattle.sem_msg.specs.Setup.{Setup, IsSetup}
use Rattle.sem_sound.proofs.Starting.{start-sound}
use Rattle.sem_kernel.specs.KernelValue.{KernelValue}
use Rattle.sem_kernel.specs.Worlds.{booted}
use Rattle.sem_turn.specs.Passes.{PassValue, new_pass, new_passes}
use Rattle.sem_parts.proofs.LocalRuns.{runs-start}
use Rattle.sem_node.specs.Running.{HasRun}

-- the last of both lists
pub zip_snoc : {A B : Type 0} (R : A → B → Type 0) (xs : List A) (ys : List B) (x : A) (y : B) → AllZip R (xs ++ x ∷ []) (ys ++ y ∷ []) → AllZip R xs ys × R x y
zip_snoc R [] [] x y h = (tt, h.0)
zip_snoc R [] (b ∷ []) x y h = absurd (h.1)
zip_snoc R [] (b ∷ c ∷ ys) x y h = absurd (h.1)
zip_snoc R (a ∷ []) [] x y h = absurd (h.1)
zip_snoc R (a ∷ d ∷ xs) [] x y h = absurd (h.1)
zip_snoc R (a ∷ xs) (b ∷ ys) x y h = let r = zip_snoc R xs ys x y h.1 in ((h.0, r.0), r.1)

-- both lists with one more
pub zip_push : {A B : Type 0} (R : A → B → Type 0) (xs : List A) (ys : List B) (x : A) (y : B) → AllZip R xs ys → R x y → AllZip R (xs ++ x ∷ []) (ys ++ y ∷ [])
zip_push R [] [] x y h r = (r, tt)
zip_push R [] (b ∷ ys) x y h r = absurd h
zip_push R (a ∷ xs) [] x y h r = absurd h
zip_push R (a ∷ xs) (b ∷ ys) x y h r = (h.0, zip_push R xs ys x y h.1 r)

-- the same, where they are told so
pub zip_pushed : {A B : Type 0} (R : A → B → Type 0) (xs us : List A) (ys vs : List B) (x : A) (y : B) → us ≡ xs ++ x ∷ [] → vs ≡ ys ++ y ∷ [] →
    AllZip R xs ys → R x y → AllZip R us vs
zip_pushed {A = A} {B = B} R xs us ys vs x y a b h r = subst (λ (z : List A × List B). AllZip R z.0 z.1) (λ i. (sym a i, sym b i)) (zip_push R xs ys x y h r)

-- no passes of no kernels
pub zip_some : {A B : Type 0} (R : A → B → Type 0) (xs : List A) (x : A) → AllZip R (xs ++ x ∷ []) [] → ⊥
zip_some R [] x h = h
zip_some R (a ∷ xs) x h = h

-- a new kernel and a new pass
new-run : (T : Setup) (k : ℕ) → IsSetup T → k < T.kernels → HasRun T (booted T k) (new_pass k)
new-run T k valid few = record { valid = valid; setup = refl; id = refl; few = few; runs = runs-start T k; sound = start-sound T valid k few }

zip_new : (T : Setup) (a n : ℕ) → IsSetup T → a + n ≤ T.kernels → AllZip (HasRun T) (map (booted T) (range_with_len a n)) (map new_pass (range_with_len a n))
zip_new T a zero valid most = tt
zip_new T a (suc n) valid most = (new-run T a valid (omega (arith, most)), zip_new T (a + 1) n valid (omega (arith, most)))

free_new : (a n : ℕ) → All (λ (p : PassValue). p.taken ≡ None) (map new_pass (range_with_len a n))
free_new a zero = All-nil (λ (p : PassValue). p.taken ≡ None)
free_new a (suc n) = All-cons (λ (p : PassValue). p.taken ≡ None) (new_pass a) (map new_pass (range_with_len (a + 1) n)) refl (free_new (a + 1) n)

-- all kernels at the start, with the passes that the turn gives
pub starts : (T U : Setup) (ks : List KernelValue) (ps : List PassValue) → IsSetup T → T ≡ U → ks ≡ map (booted T) (range_with_len 0 T.kernels) →
    ps ≡ new_passes U.kernels
    → AllZip (HasRun U) ks ps
starts T U ks ps valid same k p =
    subst (λ (x : List KernelValue × List PassValue). AllZip (HasRun U) x.0 x.1)
    (λ i. (sym (k ∙ ap (λ (S : Setup). map (booted S) (range_with_len 0 S.kernels)) same) i, sym p i))
    (zip_new U 0 U.kernels (subst IsSetup same valid) (omega arith))

pub starts_free : (n : ℕ) (ps : List PassValue) → ps ≡ new_passes n → All (λ (p : PassValue). p.taken ≡ None) ps
starts_free n ps p = subst (All (λ (q : PassValue). q.taken ≡ None)) (sym p) (free_new 0 n)
