-- Odd numbers.
use Rattle.std.proofs.Common.{◌≡◌, ℕ, zero, suc, ◌==◌, refl, ap, arith, ◌∙◌}
use Rattle.std.specs.Prelude.{◌%◌}
use Rattle.std.proofs.Math.Bool.{not-not}
use Rattle.sem_query.specs.Lives.{is_odd}

rest-two : (n : ℕ) → (suc (suc n)) % 2 ≡ n % 2
rest-two n = omega arith

-- a number is odd where 1 is left of it by 2
pub odd-rest : (n : ℕ) → is_odd n ≡ (n % 2 == 1)
odd-rest zero = refl
odd-rest (suc zero) = refl
odd-rest (suc (suc n)) = not-not (is_odd n) ∙ (odd-rest n ∙ ap (λ m. m == 1) (omega (arith, rest-two n)))
