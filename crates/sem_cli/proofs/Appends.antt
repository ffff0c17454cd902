-- What is appended piece by piece.
use Rattle.std.proofs.Common.{◌≡◌, List, ◌++◌, append_assoc}

module _ {X : Type 0} where
  -- four appends
  pub four-appended : (a b c d e n l t z w : List X) → b ≡ a ++ n → c ≡ b ++ l → d ≡ c ++ t → t ≡ z → e ≡ d ++ w → e ≡ a ++ (n ++ l ++ z ++ w)
  four-appended a b c d e n l t z w h i j m k = rw (k, j, m, i, h) (simp append_assoc)

  -- two appends, of which the second is of four pieces
  pub two-appended : (a b c n l : List X) → b ≡ a ++ n → c ≡ b ++ l → c ≡ a ++ (n ++ l)
  two-appended a b c n l h i = rw (i, h) (append_assoc a n l)

  -- three appends
  pub three-appended : (a b c d n l s : List X) → b ≡ a ++ n → c ≡ b ++ l → d ≡ c ++ s → d ≡ a ++ (n ++ l ++ s)
  three-appended a b c d n l s h i j = rw (j, i, h) (simp append_assoc)

  -- the second append is of two pieces
  pub ending-appended : (a b c d e n l s t u w z : List X) → b ≡ a ++ (n ++ l ++ s) → c ≡ b ++ (t ++ u) → d ≡ c ++ w → e ≡ d ++ z →
      e ≡ a ++ (n ++ l ++ s ++ t ++ u ++ w ++ z)
  ending-appended a b c d e n l s t u w z h i j k = rw (k, j, i, h) (simp append_assoc)

  -- five appends, of which the first is of three pieces
  pub seven-appended : (a b c d e f n l s x t w z : List X) → b ≡ a ++ (n ++ l ++ s) → c ≡ b ++ x → d ≡ c ++ t → e ≡ d ++ w → f ≡ e ++ z →
      f ≡ a ++ (n ++ l ++ s ++ x ++ t ++ w ++ z)
  seven-appended a b c d e f n l s x t w z h i j k m = rw (m, k, j, i, h) (simp append_assoc)

  -- five appends in a row
  pub summed : (a b c d e f n l s t w : List X) → b ≡ a ++ n → c ≡ b ++ l → d ≡ c ++ s → e ≡ d ++ t → f ≡ e ++ w → f ≡ a ++ (n ++ l ++ s ++ t ++ w)
  summed a b c d e f n l s t w h i j k m = rw (m, k, j, i, h) (simp append_assoc)
