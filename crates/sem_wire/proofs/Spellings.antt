-- The bytes of rows, and the rows of bytes.
use Rattle.std.proofs.Common.{◌≡◌, ℕ, zero, suc, ◌+◌, ◌*◌, ◌^◌, ◌<◌, ◌≤◌, ◌/◌, ◌%◌, List, [], ◌∷◌, ◌++◌, length, take, drop, slice_index, append-nil, refl, sym}
use Rattle.std.proofs.Common.{ap, ◌∙◌, arith}
use Rattle.std.specs.Int.{byte_at, bytes_high_first}
use Rattle.byteorder.specs.Endian.{big_from, big_number, big_bytes}
use Rattle.byteorder.specs.Numbers.{big_from-cons, big_from-lt, big_number-reads_back}
use Rattle.std.proofs.Math.Nat.{div-one, mod-eq_of_lt, mod-lt, mul-add-mod_self_right, one-le-pow, pow-succ'}
use Rattle.std.proofs.Math.Arith.{mod-mul}
use Rattle.std.proofs.Math.ListN.{drop_of_length-le}
use Rattle.std.proofs.lemmas.Nat.{div-mul-add, mod-mul-add}
use Rattle.std.proofs.lemmas.List.{drop-drop, length-drop, take-append-drop, get_or-drop}
use Rattle.sem_wire.specs.declared.rows.Rows.{Rows}
use Rattle.sem_wire.specs.Records.{spelled, rows_in}
use Rattle.sem_wire.proofs.SameRows.{same_rows}

-- numbers that their rows have room for
pub record AreWide (r : Rows) : Type 0 where
  pub vpe : r.vpe < 256 ^ 2
  pub index : r.index < 256 ^ 2
  pub after_index : r.after_index < 256 ^ 2
  pub first : r.first < 256 ^ 8
  pub second : r.second < 256 ^ 8
  pub job : r.job < 256 ^ 4
  pub after_kind : r.after_kind < 256 ^ 3
  pub main : r.main < 256 ^ 8
  pub more : r.more < 256 ^ 8
  pub last : r.last < 256 ^ 8
  pub after_last : r.after_last < 256 ^ 8

-- what was spelled is read
pub rows_again : (r : Rows) → AreWide r → rows_in (spelled r) ≡ r
rows_again r w =
    let bytes : List ℕ = spelled r in
    same_rows (rows_in bytes) r refl refl
    (big_number-reads_back 2 r.vpe (drop 4 bytes) w.vpe)
    (big_number-reads_back 2 r.index (drop 6 bytes) w.index)
    (big_number-reads_back 2 r.after_index (drop 8 bytes) w.after_index)
    (big_number-reads_back 8 r.first (drop 16 bytes) w.first)
    (big_number-reads_back 8 r.second (drop 24 bytes) w.second)
    (big_number-reads_back 4 r.job (drop 28 bytes) w.job)
    refl
    (big_number-reads_back 3 r.after_kind (drop 32 bytes) w.after_kind)
    (big_number-reads_back 8 r.main (drop 40 bytes) w.main)
    (big_number-reads_back 8 r.more (drop 48 bytes) w.more)
    (big_number-reads_back 8 r.last (drop 56 bytes) w.last)
    (big_number-reads_back 8 r.after_last [] w.after_last)

-- ---- bytes of their own number

abbrev pub AreBytes : List ℕ → Type 0
AreBytes bytes = (i : ℕ) → slice_index bytes i < 256

pub bytes_drop : (n : ℕ) (bytes : List ℕ) → AreBytes bytes → AreBytes (drop n bytes)
bytes_drop n bytes h i = rw get_or-drop (h (n + i))

byte_is : (k x : ℕ) → byte_at k x ≡ x / 256 ^ k % 256
byte_is zero x = ap (λ (y : ℕ). y % 256) (sym (div-one x))
byte_is (suc k) x = refl

-- the digits of a number to the base c
digits : (a b c u v : ℕ) → u < c → v < c → a * c + u ≡ b * c + v → (a ≡ b) × (u ≡ v)
digits a b c u v p q e =
    (sym (div-mul-add a c u p) ∙ ap (λ x. x / c) e ∙ div-mul-add b c v q, sym (mod-mul-add a c u p) ∙ ap (λ x. x % c) e ∙ mod-mul-add b c v q)

power : (n : ℕ) → zero < 256 ^ n
power n = let h = one-le-pow n 256 (omega arith) in omega arith

-- the low bytes are those of the number below their place
same_low : (n x y : ℕ) → x % 256 ^ n ≡ y % 256 ^ n → bytes_high_first n x ≡ bytes_high_first n y
same_low zero x y e = refl
same_low (suc n) x y e =
    let c : ℕ = 256 ^ n in
    let split : (z : ℕ) → z % 256 ^ suc n ≡ z / c % 256 * c + z % c = λ z. ap (λ m. z % m) (pow-succ' 256 n) ∙ mod-mul z (omega arith) (power n) in
    let d = digits (x / c % 256) (y / c % 256) c (x % c) (y % c) (mod-lt x (power n)) (mod-lt y (power n)) (sym (split x) ∙ e ∙ split y) in
    λ i. (byte_is n x ∙ d.0 ∙ sym (byte_is n y)) i ∷ same_low n x y d.1 i

-- the first n bytes are those of the number in them
pub bytes_again : (n : ℕ) (bytes : List ℕ) → n ≤ length bytes → AreBytes bytes → big_bytes n (big_number n bytes) ≡ take n bytes
bytes_again zero bytes long h = refl
bytes_again (suc n) [] long h = absurd (omega (arith, long))
bytes_again (suc n) (b ∷ bytes) long h =
    let more = bytes_drop 1 (b ∷ bytes) h in
    let rest : ℕ = big_from 0 n bytes in
    let small : rest < 256 ^ n = big_from-lt 0 n bytes more in
    let number : big_from 0 (suc n) (b ∷ bytes) ≡ b * 256 ^ n + rest = ap (λ x. b * 256 ^ n + x) (big_from-cons 0 n b bytes) in
    let top : byte_at n (b * 256 ^ n + rest) ≡ b = byte_is n (b * 256 ^ n + rest) ∙ ap (λ x. x % 256) (div-mul-add b (256 ^ n) rest small)
    ∙ mod-eq_of_lt (h 0) in
    let low : bytes_high_first n (b * 256 ^ n + rest) ≡ bytes_high_first n rest =
    same_low n (b * 256 ^ n + rest) rest (mul-add-mod_self_right b (256 ^ n) rest) in
    let tail = low ∙ bytes_again n bytes (omega (arith, long)) more in
    ap (bytes_high_first (suc n)) number ∙ (λ i. top i ∷ tail i)

-- a row and what is behind it
row_again : (n at : ℕ) (bytes : List ℕ) → at + n ≤ length bytes → AreBytes bytes →
    big_bytes n (big_number n (drop at bytes)) ++ drop (at + n) bytes ≡ drop at bytes
row_again n at bytes long h =
    let front = bytes_again n (drop at bytes) (omega (arith, long, length-drop at bytes)) (bytes_drop at bytes h) in
    rw (front, ← drop-drop n at bytes) (take-append-drop n (drop at bytes))

byte_again : (at : ℕ) (bytes : List ℕ) → at < length bytes → slice_index bytes at ∷ drop (suc at) bytes ≡ drop at bytes
byte_again at [] short = absurd (omega (arith, short))
byte_again zero (b ∷ bytes) short = refl
byte_again (suc at) (b ∷ bytes) short = byte_again at bytes (omega (arith, short))

-- what was read is spelled
pub spelled_again : (bytes : List ℕ) → length bytes ≡ 64 → AreBytes bytes → spelled (rows_in bytes) ≡ bytes
spelled_again bytes long h =
    let row : (n at : ℕ) → at + n ≤ 64 → big_bytes n (big_number n (drop at bytes)) ++ drop (at + n) bytes ≡ drop at bytes =
    λ n at le. row_again n at bytes (omega (arith, le, long)) h in
    let byte : (at : ℕ) → at < 64 → slice_index bytes at ∷ drop (suc at) bytes ≡ drop at bytes = λ at lt. byte_again at bytes (omega (arith, lt, long)) in
    let s : Rows = rows_in bytes in
    let at56 : big_bytes 8 s.after_last ≡ drop 56 bytes = sym (append-nil _)
    ∙ ap (λ x. big_bytes 8 s.after_last ++ x) (sym (drop_of_length-le bytes {i = 64} (omega (arith, long)))) ∙ row 8 56 (omega arith) in
    let at48 = ap (λ x. big_bytes 8 s.last ++ x) at56 ∙ row 8 48 (omega arith) in
    let at40 = ap (λ x. big_bytes 8 s.more ++ x) at48 ∙ row 8 40 (omega arith) in
    let at32 = ap (λ x. big_bytes 8 s.main ++ x) at40 ∙ row 8 32 (omega arith) in
    let at29 = ap (λ x. big_bytes 3 s.after_kind ++ x) at32 ∙ row 3 29 (omega arith) in
    let at28 = ap (λ x. s.kind ∷ x) at29 ∙ byte 28 (omega arith) in
    let at24 = ap (λ x. big_bytes 4 s.job ++ x) at28 ∙ row 4 24 (omega arith) in
    let at16 = ap (λ x. big_bytes 8 s.second ++ x) at24 ∙ row 8 16 (omega arith) in
    let at8 = ap (λ x. big_bytes 8 s.first ++ x) at16 ∙ row 8 8 (omega arith) in
    let at6 = ap (λ x. big_bytes 2 s.after_index ++ x) at8 ∙ row 2 6 (omega arith) in
    let at4 = ap (λ x. big_bytes 2 s.index ++ x) at6 ∙ row 2 4 (omega arith) in
    let at2 = ap (λ x. big_bytes 2 s.vpe ++ x) at4 ∙ row 2 2 (omega arith) in
    let at1 = ap (λ x. s.form ∷ x) at2 ∙ byte 1 (omega arith) in
    ap (λ x. s.tag ∷ x) at1 ∙ byte 0 (omega arith)
