-- The held marked keys and the jobs that have marked them, kept from entry to entry.
use Rattle.std.specs.Prelude.{◌≡◌, ◌↔◌, ◌⊎◌, ◌==◌, ◌&&◌, ℕ, Bool, false, not, List, [], ◌∷◌, Contains, Option, Some}
use Rattle.std.specs.Prelude.{None, IsSome}
use Rattle.std.specs.Option.{option_map, option_map_or, option_and_then}
use Rattle.sem_machine.specs.Prelude.{KeyName, Entry, Setup, owner_of, Side, cap, World, side}
use Rattle.sem_query.specs.declared.marked.Token.{Token}
use Rattle.sem_query.specs.Building.{returned}

-- the job that has marked the key, if the kernel holds it marked
abbrev pub mark_in : Side → KeyName → Option ℕ
mark_in s k = option_and_then (λ c. c.mark) (cap s k)

-- the same, at the kernel that owns the key
abbrev pub mark_at : Setup → World → KeyName → Option ℕ
mark_at T W k = mark_in (side W (owner_of T k)) k

abbrev pub has_mark_of : Setup → World → KeyName → ℕ → Bool
has_mark_of T W k j = option_map_or (λ m. m == j) (mark_at T W k) false

-- these are the held marked keys, with their jobs
abbrev pub AreAllMarked : Setup → World → List (KeyName × ℕ) → Type 0
AreAllMarked T W ms = (k : KeyName) (j : ℕ) → Contains ms (k, j) ↔ (mark_at T W k ≡ Some j)

-- the key with its job, if it is held marked
abbrev pub marking : Setup → World → KeyName → List (KeyName × ℕ)
marking T W k = option_map_or (λ j. (k, j) ∷ []) (mark_at T W k) []

-- A token that comes back.

-- the parent of the key with the job that has marked it, if the same kernel holds it marked
abbrev pub above_in : Side → KeyName → Option (KeyName × ℕ)
above_in s k =
    option_and_then (λ p. option_map (λ j. (p, j)) (mark_in s p))
    (option_and_then (λ c. c.parent) (cap s k))

-- the entry handles this token, and before it the job marks this key, below this parent
pub record IsToken (T : Setup) (W : World) (e : Entry) (t : Token) : Type 0 where
  pub comes_back : returned e.event.act e.detail ≡ Some t.job
  pub home : owner_of T t.key ≡ e.event.kernel
  pub marked : mark_at T W t.key ≡ Some t.job
  pub parent : t.above ≡ above_in (side W e.event.kernel) t.key

-- if a token comes back, its job marks nothing
abbrev pub IsIdleToken : Setup → World → Entry → Type 0
IsIdleToken T W e =
    (j : ℕ) (k : KeyName) → returned e.event.act e.detail ≡ Some j → owner_of T k ≡ e.event.kernel
    → mark_at T W k ≡ Some j → ⊥

-- what is known of a token before the entry
pub data IsSeen (T : Setup) (W : World) (e : Entry) : Option Token → Type 0 where
  idle : IsIdleToken T W e → IsSeen T W e None
  token : {t : Token} → IsToken T W e t → IsSeen T W e (Some t)

-- the job that marked the parent still marks it
abbrev pub IsBounded : Setup → World → Token → Type 0
IsBounded T V t = (p : KeyName) (j : ℕ) → t.above ≡ Some (p, j) → mark_at T V p ≡ Some j

-- Why a key marked by job j stays as it is with the entry; V is the world after the entry.
pub data StaysMarked
    (T : Setup) (V : World) (e : Entry) (o : Option Token) (k : KeyName) (j : ℕ) : Type 0 where
  no_token : o ≡ None → StaysMarked T V e o k j
  -- it is a key of another kernel
  elsewhere : (owner_of T k ≡ e.event.kernel → ⊥) → StaysMarked T V e o k j
  still_marked : mark_at T V k ≡ Some j → StaysMarked T V e o k j
  -- the job of the token still marks a key, so it is not finished
  still_open : (t : Token) → o ≡ Some t → mark_at T V t.key ≡ Some t.job → StaysMarked T V e o k j
  -- it is a key of another job, and only the token's job finishes
  of_other : (t : Token) → o ≡ Some t → (j ≡ t.job → ⊥) → IsBounded T V t
      → StaysMarked T V e o k j

-- whether the key counts as moved: one of kernel i and of that job, if one is given, otherwise one
-- of kernel i whose mark changed
abbrev pub is_swept : Setup → World → ℕ → Option ℕ → KeyName × ℕ → Bool
is_swept T V i only p =
    (owner_of T p.0 == i)
    && option_map_or (λ j. p.1 == j) only (not (has_mark_of T V p.0 p.1))

-- Marked keys are split into those that stay as they are and those that a token may take away.
pub record AreParted
    (T : Setup) (V : World) (e : Entry) (o : Option Token) (marked kept : List (KeyName × ℕ))
    (gone : List KeyName) : Type 0 where
  pub each : (k : KeyName) (j : ℕ) → Contains marked (k, j) → Contains kept (k, j) ⊎ Contains gone k
  pub stays : (k : KeyName) (j : ℕ) → Contains kept (k, j)
      → Contains marked (k, j) × StaysMarked T V e o k j
  pub goes : (k : KeyName) → Contains gone k
      → (j : ℕ) × Contains marked (k, j) × (owner_of T k ≡ e.event.kernel) × IsSome o
