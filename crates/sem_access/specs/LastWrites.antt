-- Which entry wrote an address last, and what a range tells of that ("What memory holds" in
-- docs/machine.md).
use Rattle.std.specs.Prelude.{ℕ, ◌+◌, max, nat_lt, nat_le, Bool, ◌&&◌, List, [], ◌∷◌, length, map, filter, filter_map}
use Rattle.std.specs.Prelude.{Option, Some, None}
use Rattle.std.specs.List.{range_with_len}
use Rattle.std.specs.Option.{option_map_or}
use Rattle.sem_machine.specs.Prelude.{Entry, Setup}
use Rattle.sem_access.specs.declared.access.Access.{Access}
use Rattle.sem_access.specs.declared.look.Look.{Look}
use Rattle.sem_access.specs.Accesses.{accesses}

-- whether the range of len addresses from base on has the address
abbrev pub has_address : (base len address : ℕ) → Bool
has_address base len a = nat_le base a && nat_lt a (base + len)

-- whether an access is a write of the address
abbrev pub is_write_at : ℕ → Access → Bool
is_write_at a x = x.write && has_address x.base x.len a

-- whether an access is a write of the address by an entry below n
abbrev pub is_write_before : ℕ → ℕ → Access → Bool
is_write_before n a x = nat_lt x.entry n && is_write_at a x

-- the greater of a number and an optional one
abbrev pub greater_with : ℕ → Option ℕ → Option ℕ
greater_with n other = Some (option_map_or (max n) other n)

-- the greatest of numbers, if there is one
abbrev pub greatest : List ℕ → Option ℕ
greatest [] = None
greatest (n ∷ ns) = greater_with n (greatest ns)

-- the last write of an address among accesses that pass a test: the greatest entry of such a write
abbrev pub greatest_entry : (Access → Bool) → List Access → Option ℕ
greatest_entry test xs = greatest (map (λ x. x.entry) (filter test xs))

-- the last write of an address among accesses by entries below n
abbrev pub last_write_in : List Access → ℕ → ℕ → Option ℕ
last_write_in xs n a = greatest_entry (is_write_before n a) xs

-- the last write of an address before entry n of a journal
abbrev pub last_write : Setup → List Entry → ℕ → ℕ → Option ℕ
last_write T J n a = last_write_in (accesses T J) n a

-- The last writes of the addresses of a range: how many addresses have one, and the greatest.
unfoldable pub looked : (ℕ → Option ℕ) → (base len : ℕ) → Look
looked last base len =
    let writes : List ℕ = filter_map last (range_with_len base len) in
    record { written = length writes; newest = greatest writes }
