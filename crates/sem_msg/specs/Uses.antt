-- What a VPE may do through an endpoint, and how that changes the endpoint ("Calls" in
-- docs/machine.md).
use Rattle.std.specs.Prelude.{ℕ, ◌+◌, ◌==◌, nat_lt, nat_le, Bool, true, false, not, List, [], ◌∷◌, ◌++◌, length, drop}
use Rattle.std.specs.Prelude.{Option, is_none}
use Rattle.std.specs.Option.{option_map, option_map_or}
use Rattle.sem_key.specs.declared.object.Object.{Object}
use Rattle.sem_key.specs.declared.object.Object.TheVariants.{Mem, Send}
use Rattle.sem_key.specs.ObjectRanges.{is_subset}
use Rattle.sem_msg.specs.declared.code.Code.{Code}
use Rattle.sem_msg.specs.declared.code.Code.TheVariants.{Unbound, Rights, Range}
use Rattle.sem_msg.specs.Rows.{Endpoint}

-- whether the object is memory with that right
abbrev pub allows : ℕ → Object → Bool
allows right (Mem base len rights) = is_subset right rights
allows right object = false

abbrev pub is_send_gate : Object → Bool
is_send_gate (Send gate label credits) = true
is_send_gate object = false

-- whether that many bytes from the offset on go past the end
abbrev pub is_past_end : ℕ → ℕ → Object → Bool
is_past_end off len (Mem base size rights) = nat_lt size (off + len)
is_past_end off len object = true

-- whether that many messages use up the credits
abbrev pub are_credits_used : ℕ → Object → Bool
are_credits_used n (Send gate label credits) = nat_le credits n
are_credits_used n object = true

-- whether the binding of the endpoint passes the test
abbrev pub bound_passes : (Endpoint → Bool) → Option Endpoint → Bool
bound_passes test e = option_map_or test e false

-- the tests of a read (right 1) or a write (right 2)
abbrev pub memory_tests : ℕ → ℕ → ℕ → Option Endpoint → List (Bool × Code)
memory_tests right off len e =
    (is_none e, Unbound)
    ∷ (not (bound_passes (λ b. allows right b.object) e), Rights)
    ∷ (bound_passes (λ b. is_past_end off len b.object) e, Range)
    ∷ []

abbrev pub send_tests : Option Endpoint → List (Bool × Code)
send_tests e =
    (is_none e, Unbound)
    ∷ (not (bound_passes (λ b. is_send_gate b.object) e), Rights)
    ∷ (bound_passes (λ b. are_credits_used (length b.ring) b.object) e, Range)
    ∷ []

-- the tests before a credit is taken back
abbrev pub credit_tests : Option Endpoint → List (Bool × Code)
credit_tests e =
    (is_none e, Unbound)
    ∷ (not (bound_passes (λ b. is_send_gate b.object) e), Rights)
    ∷ (bound_passes (λ b. length b.ring == 0) e, Range)
    ∷ []

-- the endpoint with its ring changed
abbrev pub ring_changed : (List ℕ → List ℕ) → Option Endpoint → Option Endpoint
ring_changed f e = option_map {T = Endpoint} (λ b. record b { ring = f b.ring }) e

-- the ring after a message of that length was sent
abbrev pub rung : ℕ → List ℕ → List ℕ
rung len ring = ring ++ len ∷ []

-- the ring after the oldest message was credited
abbrev pub credited : List ℕ → List ℕ
credited ring = drop 1 ring
