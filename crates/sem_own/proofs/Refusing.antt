-- What a row of tests says where one holds, and where none does.
use Rattle.std.proofs.Common.{◌≡◌, ℕ, ◌<◌, [], ◌∷◌, not, Option, Some, None, refl, sym, ap, ◌∙◌}
use Rattle.std.specs.Prelude.{nat_le, is_none}
use Rattle.std.proofs.lemmas.Bool.{leb-false}
use Rattle.sem_key.specs.declared.key.Kind.TheVariants.{Mem as MemKind, Recv as RecvKind}
use Rattle.sem_key.specs.declared.object.Object.TheVariants.{Send}
use Rattle.sem_key.specs.KeyName.{key_eq}
use Rattle.sem_key.specs.Capability.{Capability}
use Rattle.sem_key.specs.CapList.{cap_of}
use Rattle.sem_key.proofs.KeyTests.{key_eq-true}
use Rattle.sem_key.proofs.Members.{found}
use Rattle.sem_msg.specs.Setup.{Setup}
use Rattle.sem_msg.specs.VpeRows.{is_taken}
use Rattle.sem_msg.specs.declared.state.Slot.{Slot}
use Rattle.sem_msg.specs.declared.state.Slot.TheVariants.{Free, Held, Promised}
use Rattle.sem_msg.specs.declared.code.Code.TheVariants.{NoCap, Revoking, Occupied, Numbers, BadKind, Wider}
use Rattle.sem_caps.specs.CapStore.{CapStore}
use Rattle.sem_machine.specs.Sides.{Side, row, own, slot, cap_in, is_marked}
use Rattle.sem_machine.specs.Steps.{first_code}
use Rattle.sem_machine.proofs.FirstCodes.{unless-first, none-at}
use Rattle.sem_machine.specs.Calls.{derive_tests, derive_row, gate_tests, gate_row, child_made, narrowed, object_passes, is_of, is_wider, exceeds_slots}
use Rattle.sem_own.specs.Holding.{HasRoomForChild}

-- a row that is not refused, on a capability that is held
pub derive-done : (T : Setup) (s : Side) (v src dst off len rights : ℕ) (p : Capability) → None ≡ first_code (derive_tests s v src dst off len rights) →
    Some p ≡ own s v src → derive_row T s v src dst off len rights ≡ child_made T v dst (narrowed off len rights p.object) p.key s
derive-done T s v src dst off len rights p first held = unless-first (derive_tests s v src dst off len rights) _ _ ∙ rw (← first, ← held) refl

pub gate-done : (T : Setup) (s : Side) (v src dst label credits : ℕ) (p : Capability) → None ≡ first_code (gate_tests s v src dst credits) →
    Some p ≡ own s v src → gate_row T s v src dst label credits ≡ child_made T v dst (Send p.key label credits) p.key s
gate-done T s v src dst label credits p first held = unless-first (gate_tests s v src dst credits) _ _ ∙ rw (← first, ← held) refl

-- where no test holds, a number is left
pub derive-number : (s : Side) (v src dst off len rights : ℕ) → None ≡ first_code (derive_tests s v src dst off len rights) → (row s v).next_number < 4096
derive-number s v src dst off len rights none =
    let o : Option Capability = own s v src in
    leb-false 4096 (row s v).next_number
    (none-at ((is_none o, NoCap) ∷ (is_marked o, Revoking) ∷ (not (object_passes (is_of MemKind) o), BadKind) ∷ (
      object_passes (is_wider off len rights) o,
      Wider,
    ) ∷ (is_taken (slot s v dst), Occupied) ∷ []) (nat_le 4096 (row s v).next_number) Numbers [] (sym none))

pub gate-number : (s : Side) (v src dst credits : ℕ) → None ≡ first_code (gate_tests s v src dst credits) → (row s v).next_number < 4096
gate-number s v src dst credits none =
    let o : Option Capability = own s v src in
    leb-false 4096 (row s v).next_number
    (none-at ((is_none o, NoCap) ∷ (is_marked o, Revoking) ∷ (not (object_passes (is_of RecvKind) o), BadKind) ∷ (
      object_passes (exceeds_slots credits) o,
      Wider,
    ) ∷ (is_taken (slot s v dst), Occupied) ∷ []) (nat_le 4096 (row s v).next_number) Numbers [] (sym none))

-- the capability at a selector has that key, and there is room for a child of it
pub child-room : (caps : CapStore) (s : Side) (state : Slot) (p : Capability) → s.caps ≡ caps.caps → Some p ≡ cap_in s state → HasRoomForChild caps state →
    caps.child_room ≡ Some p.key
child-room caps s Free p same held room = absurd cc
child-room caps s Promised p same held room = absurd cc
child-room caps s (Held k) p same held room =
    let there : cap_of caps.caps k ≡ Some p = ap (λ cs. cap_of cs k) (sym same) ∙ sym held in
    let key : p.key ≡ k = key_eq-true p.key k (found (λ c. key_eq c.key k) caps.caps p there).1 in
    room ∙ rw (there, key) refl
