-- Why a call was denied: the entry that settled the code of its reply.
use Rattle.std.specs.Prelude.{◌≡◌, ℕ, ◌+◌, ◌≤◌, ◌<◌, List, [], ◌∷◌, ◌++◌, take, slice_get, codes, decimal, Option}
use Rattle.std.specs.Prelude.{Some}
use Rattle.sem_msg.specs.declared.code.Code.{Code}
use Rattle.sem_machine.specs.Prelude.{OkCode, Dead, Revoking, Calls, Reply, Entry, Parked, Setup, kernel_of, parked}
use Rattle.sem_machine.specs.Prelude.{side, world_after}
use Rattle.sem_msg.specs.declared.code.Code.TheVariants.{NoVpe, NoCap, Refused, Occupied, Numbers, BadKind, Wider}
use Rattle.sem_msg.specs.declared.code.Code.TheVariants.{NoService, Gone, Unbound, Rights, Range, SelfExchange}
use Rattle.sem_msg.specs.Codes.{code_number}
use Rattle.sem_journal.specs.EntryText.{entry_line}

abbrev pub code_name : Code → List ℕ
code_name OkCode = codes "Ok"
code_name NoVpe = codes "NoVpe"
code_name Dead = codes "Dead"
code_name NoCap = codes "NoCap"
code_name Revoking = codes "Revoking"
code_name Refused = codes "Refused"
code_name Occupied = codes "Occupied"
code_name Numbers = codes "Numbers"
code_name BadKind = codes "BadKind"
code_name Wider = codes "Wider"
code_name NoService = codes "NoService"
code_name Gone = codes "Gone"
code_name Unbound = codes "Unbound"
code_name Rights = codes "Rights"
code_name Range = codes "Range"
code_name SelfExchange = codes "SelfExchange"

-- entry n is that one
abbrev pub IsAt : List Entry → ℕ → Entry → Type 0
IsAt J n e = slice_get J n ≡ Some e

-- entry n is a call of the VPE
abbrev pub IsCallAt : List Entry → ℕ → ℕ → Type 0
IsCallAt J v n = (e : Entry) × IsAt J n e × (e.event.act ≡ Calls v)

-- entry b is the last call of the VPE at or before entry n
pub record IsLastCall (J : List Entry) (v n b : ℕ) : Type 0 where
  pub by_then : b ≤ n
  pub call : IsCallAt J v b
  pub last : (m : ℕ) → b < m → m ≤ n → ¬ IsCallAt J v m

-- the state in which a call of the VPE is parked after the first n entries
abbrev pub state_after : Setup → List Entry → ℕ → ℕ → Option Parked
state_after T J v n = parked (side (world_after T (take n J)) (kernel_of T v)) v

-- after entry i the call of the VPE is parked as it is just before entry n
abbrev pub IsParkedAlike : Setup → List Entry → ℕ → ℕ → ℕ → Type 0
IsParkedAlike T J v n i = state_after T J v (i + 1) ≡ state_after T J v n

-- Entry n answers a call of the VPE; entry i settles the answer. That is entry n itself, if it is
-- the call. Otherwise it is the first entry from the call on after which the call is parked as it
-- is just before entry n.
pub data Settles (T : Setup) (J : List Entry) (v n : ℕ) : ℕ → Type 0 where
  at_once : IsLastCall J v n n → Settles T J v n n
  by_parking : (b i : ℕ) → IsLastCall J v n b → b < n → b ≤ i → IsParkedAlike T J v n i
      → ((m : ℕ) → b ≤ m → m < i → ¬ IsParkedAlike T J v n m) → Settles T J v n i

-- entry n answers a call with a code that is not 0
abbrev pub Denies : List Entry → ℕ → Reply → Type 0
Denies J n r = (e : Entry) × IsAt J n e × (e.reply ≡ Some r) × (0 < r.code)

-- the line of a denial: the code, its name, and the entry that settled it
abbrev pub denied_line : Code → ℕ → Entry → List ℕ
denied_line code i e =
    codes "denied " ++ decimal (code_number code) ++ 32 ∷ code_name code
    ++ codes " at " ++ decimal i ++ codes ": " ++ entry_line e

abbrev pub none_line : List ℕ
none_line = codes "none" ++ 10 ∷ []

-- the answer to why entry n denies
pub data IsDenied (T : Setup) (J : List Entry) (n : ℕ) : List ℕ → Type 0 where
  denied : (r : Reply) (code : Code) (i : ℕ) (e : Entry) → Denies J n r → r.code ≡ code_number code
      → Settles T J r.vpe n i → IsAt J i e → IsDenied T J n (denied_line code i e)
  not_denied : ((r : Reply) → ¬ Denies J n r) → IsDenied T J n none_line
