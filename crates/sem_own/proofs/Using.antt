-- What the use of an endpoint gives.
use Rattle.std.proofs.Common.{◌≡◌, ℕ, true, false, Bool, List, [], ◌∷◌, Option, Some, None, refl, sym, ap, ◌∙◌}
use Rattle.std.specs.Prelude.{find, if◌then◌else◌, is_some}
use Rattle.std.specs.Option.{option_map, option_map_or}
use Rattle.sem_key.specs.Capability.{Capability}
use Rattle.sem_msg.specs.declared.code.Code.{Code}
use Rattle.sem_msg.specs.declared.code.Code.TheVariants.{Ok as OkCode}
use Rattle.sem_msg.specs.declared.entry.Outcome.{Outcome}
use Rattle.sem_msg.specs.Codes.{code_number}
use Rattle.sem_dtu.specs.declared.op.Op.{Op}
use Rattle.sem_dtu.specs.EndpointTable.{EndpointTable}
use Rattle.sem_dtu.specs.Uses.{use_tests, use_refusal, use_done}
use Rattle.sem_machine.specs.Sides.{Side, own, endpoint, with_endpoint}
use Rattle.sem_machine.specs.Steps.{Step, answer, first_code}
use Rattle.sem_machine.specs.Calls.{bind_tests, bind_row}
use Rattle.sem_machine.specs.Stores.{with_endpoints}
use Rattle.sem_machine.proofs.FirstCodes.{unless-first}
use Rattle.sem_own.specs.Using.{use_row}

-- the first code is that of the first test that is found to hold
first-found : (tests : List (Bool × Code)) → first_code tests ≡ option_map (λ test. test.1) (find (λ test. test.0) tests)
first-found [] = refl
first-found ((true, code) ∷ tests) = refl
first-found ((false, code) ∷ tests) = first-found tests

-- a row that answers with a code
abbrev answering : Side → Code → Step
answering s code = record { side = s; outcome = record { asked = None; grant = None; cut = None; reply = Some (code_number code) } }

use-is : (op : Op) (v ep : ℕ) (s : Side) (o : Option Code) → o ≡ use_refusal op (endpoint s v ep) →
    use_row op v ep s ≡ option_map_or (answering s) o (answering (with_endpoints (use_done op v ep s.endpoints) s) OkCode)
use-is op v ep s o is =
    unless-first (use_tests op (endpoint s v ep)) (answering s) (answering (with_endpoints (use_done op v ep s.endpoints) s) OkCode)
    ∙ ap (λ (code : Option Code). option_map_or (answering s) code (answering (with_endpoints (use_done op v ep s.endpoints) s) OkCode))
    (first-found (use_tests op (endpoint s v ep)) ∙ sym is)

pub use-passed : (op : Op) (v ep : ℕ) (old new : EndpointTable) (s : Side) (o : Outcome) → None ≡ use_refusal op (endpoint (with_endpoints old.rows s) v ep)
    → new ≡ (if is_some (use_refusal op (endpoint (with_endpoints old.rows s) v ep)) then old else record old { rows = use_done op v ep old.rows })
    → o ≡ record { asked = None; grant = None; cut = None; reply = Some (code_number OkCode) } →
    record { side = with_endpoints new.rows s; outcome = o } ≡ use_row op v ep (with_endpoints old.rows s)
use-passed op v ep old new s o is table shown =
    let now : new ≡ record old { rows = use_done op v ep old.rows } = table
    ∙ ap (λ (code : Option Code). if is_some code then old else record old { rows = use_done op v ep old.rows }) (sym is) in
    (λ i. record { side = with_endpoints (now i).rows s; outcome = shown i }) ∙ sym (use-is op v ep (with_endpoints old.rows s) None is)

pub use-refused : (op : Op) (v ep : ℕ) (old new : EndpointTable) (s : Side) (o : Outcome) (code : Code) →
    Some code ≡ use_refusal op (endpoint (with_endpoints old.rows s) v ep)
    → new ≡ (if is_some (use_refusal op (endpoint (with_endpoints old.rows s) v ep)) then old else record old { rows = use_done op v ep old.rows })
    → o ≡ record { asked = None; grant = None; cut = None; reply = Some (code_number code) } →
    record { side = with_endpoints new.rows s; outcome = o } ≡ use_row op v ep (with_endpoints old.rows s)
use-refused op v ep old new s o code is table shown =
    let now : new ≡ old = table ∙ ap (λ (code : Option Code). if is_some code then old else record old { rows = use_done op v ep old.rows }) (sym is) in
    (λ i. record { side = with_endpoints (now i).rows s; outcome = shown i }) ∙ sym (use-is op v ep (with_endpoints old.rows s) (Some code) is)

-- a bind that is not refused
pub bind-done : (s : Side) (v ep src : ℕ) (p : Capability) → None ≡ first_code (bind_tests s v src) → Some p ≡ own s v src →
    bind_row s v ep src ≡ answer OkCode (with_endpoint v ep (Some (record { key = p.key; object = p.object; ring = [] })) s)
bind-done s v ep src p first held = unless-first (bind_tests s v src) _ _ ∙ rw (← first, ← held) refl
