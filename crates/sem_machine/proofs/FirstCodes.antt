-- A row of tests, and the code of the first that holds.
use Rattle.std.proofs.Common.{◌≡◌, ◌∙◌, ℕ, Bool, true, false, List, [], ◌∷◌, ◌++◌, Option, Some, None, is_some, refl, sym, ap}
use Rattle.std.specs.Prelude.{if◌then◌else◌}
use Rattle.std.proofs.lemmas.Bool.{cond_both}
use Rattle.sem_key.specs.Capability.{Capability}
use Rattle.sem_msg.specs.Codes.{code_number}
use Rattle.sem_msg.specs.declared.entry.Outcome.{Outcome}
use Rattle.sem_machine.specs.Sides.{Side, is_marked}
use Rattle.std.specs.Option.{option_map_or}
use Rattle.sem_msg.specs.declared.code.Code.{Code}
use Rattle.sem_machine.specs.Steps.{Step, first_code, unless}

-- the first test that holds decides, and where none does the step is done
pub unless-first : (tests : List (Bool × Code)) (refuse : Code → Step) (done : Step) → unless tests refuse done ≡ option_map_or refuse (first_code tests) done
unfolding unless
unless-first [] refuse done = refl
unless-first ((true, code) ∷ tests) refuse done = refl
unless-first ((false, code) ∷ tests) refuse done = unless-first tests refuse done

-- a row that is refused
pub row-refused : (s : Side) (tests : List (Bool × Code)) (done : Step) (code : Code) (o : Outcome) → Some code ≡ first_code tests →
    o ≡ record { asked = None; grant = None; cut = None; reply = Some (code_number code) }
    → record { side = s; outcome = o }
    ≡ unless tests (λ code. record { side = s; outcome = record { asked = None; grant = None; cut = None; reply = Some (code_number code) } }) done
row-refused s tests done code o first shown = rw (unless-first tests, ← first, shown) refl

-- a row that is not refused
pub row-done : (tests : List (Bool × Code)) (refuse : Code → Step) (done : Step) → None ≡ first_code tests → unless tests refuse done ≡ done
row-done tests refuse done none = rw (unless-first tests refuse done, ← none) refl

-- where no test holds, each does not
pub none-at : (before : List (Bool × Code)) (holds : Bool) (code : Code) (behind : List (Bool × Code)) → first_code (before ++ (holds, code) ∷ behind) ≡ None →
    holds ≡ false
none-at [] true code behind none = absurd cc
none-at [] false code behind none = refl
none-at ((true, other) ∷ before) holds code behind none = absurd cc
none-at ((false, other) ∷ before) holds code behind none = none-at before holds code behind none

-- and none of those behind others holds
pub none-behind : (before behind : List (Bool × Code)) → first_code (before ++ behind) ≡ None → first_code behind ≡ None
none-behind [] behind none = none
none-behind ((true, other) ∷ before) behind none = absurd cc
none-behind ((false, other) ∷ before) behind none = none-behind before behind none

-- what is so of each refusal and of the step that is done is so of the row
pub unless-keeps : (P : Step → Type 0) (tests : List (Bool × Code)) (refuse : Code → Step) (done : Step) → ((code : Code) → P (refuse code)) → P done →
    P (unless tests refuse done)
unfolding unless
unless-keeps P [] refuse done each here = here
unless-keeps P (test ∷ tests) refuse done each here = cond_both test.0 (refuse test.1) (unless tests refuse done) P (λ _. each test.1)
    (λ _. unless-keeps P tests refuse done each here)

-- no test holds
abbrev pub Passed : List (Bool × Code) → Type 0
Passed [] = Unit {0}
Passed (test ∷ tests) = (test.0 ≡ false) × Passed tests

-- and of the step that is done it may be known that no test held
pub unless-passed : (P : Step → Type 0) (tests : List (Bool × Code)) (refuse : Code → Step) (done : Step) → ((code : Code) → P (refuse code)) →
    (Passed tests → P done) → P (unless tests refuse done)
unfolding unless
unless-passed P [] refuse done each here = here tt
unless-passed P (test ∷ tests) refuse done each here = from test.0 refl (unless-passed P tests refuse done each)
  where
    from : (b : Bool) → test.0 ≡ b → ((Passed tests → P done) → P (unless tests refuse done)) → P (if b then refuse test.1 else unless tests refuse done)
    from true holds rest = each test.1
    from false fails rest = rest (λ passed. here (fails, passed))

-- an own capability that is not being revoked
pub unmarked-own : (o : Option Capability) (c : Capability) → o ≡ Some c → is_marked o ≡ false → c.mark ≡ None
unmarked-own o c held test = none c.mark (sym (ap is_marked held) ∙ test)
  where
    none : (m : Option ℕ) → is_some m ≡ false → m ≡ None
    none None h = refl
    none (Some j) h = absurd cc
