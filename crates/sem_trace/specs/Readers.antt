-- What the readers of calls and of declarations promise.
use Rattle.std.specs.Prelude.{◌≡◌, ℕ, List, Result, IfOk}
use Rattle.std.specs.Result.{result_err}
use Rattle.sem_msg.specs.Prelude.{most_vpes, IsValidCall}
use Rattle.sem_msg.specs.declared.call.Call.{Call}
use Rattle.sem_trace.specs.declared.fault.Cause.{Cause}
use Rattle.sem_trace.specs.declared.fault.LineFault.{LineFault}
use Rattle.sem_trace.specs.declared.declaration.Declaration.{Declaration}
use Rattle.sem_trace.specs.declared.declaration.Declaration.TheVariants.{Window}
use Rattle.sem_trace.specs.Forms.{calls, choice, word_at, form, form_fault, word_fault}
use Rattle.sem_trace.specs.Places.{Reads, told_fault}
use Rattle.sem_trace.specs.Words.{call_words}
use Rattle.sem_trace.specs.Ranges.{IsInRange}
use Rattle.sem_trace.specs.Declarations.{call_from, declaration}

-- a call of a text of that version is read, from its name on
pub record ReadsCall (version : ℕ) (old new : List (List ℕ)) (result : Result Call Cause) : Type 0 where
  pub reads : Reads (choice (calls version) (word_at old 0)) call_words old new result
  pub value : IfOk result (λ call. call ≡ call_from old)
  pub valid : IfOk result (IsValidCall (most_vpes version))

-- what a line with these words says is read from its words, in a text with that many kernels
pub record ReadsWords (version kernels : ℕ) (words rest : List (List ℕ)) (result : Result Declaration Cause) : Type 0
  where
    pub fault : form_fault (form version kernels words) words ≡ told_fault result rest
    pub value : IfOk result (λ d. d ≡ declaration words)
    pub ranges : IfOk result (IsInRange version kernels)

-- what a line with these words says is read, in a text with that many kernels
pub record ReadsLine (version kernels : ℕ) (words : List (List ℕ)) (result : Result Declaration LineFault) : Type 0
  where
    pub fault : word_fault (form version kernels words) words ≡ result_err result
    pub value : IfOk result (λ d. d ≡ declaration words)
    pub ranges : IfOk result (IsInRange version kernels)

-- a line that says how many messages a link holds
abbrev pub IsWindowLine : Declaration → Type 0
IsWindowLine d = (window : ℕ) × (d ≡ Window window)
