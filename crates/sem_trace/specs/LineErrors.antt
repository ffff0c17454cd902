-- Why a line of a text is not read, and so the text.
use Rattle.std.specs.Prelude.{ℕ}
use Rattle.sem_trace.specs.declared.fault.LineFault.{LineFault}
use Rattle.sem_trace.specs.declared.fault.TraceFault.{TraceFault}
use Rattle.sem_trace.specs.declared.fault.TraceError.{TraceError}
use Rattle.sem_trace.specs.declared.fault.TraceError.TheVariants.{Refused as RefusedText, Memory as NoMemory}
use Rattle.sem_trace.specs.declared.line_error.LineError.{LineError}
use Rattle.sem_trace.specs.declared.line_error.LineError.TheVariants.{Refused, Memory}

-- the fault of a text, if line n of it has that one
abbrev pub fault_of : ℕ → LineFault → TraceFault
fault_of n fault = record { line = n; word = fault.word; cause = fault.cause }

-- why a text is not read, if line n of it is not
abbrev pub at_line : ℕ → LineError → TraceError
at_line n (Refused fault) = RefusedText (fault_of n fault)
at_line n Memory = NoMemory

-- why a line is not read: what is wrong with it, or memory was refused
abbrev pub Stops : (LineFault → Type 0) → LineError → Type 0
Stops refuses (Refused fault) = refuses fault
Stops refuses Memory = Unit {0}
