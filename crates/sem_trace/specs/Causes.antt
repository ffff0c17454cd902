-- The names of the causes of faults ("The command line" in docs/texts.md).
use Rattle.std.specs.Prelude.{ℕ, List, codes}
use Rattle.sem_trace.specs.declared.fault.Cause.{Cause}
use Rattle.sem_trace.specs.declared.fault.Cause.TheVariants.{NotText, UnknownWord, BadNumber, OutOfRange, Twice}
use Rattle.sem_trace.specs.declared.fault.Cause.TheVariants.{Undeclared, Missing, TooMany, LineTooLong, InputTooLong}
use Rattle.sem_trace.specs.declared.fault.Cause.TheVariants.{NotCanonical}

abbrev pub cause_name : Cause → List ℕ
cause_name NotText = codes "NotText"
cause_name UnknownWord = codes "UnknownWord"
cause_name BadNumber = codes "BadNumber"
cause_name OutOfRange = codes "OutOfRange"
cause_name Twice = codes "Twice"
cause_name Undeclared = codes "Undeclared"
cause_name Missing = codes "Missing"
cause_name TooMany = codes "TooMany"
cause_name LineTooLong = codes "LineTooLong"
cause_name InputTooLong = codes "InputTooLong"
cause_name NotCanonical = codes "NotCanonical"
