use Rattle.std.proofs.Common.{◌≡◌, take}
use Rattle.std.specs.List.{list_all}
use Rattle.sem_trace.specs.TextLines.{is_text}
use Rattle.sem_trace.proofs.text_lines.all_text.Given as goal

-- whether the bytes so far are text
abbrev pub invariant-loop-byte : goal.invariant-loop-byte
invariant-loop-byte l = l.all ≡ list_all is_text (take l.byte-index l.line)
