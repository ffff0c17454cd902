-- The file commands that a text stands for ("File commands" in docs/texts.md).
use Rattle.std.specs.Prelude.{◌≡◌, ℕ, List, None}
use Rattle.sem_trace.specs.TextLines.{lines_of}
use Rattle.sem_trace.specs.Refusal.{kernels_of}
use Rattle.sem_files.specs.Files.{Files}
use Rattle.sem_files.specs.Said.{files_of}
use Rattle.sem_files.specs.FileRefusal.{refusal, said_by}

-- the text is not refused, and its lines say the commands
pub record FilesStand (bytes : List ℕ) (F : Files) : Type 0 where
  pub accepted : refusal bytes ≡ None
  pub said : F ≡ files_of (kernels_of (lines_of bytes)) (said_by (lines_of bytes))
