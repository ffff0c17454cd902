-- The words are one command at most.
use Rattle.std.proofs.Common.{◌≡◌, ℕ, Bool, true, false, refl, sym, ◌∙◌, ap, inl, inr}
use Rattle.std.proofs.lemmas.Bool.{false≢true}
use Rattle.std.proofs.lemmas.Option.{same_Some}
use Rattle.sem_cli.specs.declared.forms.Command.{Command}
use Rattle.sem_cli.specs.declared.forms.Command.TheVariants.{Run, Threads, Files, Generate, Soak, Ask}
use Rattle.sem_run.specs.Inputs.{Given, Asks, AsksRun, is_run}

-- whether a command runs file commands
abbrev pub is_files : Command → Bool
is_files (Run seed) = false
is_files (Threads seed) = false
is_files (Files seed) = true
is_files (Generate seed vpes calls) = false
is_files (Soak seed vpes calls) = false
is_files (Ask question) = false

module _ (g : Given) where
  -- what is so of the one command is so of the other
  pub not-both : (a b : Command) (f : Command → Bool) → Asks g a → Asks g b → f a ≡ false → f b ≡ true → ⊥
  not-both a b f one other lacks has = false≢true (sym lacks ∙ (ap f (same_Some a b (sym one ∙ other)) ∙ has))

  -- a command that runs nothing is not asked for where one that runs a setup is
  pub not-run : (a b : Command) → Asks g a → is_run a ≡ false → Asks g b → is_run b ≡ true → ⊥
  not-run a b one lacks other has = not-both a b is_run one other lacks has

  -- a run of a trace is none of file commands
  pub no-files : (seed other : ℕ) → AsksRun g seed → Asks g (Files other) → ⊥
  no-files seed other (inl one) files = not-both (Run seed) (Files other) is_files one files refl refl
  no-files seed other (inr one) files = not-both (Threads seed) (Files other) is_files one files refl refl

  pub no-run : (a : Command) → Asks g a → is_run a ≡ false → (seed : ℕ) → AsksRun g seed → ⊥
  no-run a one lacks seed (inl other) = not-run a (Run seed) one lacks other refl
  no-run a one lacks seed (inr other) = not-run a (Threads seed) one lacks other refl
