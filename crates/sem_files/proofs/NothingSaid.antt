-- The tables where nothing is said.
use Rattle.std.proofs.Common.{◌≡◌, ℕ, zero, suc, ◌<◌, ◌≤◌, Bool, true, false, true≢false, List, [], ◌∷◌, ◌++◌, get_or, replicate, None, refl, ap, sym, ◌∙◌}
use Rattle.std.proofs.Common.{subst, arith}
use Rattle.std.proofs.lemmas.List.Elements.{All-nil}
use Rattle.sem_files.specs.declared.files.Command.{Command}
use Rattle.sem_files.specs.declared.tables.Tables.{Tables}
use Rattle.sem_files.specs.Files.{Files}
use Rattle.sem_files.specs.Compiled.{AreFiles}
use Rattle.sem_files.specs.FileContext.{call_number}
use Rattle.sem_files.specs.Tells.{files_in, Tells, TellsOpen}

pub entry : {X : Type 0} (n : ℕ) (x : X) (i : ℕ) → get_or (replicate n x) i x ≡ x
entry zero x i = refl
entry (suc n) x zero = refl
entry (suc n) x (suc i) = entry n x i

pub entry-within : {X : Type 0} (n : ℕ) (x d : X) (i : ℕ) → i < n → get_or (replicate n x) i d ≡ x
entry-within zero x d i within = absurd (omega arith)
entry-within (suc n) x d zero within = refl
entry-within (suc n) x d (suc i) within = entry-within n x d i (omega arith)

-- an entry, or none
pub entry-either : {X : Type 0} (P : X → Type 0) (n : ℕ) (x d : X) (i : ℕ) → P x → P d → P (get_or (replicate n x) i d)
entry-either P zero x d i some none = none
entry-either P (suc n) x d zero some none = some
entry-either P (suc n) x d (suc i) some none = entry-either P n x d i some none

abbrev is_cons : List Command → Bool
is_cons [] = false
is_cons (x ∷ xs) = true

no_command : (before later : List Command) (c : Command) → [] ≡ before ++ c ∷ later → ⊥
no_command [] later c is = true≢false (ap is_cons (sym is))
no_command (b ∷ bs) later c is = true≢false (ap is_cons (sym is))

abbrev nothing : ℕ → Files
nothing kernels = record { kernels = kernels; files = []; clients = []; commands = [] }

are_none : (kernels : ℕ) → 1 ≤ kernels → kernels ≤ 16 → AreFiles (nothing kernels)
are_none kernels some few = record {
  some_kernel = some;
  few_kernels = few;
  files = All-nil (λ d. (d.file ≤ 15) × (1 ≤ d.extents) × (d.extents ≤ 4));
  files_differ = λ i j d lt within. absurd (omega arith);
  clients = All-nil (λ v. (1 ≤ v) × (v ≤ 63));
  clients_differ = λ i j d lt within. absurd (omega arith);
  commands = λ before later c is. absurd (no_command before later c is);
  few_calls = let none : call_number (nothing kernels) ≡ 0 = refl in rw none (omega arith);
}

pub tells_nothing : (t : Tables) → 1 ≤ t.kernels → t.kernels ≤ 16 → t.files ≡ [] → t.clients ≡ [] → t.commands ≡ [] → t.extents ≡ replicate 16 None →
    t.declared ≡ replicate 64 false → t.begun ≡ replicate 64 false → t.openings ≡ replicate 64 0 → TellsOpen [] t.handles →
    ((v g : ℕ) → get_or (get_or t.used v []) g false ≡ false) → t.calls ≡ 0 → Tells t
tells_nothing t some few files clients commands extents declared begun openings handles used calls =
    let said : files_in t ≡ nothing t.kernels = rw (files, clients, commands) refl in
    record {
      are = rw said (are_none t.kernels some few);
      extents = λ f. rw (files, extents) (entry 16 None f);
      declared = λ v. rw (clients, declared) (entry 64 false v);
      begun = λ v. rw (commands, begun) (entry 64 false v);
      openings = λ v. rw (commands, openings) (entry 64 0 v);
      open' = rw commands handles;
      used = λ v g. rw commands (used v g);
      calls = let none : call_number (nothing t.kernels) ≡ 0 = refl in subst (λ (F : Files). t.calls ≡ call_number F) (sym said) (calls ∙ sym none);
    }
