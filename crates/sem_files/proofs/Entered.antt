-- The tables after a line was entered.
use Rattle.std.proofs.Common.{◌≡◌, ℕ, ◌+◌, ◌<◌, ◌==◌, inl, inr, Bool, true, false, true≢false, ◌||◌, List, [], ◌∷◌, ◌++◌, length, set, Option, Some, None, refl}
use Rattle.std.proofs.Common.{ap, sym, ◌∙◌, subst, eq-eqb, ne_eqb}
use Rattle.std.specs.List.{list_any, find}
use Rattle.std.specs.Option.{option_map}
use Rattle.std.proofs.lemmas.Bool.{cases_Bool}
use Rattle.sem_files.specs.declared.files.FileDecl.{FileDecl}
use Rattle.sem_files.specs.declared.files.Command.{Command}
use Rattle.sem_files.specs.declared.lines.FileLine.TheVariants.{File, Client, Do}
use Rattle.sem_files.specs.declared.tables.Tables.{Tables}
use Rattle.sem_files.specs.Files.{Files, is_client}
use Rattle.sem_files.specs.FileContext.{call_number, with_command, context_fault}
use Rattle.sem_files.specs.FileReads.{IsInRange}
use Rattle.sem_files.specs.OneMore.{with_file, with_client, declared_extents, new_calls}
use Rattle.sem_files.specs.Tells.{files_in, Tells, TellsBegun, CountsOpenings, TellsOpen, TellsUsed}
use Rattle.sem_files.proofs.Lists.{any_more, table_set}
use Rattle.sem_files.proofs.CallNumbers.{call_number-more}
use Rattle.sem_files.proofs.StillFiles.{is_fine, still-file, still-client, still-command, call_number-file, call_number-client, new_command}

or_false : (b : Bool) → (b || false) ≡ b
or_false true = refl
or_false false = refl

or_true : (b : Bool) → (b || true) ≡ true
or_true true = refl
or_true false = refl

pub tells_command : (t : Tables) (c : Command) (cs : List Command) (begun : List Bool) (openings : List ℕ) (handles : List (List (Option ℕ)))
    (used : List (List Bool)) (calls : ℕ) → Tells t → IsInRange (Do c) → context_fault (files_in t) (Do c) ≡ None → cs ≡ t.commands ++ c ∷ [] →
    TellsBegun (t.commands ++ c ∷ []) begun → CountsOpenings (t.commands ++ c ∷ []) openings → TellsOpen (t.commands ++ c ∷ []) handles →
    TellsUsed (t.commands ++ c ∷ []) used → calls ≡ t.calls + new_calls (files_in t) c →
    Tells (record t { commands = cs; begun = begun; openings = openings; handles = handles; used = used; calls = calls })
tells_command t c cs begun openings handles used calls told ranges fine more begun' openings' handles' used' calls' =
    let F : Files = files_in t in
    let number : call_number (with_command F c) ≡ call_number F + new_calls F c =
    call_number-more F c (new_command F c ranges (is_fine F (Do c) fine)).client ranges.0.0 ranges.0.1 in
    subst (λ ds. Tells (record t { commands = ds; begun = begun; openings = openings; handles = handles; used = used; calls = calls })) (sym more) (record {
      are = still-command F c told.are ranges (is_fine F (Do c) fine);
      extents = told.extents;
      declared = told.declared;
      begun = begun';
      openings = openings';
      open' = handles';
      used = used';
      calls = calls' ∙ (rw told.calls (sym number));
    })

-- Files and clients.

-- the file that is new is found last, and no other is found there
find_new : (p : FileDecl → Bool) (ds : List FileDecl) (d : FileDecl) → list_any p ds ≡ false → p d ≡ true → find p (ds ++ d ∷ []) ≡ Some d
find_new p [] d none yes' = rw yes' refl
find_new p (e ∷ es) d none yes' =
    elim (cases_Bool (p e)) [
      | inl first ↦ absurd (true≢false (rw first at none))
      | inr other ↦ rw other (find_new p es d (rw other at none) yes')
    ]

find_other : (p : FileDecl → Bool) (ds : List FileDecl) (d : FileDecl) → p d ≡ false → find p (ds ++ d ∷ []) ≡ find p ds
find_other p [] d no' = rw no' refl
find_other p (e ∷ es) d no' =
    elim (cases_Bool (p e)) [
      | inl first ↦ rw first refl
      | inr other ↦ rw other (find_other p es d no')
    ]

pub tells_file : (t : Tables) (d : FileDecl) (ds : List FileDecl) → Tells t → d.file < length t.extents → IsInRange (File d) →
    context_fault (files_in t) (File d) ≡ None → ds ≡ t.files ++ d ∷ [] → Tells (record t { files = ds; extents = set t.extents d.file (Some d.extents) })
tells_file t d ds told within ranges fine more =
    let F : Files = files_in t in
    subst (λ es. Tells (record t { files = es; extents = set t.extents d.file (Some d.extents) })) (sym more) (record {
      are = still-file F d told.are ranges (is_fine F (File d) fine);
      extents = table_set t.extents d.file (Some d.extents) None (declared_extents F) (declared_extents (with_file F d)) within told.extents
          (ap (option_map (λ e. e.extents)) (find_new (λ e. e.file == d.file) F.files d (is_fine F (File d) fine).once (eq-eqb d.file d.file refl)))
          (λ f other. ap (option_map (λ e. e.extents)) (find_other (λ e. e.file == f) F.files d (ne_eqb d.file f (λ is. other (sym is)))));
      declared = told.declared;
      begun = told.begun;
      openings = told.openings;
      open' = told.open';
      used = told.used;
      calls = told.calls ∙ sym (call_number-file F d told.are);
    })

pub tells_client : (t : Tables) (v : ℕ) (vs : List ℕ) → Tells t → v < length t.declared → IsInRange (Client v) → context_fault (files_in t) (Client v) ≡ None →
    vs ≡ t.clients ++ v ∷ [] → Tells (record t { clients = vs; declared = set t.declared v true })
tells_client t v vs told within ranges fine more =
    let F : Files = files_in t in
    let new : is_client F v ≡ false = (is_fine F (Client v) fine).once in
    subst (λ us. Tells (record t { clients = us; declared = set t.declared v true })) (sym more) (record {
      are = still-client F v told.are ranges (is_fine F (Client v) fine);
      extents = told.extents;
      declared = table_set t.declared v true false (is_client F) (is_client (with_client F v)) within told.declared
          (any_more (λ w. w == v) F.clients v ∙ (rw (eq-eqb v v refl) (or_true (is_client F v))))
          (λ u other. any_more (λ w. w == u) F.clients v ∙ (rw (ne_eqb v u (λ is. other (sym is))) (or_false (is_client F u))));
      begun = told.begun;
      openings = told.openings;
      open' = told.open';
      used = told.used;
      calls = told.calls ∙ sym (call_number-client F v told.are new);
    })
