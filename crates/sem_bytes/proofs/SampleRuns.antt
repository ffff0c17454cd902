-- What the journals of the samples do, by computation.
use Rattle.std.proofs.Common.{◌≡◌, ℕ, List, [], ◌∷◌, refl, ◌∙◌, ap, arith, rules}
use Rattle.std.specs.Fmt.{digits}
use Rattle.std.specs.List.{All}
use Rattle.std.specs.Prelude.{◌++◌, length, map, codes, decimal, Option}
use Rattle.std.proofs.lemmas.List.Elements.{All-cons, All-nil, All-from_recursion}
use Rattle.sem_key.specs.Lists.{put, in_turn}
use Rattle.sem_key.specs.Region.{grow}
use Rattle.sem_msg.specs.declared.call.Call.{Call}
use Rattle.sem_msg.specs.declared.call.Call.TheVariants.{Derive, Obtain, Bind, Read, Write}
use Rattle.sem_msg.specs.Calls.{IsValidCall, IsWord}
use Rattle.sem_msg.specs.Setup.{IsSetup, IsDeclared, services_from}
use Rattle.sem_machine.specs.Steps.{unless}
use Rattle.sem_machine.specs.Revokes.{finish, closed_here, opened}
use Rattle.sem_machine.specs.Ends.{ended}
use Rattle.sem_machine.specs.Calls.{call_row}
use Rattle.sem_machine.specs.Upcalls.{upcall_row}
use Rattle.sem_machine.specs.Handles.{handle_row}
use Rattle.sem_machine.specs.Resumes.{resume_row}
use Rattle.sem_machine.specs.Machine.{start_side, start, local_step, local_entry, is_locally_enabled, is_enabled, after, entry_of}
use Rattle.sem_machine.specs.Schedules.{IsSchedule}
use Rattle.sem_safety.specs.Walks.{walked, all_enabled, pair}
use Rattle.sem_safety.proofs.Walking.{journal-schedule, pair-setup}
use Rattle.sem_access.specs.declared.access.Access.{Access}
use Rattle.sem_access.specs.Accesses.{accesses_from, accesses}
use Rattle.sem_text.specs.Lines.{text}
use Rattle.sem_access.specs.declared.run.Run.{Run}
use Rattle.sem_access.specs.LastWrites.{looked, last_write, last_write_in}
use Rattle.sem_access.specs.Runs.{run_of, runs_from, all_runs}
use Rattle.sem_access.specs.ContentsText.{contents, read_line, run_line, reads, found_by}
use Rattle.sem_bytes.proofs.Longest.{runs-end, WritesBelow, blank-behind}
use Rattle.sem_bytes.specs.Sample.{alone, alone_journal, alone_accesses, alone_text, owner_calls, obtainer_calls, sample, sample_journal, sample_accesses}

pub sample-setup : IsSetup sample
unfolding sample
sample-setup = pair-setup owner_calls obtainer_calls [] owner obtainer (omega arith)
    (All-nil (λ (k : ℕ × ℕ). IsDeclared (pair owner_calls obtainer_calls []) k.0 × IsWord k.1)) (λ i j d lt within. absurd (omega arith))
  where
    valid : (call : Call) (calls : List Call) → IsValidCall 128 call → All (IsValidCall 128) calls → All (IsValidCall 128) (call ∷ calls)
    valid call calls here rest = All-cons (IsValidCall 128) call calls here rest

    owner : All (IsValidCall 128) owner_calls
    owner = valid (Derive 0 1 16 1024 3) (Bind 0 0 ∷ Write 0 10 20 ∷ []) (search rules)
        (valid (Bind 0 0) (Write 0 10 20 ∷ []) (search rules) (valid (Write 0 10 20) [] (search rules) (All-nil (IsValidCall 128))))

    obtainer : All (IsValidCall 128) obtainer_calls
    obtainer = valid (Obtain 0 0 1) (Bind 0 0 ∷ Write 0 4 20 ∷ Read 0 0 30 ∷ []) (search rules)
        (valid (Bind 0 0) (Write 0 4 20 ∷ Read 0 0 30 ∷ []) (search rules)
        (valid (Write 0 4 20) (Read 0 0 30 ∷ []) (search rules) (valid (Read 0 0 30) [] (search rules) (All-nil (IsValidCall 128)))))

-- each event is enabled in its turn
pub sample-runs : IsSchedule sample sample_journal
unfolding sample pair all_enabled put in_turn unless services_from grow closed_here finish opened ended call_row upcall_row handle_row resume_row start_side
    start local_step local_entry is_locally_enabled is_enabled after entry_of
sample-runs = journal-schedule sample _ refl

pub sample-reads : accesses sample sample_journal ≡ sample_accesses
unfolding accesses_from sample pair walked put in_turn unless services_from grow closed_here finish opened ended call_row upcall_row handle_row resume_row
    start_side start local_step local_entry is_locally_enabled is_enabled after entry_of
sample-reads = refl

pub alone-runs : IsSchedule alone alone_journal
unfolding alone all_enabled put in_turn unless services_from grow closed_here finish opened ended call_row upcall_row handle_row resume_row start_side start
    local_step local_entry is_locally_enabled is_enabled after entry_of
alone-runs = journal-schedule alone _ refl

alone-reads : accesses alone alone_journal ≡ alone_accesses
unfolding accesses_from alone walked put in_turn unless services_from grow closed_here finish opened ended call_row upcall_row handle_row resume_row start_side
    start local_step local_entry is_locally_enabled is_enabled after entry_of
alone-reads = refl

alone-length : length alone_journal ≡ 5
unfolding walked
alone-length = refl

-- no address from 40 on was written
abbrev alone_last : ℕ → Option ℕ
alone_last a = last_write_in alone_accesses 5 a

ends : All (WritesBelow 40) alone_accesses
ends = All-from_recursion (WritesBelow 40) alone_accesses ((λ w. omega arith), ((λ w. omega arith), ((λ w. absurd (cc)), ((λ w. absurd (cc)), tt))))

few-runs : all_runs alone_last ≡ runs_from alone_last 0 40
unfolding all_runs
few-runs = runs-end alone_last 40 0 4294967256 (blank-behind alone_accesses 5 40 ends)

two-runs : runs_from alone_last 0 40 ≡ run_of 10 10 1 ∷ run_of 20 20 2 ∷ []
unfolding runs_from
two-runs = refl

runs-are : all_runs (last_write alone alone_journal (length alone_journal)) ≡ run_of 10 10 1 ∷ run_of 20 20 2 ∷ []
runs-are =
    ap (λ (xs : List Access). all_runs (last_write_in xs (length alone_journal))) alone-reads
    ∙ (ap (λ n. all_runs (last_write_in alone_accesses n)) alone-length ∙ (few-runs ∙ two-runs))

abbrev text_with : List Access → List Run → List ℕ
text_with xs rs =
    text ((codes "semper" ∷ codes "contents" ∷ decimal 1 ∷ [])
    ∷ map (λ (x : Access). read_line x (found_by xs x)) (reads xs)
    ++ map run_line rs
    ++ (codes "end" ∷ []) ∷ [])

told : text_with alone_accesses (run_of 10 10 1 ∷ run_of 20 20 2 ∷ []) ≡ alone_text
unfolding looked alone_text digits
told = refl

pub alone-contents : contents alone alone_journal ≡ alone_text
alone-contents = ap (text_with (accesses alone alone_journal)) runs-are
    ∙ (ap (λ (xs : List Access). text_with xs (run_of 10 10 1 ∷ run_of 20 20 2 ∷ [])) alone-reads ∙ told)
