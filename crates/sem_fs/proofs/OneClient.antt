-- One client that opens, writes and closes a file: its commands are file commands, and its run is a schedule in which the file is closed.
use Rattle.std.proofs.Common.{◌≡◌, ℕ, zero, suc, ◌≤◌, ◌++◌, true, List, [], ◌∷◌, refl, ap, subst, inl, inr, arith}
use Rattle.std.specs.List.{Contains}
use Rattle.std.proofs.lemmas.List.Elements.{All-nil, All-cons}
use Rattle.sem_key.specs.Lists.{put, in_turn}
use Rattle.sem_key.specs.Region.{grow}
use Rattle.sem_key.proofs.Members.{Contains-head, Contains-nil, Contains-cons_cases, Contains-from_filter}
use Rattle.sem_msg.specs.Setup.{Setup, services_from}
use Rattle.sem_msg.specs.declared.event.Event.{Event}
use Rattle.sem_machine.specs.Steps.{unless}
use Rattle.sem_machine.specs.Revokes.{finish, closed_here, opened}
use Rattle.sem_machine.specs.Ends.{ended}
use Rattle.sem_machine.specs.Calls.{call_row}
use Rattle.sem_machine.specs.Upcalls.{upcall_row}
use Rattle.sem_machine.specs.Handles.{handle_row}
use Rattle.sem_machine.specs.Resumes.{resume_row}
use Rattle.sem_machine.specs.Machine.{World, start_side, start, local_step, local_entry, is_locally_enabled, is_enabled, all_events, enabled, after, entry_of}
use Rattle.sem_machine.specs.Schedules.{IsRun, IsSchedule}
use Rattle.sem_machine.specs.Living.{reply_count}
use Rattle.sem_files.specs.declared.files.FileDecl.{FileDecl}
use Rattle.sem_files.specs.declared.files.FileAct.TheVariants.{OpenFile, Write, Close}
use Rattle.sem_files.specs.declared.files.Command.{Command}
use Rattle.sem_files.specs.Files.{is_about, IsCommand}
use Rattle.sem_files.specs.Compiled.{calls_from, extents, compiled, AreFiles}
use Rattle.sem_fs.specs.Openings.{Opening}
use Rattle.sem_fs.specs.Examples.{one_client, first_run, journal_of_one, closed_in_one}

heads : {X : Type 0} (x y : X) (xs ys : List X) → x ∷ xs ≡ y ∷ ys → x ≡ y
heads x y xs ys same = cc same

tails : {X : Type 0} (x y : X) (xs ys : List X) → x ∷ xs ≡ y ∷ ys → xs ≡ ys
tails x y xs ys same = cc same

abbrev opens : Command
opens = record { client = 1; act = OpenFile 0 0 }

abbrev writes : Command
writes = record { client = 1; act = Write 0 4090 10 }

abbrev closes : Command
closes = record { client = 1; act = Close 0 }

opens-so : IsCommand one_client [] opens
unfolding one_client
opens-so = record { client = refl; handle = omega arith; act = (refl, refl, omega arith) }

writes-so : IsCommand one_client (opens ∷ []) writes
unfolding one_client
writes-so = record { client = refl; handle = omega arith; act = (0, refl, omega arith, omega arith, omega arith, omega arith) }

closes-so : IsCommand one_client (opens ∷ writes ∷ []) closes
unfolding one_client
closes-so = record { client = refl; handle = omega arith; act = (0, refl) }

each-command : (before later : List Command) (c : Command) → opens ∷ writes ∷ closes ∷ [] ≡ before ++ c ∷ later → IsCommand one_client before c
each-command [] later c same = subst (IsCommand one_client []) (heads opens c (writes ∷ closes ∷ []) later same) opens-so
each-command (a ∷ []) later c same =
    let first : opens ≡ a = heads opens a (writes ∷ closes ∷ []) (c ∷ later) same in
    let rest = tails opens a (writes ∷ closes ∷ []) (c ∷ later) same in
    subst (λ x. IsCommand one_client (x ∷ []) c) first (subst (IsCommand one_client (opens ∷ [])) (heads writes c (closes ∷ []) later rest) writes-so)
each-command (a ∷ b ∷ []) later c same =
    let first : opens ≡ a = heads opens a (writes ∷ closes ∷ []) (b ∷ c ∷ later) same in
    let rest = tails opens a (writes ∷ closes ∷ []) (b ∷ c ∷ later) same in
    let second : writes ≡ b = heads writes b (closes ∷ []) (c ∷ later) rest in
    let last = tails writes b (closes ∷ []) (c ∷ later) rest in
    subst (λ x. IsCommand one_client (x ∷ b ∷ []) c) first
    (subst (λ x. IsCommand one_client (opens ∷ x ∷ []) c) second (subst (IsCommand one_client (opens ∷ writes ∷ [])) (heads closes c [] later last) closes-so))
each-command (a ∷ b ∷ d ∷ before) later c same =
    let rest = tails opens a (writes ∷ closes ∷ []) (b ∷ d ∷ (before ++ c ∷ later)) same in
    let last = tails writes b (closes ∷ []) (d ∷ (before ++ c ∷ later)) rest in
    absurd (none before (tails closes d [] (before ++ c ∷ later) last))
  where
    none : (xs : List Command) → [] ≡ xs ++ c ∷ later → ⊥
    none [] same = absurd cc
    none (x ∷ xs) same = absurd cc

pub files-of-one : AreFiles one_client
unfolding one_client calls_from
files-of-one = record {
  some_kernel = omega arith;
  few_kernels = omega arith;
  files = All-cons (λ (d : FileDecl). (d.file ≤ 15) × (1 ≤ d.extents) × (d.extents ≤ 4)) (record { file = 0; extents = 2 }) [] (
    omega arith,
    omega arith,
    omega arith,
  )
      (All-nil (λ (d : FileDecl). (d.file ≤ 15) × (1 ≤ d.extents) × (d.extents ≤ 4)));
  files_differ = λ i j d less within. absurd (omega (arith, less, within));
  clients = All-cons (λ v. (1 ≤ v) × (v ≤ 63)) 1 [] (omega arith, omega arith) (All-nil (λ v. (1 ≤ v) × (v ≤ 63)));
  clients_differ = λ i j d less within. absurd (omega (arith, less, within));
  commands = λ before later c parts. each-command before later c parts;
  few_calls = omega arith;
}

-- Where always the first enabled event happens, that is a run.
first-runs : (T : Setup) (n : ℕ) (W : World) (es : List Event) → ((e : Event) → Contains es e → is_enabled T W e ≡ true) → IsRun T W (first_run T n W es)
unfolding first_run IsRun entry_of local_entry enabled
first-runs T zero W es all = tt
first-runs T (suc n) W [] all = tt
first-runs T (suc n) W (e ∷ es) all = (
  all e (Contains-head e es),
  refl,
  first-runs T n (after T W e) (enabled T (after T W e))
      (λ x among. (Contains-from_filter (is_enabled T (after T W e)) (all_events T) x among).1),
)

pub schedule-of-one : IsSchedule (compiled one_client) journal_of_one
unfolding enabled
schedule-of-one = first-runs (compiled one_client) 100 (start (compiled one_client)) (enabled (compiled one_client) (start (compiled one_client)))
    (λ x among. (Contains-from_filter (is_enabled (compiled one_client) (start (compiled one_client))) (all_events (compiled one_client)) x among).1)

nine-replies : reply_count journal_of_one 1 ≡ 9
unfolding one_client calls_from extents compiled first_run put in_turn unless services_from grow closed_here finish opened ended call_row upcall_row
    handle_row resume_row start_side start local_step local_entry is_locally_enabled is_enabled enabled after entry_of
nine-replies = refl

write-stays : (c : Command) → Contains (writes ∷ []) c → is_about 1 0 c ≡ true → c.act ≡ Close 0 → ⊥
write-stays c among about same = elim (Contains-cons_cases writes [] c among) [
  | inl this ↦ apart (ap (λ (x : Command). x.act) this) same
  | inr none ↦ Contains-nil c none
]
  where
    apart : Write 0 4090 10 ≡ c.act → c.act ≡ Close 0 → ⊥
    apart one two = absurd cc

opening-of-one : Opening one_client
unfolding one_client
opening-of-one = record { client = 1; handle = 0; file = 0; before = []; later = writes ∷ closes ∷ []; among = refl }

pub closed-in-one : closed_in_one
unfolding one_client calls_from opening-of-one
closed-in-one = (
  opening-of-one,
  record {
    closing = record { between = writes ∷ []; behind = []; among = refl; stays_open = write-stays };
    last = 1;
    is_last = refl;
    answered = (let nine = nine-replies in omega (arith, nine));
  },
)
