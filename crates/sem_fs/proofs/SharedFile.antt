-- Two clients and a file: the commands stand, the events are a schedule, and behind it the file is closed.
use Rattle.std.proofs.Common.{◌≡◌, ◌≢◌, ℕ, ◌≤◌, ◌++◌, true, List, [], ◌∷◌, refl, sym, ap, ◌∙◌, subst, inl, inr, arith, append_assoc, append-nil}
use Rattle.std.specs.List.{Contains}
use Rattle.std.proofs.lemmas.Bool.{and_parts}
use Rattle.std.proofs.lemmas.List.Elements.{All-nil, All-cons}
use Rattle.std.proofs.lemmas.List.Kept.{AllPairs-cons}
use Rattle.sem_key.specs.Lists.{put, in_turn}
use Rattle.sem_key.specs.Region.{grow}
use Rattle.sem_key.proofs.Members.{Contains-nil, Contains-cons_cases}
use Rattle.sem_msg.specs.Setup.{Setup, services_from}
use Rattle.sem_msg.specs.declared.event.Event.{Event}
use Rattle.sem_machine.specs.Steps.{unless}
use Rattle.sem_machine.specs.Revokes.{finish, closed_here, opened}
use Rattle.sem_machine.specs.Ends.{ended}
use Rattle.sem_machine.specs.Calls.{call_row}
use Rattle.sem_machine.specs.Upcalls.{upcall_row}
use Rattle.sem_machine.specs.Handles.{handle_row}
use Rattle.sem_machine.specs.Resumes.{resume_row}
use Rattle.sem_machine.specs.Machine.{World, start_side, start, local_step, local_entry, is_locally_enabled, is_enabled, after, entry_of}
use Rattle.sem_machine.specs.Schedules.{IsRun, IsSchedule}
use Rattle.sem_machine.specs.Living.{reply_count}
use Rattle.sem_files.specs.declared.files.FileDecl.{FileDecl}
use Rattle.sem_files.specs.declared.files.FileAct.TheVariants.{OpenFile, Write, Share, Close}
use Rattle.sem_files.specs.declared.files.Command.{Command}
use Rattle.sem_files.specs.Files.{is_about, IsCommand}
use Rattle.sem_files.specs.Compiled.{calls_from, extents, compiled, AreFiles}
use Rattle.sem_fs.specs.Openings.{Opening}
use Rattle.sem_fs.specs.SharedFile.{two_clients, shared_events, happened, are_enabled, journal_of_two, closed_in_two, ClosesWhileSharing}

heads : {X : Type 0} (x y : X) (xs ys : List X) → x ∷ xs ≡ y ∷ ys → x ≡ y
heads x y xs ys same = cc same

tails : {X : Type 0} (x y : X) (xs ys : List X) → x ∷ xs ≡ y ∷ ys → xs ≡ ys
tails x y xs ys same = cc same

abbrev opens : Command
opens = record { client = 2; act = OpenFile 0 3 }

abbrev shares : Command
shares = record { client = 2; act = Share 0 1 5 }

abbrev closes : Command
closes = record { client = 2; act = Close 0 }

abbrev opens_too : Command
opens_too = record { client = 1; act = OpenFile 4 3 }

abbrev writes : Command
writes = record { client = 1; act = Write 4 0 100 }

-- Commands one behind the other that may come are file commands.
abbrev EachComes : List Command → List Command → Type 0
EachComes before [] = Unit {0}
EachComes before (c ∷ cs) = IsCommand two_clients before c × EachComes (before ++ c ∷ []) cs

each-comes : (made cs : List Command) → EachComes made cs → (before later : List Command) (c : Command) → cs ≡ before ++ c ∷ later →
    IsCommand two_clients (made ++ before) c
each-comes made [] all [] later c same = absurd cc
each-comes made [] all (a ∷ before) later c same = absurd cc
each-comes made (x ∷ cs) all [] later c same =
    subst (λ zs. IsCommand two_clients zs c) (sym (append-nil made)) (subst (IsCommand two_clients made) (heads x c cs later same) all.0)
each-comes made (x ∷ cs) all (a ∷ before) later c same =
    subst (λ zs. IsCommand two_clients zs c) (append_assoc made (x ∷ []) before ∙ ap (λ y. made ++ y ∷ before) (heads x a cs (before ++ c ∷ later) same))
    (each-comes (made ++ x ∷ []) cs all.1 before later c (tails x a cs (before ++ c ∷ later) same))

all-come : EachComes [] (opens ∷ shares ∷ closes ∷ opens_too ∷ writes ∷ [])
unfolding two_clients
all-come = (
  record { client = refl; handle = omega arith; act = (refl, refl, omega arith) },
  (
    record { client = refl; handle = omega arith; act = ((3, refl), refl, omega arith, omega arith, refl) },
    (
      record { client = refl; handle = omega arith; act = (3, refl) },
      (
        record { client = refl; handle = omega arith; act = (refl, refl, omega arith) },
        (record { client = refl; handle = omega arith; act = (3, refl, omega arith, omega arith, omega arith, omega arith) }, tt),
      ),
    ),
  ),
)

abbrev IsFile : FileDecl → Type 0
IsFile d = (d.file ≤ 15) × (1 ≤ d.extents) × (d.extents ≤ 4)

abbrev IsClient : ℕ → Type 0
IsClient v = (1 ≤ v) × (v ≤ 63)

pub files-of-two : AreFiles two_clients
unfolding two_clients calls_from all-come
files-of-two = record {
  some_kernel = omega arith;
  few_kernels = omega arith;
  files = All-cons IsFile (record { file = 3; extents = 1 }) [] (omega arith, omega arith, omega arith) (All-nil IsFile);
  files_differ = λ i j d less within. absurd (omega (arith, less, within));
  clients = All-cons IsClient 1 (2 ∷ []) (omega arith, omega arith) (All-cons IsClient 2 [] (omega arith, omega arith) (All-nil IsClient));
  clients_differ = AllPairs-cons (λ a b. a ≢ b) 1 (2 ∷ []) (All-cons (λ b. 1 ≢ b) 2 [] (λ same. absurd (omega (arith, same))) (All-nil (λ b. 1 ≢ b)))
      (λ i j d less within. absurd (omega (arith, less, within)));
  commands = each-comes [] (opens ∷ shares ∷ closes ∷ opens_too ∷ writes ∷ []) all-come;
  few_calls = omega arith;
}

-- Events that are enabled in their turn are a run.
enabled-run : (T : Setup) (W : World) (es : List Event) → are_enabled T W es ≡ true → IsRun T W (happened T W es)
unfolding are_enabled happened IsRun entry_of local_entry
enabled-run T W [] all = tt
enabled-run T W (e ∷ es) all =
    let parts = and_parts (is_enabled T W e) (are_enabled T (after T W e) es) all in
    (parts.0, refl, enabled-run T (after T W e) es parts.1)

all-enabled : are_enabled (compiled two_clients) (start (compiled two_clients)) shared_events ≡ true
unfolding two_clients shared_events are_enabled calls_from extents compiled put in_turn unless services_from grow closed_here finish opened ended call_row upcall_row
    handle_row resume_row start_side start local_step is_locally_enabled is_enabled after
all-enabled = refl

pub schedule-of-two : IsSchedule (compiled two_clients) journal_of_two
schedule-of-two = enabled-run (compiled two_clients) (start (compiled two_clients)) shared_events all-enabled

pub closes-while-sharing : ClosesWhileSharing
unfolding two_clients shared_events happened calls_from extents compiled put in_turn unless services_from grow closed_here finish opened ended call_row upcall_row
    handle_row resume_row start_side start local_step local_entry is_locally_enabled is_enabled after entry_of
closes-while-sharing = record {
  closes = refl;
  acknowledged = refl;
  arrived = refl;
  closed = refl;
  writes = refl;
  entries = refl;
  replies_there = refl;
  all_succeed = refl;
}

four-replies : reply_count journal_of_two 2 ≡ 4
unfolding two_clients shared_events happened calls_from extents compiled put in_turn unless services_from grow closed_here finish opened ended call_row upcall_row
    handle_row resume_row start_side start local_step local_entry is_locally_enabled is_enabled after entry_of
four-replies = refl

share-stays : (c : Command) → Contains (shares ∷ []) c → is_about 2 0 c ≡ true → c.act ≡ Close 0 → ⊥
share-stays c among about same = elim (Contains-cons_cases shares [] c among) [
  | inl this ↦ apart (ap (λ (x : Command). x.act) this) same
  | inr none ↦ Contains-nil c none
]
  where
    apart : Share 0 1 5 ≡ c.act → c.act ≡ Close 0 → ⊥
    apart one two = absurd cc

opening-of-two : Opening two_clients
unfolding two_clients
opening-of-two = record { client = 2; handle = 0; file = 3; before = []; later = shares ∷ closes ∷ opens_too ∷ writes ∷ []; among = refl }

pub closed-in-two : closed_in_two
unfolding two_clients calls_from opening-of-two
closed-in-two = (
  opening-of-two,
  record {
    closing = record { between = shares ∷ []; behind = opens_too ∷ writes ∷ []; among = refl; stays_open = share-stays };
    last = 0;
    is_last = refl;
    answered = (let four = four-replies in omega (arith, four));
  },
)
