-- File commands with one line more pass the tests of the grammar.
use Rattle.std.specs.Prelude.{nat_le, nat_lt}
use Rattle.std.proofs.Common.{◌≡◌, ◌≢◌, ℕ, ◌+◌, ◌*◌, ◌<◌, ◌≤◌, ◌==◌, ◌⊎◌, inl, inr, Bool, true, false, true≢false, cond, not, ◌||◌, ◌&&◌, List, [], ◌∷◌, ◌++◌}
use Rattle.std.proofs.Common.{length, Option, Some, None, refl, ap, sym, ◌∙◌, subst, arith, eq-eqb}
use Rattle.std.specs.Option.{is_some, unwrap_or, option_map_or}
use Rattle.std.proofs.lemmas.Bool.{cases_Bool}
use Rattle.std.proofs.lemmas.Bool.Decides.{nat_tests}
use Rattle.std.proofs.lemmas.Option.{none-some}
use Rattle.std.proofs.lemmas.List.Elements.{All-push}
use Rattle.std.proofs.lemmas.List.Folds.{list_any_at}
use Rattle.std.proofs.lemmas.List.Quantifiers.{all_pairs_push}
use Rattle.sem_msg.specs.declared.call.Call.TheVariants.{OpenSession}
use Rattle.sem_msg.specs.declared.limits.TheConstants.{CALLS}
use Rattle.sem_files.specs.declared.files.FileAct.{FileAct}
use Rattle.sem_files.specs.declared.files.FileAct.TheVariants.{OpenFile, Read, Write, Share, Close}
use Rattle.sem_files.specs.declared.files.FileDecl.{FileDecl}
use Rattle.sem_files.specs.declared.files.Command.{Command}
use Rattle.sem_files.specs.declared.lines.FileLine.{FileLine}
use Rattle.sem_files.specs.declared.lines.FileLine.TheVariants.{Kernels, File, Client, Do, End}
use Rattle.sem_files.specs.Files.{Files, EXTENT, is_client, extents_of, open_file, file_of, is_opening, open_count, handle_of, IsAct, IsRange, IsCommand}
use Rattle.sem_files.specs.Compiled.{AreFiles, SESSION, client_calls}
use Rattle.sem_files.specs.FileContext.{is_undeclared, is_astray, is_twice, is_repeated, is_too_long, ends_behind, is_too_much, call_number, with_command}
use Rattle.sem_files.specs.FileContext.{context_fault}
use Rattle.sem_files.specs.FileReads.{IsInRange, IsActInRange, IsSpan}
use Rattle.sem_files.specs.OneMore.{with_file, with_client, with_file_line, is_begun}
use Rattle.sem_files.proofs.Lists.{any_more, sum_of-same}
use Rattle.sem_files.proofs.CallNumbers.{calls_from-same}
use Rattle.sem_files.proofs.Growing.{Keeps, any_kept, find_kept, command_kept, MayCome, OpensFiles, begun_known, calls_kept}

-- No test finds a fault.

no_cond : {Y : Type 0} (b : Bool) (y : Y) (o : Option Y) → cond b (Some y) o ≡ None → (b ≡ false) × (o ≡ None)
no_cond true y o none = absurd (none-some y (sym none))
no_cond false y o none = (refl, none)

pub record IsFine (F : Files) (line : FileLine) : Type 0 where
  pub declared : is_undeclared F line ≡ false
  pub once : is_twice F line ≡ false
  pub within : is_too_long F line ≡ false
  pub few : is_too_much F line ≡ false

pub is_fine : (F : Files) (line : FileLine) → context_fault F line ≡ None → IsFine F line
unfolding context_fault
is_fine F line none =
    let a = no_cond (is_undeclared F line) _ _ none in
    let b = no_cond (is_twice F line) _ _ a.1 in
    let c = no_cond (is_too_long F line) _ _ b.1 in
    let d = no_cond (is_too_much F line) _ _ c.1 in
    record { declared = a.0; once = b.0; within = c.0; few = d.0 }

pub or_false_left : (a b : Bool) → (a || b) ≡ false → a ≡ false
or_false_left true b no' = absurd (true≢false no')
or_false_left false b no' = refl

pub or_false_right : (a b : Bool) → (a || b) ≡ false → b ≡ false
or_false_right true b no' = absurd (true≢false no')
or_false_right false b no' = no'

pub not_false : (b : Bool) → not b ≡ false → b ≡ true
not_false true no' = refl
not_false false no' = absurd (true≢false no')

is_there : (o : Option ℕ) → is_some o ≡ true → (f : ℕ) × (o ≡ Some f)
is_there None some = absurd (true≢false (sym some))
is_there (Some f) some = (f, refl)

is_gone : (o : Option ℕ) → is_some o ≡ false → o ≡ None
is_gone None none = refl
is_gone (Some f) none = absurd (true≢false none)

not_below : (a b : ℕ) → nat_lt a b ≡ false → b ≤ a
not_below a b no' = grind (arith, nat_tests)

not_most : (a b : ℕ) → nat_le a b ≡ false → b < a
not_most a b no' = grind (arith, nat_tests)

-- Commands.

new_range : (F : Files) (v h off len : ℕ) → IsSpan off len → not (is_some (open_file F.commands v h)) ≡ false →
    nat_lt (EXTENT * extents_of F (unwrap_or (open_file F.commands v h) 0)) (off + len) ≡ false → IsRange F F.commands v h off len
new_range F v h off len (begins, some, few) open' within =
    let file = is_there (open_file F.commands v h) (not_false _ open') in
    let ends : nat_lt (EXTENT * extents_of F file.0) (off + len) ≡ false = rw file.1 at within in
    (file.0, file.1, begins, some, few, not_below _ _ ends)

new_act : (F : Files) (v : ℕ) (act : FileAct) → IsActInRange act → is_astray F v act ≡ false → is_repeated F v act ≡ false →
    ends_behind (extents_of F (file_of F.commands v act)) act ≡ false → (is_opening act && nat_le 1000 (open_count F.commands v)) ≡ false →
    IsAct F F.commands v act
new_act F v (OpenFile handle file) small known once within few = (not_false _ known, is_gone _ once, not_most _ _ few)
new_act F v (Read handle off len) small known once within few = new_range F v handle off len small.1 known within
new_act F v (Write handle off len) small known once within few = new_range F v handle off len small.1 known within
new_act F v (Share handle to other) small known once within few = (
  is_there _ (not_false _ (or_false_left _ _ known)),
  not_false _ (or_false_right _ _ known),
  λ same. true≢false (sym (eq-eqb to v same) ∙ or_false_left _ _ once),
  small.2,
  or_false_right _ _ once,
)
new_act F v (Close handle) small known once within few = is_there _ (not_false _ known)

handle_small : (act : FileAct) → IsActInRange act → handle_of act ≤ 15
handle_small (OpenFile handle file) small = small.0
handle_small (Read handle off len) small = small.0
handle_small (Write handle off len) small = small.0
handle_small (Share handle to other) small = small.0
handle_small (Close handle) small = small

-- a command with which nothing is wrong may come next
pub new_command : (F : Files) (c : Command) → IsInRange (Do c) → IsFine F (Do c) → IsCommand F F.commands c
new_command F c ranges fine = record {
  client = not_false _ (or_false_left _ _ fine.declared);
  handle = handle_small c.act ranges.1;
  act = new_act F c.client c.act ranges.1 (or_false_right _ _ fine.declared) fine.once fine.within (or_false_left _ _ fine.few);
}

abbrev is_cons : List Command → Bool
is_cons [] = false
is_cons (x ∷ xs) = true

cons_nil : (x : Command) (xs : List Command) → x ∷ xs ≡ [] → ⊥
cons_nil x xs is = true≢false (ap is_cons is)

-- the last of a list with one element more, or one before it
last_or_before : (cs before after : List Command) (d e : Command) → cs ++ d ∷ [] ≡ before ++ e ∷ after →
    ((cs ≡ before) × (d ≡ e)) ⊎ ((rest : List Command) × (cs ≡ before ++ e ∷ rest))
last_or_before [] [] after d e is = inl (refl, cc)
last_or_before [] (x ∷ []) after d e is = absurd (cons_nil e after (cc))
last_or_before [] (x ∷ y ∷ xs) after d e is = absurd (cons_nil y (xs ++ e ∷ after) (cc))
last_or_before (x ∷ xs) [] after d e is = inr (xs, cc)
last_or_before (x ∷ xs) (y ∷ ys) after d e is =
    let head : x ≡ y = cc in
    elim (last_or_before xs ys after d e (cc)) [
      | inl last ↦ inl (rw (head, last.0) refl, last.1)
      | inr before ↦ inr (before.0, rw (head, before.1) refl)
    ]

all_keep : (F : Files) (c : Command) → Keeps F (with_command F c)
all_keep F c = record { client = λ v known. known; file = λ f known. known; extents = λ f known. refl }

pub still-command : (F : Files) (c : Command) → AreFiles F → IsInRange (Do c) → IsFine F (Do c) → AreFiles (with_command F c)
still-command F c are ranges fine = record {
  some_kernel = are.some_kernel;
  few_kernels = are.few_kernels;
  files = are.files;
  files_differ = are.files_differ;
  clients = are.clients;
  clients_differ = are.clients_differ;
  commands = λ before later d is. elim (last_or_before F.commands before later c d is) [
    | inl last ↦ command_kept F (with_command F c) before d (all_keep F c)
        (subst (λ bs. IsCommand F bs d) last.0 (subst (λ e. IsCommand F F.commands e) last.1 (new_command F c ranges fine)))
    | inr earlier ↦ command_kept F (with_command F c) before d (all_keep F c) (are.commands before earlier.0 d earlier.1)
  ];
  few_calls = not_below CALLS (call_number (with_command F c)) (or_false_right (is_opening c.act && nat_le 1000 (open_count F.commands c.client)) _ fine.few);
}

-- Files.

file_keeps : (F : Files) (d : FileDecl) → Keeps F (with_file F d)
file_keeps F d = record {
  client = λ v known. known;
  file = λ f known. any_kept (λ e. e.file == f) F.files d known;
  extents = λ f known. ap (λ o. option_map_or (λ e. e.extents) o 0) (find_kept (λ e. e.file == f) F.files d known);
}

none_open : (F : Files) → OpensFiles F []
none_open F v h f opened = absurd (none-some f opened)

may_come : (F : Files) → AreFiles F → MayCome F [] F.commands
may_come F are b l c is = are.commands b l c is

-- as many calls with one file more
pub call_number-file : (F : Files) (d : FileDecl) → AreFiles F → call_number (with_file F d) ≡ call_number F
call_number-file F d are =
    sum_of-same (λ v. length (client_calls F v)) (λ v. length (client_calls (with_file F d) v)) (is_client F) (is_client F) 1 63 (λ v low.
    ap (λ calls. cond (is_client F v) (length (cond (is_begun F.commands v) (OpenSession SESSION 0 ∷ calls) [])) 0)
    (calls_kept F (with_file F d) v [] F.commands (file_keeps F d) (none_open F) (may_come F are)))

pub still-file : (F : Files) (d : FileDecl) → AreFiles F → IsInRange (File d) → IsFine F (File d) → AreFiles (with_file F d)
still-file F d are ranges fine = record {
  some_kernel = are.some_kernel;
  few_kernels = are.few_kernels;
  files = All-push (λ e. (e.file ≤ 15) × (1 ≤ e.extents) × (e.extents ≤ 4)) F.files d are.files ranges;
  files_differ = all_pairs_push (λ a b. a.file ≢ b.file) F.files d are.files_differ
      (λ k e within same. true≢false (sym (list_any_at (λ a. a.file == d.file) F.files k e within (eq-eqb _ _ same)) ∙ fine.once));
  clients = are.clients;
  clients_differ = are.clients_differ;
  commands = λ before later c is. command_kept F (with_file F d) before c (file_keeps F d) (are.commands before later c is);
  few_calls = rw (call_number-file F d are) are.few_calls;
}

-- Clients.

client_keeps : (F : Files) (v : ℕ) → Keeps F (with_client F v)
client_keeps F v = record {
  client = λ u known. any_kept (λ w. w == u) F.clients v known;
  file = λ f known. known;
  extents = λ f known. refl;
}

-- as many calls with one client more
pub call_number-client : (F : Files) (v : ℕ) → AreFiles F → is_client F v ≡ false → call_number (with_client F v) ≡ call_number F
call_number-client F v are new =
    sum_of-same (λ u. length (client_calls F u)) (λ u. length (client_calls (with_client F v) u)) (is_client F) (is_client (with_client F v)) 1 63 (λ u low.
    let calls : client_calls (with_client F v) u ≡ client_calls F u = ap (λ calls. cond (is_begun F.commands u) (OpenSession SESSION 0 ∷ calls) [])
    (calls_from-same F (with_client F v) u [] F.commands (λ f. refl)) in
    let known : is_client (with_client F v) u ≡ (is_client F u || (v == u)) = any_more (λ w. w == u) F.clients v in
    rw (calls, known) (counts u))
  where
    idle : (u : ℕ) → is_client F u ≡ false → length (client_calls F u) ≡ 0
    idle u unknown =
        elim (cases_Bool (is_begun F.commands u)) [
          | inl begun ↦ absurd (true≢false (sym (begun_known F u [] F.commands (may_come F are) begun) ∙ unknown))
          | inr none ↦ rw none refl
        ]

    counts : (u : ℕ) → cond (is_client F u || (v == u)) (length (client_calls F u)) 0 ≡ cond (is_client F u) (length (client_calls F u)) 0
    counts u =
        elim (cases_Bool (is_client F u)) [
          | inl known ↦ rw known refl
          | inr unknown ↦ elim (cases_Bool (v == u)) [
            | inl same ↦ rw (unknown, same) (idle u unknown)
            | inr other ↦ rw (unknown, other) refl
          ]
        ]

pub still-client : (F : Files) (v : ℕ) → AreFiles F → IsInRange (Client v) → IsFine F (Client v) → AreFiles (with_client F v)
still-client F v are ranges fine = record {
  some_kernel = are.some_kernel;
  few_kernels = are.few_kernels;
  files = are.files;
  files_differ = are.files_differ;
  clients = All-push (λ u. (1 ≤ u) × (u ≤ 63)) F.clients v are.clients ranges;
  clients_differ = all_pairs_push (λ a b. a ≢ b) F.clients v are.clients_differ
      (λ k u within same. true≢false (sym (list_any_at (λ w. w == v) F.clients k u within (eq-eqb _ _ same)) ∙ fine.once));
  commands = λ before later c is. command_kept F (with_client F v) before c (client_keeps F v) (are.commands before later c is);
  few_calls = rw (call_number-client F v are fine.once) are.few_calls;
}

-- whatever the line says
pub still : (F : Files) (line : FileLine) → AreFiles F → IsInRange line → context_fault F line ≡ None → AreFiles (with_file_line F line)
still F (Kernels kernels) are ranges none = absurd (true≢false (is_fine F (Kernels kernels) none).once)
still F (File declared) are ranges none = still-file F declared are ranges (is_fine F (File declared) none)
still F (Client v) are ranges none = still-client F v are ranges (is_fine F (Client v) none)
still F (Do c) are ranges none = still-command F c are ranges (is_fine F (Do c) none)
still F End are ranges none = are
