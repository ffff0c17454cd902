-- The calls of a client, command by command.
use Rattle.std.proofs.Common.{◌≡◌, ℕ, ◌+◌, ◌==◌, ◌<◌, ◌≤◌, true, false, List, [], ◌∷◌, ◌++◌, length, take, drop, get_or, Option, refl, sym, ap, ◌∙◌, subst}
use Rattle.std.proofs.Common.{append_assoc, append-nil, eq-eqb, ne_eqb}
use Rattle.std.specs.Prelude.{if◌then◌else◌, unwrap_or}
use Rattle.std.specs.List.{list_any}
use Rattle.std.proofs.lemmas.Bool.{cond-true, cond-false}
use Rattle.std.proofs.lemmas.List.{take_more, drop_all, drop_more, take-append-drop}
use Rattle.sem_msg.specs.declared.call.Call.{Call}
use Rattle.sem_msg.specs.declared.call.Call.TheVariants.{OpenSession}
use Rattle.sem_files.specs.declared.files.FileAct.{FileAct}
use Rattle.sem_files.specs.declared.files.FileAct.TheVariants.{OpenFile, Read, Write, Share, Close}
use Rattle.sem_files.specs.declared.files.Command.{Command}
use Rattle.sem_files.specs.Files.{Files, handle_of, file_of, extents_of, IsAct}
use Rattle.sem_files.specs.Compiled.{SESSION, AreFiles, calls_of_act, calls_of_command, calls_from, client_calls}
use Rattle.sem_files.specs.Handles.{TellsHandles}
use Rattle.sem_files.proofs.OpenHandles.{tells-other}
use Rattle.sem_fs.specs.Acts.{IsPlainAct}
use Rattle.sem_fs.specs.Handling.{file_in}
use Rattle.sem_fs.proofs.Rising.{file-near}

-- Numbers in range.

plain-act : (F : Files) (AF : AreFiles F) (before : List Command) (v : ℕ) (act : FileAct) → handle_of act ≤ 15 → IsAct F before v act → IsPlainAct act
plain-act F AF before v (OpenFile handle file) low is = (low, file-near F AF file is.0)
plain-act F AF before v (Read handle off len) low is = (low, is.2, is.4)
plain-act F AF before v (Write handle off len) low is = (low, is.2, is.4)
plain-act F AF before v (Share handle to other) low is = (low, is.3)
plain-act F AF before v (Close handle) low is = low

plain-handle : (act : FileAct) → IsPlainAct act → handle_of act ≤ 15
plain-handle (OpenFile handle file) is = is.0
plain-handle (Read handle off len) is = is.0
plain-handle (Write handle off len) is = is.0
plain-handle (Share handle to other) is = is.0
plain-handle (Close handle) is = is

-- A place among commands.

-- what a loop over commands reads past their end
abbrev pub first : Command
first = record { client = 0; act = OpenFile 0 0 }

drop-at : (cs : List Command) (i : ℕ) (d c : Command) → i < length cs → get_or cs i d ≡ c → drop i cs ≡ c ∷ drop (i + 1) cs
drop-at cs i d c within here = drop_more cs i d within ∙ ap (λ e. e ∷ drop (i + 1) cs) here

take-at : (cs : List Command) (i : ℕ) (d c : Command) → i < length cs → get_or cs i d ≡ c → take (i + 1) cs ≡ take i cs ++ c ∷ []
take-at cs i d c within here = take_more cs i d within ∙ ap (λ e. take i cs ++ e ∷ []) here

parts-at : (cs : List Command) (i : ℕ) (d c : Command) → i < length cs → get_or cs i d ≡ c → cs ≡ take i cs ++ c ∷ drop (i + 1) cs
parts-at cs i d c within here = sym (take-append-drop i cs) ∙ ap (λ ds. take i cs ++ ds) (drop-at cs i d c within here)

-- the numbers of each command are in range
pub plain-at : (F : Files) → AreFiles F → (i : ℕ) (d c : Command) → i < length F.commands → get_or F.commands i d ≡ c → IsPlainAct c.act
plain-at F AF i d c within here =
    let is = AF.commands (take i F.commands) (drop (i + 1) F.commands) c (parts-at F.commands i d c within here) in
    plain-act F AF (take i F.commands) c.client c.act is.handle is.act

pub handle-at : (F : Files) → AreFiles F → (i : ℕ) (d c : Command) → i < length F.commands → get_or F.commands i d ≡ c → handle_of c.act ≤ 15
handle-at F AF i d c within here = plain-handle c.act (plain-at F AF i d c within here)

-- what the handles tell is the file
same-file : (before : List Command) (v : ℕ) (handles : List (Option ℕ)) (act : FileAct) → TellsHandles before v handles → handle_of act ≤ 15 →
    file_in handles act ≡ file_of before v act
same-file before v handles (OpenFile handle file) told low = refl
same-file before v handles (Read handle off len) told low = ap (λ o. unwrap_or o 0) (told.1 handle low)
same-file before v handles (Write handle off len) told low = ap (λ o. unwrap_or o 0) (told.1 handle low)
same-file before v handles (Share handle to other) told low = ap (λ o. unwrap_or o 0) (told.1 handle low)
same-file before v handles (Close handle) told low = ap (λ o. unwrap_or o 0) (told.1 handle low)

module _ (F : Files) (v : ℕ) where
  abbrev cs : List Command
  cs = F.commands

  -- behind i commands: the calls for the commands to come are still to be appended
  pub record IsBehind (i : ℕ) (before now : List Call) (handles : List (Option ℕ)) : Type 0 where
    pub made : now ++ calls_from F v (take i F.commands) (drop i F.commands) ≡ before ++ calls_from F v [] F.commands
    pub told : TellsHandles (take i F.commands) v handles

  pub none-behind : (before : List Call) (handles : List (Option ℕ)) → TellsHandles [] v handles → IsBehind 0 before before handles
  none-behind before handles told = record { made = refl; told = told }

  no-calls : (before : List Command) → calls_from F v before [] ≡ []
  unfolding calls_from
  no-calls before = refl

  one-command : (before : List Command) (c : Command) (later : List Command) → calls_from F v before (c ∷ later)
      ≡ (if c.client == v then calls_of_command F before c else []) ++ calls_from F v (before ++ c ∷ []) later
  unfolding calls_from
  one-command before c later = refl

  at-command : (i : ℕ) (d c : Command) → i < length cs → get_or cs i d ≡ c → calls_from F v (take i cs) (drop i cs)
      ≡ (if c.client == v then calls_of_command F (take i cs) c else []) ++ calls_from F v (take (i + 1) cs) (drop (i + 1) cs)
  at-command i d c within here =
      ap (calls_from F v (take i cs)) (drop-at cs i d c within here)
      ∙ (one-command (take i cs) c (drop (i + 1) cs)
      ∙ ap (λ bs. (if c.client == v then calls_of_command F (take i cs) c else []) ++ calls_from F v bs (drop (i + 1) cs)) (sym (take-at cs i d c within here)))

  pub all-behind : (i : ℕ) (before now : List Call) (handles : List (Option ℕ)) → IsBehind i before now handles → length F.commands ≤ i
      → now ≡ before ++ calls_from F v [] F.commands
  all-behind i before now handles is all =
      sym (append-nil now)
      ∙ (ap (λ ys. now ++ ys) (sym (ap (calls_from F v (take i cs)) (drop_all i cs all) ∙ no-calls (take i cs)))
      ∙ is.made)

  pub own-behind : (i : ℕ) (d c : Command) (before now after : List Call) (handles later : List (Option ℕ)) → i < length F.commands → get_or F.commands i d ≡ c
      → c.client ≡ v → handle_of c.act ≤ 15 → IsBehind i before now handles
      → after ≡ now ++ calls_of_act (extents_of F (file_in handles c.act)) c.act
      → TellsHandles (take i F.commands ++ record { client = v; act = c.act } ∷ []) v later
      → IsBehind (i + 1) before after later
  own-behind i d c before now after handles later within here mine low is more told =
      let rest : List Call = calls_from F v (take (i + 1) cs) (drop (i + 1) cs) in
      let file : file_in handles c.act ≡ file_of (take i cs) c.client c.act =
      same-file (take i cs) v handles c.act is.told low ∙ ap (λ w. file_of (take i cs) w c.act) (sym mine) in
      let calls : calls_of_act (extents_of F (file_in handles c.act)) c.act ≡ (if c.client == v then calls_of_command F (take i cs) c else []) =
      ap (λ f. calls_of_act (extents_of F f) c.act) file ∙ sym (cond-true (c.client == v) (calls_of_command F (take i cs) c) [] (eq-eqb c.client v mine)) in
      record {
        made =
            ap (λ ys. ys ++ rest) more
            ∙ (append_assoc now (calls_of_act (extents_of F (file_in handles c.act)) c.act) rest
            ∙ (ap (λ ys. now ++ (ys ++ rest)) calls ∙ (ap (λ ys. now ++ ys) (sym (at-command i d c within here)) ∙ is.made)));
        told = subst (λ bs. TellsHandles bs v later)
            (ap (λ w. take i cs ++ record { client = w; act = c.act } ∷ []) (sym mine) ∙ sym (take-at cs i d c within here)) told;
      }

  pub other-behind : (i : ℕ) (d c : Command) (before now : List Call) (handles : List (Option ℕ)) → i < length F.commands → get_or F.commands i d ≡ c
      → (c.client ≡ v → ⊥) → IsBehind i before now handles → IsBehind (i + 1) before now handles
  other-behind i d c before now handles within here other is =
      let rest : List Call = calls_from F v (take (i + 1) cs) (drop (i + 1) cs) in
      let none : (if c.client == v then calls_of_command F (take i cs) c else []) ≡ [] =
      cond-false (c.client == v) (calls_of_command F (take i cs) c) [] (ne_eqb c.client v other) in
      record {
        made = ap (λ ys. now ++ (ys ++ rest)) (sym none) ∙ (ap (λ ys. now ++ ys) (sym (at-command i d c within here)) ∙ is.made);
        told = subst (λ bs. TellsHandles bs v handles) (sym (take-at cs i d c within here))
            (tells-other (take i cs) c v handles (ne_eqb c.client v other) is.told);
      }

  -- who does nothing makes no calls
  pub rests : list_any (λ (c : Command). c.client == v) F.commands ≡ false → client_calls F v ≡ []
  rests none = cond-false (list_any (λ (c : Command). c.client == v) F.commands) (OpenSession SESSION 0 ∷ calls_from F v [] F.commands) [] none

  -- who does anything opens a session first
  pub opens : list_any (λ (c : Command). c.client == v) F.commands ≡ true → client_calls F v ≡ OpenSession SESSION 0 ∷ calls_from F v [] F.commands
  opens some = cond-true (list_any (λ (c : Command). c.client == v) F.commands) (OpenSession SESSION 0 ∷ calls_from F v [] F.commands) [] some
