-- What is declared stays as it is where more is declared.
use Rattle.std.proofs.Common.{◌≡◌, ℕ, ◌==◌, inl, inr, Bool, true, false, true≢false, cond, List, [], ◌∷◌, ◌++◌, Option, Some, None, refl, ap, sym, ◌∙◌, subst}
use Rattle.std.proofs.Common.{arith, append_assoc, append-nil, eqb-true}
use Rattle.std.specs.List.{list_any, find}
use Rattle.std.specs.Option.{is_some, unwrap_or}
use Rattle.std.proofs.lemmas.Bool.{cases_Bool}
use Rattle.std.proofs.lemmas.Option.{none-some, same_Some}
use Rattle.sem_files.specs.declared.files.FileAct.{FileAct}
use Rattle.sem_files.specs.declared.files.FileAct.TheVariants.{OpenFile, Read, Write, Share, Close}
use Rattle.sem_files.specs.declared.files.Command.{Command}
use Rattle.sem_files.specs.Files.{Files, is_file, is_client, extents_of, is_about, open_file, open_after, file_of, IsAct, IsRange, IsCommand}
use Rattle.sem_files.specs.Compiled.{calls_from}
use Rattle.sem_files.proofs.OpenHandles.{open_file-more}

-- G declares what F declares
pub record Keeps (F G : Files) : Type 0 where
  pub client : (v : ℕ) → is_client F v ≡ true → is_client G v ≡ true
  pub file : (f : ℕ) → is_file F f ≡ true → is_file G f ≡ true
  pub extents : (f : ℕ) → is_file F f ≡ true → extents_of G f ≡ extents_of F f

module _ {X : Type 0} (p : X → Bool) where
  pub any_kept : (xs : List X) (x : X) → list_any p xs ≡ true → list_any p (xs ++ x ∷ []) ≡ true
  any_kept [] x any = absurd (true≢false (sym any))
  any_kept (y ∷ ys) x any =
      elim (cases_Bool (p y)) [
        | inl yes' ↦ rw yes' refl
        | inr no' ↦ rw no' (any_kept ys x (rw no' at any))
      ]

  pub find_kept : (xs : List X) (x : X) → list_any p xs ≡ true → find p (xs ++ x ∷ []) ≡ find p xs
  find_kept [] x any = absurd (true≢false (sym any))
  find_kept (y ∷ ys) x any =
      elim (cases_Bool (p y)) [
        | inl yes' ↦ rw yes' refl
        | inr no' ↦ rw no' (find_kept ys x (rw no' at any))
      ]

  pub find_none : (xs : List X) → list_any p xs ≡ false → find p xs ≡ None
  find_none [] none = refl
  find_none (y ∷ ys) none =
      elim (cases_Bool (p y)) [
        | inl yes' ↦ absurd (true≢false (rw yes' at none))
        | inr no' ↦ rw no' (find_none ys (rw no' at none))
      ]

  pub find_some : (xs : List X) → is_some (find p xs) ≡ list_any p xs
  find_some [] = refl
  find_some (y ∷ ys) =
      elim (cases_Bool (p y)) [
        | inl yes' ↦ rw yes' refl
        | inr no' ↦ rw no' (find_some ys)
      ]

-- a file that is not declared has no extents
pub no_extents : (F : Files) (f : ℕ) → is_file F f ≡ false → extents_of F f ≡ 0
no_extents F f none = rw (find_none (λ d. d.file == f) F.files none) refl

range_kept : (F G : Files) (before : List Command) (v h off len : ℕ) → Keeps F G → IsRange F before v h off len → IsRange G before v h off len
range_kept F G before v h off len keeps (f, open', off', some, few, within) =
    elim (cases_Bool (is_file F f)) [
      | inl declared ↦ (f, open', off', some, few, rw (keeps.extents f declared) within)
      | inr none ↦ absurd (let no' : extents_of F f ≡ 0 = no_extents F f none in omega arith)
    ]

act_kept : (F G : Files) (before : List Command) (v : ℕ) (act : FileAct) → Keeps F G → IsAct F before v act → IsAct G before v act
act_kept F G before v (OpenFile handle file) keeps (declared, closed, few) = (keeps.file file declared, closed, few)
act_kept F G before v (Read handle off len) keeps range = range_kept F G before v handle off len keeps range
act_kept F G before v (Write handle off len) keeps range = range_kept F G before v handle off len keeps range
act_kept F G before v (Share handle to other) keeps (open', known, differs, small, unused) = (open', keeps.client to known, differs, small, unused)
act_kept F G before v (Close handle) keeps open' = open'

-- a command that may come next still may
pub command_kept : (F G : Files) (before : List Command) (c : Command) → Keeps F G → IsCommand F before c → IsCommand G before c
command_kept F G before c keeps is = record {
  client = keeps.client c.client is.client;
  handle = is.handle;
  act = act_kept F G before c.client c.act keeps is.act;
}

-- handles are open on declared files alone
abbrev pub OpensFiles : Files → List Command → Type 0
OpensFiles F before = (v h f : ℕ) → open_file before v h ≡ Some f → is_file F f ≡ true

opened_by : (F : Files) (before : List Command) (u f : ℕ) (act : FileAct) (o : Option ℕ) → IsAct F before u act → (o ≡ Some f → is_file F f ≡ true) →
    open_after o act ≡ Some f → is_file F f ≡ true
opened_by F before u f (OpenFile handle file) o is old opened = subst (λ g. is_file F g ≡ true) (same_Some file f opened) is.0
opened_by F before u f (Read handle off len) o is old opened = old opened
opened_by F before u f (Write handle off len) o is old opened = old opened
opened_by F before u f (Share handle to other) o is old opened = old opened
opened_by F before u f (Close handle) o is old opened = absurd (none-some f opened)

pub opens_more : (F : Files) (before : List Command) (c : Command) → OpensFiles F before → IsCommand F before c → OpensFiles F (before ++ c ∷ [])
opens_more F before c opens is v h f opened =
    let after : cond (is_about v h c) (open_after (open_file before v h) c.act) (open_file before v h) ≡ Some f = sym (open_file-more before c v h) ∙ opened in
    elim (cases_Bool (is_about v h c)) [
      | inl about ↦ opened_by F before c.client f c.act (open_file before v h) is.act (opens v h f) (rw about at after)
      | inr other ↦ opens v h f (rw other at after)
    ]

opened_file : (F : Files) (before : List Command) (v h f : ℕ) → OpensFiles F before → open_file before v h ≡ Some f →
    is_file F (unwrap_or (open_file before v h) 0) ≡ true
opened_file F before v h f opens opened = rw opened (opens v h f opened)

act_file : (F : Files) (before : List Command) (v : ℕ) (act : FileAct) → OpensFiles F before → IsAct F before v act → is_file F (file_of before v act) ≡ true
act_file F before v (OpenFile handle file) opens is = is.0
act_file F before v (Read handle off len) opens is = opened_file F before v handle is.0 opens is.1
act_file F before v (Write handle off len) opens is = opened_file F before v handle is.0 opens is.1
act_file F before v (Share handle to other) opens is = opened_file F before v handle is.0.0 opens is.0.1
act_file F before v (Close handle) opens is = opened_file F before v handle is.0 opens is.1

-- each of the commands may come behind those before it
abbrev pub MayCome : Files → (before cs : List Command) → Type 0
MayCome F before cs = (b l : List Command) (c : Command) → cs ≡ b ++ c ∷ l → IsCommand F (before ++ b) c

pub first_comes : (F : Files) (before cs : List Command) (c : Command) → MayCome F before (c ∷ cs) → IsCommand F before c
first_comes F before cs c may = subst (λ b. IsCommand F b c) (append-nil before) (may [] cs c refl)

pub rest_comes : (F : Files) (before cs : List Command) (c : Command) → MayCome F before (c ∷ cs) → MayCome F (before ++ c ∷ []) cs
rest_comes F before cs c may b l d is =
    subst (λ bs. IsCommand F bs d) (sym (append_assoc before (c ∷ []) b)) (may (c ∷ b) l d (ap (λ ds. c ∷ ds) is))

-- a client that does something is declared
pub begun_known : (F : Files) (v : ℕ) (before cs : List Command) → MayCome F before cs → list_any (λ c. c.client == v) cs ≡ true → is_client F v ≡ true
begun_known F v before [] may begun = absurd (true≢false (sym begun))
begun_known F v before (c ∷ cs) may begun =
    elim (cases_Bool (c.client == v)) [
      | inl own ↦ subst (λ u. is_client F u ≡ true) (eqb-true c.client v own) (first_comes F before cs c may).client
      | inr other ↦ begun_known F v (before ++ c ∷ []) cs (rest_comes F before cs c may) (rw other at begun)
    ]

-- the calls of a client stay the same
pub calls_kept : (F G : Files) (v : ℕ) (before cs : List Command) → Keeps F G → OpensFiles F before → MayCome F before cs →
    calls_from G v before cs ≡ calls_from F v before cs
unfolding calls_from
calls_kept F G v before [] keeps opens may = refl
calls_kept F G v before (c ∷ cs) keeps opens may =
    let first = first_comes F before cs c may in
    let same : extents_of G (file_of before c.client c.act) ≡ extents_of F (file_of before c.client c.act) =
    keeps.extents _ (act_file F before c.client c.act opens first.act) in
    rw (same, calls_kept F G v (before ++ c ∷ []) cs keeps (opens_more F before c opens first) (rest_comes F before cs c may)) refl
