-- One line more is read.
use Rattle.std.proofs.Common.{◌≡◌, ℕ, Bool, true, false, cond, List, [], ◌∷◌, ◌++◌, map, Option, Some, None, refl, ap, sym, subst, ◌∙◌}
use Rattle.std.specs.List.{filter_map, cons_option}
use Rattle.sem_trace.specs.declared.fault.LineFault.{LineFault}
use Rattle.sem_trace.specs.declared.fault.Cause.TheVariants.{TooMany}
use Rattle.sem_trace.specs.Forms.{word_fault, whole_line}
use Rattle.sem_trace.specs.Declarations.{number_at}
use Rattle.sem_files.specs.declared.lines.FileLine.{FileLine}
use Rattle.sem_files.specs.declared.lines.FileLine.TheVariants.{Kernels, File, Client, Do, End}
use Rattle.sem_files.specs.declared.reader.Stage.{Stage}
use Rattle.sem_files.specs.declared.reader.Stage.TheVariants.{Start, Named, Open, Ended}
use Rattle.sem_files.specs.declared.tables.Tables.{Tables}
use Rattle.sem_files.specs.Files.{Files}
use Rattle.sem_files.specs.FileForms.{first_form, second_form, form}
use Rattle.sem_files.specs.Said.{said, files_of, said_file, said_client, said_command, is_end, is_ended}
use Rattle.sem_files.specs.FileContext.{context_fault}
use Rattle.sem_files.specs.FileRefusal.{body_fault, words_fault}
use Rattle.sem_files.specs.OneMore.{with_file_line}
use Rattle.sem_files.specs.Tells.{files_in}
use Rattle.sem_files.specs.Reads.{IsOpened, IsReadTo}
use Rattle.sem_files.proofs.Lists.{any_more}

-- What is said with one line more.

module _ {Y : Type 0} (h : FileLine → Option Y) where
  cons_option-append : (o : Option Y) (ys zs : List Y) → cons_option o (ys ++ zs) ≡ cons_option o ys ++ zs
  cons_option-append None ys zs = refl
  cons_option-append (Some x) ys zs = refl

  given_more : (ls : List FileLine) (l : FileLine) → filter_map h (ls ++ l ∷ []) ≡ filter_map h ls ++ cons_option (h l) []
  given_more [] l = refl
  given_more (k ∷ ks) l = ap (cons_option (h k)) (given_more ks l) ∙ cons_option-append (h k) (filter_map h ks) (cons_option (h l) [])

  given_none : (ls : List FileLine) (l : FileLine) → h l ≡ None → filter_map h (ls ++ l ∷ []) ≡ filter_map h ls
  given_none [] l none = rw none refl
  given_none (k ∷ ks) l none = ap (cons_option (h k)) (given_none ks l none)

pub files_of-more : (kernels : ℕ) (ls : List FileLine) (l : FileLine) → files_of kernels (ls ++ l ∷ []) ≡ with_file_line (files_of kernels ls) l
unfolding files_of
files_of-more kernels ls (Kernels n) = rw (
  given_none said_file ls (Kernels n) refl,
  given_none said_client ls (Kernels n) refl,
  given_none said_command ls (Kernels n) refl,
) refl
files_of-more kernels ls (File d) = rw (
  given_more said_file ls (File d),
  given_none said_client ls (File d) refl,
  given_none said_command ls (File d) refl,
) refl
files_of-more kernels ls (Client v) = rw (
  given_none said_file ls (Client v) refl,
  given_more said_client ls (Client v),
  given_none said_command ls (Client v) refl,
) refl
files_of-more kernels ls (Do c) = rw (given_none said_file ls (Do c) refl, given_none said_client ls (Do c) refl, given_more said_command ls (Do c)) refl
files_of-more kernels ls End = rw (given_none said_file ls End refl, given_none said_client ls End refl, given_none said_command ls End refl) refl

map-push : {X Y : Type 0} (f : X → Y) (xs : List X) (x : X) → map f (xs ++ x ∷ []) ≡ map f xs ++ f x ∷ []
map-push f [] x = refl
map-push f (y ∷ ys) x = ap (λ zs. f y ∷ zs) (map-push f ys x)

ended-push : (ls : List FileLine) (l : FileLine) → is_ended ls ≡ false → is_ended (ls ++ l ∷ []) ≡ is_end l
unfolding is_ended
ended-push ls l not_yet = any_more is_end ls l ∙ (rw not_yet refl)

-- The first line and the second.

pub first_line : (stage : Stage) (lines : List (List (List ℕ))) (words : List (List ℕ)) (t : Tables) → stage ≡ Start → IsReadTo stage lines t →
    word_fault first_form words ≡ None → (words_fault lines words ≡ None) × IsReadTo Named (lines ++ words ∷ []) t
unfolding words_fault
first_line stage lines words t at read fits =
    let start : lines ≡ [] = subst (λ (s : Stage). IsReadTo s lines t) at read in
    (rw start fits, (words, rw start refl))

pub first_refused : (stage : Stage) (lines : List (List (List ℕ))) (words : List (List ℕ)) (t : Tables) (cause : LineFault) → stage ≡ Start →
    word_fault first_form words ≡ Some cause → IsReadTo stage lines t → words_fault lines words ≡ Some cause
unfolding words_fault
first_refused stage lines words t cause at fault read =
    let start : lines ≡ [] = subst (λ (s : Stage). IsReadTo s lines t) at read in
    rw start fault

pub second_line : (stage : Stage) (lines : List (List (List ℕ))) (words : List (List ℕ)) (t new : Tables) (kernels : ℕ) → stage ≡ Named →
    IsReadTo stage lines t → word_fault second_form words ≡ None → kernels ≡ number_at words 1 → files_in new ≡ files_of kernels [] →
    (words_fault lines words ≡ None) × IsReadTo Open (lines ++ words ∷ []) new
unfolding words_fault is_ended
second_line stage lines words t new kernels at read fits is says =
    let named : IsReadTo Named lines t = subst (λ (s : Stage). IsReadTo s lines t) at read in (
      rw named.1 fits,
      record {
        first = named.0;
        second = words;
        earlier = [];
        are = ap (λ (ls : List (List (List ℕ))). ls ++ words ∷ []) named.1;
        says = says ∙ ap (λ k. files_of k []) is;
        last = refl;
      },
    )

pub second_refused : (stage : Stage) (lines : List (List (List ℕ))) (words : List (List ℕ)) (t : Tables) (cause : LineFault) → stage ≡ Named →
    word_fault second_form words ≡ Some cause → IsReadTo stage lines t → words_fault lines words ≡ Some cause
unfolding words_fault
second_refused stage lines words t cause at fault read =
    let named : IsReadTo Named lines t = subst (λ (s : Stage). IsReadTo s lines t) at read in
    rw named.1 fault

-- A line behind the second.

stage_read : (b : Bool) (lines : List (List (List ℕ))) (t : Tables) → IsOpened lines t b → IsReadTo (cond b Ended Open) lines t
stage_read true lines t opened = opened
stage_read false lines t opened = opened

-- what a reader behind the first lines has read
pub opened : (stage : Stage) (lines : List (List (List ℕ))) (t : Tables) → stage ≡ Open → IsReadTo stage lines t → IsOpened lines t false
opened stage lines t at read = subst (λ (s : Stage). IsReadTo s lines t) at read

pub open_line : (lines : List (List (List ℕ))) (words : List (List ℕ)) (t after : Tables) (l : FileLine) → IsOpened lines t false →
    word_fault (form words) words ≡ None → l ≡ said words → context_fault (files_in t) l ≡ None → files_in after ≡ with_file_line (files_in t) l →
    (words_fault lines words ≡ None) × IsReadTo (cond (is_end l) Ended Open) (lines ++ words ∷ []) after
unfolding words_fault body_fault
open_line lines words t after l read fits is accepted entered =
    let more : map said (read.earlier ++ words ∷ []) ≡ map said read.earlier ++ l ∷ [] = map-push said read.earlier words
    ∙ ap (λ (k : FileLine). map said read.earlier ++ k ∷ []) (sym is) in
    let fine : context_fault (files_of (number_at read.second 1) (map said read.earlier)) l ≡ None =
    subst (λ (F : Files). context_fault F l ≡ None) read.says accepted in (
      rw (read.are, read.last, fits, ← is) fine,
      stage_read (is_end l) (lines ++ words ∷ []) after (record {
        first = read.first;
        second = read.second;
        earlier = read.earlier ++ words ∷ [];
        are = rw read.are refl;
        says = entered ∙ (ap (λ (F : Files). with_file_line F l) read.says ∙ (rw more (sym (files_of-more (number_at read.second 1) (map said read.earlier) l))));
        last = rw more (ended-push (map said read.earlier) l read.last);
      }),
    )

pub open_ill_formed : (lines : List (List (List ℕ))) (words : List (List ℕ)) (t : Tables) (cause : LineFault) → IsOpened lines t false →
    word_fault (form words) words ≡ Some cause → words_fault lines words ≡ Some cause
unfolding words_fault body_fault
open_ill_formed lines words t cause read fault = rw (read.are, read.last, fault) refl

pub open_refused : (lines : List (List (List ℕ))) (words : List (List ℕ)) (t : Tables) (l : FileLine) (cause : LineFault) → IsOpened lines t false →
    word_fault (form words) words ≡ None → l ≡ said words → context_fault (files_in t) l ≡ Some cause → words_fault lines words ≡ Some cause
unfolding words_fault body_fault
open_refused lines words t l cause read fits is fault =
    let bad : context_fault (files_of (number_at read.second 1) (map said read.earlier)) l ≡ Some cause =
    subst (λ (F : Files). context_fault F l ≡ Some cause) read.says fault in
    rw (read.are, read.last, fits, ← is) bad

pub ended_refused : (stage : Stage) (lines : List (List (List ℕ))) (words : List (List ℕ)) (t : Tables) → stage ≡ Ended → IsReadTo stage lines t →
    words_fault lines words ≡ Some (whole_line TooMany)
unfolding words_fault body_fault
ended_refused stage lines words t at read =
    let ended : IsOpened lines t true = subst (λ (s : Stage). IsReadTo s lines t) at read in
    rw (ended.are, ended.last) refl
