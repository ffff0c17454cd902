-- One line more is read.
use Rattle.std.proofs.Common.{◌≡◌, ℕ, ◌≤◌, ◌==◌, ◌⊎◌, Bool, true, false, true≢false, cond, not, List, [], ◌∷◌, ◌++◌, map, Some, None, replicate, refl, ap, sym}
use Rattle.std.proofs.Common.{subst, ◌∙◌, inl, inr}
use Rattle.std.proofs.lemmas.Bool.{cases_Bool}
use Rattle.sem_key.specs.MembershipTable.{MembershipTable}
use Rattle.sem_msg.specs.Versions.{most_kernels}
use Rattle.sem_trace.specs.declared.fault.LineFault.{LineFault}
use Rattle.sem_trace.specs.declared.fault.Cause.TheVariants.{TooMany}
use Rattle.sem_trace.specs.declared.declaration.Declaration.{Declaration}
use Rattle.sem_trace.specs.Forms.{word_fault, whole_line, first_form, second_form, third_form, form}
use Rattle.sem_trace.specs.Declarations.{number_at, declaration}
use Rattle.sem_trace.specs.Earlier.{window_in, owner_in, is_end, is_ended}
use Rattle.sem_trace.specs.Context.{context_fault}
use Rattle.sem_trace.specs.Refusal.{version_in, is_third, body_fault, words_fault}
use Rattle.sem_reader.specs.declared.reader.Stage.{Stage}
use Rattle.sem_reader.specs.declared.reader.Stage.TheVariants.{Start, Named, Counted, Open, Ended}
use Rattle.sem_reader.specs.declared.tables.Tables.{Tables}
use Rattle.sem_trace.specs.Readers.{IsWindowLine}
use Rattle.sem_trace.proofs.Nodes.{some_kernel}
use Rattle.sem_reader.specs.Tells.{Tells}
use Rattle.sem_reader.specs.Reads.{IsOpened, IsReadTo}
use Rattle.sem_reader.proofs.OneMore.{accepted_none, is_ended-same, is_ended-new}
use Rattle.sem_reader.proofs.Empty.{entry}

owner_in-none : (p : ℕ) → owner_in [] p ≡ None
unfolding owner_in
owner_in-none p = refl

-- the version is told
pub tells_version : (version : ℕ) (t : Tables) → (version ≡ 1) ⊎ (version ≡ 2) → Tells 1 1 [] t → Tells version 1 [] (record t { version = version })
tells_version version t versions told = record {
  versions = versions;
  some = told.some;
  few = some_kernel version;
  accepted = accepted_none version 1;
  same_version = refl;
  window = told.window;
  number = told.number;
  owner = told.owner;
  pe = told.pe;
  taken = told.taken;
  root = told.root;
  call = told.call;
  count = told.count;
  few_calls = told.few_calls;
  named = told.named;
  offer = told.offer;
  denied = told.denied;
  kill = told.kill;
}

-- so many kernels, and nothing is declared
pub tells_kernels : (version kernels n : ℕ) (t : Tables) (owners : MembershipTable) → 1 ≤ kernels → kernels ≤ most_kernels version →
    owners ≡ record { kernels = kernels; owners = replicate n None } → Tells version 1 [] t → Tells version kernels [] (record t { owners = owners })
tells_kernels version kernels n t owners some few is told = record {
  versions = told.versions;
  some = some;
  few = few;
  accepted = accepted_none version kernels;
  same_version = told.same_version;
  window = told.window;
  number = ap (λ (m : MembershipTable). m.kernels) is;
  owner = λ p. entry owners.owners n None p (ap (λ (m : MembershipTable). m.owners) is) ∙ sym (owner_in-none p);
  pe = told.pe;
  taken = told.taken;
  root = told.root;
  call = told.call;
  count = told.count;
  few_calls = told.few_calls;
  named = told.named;
  offer = told.offer;
  denied = told.denied;
  kill = told.kill;
}

pub first_line : (stage : Stage) (lines : List (List (List ℕ))) (words : List (List ℕ)) (t : Tables) (version : ℕ) → stage ≡ Start → IsReadTo stage lines t →
    word_fault first_form words ≡ None → version ≡ version_in words → (version ≡ 1) ⊎ (version ≡ 2) →
    (words_fault lines words ≡ None) × IsReadTo Named (lines ++ words ∷ []) (record t { version = version })
unfolding words_fault
first_line stage lines words t version at read fits is versions =
    let start : IsReadTo Start lines t = subst (λ (s : Stage). IsReadTo s lines t) at read in
    (rw start.0 fits, (words, rw start.0 refl, subst (λ (v : ℕ). Tells v 1 [] (record t { version = version })) is (tells_version version t versions start.1)))

pub first_refused : (stage : Stage) (lines : List (List (List ℕ))) (words : List (List ℕ)) (t : Tables) (cause : LineFault) → stage ≡ Start →
    word_fault first_form words ≡ Some cause → IsReadTo stage lines t → words_fault lines words ≡ Some cause
unfolding words_fault
first_refused stage lines words t cause at fault read =
    let start : IsReadTo Start lines t = subst (λ (s : Stage). IsReadTo s lines t) at read in
    rw start.0 fault

-- where the reader is behind the second line
behind_second : (one : Bool) (lines : List (List (List ℕ))) (t : Tables) → IsOpened lines t (not one) false → IsReadTo (cond one Open Counted) lines t
behind_second true lines t opened = opened
behind_second false lines t opened = opened

pub second_line : (stage : Stage) (lines : List (List (List ℕ))) (words : List (List ℕ)) (t : Tables) (kernels n : ℕ) (owners : MembershipTable) →
    stage ≡ Named → IsReadTo stage lines t → word_fault (second_form t.version) words ≡ None → kernels ≡ number_at words 1 → 1 ≤ kernels →
    kernels ≤ most_kernels t.version → owners ≡ record { kernels = kernels; owners = replicate n None } →
    (words_fault lines words ≡ None) × IsReadTo (cond (t.version == 1) Open Counted) (lines ++ words ∷ []) (record t { owners = owners })
unfolding words_fault is_ended
second_line stage lines words t kernels n owners at read fits is some few empty =
    let named : IsReadTo Named lines t = subst (λ (s : Stage). IsReadTo s lines t) at read in
    let same : t.version ≡ version_in named.0 = named.2.same_version in
    let told : Tells (version_in named.0) kernels [] (record t { owners = owners }) =
    tells_kernels (version_in named.0) kernels n t owners some (subst (λ (v : ℕ). kernels ≤ most_kernels v) same few) empty named.2 in (
      rw (named.1, ← same) fits,
      behind_second (t.version == 1) (lines ++ words ∷ []) (record t { owners = owners }) (record {
        first = named.0;
        second = words;
        earlier = [];
        are = ap (λ (ls : List (List (List ℕ))). ls ++ words ∷ []) named.1;
        tells = subst (λ (k : ℕ). Tells (version_in named.0) k [] (record t { owners = owners })) is told;
        due = ap (λ (v : ℕ). not (v == 1)) (sym same);
        said = refl;
      }),
    )

pub second_refused : (stage : Stage) (lines : List (List (List ℕ))) (words : List (List ℕ)) (t : Tables) (cause : LineFault) → stage ≡ Named →
    word_fault (second_form t.version) words ≡ Some cause → IsReadTo stage lines t → words_fault lines words ≡ Some cause
unfolding words_fault
second_refused stage lines words t cause at fault read =
    let named : IsReadTo Named lines t = subst (λ (s : Stage). IsReadTo s lines t) at read in
    rw (named.1, ← named.2.same_version) fault

map-push : {X Y : Type 0} (f : X → Y) (xs : List X) (x : X) → map f (xs ++ x ∷ []) ≡ map f xs ++ f x ∷ []
map-push f [] x = refl
map-push f (y ∷ ys) x = ap (λ zs. f y ∷ zs) (map-push f ys x)

ended-push : (ds : List Declaration) (d : Declaration) → is_ended ds ≡ false → is_ended (ds ++ d ∷ []) ≡ is_end d
ended-push ds d not_yet =
    elim (cases_Bool (is_end d)) [
      | inl ends ↦ is_ended-new ds d ends ∙ sym ends
      | inr goes_on ↦ is_ended-same ds d goes_on ∙ (not_yet ∙ sym goes_on)
    ]

stage_read : (b : Bool) (lines : List (List (List ℕ))) (t : Tables) → IsOpened lines t false b → IsReadTo (cond b Ended Open) lines t
stage_read true lines t opened = opened
stage_read false lines t opened = opened

-- the third line of version 2 comes first behind the second
none_earlier : (version : ℕ) (earlier : List (List (List ℕ))) → is_third version earlier ≡ true → earlier ≡ []
none_earlier version [] due = refl
none_earlier version (line ∷ lines) due = absurd (true≢false (sym due))

third_more : (version : ℕ) (earlier : List (List (List ℕ))) (line : List (List ℕ)) → is_third version (earlier ++ line ∷ []) ≡ false
third_more version [] line = refl
third_more version (l ∷ ls) line = refl

pub counted : (stage : Stage) (lines : List (List (List ℕ))) (t : Tables) → stage ≡ Counted → IsReadTo stage lines t → IsOpened lines t true false
counted stage lines t at read = subst (λ (s : Stage). IsReadTo s lines t) at read

-- nothing is wrong with it
pub window_accepted : (lines : List (List (List ℕ))) (t : Tables) (d : Declaration) → (read : IsOpened lines t true false) → IsWindowLine d →
    context_fault (map declaration read.earlier) d ≡ None
unfolding context_fault window_in
window_accepted lines t d read (window, is) = rw (none_earlier (version_in read.first) read.earlier read.due, is) refl

pub third_line : (lines : List (List (List ℕ))) (words : List (List ℕ)) (t after : Tables) (d : Declaration) → (read : IsOpened lines t true false) →
    word_fault (third_form t.version) words ≡ None → d ≡ declaration words → IsWindowLine d →
    Tells (version_in read.first) (number_at read.second 1) (map declaration read.earlier ++ d ∷ []) after →
    (words_fault lines words ≡ None) × IsReadTo Open (lines ++ words ∷ []) after
unfolding words_fault body_fault is_ended
third_line lines words t after d read fits says window told =
    let same : t.version ≡ version_in read.first = read.tells.same_version in
    let more : map declaration (read.earlier ++ words ∷ []) ≡ map declaration read.earlier ++ d ∷ [] = map-push declaration read.earlier words
    ∙ ap (λ (e : Declaration). map declaration read.earlier ++ e ∷ []) (sym says) in
    let goes_on : is_end d ≡ false = rw window.1 refl in (
      rw (read.are, read.due, ← same) fits,
      record {
        first = read.first;
        second = read.second;
        earlier = read.earlier ++ words ∷ [];
        are = rw read.are refl;
        tells = rw more told;
        due = third_more (version_in read.first) read.earlier words;
        said = rw more (ended-push (map declaration read.earlier) d read.said ∙ goes_on);
      },
    )

pub third_refused : (lines : List (List (List ℕ))) (words : List (List ℕ)) (t : Tables) (cause : LineFault) → (read : IsOpened lines t true false) →
    word_fault (third_form t.version) words ≡ Some cause → words_fault lines words ≡ Some cause
unfolding words_fault body_fault
third_refused lines words t cause read fault = rw (read.are, read.due, ← read.tells.same_version) fault

-- what a reader behind the first lines has read
pub opened : (stage : Stage) (lines : List (List (List ℕ))) (t : Tables) → stage ≡ Open → IsReadTo stage lines t → IsOpened lines t false false
opened stage lines t at read = subst (λ (s : Stage). IsReadTo s lines t) at read

pub open_line : (lines : List (List (List ℕ))) (words : List (List ℕ)) (t after : Tables) (kernels : ℕ) (d : Declaration) →
    (read : IsOpened lines t false false) → kernels ≡ t.owners.kernels → word_fault (form t.version kernels words) words ≡ None → d ≡ declaration words →
    context_fault (map declaration read.earlier) d ≡ None →
    Tells (version_in read.first) (number_at read.second 1) (map declaration read.earlier ++ d ∷ []) after →
    (words_fault lines words ≡ None) × IsReadTo (cond (is_end d) Ended Open) (lines ++ words ∷ []) after
unfolding words_fault body_fault
open_line lines words t after kernels d read is fits says accepted told =
    let number : kernels ≡ number_at read.second 1 = is ∙ read.tells.number in
    let same : t.version ≡ version_in read.first = read.tells.same_version in
    let more : map declaration (read.earlier ++ words ∷ []) ≡ map declaration read.earlier ++ d ∷ [] = map-push declaration read.earlier words
    ∙ ap (λ (e : Declaration). map declaration read.earlier ++ e ∷ []) (sym says) in (
      rw (read.are, read.due, read.said, ← number, ← same, fits, ← says) accepted,
      stage_read (is_end d) (lines ++ words ∷ []) after (record {
        first = read.first;
        second = read.second;
        earlier = read.earlier ++ words ∷ [];
        are = rw read.are refl;
        tells = rw more told;
        due = third_more (version_in read.first) read.earlier words;
        said = rw more (ended-push (map declaration read.earlier) d read.said);
      }),
    )

pub open_ill_formed : (lines : List (List (List ℕ))) (words : List (List ℕ)) (t : Tables) (kernels : ℕ) (cause : LineFault) →
    (read : IsOpened lines t false false) → kernels ≡ t.owners.kernels → word_fault (form t.version kernels words) words ≡ Some cause →
    words_fault lines words ≡ Some cause
unfolding words_fault body_fault
open_ill_formed lines words t kernels cause read is fault =
    let number : kernels ≡ number_at read.second 1 = is ∙ read.tells.number in
    rw (read.are, read.due, read.said, ← number, ← read.tells.same_version, fault) refl

pub open_refused : (lines : List (List (List ℕ))) (words : List (List ℕ)) (t : Tables) (kernels : ℕ) (d : Declaration) (cause : LineFault) →
    (read : IsOpened lines t false false) → kernels ≡ t.owners.kernels → word_fault (form t.version kernels words) words ≡ None → d ≡ declaration words →
    context_fault (map declaration read.earlier) d ≡ Some cause → words_fault lines words ≡ Some cause
unfolding words_fault body_fault
open_refused lines words t kernels d cause read is fits says fault =
    let number : kernels ≡ number_at read.second 1 = is ∙ read.tells.number in
    rw (read.are, read.due, read.said, ← number, ← read.tells.same_version, fits, ← says) fault

pub ended_refused : (stage : Stage) (lines : List (List (List ℕ))) (words : List (List ℕ)) (t : Tables) → stage ≡ Ended → IsReadTo stage lines t →
    words_fault lines words ≡ Some (whole_line TooMany)
unfolding words_fault body_fault
ended_refused stage lines words t at read =
    let ended : IsOpened lines t false true = subst (λ (s : Stage). IsReadTo s lines t) at read in
    rw (ended.are, ended.due, ended.said) refl
