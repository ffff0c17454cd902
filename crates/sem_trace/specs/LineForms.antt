-- How a line after the second stands to its name, its numbers and what follows them.
use Rattle.std.specs.Prelude.{◌≡◌, ℕ, suc, ◌≤◌, ◌==◌, false, List, [], ◌++◌, map, length, take, codes}
use Rattle.std.specs.Prelude.{slice_index, slice_index_or, if◌then◌else◌}
use Rattle.sem_trace.specs.declared.declaration.Declaration.{Declaration}
use Rattle.sem_trace.specs.declared.declaration.Declaration.TheVariants.{Kernels, Window, Pe, Vpe, Memory, Receive}
use Rattle.sem_trace.specs.declared.declaration.Declaration.TheVariants.{Service, Offer, Deny, Kill, End}
use Rattle.sem_trace.specs.declared.line_forms.PlainKind.{PlainKind}
use Rattle.sem_trace.specs.declared.line_forms.PlainKind.TheVariants.{Kernels as TheKernels, Window as TheWindow}
use Rattle.sem_trace.specs.declared.line_forms.PlainKind.TheVariants.{Pe as ThePe, Vpe as TheVpe, Offer as TheOffer}
use Rattle.sem_trace.specs.declared.line_forms.PlainKind.TheVariants.{Service as TheService, Deny as TheDeny}
use Rattle.sem_trace.specs.declared.line_forms.PlainKind.TheVariants.{Kill as TheKill, End as TheEnd}
use Rattle.sem_trace.specs.declared.line_forms.LineKind.{LineKind}
use Rattle.sem_trace.specs.declared.line_forms.LineKind.TheVariants.{Plain, Root, Call}
use Rattle.sem_trace.specs.declared.line_forms.LineForm.{LineForm}
use Rattle.sem_trace.specs.declared.line_forms.RootKind.{RootKind}
use Rattle.sem_trace.specs.declared.line_forms.RootKind.TheVariants.{Memory as TheMemory, Receive as TheReceive}
use Rattle.sem_trace.specs.declared.line_forms.RootForm.{RootForm}
use Rattle.sem_trace.specs.Forms.{Place, lines, root_objects, calls, choice, word_at}
use Rattle.sem_trace.specs.Declarations.{stands_at, number_at}
use Rattle.sem_trace.specs.Places.{CanStandIn}
use Rattle.sem_trace.specs.Slots.{slot_place}

-- the places behind the numbers of a line of that kind, if that word follows them
abbrev pub rest_places : ℕ → List ℕ → LineKind → List Place
rest_places version word (Plain kind) = []
rest_places version word Root = choice root_objects word
rest_places version word Call = choice (calls version) word

-- the name of a line with these words, and the places behind it
abbrev pub line_form : (version kernels : ℕ) → List (List ℕ) → LineForm → List ℕ × List Place
line_form version kernels words form = (
  form.name.now,
  map (slot_place version kernels) form.slots.now
      ++ rest_places version (word_at words (suc (length form.slots.now))) form.kind,
)

-- the name of an object of a root, and the places behind it
abbrev pub root_form : RootForm → List ℕ × List Place
root_form form = (form.name.now, map (slot_place 1 1) form.slots.now)

-- which row of the lines is that of the kind
abbrev pub line_number : LineKind → ℕ
line_number (Plain TheKernels) = 0
line_number (Plain ThePe) = 1
line_number (Plain TheVpe) = 2
line_number Root = 3
line_number (Plain TheService) = 4
line_number (Plain TheOffer) = 5
line_number (Plain TheDeny) = 6
line_number (Plain TheKill) = 7
line_number Call = 8
line_number (Plain TheEnd) = 9
line_number (Plain TheWindow) = 10

-- the name and the places of the lines of a kind
abbrev pub line_row : (version kernels : ℕ) → List (List ℕ) → LineKind → List ℕ × List Place
line_row version kernels words kind = slice_index_or (lines version kernels words) (line_number kind) ([], [])

-- texts of that version have lines of that kind
abbrev pub HasKind : ℕ → LineKind → Type 0
HasKind version (Plain TheWindow) = (version == 1) ≡ false
HasKind version kind = Unit {0}

-- how many numbers a line of the kind has, if something follows them; else as many as any line has
abbrev pub number_count : LineKind → ℕ
number_count (Plain kind) = 5
number_count Root = 2
number_count Call = 1

-- the places of the numbers of a line of the kind
abbrev pub number_places : (version kernels : ℕ) → LineKind → List Place
number_places version kernels kind = take (number_count kind) (line_row version kernels [] kind).1

-- it tells the name and the places of its kind, which the version has
pub record IsLineRow (version : ℕ) (form : LineForm) : Type 0 where
  pub row : (kernels : ℕ) (words : List (List ℕ)) →
      line_form version kernels words form ≡ line_row version kernels words form.kind
  pub numbers : (kernels : ℕ) →
      map (slot_place version kernels) form.slots.now ≡ number_places version kernels form.kind
  pub has : HasKind version form.kind

-- the numbers can stand in a line of that kind
abbrev pub FitPlain : PlainKind → List ℕ → Type 0
FitPlain kind ns = (version : ℕ) × (kernels : ℕ) × (kernels ≤ 4294967295) × HasKind version (Plain kind)
    × CanStandIn (number_places version kernels (Plain kind)) ns

-- which row of the objects is that of the kind
abbrev pub root_number : RootKind → ℕ
root_number TheMemory = 0
root_number TheReceive = 1

abbrev pub root_row : RootKind → List ℕ × List Place
root_row kind = slice_index_or root_objects (root_number kind) ([], [])

-- it tells the name and the places of its kind
abbrev pub IsRootRow : RootForm → Type 0
IsRootRow form = root_form form ≡ root_row form.kind

-- what a line of that kind with these numbers declares
abbrev pub plain_with : PlainKind → List ℕ → Declaration
plain_with TheKernels ns = Kernels (slice_index ns 0)
plain_with TheWindow ns = Window (slice_index ns 0)
plain_with ThePe ns = Pe (slice_index ns 0) (slice_index ns 1)
plain_with TheVpe ns = Vpe (slice_index ns 0) (slice_index ns 1)
plain_with TheService ns = Service (slice_index ns 0) (slice_index ns 1) (slice_index ns 2)
plain_with TheOffer ns = Offer (slice_index ns 0) (slice_index ns 1) (slice_index ns 2)
plain_with TheDeny ns = Deny (slice_index ns 0) (slice_index ns 1)
plain_with TheKill ns = Kill (slice_index ns 0) (slice_index ns 1)
plain_with TheEnd ns = End

-- the root of that kind with these numbers, of that VPE at that selector
abbrev pub root_with : (vpe sel : ℕ) → RootKind → List ℕ → Declaration
root_with vpe sel TheMemory ns = Memory vpe sel (slice_index ns 0) (slice_index ns 1) (slice_index ns 2)
root_with vpe sel TheReceive ns = Receive vpe sel (slice_index ns 0)

-- the root that the words from the name of its object on tell
abbrev pub root_of : (vpe sel : ℕ) → List (List ℕ) → Declaration
root_of vpe sel words =
    if stands_at words 0 (codes "mem") then Memory vpe sel (number_at words 1) (number_at words 2) (number_at words 3)
    else Receive vpe sel (number_at words 1)
