-- Chunks of runs: they rise, and what a range meets lies in those that its two searches find.
use Rattle.std.proofs.Common.{◌≡◌, ℕ, zero, suc, ◌+◌, ◌-◌, ◌≤◌, ◌<◌, true, false, List, [], ◌∷◌, ◌++◌, length, map, take, drop, get_or, Option, Some, None}
use Rattle.std.proofs.Common.{refl, sym, ◌∙◌, ap, subst, arith}
use Rattle.std.specs.Global.{Vec}
use Rattle.std.specs.List.{All, filter_map, insert, slice_range, slice_set, splice}
use Rattle.std.specs.List.Sorted.{IsNonDecreasingBy, IsPartitionPoint}
use Rattle.std.specs.Prelude.{nat_lt, min}
use Rattle.std.proofs.lemmas.Bool.{ltb-true, ltb-false}
use Rattle.std.proofs.lemmas.List.Concat.{flat_map-append}
use Rattle.std.proofs.Math.Seq.{take-nil, drop-nil}
use Rattle.std.proofs.lemmas.List.{append-nil, append_assoc, set_split, take_more, take-append-drop, get_or-take, get_or-drop, get_or-map, length-take}
use Rattle.std.proofs.lemmas.List.{length-drop, length-map, map-append, map-set, take-map, drop-map}
use Rattle.std.proofs.lemmas.List.Elements.{All-nil, All-cons, All-head, All-tail, All-append}
use Rattle.std.proofs.lemmas.List.Elements.{All-weaker, All-get_or, All-from_get_or, All-take, All-drop}
use Rattle.std.proofs.lemmas.List.Elements.{filter_map-append}
use Rattle.sem_key.specs.declared.limits.TheConstants.{ADDRESSES}
use Rattle.sem_access.specs.declared.run.Run.{Run}
use Rattle.sem_access.specs.LastWrites.{looked}
use Rattle.sem_access.specs.Runs.{IsValidRun, AreRunsBehind, AreRuns, entry_at}
use Rattle.sem_mem.specs.Chunks.{together, IsSized, AreChunks, first_base, beginnings_of, AreMetChunks}
use Rattle.sem_mem.proofs.KeptRuns.{each-run, first-run, first-apart, more-runs}
use Rattle.sem_mem.proofs.Behind.{EndsBy, BeginsFrom, end_behind, end-from, ends-by, begin-behind, entry_behind, runs-before, runs-behind, some-runs}
use Rattle.sem_mem.specs.Writing.{overwritten}
use Rattle.sem_mem.proofs.Meeting.{in-three, overwritten-within, looked-within}

-- Chunks one after another.

-- chunks behind an address: none begins before it, or before the one before it ends
unfoldable Rise : ℕ → List (Vec Run) → Type 0
Rise b [] = Unit {0}
Rise b (c ∷ cs) = (b ≤ first_base c.items) × (first_base c.items ≤ end_behind 0 c.items) × Rise (end_behind 0 c.items) cs

-- its runs begin from its beginning on, and end by its end
abbrev IsChunk : Vec Run → Type 0
IsChunk c = All (EndsBy (end_behind 0 c.items)) c.items × All (BeginsFrom (first_base c.items)) c.items

-- what a chunk is, of its runs
abbrev IsPart : ℕ → List Run → Type 0
IsPart b rs = (b ≤ first_base rs) × (first_base rs ≤ end_behind 0 rs) × All (EndsBy (end_behind 0 rs)) rs × All (BeginsFrom (first_base rs)) rs
    × (end_behind b rs ≡ end_behind 0 rs)

part : (b : ℕ) (e : Option ℕ) (rs : List Run) → 1 ≤ length rs → AreRunsBehind b e rs → IsPart b rs
part b e [] some are = absurd (omega (arith, some))
part b e (r ∷ rs) some are =
    let apart = first-apart b e r rs are in
    let more = more-runs b e r rs are in
    let end = end-from (r.base + r.len) (Some r.entry) rs more in
    let later : (q : Run) → BeginsFrom (r.base + r.len) q → BeginsFrom r.base q = λ q from. omega (arith, from) in (
      apart.0,
      omega (arith, end),
      All-cons (EndsBy (end_behind (r.base + r.len) rs)) r rs end (ends-by (r.base + r.len) (Some r.entry) rs more),
      All-cons (BeginsFrom r.base) r rs (omega arith)
          (All-weaker (BeginsFrom (r.base + r.len)) (BeginsFrom r.base) later rs (begin-behind (r.base + r.len) (Some r.entry) rs more)),
      refl,
    )

rise : (b : ℕ) (e : Option ℕ) (cs : List (Vec Run)) → All IsSized cs → AreRunsBehind b e (together cs) → Rise b cs × All IsChunk cs
unfolding Rise
rise b e [] sized are = (tt, All-nil IsChunk)
rise b e (c ∷ cs) sized are =
    let is = part b e c.items (All-head IsSized c cs sized).0 (runs-before b e c.items (together cs) are) in
    let behind = subst (λ n. AreRunsBehind n (entry_behind e c.items) (together cs)) is.4 (runs-behind b e c.items (together cs) are) in
    let rest = rise (end_behind 0 c.items) (entry_behind e c.items) cs (All-tail IsSized c cs sized) behind in
    ((is.0, is.1, rest.0), All-cons IsChunk c cs (is.2, is.3) rest.1)

first-begins : (b : ℕ) (c : Vec Run) (cs : List (Vec Run)) → Rise b (c ∷ cs) → (b ≤ first_base c.items) × (first_base c.items ≤ end_behind 0 c.items)
unfolding Rise
first-begins b c cs up = (up.0, up.1)

more-chunks : (b : ℕ) (c : Vec Run) (cs : List (Vec Run)) → Rise b (c ∷ cs) → Rise (end_behind 0 c.items) cs
unfolding Rise
more-chunks b c cs up = up.2

begins-at : (b : ℕ) (cs : List (Vec Run)) → Rise b cs → (k : ℕ) (d : Vec Run) → k < length cs → (b ≤ first_base (get_or cs k d).items)
    × (first_base (get_or cs k d).items ≤ end_behind 0 (get_or cs k d).items)
begins-at b [] up k d within = absurd (omega (arith, within))
begins-at b (c ∷ cs) up zero d within = first-begins b c cs up
begins-at b (c ∷ cs) up (suc k) d within =
    let first = first-begins b c cs up in
    let later = begins-at (end_behind 0 c.items) cs (more-chunks b c cs up) k d (omega (arith, within)) in
    (omega (arith, first.0, first.1, later.0), later.1)

rises : (b : ℕ) (cs : List (Vec Run)) → Rise b cs → (i j : ℕ) (d : Vec Run) → i ≤ j → j < length cs →
    first_base (get_or cs i d).items ≤ first_base (get_or cs j d).items
rises b [] up i j d le within = absurd (omega (arith, within))
rises b (c ∷ cs) up zero zero d le within = omega arith
rises b (c ∷ cs) up zero (suc j) d le within =
    let first = first-begins b c cs up in
    let later = begins-at (end_behind 0 c.items) cs (more-chunks b c cs up) j d (omega (arith, within)) in
    omega (arith, first.1, later.0)
rises b (c ∷ cs) up (suc i) zero d le within = absurd (omega (arith, le))
rises b (c ∷ cs) up (suc i) (suc j) d le within = rises (end_behind 0 c.items) cs (more-chunks b c cs up) i j d (omega (arith, le)) (omega (arith, within))

-- a chunk ends before the next one begins
ends-by-next : (b : ℕ) (cs : List (Vec Run)) → Rise b cs → (i : ℕ) (d : Vec Run) → suc i < length cs →
    end_behind 0 (get_or cs i d).items ≤ first_base (get_or cs (suc i) d).items
ends-by-next b [] up i d within = absurd (omega (arith, within))
ends-by-next b (c ∷ cs) up zero d within = (begins-at (end_behind 0 c.items) cs (more-chunks b c cs up) zero d (omega (arith, within))).0
ends-by-next b (c ∷ cs) up (suc i) d within = ends-by-next (end_behind 0 c.items) cs (more-chunks b c cs up) i d (omega (arith, within))

-- What a binary search and a walk find.

-- what holds of the runs of each chunk holds of all
each-together : (P : Run → Type 0) (cs : List (Vec Run)) → All (λ c. All P c.items) cs → All P (together cs)
each-together P [] all = All-nil P
each-together P (c ∷ cs) all = All-append P c.items (together cs) (All-head (λ (q : Vec Run). All P q.items) c cs all)
    (each-together P cs (All-tail (λ (q : Vec Run). All P q.items) c cs all))

module _ (cs : List (Vec Run)) (are : AreChunks cs) where
  up : Rise 0 cs × All IsChunk cs
  up = rise 0 None cs are.sized are.runs

  pub beginnings-rise : (n : ℕ) → IsNonDecreasingBy (λ (c : Vec Run). first_base c.items) (drop n cs)
  beginnings-rise n i j d le within =
      let size : length (drop n cs) ≡ length cs - n = length-drop n cs in
      let at : (k : ℕ) → k < length (drop n cs) → get_or (drop n cs) k d ≡ get_or cs (n + k) d = λ k lt. get_or-drop n cs k d in
      subst (λ (c : Vec Run). first_base c.items ≤ first_base (get_or (drop n cs) j d).items) (sym (at i (omega (arith, le, within))))
      (subst (λ (c : Vec Run). first_base (get_or cs (n + i) d).items ≤ first_base c.items) (sym (at j within))
      (rises 0 cs up.0 (n + i) (n + j) d (omega (arith, le)) (omega (arith, within, size))))

  module _ (base end i k : ℕ) (within : i ≤ length cs) (short : k ≤ length (drop i cs))
      (first : IsPartitionPoint (λ (c : Vec Run). nat_lt (first_base c.items) base ≡ true) (λ (c : Vec Run). nat_lt (first_base c.items) base ≡ false) cs i)
      (second : IsPartitionPoint (λ (c : Vec Run). nat_lt (first_base c.items) end ≡ true) (λ (c : Vec Run). nat_lt (first_base c.items) end ≡ false)
      (drop i cs) k)
      (nowhere : Vec Run) where
    is-chunk : (m : ℕ) → m < length cs → IsChunk (get_or cs m nowhere)
    is-chunk m lt = All-get_or IsChunk cs m nowhere lt up.1

    ends-before : (m : ℕ) → suc m < i → All (EndsBy base) (get_or cs m nowhere).items
    ends-before m lt =
        let next = ltb-true _ base (first.0 (suc m) nowhere (omega arith) lt) in
        let ends = ends-by-next 0 cs up.0 m nowhere (omega (arith, lt, within)) in
        let end-le : end_behind 0 (get_or cs m nowhere).items ≤ base = omega (arith, next, ends) in
        let sooner : (r : Run) → EndsBy (end_behind 0 (get_or cs m nowhere).items) r → EndsBy base r = λ r ends. omega (arith, ends, end-le) in
        All-weaker (EndsBy (end_behind 0 (get_or cs m nowhere).items)) (EndsBy base) sooner (get_or cs m nowhere).items
        (is-chunk m (omega (arith, lt, within))).0

    begins-behind : (m : ℕ) → i + k ≤ m → m < length cs → All (BeginsFrom end) (get_or cs m nowhere).items
    begins-behind m from lt =
        let size : length (drop i cs) ≡ length cs - i = length-drop i cs in
        let place : i + (m - i) ≡ m = omega (arith, from) in
        let same : get_or (drop i cs) (m - i) nowhere ≡ get_or cs m nowhere = get_or-drop i cs (m - i) nowhere ∙ ap (λ n. get_or cs n nowhere) place in
        let tested : nat_lt (first_base (get_or cs m nowhere).items) end ≡ false =
        subst (λ (c : Vec Run). nat_lt (first_base c.items) end ≡ false) same
        (second.1 (m - i) nowhere (omega (arith, from)) (omega (arith, lt, size, from))) in
        let end-le : end ≤ first_base (get_or cs m nowhere).items = ltb-false _ end tested in
        let later : (r : Run) → BeginsFrom (first_base (get_or cs m nowhere).items) r → BeginsFrom end r = λ r begins. omega (arith, begins, end-le) in
        All-weaker (BeginsFrom (first_base (get_or cs m nowhere).items)) (BeginsFrom end) later (get_or cs m nowhere).items (is-chunk m lt).1

    all-before : (n : ℕ) → n ≤ i - 1 → All (EndsBy base) (together (take n cs))
    all-before n le =
        let size : length (take n cs) ≡ min n (length cs) = length-take n cs in
        each-together (EndsBy base) (take n cs) (All-from_get_or (λ (c : Vec Run). All (EndsBy base) c.items) (take n cs) nowhere (λ m lt.
        let below : m < n = omega (arith, lt, size) in
        subst (λ (c : Vec Run). All (EndsBy base) c.items) (sym (get_or-take n cs m nowhere below)) (ends-before m (omega (arith, below, le)))))

    all-behind : (n : ℕ) → i + k ≤ n → All (BeginsFrom end) (together (drop n cs))
    all-behind n from =
        let size : length (drop n cs) ≡ length cs - n = length-drop n cs in
        each-together (BeginsFrom end) (drop n cs) (All-from_get_or (λ (c : Vec Run). All (BeginsFrom end) c.items) (drop n cs) nowhere (λ m lt.
        subst (λ (c : Vec Run). All (BeginsFrom end) c.items) (sym (get_or-drop n cs m nowhere))
        (begins-behind (n + m) (omega (arith, from)) (omega (arith, lt, size)))))

    found-or-more : (a b : ℕ) → a ≤ i - 1 → i + k ≤ b → b ≤ length cs → AreMetChunks cs base end a b
    found-or-more a b low high few = record {
      order = omega (arith, low, high);
      within = few;
      before = all-before a low;
      behind = all-behind b high;
    }

-- without chunks none is before and none behind
none-met : (base end a b : ℕ) → a ≤ b → b ≤ 0 → AreMetChunks [] base end a b
none-met base end a b order few = record {
  order = order;
  within = few;
  before = subst (λ (cs : List (Vec Run)). All (EndsBy base) (together cs)) (sym (take-nil a)) (All-nil (EndsBy base));
  behind = subst (λ (cs : List (Vec Run)). All (BeginsFrom end) (together cs)) (sym (drop-nil b)) (All-nil (BeginsFrom end));
}

-- what is found, or more
pub met : (cs : List (Vec Run)) → AreChunks cs → (base end i k : ℕ) → i ≤ length cs → k ≤ length (drop i cs)
    → IsPartitionPoint (λ (c : Vec Run). nat_lt (first_base c.items) base ≡ true) (λ (c : Vec Run). nat_lt (first_base c.items) base ≡ false) cs i
    → IsPartitionPoint (λ (c : Vec Run). nat_lt (first_base c.items) end ≡ true) (λ (c : Vec Run). nat_lt (first_base c.items) end ≡ false) (drop i cs) k
    → (a b : ℕ) → a ≤ i - 1 → i + k ≤ b → b ≤ length cs → AreMetChunks cs base end a b
met [] are base end i k within short first second a b low high few = none-met base end a b (omega (arith, low, high)) few
met (c ∷ cs) are base end i k within short first second a b low high few = found-or-more (c ∷ cs) are base end i k within short first second c a b low high few

-- numbers of things rise as the things do by them
numbers-rise : {X : Type 0} (n : X → ℕ) (xs : List X) → IsNonDecreasingBy n xs → IsNonDecreasingBy (λ (b : ℕ). b) (map n xs)
numbers-rise n [] up i j d le within = absurd (omega (arith, within))
numbers-rise n (x ∷ xs) up i j d le within =
    let few : j < length (x ∷ xs) = subst (λ m. j < m) (length-map (x ∷ xs) n) within in
    let one = get_or-map n (x ∷ xs) i x d (omega (arith, le, few)) in
    let other = get_or-map n (x ∷ xs) j x d few in
    let rises = up i j x le few in
    omega (arith, one, other, rises)

abbrev begin_of : Vec Run → ℕ
begin_of c = first_base c.items

-- the places where chunks begin rise
pub begins-rise : (cs : List (Vec Run)) → AreChunks cs → (bs : List ℕ) → bs ≡ beginnings_of cs → (n : ℕ) → IsNonDecreasingBy (λ (b : ℕ). b) (drop n bs)
begins-rise cs are bs same n = subst (λ (ns : List ℕ). IsNonDecreasingBy (λ (b : ℕ). b) ns) (sym (ap (drop n) same ∙ drop-map begin_of n cs))
    (numbers-rise begin_of (drop n cs) (beginnings-rise cs are n))

-- and lie within memory
first-within : (b : ℕ) (e : Option ℕ) (rs : List Run) → 1 ≤ length rs → AreRunsBehind b e rs → first_base rs ≤ ADDRESSES
first-within b e [] some are = absurd (omega (arith, some))
first-within b e (r ∷ rs) some are = let is = first-run b e r rs are in omega (arith, is.1)

begins-in : (b : ℕ) (e : Option ℕ) (cs : List (Vec Run)) → All IsSized cs → AreRunsBehind b e (together cs) → All (λ n. n ≤ ADDRESSES) (beginnings_of cs)
begins-in b e [] sized are = All-nil (λ n. n ≤ ADDRESSES)
begins-in b e (c ∷ cs) sized are =
    All-cons (λ n. n ≤ ADDRESSES) (first_base c.items) (beginnings_of cs)
    (first-within b e c.items (All-head IsSized c cs sized).0 (runs-before b e c.items (together cs) are))
    (begins-in (end_behind b c.items) (entry_behind e c.items) cs (All-tail IsSized c cs sized) (runs-behind b e c.items (together cs) are))

pub begins-within : (cs : List (Vec Run)) → AreChunks cs → (bs : List ℕ) → bs ≡ beginnings_of cs → All (λ n. n ≤ ADDRESSES) bs
begins-within cs are bs same = subst (λ (ns : List ℕ). All (λ n. n ≤ ADDRESSES) ns) (sym same) (begins-in 0 None cs are.sized are.runs)

-- where the places are parted, so are the chunks
parted-chunks : (P Q : ℕ → Type 0) (cs : List (Vec Run)) (i : ℕ) → i ≤ length cs → IsPartitionPoint P Q (map begin_of cs) i →
    IsPartitionPoint (λ (c : Vec Run). P (first_base c.items)) (λ (c : Vec Run). Q (first_base c.items)) cs i
parted-chunks P Q cs i le point = (
  λ m d low below. subst P (get_or-map begin_of cs m d (first_base d.items) (omega (arith, below, le))) (point.0 m (first_base d.items) low below),
  λ m d from within. subst Q (get_or-map begin_of cs m d (first_base d.items) within)
      (point.1 m (first_base d.items) from (subst (λ n. m < n) (sym (length-map cs begin_of)) within)),
)

met-from : (cs : List (Vec Run)) → AreChunks cs → (base end i k : ℕ) → i ≤ length (beginnings_of cs) → k ≤ length (drop i (beginnings_of cs))
    → IsPartitionPoint (λ b. nat_lt b base ≡ true) (λ b. nat_lt b base ≡ false) (beginnings_of cs) i
    → IsPartitionPoint (λ b. nat_lt b end ≡ true) (λ b. nat_lt b end ≡ false) (drop i (beginnings_of cs)) k
    → (a b : ℕ) → a ≤ i - 1 → i + k ≤ b → b ≤ length (beginnings_of cs) → AreMetChunks cs base end a b
met-from cs are base end i k within short first second a b low high few =
    let size : length (beginnings_of cs) ≡ length cs = length-map cs begin_of in
    let rest : drop i (beginnings_of cs) ≡ map begin_of (drop i cs) = drop-map begin_of i cs in
    let count : length (drop i (beginnings_of cs)) ≡ length (drop i cs) = ap length rest ∙ length-map (drop i cs) begin_of in
    let short-there : k ≤ length (drop i cs) = subst (λ n. k ≤ n) count short in
    let second-there = subst (λ (bs : List ℕ). IsPartitionPoint (λ b. nat_lt b end ≡ true) (λ b. nat_lt b end ≡ false) bs k) rest second in
    met cs are base end i k (subst (λ n. i ≤ n) size within) short-there
    (parted-chunks (λ b. nat_lt b base ≡ true) (λ b. nat_lt b base ≡ false) cs i (subst (λ n. i ≤ n) size within) first)
    (parted-chunks (λ b. nat_lt b end ≡ true) (λ b. nat_lt b end ≡ false) (drop i cs) k short-there second-there)
    a b low high (subst (λ n. b ≤ n) size few)

-- the same of the places where the chunks begin
pub met-by-beginnings : (cs : List (Vec Run)) → AreChunks cs → (bs : List ℕ) → bs ≡ beginnings_of cs → (base end i k : ℕ) → i ≤ length bs →
    k ≤ length (drop i bs)
    → IsPartitionPoint (λ b. nat_lt b base ≡ true) (λ b. nat_lt b base ≡ false) bs i
    → IsPartitionPoint (λ b. nat_lt b end ≡ true) (λ b. nat_lt b end ≡ false) (drop i bs) k
    → (a b : ℕ) → a ≤ i - 1 → i + k ≤ b → b ≤ length bs → AreMetChunks cs base end a b
met-by-beginnings cs are bs same base end i k within short first second a b low high few =
    met-from cs are base end i k
    (subst (λ (ns : List ℕ). i ≤ length ns) same within)
    (subst (λ (ns : List ℕ). k ≤ length (drop i ns)) same short)
    (subst (λ (ns : List ℕ). IsPartitionPoint (λ b. nat_lt b base ≡ true) (λ b. nat_lt b base ≡ false) ns i) same first)
    (subst (λ (ns : List ℕ). IsPartitionPoint (λ b. nat_lt b end ≡ true) (λ b. nat_lt b end ≡ false) (drop i ns) k) same second)
    a b low high (subst (λ (ns : List ℕ). b ≤ length ns) same few)

-- Some chunks of several.

abbrev runs_in : Vec Run → List Run
runs_in c = c.items

pub together-append : (cs ds : List (Vec Run)) → together (cs ++ ds) ≡ together cs ++ together ds
together-append cs ds = flat_map-append runs_in cs ds

-- the runs in three parts
pub together-three : (cs : List (Vec Run)) (i j : ℕ) → i ≤ j → together cs ≡ together (take i cs) ++ (together (slice_range cs i j) ++ together (drop j cs))
together-three cs i j le =
    ap together (in-three cs i j le)
    ∙ (together-append (take i cs) (slice_range cs i j ++ drop j cs)
    ∙ ap (λ (rs : List Run). together (take i cs) ++ rs) (together-append (slice_range cs i j) (drop j cs)))

-- chunks in the middle are chunks
pub chunks-within : (cs : List (Vec Run)) (i j : ℕ) → i ≤ j → AreChunks cs → AreChunks (slice_range cs i j)
chunks-within cs i j le are =
    let whole = subst AreRuns (together-three cs i j le) are.runs in
    let later = runs-behind 0 None (together (take i cs)) (together (slice_range cs i j) ++ together (drop j cs)) whole in
    record {
      sized = All-take IsSized (j - i) (drop i cs) (All-drop IsSized i cs are.sized);
      runs = some-runs _ _ (together (slice_range cs i j)) (runs-before _ _ (together (slice_range cs i j)) (together (drop j cs)) later);
    }

-- the first chunks and one more
pub together-more : (cs : List (Vec Run)) (i : ℕ) (c : Vec Run) → i < length cs → together (take (i + 1) cs) ≡ together (take i cs) ++ (get_or cs i c).items
together-more cs i c within =
    ap together (take_more cs i c within)
    ∙ (together-append (take i cs) (get_or cs i c ∷ [])
    ∙ ap (λ (rs : List Run). together (take i cs) ++ rs) (append-nil (get_or cs i c).items))

-- and what a function makes of them, behind other runs
pub parts-more : (h : Run → Option Run) (cs : List (Vec Run)) (i : ℕ) (c : Vec Run) (old : List Run) → i < length cs →
    (old ++ filter_map h (together (take i cs))) ++ filter_map h (get_or cs i c).items ≡ old ++ filter_map h (together (take (i + 1) cs))
parts-more h cs i c old within =
    append_assoc old (filter_map h (together (take i cs))) (filter_map h (get_or cs i c).items)
    ∙ ap (λ (rs : List Run). old ++ rs)
    (sym (filter_map-append h (together (take i cs)) (get_or cs i c).items) ∙ ap (filter_map h) (sym (together-more cs i c within)))

-- the runs up to a chunk are runs
pub runs-up-to : (cs : List (Vec Run)) (i : ℕ) (c : Vec Run) → i < length cs → AreChunks cs → AreRuns (together (take i cs) ++ (get_or cs i c).items)
runs-up-to cs i c within are =
    let split : together cs ≡ together (take (i + 1) cs) ++ together (drop (i + 1) cs) = ap together (sym (take-append-drop (i + 1) cs))
    ∙ together-append (take (i + 1) cs) (drop (i + 1) cs) in
    subst AreRuns (together-more cs i c within) (runs-before 0 None (together (take (i + 1) cs)) (together (drop (i + 1) cs)) (subst AreRuns split are.runs))

-- and those of it
pub runs-of-chunk : (cs : List (Vec Run)) (i : ℕ) (c : Vec Run) → i < length cs → AreChunks cs → AreRuns (get_or cs i c).items
runs-of-chunk cs i c within are =
    some-runs _ _ (get_or cs i c).items (runs-behind 0 None (together (take i cs)) (get_or cs i c).items (runs-up-to cs i c within are))

-- Chunks that are replaced.

-- one chunk in the place of another
pub chunk-put : (cs : List (Vec Run)) (i j : ℕ) (c : Vec Run) → j - i ≡ 1 → j ≤ length cs →
    together (slice_set cs i c) ≡ together (take i cs) ++ (c.items ++ together (drop j cs))
chunk-put cs i j c one within =
    let next : suc i ≡ j = omega (arith, one) in
    ap together (set_split cs i c (omega (arith, one, within)))
    ∙ (together-append (take i cs) (c ∷ drop (suc i) cs)
    ∙ ap (λ n. together (take i cs) ++ (c.items ++ together (drop n cs))) next)

-- two in the place of two others
next-put : (cs : List (Vec Run)) (i : ℕ) (c d : Vec Run) → suc i < length cs → together (slice_set (slice_set cs i c) (suc i) d) ≡ together (take i cs)
    ++ ((c.items ++ d.items) ++ together (drop (suc (suc i)) cs))
next-put [] i c d within = absurd (omega (arith, within))
next-put (a ∷ []) i c d within = absurd (omega (arith, within))
next-put (a ∷ b ∷ cs) zero c d within = sym (append_assoc c.items d.items (together cs))
next-put (a ∷ b ∷ cs) (suc i) c d within =
    ap (λ (rs : List Run). a.items ++ rs) (next-put (b ∷ cs) i c d (omega (arith, within)))
    ∙ sym (append_assoc a.items (together (take i (b ∷ cs))) ((c.items ++ d.items) ++ together (drop (suc (suc i)) (b ∷ cs))))

pub two-put : (cs : List (Vec Run)) (i : ℕ) (c d : Vec Run) → i + 2 ≤ length cs → together (slice_set (slice_set cs i c) (i + 1) d) ≡ together (take i cs)
    ++ ((c.items ++ d.items) ++ together (drop (i + 2) cs))
two-put cs i c d within =
    let one : i + 1 ≡ suc i = omega arith in
    let two : i + 2 ≡ suc (suc i) = omega arith in
    rw (one, two) (next-put cs i c d (omega (arith, within)))

-- two in the place of one
split-put : (cs : List (Vec Run)) (i : ℕ) (c d : Vec Run) → i < length cs →
    together (slice_set (insert cs (suc i) d) i c) ≡ together (take i cs) ++ ((c.items ++ d.items) ++ together (drop (suc i) cs))
split-put [] i c d within = absurd (omega (arith, within))
split-put (a ∷ cs) zero c d within = sym (append_assoc c.items d.items (together cs))
split-put (a ∷ cs) (suc i) c d within =
    ap (λ (rs : List Run). a.items ++ rs) (split-put cs i c d (omega (arith, within)))
    ∙ sym (append_assoc a.items (together (take i cs)) ((c.items ++ d.items) ++ together (drop (suc i) cs)))

pub one-split : (cs : List (Vec Run)) (i : ℕ) (c d : Vec Run) → i < length cs →
    together (slice_set (insert cs (i + 1) d) i c) ≡ together (take i cs) ++ ((c.items ++ d.items) ++ together (drop (i + 1) cs))
one-split cs i c d within = let one : i + 1 ≡ suc i = omega arith in rw one (split-put cs i c d within)

pub each-split : (cs : List (Vec Run)) (i : ℕ) (d : Vec Run) → All IsSized cs → IsSized d → All IsSized (insert cs i d)
each-split cs i d sized is = All-append IsSized (take i cs) (d ∷ drop i cs) (All-take IsSized i cs sized)
    (All-cons IsSized d (drop i cs) is (All-drop IsSized i cs sized))

-- several in the place of others
pub chunks-put : (cs ds : List (Vec Run)) (i j : ℕ) (rs : List Run) → together ds ≡ rs →
    together (splice cs i j ds) ≡ together (take i cs) ++ (rs ++ together (drop j cs))
chunks-put cs ds i j rs same =
    together-append (take i cs) (ds ++ drop j cs)
    ∙ (ap (λ (qs : List Run). together (take i cs) ++ qs) (together-append ds (drop j cs))
    ∙ ap (λ (qs : List Run). together (take i cs) ++ (qs ++ together (drop j cs))) same)

pub each-put : (cs ds : List (Vec Run)) (i j : ℕ) → All IsSized cs → All IsSized ds → All IsSized (splice cs i j ds)
each-put cs ds i j sized more =
    All-append IsSized (take i cs) (ds ++ drop j cs) (All-take IsSized i cs sized)
    (All-append IsSized ds (drop j cs) more (All-drop IsSized j cs sized))

-- where they begin then
pub begins-set : (cs : List (Vec Run)) (bs : List ℕ) (i : ℕ) (c : Vec Run) → bs ≡ beginnings_of cs →
    slice_set bs i (first_base c.items) ≡ beginnings_of (slice_set cs i c)
begins-set cs bs i c same = ap (λ (ns : List ℕ). slice_set ns i (first_base c.items)) same ∙ sym (map-set begin_of cs i c)

pub begins-split : (cs : List (Vec Run)) (bs : List ℕ) (i : ℕ) (c d : Vec Run) → bs ≡ beginnings_of cs →
    slice_set (insert bs (i + 1) (first_base d.items)) i (first_base c.items) ≡ beginnings_of (slice_set (insert cs (i + 1) d) i c)
begins-split cs bs i c d same =
    let first : take (i + 1) bs ≡ map begin_of (take (i + 1) cs) = ap (take (i + 1)) same ∙ take-map begin_of (i + 1) cs in
    let last : drop (i + 1) bs ≡ map begin_of (drop (i + 1) cs) = ap (drop (i + 1)) same ∙ drop-map begin_of (i + 1) cs in
    begins-set (insert cs (i + 1) d) (insert bs (i + 1) (first_base d.items)) i c
    (ap (λ (ns : List ℕ). ns ++ first_base d.items ∷ drop (i + 1) bs) first
    ∙ (ap (λ (ns : List ℕ). map begin_of (take (i + 1) cs) ++ first_base d.items ∷ ns) last
    ∙ sym (map-append begin_of (take (i + 1) cs) (d ∷ drop (i + 1) cs))))

pub begins-put : (cs ds : List (Vec Run)) (bs : List ℕ) (i j : ℕ) → bs ≡ beginnings_of cs →
    (take i bs ++ beginnings_of ds) ++ drop j bs ≡ beginnings_of (splice cs i j ds)
begins-put cs ds bs i j same =
    let first : take i bs ≡ map begin_of (take i cs) = ap (take i) same ∙ take-map begin_of i cs in
    let last : drop j bs ≡ map begin_of (drop j cs) = ap (drop j) same ∙ drop-map begin_of j cs in
    append_assoc (take i bs) (beginnings_of ds) (drop j bs)
    ∙ (ap (λ (ns : List ℕ). ns ++ (beginnings_of ds ++ drop j bs)) first
    ∙ (ap (λ (ns : List ℕ). map begin_of (take i cs) ++ (beginnings_of ds ++ ns)) last
    ∙ (ap (λ (ns : List ℕ). map begin_of (take i cs) ++ ns) (sym (map-append begin_of ds (drop j cs)))
    ∙ sym (map-append begin_of (take i cs) (ds ++ drop j cs)))))

-- What a range meets.

module _ (cs : List (Vec Run)) (base len i j : ℕ) (are : AreChunks cs) (met-there : AreMetChunks cs base (base + len) i j) where
  valid-before : All IsValidRun (together (take i cs))
  valid-before = each-run _ (runs-before 0 None (together (take i cs)) _ (subst AreRuns (together-three cs i j met-there.order) are.runs))

  valid-behind : All IsValidRun (together (drop j cs))
  valid-behind =
      let whole = subst AreRuns (together-three cs i j met-there.order) are.runs in
      let later = runs-behind 0 None (together (take i cs)) (together (slice_range cs i j) ++ together (drop j cs)) whole in
      each-run _ (some-runs _ _ (together (drop j cs)) (runs-behind _ _ (together (slice_range cs i j)) (together (drop j cs)) later))

  -- only the chunks that it meets change when it is written
  pub overwritten-chunks : (entry : ℕ) → together (take i cs) ++ (overwritten (together (slice_range cs i j)) base len entry ++ together (drop j cs))
      ≡ overwritten (together cs) base len entry
  overwritten-chunks entry =
      overwritten-within (together (take i cs)) (together (slice_range cs i j)) (together (drop j cs)) base len valid-before valid-behind met-there.before
      met-there.behind entry
      ∙ ap (λ (rs : List Run). overwritten rs base len entry) (sym (together-three cs i j met-there.order))

  -- only they tell of it
  pub looked-chunks : looked (entry_at (together (slice_range cs i j))) base len ≡ looked (entry_at (together cs)) base len
  looked-chunks =
      looked-within (together (take i cs)) (together (slice_range cs i j)) (together (drop j cs)) base len valid-before valid-behind met-there.before
      met-there.behind
      ∙ ap (λ (rs : List Run). looked (entry_at rs) base len) (sym (together-three cs i j met-there.order))
