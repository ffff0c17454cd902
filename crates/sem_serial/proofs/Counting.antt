-- How many events and entries there can be.
use Rattle.std.proofs.Common.{◌≡◌, ℕ, ◌+◌, ◌-◌, ◌^◌, ◌<◌, ◌≤◌, zero, suc, Bool, List, [], ◌∷◌, ◌++◌, length, map, set, get_or, sym, ◌∙◌, ap, subst, arith, inl}
use Rattle.std.proofs.Common.{inr}
use Rattle.std.specs.Prelude.{◌==◌, sum_by}
use Rattle.std.specs.List.{All, AllPairs, filter, range_with_len}
use Rattle.std.proofs.lemmas.Bool.{cases_Bool, cond-true, cond-false, cond_both}
use Rattle.std.proofs.lemmas.List.{length-append, length-map, get_or-map}
use Rattle.std.proofs.lemmas.List.Elements.{All-nil, All-cons}
use Rattle.std.proofs.lemmas.List.Sums.{sum_by-le, sum_by-set, get_or-le-sum_by}
use Rattle.std.proofs.lemmas.List.FromFn.{length-map-range_with_len}
use Rattle.sem_key.specs.declared.limits.TheConstants.{VPES}
use Rattle.sem_msg.specs.declared.event.Act.TheVariants.{Call as Calls, Fetch, Handle, Upcall, Resume, Flush, Kill}
use Rattle.sem_msg.specs.declared.event.Event.{Event}
use Rattle.sem_msg.specs.declared.setup.VpeDecl.{VpeDecl}
use Rattle.sem_msg.specs.Setup.{Setup, IsSetup, IsVpeDecl, IsDeclared, call_count}
use Rattle.sem_msg.specs.Versions.{most_vpes}
use Rattle.sem_msg.proofs.Declared.{most_vpes-le}
use Rattle.sem_machine.specs.Machine.{World, event, is_enabled, kernel_events}
use Rattle.sem_machine.specs.Seeded.{entry_limit}
use Rattle.sem_kernel.specs.Listing.{enabled_of}
use Rattle.sem_serial.specs.Listed.{AreListed, most_enabled, most_listed}

-- no more of a list are kept than it has
few-kept : {X : Type 0} (p : X → Bool) (xs : List X) → length (filter p xs) ≤ length xs
few-kept p [] = omega arith
few-kept p (x ∷ xs) = elim (cases_Bool (p x)) [
  | inl kept ↦ let rest = few-kept p xs in let long = ap (λ (ys : List _). length ys) (cond-true (p x) (x ∷ filter p xs) (filter p xs) kept) in
      omega (arith, rest, long)
  | inr left ↦ let rest = few-kept p xs in let long = ap (λ (ys : List _). length ys) (cond-false (p x) (x ∷ filter p xs) (filter p xs) left) in
      omega (arith, rest, long)
]

-- Rising numbers that are below n are at most n.
module _ {X : Type 0} (number : X → ℕ) (n : ℕ) where
  rising-at : (xs : List X) → AllPairs (λ a b. number a < number b) xs → (k : ℕ) (d : X) → k < length xs → k ≤ number (get_or xs k d)
  rising-at xs rises zero d within = omega arith
  rising-at xs rises (suc k) d within =
      let before = rising-at xs rises k d (omega (arith, within)) in
      let more : number (get_or xs k d) < number (get_or xs (suc k) d) = rises k (suc k) d (omega arith) within in
      omega (arith, before, more)

  pub rising-few : (xs : List X) → AllPairs (λ a b. number a < number b) xs → All (λ x. number x < n) xs → length xs ≤ n
  rising-few [] rises below = omega arith
  rising-few (x ∷ xs) rises below =
      let last = rising-at (x ∷ xs) rises (length xs) x (omega arith) in
      let low : number (get_or (x ∷ xs) (length xs) x) < n = below (length xs) x (omega arith) in
      omega (arith, last, low)

module _ (T : Setup) (valid : IsSetup T) where
  pub few-vpes : length T.vpes ≤ VPES
  few-vpes = rising-few (λ (d : VpeDecl). d.vpe) VPES T.vpes valid.vpes_rise (λ k d within. let declared : IsVpeDecl T (get_or T.vpes k d) =
      valid.vpes k d within in let low = declared.vpe in let most = most_vpes-le T.version in omega (arith, low, most))

  -- a VPE that is killed is declared, so its number is below 128
  few-kills : length T.kills ≤ VPES
  few-kills = rising-few (λ (k : ℕ × ℕ). k.0) VPES T.kills valid.kills_rise (λ k d within. below (get_or T.kills k d).0 (valid.kills k d within).0)
    where
      below : (v : ℕ) → IsDeclared T v → v < VPES
      below v (k, d, within, at, is) =
          let declared : IsVpeDecl T (get_or T.vpes k d) = valid.vpes k d within in
          let low : d.vpe < most_vpes T.version = subst (λ (x : VpeDecl). x.vpe < most_vpes T.version) at declared.vpe in
          let most = most_vpes-le T.version in
          omega (arith, low, most, is)

  few-kernels : T.kernels ≤ 32
  few-kernels = let few = valid.few_kernels in let most = cond_both (T.version == 1) 16 32 (λ n. n ≤ 32) (λ _. omega arith) (λ _. omega arith) in
      omega (arith, few, most)

  -- the number of entries of a run is no large one
  pub small-limit : entry_limit T < 2 ^ 64
  small-limit = let calls = valid.few_calls in let kills = few-kills in omega (arith, calls, kills)

  pub small-calls : call_count T < 2 ^ 64
  small-calls = let calls = valid.few_calls in omega (arith, calls)

  -- a kernel has few events
  few-events : (i : ℕ) → length (kernel_events T i) ≤ most_enabled
  few-events i =
      let vpes = few-vpes in
      let kills = few-kills in
      let kernels = few-kernels in
      let calls : List Event = map (λ (d : VpeDecl). event i (Calls d.vpe)) T.vpes in
      let resumes : List Event = map (λ (d : VpeDecl). event i (Resume d.vpe)) T.vpes in
      let upcalls : List Event = map (λ (d : VpeDecl). event i (Upcall d.vpe)) T.vpes in
      let handles : List Event = event i Handle ∷ [] in
      let fetches : List Event = map (λ j. event i (Fetch j)) (range_with_len 0 T.kernels) in
      let flushes : List Event = map (λ j. event i (Flush j)) (range_with_len 0 T.kernels) in
      let ends : List Event = map (λ (d : ℕ × ℕ). event i (Kill d.0)) T.kills in
      let a = length-append (((((calls ++ resumes) ++ upcalls) ++ handles) ++ fetches) ++ flushes) ends in
      let b = length-append ((((calls ++ resumes) ++ upcalls) ++ handles) ++ fetches) flushes in
      let c = length-append (((calls ++ resumes) ++ upcalls) ++ handles) fetches in
      let d = length-append ((calls ++ resumes) ++ upcalls) handles in
      let e = length-append (calls ++ resumes) upcalls in
      let f = length-append calls resumes in
      let la : length calls ≡ length T.vpes = length-map T.vpes (λ (x : VpeDecl). event i (Calls x.vpe)) in
      let lb : length resumes ≡ length T.vpes = length-map T.vpes (λ (x : VpeDecl). event i (Resume x.vpe)) in
      let lc : length upcalls ≡ length T.vpes = length-map T.vpes (λ (x : VpeDecl). event i (Upcall x.vpe)) in
      let ld : length fetches ≡ T.kernels = length-map-range_with_len (λ j. event i (Fetch j)) 0 T.kernels in
      let le : length flushes ≡ T.kernels = length-map-range_with_len (λ j. event i (Flush j)) 0 T.kernels in
      let lf : length ends ≡ length T.kills = length-map T.kills (λ (x : ℕ × ℕ). event i (Kill x.0)) in
      omega (arith, vpes, kills, kernels, a, b, c, d, e, f, la, lb, lc, ld, le, lf)

  pub few-enabled : (W : World) (i : ℕ) → length (enabled_of T W i) ≤ most_enabled
  few-enabled W i = let kept = few-kept (is_enabled T W) (kernel_events T i) in let few = few-events i in omega (arith, kept, few)

  -- so there are few of them together
  pub few-listed : {X : Type 0} (f : X → List Event) (W : World) (xs : List X) → AreListed T W (map f xs) → sum_by (λ x. length (f x)) xs ≤ most_listed
  few-listed {X = X} f W xs listed =
      let each : All (λ (es : List Event). length es ≤ most_enabled) (map (enabled_of T W) (range_with_len 0 T.kernels)) =
      all-mapped (range_with_len 0 T.kernels) in
      let few : All (λ x. length (f x) ≤ most_enabled) xs = all-back xs (subst (All (λ (es : List Event). length es ≤ most_enabled)) (sym listed) each) in
      let sum = sum_by-le (λ x. length (f x)) most_enabled xs few in
      let count : length xs ≡ T.kernels = sym (length-map xs f)
      ∙ (ap (λ (ls : List (List Event)). length ls) listed ∙ length-map-range_with_len (enabled_of T W) 0 T.kernels) in
      let kernels = few-kernels in
      omega (arith, sum, count, kernels)
    where
      all-mapped : (ns : List ℕ) → All (λ (es : List Event). length es ≤ most_enabled) (map (enabled_of T W) ns)
      all-mapped [] = All-nil (λ (es : List Event). length es ≤ most_enabled)
      all-mapped (n ∷ ns) = All-cons (λ (es : List Event). length es ≤ most_enabled) (enabled_of T W n) (map (enabled_of T W) ns) (few-enabled W n)
          (all-mapped ns)

      all-back : (ys : List X) → All (λ (es : List Event). length es ≤ most_enabled) (map f ys) → All (λ y. length (f y) ≤ most_enabled) ys
      all-back ys all k d within = subst (λ (es : List Event). length es ≤ most_enabled) (get_or-map f ys k d (f d) within)
          (all k (f d) (let long = length-map ys f in omega (arith, within, long)))

-- one list is another now
pub recounted : {X : Type 0} (f : X → List Event) (xs : List X) (i : ℕ) (x y : X) (count : ℕ) → i < length xs → x ≡ get_or xs i x →
    count ≡ sum_by (λ z. length (f z)) xs → (length (f x) ≤ count) × (count - length (f x) + length (f y) ≡ sum_by (λ z. length (f z)) (set xs i y))
recounted f xs i x y count within is counted =
    let sum = sum_by-set (λ z. length (f z)) xs i y x within in
    let le = get_or-le-sum_by (λ z. length (f z)) xs i x within in
    let same = ap (λ z. length (f z)) is in
    (omega (arith, le, same, counted), omega (arith, sum, le, same, counted))
