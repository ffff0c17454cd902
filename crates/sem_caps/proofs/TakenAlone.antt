-- What is stored after the only marked capability was taken out, and where nothing is marked.
use Rattle.std.proofs.Common.{◌≡◌, ◌≢◌, ℕ, ◌+◌, ◌<◌, ◌≤◌, true, not, List, [], ◌∷◌, ◌++◌, length, map, take, get_or, Some, None, refl, sym, ◌∙◌, ap, subst}
use Rattle.std.proofs.Common.{arith}
use Rattle.std.specs.List.{All, filter, remove}
use Rattle.std.proofs.Math.Seq.{take-append_seam}
use Rattle.std.proofs.lemmas.List.{drop_all, get_or-map, length-append, length-map, take_all}
use Rattle.std.proofs.lemmas.List.Filters.{length-filter_both, sum_by-filter_both}
use Rattle.std.proofs.lemmas.List.Sums.{sum_by-cons}
use Rattle.slab.specs.Slab.{Slab, get, slab_len, Updates, ContainsKey}
use Rattle.sem_key.specs.declared.object.Cap.{Cap}
use Rattle.sem_key.specs.Capability.{Capability, capability_of}
use Rattle.sem_key.specs.CapList.{is_marked_by, marked_by, not_marked_by, link_count}
use Rattle.sem_caps.specs.CapStore.{Spot}
use Rattle.sem_caps.specs.Stored.{capabilities_in, row_at, rows_of, LeadsTo, IsOnlyMarked, IsPlaced}
use Rattle.sem_caps.proofs.Places.{length-rows, row-found}
use Rattle.sem_caps.proofs.RisingCaps.{length-plain}
use Rattle.sem_caps.proofs.Swept.{map-filter}
use Rattle.sem_caps.proofs.Taken.{goes, stays, IsTaking}
use Rattle.sem_caps.proofs.Alone.{all-left, no-length, alone-passes, alone-leaves}

module _ (job : ℕ) {old : Slab Cap} {spots : List Spot} (placed : IsPlaced old spots) where
  abbrev caps : List Capability
  caps = capabilities_in (rows_of old spots)

  -- the spots and the capabilities to which they lead are as many
  long : length caps ≡ length spots
  long = length-plain (rows_of old spots) ∙ length-rows old spots

  -- and so are those that go
  gone-caps : map capability_of (map (row_at old) (filter (goes job old) spots)) ≡ marked_by job caps
  gone-caps = ap (map capability_of) (map-filter (row_at old) (λ c. is_marked_by job (capability_of c)) spots)
      ∙ map-filter capability_of (is_marked_by job) (rows_of old spots)

  gone-long : length (filter (goes job old) spots) ≡ length (marked_by job caps)
  gone-long =
      let a = length-map (filter (goes job old) spots) (row_at old) in
      let b = length-map (map (row_at old) (filter (goes job old) spots)) capability_of in
      let c = ap (λ (xs : List Capability). length xs) gone-caps in
      omega (arith, a, b, c)

  -- Where nothing is marked.

  module _ (none : length (marked_by job caps) ≡ 0) where
    pub none-marked : marked_by job caps ≡ []
    none-marked = no-length (is_marked_by job) (marked_by job caps) none

    pub caps-stay : not_marked_by job caps ≡ caps
    caps-stay = all-left (is_marked_by job) caps none

    pub spots-stay : filter (stays job old) spots ≡ spots
    spots-stay = all-left (goes job old) spots (gone-long ∙ none)

    pub rows-stay : filter (λ c. not (is_marked_by job (capability_of c))) (rows_of old spots) ≡ rows_of old spots
    rows-stay = sym (map-filter (row_at old) (λ c. not (is_marked_by job (capability_of c))) spots) ∙ ap (map (row_at old)) spots-stay

  -- Where what stands at a place alone is.

  module _ {at : ℕ} (alone : IsOnlyMarked job caps at) (spot : Spot) (read : spot ≡ get_or spots at spot) where
    pub in_spots : at < length spots
    in_spots = let within = alone.within in omega (arith, within, long)

    abbrev row : Cap
    row = row_at old spot

    cap-here : (d : Capability) → get_or caps at d ≡ capability_of row
    cap-here d =
        get_or-map capability_of (rows_of old spots) at row d (let count = length-rows old spots in omega (arith, count, in_spots))
        ∙ ap capability_of (get_or-map (row_at old) spots at spot row in_spots ∙ ap (row_at old) (sym read))

    marked : goes job old spot ≡ true
    marked = ap (is_marked_by job) (sym (cap-here (capability_of row))) ∙ alone.marked (capability_of row)

    at-spot : goes job old (get_or spots at spot) ≡ true
    at-spot = ap (goes job old) (sym read) ∙ marked

    only : length (filter (goes job old) spots) ≡ 1
    only = gone-long ∙ alone.one

    pub spots-alone : remove spots at ≡ filter (stays job old) spots
    spots-alone = sym (alone-leaves (goes job old) spots at spot in_spots at-spot only)

    gone-spots : filter (goes job old) spots ≡ spot ∷ []
    gone-spots = alone-passes (goes job old) spots at spot in_spots at-spot only ∙ ap (λ (s : Spot). s ∷ []) (sym read)

    -- it is what the job has marked
    pub caps-alone : marked_by job caps ≡ capability_of row ∷ []
    caps-alone = sym gone-caps ∙ ap (λ xs. map capability_of (map (row_at old) xs)) gone-spots

    leads : LeadsTo old spot
    leads = subst (LeadsTo old) (sym read) (placed.leads at spot in_spots)

    pub found : get old spot.place ≡ Some row
    found = row-found old spot leads

    pub contains : ContainsKey old spot.place
    contains = rw found refl

    -- all were seen, and it is out
    pub taking-alone : (next : Slab Cap) → Updates old next spot.place None → slab_len next + 1 ≡ slab_len old → next.capacity ≡ old.capacity
        → IsTaking job old next spots (filter (stays job old) spots ++ filter (goes job old) spots) (length (filter (stays job old) spots)) (length spots)
    taking-alone next updates less room =
        let all : take (length spots) spots ≡ spots = take_all (length spots) spots (omega arith) in
        let both = length-filter_both (goes job old) (stays job old) (λ s. refl) spots in
        let whole = length-append (filter (stays job old) spots) (filter (goes job old) spots) in
        record {
          closing = record {
            front = take-append_seam (filter (stays job old) spots) (filter (goes job old) spots) ∙ ap (filter (stays job old)) (sym all);
            rest = drop_all (length spots) (filter (stays job old) spots ++ filter (goes job old) spots) (omega (arith, both, whole))
                ∙ sym (drop_all (length spots) spots (omega arith));
            behind = omega (arith, both);
            within = omega arith;
            long = omega (arith, both, whole);
          };
          others = λ p apart.
              let gone = ap (filter (goes job old)) all ∙ gone-spots in
              let one : All (λ (s : Spot). s.place ≢ p) (spot ∷ []) = subst (All (λ (s : Spot). s.place ≢ p)) gone apart in
              let here : spot.place ≢ p = one 0 spot (omega arith) in
              updates.others p (λ same. here (sym same));
          count = let gone = ap (λ (xs : List Spot). length xs) (ap (filter (goes job old)) all ∙ gone-spots) in omega (arith, gone, less);
          capacity = room;
        }

    -- its links were counted, and are no more
    links-alone : link_count caps ≡ length row.children.keys + link_count (not_marked_by job caps)
    links-alone =
        let both = sum_by-filter_both (is_marked_by job) (λ c. not (is_marked_by job c)) (λ c. refl) (λ (c : Capability). length c.children) caps in
        let one = ap link_count caps-alone in
        let head = sum_by-cons (λ (c : Capability). length c.children) (capability_of row) [] in
        omega (arith, both, one, head)

    pub links-there : (links : ℕ) → links ≡ link_count caps → length row.children.keys ≤ links
    links-there links counted = let parts = links-alone in omega (arith, parts, counted)

    pub links-gone : (links left : ℕ) → links ≡ link_count caps → left + length row.children.keys ≡ links → left ≡ link_count (not_marked_by job caps)
    links-gone links left counted sum = let parts = links-alone in omega (arith, parts, counted, sum)
