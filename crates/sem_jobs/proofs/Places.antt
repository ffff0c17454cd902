-- What the spots of a store lead to, and what a change in the slab does to that.
use Rattle.std.proofs.Common.{◌≡◌, ◌≢◌, ℕ, suc, ◌+◌, ◌<◌, List, [], ◌∷◌, ◌++◌, length, take, drop, map, set, get_or, Option, Some, None, is_some, cond, refl}
use Rattle.std.proofs.Common.{sym, ◌∙◌, ap, subst, inl, inr, arith}
use Rattle.std.specs.List.{All, remove}
use Rattle.std.specs.Option.{unwrap_or}
use Rattle.std.specs.Prelude.{IsSomeAnd}
use Rattle.std.proofs.lemmas.Bool.{cases_eq, cases_lt, cases_order}
use Rattle.std.proofs.lemmas.List.{ext_get_or, get_or-map, get_or-set_other, get_or_default, length-map, length-set, length-append, map-append, take-map}
use Rattle.std.proofs.lemmas.List.{drop-map}
use Rattle.std.proofs.lemmas.Grind.{get_or-set_at}
use Rattle.std.proofs.lemmas.List.Edits.{length-remove, get_or-remove_below, get_or-remove_above}
use Rattle.std.proofs.lemmas.List.Elements.{All-tail, All-append, All-take, All-drop, All-push, All-weaker}
use Rattle.std.proofs.lemmas.List.Quantifiers.{all_pairs_push, all_pairs_remove}
use Rattle.std.proofs.lemmas.List.Sums.{sum_by-set}
use Rattle.slab.specs.Slab.{Slab, get, slab_len, with_value, Updates, ContainsKey}
use Rattle.slab.proofs.SlabLemmas.{ContainsKey-within, Updates-with_value}
use Rattle.sem_msg.specs.Rows.{JobRow}
use Rattle.sem_msg.specs.JobRows.{ids_of}
use Rattle.sem_jobs.specs.declared.spot.IdSpot.{IdSpot}
use Rattle.sem_jobs.specs.JobStore.{HasRisingIds}
use Rattle.sem_jobs.specs.Stored.{some_job, row_at, rows_of, LeadsTo, IsPlaced}

-- Spots.

pub length-rows : (slab : Slab JobRow) (spots : List IdSpot) → length (rows_of slab spots) ≡ length spots
length-rows slab spots = length-map spots (row_at slab)

-- a spot leads to what it finds
leading : (o : Option JobRow) (j : ℕ) → IsSomeAnd o (λ x. x.id ≡ j) → (o ≡ Some (unwrap_or o (some_job j))) × ((unwrap_or o (some_job j)).id ≡ j)
leading None j leads = absurd leads
leading (Some x) j leads = (refl, leads)

row-found : (slab : Slab JobRow) (spot : IdSpot) → LeadsTo slab spot → get slab spot.place ≡ Some (row_at slab spot)
row-found slab spot leads = (leading (get slab spot.place) spot.id leads).0

pub row-id : (slab : Slab JobRow) (spot : IdSpot) → LeadsTo slab spot → (row_at slab spot).id ≡ spot.id
row-id slab spot leads = (leading (get slab spot.place) spot.id leads).1

leads-some : (slab : Slab JobRow) (spot : IdSpot) (x : JobRow) → get slab spot.place ≡ Some x → x.id ≡ spot.id → LeadsTo slab spot
leads-some slab spot x is same = rw is same

-- where the places hold the same, the spots lead to the same
rows-same : (old new : Slab JobRow) (spots : List IdSpot) → All (λ s. get new s.place ≡ get old s.place) spots → rows_of new spots ≡ rows_of old spots
rows-same old new [] all = refl
rows-same old new (s ∷ spots) all =
    let here : row_at new s ≡ row_at old s = ap (λ o. unwrap_or o (some_job s.id)) (all 0 s (omega arith)) in
    let rest = rows-same old new spots (All-tail (λ s. get new s.place ≡ get old s.place) s spots all) in
    rw (here, rest) refl

map-remove : {X Y : Type 0} (f : X → Y) (xs : List X) (i : ℕ) → map f (remove xs i) ≡ remove (map f xs) i
map-remove f xs i = rw (map-append f (take i xs) (drop (suc i) xs), ← take-map f i xs, ← drop-map f (suc i) xs) refl

-- One job in its place.

module _ (slab : Slab JobRow) (spots : List IdSpot) (placed : IsPlaced slab spots) (at : ℕ) (within : at < length spots) (spot : IdSpot) (read : spot
    ≡ get_or spots at spot) where
  read-any : (d : IdSpot) → get_or spots at d ≡ spot
  read-any d = get_or_default spots at d spot within ∙ sym read

  pub leads-here : LeadsTo slab spot
  leads-here = subst (LeadsTo slab) (read-any spot) (placed.leads at spot within)

  -- the place is not empty
  pub contains-here : ContainsKey slab spot.place
  contains-here = let is = row-found slab spot leads-here in rw is refl

  -- no other spot leads to the place
  apart-here : (j : ℕ) (d : IdSpot) → j < length spots → j ≢ at → (get_or spots j d).place ≢ spot.place
  apart-here j d lt differs same =
      let here : (get_or spots at d).place ≡ spot.place = ap (λ (s : IdSpot). s.place) (read-any d) in
      elim (cases_order j at) [
        | inl equal ↦ differs equal
        | inr order ↦ elim order [
          | inl below ↦ placed.apart j at d below within (same ∙ sym here)
          | inr above ↦ placed.apart at j d above lt (here ∙ sym same)
        ]
      ]

  module _ (row : JobRow) (value : get slab spot.place ≡ Some row) where
    row-here : row_at slab spot ≡ row
    row-here = ap (λ o. unwrap_or o (some_job spot.id)) value

    pub row-read : row ≡ get_or (rows_of slab spots) at row
    row-read = sym (get_or-map (row_at slab) spots at spot row within ∙ (ap (row_at slab) (sym read) ∙ row-here))

    id-read : row.id ≡ spot.id
    id-read = ap (λ (x : JobRow). x.id) (sym row-here) ∙ row-id slab spot leads-here

    -- It is written.

    module _ (new : JobRow) where
      abbrev written : Slab JobRow
      written = with_value slab spot.place new

      updates : Updates slab written spot.place (Some new)
      updates = Updates-with_value slab spot.place new contains-here

      others : (j : ℕ) (d : IdSpot) → j < length spots → j ≢ at → get written (get_or spots j d).place ≡ get slab (get_or spots j d).place
      others j d lt differs = updates.others (get_or spots j d).place (apart-here j d lt differs)

      -- it alone is changed
      pub rows-set : rows_of written spots ≡ set (rows_of slab spots) at new
      rows-set = ext_get_or new (rows_of written spots) (set (rows_of slab spots) at new) (length-rows written spots
          ∙ (sym (length-rows slab spots) ∙ sym (length-set (rows_of slab spots) at new))) each
        where
          each : (j : ℕ) → j < length (rows_of written spots) → get_or (rows_of written spots) j new ≡ get_or (set (rows_of slab spots) at new) j new
          each j lt =
              let long = length-rows written spots in
              let inside : at < length (rows_of slab spots) = omega (arith, within, length-rows slab spots) in
              let lt_spots : j < length spots = omega arith in
              let read_new : get_or (rows_of written spots) j new ≡ row_at written (get_or spots j spot) =
              get_or-map (row_at written) spots j spot new lt_spots in
              elim (cases_eq j at) [
                | inl equal ↦
                    let here : row_at written spot ≡ new = ap (λ o. unwrap_or o (some_job spot.id)) updates.changed in
                    let same : get_or spots j spot ≡ spot = ap (λ n. get_or spots n spot) equal ∙ sym read in
                    read_new ∙ (ap (row_at written) same ∙ (here ∙ sym (get_or-set_at (rows_of slab spots) at j new new equal inside)))
                | inr differs ↦
                    let same : row_at written (get_or spots j spot) ≡ row_at slab (get_or spots j spot) =
                    ap (λ o. unwrap_or o (some_job (get_or spots j spot).id)) (others j spot lt_spots differs) in
                    let old : get_or (rows_of slab spots) j new ≡ row_at slab (get_or spots j spot) = get_or-map (row_at slab) spots j spot new lt_spots in
                    read_new ∙ (same ∙ (sym old ∙ sym (get_or-set_other (rows_of slab spots) at j new new differs)))
              ]

      -- and the spots lead to all as before
      pub placed-set : new.id ≡ row.id → IsPlaced written spots
      placed-set same = record { leads = leads; apart = placed.apart; full = full }
        where
          leads : All (LeadsTo written) spots
          leads j d lt = elim (cases_eq j at) [
            | inl equal ↦
                let here : get_or spots j d ≡ spot = ap (λ n. get_or spots n d) equal ∙ read-any d in
                subst (LeadsTo written) (sym here) (leads-some written spot new updates.changed (same ∙ id-read))
            | inr differs ↦
                let old = placed.leads j d lt in
                let kept : get written (get_or spots j d).place ≡ get slab (get_or spots j d).place = others j d lt differs in
                rw kept old
          ]

          full : slab_len written ≡ length spots
          full =
              let key_in_range = ContainsKey-within slab spot.place contains-here in
              let sum = sum_by-set (λ (o : Option JobRow). cond (is_some o) 1 0) slab.slots spot.place (Some new) None key_in_range in
              let slot : get_or slab.slots spot.place None ≡ Some row = value in
              let one : cond {A = ℕ} (is_some (get_or slab.slots spot.place None)) 1 0 ≡ 1 = rw slot refl in
              let old = placed.full in
              omega arith

  -- It is taken out.

  module _ (now : Slab JobRow) (updates : Updates slab now spot.place None) where
    same-left : All (λ s. get now s.place ≡ get slab s.place) (remove spots at)
    same-left j d lt = updates.others (get_or (remove spots at) j d).place differs
      where
        long : length (remove spots at) + 1 ≡ length spots
        long = length-remove spots at within

        differs : (get_or (remove spots at) j d).place ≢ spot.place
        differs same =
            let all = long in
            elim (cases_lt j at) [
              | inl below ↦
                  let old : get_or (remove spots at) j d ≡ get_or spots j d = get_or-remove_below spots at d j below within in
                  apart-here j d (omega arith) (λ (equal : j ≡ at). omega arith) (ap (λ (s : IdSpot). s.place) (sym old) ∙ same)
              | inr above ↦
                  let old : get_or (remove spots at) j d ≡ get_or spots (j + 1) d = get_or-remove_above spots at d j above within in
                  apart-here (j + 1) d (omega arith) (λ (equal : j + 1 ≡ at). omega arith) (ap (λ (s : IdSpot). s.place) (sym old) ∙ same)
            ]

    -- the others are left in their order
    pub rows-taken : rows_of now (remove spots at) ≡ remove (rows_of slab spots) at
    rows-taken = rows-same slab now (remove spots at) same-left ∙ map-remove (row_at slab) spots at

    pub placed-taken : slab_len now + 1 ≡ slab_len slab → IsPlaced now (remove spots at)
    placed-taken less = record {
      leads = λ j d lt. rw (same-left j d lt) (leads-left j d lt);
      apart = all_pairs_remove (λ a b. a.place ≢ b.place) spots at within placed.apart;
      full = let long = length-remove spots at within in let was = placed.full in omega arith;
    }
      where
        leads-left : All (LeadsTo slab) (remove spots at)
        leads-left = All-append (LeadsTo slab) (take at spots) (drop (suc at) spots) (All-take (LeadsTo slab) at spots placed.leads)
            (All-drop (LeadsTo slab) (suc at) spots placed.leads)

-- One job more.

module _ (old new : Slab JobRow) (place : ℕ) (row : JobRow) (vacant : get old place ≡ None) (updates : Updates old new place (Some row)) where
  elsewhere : (s : IdSpot) → LeadsTo old s → s.place ≢ place
  elsewhere s leads same = let found = row-found old s leads in let clash : Some (row_at old s) ≡ None = sym found ∙ (ap (get old) same ∙ vacant) in absurd cc

  kept : (s : IdSpot) → LeadsTo old s → get new s.place ≡ get old s.place
  kept s leads = updates.others s.place (elsewhere s leads)

  module _ (spots : List IdSpot) (placed : IsPlaced old spots) where
    abbrev spot : IdSpot
    spot = record { id = row.id; place = place }

    pub rows-pushed : rows_of new (spots ++ spot ∷ []) ≡ rows_of old spots ++ row ∷ []
    rows-pushed =
        let here : row_at new spot ≡ row = ap (λ o. unwrap_or o (some_job row.id)) updates.changed in
        let rest = rows-same old new spots (λ j d lt. kept (get_or spots j d) (placed.leads j d lt)) in
        map-append (row_at new) spots (spot ∷ []) ∙ rw (here, rest) refl

    pub placed-pushed : slab_len new ≡ slab_len old + 1 → IsPlaced new (spots ++ spot ∷ [])
    placed-pushed more = record {
      leads = All-push (LeadsTo new) spots spot (All-weaker (LeadsTo old) (LeadsTo new) (λ s leads. rw (kept s leads) leads) spots placed.leads)
          (leads-some new spot row updates.changed refl);
      apart = all_pairs_push (λ a b. a.place ≢ b.place) spots spot placed.apart (λ k d lt. elsewhere (get_or spots k d) (placed.leads k d lt));
      full = let long = length-append spots (spot ∷ []) in let was = placed.full in omega arith;
    }

-- More room in the slab.

module _ (old new : Slab JobRow) (same : new ≡ record old { capacity = new.capacity }) (spots spots' : List IdSpot) (kept : spots' ≡ spots) where
  pub rows-grown : rows_of new spots' ≡ rows_of old spots
  rows-grown = rw kept (ap (λ (s : Slab JobRow). rows_of s spots) same)

  -- all is as before but for the room
  pub grown : (next : ℕ) → HasRisingIds (ids_of (rows_of old spots)) next × IsPlaced old spots → HasRisingIds (ids_of (rows_of new spots')) next
      × IsPlaced new spots'
  grown next stored = rw kept (subst (λ (s : Slab JobRow). HasRisingIds (ids_of (rows_of s spots)) next × IsPlaced s spots) (sym same) (
    stored.0,
    record { leads = stored.1.leads; apart = stored.1.apart; full = stored.1.full },
  ))
