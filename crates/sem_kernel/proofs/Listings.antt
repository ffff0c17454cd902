-- What the list of enabled events has after more of its events were tried.
use Rattle.std.proofs.Common.{◌≡◌, ℕ, ◌+◌, ◌<◌, ◌≤◌, ◌&&◌, Bool, true, false, not, List, [], ◌∷◌, ◌++◌, length, map, take, get_or, refl, sym, ◌∙◌, ap, arith}
use Rattle.std.specs.Prelude.{◌==◌, nat_lt}
use Rattle.std.specs.List.{Contains, flat_map, range_with_len}
use Rattle.std.specs.Option.{option_map_or}
use Rattle.std.proofs.lemmas.Bool.{cond-true, cond-false, le-ltb}
use Rattle.std.proofs.lemmas.List.{append_assoc, append-nil, map-append, map-id, take_more, take_all}
use Rattle.std.proofs.lemmas.List.Elements.{filter-append}
use Rattle.std.proofs.lemmas.List.FromFn.{map-range_with_len_more}
use Rattle.std.proofs.lemmas.Grind.{flat_map-append}
use Rattle.sem_msg.specs.declared.event.Act.{Act}
use Rattle.sem_msg.specs.declared.event.Act.TheVariants.{Call as CallAct, Fetch, Handle, Upcall as UpcallAct, Resume as ResumeAct, Flush, Kill}
use Rattle.sem_msg.specs.declared.event.Event.{Event}
use Rattle.sem_msg.specs.declared.setup.VpeDecl.{VpeDecl}
use Rattle.sem_msg.specs.Setup.{Setup, IsSetup}
use Rattle.sem_msg.specs.Lookups.{pe_owner, kernel_of}
use Rattle.sem_msg.specs.Masks.{has_bit}
use Rattle.sem_msg.proofs.Masks.{kept-same, kept-longer}
use Rattle.sem_caps.proofs.Swept.{map-filter}
use Rattle.sem_machine.specs.Machine.{World, event, is_enabled, is_locally_enabled, kernel_events, enabled}
use Rattle.sem_machine.proofs.FirstNumbers.{find-decl}
use Rattle.sem_kernel.specs.declared.listing.VpeRow.{VpeRow}
use Rattle.sem_kernel.specs.declared.listing.VpeRow.TheVariants.{Calls, Resumes, Upcalls}
use Rattle.sem_kernel.specs.Listing.{enabled_among, enabled_of, others_in, vpe_act}
use Rattle.sem_kernel.proofs.Happened.{enabled-nowhere}

-- one number more
range-more : (n : ℕ) → range_with_len 0 (n + 1) ≡ range_with_len 0 n ++ n ∷ []
range-more n =
    sym (map-id (range_with_len 0 (n + 1)))
    ∙ (map-range_with_len_more (λ k. k) 0 n n (omega arith)
    ∙ ap (λ ks. ks ++ n ∷ []) (map-id (range_with_len 0 n)))

module _ (T : Setup) (W : World) where
  -- those of some events, and then those of more
  pub and-more : (xs ys out new more : List Event) → new ≡ out ++ enabled_among T W xs → more ≡ new ++ enabled_among T W ys →
      more ≡ out ++ enabled_among T W (xs ++ ys)
  and-more xs ys out new more first then =
      then
      ∙ (ap (λ es. es ++ enabled_among T W ys) first
      ∙ (append_assoc out (enabled_among T W xs) (enabled_among T W ys)
      ∙ ap (λ es. out ++ es) (sym (filter-append (is_enabled T W) xs ys))))

  -- an event is tried
  pub one-enabled : (e : Event) (out : List Event) → is_enabled T W e ≡ true → out ++ e ∷ [] ≡ out ++ enabled_among T W (e ∷ [])
  one-enabled e out enabled = ap (λ es. out ++ es) (sym (cond-true (is_enabled T W e) (e ∷ []) [] enabled))

  pub one-disabled : (e : Event) (out : List Event) → is_enabled T W e ≡ false → out ≡ out ++ enabled_among T W (e ∷ [])
  one-disabled e out disabled = sym (ap (λ es. out ++ es) (cond-false (is_enabled T W e) (e ∷ []) [] disabled) ∙ append-nil out)

  -- one more of a row through a list
  pub row-more : {X : Type 0} (f : X → Event) (xs : List X) (n : ℕ) (x : X) (out now new : List Event) → n < length xs → x ≡ get_or xs n x →
      now ≡ out ++ enabled_among T W (map f (take n xs)) → new ≡ now ++ enabled_among T W (f x ∷ []) → new ≡ out ++ enabled_among T W (map f (take (n + 1) xs))
  row-more f xs n x out now new more at so_far is =
      and-more (map f (take n xs)) (f x ∷ []) out now new so_far is
      ∙ ap (λ es. out ++ enabled_among T W es) (sym (ap (map f) (take_more xs n x more ∙ ap (λ y. take n xs ++ y ∷ []) (sym at))
      ∙ map-append f (take n xs) (x ∷ [])))

  pub row-all : {X : Type 0} (f : X → Event) (xs : List X) (n : ℕ) (out now : List Event) → length xs ≤ n → now ≡ out ++ enabled_among T W (map f (take n xs)) →
      now ≡ out ++ enabled_among T W (map f xs)
  row-all f xs n out now all so_far = so_far ∙ ap (λ ys. out ++ enabled_among T W (map f ys)) (take_all n xs all)

  -- the events for those kernels of which a mask has the bit
  pub peers-kept : (f : ℕ → Event) (mask i : ℕ) → T.kernels ≤ 32 → ((j : ℕ) → j < 32 → (not (j == i) && has_bit mask j) ≡ is_enabled T W (f j)) →
      ((j : ℕ) → T.kernels ≤ j → is_enabled T W (f j) ≡ false) → map f (others_in mask i) ≡ enabled_among T W (map f (range_with_len 0 T.kernels))
  peers-kept f mask i few told off =
      ap (map f) (kept-same (λ j. is_enabled T W (f j)) (λ j. not (j == i) && has_bit mask j) 32 0 (λ j low high. told j (omega arith))
      ∙ kept-longer (λ j. is_enabled T W (f j)) T.kernels 32 0 few (λ j low high. off j (omega arith)))
      ∙ map-filter f (is_enabled T W) (range_with_len 0 T.kernels)

  -- one more kernel
  pub kernels-more : (n : ℕ) (now new : List Event) → now ≡ enabled_among T W (flat_map (kernel_events T) (range_with_len 0 n)) →
      new ≡ now ++ enabled_of T W n → new ≡ enabled_among T W (flat_map (kernel_events T) (range_with_len 0 (n + 1)))
  kernels-more n now new so_far is =
      is
      ∙ (ap (λ es. es ++ enabled_of T W n) so_far
      ∙ sym (ap (λ ns. enabled_among T W (flat_map (kernel_events T) ns)) (range-more n)
      ∙ (ap (enabled_among T W) (flat_map-append (kernel_events T) (range_with_len 0 n) (n ∷ [])
      ∙ ap (λ es. flat_map (kernel_events T) (range_with_len 0 n) ++ es) (append-nil (kernel_events T n)))
      ∙ filter-append (is_enabled T W) (flat_map (kernel_events T) (range_with_len 0 n)) (kernel_events T n))))

  -- all kernels
  pub kernels-all : (n : ℕ) (now : List Event) → n ≡ T.kernels → now ≡ enabled_among T W (flat_map (kernel_events T) (range_with_len 0 n)) → now ≡ enabled T W
  unfolding enabled
  kernels-all n now all so_far = so_far ∙ ap (λ k. enabled_among T W (flat_map (kernel_events T) (range_with_len 0 k))) all

  -- there is no event of a kernel past the last
  none-both : (xs ys : List Event) → enabled_among T W xs ≡ [] → enabled_among T W ys ≡ [] → enabled_among T W (xs ++ ys) ≡ []
  none-both xs ys first then = filter-append (is_enabled T W) xs ys ∙ (ap (λ es. es ++ enabled_among T W ys) first ∙ then)

  pub none-kept : {X : Type 0} (f : X → Event) (xs : List X) → ((x : X) → is_enabled T W (f x) ≡ false) → enabled_among T W (map f xs) ≡ []
  none-kept f [] off = refl
  none-kept f (x ∷ xs) off = cond-false (is_enabled T W (f x)) (f x ∷ enabled_among T W (map f xs)) (enabled_among T W (map f xs)) (off x) ∙ none-kept f xs off

  pub kernels-none : (i : ℕ) → T.kernels ≤ i → enabled_of T W i ≡ []
  kernels-none i over =
      let off : (act : Act) → is_enabled T W (event i act) ≡ false = λ act. sym (enabled-nowhere T W (event i act) over) ∙ le-ltb i T.kernels over in
      let calls : List Event = map (λ (d : VpeDecl). event i (CallAct d.vpe)) T.vpes in
      let resumes : List Event = map (λ (d : VpeDecl). event i (ResumeAct d.vpe)) T.vpes in
      let upcalls : List Event = map (λ (d : VpeDecl). event i (UpcallAct d.vpe)) T.vpes in
      let fetches : List Event = map (λ j. event i (Fetch j)) (range_with_len 0 T.kernels) in
      let flushes : List Event = map (λ j. event i (Flush j)) (range_with_len 0 T.kernels) in
      let kills : List Event = map (λ (d : ℕ × ℕ). event i (Kill d.0)) T.kills in
      none-both ((((((calls ++ resumes) ++ upcalls) ++ (event i Handle ∷ [])) ++ fetches) ++ flushes)) kills
      (none-both (((((calls ++ resumes) ++ upcalls) ++ (event i Handle ∷ [])) ++ fetches)) flushes
      (none-both ((((calls ++ resumes) ++ upcalls) ++ (event i Handle ∷ []))) fetches
      (none-both (((calls ++ resumes) ++ upcalls)) (event i Handle ∷ [])
      (none-both ((calls ++ resumes)) upcalls
      (none-both calls resumes
      (none-kept (λ (d : VpeDecl). event i (CallAct d.vpe)) T.vpes (λ d. off (CallAct d.vpe)))
      (none-kept (λ (d : VpeDecl). event i (ResumeAct d.vpe)) T.vpes (λ d. off (ResumeAct d.vpe))))
      (none-kept (λ (d : VpeDecl). event i (UpcallAct d.vpe)) T.vpes (λ d. off (UpcallAct d.vpe))))
      (cond-false (is_enabled T W (event i Handle)) (event i Handle ∷ []) [] (off Handle)))
      (none-kept (λ j. event i (Fetch j)) (range_with_len 0 T.kernels) (λ j. off (Fetch j))))
      (none-kept (λ j. event i (Flush j)) (range_with_len 0 T.kernels) (λ j. off (Flush j))))
      (none-kept (λ (d : ℕ × ℕ). event i (Kill d.0)) T.kills (λ d. off (Kill d.0)))

  -- a VPE of another kernel has no event at kernel i
  pub elsewhere : IsSetup T → (i : ℕ) (row : VpeRow) (d : VpeDecl) → Contains T.vpes d → (pe_owner T d.pe == i) ≡ false →
      is_enabled T W (event i (vpe_act row d.vpe)) ≡ false
  unfolding is_enabled is_locally_enabled
  elsewhere valid i row d among other = from row
    where
      none : (kernel_of T d.vpe == i) ≡ false
      none = ap (λ o. option_map_or (λ (x : VpeDecl). pe_owner T x.pe) o T.kernels == i) (find-decl T.vpes d valid.vpes_rise among) ∙ other

      and-false : (a b : Bool) → b ≡ false → (a && b) ≡ false
      and-false true b off = off
      and-false false b off = refl

      first-false : (a b : Bool) → a ≡ false → (a && b) ≡ false
      first-false a b off = ap (λ c. c && b) off

      from : (r : VpeRow) → is_enabled T W (event i (vpe_act r d.vpe)) ≡ false
      from Calls = and-false (nat_lt i T.kernels) _ (first-false _ true (first-false (kernel_of T d.vpe == i) _ none))
      from Resumes = and-false (nat_lt i T.kernels) _ (first-false _ true (first-false (kernel_of T d.vpe == i) _ none))
      from Upcalls = and-false (nat_lt i T.kernels) _ (first-false _ true (first-false (kernel_of T d.vpe == i) _ none))
