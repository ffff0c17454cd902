-- The lists of enabled events, kernel by kernel, and what is picked of them.
use Rattle.std.proofs.Common.{◌≡◌, ℕ, ◌+◌, ◌-◌, ◌<◌, ◌≤◌, ◌&&◌, zero, suc, Bool, cond, true, false, List, [], ◌∷◌, ◌++◌, length, map, set, drop, get_or, Option}
use Rattle.std.proofs.Common.{Some, None, is_some, slice_get, refl, sym, ◌∙◌, ap, subst, arith, inl, inr, ◌⊎◌, length-set, get_or-set_same, get_or-set_other}
use Rattle.std.specs.List.{filter, flat_map, range_with_len}
use Rattle.std.specs.Prelude.{◌||◌, nat_lt}
use Rattle.std.proofs.lemmas.Bool.{cases_eq, and_parts}
use Rattle.std.proofs.lemmas.List.{same_lists, get_or_default, drop_more, length-map}
use Rattle.std.proofs.lemmas.List.Elements.{filter-append}
use Rattle.std.proofs.lemmas.List.FromFn.{length-map-range_with_len, get_or-map-range_with_len, map-range_with_len_more}
use Rattle.sem_msg.specs.declared.event.Act.{Act}
use Rattle.sem_msg.specs.declared.event.Act.TheVariants.{Call as Calls, Fetch, Handle, Upcall, Resume, Flush, Kill}
use Rattle.sem_msg.specs.declared.event.Event.{Event}
use Rattle.sem_msg.specs.Setup.{Setup}
use Rattle.sem_machine.specs.Machine.{World, side, link, is_locally_enabled, is_allowed, is_enabled, kernel_events, enabled, after, entry_of}
use Rattle.sem_kernel.specs.Worlds.{NamesPeer}
use Rattle.sem_kernel.proofs.Peers.{enabled-peer}
use Rattle.sem_kernel.specs.Listing.{enabled_of}
use Rattle.sem_serial.specs.Listed.{AreListed, comes_due, touched_peer}
use Rattle.sem_serial.proofs.Touching.{untouched-same}

-- one list more
pub listed-more : (T : Setup) (W : World) (n : ℕ) (lists : List (List Event)) (list : List Event) → lists ≡ map (enabled_of T W) (range_with_len 0 n) →
    list ≡ enabled_of T W n → lists ++ list ∷ [] ≡ map (enabled_of T W) (range_with_len 0 (n + 1))
listed-more T W n lists list before is =
    ap (λ xs. xs ++ list ∷ []) before
    ∙ (ap (λ x. map (enabled_of T W) (range_with_len 0 n) ++ x ∷ []) is
    ∙ sym (map-range_with_len_more (enabled_of T W) 0 n n (omega arith)))

-- The lists together.

filter-flat : {X Y : Type 0} (p : Y → Bool) (f : X → List Y) (xs : List X) → filter p (flat_map f xs) ≡ flat_map (λ x. filter p (f x)) xs
filter-flat p f [] = refl
filter-flat p f (x ∷ xs) = filter-append p (f x) (flat_map f xs) ∙ ap (λ ys. filter p (f x) ++ ys) (filter-flat p f xs)

flat-map : {X Y : Type 0} (f : X → List Y) (xs : List X) → flat_map (λ ys. ys) (map f xs) ≡ flat_map f xs
flat-map f [] = refl
flat-map f (x ∷ xs) = ap (λ ys. f x ++ ys) (flat-map f xs)

-- they are the enabled events
pub together : {X : Type 0} (f : X → List Event) (T : Setup) (W : World) (xs : List X) → AreListed T W (map f xs) → flat_map f xs ≡ enabled T W
unfolding enabled
together f T W xs listed =
    sym (flat-map f xs)
    ∙ ap (flat_map (λ es. es)) listed
    ∙ (flat-map (enabled_of T W) (range_with_len 0 T.kernels)
    ∙ sym (filter-flat (is_enabled T W) (kernel_events T) (range_with_len 0 T.kernels)))

-- From one world to the next.

pub none-some : {k : ℕ} → ◌≡◌ {A = Option ℕ} None (Some k) → ⊥
none-some same = absurd cc

pub some-same : {i j : ℕ} → Some i ≡ Some j → i ≡ j
some-same same = cc

-- each list is renewed, but for kernels of which P holds
pub record AreRenewedBut (T : Setup) (now : World) (P : ℕ → Type 0) (lists : List (List Event)) : Type 0 where
  pub count : length lists ≡ T.kernels
  pub each : (k : ℕ) → k < T.kernels → P k ⊎ (get_or lists k [] ≡ enabled_of T now k)

-- before any is renewed
pub renewing-start : (T : Setup) (before now : World) (e : Event) (replied : Bool) (lists : List (List Event)) → now ≡ after T before e →
    replied ≡ is_some (entry_of T before e).reply → comes_due T now.replies replied ≡ false → AreListed T before lists →
    AreRenewedBut T now (λ k. (k ≡ e.kernel) ⊎ (touched_peer T now e.kernel e.act ≡ Some k)) lists
renewing-start T before now e replied lists happened told silent listed = record {
  count = ap length listed ∙ length-map-range_with_len (enabled_of T before) 0 T.kernels;
  each = λ k within. elim (cases_eq k e.kernel) [
    | inl own ↦ inl (inl own)
    | inr other ↦ elim (is_peer (touched_peer T now e.kernel e.act) k) [
      | inl peer ↦ inl (inr peer)
      | inr apart ↦ inr (
          ap (λ ls. get_or ls k []) listed
          ∙ (get_or-map-range_with_len (enabled_of T before) 0 T.kernels k k [] within (omega arith)
          ∙ (sym (untouched-same T before e k other (subst (λ W. touched_peer T W e.kernel e.act ≡ Some k → ⊥) happened apart) replied told
          (subst (λ W. comes_due T W.replies replied ≡ false) happened silent))
          ∙ ap (λ W. enabled_of T W k) (sym happened))))
    ]
  ];
}
  where
    is_peer : (o : Option ℕ) (k : ℕ) → (o ≡ Some k) ⊎ (o ≡ Some k → ⊥)
    is_peer None k = inr (λ same. absurd cc)
    is_peer (Some j) k = elim (cases_eq j k) [
      | inl same ↦ inl (ap Some same)
      | inr other ↦ inr (λ same. other (some-same same))
    ]

-- one of them is renewed
pub renewing-one : (T : Setup) (now : World) (P Q : ℕ → Type 0) (i : ℕ) (lists more : List (List Event)) → ((k : ℕ) → P k → (k ≡ i) ⊎ Q k) →
    AreRenewedBut T now P lists → i < T.kernels → more ≡ set lists i (enabled_of T now i) → AreRenewedBut T now Q more
renewing-one T now P Q i lists more left so_far within is = subst (AreRenewedBut T now Q) (sym is) (
    let inside : i < length lists = let count = so_far.count in omega (arith, within, count) in
    record {
      count = length-set lists i (enabled_of T now i) ∙ so_far.count;
      each = λ k few. elim (cases_eq k i) [
        | inl same ↦ inr (subst (λ j. get_or (set lists i (enabled_of T now i)) j [] ≡ enabled_of T now j) (sym same)
            (get_or-set_same lists i (enabled_of T now i) [] inside))
        | inr other ↦ elim (so_far.each k few) [
          | inl waits ↦ elim (left k waits) [
            | inl same ↦ absurd (other same)
            | inr still ↦ inl still
          ]
          | inr done ↦ inr (get_or-set_other lists i k (enabled_of T now i) [] other ∙ done)
        ]
      ];
    })

-- all are
pub renewing-all : (T : Setup) (now : World) (P : ℕ → Type 0) (lists : List (List Event)) → ((k : ℕ) → P k → ⊥) → AreRenewedBut T now P lists →
    AreListed T now lists
renewing-all T now P lists none so_far =
    same_lists lists (map (enabled_of T now) (range_with_len 0 T.kernels))
    (so_far.count ∙ sym (length-map-range_with_len (enabled_of T now) 0 T.kernels))
    (λ k d within.
    let few : k < T.kernels = let count = so_far.count in omega (arith, within, count) in
    get_or_default lists k d [] within
    ∙ (elim (so_far.each k few) [
      | inl waits ↦ absurd (none k waits)
      | inr done ↦ done
    ]
    ∙ sym (get_or-map-range_with_len (enabled_of T now) 0 T.kernels k k d few (omega arith))))

-- how many lists there are
pub listed-count : {X : Type 0} (f : X → List Event) (T : Setup) (W : World) (xs : List X) → AreListed T W (map f xs) → length xs ≡ T.kernels
listed-count f T W xs listed = sym (length-map xs f) ∙ (ap length listed ∙ length-map-range_with_len (enabled_of T W) 0 T.kernels)

pub renewed-count : {X : Type 0} (f : X → List Event) (xs ys : List X) (i : ℕ) (list : List Event) → map f ys ≡ set (map f xs) i list → length ys ≡ length xs
renewed-count f xs ys i list is = sym (length-map ys f) ∙ (ap length is ∙ (length-set (map f xs) i list ∙ length-map xs f))

-- an enabled event names another kernel
pub enabled-names : (T : Setup) (W : World) (e : Event) → is_enabled T W e ≡ true → NamesPeer T.kernels e.kernel e.act
unfolding is_enabled
enabled-names T W e enabled =
    enabled-peer T e.kernel (side W e.kernel) e.act (and_parts (is_locally_enabled T e.kernel (side W e.kernel) e.act) (is_allowed T W e.kernel e.act)
    (and_parts (nat_lt e.kernel T.kernels) (is_locally_enabled T e.kernel (side W e.kernel) e.act && is_allowed T W e.kernel e.act) enabled).1).0

-- what is touched is that one
given : (b : Bool) (j p : ℕ) → cond {A = Option ℕ} b None (Some j) ≡ Some p → j ≡ p
given true j p none = absurd cc
given false j p same = some-same same

pub peer-few : (T : Setup) (W : World) (i : ℕ) (act : Act) (p : ℕ) → NamesPeer T.kernels i act → touched_peer T W i act ≡ Some p → p < T.kernels
peer-few T W i (Fetch j) p names some = subst (λ n. n < T.kernels) (given (nat_lt (length (link W j i)) (T.window - 1)) j p some) names.0
peer-few T W i (Flush j) p names some = subst (λ n. n < T.kernels) (given (is_some (side W j).inbox || nat_lt 1 (length (link W i j))) j p some) names.0
peer-few T W i (Calls v) p names none = absurd cc
peer-few T W i (Resume v) p names none = absurd cc
peer-few T W i (Upcall v) p names none = absurd cc
peer-few T W i Handle p names none = absurd cc
peer-few T W i (Kill v) p names none = absurd cc

-- What stands at a place of them together.

-- it stands in the list at hand, or so much further on in the rest
pub flat-here : (list : List Event) (rest : List Event) (place : ℕ) → place < length list → (d : Event) →
    slice_get (list ++ rest) place ≡ Some (get_or list place d)
flat-here [] rest place within d = absurd (omega (arith, within))
flat-here (e ∷ es) rest zero within d = refl
flat-here (e ∷ es) rest (suc n) within d = flat-here es rest n (omega (arith, within)) d

pub flat-later : (list : List Event) (rest : List Event) (place : ℕ) → length list ≤ place →
    slice_get (list ++ rest) place ≡ slice_get rest (place - length list)
flat-later [] rest place past = ap (slice_get rest) (omega arith)
flat-later (e ∷ es) rest zero past = absurd (omega (arith, past))
flat-later (e ∷ es) rest (suc n) past = flat-later es rest n (omega (arith, past)) ∙ ap (slice_get rest) (omega arith)

-- the lists from a place on are the one at that place and those behind it
pub flat-at : {X : Type 0} (f : X → List Event) (xs : List X) (i : ℕ) (x : X) → i < length xs → x ≡ get_or xs i x →
    flat_map f (drop i xs) ≡ f x ++ flat_map f (drop (i + 1) xs)
flat-at f xs i x within at = ap (flat_map f) (drop_more xs i x within ∙ ap (λ y. y ∷ drop (i + 1) xs) (sym at))
