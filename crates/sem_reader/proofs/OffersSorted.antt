-- The offers, sorted.
use Rattle.std.proofs.Common.{◌≡◌, ℕ, zero, suc, ◌+◌, ◌≤◌, ◌⊎◌, inl, inr, Bool, true, false, true≢false, List, [], ◌∷◌, map, get_or, Some, refl, ap, sym, ◌∙◌}
use Rattle.std.proofs.Common.{subst, arith}
use Rattle.std.specs.List.{AllPairs, AllByRecursion, Contains, IsDistinct, filter_map, range_with_len, slice_get}
use Rattle.std.specs.List.Sorted.{IsPermutation, IsSorted, IsStrictlySortedBy}
use Rattle.std.specs.Map.{lookup, keys_of}
use Rattle.std.specs.Ordering.{is_lt, nat_cmp, ordering_then}
use Rattle.std.specs.declared.cmp.Ordering.{Ordering}
use Rattle.std.specs.declared.cmp.Ordering.TheVariants.{Less, Equal, Greater}
use Rattle.std.specs.Cmp.{IsTotalOrder, IsEquivalence}
use Rattle.std.proofs.lemmas.Cmp.{nat_cmp_total, on_total, then_total, nat_eq_equiv, on_equiv, and_equiv}
use Rattle.std.proofs.lemmas.List.Sorted.{Contains-permutation, IsPermutation-sym}
use Rattle.std.proofs.lemmas.Option.{none-some, same_Some}
use Rattle.std.proofs.lemmas.List.Elements.{Contains-append_left, Contains-append_right}
use Rattle.std.proofs.lemmas.Map.Keys.{IsDistinct-IsPermutation, apart_from_distinct, sorted_from_all_adjacent, Less-from_sorted}
use Rattle.std.proofs.lemmas.Map.Views.{Contains-from_lookup, lookup-from_Contains}
use Rattle.sem_key.specs.KeyName.{KeyName}
use Rattle.sem_key.specs.declared.object.Object.{Object}
use Rattle.sem_key.specs.declared.object.Object.TheVariants.{Serv}
use Rattle.sem_msg.specs.declared.setup.Root.{Root}
use Rattle.sem_msg.specs.declared.setup.Service.{Service as ServiceData}
use Rattle.sem_msg.specs.declared.setup.Offer.{Offer as OfferData}
use Rattle.sem_msg.specs.declared.setup.VpeDecl.{VpeDecl}
use Rattle.sem_msg.specs.Setup.{ComesBefore, offer_place, services_from, service_with, root_key}
use Rattle.sem_trace.specs.declared.declaration.Declaration.{Declaration}
use Rattle.sem_trace.specs.Earlier.{roots_in, has_service, offer_in}
use Rattle.sem_trace.specs.Refusal.{numbers}
use Rattle.sem_trace.specs.SetupOfText.{vpes_of, services_of, offer_of, offers_of}
use Rattle.sem_reader.specs.Accepted.{AreAccepted}
use Rattle.sem_reader.specs.Pairs.{is_same_pair, compare_pairs, compare_entries, offer_with}
use Rattle.sem_reader.proofs.Enumerated.{here, given, gives, joins, range_has, pairs_given}
use Rattle.sem_reader.proofs.Sound.{offer_declared, served_by}
use Rattle.sem_reader.proofs.SetupIs.{vpe_of, services_rise, services_same, offer_of_setup, offers_rise}
use Rattle.sem_reader.proofs.Canonical.{sorted_same, pair_self, pair_other, offer_made}
use Rattle.sem_reader.proofs.DeniesSorted.{steps as pair_steps, comes as pair_comes, in_vpes, pairs_total, alike, flips}

abbrev Entry : Type 0
Entry = (ℕ × ℕ) × ℕ

abbrev is_same_place : Entry → Entry → Bool
is_same_place a b = is_same_pair a.0 b.0

then_lt : (o p : Ordering) → is_lt (ordering_then o p) ≡ false → is_lt o ≡ false
then_lt Less p above = above
then_lt Equal p above = refl
then_lt Greater p above = refl

then_less : (o p : Ordering) → ordering_then o p ≡ Less → (o ≡ Less) ⊎ (o ≡ Equal)
then_less Less p less = inl refl
then_less Equal p less = inr refl
then_less Greater p less = absurd (true≢false (sym (ap is_lt less)))

equal_same : (p q : ℕ × ℕ) → compare_pairs p q ≡ Equal → is_same_pair p q ≡ true
equal_same p q equal = grind arith

-- entries at two places, of which the second is not less
steps : (a b : Entry) → is_lt (compare_entries b a) ≡ false → is_same_place a b ≡ false → compare_entries a b ≡ Less
steps a b above apart = rw (pair_steps a.0 b.0 (then_lt (compare_pairs b.0 a.0) (nat_cmp b.1 a.1) above) apart) refl

comes : (a b : Entry) → compare_entries a b ≡ Less → is_same_place a b ≡ false → ComesBefore a.0 b.0
comes a b less apart =
    elim (then_less (compare_pairs a.0 b.0) (nat_cmp a.1 b.1) less) [
      | inl first ↦ pair_comes a.0 b.0 first
      | inr equal ↦ absurd (true≢false (sym (equal_same a.0 b.0 equal) ∙ apart))
    ]

total : IsTotalOrder compare_entries
total = then_total (on_total (λ (e : Entry). e.0) pairs_total) (on_total (λ (e : Entry). e.1) nat_cmp_total)

-- a sorted list of entries at places of their own rises
rises : (es : List Entry) → IsSorted compare_entries es → IsDistinct is_same_place es → AllPairs (λ a b. ComesBefore a.0 b.0) es
rises es sorted apart i j d less within =
    let zeros : Entry = ((0, 0), 0) in
    let strict : IsStrictlySortedBy compare_entries es =
    sorted_from_all_adjacent total es zeros (λ k inside. steps (get_or es k zeros) (get_or es (k + 1) zeros) (sorted k zeros (omega arith) inside)
    (apart_from_distinct is_same_place es k (k + 1) zeros apart (omega arith) inside)) in
    comes (get_or es i d) (get_or es j d) (Less-from_sorted compare_entries es i j d strict less within)
    (apart_from_distinct is_same_place es i j d apart less within)

-- entries with keys of their own stand at places of their own
all_apart : (k : ℕ × ℕ) (es : List Entry) → AllByRecursion (λ q. is_same_pair k q ≡ false) (keys_of es) → AllByRecursion (λ e. is_same_pair k e.0 ≡ false) es
all_apart k [] apart = apart
all_apart k (e ∷ es) apart = (apart.0, all_apart k es apart.1)

entries_apart : (es : List Entry) → IsDistinct is_same_pair (keys_of es) → IsDistinct is_same_place es
unfolding IsDistinct
entries_apart [] apart = apart
entries_apart (e ∷ es) apart = (all_apart e.0 es apart.0, entries_apart es apart.1)

one_here : (o : Object) (k : KeyName) (name : ℕ) → o ≡ Serv name → Contains (service_with o k) (record { name = name; key = k })
one_here o k name is = subst (λ (x : Object). Contains (service_with x k) (record { name = name; key = k })) (sym is)
    (here (record { name = name; key = k }) [])

-- the service that a root is, among those of its VPE
served_root : (d : VpeDecl) (n : ℕ) (rs : List Root) (i : ℕ) (r : Root) (name : ℕ) → slice_get rs i ≡ Some r → r.object ≡ Serv name →
    (s : ServiceData) × Contains (services_from d n rs) s × (s.name ≡ name)
unfolding services_from
served_root d n [] i r name at is = absurd (none-some r at)
served_root d n (q ∷ rs) zero r name at is =
    let same : q ≡ r = same_Some q r at in
    let serv : q.object ≡ Serv name = ap (λ (x : Root). x.object) same ∙ is in
    let s : ServiceData = record { name = name; key = root_key d n q } in
    let first : Contains (service_with q.object (root_key d n q)) s = one_here q.object (root_key d n q) name serv in
    (s, Contains-append_left (service_with q.object (root_key d n q)) (services_from d (n + 1) rs) s first, refl)
served_root d n (q ∷ rs) (suc i) r name at is =
    let rest = served_root d (n + 1) rs i r name at is in
    (rest.0, Contains-append_right (service_with q.object (root_key d n q)) (services_from d (n + 1) rs) rest.0 rest.1, rest.2)

-- a name that has a service has one of the setup
has_named : (version kernels : ℕ) (ds : List Declaration) → AreAccepted version kernels ds → (name : ℕ) → has_service ds name ≡ true →
    (s : ServiceData) × Contains (services_of (vpes_of ds)) s × (s.name ≡ name)
has_named version kernels ds accepted name some =
    let by' = served_by version kernels ds accepted name some in
    let d = in_vpes version kernels ds accepted by'.vpe by'.declared in
    let roots : d.0.roots ≡ roots_in ds by'.vpe = (vpe_of ds d.0 d.1).roots ∙ ap (roots_in ds) d.2 in
    let s = served_root d.0 0 d.0.roots by'.place by'.serves.root name (ap (λ (rs : List Root). slice_get rs by'.place) roots ∙ by'.serves.at) by'.serves.is in
    (s.0, (services_same version kernels ds accepted s.0).1 (joins (λ (d : VpeDecl). services_from d 0 d.roots) (vpes_of ds) d.0 s.0 d.1 s.1), s.2)

to_setup : (version kernels : ℕ) (ds : List Declaration) → AreAccepted version kernels ds → (o : OfferData) → offer_in ds o.name o.index ≡ Some o.sel →
    Contains (offers_of ds (services_of (vpes_of ds))) o
unfolding offers_of numbers
to_setup version kernels ds accepted o some =
    let both = offer_declared version kernels ds accepted o.name o.index o.sel some in
    let s = has_named version kernels ds accepted o.name both.0 in
    let small : o.index ≤ 255 = both.1 in
    let inside : Contains (filter_map (offer_of ds o.name) (range_with_len 0 256)) o =
    gives (offer_of ds o.name) (range_with_len 0 256) o.index o (range_has 0 256 o.index (omega arith) (omega arith)) (offer_made ds o some) in
    joins (λ (x : ServiceData). filter_map (offer_of ds x.name) (range_with_len 0 256)) (services_of (vpes_of ds)) s.0 o s.1
    (subst (λ (n : ℕ). Contains (filter_map (offer_of ds n) (range_with_len 0 256)) o) (sym s.2) inside)

mapped : (es : List Entry) → map offer_with es ≡ filter_map (λ e. Some (offer_with e)) es
mapped [] = refl
mapped (e ∷ es) = ap (λ (os : List OfferData). offer_with e ∷ os) (mapped es)

-- the sorted entries are the offers of the setup
pub offers_are : (version kernels : ℕ) (ds : List Declaration) (entries sorted : List Entry) → AreAccepted version kernels ds →
    ((name index : ℕ) → lookup (is_same_pair (name, index)) entries ≡ offer_in ds name index) → IsDistinct is_same_pair (keys_of entries) →
    IsPermutation entries sorted → IsSorted compare_entries sorted → map offer_with sorted ≡ offers_of ds (services_of (vpes_of ds))
offers_are version kernels ds entries sorted accepted has apart same rise =
    let made : Entry → OfferData = offer_with in
    let places : IsDistinct is_same_place sorted = IsDistinct-IsPermutation is_same_place (λ a b. flips a.0 b.0) entries sorted same
    (entries_apart entries apart) in
    let ordered : AllPairs (λ a b. ComesBefore (offer_place a) (offer_place b)) (filter_map (λ (e : Entry). Some (offer_with e)) sorted) =
    pairs_given (λ (e : Entry). Some (offer_with e)) (λ (a b : Entry). ComesBefore a.0 b.0) (λ (a b : OfferData). ComesBefore (offer_place a) (offer_place b))
    sorted (rises sorted rise places) (λ a b x y before is is'. rw (← same_Some (offer_with a) x is, ← same_Some (offer_with b) y is') before)
    in
    mapped sorted ∙ sorted_same (λ (a b : OfferData). ComesBefore (offer_place a) (offer_place b)) (λ x. pair_self (offer_place x))
    (λ x y. pair_other (offer_place x) (offer_place y)) (filter_map (λ (e : Entry). Some (offer_with e)) sorted) (offers_of ds (services_of (vpes_of ds)))
    ordered (offers_rise ds (services_of (vpes_of ds)) (services_rise (vpes_of ds)))
    (λ o within.
    let g = given (λ (e : Entry). Some (offer_with e)) sorted o within in
    let e : Entry = g.from in
    let is : offer_with e ≡ o = same_Some (offer_with e) o g.gives in
    let found : lookup (is_same_pair e.0) entries ≡ Some e.1 =
    lookup-from_Contains pairs_equal e.0 e.1 entries apart (Contains-permutation sorted entries e (IsPermutation-sym entries sorted same) g.within) in
    let some : offer_in ds e.0.0 e.0.1 ≡ Some e.1 = sym (has e.0.0 e.0.1) ∙ found in
    subst (Contains (offers_of ds (services_of (vpes_of ds)))) is (to_setup version kernels ds accepted (offer_with e) some))
    (λ o within.
    let of = offer_of_setup ds (services_of (vpes_of ds)) o within in
    let e : Entry = ((o.name, o.index), o.sel) in
    let inside : Contains sorted e = Contains-permutation entries sorted e same (Contains-from_lookup alike (o.name, o.index) o.sel entries (has o.name o.index
    ∙ of.offered)) in
    gives (λ (x : Entry). Some (offer_with x)) sorted e o inside refl)
  where
    pairs_equal : IsEquivalence is_same_pair
    pairs_equal = and_equiv (on_equiv (λ (p : ℕ × ℕ). p.0) nat_eq_equiv) (on_equiv (λ (p : ℕ × ℕ). p.1) nat_eq_equiv)
