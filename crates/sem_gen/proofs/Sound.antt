-- What is generated is a setup.
use Rattle.std.proofs.Common.{◌≡◌, ◌≢◌, ℕ, zero, suc, ◌+◌, ◌-◌, ◌*◌, ◌/◌, ◌%◌, ◌^◌, ◌<◌, ◌≤◌, ◌==◌, ◌⊎◌, Bool, true, false, cond, List, [], length, map, get_or}
use Rattle.std.proofs.Common.{Some, None, refl, ap, sym, ◌∙◌, subst, zero-add, arith, inl, inr}
use Rattle.std.specs.Prelude.{bit_xor}
use Rattle.std.specs.List.{All, AllPairs, Contains, flat_map, range_with_len, sum_by}
use Rattle.std.specs.Option.{IsSome, is_some}
use Rattle.std.proofs.Math.Nat.{div-le_self}
use Rattle.std.proofs.lemmas.Nat.{or_lt}
use Rattle.std.proofs.lemmas.Bool.{lt-ltb, le-ltb, cases_lt, false≢true}
use Rattle.std.proofs.lemmas.Option.{none-some, same_Some}
use Rattle.std.proofs.lemmas.List.{get_or_past}
use Rattle.std.proofs.lemmas.List.Elements.{All-nil, All-cons}
use Rattle.std.proofs.lemmas.List.Sums.{sum_by-cons}
use Rattle.std.proofs.lemmas.List.FromFn.{get_or-map-range_with_len, length-map-range_with_len}
use Rattle.rand_pcg.specs.Lcg.{Lcg, advance}
use Rattle.rand_pcg.specs.Pcg.{multiplier_64, output_xsh_rr}
use Rattle.sem_key.specs.declared.limits.TheConstants.{PES, RIGHTS}
use Rattle.sem_key.specs.MembershipTable.{MembershipTable, IsMembership, owner_at}
use Rattle.sem_key.specs.declared.object.Object.TheVariants.{Mem}
use Rattle.sem_msg.specs.declared.call.Call.{Call}
use Rattle.sem_msg.specs.declared.call.Call.TheVariants.{Derive, Obtain, Delegate, Revoke}
use Rattle.sem_msg.specs.declared.setup.Root.{Root}
use Rattle.sem_msg.specs.declared.setup.Service.{Service}
use Rattle.sem_msg.specs.declared.setup.Offer.{Offer}
use Rattle.sem_msg.specs.declared.setup.VpeDecl.{VpeDecl}
use Rattle.sem_msg.specs.Versions.{most_vpes, most_kernels, IsWindow}
use Rattle.sem_msg.specs.Calls.{IsValidCall}
use Rattle.sem_msg.specs.Setup.{Setup, IsSetup, IsVpeDecl, IsRoot, IsOffer, services_from}
use Rattle.sem_gen.specs.Generated.{drawn_word, target_of, source_of, peer_of, call_of, generated_roots, vpe_of, pe_owner_of, owners_of, kernels_for}
use Rattle.sem_pick.specs.Seeds.{generator_of}
use Rattle.sem_gen.specs.Generated.{version_for, generated}

-- a word has 32 bits
output-small : (s : ℕ) → output_xsh_rr s < 2 ^ 32
output-small s =
    let n : ℕ = bit_xor (s / 2 ^ 18) s / 2 ^ 27 % 2 ^ 32 in
    let high : n / 2 ^ (s / 2 ^ 59 % 32) < 2 ^ 32 = omega (arith, div-le_self n (2 ^ (s / 2 ^ 59 % 32))) in
    or_lt 32 (n / 2 ^ (s / 2 ^ 59 % 32)) ((n * 2 ^ ((32 - s / 2 ^ 59 % 32) % 32)) % 2 ^ 32) high (omega arith)

word-small : (g : Lcg) (m : ℕ) → drawn_word g m < 2 ^ 32
unfolding drawn_word
word-small g m = output-small (advance 64 multiplier_64 m g).state

pub chosen : {X : Type 0} (P : X → Type 0) (b : Bool) (x y : X) → P x → P y → P (cond b x y)
chosen P true x y this that = this
chosen P false x y this that = that

-- the call of a word is one that there can be
call-valid : (vpes most x : ℕ) → 1 ≤ vpes → vpes ≤ most → x < 2 ^ 32 → IsValidCall most (call_of vpes x)
call-valid vpes most x some few small =
    let t : target_of x < 256 = omega arith in
    let s : source_of x < 256 = omega arith in
    let p : peer_of vpes x < most = omega arith in
    let derive : Call = Derive (source_of x) (target_of x) 0 (x / 65536) RIGHTS in
    let obtain : Call = Obtain (target_of x) (peer_of vpes x) (source_of x) in
    let delegate : Call = Delegate (source_of x) (peer_of vpes x) (target_of x) in
    let revoke : Call = Revoke (target_of x) in
    chosen (IsValidCall most) (x % 4 == 0) derive (cond (x % 4 == 1) obtain (cond (x % 4 == 2) delegate revoke))
    (s, t, (omega arith), (omega arith), (omega arith))
    (chosen (IsValidCall most) (x % 4 == 1) obtain (cond (x % 4 == 2) delegate revoke) (t, p, s)
    (chosen (IsValidCall most) (x % 4 == 2) delegate revoke (s, p, t) t))

-- what holds of each element of a table holds of all
pub all-mapped : {X : Type 0} (P : X → Type 0) (f : ℕ → X) (a n : ℕ) → ((i : ℕ) → i < n → P (f (a + i))) → All P (map f (range_with_len a n))
all-mapped P f a n each k d within =
    let inside : k < n = omega (arith, length-map-range_with_len f a n) in
    let at : get_or (map f (range_with_len a n)) k d ≡ f (a + k) = get_or-map-range_with_len f a n k (a + k) d inside refl in
    rw at (each k inside)

pairs-mapped : {X : Type 0} (R : X → X → Type 0) (f : ℕ → X) (n : ℕ) → ((i j : ℕ) → i < j → j < n → R (f i) (f j)) → AllPairs R (map f (range_with_len 0 n))
pairs-mapped R f n each i j d less within =
    let inside : j < n = omega (arith, length-map-range_with_len f 0 n) in
    let first : get_or (map f (range_with_len 0 n)) i d ≡ f i = get_or-map-range_with_len f 0 n i i d (omega arith) (zero-add i) in
    let second : get_or (map f (range_with_len 0 n)) j d ≡ f j = get_or-map-range_with_len f 0 n j j d inside (zero-add j) in
    rw (first, second) (each i j less inside)

-- the version has room for so many VPEs and kernels
room : (vpes : ℕ) → vpes ≤ 128 → (vpes ≤ most_vpes (version_for vpes)) × (kernels_for vpes ≤ most_kernels (version_for vpes)) × IsWindow (version_for vpes) 4
    × ((version_for vpes ≡ 1) ⊎ (version_for vpes ≡ 2))
room vpes few =
    elim (cases_lt 64 vpes) [
      | inl many ↦ rw (lt-ltb 64 vpes many) (few, (omega arith), ((omega arith), (omega arith)), inr refl)
      | inr not_many ↦ rw (le-ltb 64 vpes not_many) (not_many, (omega arith), ((omega arith), (omega arith)), inl refl)
    ]

-- who owns a PE
abbrev table : ℕ → MembershipTable
table vpes = record { kernels = kernels_for vpes; owners = owners_of (kernels_for vpes) vpes }

owner-in : (vpes p : ℕ) → p < PES → owner_at (table vpes) p ≡ pe_owner_of (kernels_for vpes) vpes p
unfolding owners_of
owner-in vpes p small = get_or-map-range_with_len (pe_owner_of (kernels_for vpes) vpes) 0 PES p p None small (zero-add p)

owner-past : (vpes p : ℕ) → PES ≤ p → owner_at (table vpes) p ≡ None
unfolding owners_of
owner-past vpes p past =
    get_or_past (map (pe_owner_of (kernels_for vpes) vpes) (range_with_len 0 PES)) p None
    (omega (arith, length-map-range_with_len (pe_owner_of (kernels_for vpes) vpes) 0 PES))

owned : (vpes p : ℕ) → vpes ≤ 128 → p < vpes → owner_at (table vpes) p ≡ Some (p % kernels_for vpes)
owned vpes p few below = owner-in vpes p (omega arith) ∙ (rw (lt-ltb p vpes below) refl)

unowned : (vpes p : ℕ) → vpes ≤ p → owner_at (table vpes) p ≡ None
unowned vpes p past =
    elim (cases_lt p PES) [
      | inl small ↦ owner-in vpes p small ∙ (rw (le-ltb p vpes past) refl)
      | inr large ↦ owner-past vpes p large
    ]

owners-are : (vpes : ℕ) → 1 ≤ vpes → vpes ≤ 128 → IsMembership (table vpes)
unfolding owners_of
owners-are vpes some few = record {
  some_kernel = omega arith;
  few_kernels = omega arith;
  all_pes = length-map-range_with_len (pe_owner_of (kernels_for vpes) vpes) 0 PES;
  owners_exist = λ p kernel owner. elim (cases_lt p vpes) [
    | inl below ↦
        let is : p % kernels_for vpes ≡ kernel = same_Some (p % kernels_for vpes) kernel (sym (owned vpes p few below) ∙ owner) in
        omega arith
    | inr past ↦ absurd (none-some kernel (sym (unowned vpes p past) ∙ owner))
  ];
}

-- a PE that has an owner is one of a VPE
owned-below : (vpes p : ℕ) → IsSome (owner_at (table vpes) p) → p < vpes
owned-below vpes p some =
    elim (cases_lt p vpes) [
      | inl below ↦ below
      | inr past ↦ absurd (false≢true (sym (ap is_some (unowned vpes p past)) ∙ some))
    ]

root-is : (v : ℕ) → v < 128 → All IsRoot (generated_roots v)
root-is v small =
    let root : Root = record { sel = 0; object = Mem (v * 65536) 65536 RIGHTS } in
    All-cons IsRoot root [] (record { selector = omega arith; kind = tt; ranges = ((omega arith), (omega arith), (omega arith), (omega arith)) })
    (All-nil IsRoot)

vpe-is : (seed vpes calls v : ℕ) (T : Setup) → 1 ≤ vpes → vpes ≤ 128 → v < vpes → T.version ≡ version_for vpes → T.owners ≡ table vpes →
    IsVpeDecl T (vpe_of seed vpes calls v)
vpe-is seed vpes calls v T some few below versioned owners =
    let most : vpes ≤ most_vpes T.version = rw versioned (room vpes few).0 in
    record {
      vpe = omega arith;
      pe = omega arith;
      owned = rw (owners, owned vpes v few below) refl;
      selectors_differ = λ i j d less within. absurd (omega arith);
      roots = root-is v (omega arith);
      calls = all-mapped (IsValidCall (most_vpes T.version)) (λ m. call_of vpes (drawn_word (generator_of seed) m)) (v * calls) calls
          (λ i inside. call-valid vpes (most_vpes T.version) (drawn_word (generator_of seed) (v * calls + i)) some most
          (word-small (generator_of seed) (v * calls + i)));
    }

-- no root is a service
no-services : (seed vpes calls a n : ℕ) → flat_map (λ (d : VpeDecl). services_from d 0 d.roots) (map (vpe_of seed vpes calls) (range_with_len a n)) ≡ []
unfolding services_from
no-services seed vpes calls a zero = refl
no-services seed vpes calls a (suc n) = no-services seed vpes calls (a + 1) n

-- each VPE has so many calls
pub call-total : (seed vpes calls a n : ℕ) → sum_by (λ (d : VpeDecl). length d.calls) (map (vpe_of seed vpes calls) (range_with_len a n)) ≡ n * calls
call-total seed vpes calls a zero = omega arith
call-total seed vpes calls a (suc n) =
    let d : VpeDecl = vpe_of seed vpes calls a in
    let rest : List VpeDecl = map (vpe_of seed vpes calls) (range_with_len (a + 1) n) in
    let long : length d.calls ≡ calls = length-map-range_with_len (λ m. call_of vpes (drawn_word (generator_of seed) m)) (a * calls) calls in
    let total = call-total seed vpes calls (a + 1) n in
    sum_by-cons (λ (d : VpeDecl). length d.calls) d rest ∙ omega (arith, long, total)

in-nil : {X : Type 0} (x : X) → Contains [] x → ⊥
in-nil x (k, within, is) = absurd (omega arith)

-- what is generated is a setup
pub setup-is : (seed vpes calls : ℕ) → 1 ≤ vpes → vpes ≤ 128 → vpes * calls ≤ 20000 → IsSetup (generated seed vpes calls)
unfolding generated
setup-is seed vpes calls some few few_calls =
    let T : Setup = generated seed vpes calls in
    let fits = room vpes few in
    record {
      versioned = fits.3;
      windowed = fits.2;
      some_kernel = omega arith;
      few_kernels = fits.1;
      membership = owners-are vpes some few;
      same_kernels = refl;
      owned_pes = λ p owner. let below = owned-below vpes p owner in let most = fits.0 in omega arith;
      vpes = all-mapped (IsVpeDecl T) (vpe_of seed vpes calls) 0 vpes (λ i inside. rw zero-add (vpe-is seed vpes calls i T some few inside refl refl));
      vpes_rise = pairs-mapped (λ (a b : VpeDecl). a.vpe < b.vpe) (vpe_of seed vpes calls) vpes (λ i j less inside. less);
      pes_differ = pairs-mapped (λ (a b : VpeDecl). a.pe ≢ b.pe) (vpe_of seed vpes calls) vpes (λ i j less inside same. absurd (omega arith));
      services_rise = λ i j d less within. absurd (omega arith);
      services = λ s. (
        (λ none. absurd (in-nil s none)),
        (λ none. absurd (in-nil s (subst (λ (ss : List Service). Contains ss s) (no-services seed vpes calls 0 vpes) none))),
      );
      offers = All-nil (IsOffer T);
      offers_rise = λ i j d less within. absurd (omega arith);
      denies = λ k d within. absurd (omega arith);
      denies_rise = λ i j d less within. absurd (omega arith);
      kills = λ k d within. absurd (omega arith);
      kills_rise = λ i j d less within. absurd (omega arith);
      few_calls = omega (arith, call-total seed vpes calls 0 vpes);
    }

-- it has these parts
pub generated-is : (seed vpes calls version kernels : ℕ) (owners : MembershipTable) (declared : List VpeDecl) (services : List Service) (offers : List Offer)
    (denies kills : List (ℕ × ℕ)) → version ≡ version_for vpes → kernels ≡ kernels_for vpes →
    owners ≡ record { kernels = kernels; owners = owners_of kernels vpes } → declared ≡ map (vpe_of seed vpes calls) (range_with_len 0 vpes) → services ≡ [] →
    offers ≡ [] → denies ≡ [] → kills ≡ [] → record {
      version = version;
      window = 4;
      kernels = kernels;
      owners = owners;
      vpes = declared;
      services = services;
      offers = offers;
      denies = denies;
      kills = kills;
    } ≡ generated seed vpes calls
unfolding generated
generated-is seed vpes calls version kernels owners declared services offers denies kills v k o d s f n l = rw (v, o, k, d, s, f, n, l) refl
