-- What the lines of a printed setup say, section by section.
use Rattle.std.proofs.Common.{◌≡◌, ℕ, zero, suc, ◌+◌, ◌<◌, ◌≤◌, ◌==◌, ◌⊎◌, cond, List, [], ◌∷◌, ◌++◌, map, get_or, Option, Some, None, refl, ap, sym, ◌∙◌}
use Rattle.std.proofs.Common.{subst, arith, inl, inr}
use Rattle.std.specs.List.{AllPairs, Contains, flat_map, enumerate_from, range_with_len}
use Rattle.std.proofs.lemmas.Option.{none-some}
use Rattle.std.proofs.lemmas.Bool.{cases_Bool}
use Rattle.std.proofs.lemmas.List.Elements.{All-contains, Contains-append_cases, Contains-append_right}
use Rattle.sem_key.specs.declared.object.Object.{Object}
use Rattle.sem_key.specs.declared.object.Object.TheVariants.{Mem, Recv, Send, Serv, Sess}
use Rattle.sem_key.specs.MembershipTable.{owner_at}
use Rattle.sem_msg.specs.declared.setup.Root.{Root}
use Rattle.sem_msg.specs.declared.setup.Offer.{Offer as OfferData}
use Rattle.sem_msg.specs.declared.setup.VpeDecl.{VpeDecl}
use Rattle.sem_msg.specs.Setup.{Setup, IsSetup, IsRootObject, IsRoot, IsVpeDecl}
use Rattle.sem_trace.specs.declared.declaration.Declaration.{Declaration}
use Rattle.sem_trace.specs.declared.declaration.Declaration.TheVariants.{Kernels, Window, Pe, Vpe, Memory, Receive, Service, Offer, Deny, Kill, Call as Calls}
use Rattle.sem_trace.specs.declared.declaration.Declaration.TheVariants.{End}
use Rattle.sem_reader.proofs.Enumerated.{in_cons, in_nil, here, there, all_in, pairs_cons, pairs_nil, pairs_head, pairs_tail, joined, joins, in_range}
use Rattle.sem_reader.proofs.Enumerated.{range_has}

-- what the line of a root says
abbrev pub root_says : ℕ → ℕ → Object → Declaration
root_says v s (Mem b l g) = Memory v s b l g
root_says v s (Recv n) = Receive v s n
root_says v s (Serv n) = Service v s n
root_says v s object = End

abbrev pub root_decl : ℕ → Root → Declaration
root_decl v r = root_says v r.sel r.object

abbrev pub pe_decls : ℕ × Option ℕ → List Declaration
pe_decls (p, None) = []
pe_decls (p, Some k) = Pe p k ∷ []

abbrev pub vpe_decl : VpeDecl → Declaration
vpe_decl d = Vpe d.vpe d.pe

abbrev pub offer_decl : OfferData → Declaration
offer_decl o = Offer o.name o.index o.sel

abbrev pub deny_decl : ℕ × ℕ → Declaration
deny_decl p = Deny p.0 p.1

abbrev pub kill_decl : ℕ × ℕ → Declaration
kill_decl p = Kill p.0 p.1

-- what the line of the window says, in version 2
abbrev pub window_decls : Setup → List Declaration
window_decls T = cond (T.version == 1) [] (Window T.window ∷ [])

abbrev pub all_pes : Setup → List Declaration
all_pes T = flat_map pe_decls (enumerate_from 0 T.owners.owners)

-- the sections of the text
abbrev pub section : Setup → ℕ → List Declaration
section T zero = window_decls T ++ all_pes T
section T (suc zero) = map vpe_decl T.vpes
section T (suc (suc zero)) = flat_map (λ d. map (root_decl d.vpe) d.roots) T.vpes
section T (suc (suc (suc zero))) = map offer_decl T.offers
section T (suc (suc (suc (suc zero)))) = map deny_decl T.denies
section T (suc (suc (suc (suc (suc zero))))) = map kill_decl T.kills
section T (suc (suc (suc (suc (suc (suc zero)))))) = flat_map (λ d. map (Calls d.vpe) d.calls) T.vpes
section T (suc (suc (suc (suc (suc (suc (suc k))))))) = End ∷ []

-- what all lines behind the second say
unfoldable pub said_by : Setup → List Declaration
said_by T = flat_map (section T) (range_with_len 0 8)

-- the section to which a line belongs
abbrev pub rank : Declaration → ℕ
rank (Kernels n) = 8
rank (Window w) = 0
rank (Pe p k) = 0
rank (Vpe v p) = 1
rank (Memory v s b l g) = 2
rank (Receive v s n) = 2
rank (Service v s n) = 2
rank (Offer n i s) = 3
rank (Deny v w) = 4
rank (Kill v n) = 5
rank (Calls v c) = 6
rank End = 7

-- elements of a list that is made by f
pub in_map : {X Y : Type 0} (f : X → Y) (xs : List X) (y : Y) → Contains (map f xs) y → (x : X) × Contains xs x × (f x ≡ y)
in_map f [] y within = absurd (in_nil y within)
in_map f (x ∷ xs) y within =
    elim (in_cons (f x) (map f xs) y within) [
      | inl is ↦ (x, here x xs, is)
      | inr rest ↦ let r = in_map f xs y rest in (r.0, there x xs r.0 r.1, r.2)
    ]

pub map_has : {X Y : Type 0} (f : X → Y) (xs : List X) (x : X) → Contains xs x → Contains (map f xs) (f x)
map_has f [] x within = absurd (in_nil x within)
map_has f (z ∷ zs) x within =
    elim (in_cons z zs x within) [
      | inl is ↦ subst (λ w. Contains (f z ∷ map f zs) (f w)) is (here (f z) (map f zs))
      | inr rest ↦ there (f z) (map f zs) (f x) (map_has f zs x rest)
    ]

pub pairs_mapped : {X Y : Type 0} (f : X → Y) (R : Y → Y → Type 0) (xs : List X) → AllPairs (λ x y. R (f x) (f y)) xs → AllPairs R (map f xs)
pairs_mapped f R [] pairs = pairs_nil R
pairs_mapped {X} {Y} f R (x ∷ xs) pairs =
    pairs_cons R (f x) (map f xs)
    (all_in (R (f x)) (map f xs) (λ y within. let r = in_map f xs y within in
    subst (R (f x)) r.2 (All-contains (λ (z : X). R (f x) (f z)) xs r.0 (pairs_head (λ (a b : X). R (f a) (f b)) x xs pairs) r.1)))
    (pairs_mapped f R xs (pairs_tail (λ (a b : X). R (f a) (f b)) x xs pairs))

-- elements with their places
in_enumerate : (a : ℕ) (xs : List (Option ℕ)) (z : ℕ × Option ℕ) → Contains (enumerate_from a xs) z → (i : ℕ) × (z.0 ≡ a + i) × (get_or xs i None ≡ z.1)
in_enumerate a [] z within = absurd (in_nil z within)
in_enumerate a (x ∷ xs) z within =
    elim (in_cons (a, x) (enumerate_from (a + 1) xs) z within) [
      | inl is ↦ (zero, (let e : a + 0 ≡ a = omega arith in sym (ap (λ (q : ℕ × Option ℕ). q.0) is) ∙ sym e), ap (λ (q : ℕ × Option ℕ). q.1) is)
      | inr rest ↦ let r = in_enumerate (a + 1) xs z rest in (suc r.0, r.1 ∙ (let e : (a + 1) + r.0 ≡ a + suc r.0 = omega arith in e), r.2)
    ]

enumerate_has : (a : ℕ) (xs : List (Option ℕ)) (i k : ℕ) → get_or xs i None ≡ Some k → Contains (enumerate_from a xs) (a + i, Some k)
enumerate_has a [] i k some = absurd (none-some k some)
enumerate_has a (x ∷ xs) zero k some = let e : a + 0 ≡ a = omega arith in
    rw e (subst (λ (o : Option ℕ). Contains ((a, x) ∷ enumerate_from (a + 1) xs) (a, o)) some (here (a, x) (enumerate_from (a + 1) xs)))
enumerate_has a (x ∷ xs) (suc i) k some = let e : a + suc i ≡ (a + 1) + i = omega arith in
    rw e (there (a, x) (enumerate_from (a + 1) xs) ((a + 1) + i, Some k) (enumerate_has (a + 1) xs i k some))

enumerate_above : (a : ℕ) (xs : List (Option ℕ)) (z : ℕ × Option ℕ) → Contains (enumerate_from a xs) z → a ≤ z.0
enumerate_above a xs z within = let r = in_enumerate a xs z within in let e : z.0 ≡ a + r.0 = r.1 in omega arith

pub enumerate_rises : (a : ℕ) (xs : List (Option ℕ)) → AllPairs (λ x y. x.0 < y.0) (enumerate_from a xs)
enumerate_rises a [] = pairs_nil (λ (x y : ℕ × Option ℕ). x.0 < y.0)
enumerate_rises a (x ∷ xs) = pairs_cons (λ (x y : ℕ × Option ℕ). x.0 < y.0) (
  a,
  x,
) (enumerate_from (a + 1) xs) (all_in (λ (y : ℕ × Option ℕ). a < y.0) (enumerate_from (a + 1) xs) (λ z within. let low : a + 1 ≤ z.0 =
    enumerate_above (a + 1) xs z within in omega arith)) (enumerate_rises (a + 1) xs)

pub in_pe : (p : ℕ) (o : Option ℕ) (e : Declaration) → Contains (pe_decls (p, o)) e → (k : ℕ) × (o ≡ Some k) × (e ≡ Pe p k)
in_pe p None e within = absurd (in_nil e within)
in_pe p (Some k) e within =
    elim (in_cons (Pe p k) [] e within) [
      | inl is ↦ (k, refl, sym is)
      | inr none ↦ absurd (in_nil e none)
    ]

-- a line that declares a PE
pub in_pes : (T : Setup) (e : Declaration) → Contains (all_pes T) e → (p k : ℕ) × (e ≡ Pe p k) × (owner_at T.owners p ≡ Some k)
in_pes T e within =
    let j = joined pe_decls (enumerate_from 0 T.owners.owners) e within in
    let i = in_enumerate 0 T.owners.owners j.from j.within in
    let s = in_pe j.from.0 j.from.1 e j.has in
    let zero_ : i.0 ≡ j.from.0 = (let e : 0 + i.0 ≡ i.0 = omega arith in sym (i.1 ∙ e)) in
    (j.from.0, s.0, s.2, ap (λ (n : ℕ). get_or T.owners.owners n None) (sym zero_) ∙ (i.2 ∙ s.1))

-- the line of the window
pub in_window : (T : Setup) (e : Declaration) → Contains (window_decls T) e → e ≡ Window T.window
in_window T e within =
    elim (cases_Bool (T.version == 1)) [
      | inl one ↦ absurd (in_nil e (rw one at within))
      | inr other ↦ elim (in_cons (Window T.window) [] e (rw other at within)) [
        | inl is ↦ sym is
        | inr none ↦ absurd (in_nil e none)
      ]
    ]

-- a line of the first section
pub in_first : (T : Setup) (e : Declaration) → Contains (section T 0) e → (e ≡ Window T.window) ⊎ ((p k : ℕ) × (e ≡ Pe p k) × (owner_at T.owners p ≡ Some k))
in_first T e within =
    elim (Contains-append_cases (window_decls T) (all_pes T) e within) [
      | inl window ↦ inl (in_window T e window)
      | inr pe ↦ inr (in_pes T e pe)
    ]

pub has_pe : (T : Setup) (p k : ℕ) → owner_at T.owners p ≡ Some k → Contains (section T 0) (Pe p k)
has_pe T p k owned =
    let e : 0 + p ≡ p = omega arith in
    let at : Contains (enumerate_from 0 T.owners.owners) (p, Some k) = subst (λ (n : ℕ). Contains (enumerate_from 0 T.owners.owners) (n, Some k)) e
    (enumerate_has 0 T.owners.owners p k owned) in
    Contains-append_right (window_decls T) (all_pes T) (Pe p k) (joins pe_decls (enumerate_from 0 T.owners.owners) (p, Some k) (Pe p k) at (here (Pe p k) []))

-- the line of a root is one of a root
object_rank : (v s : ℕ) (o : Object) → IsRootObject o → rank (root_says v s o) ≡ 2
object_rank v s (Mem b l g) valid = refl
object_rank v s (Recv n) valid = refl
object_rank v s (Serv n) valid = refl
object_rank v s (Send g l c) valid = absurd valid
object_rank v s (Sess k i) valid = absurd valid

pub root_rank : (v : ℕ) (r : Root) → IsRootObject r.object → rank (root_decl v r) ≡ 2
root_rank v r valid = object_rank v r.sel r.object valid

-- a line of a root, with its VPE and its place
pub record IsRootLine (T : Setup) (e : Declaration) : Type 0 where
  pub vpe : VpeDecl
  pub declared : Contains T.vpes vpe
  pub root : Root
  pub held : Contains vpe.roots root
  pub valid : IsRoot root
  pub is : root_decl vpe.vpe root ≡ e

pub in_roots : (T : Setup) → IsSetup T → (e : Declaration) → Contains (section T 2) e → IsRootLine T e
in_roots T fits e within =
    let j = joined (λ (d : VpeDecl). map (root_decl d.vpe) d.roots) T.vpes e within in
    let m = in_map (root_decl j.from.vpe) j.from.roots e j.has in
    let d = All-contains (IsVpeDecl T) T.vpes j.from fits.vpes j.within in
    record { vpe = j.from; declared = j.within; root = m.0; held = m.1; valid = All-contains IsRoot j.from.roots m.0 d.roots m.1; is = m.2 }

-- each line has the rank of its section
pub ranked : (T : Setup) → IsSetup T → (k : ℕ) → k < 8 → (e : Declaration) → Contains (section T k) e → rank e ≡ k
ranked T fits zero small e within =
    elim (in_first T e within) [
      | inl window ↦ rw window refl
      | inr p ↦ rw p.2 refl
    ]
ranked T fits (suc zero) small e within = let m = in_map vpe_decl T.vpes e within in rw (← m.2) refl
ranked T fits (suc (suc zero)) small e within = let r = in_roots T fits e within in rw (← r.is) (root_rank r.vpe.vpe r.root r.valid.kind)
ranked T fits (suc (suc (suc zero))) small e within = let m = in_map offer_decl T.offers e within in rw (← m.2) refl
ranked T fits (suc (suc (suc (suc zero)))) small e within = let m = in_map deny_decl T.denies e within in rw (← m.2) refl
ranked T fits (suc (suc (suc (suc (suc zero))))) small e within = let m = in_map kill_decl T.kills e within in rw (← m.2) refl
ranked T fits (suc (suc (suc (suc (suc (suc zero)))))) small e within =
    let j = joined (λ (d : VpeDecl). map (Calls d.vpe) d.calls) T.vpes e within in
    let m = in_map (Calls j.from.vpe) j.from.calls e j.has in
    rw (← m.2) refl
ranked T fits (suc (suc (suc (suc (suc (suc (suc zero))))))) small e within =
    elim (in_cons End [] e within) [
      | inl is ↦ rw (← is) refl
      | inr none ↦ absurd (in_nil e none)
    ]
ranked T fits (suc (suc (suc (suc (suc (suc (suc (suc k)))))))) small e within = absurd (omega arith)

-- a line stands in the section of its rank
pub in_section : (T : Setup) → IsSetup T → (e : Declaration) (k : ℕ) → Contains (said_by T) e → rank e ≡ k → Contains (section T k) e
unfolding said_by
in_section T fits e k within is =
    let j = joined (section T) (range_with_len 0 8) e within in
    let r = in_range 0 8 j.from j.within in
    let same : j.from ≡ k = sym (ranked T fits j.from (omega arith) e j.has) ∙ is in
    subst (λ (n : ℕ). Contains (section T n) e) same j.has

pub has_section : (T : Setup) (e : Declaration) (k : ℕ) → k < 8 → Contains (section T k) e → Contains (said_by T) e
unfolding said_by
has_section T e k small within = joins (section T) (range_with_len 0 8) k e (range_has 0 8 k (omega arith) (omega arith)) within
