-- What accepted lines declare is a setup.
use Rattle.std.proofs.Common.{◌≡◌, ◌≢◌, ℕ, zero, suc, ◌+◌, ◌<◌, ◌≤◌, ◌==◌, ◌⊎◌, ◌↔◌, Bool, true, false, cond, true≢false, List, [], ◌∷◌, ◌++◌, length, map}
use Rattle.std.proofs.Common.{get_or, Option, Some, None, refl, ap, sym, ◌∙◌, subst, arith, inl, inr, eqb-true, eq-eqb, ne_eqb, length-append, eqb, ◌||◌}
use Rattle.std.specs.List.{All, AllPairs, Any, Contains, filter_map, list_any, cons_option, range_with_len, slice_get, sum_by}
use Rattle.std.specs.Option.{option_map, option_map_or, IsSome}
use Rattle.std.proofs.lemmas.Bool.{cases_Bool, cases_eq}
use Rattle.std.proofs.lemmas.Option.{none-some, same_Some}
use Rattle.std.proofs.lemmas.List.Elements.{All-head, All-tail, Contains-append_cases, Contains-get_or}
use Rattle.std.proofs.lemmas.List.Sums.{sum_by-cons}
use Rattle.std.proofs.lemmas.Map.Steps.{length-le_from_distinct_below}
use Rattle.std.proofs.lemmas.Map.Made.{IsDistinct-from_AllPairs}
use Rattle.std.proofs.lemmas.Bool.Decides.{Decides-eqb}
use Rattle.std.proofs.lemmas.List.{length-map}
use Rattle.sem_key.specs.declared.limits.TheConstants.{PES, VPES, KERNELS}
use Rattle.sem_msg.specs.Versions.{most_vpes, most_kernels, least_window, most_window, IsWindow}
use Rattle.sem_trace.proofs.Nodes.{node_small, few_kernels as most_few}
use Rattle.sem_key.specs.declared.object.Object.{Object}
use Rattle.sem_key.specs.declared.object.Object.TheVariants.{Mem, Recv, Send, Serv, Sess}
use Rattle.sem_key.specs.KeyName.{KeyName}
use Rattle.sem_key.specs.MembershipTable.{MembershipTable, IsMembership, owner_at}
use Rattle.sem_msg.specs.declared.call.Call.{Call}
use Rattle.sem_msg.specs.declared.setup.Root.{Root}
use Rattle.sem_msg.specs.declared.setup.Service.{Service as ServiceData}
use Rattle.sem_msg.specs.declared.setup.Offer.{Offer as OfferData}
use Rattle.sem_msg.specs.declared.setup.VpeDecl.{VpeDecl}
use Rattle.sem_msg.specs.Calls.{IsWord}
use Rattle.sem_msg.specs.Setup.{Setup, IsSetup, IsVpeDecl, IsRoot, IsOffer, IsDeclared, ComesBefore, offer_place, services_from, service_with, root_key}
use Rattle.sem_trace.specs.declared.limits.TheConstants.{LINK_WINDOW}
use Rattle.sem_trace.specs.declared.declaration.Declaration.{Declaration}
use Rattle.sem_trace.specs.declared.declaration.Declaration.TheVariants.{Call as Calls}
use Rattle.sem_trace.specs.Earlier.{window_in, owner_in, pe_in, roots_in, said_call, calls_in, vpe_in, offer_in, is_denied, kill_in, call_number, is_call_line}
use Rattle.sem_trace.specs.Refusal.{numbers}
use Rattle.sem_trace.specs.SetupOfText.{window_of, vpes_of, services_among, named, services_of, offer_of, offers_of, deny_of, denies_of, kills_of, setup_of}
use Rattle.sem_reader.specs.Accepted.{AreAccepted}
use Rattle.sem_reader.specs.Tells.{IsPlainVpe}
use Rattle.sem_reader.proofs.OneMore.{calls_in-same, calls_in-new, call_number-more}
use Rattle.sem_reader.proofs.Enumerated.{in_cons, in_nil, here, there, all_in, given, gives, pairs_given, joined, pairs_joined, in_range, range_has}
use Rattle.sem_reader.proofs.Enumerated.{range_rises, length-range, table_has, in_table, same_table}
use Rattle.sem_reader.proofs.Sound as sound

-- what a VPE of the setup is
pub record IsVpeOf (ds : List Declaration) (d : VpeDecl) : Type 0 where
  pub vpe : d.vpe < VPES
  pub pe : pe_in ds d.vpe ≡ Some d.pe
  pub roots : d.roots ≡ roots_in ds d.vpe
  pub calls : d.calls ≡ calls_in ds d.vpe

said_vpe : (ds : List Declaration) (v : ℕ) (d : VpeDecl) (o : Option ℕ) → v < VPES → pe_in ds v ≡ o →
    option_map (λ p. record { vpe = v; pe = p; roots = roots_in ds v; calls = calls_in ds v }) o ≡ Some d → IsVpeOf ds d × (v ≡ d.vpe)
said_vpe ds v d None small on some = absurd (none-some d some)
said_vpe ds v d (Some p) small on some =
    let is : record { vpe = v; pe = p; roots = roots_in ds v; calls = calls_in ds v } ≡ d = same_Some _ d some in
    subst (λ (e : VpeDecl). IsVpeOf ds e × (v ≡ e.vpe)) is (record { vpe = small; pe = on; roots = refl; calls = refl }, refl)

vpe_is : (ds : List Declaration) (v : ℕ) (d : VpeDecl) → v < VPES → vpe_in ds v ≡ Some d → IsVpeOf ds d × (v ≡ d.vpe)
unfolding vpe_in
vpe_is ds v d small some = said_vpe ds v d (pe_in ds v) small refl some

number : (v p : ℕ) (o : Option ℕ) (rs : List Root) (cs : List Call) (d : VpeDecl) →
    option_map (λ p. record { vpe = v; pe = p; roots = rs; calls = cs }) o ≡ Some d → v ≡ d.vpe
number v p None rs cs d some = absurd (none-some d some)
number v p (Some q) rs cs d some = ap (λ (e : VpeDecl). e.vpe) (same_Some _ d some)

vpe_number : (ds : List Declaration) (v : ℕ) (d : VpeDecl) → vpe_in ds v ≡ Some d → v ≡ d.vpe
unfolding vpe_in
vpe_number ds v d some = number v 0 (pe_in ds v) (roots_in ds v) (calls_in ds v) d some

pub vpe_of : (ds : List Declaration) (d : VpeDecl) → Contains (vpes_of ds) d → IsVpeOf ds d
unfolding vpes_of numbers
vpe_of ds d within =
    let g = given (vpe_in ds) (range_with_len 0 128) d within in
    let small : g.from < VPES = let r = in_range 0 128 g.from g.within in omega arith in
    (vpe_is ds g.from d small g.gives).0

pub vpes_rise : (ds : List Declaration) → AllPairs (λ a b. a.vpe < b.vpe) (vpes_of ds)
unfolding vpes_of numbers
vpes_rise ds = pairs_given (vpe_in ds) (λ (v w : ℕ). v < w) (λ (a b : VpeDecl). a.vpe < b.vpe) (range_with_len 0 128) (range_rises 0 128)
    (λ v w a b less some some'. rw (← vpe_number ds v a some, ← vpe_number ds w b some') less)

or_cases : (a b : Bool) → (a || b) ≡ true → (a ≡ true) ⊎ (b ≡ true)
or_cases true b some = inl refl
or_cases false b some = inr some

get_map : (roots : List Root) (i : ℕ) (d : Root) (e : ℕ) → i < length roots → get_or (map (λ (r : Root). r.sel) roots) i e ≡ (get_or roots i d).sel
get_map [] i d e within = absurd (omega arith)
get_map (r ∷ rs) zero d e within = refl
get_map (r ∷ rs) (suc i) d e within = get_map rs i d e (omega arith)

pairs_map : (roots : List Root) → AllPairs (λ a b. a.sel ≢ b.sel) roots → AllPairs (λ x y. x ≢ y) (map (λ (r : Root). r.sel) roots)
pairs_map [] differ i j e lt within = absurd (omega arith)
pairs_map (r ∷ rs) differ i j e lt within =
    let long : length (map (λ (r : Root). r.sel) (r ∷ rs)) ≡ length (r ∷ rs) = rw length-map refl in
    λ same. differ i j r lt (omega arith) (sym (get_map (r ∷ rs) i r e (omega arith)) ∙ (same ∙ get_map (r ∷ rs) j r e (omega arith)))

-- a list of roots at selectors of their own is short
selectors_below : (roots : List Root) → All IsRoot roots → (q : ℕ) → list_any (eqb q) (map (λ (r : Root). r.sel) roots) ≡ true → q < 256
selectors_below [] all q some = absurd (true≢false (sym some))
selectors_below (r ∷ rs) all q some =
    elim (or_cases (eqb q r.sel) _ some) [
      | inl same ↦ let is : q ≡ r.sel = eqb-true q r.sel same in let sel : r.sel < 256 = (All-head IsRoot r rs all).selector in omega arith
      | inr rest ↦ selectors_below rs (All-tail IsRoot r rs all) q rest
    ]

pub few_roots : (roots : List Root) → All IsRoot roots → AllPairs (λ a b. a.sel ≢ b.sel) roots → length roots ≤ 256
few_roots roots all differ =
    let apart : AllPairs (λ (x y : ℕ). x ≢ y) (map (λ (r : Root). r.sel) roots) = pairs_map roots differ in
    let long : length (map (λ (r : Root). r.sel) roots) ≤ 256 =
    length-le_from_distinct_below (map (λ (r : Root). r.sel) roots) 256 (IsDistinct-from_AllPairs Decides-eqb (map (λ (r : Root). r.sel) roots) apart)
    (selectors_below roots all) in
    rw length-map at long

pub plain_vpes : (version kernels : ℕ) (ds : List Declaration) → AreAccepted version kernels ds → All IsPlainVpe (vpes_of ds)
plain_vpes version kernels ds accepted = all_in IsPlainVpe (vpes_of ds) (λ d within.
    let v = vpe_of ds d within in
    let r = sound.roots version kernels ds accepted d.vpe in
    record {
      vpe = v.vpe;
      pe = node_small version d.pe (sound.placed version kernels ds accepted d.vpe d.pe v.pe).pe;
      few_roots = rw v.roots (few_roots (roots_in ds d.vpe) r.valid r.differ);
    })

-- the services among the roots of a VPE
pub record IsServiceOf (roots : List Root) (d : VpeDecl) (n : ℕ) (s : ServiceData) : Type 0 where
  pub place : ℕ
  pub root : Root
  pub at : slice_get roots place ≡ Some root
  pub serves : root.object ≡ Serv s.name
  pub is : s ≡ record { name = s.name; key = root_key d (n + place) root }

one_service : (o : Object) (k : KeyName) (s : ServiceData) → Contains (service_with o k) s → (o ≡ Serv s.name) × (s ≡ record { name = s.name; key = k })
one_service (Mem b l g) k s within = absurd (in_nil s within)
one_service (Recv n) k s within = absurd (in_nil s within)
one_service (Send g l c) k s within = absurd (in_nil s within)
one_service (Serv name) k s within =
    elim (in_cons (record { name = name; key = k }) [] s within) [
      | inl same ↦ let n : name ≡ s.name = ap (λ (x : ServiceData). x.name) same in (ap Serv n, sym same ∙ (rw n refl))
      | inr none ↦ absurd (in_nil s none)
    ]
one_service (Sess g i) k s within = absurd (in_nil s within)

pub service_of_root : (d : VpeDecl) (n : ℕ) (rs : List Root) (s : ServiceData) → Contains (services_from d n rs) s → IsServiceOf rs d n s
unfolding services_from
service_of_root d n [] s within = absurd (in_nil s within)
service_of_root d n (r ∷ rs) s within =
    elim (Contains-append_cases (service_with r.object (root_key d n r)) (services_from d (n + 1) rs) s within) [
      | inl first ↦
          let o = one_service r.object (root_key d n r) s first in
          let e : n + 0 ≡ n = omega arith in
          record { place = zero; root = r; at = refl; serves = o.0; is = rw e o.1 }
      | inr rest ↦
          let o = service_of_root d (n + 1) rs s rest in
          let e : n + suc o.place ≡ (n + 1) + o.place = omega arith in
          record { place = suc o.place; root = o.root; at = o.at; serves = o.serves; is = rw e o.is }
    ]

-- a service of the setup, where it is declared
pub record IsServed (ds : List Declaration) (vpes : List VpeDecl) (s : ServiceData) : Type 0 where
  pub vpe : VpeDecl
  pub declared : Contains vpes vpe
  pub service : IsServiceOf vpe.roots vpe 0 s
  pub serves : sound.Serves ds vpe.vpe service.place s.name

pub service_served : (ds : List Declaration) (s : ServiceData) → Contains (services_among (vpes_of ds)) s → IsServed ds (vpes_of ds) s
service_served ds s within =
    let j = joined (λ (d : VpeDecl). services_from d 0 d.roots) (vpes_of ds) s within in
    let o = service_of_root j.from 0 j.from.roots s j.has in
    let v = vpe_of ds j.from j.within in
    record {
      vpe = j.from;
      declared = j.within;
      service = o;
      serves = record { root = o.root; at = subst (λ (rs : List Root). slice_get rs o.place ≡ Some o.root) v.roots o.at; is = o.serves };
    }

abbrev made : VpeDecl → ℕ → Root → ℕ → ServiceData
made d i r n = record { name = n; key = root_key d (0 + i) r }

same_made : (a b : VpeDecl) (i j : ℕ) (r r' : Root) (m n : ℕ) → a ≡ b → i ≡ j → r ≡ r' → m ≡ n → made a i r m ≡ made b j r' n
same_made a b i j r r' m n vpe place root name = rw (vpe, place, root, name) refl

abbrev declares : ℕ → ℕ → List Root → List Call → VpeDecl
declares v p rs cs = record { vpe = v; pe = p; roots = rs; calls = cs }

vpe_parts : (v w p q : ℕ) (rs ss : List Root) (cs es : List Call) → v ≡ w → p ≡ q → rs ≡ ss → cs ≡ es → declares v p rs cs ≡ declares w q ss es
vpe_parts v w p q rs ss cs es a b c d = rw (a, b, c, d) refl

-- two VPEs of the setup with one number are one
same_vpe : (ds : List Declaration) (a b : VpeDecl) → IsVpeOf ds a → IsVpeOf ds b → a.vpe ≡ b.vpe → a ≡ b
same_vpe ds a b va vb same =
    let pe : a.pe ≡ b.pe = same_Some a.pe b.pe (sym va.pe ∙ (ap (pe_in ds) same ∙ vb.pe)) in
    let roots : a.roots ≡ b.roots = va.roots ∙ (ap (roots_in ds) same ∙ sym vb.roots) in
    let calls : a.calls ≡ b.calls = va.calls ∙ (ap (calls_in ds) same ∙ sym vb.calls) in
    vpe_parts a.vpe b.vpe a.pe b.pe a.roots b.roots a.calls b.calls same pe roots calls

-- two services of the setup with one name are one
same_service : (version kernels : ℕ) (ds : List Declaration) → AreAccepted version kernels ds → (s t : ServiceData) → IsServed ds (vpes_of ds) s →
    IsServed ds (vpes_of ds) t → s.name ≡ t.name → s ≡ t
same_service version kernels ds accepted s t a b name =
    let once = (sound.named version kernels ds accepted).once a.vpe.vpe a.service.place b.vpe.vpe b.service.place t.name
    (subst (sound.Serves ds a.vpe.vpe a.service.place) name a.serves) b.serves in
    let vpe : a.vpe ≡ b.vpe = same_vpe ds a.vpe b.vpe (vpe_of ds a.vpe a.declared) (vpe_of ds b.vpe b.declared) once.0 in
    let at : slice_get b.vpe.roots b.service.place ≡ Some a.service.root = subst (λ (d : VpeDecl). slice_get d.roots b.service.place ≡ Some a.service.root) vpe
    (subst (λ (i : ℕ). slice_get a.vpe.roots i ≡ Some a.service.root) once.1 a.service.at) in
    let root : a.service.root ≡ b.service.root = same_Some a.service.root b.service.root (sym at ∙ b.service.at) in
    a.service.is ∙ (same_made a.vpe b.vpe a.service.place b.service.place a.service.root b.service.root s.name t.name vpe once.1 root name ∙ sym b.service.is)

-- the first service of a name
found_name : (services : List ServiceData) (name : ℕ) (s : ServiceData) → named services name ≡ Some s → Contains services s × (s.name ≡ name)
found_name [] name s some = absurd (none-some s some)
found_name (t ∷ ts) name s some =
    elim (cases_Bool (t.name == name)) [
      | inl same ↦
          let e : Some t ≡ Some s = rw same at some in
          let is : t ≡ s = same_Some t s e in
          (subst (Contains (t ∷ ts)) is (here t ts), ap (λ (x : ServiceData). x.name) (sym is) ∙ eqb-true t.name name same)
      | inr other ↦
          let e : named ts name ≡ Some s = rw other at some in
          let f = found_name ts name s e in
          (there t ts s f.0, f.1)
    ]

finds_name : (services : List ServiceData) (s : ServiceData) → Contains services s → ((t : ServiceData) → Contains services t → t.name ≡ s.name → t ≡ s) →
    named services s.name ≡ Some s
finds_name [] s within once = absurd (in_nil s within)
finds_name (t ∷ ts) s within once =
    elim (cases_Bool (t.name == s.name)) [
      | inl same ↦ rw same (ap Some (once t (here t ts) (eqb-true t.name s.name same)))
      | inr other ↦
          elim (in_cons t ts s within) [
            | inl is ↦ absurd (true≢false (sym (eq-eqb t.name s.name (ap (λ (x : ServiceData). x.name) is)) ∙ other))
            | inr rest ↦ rw other (finds_name ts s rest (λ u there'. once u (there t ts u there')))
          ]
    ]

pub services_rise : (vpes : List VpeDecl) → AllPairs (λ a b. a.name < b.name) (services_of vpes)
unfolding services_of numbers
services_rise vpes = pairs_given (named (services_among vpes)) (λ (m n : ℕ). m < n) (λ (a b : ServiceData). a.name < b.name) (range_with_len 0 256)
    (range_rises 0 256) (λ m n a b less some some'. rw ((found_name (services_among vpes) m a some).1, (found_name (services_among vpes) n b some').1) less)

pub services_same : (version kernels : ℕ) (ds : List Declaration) → AreAccepted version kernels ds → (s : ServiceData) → Contains (services_of (vpes_of ds)) s
    ↔ Contains (services_among (vpes_of ds)) s
unfolding services_of numbers
services_same version kernels ds accepted s = (
  λ within. let g = given (named (services_among (vpes_of ds))) (range_with_len 0 256) s within in
      (found_name (services_among (vpes_of ds)) g.from s g.gives).0,
  λ within.
      let a = service_served ds s within in
      let small : s.name ≤ 255 = (sound.named version kernels ds accepted).small a.vpe.vpe a.service.place s.name a.serves in
      gives (named (services_among (vpes_of ds))) (range_with_len 0 256) s.name s (range_has 0 256 s.name (omega arith) (omega arith))
      (finds_name (services_among (vpes_of ds)) s within
      (λ t within' same. same_service version kernels ds accepted t s (service_served ds t within') a same)),
)

-- an offer of the setup
pub record IsOfferOf (ds : List Declaration) (services : List ServiceData) (o : OfferData) : Type 0 where
  pub service : ServiceData
  pub declared : Contains services service
  pub name : service.name ≡ o.name
  pub index : o.index ≤ 255
  pub offered : offer_in ds o.name o.index ≡ Some o.sel

offer_is : (ds : List Declaration) (name index : ℕ) (o : OfferData) (sel : Option ℕ) → offer_in ds name index ≡ sel →
    option_map (λ sel. record { name = name; index = index; sel = sel }) sel ≡ Some o →
    (name ≡ o.name) × (index ≡ o.index) × (offer_in ds name index ≡ Some o.sel)
offer_is ds name index o None told some = absurd (none-some o some)
offer_is ds name index o (Some sel) told some =
    let is : record { name = name; index = index; sel = sel } ≡ o = same_Some _ o some in
    (ap (λ (x : OfferData). x.name) is, ap (λ (x : OfferData). x.index) is, told ∙ ap (λ (x : OfferData). Some x.sel) is)

offered : (ds : List Declaration) (name : ℕ) (o : OfferData) → Contains (filter_map (offer_of ds name) (numbers 256)) o →
    (name ≡ o.name) × (o.index ≤ 255) × (offer_in ds o.name o.index ≡ Some o.sel)
unfolding numbers
offered ds name o within =
    let g = given (offer_of ds name) (range_with_len 0 256) o within in
    let r = in_range 0 256 g.from g.within in
    let is = offer_is ds name g.from o (offer_in ds name g.from) refl g.gives in
    let index : g.from ≡ o.index = is.1 in
    (is.0, omega arith, subst (λ (n : ℕ). offer_in ds n o.index ≡ Some o.sel) is.0 (subst (λ (i : ℕ). offer_in ds name i ≡ Some o.sel) is.1 is.2))

pub offer_of_setup : (ds : List Declaration) (services : List ServiceData) (o : OfferData) → Contains (offers_of ds services) o → IsOfferOf ds services o
unfolding offers_of
offer_of_setup ds services o within =
    let j = joined (λ (s : ServiceData). filter_map (offer_of ds s.name) (numbers 256)) services o within in
    let is = offered ds j.from.name o j.has in
    record { service = j.from; declared = j.within; name = is.0; index = is.1; offered = is.2 }

pub offers_rise : (ds : List Declaration) (services : List ServiceData) → AllPairs (λ a b. a.name < b.name) services →
    AllPairs (λ a b. ComesBefore (offer_place a) (offer_place b)) (offers_of ds services)
unfolding offers_of numbers
offers_rise ds services rise =
    pairs_joined (λ (s : ServiceData). filter_map (offer_of ds s.name) (range_with_len 0 256)) (λ (a b : ServiceData). a.name < b.name)
    (λ (a b : OfferData). ComesBefore (offer_place a) (offer_place b)) services rise
    (λ s within. pairs_given (offer_of ds s.name) (λ (i j : ℕ). i < j) (λ (a b : OfferData). ComesBefore (offer_place a) (offer_place b)) (range_with_len 0 256)
    (range_rises 0 256) (λ i j a b less some some'.
    let x = offer_is ds s.name i a (offer_in ds s.name i) refl some in
    let y = offer_is ds s.name j b (offer_in ds s.name j) refl some' in
    inr (sym x.0 ∙ y.0, rw (← x.1, ← y.1) less)))
    (λ s t a b less within within'.
    let g = given (offer_of ds s.name) (range_with_len 0 256) a within in
    let h = given (offer_of ds t.name) (range_with_len 0 256) b within' in
    let x = offer_is ds s.name g.from a (offer_in ds s.name g.from) refl g.gives in
    let y = offer_is ds t.name h.from b (offer_in ds t.name h.from) refl h.gives in
    inl (rw (← x.0, ← y.0) less))

-- a denied pair of the setup
deny_is : (b : Bool) (v w : ℕ) (p : ℕ × ℕ) → cond b (Some (v, w)) None ≡ Some p → (v, w) ≡ p
deny_is true v w p some = same_Some (v, w) p some
deny_is false v w p some = absurd (none-some p some)

pub record IsDenyOf (vpes : List VpeDecl) (p : ℕ × ℕ) : Type 0 where
  pub first : VpeDecl
  pub second : VpeDecl
  pub has_first : Contains vpes first
  pub has_second : Contains vpes second
  pub is : (first.vpe, second.vpe) ≡ p

pub deny_of_setup : (ds : List Declaration) (vpes : List VpeDecl) (p : ℕ × ℕ) → Contains (denies_of ds vpes) p → IsDenyOf vpes p
unfolding denies_of
deny_of_setup ds vpes p within =
    let j = joined (λ (d : VpeDecl). filter_map (λ (e : VpeDecl). deny_of ds d.vpe e.vpe) vpes) vpes p within in
    let g = given (λ (e : VpeDecl). deny_of ds j.from.vpe e.vpe) vpes p j.has in
    record {
      first = j.from;
      second = g.from;
      has_first = j.within;
      has_second = g.within;
      is = deny_is (is_denied ds j.from.vpe g.from.vpe) j.from.vpe g.from.vpe p g.gives;
    }

pub denies_rise : (ds : List Declaration) (vpes : List VpeDecl) → AllPairs (λ a b. a.vpe < b.vpe) vpes → AllPairs ComesBefore (denies_of ds vpes)
unfolding denies_of
denies_rise ds vpes rise =
    pairs_joined (λ (d : VpeDecl). filter_map (λ (e : VpeDecl). deny_of ds d.vpe e.vpe) vpes) (λ (a b : VpeDecl). a.vpe < b.vpe) ComesBefore vpes rise
    (λ d within. pairs_given (λ (e : VpeDecl). deny_of ds d.vpe e.vpe) (λ (a b : VpeDecl). a.vpe < b.vpe) ComesBefore vpes rise (λ a b p q less some some'.
    let x = deny_is (is_denied ds d.vpe a.vpe) d.vpe a.vpe p some in
    let y = deny_is (is_denied ds d.vpe b.vpe) d.vpe b.vpe q some' in
    rw (← x, ← y) (inr (refl, less))))
    (λ d e p q less within within'.
    let g = given (λ (f : VpeDecl). deny_of ds d.vpe f.vpe) vpes p within in
    let h = given (λ (f : VpeDecl). deny_of ds e.vpe f.vpe) vpes q within' in
    let x = deny_is (is_denied ds d.vpe g.from.vpe) d.vpe g.from.vpe p g.gives in
    let y = deny_is (is_denied ds e.vpe h.from.vpe) e.vpe h.from.vpe q h.gives in
    rw (← x, ← y) (inl less))

-- a kill of the setup
kill_is : (ds : List Declaration) (v : ℕ) (p : ℕ × ℕ) (n : Option ℕ) → kill_in ds v ≡ n → option_map (λ replies. (v, replies)) n ≡ Some p →
    (v ≡ p.0) × (kill_in ds v ≡ Some p.1)
kill_is ds v p None told some = absurd (none-some p some)
kill_is ds v p (Some n) told some =
    let is : (v, n) ≡ p = same_Some (v, n) p some in
    (ap (λ (x : ℕ × ℕ). x.0) is, told ∙ ap (λ (x : ℕ × ℕ). Some x.1) is)

pub record IsKillOf (ds : List Declaration) (vpes : List VpeDecl) (p : ℕ × ℕ) : Type 0 where
  pub vpe : VpeDecl
  pub declared : Contains vpes vpe
  pub is : vpe.vpe ≡ p.0
  pub killed : kill_in ds vpe.vpe ≡ Some p.1

pub kill_of_setup : (ds : List Declaration) (vpes : List VpeDecl) (p : ℕ × ℕ) → Contains (kills_of ds vpes) p → IsKillOf ds vpes p
unfolding kills_of
kill_of_setup ds vpes p within =
    let g = given (λ (d : VpeDecl). option_map (λ replies. (d.vpe, replies)) (kill_in ds d.vpe)) vpes p within in
    let is = kill_is ds g.from.vpe p (kill_in ds g.from.vpe) refl g.gives in
    record { vpe = g.from; declared = g.within; is = is.0; killed = is.1 }

pub kills_rise : (ds : List Declaration) (vpes : List VpeDecl) → AllPairs (λ a b. a.vpe < b.vpe) vpes → AllPairs (λ a b. a.0 < b.0) (kills_of ds vpes)
unfolding kills_of
kills_rise ds vpes rise =
    pairs_given (λ (d : VpeDecl). option_map (λ replies. (d.vpe, replies)) (kill_in ds d.vpe)) (λ (a b : VpeDecl). a.vpe < b.vpe)
    (λ (p q : ℕ × ℕ). p.0 < q.0) vpes rise (λ a b p q less some some'.
    let x = kill_is ds a.vpe p (kill_in ds a.vpe) refl some in
    let y = kill_is ds b.vpe q (kill_in ds b.vpe) refl some' in
    rw (← x.0, ← y.0) less)

-- a sum over numbers
total : (ℕ → ℕ) → ℕ → ℕ → ℕ
total f a zero = 0
total f a (suc n) = f a + total f (a + 1) n

total_same : (f g : ℕ → ℕ) (a n : ℕ) → ((v : ℕ) → a ≤ v → g v ≡ f v) → total g a n ≡ total f a n
unfolding total
total_same f g a zero same = refl
total_same f g a (suc n) same = rw (same a (omega arith), total_same f g (a + 1) n (λ v low. same v (omega arith))) refl

total_more : (f g : ℕ → ℕ) (u a n : ℕ) → ((v : ℕ) → (v ≡ u → ⊥) → g v ≡ f v) → g u ≤ f u + 1 → total g a n ≤ total f a n + 1
unfolding total
total_more f g u a zero same one = omega arith
total_more f g u a (suc n) same one =
    elim (cases_eq a u) [
      | inl here ↦
          let rest : total g (a + 1) n ≡ total f (a + 1) n = total_same f g (a + 1) n (λ v low. same v (λ e. absurd (omega arith))) in
          let at : g a ≤ f a + 1 = rw here one in
          omega arith
      | inr other ↦
          let at : g a ≡ f a = same a other in
          let rest : total g (a + 1) n ≤ total f (a + 1) n + 1 = total_more f g u (a + 1) n same one in
          omega arith
    ]

calls_at : List Declaration → ℕ → ℕ
calls_at ds v = length (calls_in ds v)

said_by : (v w : ℕ) (c : Call) → (v ≡ w → ⊥) → said_call v (Calls w c) ≡ None
said_by v w c other = rw (ne_eqb w v (λ e. other (sym e))) refl

call_more : (ds : List Declaration) (d : Declaration) (a n : ℕ) → total (calls_at (ds ++ d ∷ [])) a n ≤ total (calls_at ds) a n + cond (is_call_line d) 1 0
unfolding calls_at
call_more ds (Calls w c) a n = total_more (λ v. length (calls_in ds v)) (λ v. length (calls_in (ds ++ Calls w c ∷ []) v)) w a n
    (λ v other. ap (λ (cs : List Call). length cs) (calls_in-same ds (Calls w c) v (said_by v w c other)))
    (let new : calls_in (ds ++ Calls w c ∷ []) w ≡ calls_in ds w ++ c ∷ [] = calls_in-new ds (Calls w c) w c (rw (eq-eqb w w refl) refl) in
    rw new (omega (arith, length-append (calls_in ds w) (c ∷ []))))
call_more ds d a n =
    let same : total (λ v. length (calls_in (ds ++ d ∷ []) v)) a n ≡ total (λ v. length (calls_in ds v)) a n =
    total_same (λ v. length (calls_in ds v)) (λ v. length (calls_in (ds ++ d ∷ []) v)) a n
    (λ v low. ap (λ (cs : List Call). length cs) (calls_in-same ds d v refl)) in
    omega arith

-- there are no more calls than lines that declare one
no_calls : (a n : ℕ) → total (calls_at []) a n ≤ call_number []
unfolding total calls_at calls_in call_number
no_calls a zero = omega arith
no_calls a (suc n) = let rest : total (calls_at []) (a + 1) n ≤ call_number [] = no_calls (a + 1) n in omega arith

calls_counted : (version kernels : ℕ) (ds : List Declaration) → AreAccepted version kernels ds → (a n : ℕ) → total (calls_at ds) a n ≤ call_number ds
calls_counted version kernels = sound.by_lines version kernels (λ ds. (a n : ℕ) → total (calls_at ds) a n ≤ call_number ds)
    no_calls
    (λ ds d so_far ranges fault a n.
    let more = call_more ds d a n in
    let old = so_far a n in
    rw (call_number-more ds d) (omega arith))

sum_option : (ds : List Declaration) (v : ℕ) (o : Option VpeDecl) (vpes : List VpeDecl) (rest : ℕ) → ((d : VpeDecl) → o ≡ Some d → d.calls ≡ calls_in ds v) →
    sum_by (λ (d : VpeDecl). length d.calls) vpes ≤ rest → sum_by (λ (d : VpeDecl). length d.calls) (cons_option o vpes) ≤ calls_at ds v + rest
unfolding calls_at
sum_option ds v None vpes rest has below = omega arith
sum_option ds v (Some d) vpes rest has below =
    let calls : length d.calls ≡ length (calls_in ds v) = ap (λ (cs : List Call). length cs) (has d refl) in
    rw (sum_by-cons (λ (e : VpeDecl). length e.calls) d vpes) (omega arith)

vpe_calls : (v : ℕ) (o : Option ℕ) (rs : List Root) (cs : List Call) (d : VpeDecl) →
    option_map (λ p. record { vpe = v; pe = p; roots = rs; calls = cs }) o ≡ Some d → d.calls ≡ cs
vpe_calls v None rs cs d some = absurd (none-some d some)
vpe_calls v (Some p) rs cs d some = ap (λ (e : VpeDecl). e.calls) (sym (same_Some _ d some))

sum_vpes : (ds : List Declaration) (a n : ℕ) → sum_by (λ (d : VpeDecl). length d.calls) (filter_map (vpe_in ds) (range_with_len a n)) ≤ total (calls_at ds) a n
unfolding total vpe_in
sum_vpes ds a zero = omega arith
sum_vpes ds a (suc n) = sum_option ds a (vpe_in ds a) (filter_map (vpe_in ds) (range_with_len (a + 1) n)) (total (calls_at ds) (a + 1) n)
    (λ d some. vpe_calls a (pe_in ds a) (roots_in ds a) (calls_in ds a) d some) (sum_vpes ds (a + 1) n)

few_calls : (version kernels : ℕ) (ds : List Declaration) → AreAccepted version kernels ds → sum_by (λ (d : VpeDecl). length d.calls) (vpes_of ds) ≤ 20000
unfolding vpes_of numbers
few_calls version kernels ds accepted =
    let a : sum_by (λ (d : VpeDecl). length d.calls) (filter_map (vpe_in ds) (range_with_len 0 128)) ≤ total (calls_at ds) 0 128 = sum_vpes ds 0 128 in
    let b : total (calls_at ds) 0 128 ≤ call_number ds = calls_counted version kernels ds accepted 0 128 in
    let c : call_number ds ≤ 20000 = sound.few_calls version kernels ds accepted in
    omega arith

-- the table of owners
abbrev owners : ℕ → List Declaration → MembershipTable
owners kernels ds = record { kernels = kernels; owners = map (owner_in ds) (numbers PES) }

owners_are : (version kernels : ℕ) (ds : List Declaration) → 1 ≤ kernels → kernels ≤ most_kernels version → AreAccepted version kernels ds →
    IsMembership (owners kernels ds)
unfolding numbers
owners_are version kernels ds some few accepted = record {
  some_kernel = some;
  few_kernels = let most : most_kernels version ≤ KERNELS = most_few version in omega arith;
  all_pes = rw length-map (length-range 0 PES);
  owners_exist = λ pe kernel owned.
      let e : 0 + pe ≡ pe = omega arith in
      let said : owner_in ds pe ≡ Some kernel = rw e at (in_table (owner_in ds) 0 PES pe kernel owned) in
      sound.owners_exist version kernels ds accepted pe kernel said;
}

owned_in : (version kernels : ℕ) (ds : List Declaration) (p : ℕ) → p < most_vpes version → IsSome (owner_in ds p) → IsSome (owner_at (owners kernels ds) p)
unfolding numbers
owned_in version kernels ds p small some =
    let e : 0 + p ≡ p = omega arith in
    let below : p < VPES = node_small version p small in
    let same : get_or (map (owner_in ds) (range_with_len 0 PES)) p None ≡ owner_in ds p = rw e at (table_has (owner_in ds) 0 PES p (omega arith)) in
    rw same some

-- an element, as `Any` has it
any_in : {X : Type 0} (P : X → Type 0) (xs : List X) (x : X) → Contains xs x → P x → Any P xs
any_in P xs x (k, lt, is) holds = (k, x, lt, is, holds)

vpe_is_declared : (version kernels : ℕ) (ds : List Declaration) (T : Setup) (d : VpeDecl) → AreAccepted version kernels ds → T.version ≡ version →
    T.owners ≡ owners kernels ds → Contains (vpes_of ds) d → IsVpeDecl T d
vpe_is_declared version kernels ds T d accepted first table within =
    let v = vpe_of ds d within in
    let placed = sound.placed version kernels ds accepted d.vpe d.pe v.pe in
    let r = sound.roots version kernels ds accepted d.vpe in
    record {
      vpe = rw first placed.vpe;
      pe = rw first placed.pe;
      owned = rw table (owned_in version kernels ds d.pe placed.pe placed.owned);
      selectors_differ = rw v.roots r.differ;
      roots = rw v.roots r.valid;
      calls = rw (first, v.calls) (sound.calls version kernels ds accepted d.vpe);
    }

-- a PE that has an owner is one of which a text can speak
owned_small : (version kernels : ℕ) (ds : List Declaration) → AreAccepted version kernels ds → (p : ℕ) → IsSome (owner_at (owners kernels ds) p) →
    p < most_vpes version
unfolding numbers
owned_small version kernels ds accepted p some =
    let e : 0 + p ≡ p = omega arith in
    elim (sound.some_or_none (owner_at (owners kernels ds) p)) [
      | inl none ↦ absurd (true≢false (sym (rw none at some)))
      | inr owned ↦ sound.owners_small version kernels ds accepted p owned.0 (rw e at (in_table (owner_in ds) 0 PES p owned.0 owned.1))
    ]

-- a window is told, or else 4, which both versions have
window_fits : (version : ℕ) (told : Option ℕ) → ((n : ℕ) → told ≡ Some n → IsWindow version n) → IsWindow version (option_map_or (λ n. n) told LINK_WINDOW)
window_fits version (Some n) each = each n refl
window_fits version None each =
    elim (cases_Bool (version == 1)) [
      | inl one ↦ let least : least_window version ≡ 4 = rw one refl in let most : most_window version ≡ 4 = rw one refl in (omega arith, omega arith)
      | inr other ↦ let least : least_window version ≡ 1 = rw other refl in let most : most_window version ≡ 32 = rw other refl in (omega arith, omega arith)
    ]

-- what accepted lines declare is a setup
pub setup_is : (version kernels : ℕ) (ds : List Declaration) → (version ≡ 1) ⊎ (version ≡ 2) → 1 ≤ kernels → kernels ≤ most_kernels version →
    AreAccepted version kernels ds → IsSetup (setup_of version kernels ds)
unfolding setup_of
setup_is version kernels ds versions some few accepted =
    let rise : AllPairs (λ (a b : VpeDecl). a.vpe < b.vpe) (vpes_of ds) = vpes_rise ds in
    let served : AllPairs (λ (a b : ServiceData). a.name < b.name) (services_of (vpes_of ds)) = services_rise (vpes_of ds) in
    let apart = sound.apart version kernels ds accepted in
    record {
      versioned = versions;
      windowed = window_fits version (window_in ds) (sound.windows version kernels ds accepted);
      some_kernel = some;
      few_kernels = few;
      membership = owners_are version kernels ds some few accepted;
      same_kernels = refl;
      owned_pes = owned_small version kernels ds accepted;
      vpes = all_in (IsVpeDecl (setup_of version kernels ds)) (vpes_of ds)
          (λ d within. vpe_is_declared version kernels ds (setup_of version kernels ds) d accepted refl refl within);
      vpes_rise = rise;
      pes_differ = λ i j d lt within same.
          let a = vpe_of ds (get_or (vpes_of ds) i d) (Contains-get_or (vpes_of ds) i d (omega arith)) in
          let b = vpe_of ds (get_or (vpes_of ds) j d) (Contains-get_or (vpes_of ds) j d within) in
          let less = rise i j d lt within in
          let e = apart.apart (get_or (vpes_of ds) i d).vpe (get_or (vpes_of ds) j d).vpe (get_or (vpes_of ds) j d).pe (a.pe ∙ ap Some same) b.pe in
          absurd (omega arith);
      services_rise = served;
      services = services_same version kernels ds accepted;
      offers = all_in (IsOffer (setup_of version kernels ds)) (offers_of ds (services_of (vpes_of ds))) (λ o within.
          let is = offer_of_setup ds (services_of (vpes_of ds)) o within in
          record {
            index = is.index;
            selector = sound.offers version kernels ds accepted o.name o.index o.sel is.offered;
            declared = any_in (λ (s : ServiceData). s.name ≡ o.name) (services_of (vpes_of ds)) is.service is.declared is.name;
          });
      offers_rise = offers_rise ds (services_of (vpes_of ds)) served;
      denies = all_in (λ (p : ℕ × ℕ). IsDeclared (setup_of version kernels ds) p.0 × IsDeclared (setup_of version kernels ds) p.1) (denies_of ds (vpes_of ds))
          (λ p within.
          let is = deny_of_setup ds (vpes_of ds) p within in (
            any_in (λ (d : VpeDecl). d.vpe ≡ p.0) (vpes_of ds) is.first is.has_first (ap (λ (q : ℕ × ℕ). q.0) is.is),
            any_in (λ (d : VpeDecl). d.vpe ≡ p.1) (vpes_of ds) is.second is.has_second (ap (λ (q : ℕ × ℕ). q.1) is.is),
          ));
      denies_rise = denies_rise ds (vpes_of ds) rise;
      kills = all_in (λ (p : ℕ × ℕ). IsDeclared (setup_of version kernels ds) p.0 × IsWord p.1) (kills_of ds (vpes_of ds)) (λ p within.
          let is = kill_of_setup ds (vpes_of ds) p within in
          (any_in (λ (d : VpeDecl). d.vpe ≡ p.0) (vpes_of ds) is.vpe is.declared is.is, sound.kills version kernels ds accepted is.vpe.vpe p.1 is.killed));
      kills_rise = kills_rise ds (vpes_of ds) rise;
      few_calls = few_calls version kernels ds accepted;
    }

abbrev pub made_setup : (version window k : ℕ) → MembershipTable → List VpeDecl → List ServiceData → List OfferData → List (ℕ × ℕ) → List (ℕ × ℕ) → Setup
made_setup version window k table vpes services offers denies kills = record {
  version = version;
  window = window;
  kernels = k;
  owners = table;
  vpes = vpes;
  services = services;
  offers = offers;
  denies = denies;
  kills = kills;
}

abbrev table_of : ℕ → List (Option ℕ) → MembershipTable
table_of k list = record { kernels = k; owners = list }

same_owners : (k kernels : ℕ) (a b : List (Option ℕ)) → k ≡ kernels → a ≡ b → table_of k a ≡ table_of kernels b
same_owners k kernels a b number list = rw (number, list) refl

-- what the code makes of its tables is that setup
pub same_setup : (version kernels k window : ℕ) (ds : List Declaration) (table : MembershipTable) (vpes : List VpeDecl) (services : List ServiceData)
    (offers : List OfferData) (denies kills : List (ℕ × ℕ)) → window ≡ window_of ds → length table.owners ≡ PES → table.kernels ≡ kernels →
    ((p : ℕ) → owner_at table p ≡ owner_in ds p) → k ≡ table.kernels → vpes ≡ vpes_of ds → services ≡ services_of vpes → offers ≡ offers_of ds services →
    denies ≡ denies_of ds vpes → kills ≡ kills_of ds vpes → made_setup version window k table vpes services offers denies kills ≡ setup_of version kernels ds
unfolding setup_of numbers
same_setup version kernels k window ds table vpes services offers denies kills told long number tells is v s o d l =
    let list : table.owners ≡ map (owner_in ds) (range_with_len 0 PES) = same_table (owner_in ds) table.owners 0 PES long (λ i. tells i
    ∙ (let e : i ≡ 0 + i = omega arith in ap (owner_in ds) e)) in
    let whole : table ≡ owners kernels ds = same_owners table.kernels kernels table.owners (map (owner_in ds) (range_with_len 0 PES)) number list in
    rw (told, is, number, whole, l, d, o, s, v) refl
