-- What a printed setup says declares that setup.
use Rattle.std.proofs.Common.{◌≡◌, ◌≢◌, ℕ, zero, suc, ◌+◌, ◌<◌, ◌≤◌, ◌==◌, ◌⊎◌, Bool, true, false, cond, true≢false, ◌&&◌, ◌||◌, List, [], ◌∷◌, map, get_or}
use Rattle.std.proofs.Common.{Option, Some, None, refl, ap, sym, ◌∙◌, subst, arith, inl, inr, eqb-true, eq-eqb, ne_eqb, append-nil}
use Rattle.std.specs.List.{All, AllPairs, Contains, filter_map, flat_map, list_any, range_with_len}
use Rattle.std.specs.Option.{option_or, option_map, option_map_or, is_some, IsSome}
use Rattle.std.proofs.lemmas.Bool.{cases_Bool, cases_eq, cases_order}
use Rattle.std.proofs.lemmas.List.{get_or_default}
use Rattle.std.proofs.lemmas.Option.{none-some, same_Some}
use Rattle.std.proofs.lemmas.List.Elements.{All-contains, All-head, All-tail, Contains-append_left, filter_map-append}
use Rattle.sem_key.specs.declared.object.Object.{Object}
use Rattle.sem_key.specs.declared.object.Object.TheVariants.{Mem, Recv, Send, Serv, Sess}
use Rattle.sem_key.specs.MembershipTable.{owner_at}
use Rattle.sem_msg.specs.declared.call.Call.{Call}
use Rattle.sem_msg.specs.declared.setup.Root.{Root}
use Rattle.sem_msg.specs.declared.setup.Service.{Service as ServiceData}
use Rattle.sem_msg.specs.declared.setup.Offer.{Offer as OfferData}
use Rattle.sem_msg.specs.declared.setup.VpeDecl.{VpeDecl}
use Rattle.sem_msg.specs.Setup.{Setup, IsSetup, IsRoot, IsRootObject, IsVpeDecl, IsOffer, IsDeclared, ComesBefore, offer_place}
use Rattle.sem_msg.specs.Calls.{IsWord}
use Rattle.sem_key.specs.declared.limits.TheConstants.{VPES}
use Rattle.sem_msg.specs.Versions.{least_window, most_window}
use Rattle.sem_trace.specs.declared.limits.TheConstants.{LINK_WINDOW}
use Rattle.sem_trace.proofs.Nodes.{node_small}
use Rattle.sem_trace.specs.declared.declaration.Declaration.{Declaration}
use Rattle.sem_trace.specs.declared.declaration.Declaration.TheVariants.{Window, Pe, Vpe, Memory, Receive, Service, Offer, Deny, Kill, Call as Calls}
use Rattle.sem_trace.specs.Earlier.{first_some, said_window, window_in, said_owner, owner_in, said_pe, pe_in, said_root, roots_in, said_call, calls_in, vpe_in}
use Rattle.sem_trace.specs.Earlier.{said_offer, offer_in, says_deny, is_denied, said_kill, kill_in}
use Rattle.sem_trace.specs.Refusal.{numbers}
use Rattle.sem_trace.specs.SetupOfText.{window_of, vpes_of, services_among, services_of, offer_of, offers_of, deny_of, denies_of, kills_of, setup_of}
use Rattle.sem_reader.proofs.Enumerated.{in_cons, in_nil, here, there, pairs_head, pairs_tail, given, gives, joined, joins, range_has}
use Rattle.sem_reader.proofs.Sections.{window_decls, all_pes, root_says, root_decl, vpe_decl, offer_decl, deny_decl, kill_decl, section, said_by, rank, in_map}
use Rattle.sem_reader.proofs.Sections.{map_has, in_first, has_pe, in_section, has_section, ranked}
use Rattle.sem_reader.proofs.Printed.{first_there, any_there, all_accepted}
use Rattle.sem_reader.proofs.SetupIs.{IsVpeOf, vpe_of, vpes_rise, services_rise, services_same, offers_rise, offer_of_setup, denies_rise, kills_rise}
use Rattle.sem_reader.proofs.SetupIs.{kill_of_setup, same_setup}

-- two lists that are in one order and have the same elements are one
pub sorted_same : {X : Type 0} (R : X → X → Type 0) → ((x : X) → R x x → ⊥) → ((x y : X) → R x y → R y x → ⊥) → (xs ys : List X) → AllPairs R xs →
    AllPairs R ys → ((z : X) → Contains xs z → Contains ys z) → ((z : X) → Contains ys z → Contains xs z) → xs ≡ ys
sorted_same R self other [] [] px py to from = refl
sorted_same R self other [] (y ∷ ys) px py to from = absurd (in_nil y (from y (here y ys)))
sorted_same R self other (x ∷ xs) [] px py to from = absurd (in_nil x (to x (here x xs)))
sorted_same {X} R self other (x ∷ xs) (y ∷ ys) px py to from =
    let same : x ≡ y =
    elim (in_cons y ys x (to x (here x xs))) [
      | inl is ↦ sym is
      | inr later ↦
          elim (in_cons x xs y (from y (here y ys))) [
            | inl is ↦ is
            | inr later' ↦ absurd (other x y (All-contains (R x) xs y (pairs_head R x xs px) later') (All-contains (R y) ys x (pairs_head R y ys py) later))
          ]
    ]
    in
    let rest : xs ≡ ys = sorted_same R self other xs ys (pairs_tail R x xs px) (pairs_tail R y ys py)
    (λ z within.
    elim (in_cons y ys z (to z (there x xs z within))) [
      | inl is ↦ absurd (self z (subst (λ (w : X). R w z) (same ∙ is) (All-contains (R x) xs z (pairs_head R x xs px) within)))
      | inr inside ↦ inside
    ])
    (λ z within.
    elim (in_cons x xs z (from z (there y ys z within))) [
      | inl is ↦ absurd (self z (subst (λ (w : X). R w z) (sym same ∙ is) (All-contains (R y) ys z (pairs_head R y ys py) within)))
      | inr inside ↦ inside
    ])
    in
    rw (same, rest) refl

or_last : {X : Type 0} (o p : Option X) (x : X) → option_or o p ≡ Some x → (o ≡ Some x) ⊎ ((o ≡ None) × (p ≡ Some x))
or_last None p x some = inr (refl, some)
or_last (Some y) p x some = inl some

or_cases : (a b : Bool) → (a || b) ≡ true → (a ≡ true) ⊎ (b ≡ true)
or_cases true b some = inl refl
or_cases false b some = inr some

none_from : (o : Option ℕ) → ((y : ℕ) → o ≡ Some y → ⊥) → o ≡ None
none_from None never = refl
none_from (Some y) never = absurd (never y refl)

if_same : (m n x y : ℕ) → cond (m == n) (Some x) None ≡ Some y → (m ≡ n) × (x ≡ y)
if_same m n x y some =
    elim (cases_Bool (m == n)) [
      | inl same ↦ let e : Some x ≡ Some y = rw same at some in (eqb-true m n same, same_Some x y e)
      | inr other ↦ let e : None ≡ Some y = rw other at some in absurd (none-some y e)
    ]

both_same : (a b c d : ℕ) → ((a == b) && (c == d)) ≡ true → (a ≡ b) × (c ≡ d)
both_same a b c d both =
    elim (cases_Bool (a == b)) [
      | inl same ↦ let e : (c == d) ≡ true = rw same at both in (eqb-true a b same, eqb-true c d e)
      | inr other ↦ let e : false ≡ true = rw other at both in absurd (true≢false (sym e))
    ]

if_both : (a b c d x y : ℕ) → cond ((a == b) && (c == d)) (Some x) None ≡ Some y → (a ≡ b) × (c ≡ d) × (x ≡ y)
if_both a b c d x y some =
    elim (cases_Bool ((a == b) && (c == d))) [
      | inl same ↦ let s = both_same a b c d same in let e : Some x ≡ Some y = rw same at some in (s.0, s.1, same_Some x y e)
      | inr other ↦ let e : None ≡ Some y = rw other at some in absurd (none-some y e)
    ]

pub same_both : (m n : ℕ) → ((m == m) && (n == n)) ≡ true
same_both m n = rw (eq-eqb m m refl, eq-eqb n n refl) refl

-- the numbers of a line
abbrev is_window : Declaration → Bool
is_window (Window w) = true
is_window e = false

abbrev pe_number : Declaration → ℕ
pe_number (Pe p k) = p
pe_number e = 0

abbrev pe_owner : Declaration → ℕ
pe_owner (Pe p k) = k
pe_owner e = 0

abbrev vpe_number : Declaration → ℕ
vpe_number (Vpe v p) = v
vpe_number e = 0

abbrev vpe_pe : Declaration → ℕ
vpe_pe (Vpe v p) = p
vpe_pe e = 0

abbrev offer_name : Declaration → ℕ
offer_name (Offer n i s) = n
offer_name e = 0

abbrev offer_index : Declaration → ℕ
offer_index (Offer n i s) = i
offer_index e = 0

abbrev offer_sel : Declaration → ℕ
offer_sel (Offer n i s) = s
offer_sel e = 0

abbrev deny_first : Declaration → ℕ
deny_first (Deny v w) = v
deny_first e = 0

abbrev deny_second : Declaration → ℕ
deny_second (Deny v w) = w
deny_second e = 0

abbrev kill_vpe : Declaration → ℕ
kill_vpe (Kill v n) = v
kill_vpe e = 0

abbrev kill_after : Declaration → ℕ
kill_after (Kill v n) = n
kill_after e = 0

abbrev pair : ℕ → ℕ → ℕ × ℕ
pair a b = (a, b)

place_parts : (a b c d : ℕ) → a ≡ b → c ≡ d → pair a c ≡ pair b d
place_parts a b c d x y = rw (x, y) refl

-- where the first is told
pub first_found : {X Y : Type 0} (h : X → Option Y) (xs : List X) (y : Y) → first_some h xs ≡ Some y → (x : X) × Contains xs x × (h x ≡ Some y)
first_found h [] y some = absurd (none-some y some)
first_found h (x ∷ xs) y some =
    elim (or_last (h x) (first_some h xs) y some) [
      | inl first ↦ (x, here x xs, first)
      | inr rest ↦ let r = first_found h xs y rest.1 in (r.0, there x xs r.0 r.1, r.2)
    ]

pub any_found : {X : Type 0} (p : X → Bool) (xs : List X) → list_any p xs ≡ true → (x : X) × Contains xs x × (p x ≡ true)
any_found p [] some = absurd (true≢false (sym some))
any_found p (x ∷ xs) some =
    elim (or_cases (p x) (list_any p xs) some) [
      | inl first ↦ (x, here x xs, first)
      | inr rest ↦ let r = any_found p xs rest in (r.0, there x xs r.0 r.1, r.2)
    ]

some_value : (o : Option ℕ) → IsSome o → (k : ℕ) × (o ≡ Some k)
some_value None some = absurd (true≢false (sym some))
some_value (Some k) some = (k, refl)

same_if : {X : Type 0} (n : ℕ) (x y : X) → cond (n == n) x y ≡ x
same_if n x y = rw (eq-eqb n n refl) refl

-- which line said it
owner_line : (p : ℕ) (e : Declaration) (k : ℕ) → said_owner p e ≡ Some k → e ≡ Pe p k
owner_line p (Pe q j) k some = let s = if_same q p j k some in rw (s.0, s.1) refl
owner_line p e k some = absurd (none-some k some)

vpe_line : (v : ℕ) (e : Declaration) (p : ℕ) → said_pe v e ≡ Some p → e ≡ Vpe v p
vpe_line v (Vpe w q) p some = let s = if_same w v q p some in rw (s.0, s.1) refl
vpe_line v e p some = absurd (none-some p some)

offer_line : (n i : ℕ) (e : Declaration) (s : ℕ) → said_offer n i e ≡ Some s → e ≡ Offer n i s
offer_line n i (Offer m j t) s some = let b = if_both m n j i t s some in rw (b.0, b.1, b.2) refl
offer_line n i e s some = absurd (none-some s some)

deny_line : (v w : ℕ) (e : Declaration) → says_deny v w e ≡ true → e ≡ Deny v w
deny_line v w (Deny x y) some = let b = both_same x v y w some in rw (b.0, b.1) refl
deny_line v w e some = absurd (true≢false (sym some))

kill_line : (v : ℕ) (e : Declaration) (n : ℕ) → said_kill v e ≡ Some n → e ≡ Kill v n
kill_line v (Kill w m) n some = let s = if_same w v m n some in rw (s.0, s.1) refl
kill_line v e n some = absurd (none-some n some)

-- owners
not_window : (w p k : ℕ) → Pe p k ≡ Window w → ⊥
not_window w p k same = true≢false (sym (ap is_window same))

pe_line : (T : Setup) (e : Declaration) (p k : ℕ) → e ≡ Pe p k → Contains (section T 0) e → (q j : ℕ) × (e ≡ Pe q j) × (owner_at T.owners q ≡ Some j)
pe_line T e p k is within =
    elim (in_first T e within) [
      | inl window ↦ absurd (not_window T.window p k (sym is ∙ window))
      | inr pe ↦ pe
    ]

owner_printed : (T : Setup) → IsSetup T → (p k : ℕ) → owner_in (said_by T) p ≡ Some k → owner_at T.owners p ≡ Some k
unfolding owner_in
owner_printed T fits p k some =
    let f = first_found (said_owner p) (said_by T) k some in
    let e : f.0 ≡ Pe p k = owner_line p f.0 k f.2 in
    let line = pe_line T (Pe p k) p k refl (in_section T fits (Pe p k) 0 (subst (Contains (said_by T)) e f.1) refl) in
    let q : p ≡ line.0 = ap pe_number line.2 in
    let j : k ≡ line.1 = ap pe_owner line.2 in
    ap (λ (n : ℕ). owner_at T.owners n) q ∙ (line.3 ∙ ap Some (sym j))

owners_printed : (T : Setup) → IsSetup T → (p : ℕ) (o : Option ℕ) → owner_in (said_by T) p ≡ o → owner_at T.owners p ≡ o
unfolding owner_in
owners_printed T fits p (Some k) is = owner_printed T fits p k is
owners_printed T fits p None is = none_from (owner_at T.owners p) (λ k owned.
    let some = first_there (said_owner p) (said_by T) (Pe p k) k (has_section T (Pe p k) 0 (omega arith) (has_pe T p k owned)) (same_if p _ _) in
    true≢false (sym some ∙ ap (λ (o : Option ℕ). is_some o) is))

-- VPEs
vpe_printed : (T : Setup) → IsSetup T → (v p : ℕ) → pe_in (said_by T) v ≡ Some p → (d : VpeDecl) × Contains T.vpes d × (d.vpe ≡ v) × (d.pe ≡ p)
unfolding pe_in
vpe_printed T fits v p some =
    let f = first_found (said_pe v) (said_by T) p some in
    let e : f.0 ≡ Vpe v p = vpe_line v f.0 p f.2 in
    let m = in_map vpe_decl T.vpes (Vpe v p) (in_section T fits (Vpe v p) 1 (subst (Contains (said_by T)) e f.1) refl) in
    (m.0, m.1, ap vpe_number m.2, ap vpe_pe m.2)

-- two VPEs of the setup with one number are one
one_vpe : (T : Setup) → IsSetup T → (a b : VpeDecl) → Contains T.vpes a → Contains T.vpes b → a.vpe ≡ b.vpe → a ≡ b
one_vpe T fits a b (i, lt, is) (j, lt', is') same =
    elim (cases_order i j) [
      | inl e ↦ sym is ∙ (get_or_default T.vpes i a b lt ∙ (ap (λ (k : ℕ). get_or T.vpes k b) e ∙ is'))
      | inr order ↦ elim order [
        | inl less ↦
            let r = fits.vpes_rise i j a less lt' in
            let x : (get_or T.vpes i a).vpe ≡ a.vpe = ap (λ (y : VpeDecl). y.vpe) is in
            let y : (get_or T.vpes j a).vpe ≡ b.vpe = ap (λ (z : VpeDecl). z.vpe) (get_or_default T.vpes j a b lt' ∙ is') in
            absurd (omega arith)
        | inr less ↦
            let r = fits.vpes_rise j i a less lt in
            let x : (get_or T.vpes i a).vpe ≡ a.vpe = ap (λ (y : VpeDecl). y.vpe) is in
            let y : (get_or T.vpes j a).vpe ≡ b.vpe = ap (λ (z : VpeDecl). z.vpe) (get_or_default T.vpes j a b lt' ∙ is') in
            absurd (omega arith)
      ]
    ]

pe_printed : (T : Setup) → IsSetup T → (d : VpeDecl) → Contains T.vpes d → pe_in (said_by T) d.vpe ≡ Some d.pe
unfolding pe_in
pe_printed T fits d within =
    let some = first_there (said_pe d.vpe) (said_by T) (vpe_decl d) d.pe (has_section T (vpe_decl d) 1 (omega arith) (map_has vpe_decl T.vpes d within))
    (same_if d.vpe _ _) in
    let p = some_value (first_some (said_pe d.vpe) (said_by T)) some in
    let e = vpe_printed T fits d.vpe p.0 p.1 in
    let same : e.0 ≡ d = one_vpe T fits e.0 d e.1 within e.2 in
    p.1 ∙ ap Some (sym e.3 ∙ ap (λ (x : VpeDecl). x.pe) same)

-- the items of one VPE among those of all
filter_none : {X : Type 0} (h : Declaration → Option X) (xs : List Declaration) → ((e : Declaration) → Contains xs e → h e ≡ None) → filter_map h xs ≡ []
filter_none h [] none = refl
filter_none h (x ∷ xs) none = rw (none x (here x xs)) (filter_none h xs (λ e within. none e (there x xs e within)))

others_none : {X : Type 0} (h : Declaration → Option X) (lines : VpeDecl → List Declaration) (v : ℕ) (vpes : List VpeDecl) →
    ((e : VpeDecl) → Contains vpes e → e.vpe ≢ v) → ((e : VpeDecl) → e.vpe ≢ v → filter_map h (lines e) ≡ []) → filter_map h (flat_map lines vpes) ≡ []
others_none h lines v [] apart none = refl
others_none h lines v (x ∷ xs) apart none = filter_map-append h (lines x) (flat_map lines xs)
    ∙ (rw (none x (apart x (here x xs)), others_none h lines v xs (λ e within. apart e (there x xs e within)) none) refl)

own_items : {X : Type 0} (h : Declaration → Option X) (lines : VpeDecl → List Declaration) (own : List X) (vpes : List VpeDecl) (d : VpeDecl) →
    AllPairs (λ a b. a.vpe < b.vpe) vpes → Contains vpes d → filter_map h (lines d) ≡ own → ((e : VpeDecl) → e.vpe ≢ d.vpe → filter_map h (lines e) ≡ []) →
    filter_map h (flat_map lines vpes) ≡ own
own_items h lines own [] d rise within has none = absurd (in_nil d within)
own_items h lines own (x ∷ xs) d rise within has none =
    let later : All (λ (e : VpeDecl). x.vpe < e.vpe) xs = pairs_head (λ (a b : VpeDecl). a.vpe < b.vpe) x xs rise in
    elim (in_cons x xs d within) [
      | inl same ↦
          let rest : filter_map h (flat_map lines xs) ≡ [] =
          others_none h lines d.vpe xs (λ e inside equal. let l : x.vpe < e.vpe = All-contains (λ (e : VpeDecl). x.vpe < e.vpe) xs e later inside in
          let s : x.vpe ≡ d.vpe = ap (λ (y : VpeDecl). y.vpe) same in absurd (omega arith)) none in
          filter_map-append h (lines x) (flat_map lines xs) ∙ (rw (rest, append-nil) (ap (λ (y : VpeDecl). filter_map h (lines y)) same ∙ has))
      | inr inside ↦
          let first : filter_map h (lines x) ≡ [] = none x (λ equal. let l : x.vpe < d.vpe = All-contains (λ (e : VpeDecl). x.vpe < e.vpe) xs d later inside in
          absurd (omega arith)) in
          filter_map-append h (lines x) (flat_map lines xs)
          ∙ (rw first (own_items h lines own xs d (pairs_tail (λ (a b : VpeDecl). a.vpe < b.vpe) x xs rise) inside has none))
    ]

-- the items of one section among those of all
no_section : {X : Type 0} (T : Setup) → IsSetup T → (h : Declaration → Option X) (k : ℕ) → ((e : Declaration) → rank e ≢ k → h e ≡ None) → (a : ℕ) → a < 8 →
    a ≢ k → filter_map h (section T a) ≡ []
no_section T fits h k none a small other = filter_none h (section T a) (λ e within. none e (λ same. other (sym (ranked T fits a small e within) ∙ same)))

no_sections : {X : Type 0} (T : Setup) → IsSetup T → (h : Declaration → Option X) (k : ℕ) → ((e : Declaration) → rank e ≢ k → h e ≡ None) → (a n : ℕ) →
    a + n ≤ 8 → k < a → filter_map h (flat_map (section T) (range_with_len a n)) ≡ []
no_sections T fits h k none a zero small past = refl
no_sections T fits h k none a (suc n) small past =
    filter_map-append h (section T a) (flat_map (section T) (range_with_len (a + 1) n))
    ∙ (rw (no_section T fits h k none a (omega arith) (λ same. absurd (omega arith)), no_sections T fits h k none (a + 1) n (omega arith) (omega arith)) refl)

one_section : {X : Type 0} (T : Setup) → IsSetup T → (h : Declaration → Option X) (k : ℕ) → ((e : Declaration) → rank e ≢ k → h e ≡ None) → (a n : ℕ) →
    a + n ≤ 8 → a ≤ k → k < a + n → filter_map h (flat_map (section T) (range_with_len a n)) ≡ filter_map h (section T k)
one_section T fits h k none a zero small low high = absurd (omega arith)
one_section T fits h k none a (suc n) small low high =
    elim (cases_eq a k) [
      | inl same ↦
          filter_map-append h (section T a) (flat_map (section T) (range_with_len (a + 1) n))
          ∙ (rw (no_sections T fits h k none (a + 1) n (omega arith) (omega arith), append-nil) (ap (λ (i : ℕ). filter_map h (section T i)) same))
      | inr other ↦
          filter_map-append h (section T a) (flat_map (section T) (range_with_len (a + 1) n))
          ∙ (rw (no_section T fits h k none a (omega arith) other) (one_section T fits h k none (a + 1) n (omega arith) (omega arith) (omega arith)))
    ]

no_root : (v : ℕ) (e : Declaration) → rank e ≢ 2 → said_root v e ≡ None
no_root v (Memory w s b l g) other = absurd (other refl)
no_root v (Receive w s n) other = absurd (other refl)
no_root v (Service w s n) other = absurd (other refl)
no_root v e other = refl

no_call : (v : ℕ) (e : Declaration) → rank e ≢ 6 → said_call v e ≡ None
no_call v (Calls w c) other = absurd (other refl)
no_call v e other = refl

root_told : (v s : ℕ) (o : Object) → IsRootObject o → said_root v (root_says v s o) ≡ Some (record { sel = s; object = o })
root_told v s (Mem b l g) valid = same_if v _ _
root_told v s (Recv n) valid = same_if v _ _
root_told v s (Serv n) valid = same_if v _ _
root_told v s (Send g l c) valid = absurd valid
root_told v s (Sess k i) valid = absurd valid

root_of_other : (v w s : ℕ) (o : Object) → w ≢ v → said_root v (root_says w s o) ≡ None
root_of_other v w s (Mem b l g) other = rw (ne_eqb w v other) refl
root_of_other v w s (Recv n) other = rw (ne_eqb w v other) refl
root_of_other v w s (Serv n) other = rw (ne_eqb w v other) refl
root_of_other v w s (Send g l c) other = refl
root_of_other v w s (Sess k i) other = refl

own_roots : (v : ℕ) (rs : List Root) → All IsRoot rs → filter_map (said_root v) (map (root_decl v) rs) ≡ rs
own_roots v [] all = refl
own_roots v (r ∷ rs) all = rw (root_told v r.sel r.object (All-head IsRoot r rs all).kind, own_roots v rs (All-tail IsRoot r rs all)) refl

other_roots : (v w : ℕ) (rs : List Root) → w ≢ v → filter_map (said_root v) (map (root_decl w) rs) ≡ []
other_roots v w [] other = refl
other_roots v w (r ∷ rs) other = rw (root_of_other v w r.sel r.object other) (other_roots v w rs other)

call_told : (v : ℕ) (c : Call) → said_call v (Calls v c) ≡ Some c
call_told v c = same_if v _ _

own_calls : (v : ℕ) (cs : List Call) → filter_map (said_call v) (map (Calls v) cs) ≡ cs
own_calls v [] = refl
own_calls v (c ∷ cs) = rw (call_told v c, own_calls v cs) refl

other_calls : (v w : ℕ) (cs : List Call) → w ≢ v → filter_map (said_call v) (map (Calls w) cs) ≡ []
other_calls v w [] other = refl
other_calls v w (c ∷ cs) other = rw (ne_eqb w v other) (other_calls v w cs other)

roots_printed : (T : Setup) → IsSetup T → (d : VpeDecl) → Contains T.vpes d → roots_in (said_by T) d.vpe ≡ d.roots
unfolding roots_in said_by
roots_printed T fits d within =
    one_section T fits (said_root d.vpe) 2 (no_root d.vpe) 0 8 (omega arith) (omega arith) (omega arith)
    ∙ own_items (said_root d.vpe) (λ (e : VpeDecl). map (root_decl e.vpe) e.roots) d.roots T.vpes d fits.vpes_rise within
    (own_roots d.vpe d.roots (All-contains (IsVpeDecl T) T.vpes d fits.vpes within).roots) (λ e other. other_roots d.vpe e.vpe e.roots other)

calls_printed : (T : Setup) → IsSetup T → (d : VpeDecl) → Contains T.vpes d → calls_in (said_by T) d.vpe ≡ d.calls
unfolding calls_in said_by
calls_printed T fits d within =
    one_section T fits (said_call d.vpe) 6 (no_call d.vpe) 0 8 (omega arith) (omega arith) (omega arith)
    ∙ own_items (said_call d.vpe) (λ (e : VpeDecl). map (Calls e.vpe) e.calls) d.calls T.vpes d fits.vpes_rise within (own_calls d.vpe d.calls)
    (λ e other. other_calls d.vpe e.vpe e.calls other)

-- the VPEs are those of the setup
abbrev declares : ℕ → ℕ → List Root → List Call → VpeDecl
declares v p rs cs = record { vpe = v; pe = p; roots = rs; calls = cs }

vpe_parts : (v w p q : ℕ) (rs ss : List Root) (cs es : List Call) → v ≡ w → p ≡ q → rs ≡ ss → cs ≡ es → declares v p rs cs ≡ declares w q ss es
vpe_parts v w p q rs ss cs es a b c d = rw (a, b, c, d) refl

vpe_from : (T : Setup) → IsSetup T → (d : VpeDecl) → IsVpeOf (said_by T) d → Contains T.vpes d
vpe_from T fits d of =
    let e = vpe_printed T fits d.vpe d.pe of.pe in
    let same : e.0 ≡ d = vpe_parts e.0.vpe d.vpe e.0.pe d.pe e.0.roots d.roots e.0.calls d.calls e.2 e.3
    (sym (roots_printed T fits e.0 e.1) ∙ (ap (roots_in (said_by T)) e.2 ∙ sym of.roots))
    (sym (calls_printed T fits e.0 e.1) ∙ (ap (calls_in (said_by T)) e.2 ∙ sym of.calls)) in
    subst (Contains T.vpes) same e.1

vpe_told : (T : Setup) → IsSetup T → (d : VpeDecl) → Contains T.vpes d → vpe_in (said_by T) d.vpe ≡ Some d
unfolding vpe_in
vpe_told T fits d within = rw (pe_printed T fits d within, roots_printed T fits d within, calls_printed T fits d within) refl

vpe_to : (T : Setup) → IsSetup T → (d : VpeDecl) → Contains T.vpes d → Contains (vpes_of (said_by T)) d
unfolding vpes_of numbers
vpe_to T fits d within =
    let small : d.vpe < VPES = node_small T.version d.vpe (All-contains (IsVpeDecl T) T.vpes d fits.vpes within).vpe in
    gives (vpe_in (said_by T)) (range_with_len 0 128) d.vpe d (range_has 0 128 d.vpe (omega arith) (omega arith)) (vpe_told T fits d within)

pub same_vpes : (T : Setup) → IsSetup T → T.vpes ≡ vpes_of (said_by T)
same_vpes T fits = sorted_same (λ (a b : VpeDecl). a.vpe < b.vpe) (λ x less. absurd (omega arith)) (λ x y less more. absurd (omega arith)) T.vpes
    (vpes_of (said_by T)) fits.vpes_rise (vpes_rise (said_by T))
    (vpe_to T fits) (λ z within. vpe_from T fits z (vpe_of (said_by T) z within))

-- the services
pub same_services : (T : Setup) → IsSetup T → T.services ≡ services_of T.vpes
same_services T fits =
    let v = same_vpes T fits in
    let iff = services_same T.version T.kernels (said_by T) (all_accepted T fits) in
    rw v (sorted_same (λ (a b : ServiceData). a.name < b.name) (λ x less. absurd (omega arith)) (λ x y less more. absurd (omega arith)) T.services
    (services_of (vpes_of (said_by T))) fits.services_rise (services_rise (vpes_of (said_by T)))
    (λ z within. (iff z).1 (subst (λ (vs : List VpeDecl). Contains (services_among vs) z) v ((fits.services z).0 within)))
    (λ z within. (fits.services z).1 (subst (λ (vs : List VpeDecl). Contains (services_among vs) z) (sym v) ((iff z).0 within))))

pub pair_self : (a : ℕ × ℕ) → ComesBefore a a → ⊥
pair_self a (inl less) = absurd (omega arith)
pair_self a (inr less) = let l : a.1 < a.1 = less.1 in absurd (omega arith)

pub pair_other : (a b : ℕ × ℕ) → ComesBefore a b → ComesBefore b a → ⊥
pair_other a b (inl less) (inl more) = absurd (omega arith)
pair_other a b (inl less) (inr more) = let e : b.0 ≡ a.0 = more.0 in absurd (omega arith)
pair_other a b (inr less) (inl more) = let e : a.0 ≡ b.0 = less.0 in absurd (omega arith)
pair_other a b (inr less) (inr more) = let l : a.1 < b.1 = less.1 in let m : b.1 < a.1 = more.1 in absurd (omega arith)

-- the offers
abbrev offers' : ℕ → ℕ → ℕ → OfferData
offers' n i s = record { name = n; index = i; sel = s }

offer_parts : (a b c d e f : ℕ) → a ≡ b → c ≡ d → e ≡ f → offers' a c e ≡ offers' b d f
offer_parts a b c d e f x y z = rw (x, y, z) refl

offer_said : (T : Setup) → IsSetup T → (n i s : ℕ) → offer_in (said_by T) n i ≡ Some s → Contains T.offers (offers' n i s)
unfolding offer_in
offer_said T fits n i s some =
    let f = first_found (said_offer n i) (said_by T) s some in
    let e : f.0 ≡ Offer n i s = offer_line n i f.0 s f.2 in
    let m = in_map offer_decl T.offers (Offer n i s) (in_section T fits (Offer n i s) 3 (subst (Contains (said_by T)) e f.1) refl) in
    let a : m.0.name ≡ n = ap offer_name m.2 in
    let b : m.0.index ≡ i = ap offer_index m.2 in
    let c : m.0.sel ≡ s = ap offer_sel m.2 in
    subst (Contains T.offers) (offer_parts m.0.name n m.0.index i m.0.sel s a b c) m.1

one_offer : (T : Setup) → IsSetup T → (a b : OfferData) → Contains T.offers a → Contains T.offers b → a.name ≡ b.name → a.index ≡ b.index → a ≡ b
one_offer T fits a b (i, lt, is) (j, lt', is') name index =
    elim (cases_order i j) [
      | inl e ↦ sym is ∙ (get_or_default T.offers i a b lt ∙ (ap (λ (k : ℕ). get_or T.offers k b) e ∙ is'))
      | inr order ↦ elim order [
        | inl less ↦
            let r = fits.offers_rise i j a less lt' in
            let x : offer_place (get_or T.offers i a) ≡ offer_place a = ap offer_place is in
            let y : offer_place (get_or T.offers j a) ≡ offer_place b = ap offer_place (get_or_default T.offers j a b lt' ∙ is') in
            absurd (pair_self (offer_place b) (subst (λ (p : ℕ × ℕ). ComesBefore p (offer_place b)) (x
            ∙ place_parts a.name b.name a.index b.index name index) (subst (λ (p : ℕ × ℕ). ComesBefore (offer_place (get_or T.offers i a)) p) y r)))
        | inr less ↦
            let r = fits.offers_rise j i a less lt in
            let x : offer_place (get_or T.offers i a) ≡ offer_place a = ap offer_place is in
            let y : offer_place (get_or T.offers j a) ≡ offer_place b = ap offer_place (get_or_default T.offers j a b lt' ∙ is') in
            absurd (pair_self (offer_place b)
            (subst (λ (p : ℕ × ℕ). ComesBefore p (offer_place b)) y (subst (λ (p : ℕ × ℕ). ComesBefore (offer_place (get_or T.offers j a)) p) (x
            ∙ place_parts a.name b.name a.index b.index name index) r)))
      ]
    ]

offer_told : (T : Setup) → IsSetup T → (o : OfferData) → Contains T.offers o → offer_in (said_by T) o.name o.index ≡ Some o.sel
unfolding offer_in
offer_told T fits o within =
    let some = first_there (said_offer o.name o.index) (said_by T) (offer_decl o) o.sel
    (has_section T (offer_decl o) 3 (omega arith) (map_has offer_decl T.offers o within)) (rw (same_both o.name o.index) refl) in
    let s = some_value (first_some (said_offer o.name o.index) (said_by T)) some in
    let same = one_offer T fits (offers' o.name o.index s.0) o (offer_said T fits o.name o.index s.0 s.1) within refl refl in
    s.1 ∙ ap (λ (x : OfferData). Some x.sel) same

pub offer_made : (ds : List Declaration) (o : OfferData) → offer_in ds o.name o.index ≡ Some o.sel → offer_of ds o.name o.index ≡ Some o
offer_made ds o told = rw told refl

offer_to : (T : Setup) → IsSetup T → (o : OfferData) → Contains T.offers o → Contains (offers_of (said_by T) T.services) o
unfolding offers_of numbers
offer_to T fits o within =
    let valid = All-contains (IsOffer T) T.offers o fits.offers within in
    let s : ServiceData = valid.declared.1 in
    let name : s.name ≡ o.name = valid.declared.4 in
    let small : o.index ≤ 255 = valid.index in
    let inside : Contains (filter_map (offer_of (said_by T) o.name) (range_with_len 0 256)) o =
    gives (offer_of (said_by T) o.name) (range_with_len 0 256) o.index o (range_has 0 256 o.index (omega arith) (omega arith))
    (offer_made (said_by T) o (offer_told T fits o within)) in
    joins (λ (x : ServiceData). filter_map (offer_of (said_by T) x.name) (range_with_len 0 256)) T.services s o (
      valid.declared.0,
      valid.declared.2,
      valid.declared.3,
    ) (subst (λ (n : ℕ). Contains (filter_map (offer_of (said_by T) n) (range_with_len 0 256)) o) (sym name) inside)

pub same_offers : (T : Setup) → IsSetup T → T.offers ≡ offers_of (said_by T) T.services
same_offers T fits =
    sorted_same (λ (a b : OfferData). ComesBefore (offer_place a) (offer_place b)) (λ x. pair_self (offer_place x))
    (λ x y. pair_other (offer_place x) (offer_place y)) T.offers (offers_of (said_by T) T.services) fits.offers_rise
    (offers_rise (said_by T) T.services fits.services_rise)
    (λ o within. offer_to T fits o within)
    (λ o within.
    let of = offer_of_setup (said_by T) T.services o within in
    offer_said T fits o.name o.index o.sel of.offered)

-- the denied pairs
deny_said : (T : Setup) → IsSetup T → (v w : ℕ) → is_denied (said_by T) v w ≡ true → Contains T.denies (v, w)
unfolding is_denied
deny_said T fits v w some =
    let f = any_found (says_deny v w) (said_by T) some in
    let e : f.0 ≡ Deny v w = deny_line v w f.0 f.2 in
    let m = in_map deny_decl T.denies (Deny v w) (in_section T fits (Deny v w) 4 (subst (Contains (said_by T)) e f.1) refl) in
    let a : m.0.0 ≡ v = ap deny_first m.2 in
    let b : m.0.1 ≡ w = ap deny_second m.2 in
    subst (Contains T.denies) (place_parts m.0.0 v m.0.1 w a b) m.1

deny_told : (T : Setup) → IsSetup T → (p : ℕ × ℕ) → Contains T.denies p → is_denied (said_by T) p.0 p.1 ≡ true
unfolding is_denied
deny_told T fits p within =
    any_there (says_deny p.0 p.1) (said_by T) (deny_decl p) (has_section T (deny_decl p) 4 (omega arith) (map_has deny_decl T.denies p within))
    (same_both p.0 p.1)

pub deny_made : (ds : List Declaration) (v w : ℕ) → is_denied ds v w ≡ true → deny_of ds v w ≡ Some (v, w)
deny_made ds v w told = rw told refl

pub deny_kept : (ds : List Declaration) (v w : ℕ) (p : ℕ × ℕ) → deny_of ds v w ≡ Some p → (is_denied ds v w ≡ true) × (v ≡ p.0) × (w ≡ p.1)
deny_kept ds v w p some =
    elim (cases_Bool (is_denied ds v w)) [
      | inl told ↦ let e : Some (pair v w) ≡ Some p = rw told at some in let s = same_Some (pair v w) p e in
          (told, ap (λ (q : ℕ × ℕ). q.0) s, ap (λ (q : ℕ × ℕ). q.1) s)
      | inr other ↦ let e : None ≡ Some p = rw other at some in absurd (none-some p e)
    ]

deny_to : (T : Setup) → IsSetup T → (p : ℕ × ℕ) → Contains T.denies p → Contains (denies_of (said_by T) T.vpes) p
unfolding denies_of
deny_to T fits p within =
    let both = All-contains (λ (d : ℕ × ℕ). IsDeclared T d.0 × IsDeclared T d.1) T.denies p fits.denies within in
    let d : VpeDecl = both.0.1 in
    let e : VpeDecl = both.1.1 in
    let first : d.vpe ≡ p.0 = both.0.4 in
    let second : e.vpe ≡ p.1 = both.1.4 in
    let made : deny_of (said_by T) d.vpe e.vpe ≡ Some p = ap (λ (v : ℕ). deny_of (said_by T) v e.vpe) first
    ∙ (ap (λ (w : ℕ). deny_of (said_by T) p.0 w) second ∙ deny_made (said_by T) p.0 p.1 (deny_told T fits p within)) in
    joins (λ (x : VpeDecl). filter_map (λ (y : VpeDecl). deny_of (said_by T) x.vpe y.vpe) T.vpes) T.vpes d p (both.0.0, both.0.2, both.0.3)
    (gives (λ (y : VpeDecl). deny_of (said_by T) d.vpe y.vpe) T.vpes e p (both.1.0, both.1.2, both.1.3) made)

deny_from : (T : Setup) → IsSetup T → (p : ℕ × ℕ) → Contains (denies_of (said_by T) T.vpes) p → Contains T.denies p
unfolding denies_of
deny_from T fits p within =
    let j = joined (λ (x : VpeDecl). filter_map (λ (y : VpeDecl). deny_of (said_by T) x.vpe y.vpe) T.vpes) T.vpes p within in
    let g = given (λ (y : VpeDecl). deny_of (said_by T) j.from.vpe y.vpe) T.vpes p j.has in
    let k = deny_kept (said_by T) j.from.vpe g.from.vpe p g.gives in
    subst (Contains T.denies) (place_parts j.from.vpe p.0 g.from.vpe p.1 k.1 k.2) (deny_said T fits j.from.vpe g.from.vpe k.0)

pub same_denies : (T : Setup) → IsSetup T → T.denies ≡ denies_of (said_by T) T.vpes
same_denies T fits = sorted_same ComesBefore pair_self pair_other T.denies (denies_of (said_by T) T.vpes) fits.denies_rise
    (denies_rise (said_by T) T.vpes fits.vpes_rise) (deny_to T fits) (deny_from T fits)

-- the kills
kill_said : (T : Setup) → IsSetup T → (v n : ℕ) → kill_in (said_by T) v ≡ Some n → Contains T.kills (v, n)
unfolding kill_in
kill_said T fits v n some =
    let f = first_found (said_kill v) (said_by T) n some in
    let e : f.0 ≡ Kill v n = kill_line v f.0 n f.2 in
    let m = in_map kill_decl T.kills (Kill v n) (in_section T fits (Kill v n) 5 (subst (Contains (said_by T)) e f.1) refl) in
    let a : m.0.0 ≡ v = ap kill_vpe m.2 in
    let b : m.0.1 ≡ n = ap kill_after m.2 in
    subst (Contains T.kills) (place_parts m.0.0 v m.0.1 n a b) m.1

one_kill : (T : Setup) → IsSetup T → (a b : ℕ × ℕ) → Contains T.kills a → Contains T.kills b → a.0 ≡ b.0 → a ≡ b
one_kill T fits a b (i, lt, is) (j, lt', is') same =
    elim (cases_order i j) [
      | inl e ↦ sym is ∙ (get_or_default T.kills i a b lt ∙ (ap (λ (k : ℕ). get_or T.kills k b) e ∙ is'))
      | inr order ↦ elim order [
        | inl less ↦
            let r = fits.kills_rise i j a less lt' in
            let x : (get_or T.kills i a).0 ≡ a.0 = ap (λ (y : ℕ × ℕ). y.0) is in
            let y : (get_or T.kills j a).0 ≡ b.0 = ap (λ (z : ℕ × ℕ). z.0) (get_or_default T.kills j a b lt' ∙ is') in
            absurd (omega arith)
        | inr less ↦
            let r = fits.kills_rise j i a less lt in
            let x : (get_or T.kills i a).0 ≡ a.0 = ap (λ (y : ℕ × ℕ). y.0) is in
            let y : (get_or T.kills j a).0 ≡ b.0 = ap (λ (z : ℕ × ℕ). z.0) (get_or_default T.kills j a b lt' ∙ is') in
            absurd (omega arith)
      ]
    ]

kill_told : (T : Setup) → IsSetup T → (p : ℕ × ℕ) → Contains T.kills p → kill_in (said_by T) p.0 ≡ Some p.1
unfolding kill_in
kill_told T fits p within =
    let some = first_there (said_kill p.0) (said_by T) (kill_decl p) p.1 (has_section T (kill_decl p) 5 (omega arith) (map_has kill_decl T.kills p within))
    (same_if p.0 _ _) in
    let s = some_value (first_some (said_kill p.0) (said_by T)) some in
    let same = one_kill T fits (p.0, s.0) p (kill_said T fits p.0 s.0 s.1) within refl in
    s.1 ∙ ap (λ (x : ℕ × ℕ). Some x.1) same

kill_made : (ds : List Declaration) (v n : ℕ) → kill_in ds v ≡ Some n → option_map (λ (replies : ℕ). pair v replies) (kill_in ds v) ≡ Some (pair v n)
kill_made ds v n told = rw told refl

kill_to : (T : Setup) → IsSetup T → (p : ℕ × ℕ) → Contains T.kills p → Contains (kills_of (said_by T) T.vpes) p
unfolding kills_of
kill_to T fits p within =
    let both = All-contains (λ (k : ℕ × ℕ). IsDeclared T k.0 × IsWord k.1) T.kills p fits.kills within in
    let d : VpeDecl = both.0.1 in
    let first : d.vpe ≡ p.0 = both.0.4 in
    let made : option_map (λ (replies : ℕ). pair d.vpe replies) (kill_in (said_by T) d.vpe) ≡ Some p =
    ap (λ (v : ℕ). option_map (λ (replies : ℕ). pair v replies) (kill_in (said_by T) v)) first ∙ kill_made (said_by T) p.0 p.1 (kill_told T fits p within) in
    gives (λ (x : VpeDecl). option_map (λ (replies : ℕ). (x.vpe, replies)) (kill_in (said_by T) x.vpe)) T.vpes d p (both.0.0, both.0.2, both.0.3) made

kill_from : (T : Setup) → IsSetup T → (p : ℕ × ℕ) → Contains (kills_of (said_by T) T.vpes) p → Contains T.kills p
kill_from T fits p within =
    let of = kill_of_setup (said_by T) T.vpes p within in
    kill_said T fits p.0 p.1 (ap (kill_in (said_by T)) (sym of.is) ∙ of.killed)

pub same_kills : (T : Setup) → IsSetup T → T.kills ≡ kills_of (said_by T) T.vpes
same_kills T fits = sorted_same (λ (a b : ℕ × ℕ). a.0 < b.0) (λ x less. absurd (omega arith)) (λ x y less more. absurd (omega arith)) T.kills
    (kills_of (said_by T) T.vpes) fits.kills_rise (kills_rise (said_by T) T.vpes fits.vpes_rise) (kill_to T fits) (kill_from T fits)

-- the window
window_line : (e : Declaration) (n : ℕ) → said_window e ≡ Some n → e ≡ Window n
window_line (Window w) n some = ap Window (same_Some w n some)
window_line e n some = absurd (none-some n some)

abbrev window_number : Declaration → ℕ
window_number (Window w) = w
window_number e = 0

not_pe : (w p k : ℕ) → Window w ≡ Pe p k → ⊥
not_pe w p k same = true≢false (ap is_window same)

-- a line that tells it is that of the setup
window_said : (T : Setup) → IsSetup T → (n : ℕ) → window_in (said_by T) ≡ Some n → n ≡ T.window
unfolding window_in
window_said T fits n some =
    let f = first_found said_window (said_by T) n some in
    let e : f.0 ≡ Window n = window_line f.0 n f.2 in
    elim (in_first T (Window n) (in_section T fits (Window n) 0 (subst (Contains (said_by T)) e f.1) refl)) [
      | inl window ↦ ap window_number window
      | inr pe ↦ absurd (not_pe n pe.0 pe.1 pe.2)
    ]

-- there is one in version 2
window_there : (T : Setup) → (T.version == 1) ≡ false → IsSome (window_in (said_by T))
unfolding window_in
window_there T two =
    let here' : Contains (window_decls T) (Window T.window) = rw two (here (Window T.window) []) in
    first_there said_window (said_by T) (Window T.window) T.window
    (has_section T (Window T.window) 0 (omega arith) (Contains-append_left (window_decls T) (all_pes T) (Window T.window) here')) refl

window_told : (T : Setup) (o : Option ℕ) → (IsSome o → T.window ≡ option_map_or (λ n. n) o LINK_WINDOW) → (o ≡ None → T.window ≡ LINK_WINDOW) →
    T.window ≡ option_map_or (λ n. n) o LINK_WINDOW
window_told T (Some n) some none = some refl
window_told T None some none = none refl

-- in version 1 it is 4
window_first : (T : Setup) → IsSetup T → (T.version == 1) ≡ true → T.window ≡ LINK_WINDOW
window_first T fits one =
    let low : least_window T.version ≤ T.window = fits.windowed.0 in
    let high : T.window ≤ most_window T.version = fits.windowed.1 in
    let least : least_window T.version ≡ 4 = rw one refl in
    let most : most_window T.version ≡ 4 = rw one refl in
    omega arith

pub same_window : (T : Setup) → IsSetup T → T.window ≡ window_of (said_by T)
same_window T fits =
    window_told T (window_in (said_by T))
    (λ some.
    let n = some_value (window_in (said_by T)) some in
    rw n.1 (sym (window_said T fits n.0 n.1)))
    (λ none.
    elim (cases_Bool (T.version == 1)) [
      | inl one ↦ window_first T fits one
      | inr two ↦ absurd (true≢false (sym (window_there T two) ∙ ap (λ (o : Option ℕ). is_some o) none))
    ])

-- the setup is what its lines declare
pub same_whole : (T : Setup) → IsSetup T → T ≡ setup_of T.version T.kernels (said_by T)
same_whole T fits =
    same_setup T.version T.kernels T.kernels T.window (said_by T) T.owners T.vpes T.services T.offers T.denies T.kills
    (same_window T fits) fits.membership.all_pes fits.same_kernels
    (λ p. owners_printed T fits p (owner_in (said_by T) p) refl)
    (sym fits.same_kernels) (same_vpes T fits) (same_services T fits) (same_offers T fits) (same_denies T fits) (same_kills T fits)
