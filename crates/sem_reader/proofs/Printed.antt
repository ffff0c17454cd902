-- What a printed setup says is accepted, line by line.
use Rattle.std.proofs.Common.{◌≡◌, ◌≢◌, ℕ, zero, suc, ◌+◌, ◌<◌, ◌≤◌, ◌==◌, Bool, true, false, cond, not, true≢false, ◌&&◌, ◌||◌, List, [], ◌∷◌, ◌++◌, length}
use Rattle.std.proofs.Common.{map, Option, Some, None, refl, ap, sym, ◌∙◌, subst, arith, inl, inr, eqb-true, eq-eqb, le-ltb}
use Rattle.std.specs.List.{AllPairs, Contains, filter_map, flat_map, list_any, range_with_len, slice_get, sum_by}
use Rattle.std.specs.Option.{option_or, is_some, IsSome}
use Rattle.std.proofs.lemmas.Bool.{cases_Bool, false_from_ne_true, lt-leb}
use Rattle.std.proofs.lemmas.Option.{none-some, same_Some}
use Rattle.std.proofs.lemmas.List.Elements.{All-contains, Contains-append_right, Contains-append_cases}
use Rattle.std.proofs.lemmas.List.Sums.{sum_by-cons, sum_by-append}
use Rattle.sem_key.specs.declared.object.Object.{Object}
use Rattle.sem_key.specs.declared.object.Object.TheVariants.{Mem, Recv, Send, Serv, Sess}
use Rattle.sem_key.specs.ObjectRanges.{IsValidObject}
use Rattle.sem_key.specs.MembershipTable.{owner_at}
use Rattle.sem_msg.specs.declared.call.Call.{Call}
use Rattle.sem_msg.specs.declared.setup.Root.{Root}
use Rattle.sem_msg.specs.declared.setup.Service.{Service as ServiceData}
use Rattle.sem_msg.specs.declared.setup.Offer.{Offer as OfferData}
use Rattle.sem_msg.specs.declared.setup.VpeDecl.{VpeDecl}
use Rattle.sem_msg.specs.Calls.{IsValidCall, IsWord}
use Rattle.sem_msg.specs.Setup.{Setup, IsSetup, IsRoot, IsVpeDecl, IsOffer, IsDeclared, services_from, call_count}
use Rattle.sem_msg.specs.Versions.{most_vpes}
use Rattle.sem_trace.specs.declared.declaration.Declaration.{Declaration}
use Rattle.sem_trace.specs.declared.declaration.Declaration.TheVariants.{Kernels, Window, Pe, Vpe, Memory, Receive, Service, Offer, Deny, Kill, Call as Calls}
use Rattle.sem_trace.specs.declared.declaration.Declaration.TheVariants.{End}
use Rattle.sem_trace.specs.Earlier.{first_some, said_window, window_in, said_owner, owner_in, said_pe, pe_in, says_on, is_pe_taken, said_root, roots_in, holds_at}
use Rattle.sem_trace.specs.Earlier.{says_service, has_service, said_offer, offer_in, says_deny, is_denied, said_kill, kill_in, is_call_line, call_number}
use Rattle.sem_trace.specs.Context.{context_fault, is_too_long, is_undeclared, is_twice, is_call_too_many}
use Rattle.sem_trace.specs.Ranges.{IsNode, IsInRange}
use Rattle.sem_reader.specs.Accepted.{AreAccepted}
use Rattle.sem_reader.proofs.Enumerated.{in_cons, in_nil, here, there, pairs_head, pairs_tail, given, joined, joins}
use Rattle.sem_reader.proofs.PrintedLines.{IsSaid}
use Rattle.sem_reader.proofs.Sections.{ranked, root_says, root_decl, vpe_decl, offer_decl, deny_decl, kill_decl, section, said_by, rank, in_map, map_has}
use Rattle.sem_reader.proofs.Sections.{window_decls, all_pes, in_pes, has_pe, in_roots, has_section}
use Rattle.sem_reader.proofs.SetupIs.{service_of_root}
use Rattle.sem_reader.proofs.Precedes.{Differ, Precedes, in_order}

-- the first that is told, or none
pub first_none : {X Y : Type 0} (h : X → Option Y) (xs : List X) → ((x : X) → Contains xs x → h x ≡ None) → first_some h xs ≡ None
first_none h [] none = refl
first_none h (x ∷ xs) none = rw (none x (here x xs)) (first_none h xs (λ y within. none y (there x xs y within)))

some_option : {Y : Type 0} (o p : Option Y) (y : Y) → o ≡ Some y → IsSome (option_or o p)
some_option None p y is = absurd (none-some y is)
some_option (Some x) p y is = refl

or_some : {Y : Type 0} (o p : Option Y) → IsSome p → IsSome (option_or o p)
or_some None p some = some
or_some (Some x) p some = refl

pub first_there : {X Y : Type 0} (h : X → Option Y) (xs : List X) (x : X) (y : Y) → Contains xs x → h x ≡ Some y → IsSome (first_some h xs)
first_there h [] x y within is = absurd (in_nil x within)
first_there h (z ∷ zs) x y within is =
    elim (in_cons z zs x within) [
      | inl same ↦ some_option (h z) (first_some h zs) y (ap h same ∙ is)
      | inr rest ↦ or_some (h z) (first_some h zs) (first_there h zs x y rest is)
    ]

pub any_none : {X : Type 0} (p : X → Bool) (xs : List X) → ((x : X) → Contains xs x → p x ≡ true → ⊥) → list_any p xs ≡ false
any_none p [] none = refl
any_none p (x ∷ xs) none = rw (false_from_ne_true (p x) (none x (here x xs)), any_none p xs (λ y within. none y (there x xs y within))) refl

or_true_right : (b : Bool) → (b || true) ≡ true
or_true_right true = refl
or_true_right false = refl

pub any_there : {X : Type 0} (p : X → Bool) (xs : List X) (x : X) → Contains xs x → p x ≡ true → list_any p xs ≡ true
any_there p [] x within is = absurd (in_nil x within)
any_there p (z ∷ zs) x within is =
    elim (in_cons z zs x within) [
      | inl same ↦ rw (ap p same ∙ is) refl
      | inr rest ↦ rw (any_there p zs x rest is) (or_true_right (p z))
    ]

-- where an option that is told at each element is told for none
none_from : {Y : Type 0} (o : Option Y) → ((y : Y) → o ≡ Some y → ⊥) → o ≡ None
none_from None never = refl
none_from (Some y) never = absurd (never y refl)

not_some : {Y : Type 0} (o : Option Y) → o ≡ None → is_some o ≡ false
not_some o none = rw none refl

some_not_none : {Y : Type 0} (o : Option Y) → IsSome o → not (is_some o) ≡ false
some_not_none o some = rw some refl

same_if : {X : Type 0} (n : ℕ) (x y : X) → cond (n == n) x y ≡ x
same_if n x y = rw (eq-eqb n n refl) refl

same_both : (m n : ℕ) → ((m == m) && (n == n)) ≡ true
same_both m n = rw (eq-eqb m m refl, eq-eqb n n refl) refl

or_false_both : (a b : Bool) → a ≡ false → b ≡ false → (a || b) ≡ false
or_false_both a b x y = rw (x, y) refl

-- what the lines before do not say
AreOther : List Declaration → Declaration → Type 0
AreOther before d = (e : Declaration) → Contains before e → Differ e d

no_window : (before : List Declaration) (w : ℕ) → ((e : Declaration) → Contains before e → Differ e (Window w)) → window_in before ≡ None
unfolding window_in
no_window before w other = first_none said_window before (λ e within. none_from (said_window e) (λ n some. (other e within).window n w some refl))

no_owner : (before : List Declaration) (p k : ℕ) → ((e : Declaration) → Contains before e → Differ e (Pe p k)) → owner_in before p ≡ None
unfolding owner_in
no_owner before p k other = first_none (said_owner p) before (λ e within. none_from (said_owner p e) (λ j some. (other e within).pe p j k some (same_if p _ _)))

no_vpe : (before : List Declaration) (v p : ℕ) → ((e : Declaration) → Contains before e → Differ e (Vpe v p)) → pe_in before v ≡ None
unfolding pe_in
no_vpe before v p other = first_none (said_pe v) before (λ e within. none_from (said_pe v e) (λ q some. (other e within).vpe v q p some (same_if v _ _)))

not_taken : (before : List Declaration) (v p : ℕ) → ((e : Declaration) → Contains before e → Differ e (Vpe v p)) → is_pe_taken before p ≡ false
unfolding is_pe_taken
not_taken before v p other = any_none (says_on p) before (λ e within some. (other e within).on p some (eq-eqb p p refl))

not_held : (before : List Declaration) (d : Declaration) (v : ℕ) (r : Root) → said_root v d ≡ Some r → ((e : Declaration) → Contains before e → Differ e d) →
    holds_at (roots_in before v) r.sel ≡ false
unfolding roots_in
not_held before d v r says other = any_none (λ (s : Root). s.sel == r.sel) (filter_map (said_root v) before) (λ s within same.
    let g = given (said_root v) before s within in
    (other g.from g.within).root v s r g.gives says (eqb-true s.sel r.sel same))

not_served : (before : List Declaration) (v s n : ℕ) → ((e : Declaration) → Contains before e → Differ e (Service v s n)) → has_service before n ≡ false
unfolding has_service
not_served before v s n other = any_none (says_service n) before (λ e within some. (other e within).service n some (eq-eqb n n refl))

not_offered : (before : List Declaration) (n i s : ℕ) → ((e : Declaration) → Contains before e → Differ e (Offer n i s)) → offer_in before n i ≡ None
unfolding offer_in
not_offered before n i s other =
    first_none (said_offer n i) before (λ e within. none_from (said_offer n i e) (λ t some. (other e within).offer n i t s some (rw (same_both n i) refl)))

not_denied : (before : List Declaration) (v w : ℕ) → ((e : Declaration) → Contains before e → Differ e (Deny v w)) → is_denied before v w ≡ false
unfolding is_denied
not_denied before v w other = any_none (says_deny v w) before (λ e within some. (other e within).deny v w some (same_both v w))

not_killed : (before : List Declaration) (v n : ℕ) → ((e : Declaration) → Contains before e → Differ e (Kill v n)) → kill_in before v ≡ None
unfolding kill_in
not_killed before v n other =
    first_none (said_kill v) before (λ e within. none_from (said_kill v e) (λ m some. (other e within).kill v m n some (same_if v _ _)))

-- so no line comes twice
not_twice : (T : Setup) (before : List Declaration) (d : Declaration) → IsSaid T.version d → ((e : Declaration) → Contains before e → Differ e d) →
    is_twice before d ≡ false
not_twice T before (Kernels n) said other = absurd said
not_twice T before (Window w) said other = not_some _ (no_window before w other)
not_twice T before (Pe p k) said other = not_some _ (no_owner before p k other)
not_twice T before (Vpe v p) said other = or_false_both _ _ (not_some _ (no_vpe before v p other)) (not_taken before v p other)
not_twice T before (Memory v s b l g) said other = not_held before (Memory v s b l g) v (record { sel = s; object = Mem b l g }) (same_if v _ _) other
not_twice T before (Receive v s n) said other = not_held before (Receive v s n) v (record { sel = s; object = Recv n }) (same_if v _ _) other
not_twice T before (Service v s n) said other =
    or_false_both _ _ (not_held before (Service v s n) v (record { sel = s; object = Serv n }) (same_if v _ _) other) (not_served before v s n other)
not_twice T before (Offer n i s) said other = not_some _ (not_offered before n i s other)
not_twice T before (Deny v w) said other = not_denied before v w other
not_twice T before (Kill v n) said other = not_some _ (not_killed before v n other)
not_twice T before (Calls v c) said other = refl
not_twice T before End said other = refl

-- what lines before declare
has_owner : (before : List Declaration) (p k : ℕ) → Contains before (Pe p k) → not (is_some (owner_in before p)) ≡ false
unfolding owner_in
has_owner before p k within = some_not_none _ (first_there (said_owner p) before (Pe p k) k within (same_if p _ _))

has_vpe : (before : List Declaration) (v p : ℕ) → Contains before (Vpe v p) → not (is_some (pe_in before v)) ≡ false
unfolding pe_in
has_vpe before v p within = some_not_none _ (first_there (said_pe v) before (Vpe v p) p within (same_if v _ _))

has_name : (before : List Declaration) (v s n : ℕ) → Contains before (Service v s n) → not (has_service before n) ≡ false
unfolding has_service
has_name before v s n within = rw (any_there (says_service n) before (Service v s n) within (eq-eqb n n refl)) refl

-- in a list with an order, what is of lower rank stands before
pub pairs_middle : {X : Type 0} (R : X → X → Type 0) (before after : List X) (x y : X) → AllPairs R (before ++ x ∷ after) → Contains before y → R y x
pairs_middle R [] after x y pairs within = absurd (in_nil y within)
pairs_middle R (z ∷ before) after x y pairs within =
    elim (in_cons z before y within) [
      | inl same ↦ subst (λ w. R w x) same (All-contains (R z) (before ++ x ∷ after) x (pairs_head R z (before ++ x ∷ after) pairs)
          (Contains-append_right before (x ∷ after) x (here x after)))
      | inr rest ↦ pairs_middle R before after x y (pairs_tail R z (before ++ x ∷ after) pairs) rest
    ]

pairs_after : {X : Type 0} (R : X → X → Type 0) (before after : List X) (x y : X) → AllPairs R (before ++ x ∷ after) → Contains after y → R x y
pairs_after R [] after x y pairs within = All-contains (R x) after y (pairs_head R x after pairs) within
pairs_after R (z ∷ before) after x y pairs within = pairs_after R before after x y (pairs_tail R z (before ++ x ∷ after) pairs) within

earlier : (before after : List Declaration) (d e : Declaration) → AllPairs Precedes (before ++ d ∷ after) → Contains (before ++ d ∷ after) e → rank e < rank d →
    Contains before e
earlier before after d e order within lower =
    elim (Contains-append_cases before (d ∷ after) e within) [
      | inl found ↦ found
      | inr rest ↦ elim (in_cons d after e rest) [
        | inl same ↦ let r : rank d ≡ rank e = ap rank same in absurd (omega arith)
        | inr later ↦ let r : rank d ≤ rank e = (pairs_after Precedes before after d e order later).order in absurd (omega arith)
      ]
    ]

-- a VPE of the setup has its line
has_line : (T : Setup) (v : ℕ) → IsDeclared T v → (p : ℕ) × Contains (said_by T) (Vpe v p)
has_line T v (k, d, lt, at, is) =
    (d.pe, subst (λ (w : ℕ). Contains (said_by T) (Vpe w d.pe)) is (has_section T (vpe_decl d) 1 (omega arith) (map_has vpe_decl T.vpes d (k, lt, at))))

is_declared : (T : Setup) (d : VpeDecl) → Contains T.vpes d → IsDeclared T d.vpe
is_declared T d (k, lt, at) = (k, d, lt, at, refl)

-- what holds of a line of the setup
pub record IsPrinted (T : Setup) (d : Declaration) : Type 0 where
  pub said : IsSaid T.version d
  pub ranges : IsInRange T.version T.kernels d
  pub short : is_too_long d ≡ false
  pub needs : (before : List Declaration) → ((e : Declaration) → Contains (said_by T) e → rank e < rank d → Contains before e) → is_undeclared before d ≡ false

some_value : (o : Option ℕ) → IsSome o → (k : ℕ) × (o ≡ Some k)
some_value None some = absurd (true≢false (sym some))
some_value (Some k) some = (k, refl)

printed_window : (T : Setup) → IsSetup T → (d : Declaration) → Contains (window_decls T) d → IsPrinted T d
printed_window T fits d within =
    elim (cases_Bool (T.version == 1)) [
      | inl one ↦ absurd (in_nil d (rw one at within))
      | inr other ↦ elim (in_cons (Window T.window) [] d (rw other at within)) [
        | inl is ↦ subst (IsPrinted T) is (record { said = other; ranges = fits.windowed; short = refl; needs = λ before there'. refl })
        | inr none ↦ absurd (in_nil d none)
      ]
    ]

printed_pe : (T : Setup) → IsSetup T → (p k : ℕ) → owner_at T.owners p ≡ Some k → IsPrinted T (Pe p k)
printed_pe T fits p k owned =
    let below : k < T.owners.kernels = fits.membership.owners_exist p k owned in
    record { said = tt; ranges = (fits.owned_pes p (rw owned refl), rw fits.same_kernels at below); short = refl; needs = λ before there'. refl }

printed_vpe : (T : Setup) → IsSetup T → (d : VpeDecl) → Contains T.vpes d → IsPrinted T (vpe_decl d)
printed_vpe T fits d within =
    let v = All-contains (IsVpeDecl T) T.vpes d fits.vpes within in
    let k = some_value (owner_at T.owners d.pe) v.owned in
    record {
      said = tt;
      ranges = (v.vpe, v.pe);
      short = refl;
      needs = λ before there'. has_owner before d.pe k.0 (there' (Pe d.pe k.0) (has_section T (Pe d.pe k.0) 0 (omega arith) (has_pe T d.pe k.0 k.1))
          (omega arith));
    }

printed_root : (T : Setup) → IsSetup T → (v s : ℕ) (o : Object) → IsNode T.version v → IsDeclared T v → IsRoot (record { sel = s; object = o }) →
    IsPrinted T (root_says v s o)
printed_root T fits v s (Mem b l g) small declared valid =
    let line = has_line T v declared in
    let r = valid.ranges in
    record {
      said = tt;
      ranges = (small, valid.selector, r.0, r.1, r.2);
      short = le-ltb 4294967296 (b + l) r.3;
      needs = λ before there'. has_vpe before v line.0 (there' (Vpe v line.0) line.1 (omega arith));
    }
printed_root T fits v s (Recv n) small declared valid =
    let line = has_line T v declared in
    record {
      said = tt;
      ranges = (small, valid.selector, valid.ranges.0, valid.ranges.1);
      short = refl;
      needs = λ before there'. has_vpe before v line.0 (there' (Vpe v line.0) line.1 (omega arith));
    }
printed_root T fits v s (Serv n) small declared valid =
    let line = has_line T v declared in
    record {
      said = tt;
      ranges = (small, valid.selector, valid.ranges);
      short = refl;
      needs = λ before there'. has_vpe before v line.0 (there' (Vpe v line.0) line.1 (omega arith));
    }
printed_root T fits v s (Send g l c) small declared valid = absurd valid.kind
printed_root T fits v s (Sess k i) small declared valid = absurd valid.kind

pub get_contains : {X : Type 0} (xs : List X) (i : ℕ) (x : X) → slice_get xs i ≡ Some x → Contains xs x
get_contains [] i x some = absurd (none-some x some)
get_contains (y ∷ ys) zero x some = subst (Contains (y ∷ ys)) (same_Some y x some) (here y ys)
get_contains (y ∷ ys) (suc i) x some = there y ys x (get_contains ys i x some)

-- a service of the setup has its line
service_line : (T : Setup) → IsSetup T → (s : ServiceData) → Contains T.services s → (v t : ℕ) × Contains (said_by T) (Service v t s.name) × (s.name ≤ 255)
service_line T fits s within =
    let j = joined (λ (d : VpeDecl). services_from d 0 d.roots) T.vpes s ((fits.services s).0 within) in
    let o = service_of_root j.from 0 j.from.roots s j.has in
    let v = All-contains (IsVpeDecl T) T.vpes j.from fits.vpes j.within in
    let held : Contains j.from.roots o.root = get_contains j.from.roots o.place o.root o.at in
    let valid = All-contains IsRoot j.from.roots o.root v.roots held in
    let line : Contains (said_by T) (root_decl j.from.vpe o.root) =
    has_section T _ 2 (omega arith) (joins (λ (d : VpeDecl). map (root_decl d.vpe) d.roots) T.vpes j.from (root_decl j.from.vpe o.root) j.within
    (map_has (root_decl j.from.vpe) j.from.roots o.root held)) in (
      j.from.vpe,
      o.root.sel,
      subst (λ (x : Object). Contains (said_by T) (root_says j.from.vpe o.root.sel x)) o.serves line,
      subst IsValidObject o.serves valid.ranges,
    )

printed_offer : (T : Setup) → IsSetup T → (o : OfferData) → IsOffer T o → IsPrinted T (offer_decl o)
printed_offer T fits o valid =
    let s : ServiceData = valid.declared.1 in
    let line = service_line T fits s (valid.declared.0, valid.declared.2, valid.declared.3) in
    let name : s.name ≡ o.name = valid.declared.4 in
    let small : s.name ≤ 255 = line.3 in
    let at : Contains (said_by T) (Service line.0 line.1 o.name) = subst (λ (n : ℕ). Contains (said_by T) (Service line.0 line.1 n)) name line.2 in
    record {
      said = tt;
      ranges = (omega arith, valid.index, valid.selector);
      short = refl;
      needs = λ before there'. has_name before line.0 line.1 o.name (there' (Service line.0 line.1 o.name) at (omega arith));
    }

declared_small : (T : Setup) → IsSetup T → (v : ℕ) → IsDeclared T v → IsNode T.version v
declared_small T fits v (k, d, lt, at, is) = subst (IsNode T.version) is (All-contains (IsVpeDecl T) T.vpes d fits.vpes (k, lt, at)).vpe

printed_deny : (T : Setup) → IsSetup T → (p : ℕ × ℕ) → IsDeclared T p.0 × IsDeclared T p.1 → IsPrinted T (deny_decl p)
printed_deny T fits p declared =
    let first = has_line T p.0 declared.0 in
    let second = has_line T p.1 declared.1 in
    record {
      said = tt;
      ranges = (declared_small T fits p.0 declared.0, declared_small T fits p.1 declared.1);
      short = refl;
      needs = λ before there'. or_false_both _ _ (has_vpe before p.0 first.0 (there' (Vpe p.0 first.0) first.1 (omega arith)))
          (has_vpe before p.1 second.0 (there' (Vpe p.1 second.0) second.1 (omega arith)));
    }

printed_kill : (T : Setup) → IsSetup T → (p : ℕ × ℕ) → IsDeclared T p.0 × IsWord p.1 → IsPrinted T (kill_decl p)
printed_kill T fits p declared =
    let first = has_line T p.0 declared.0 in
    record {
      said = tt;
      ranges = (declared_small T fits p.0 declared.0, declared.1);
      short = refl;
      needs = λ before there'. has_vpe before p.0 first.0 (there' (Vpe p.0 first.0) first.1 (omega arith));
    }

printed_call : (T : Setup) → IsSetup T → (d : VpeDecl) (c : Call) → Contains T.vpes d → Contains d.calls c → IsPrinted T (Calls d.vpe c)
printed_call T fits d c within held =
    let v = All-contains (IsVpeDecl T) T.vpes d fits.vpes within in
    let line = has_line T d.vpe (is_declared T d within) in
    record {
      said = tt;
      ranges = (v.vpe, All-contains (IsValidCall (most_vpes T.version)) d.calls c v.calls held);
      short = refl;
      needs = λ before there'. has_vpe before d.vpe line.0 (there' (Vpe d.vpe line.0) line.1 (omega arith));
    }

printed_end : (T : Setup) → IsPrinted T End
printed_end T = record { said = tt; ranges = tt; short = refl; needs = λ before there'. refl }

in_one_section : (T : Setup) → IsSetup T → (k : ℕ) (d : Declaration) → Contains (section T k) d → IsPrinted T d
in_one_section T fits zero d within =
    elim (Contains-append_cases (window_decls T) (all_pes T) d within) [
      | inl window ↦ printed_window T fits d window
      | inr pe ↦ let p = in_pes T d pe in rw p.2 (printed_pe T fits p.0 p.1 p.3)
    ]
in_one_section T fits (suc zero) d within = let m = in_map vpe_decl T.vpes d within in subst (IsPrinted T) m.2 (printed_vpe T fits m.0 m.1)
in_one_section T fits (suc (suc zero)) d within =
    let r = in_roots T fits d within in
    let v = All-contains (IsVpeDecl T) T.vpes r.vpe fits.vpes r.declared in
    subst (IsPrinted T) r.is (printed_root T fits r.vpe.vpe r.root.sel r.root.object v.vpe (is_declared T r.vpe r.declared) r.valid)
in_one_section T fits (suc (suc (suc zero))) d within = let m = in_map offer_decl T.offers d within in
    subst (IsPrinted T) m.2 (printed_offer T fits m.0 (All-contains (IsOffer T) T.offers m.0 fits.offers m.1))
in_one_section T fits (suc (suc (suc (suc zero)))) d within = let m = in_map deny_decl T.denies d within in
    subst (IsPrinted T) m.2 (printed_deny T fits m.0 (All-contains (λ (p : ℕ × ℕ). IsDeclared T p.0 × IsDeclared T p.1) T.denies m.0 fits.denies m.1))
in_one_section T fits (suc (suc (suc (suc (suc zero))))) d within = let m = in_map kill_decl T.kills d within in
    subst (IsPrinted T) m.2 (printed_kill T fits m.0 (All-contains (λ (p : ℕ × ℕ). IsDeclared T p.0 × IsWord p.1) T.kills m.0 fits.kills m.1))
in_one_section T fits (suc (suc (suc (suc (suc (suc zero)))))) d within =
    let j = joined (λ (e : VpeDecl). map (Calls e.vpe) e.calls) T.vpes d within in
    let m = in_map (Calls j.from.vpe) j.from.calls d j.has in
    subst (IsPrinted T) m.2 (printed_call T fits j.from m.0 j.within m.1)
in_one_section T fits (suc (suc (suc (suc (suc (suc (suc k))))))) d within =
    elim (in_cons End [] d within) [
      | inl is ↦ subst (IsPrinted T) is (printed_end T)
      | inr none ↦ absurd (in_nil d none)
    ]

pub printed : (T : Setup) → IsSetup T → (d : Declaration) → Contains (said_by T) d → IsPrinted T d
unfolding said_by
printed T fits d within = let j = joined (section T) (range_with_len 0 8) d within in in_one_section T fits j.from d j.has

-- how many calls there are
abbrev weight : Declaration → ℕ
weight e = cond (is_call_line e) 1 0

no_call : (e : Declaration) → rank e ≢ 6 → weight e ≡ 0
no_call (Calls v c) other = absurd (other refl)
no_call e other = refl

no_calls : (xs : List Declaration) → ((e : Declaration) → Contains xs e → rank e ≢ 6) → sum_by weight xs ≡ 0
no_calls [] other = refl
no_calls (x ∷ xs) other = rw (sum_by-cons weight x xs, no_call x (other x (here x xs)), no_calls xs (λ e within. other e (there x xs e within))) (omega arith)

calls_of_vpe : (v : ℕ) (cs : List Call) → sum_by weight (map (Calls v) cs) ≡ length cs
calls_of_vpe v [] = refl
calls_of_vpe v (c ∷ cs) = rw (sum_by-cons weight (Calls v c) (map (Calls v) cs), calls_of_vpe v cs) (omega arith)

calls_of_vpes : (vpes : List VpeDecl) → sum_by weight (flat_map (λ d. map (Calls d.vpe) d.calls) vpes) ≡ sum_by (λ (d : VpeDecl). length d.calls) vpes
calls_of_vpes [] = refl
calls_of_vpes (d ∷ ds) = rw (
  sum_by-append weight (map (Calls d.vpe) d.calls) (flat_map (λ (x : VpeDecl). map (Calls x.vpe) x.calls) ds),
  calls_of_vpe d.vpe d.calls,
  calls_of_vpes ds,
  sum_by-cons (λ (x : VpeDecl). length x.calls) d ds,
) refl

few_calls : (T : Setup) → IsSetup T → call_number (said_by T) ≤ 20000
unfolding said_by call_number
few_calls T fits =
    let a = no_calls (section T 0) (λ e within same. let r = ranked T fits 0 (omega arith) e within in absurd (omega arith)) in
    let b = no_calls (section T 1) (λ e within same. let r = ranked T fits 1 (omega arith) e within in absurd (omega arith)) in
    let c = no_calls (section T 2) (λ e within same. let r = ranked T fits 2 (omega arith) e within in absurd (omega arith)) in
    let d = no_calls (section T 3) (λ e within same. let r = ranked T fits 3 (omega arith) e within in absurd (omega arith)) in
    let g = no_calls (section T 4) (λ e within same. let r = ranked T fits 4 (omega arith) e within in absurd (omega arith)) in
    let h = no_calls (section T 5) (λ e within same. let r = ranked T fits 5 (omega arith) e within in absurd (omega arith)) in
    let i = calls_of_vpes T.vpes in
    let few : call_count T ≤ 20000 = fits.few_calls in
    rw (sum_by-append, a, sum_by-append, b, sum_by-append, c, sum_by-append, d, sum_by-append, g, sum_by-append, h, sum_by-append, i) (omega arith)

call_before : (before after : List Declaration) (d : Declaration) → is_call_line d ≡ true → call_number (before ++ d ∷ after) ≤ 20000 → call_number before < 20000
unfolding call_number
call_before before after d call few =
    let whole : sum_by weight (before ++ d ∷ after) ≡ sum_by weight before + sum_by weight (d ∷ after) = sum_by-append weight before (d ∷ after) in
    let rest : sum_by weight (d ∷ after) ≡ weight d + sum_by weight after = sum_by-cons weight d after in
    let one : weight d ≡ 1 = rw call refl in
    omega arith

not_too_many : (before : List Declaration) (d : Declaration) → (is_call_line d ≡ true → call_number before < 20000) → is_call_too_many before d ≡ false
not_too_many before (Calls v c) few = lt-leb 20000 (call_number before) (few refl)
not_too_many before d few = refl

fits_context : (before : List Declaration) (d : Declaration) → is_too_long d ≡ false → is_undeclared before d ≡ false → is_twice before d ≡ false →
    is_call_too_many before d ≡ false → context_fault before d ≡ None
unfolding context_fault
fits_context before d a b c e = rw (a, b, c, e) refl

-- what the setup says is accepted
pub all_accepted : (T : Setup) → IsSetup T → AreAccepted T.version T.kernels (said_by T)
all_accepted T fits before after d is =
    let within : Contains (said_by T) d = subst (λ (xs : List Declaration). Contains xs d) (sym is) (Contains-append_right before (d ∷ after) d (here d after))
    in
    let p = printed T fits d within in
    let order : AllPairs Precedes (before ++ d ∷ after) = subst (AllPairs Precedes) is (in_order T fits) in
    let other : (e : Declaration) → Contains before e → Differ e d = λ e inside. (pairs_middle Precedes before after d e order inside).differ in
    let needed : (e : Declaration) → Contains (said_by T) e → rank e < rank d →
    Contains before e = λ e inside lower. earlier before after d e order (subst (λ (xs : List Declaration). Contains xs e) is inside) lower in
    let few : call_number (before ++ d ∷ after) ≤ 20000 = subst (λ (xs : List Declaration). call_number xs ≤ 20000) is (few_calls T fits) in (
      p.ranges,
      fits_context before d p.short (p.needs before needed) (not_twice T before d p.said other)
          (not_too_many before d (λ call. call_before before after d call few)),
    )
