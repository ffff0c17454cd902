-- No line of a printed setup says what an earlier one says.
use Rattle.std.proofs.Common.{◌≡◌, ◌≢◌, ℕ, zero, suc, ◌+◌, ◌<◌, ◌≤◌, ◌==◌, true, false, cond, true≢false, ◌&&◌, List, [], ◌∷◌, length, map, get_or, Option}
use Rattle.std.proofs.Common.{Some, None, refl, ap, sym, ◌∙◌, subst, arith, inl, inr, eqb-true}
use Rattle.std.specs.List.{AllPairs, Contains, enumerate_from, range_with_len, slice_get}
use Rattle.std.proofs.lemmas.Bool.{cases_Bool, cases_order}
use Rattle.std.proofs.lemmas.List.{get_or_default}
use Rattle.std.proofs.lemmas.Option.{none-some, same_Some}
use Rattle.std.proofs.lemmas.List.Elements.{All-contains, Contains-get_or, Contains-append_left, Contains-append_right}
use Rattle.sem_key.specs.declared.object.Object.{Object}
use Rattle.sem_key.specs.declared.object.Object.TheVariants.{Mem, Recv, Send, Serv, Sess}
use Rattle.sem_key.specs.KeyName.{KeyName}
use Rattle.sem_msg.specs.declared.setup.Root.{Root}
use Rattle.sem_msg.specs.declared.setup.Service.{Service as ServiceData}
use Rattle.sem_msg.specs.declared.setup.VpeDecl.{VpeDecl}
use Rattle.sem_msg.specs.Setup.{Setup, IsSetup, IsRoot, IsVpeDecl, ComesBefore, offer_place, root_key, services_from, service_with, declared_services}
use Rattle.sem_trace.specs.declared.declaration.Declaration.{Declaration}
use Rattle.sem_trace.specs.declared.declaration.Declaration.TheVariants.{Window, Pe, Vpe, Memory, Receive, Service, Offer, Deny, Kill}
use Rattle.sem_trace.specs.Earlier.{said_window, said_owner, said_pe, says_on, said_root, says_service, said_offer, says_deny, said_kill}
use Rattle.sem_reader.proofs.Enumerated.{here, pairs_nil, pairs_append, joins, pairs_joined, in_range, range_rises}
use Rattle.sem_reader.proofs.Sections.{root_says, root_decl, pe_decls, window_decls, all_pes, in_window, in_pes, vpe_decl, offer_decl, deny_decl, kill_decl}
use Rattle.sem_reader.proofs.Sections.{section, said_by, rank, in_map, pairs_mapped, enumerate_rises, in_pe, root_rank, ranked}

-- two lines say nothing that is one thing
pub record Differ (a b : Declaration) : Type 0 where
  pub window : (m n : ℕ) → said_window a ≡ Some m → said_window b ≡ Some n → ⊥
  pub pe : (p k j : ℕ) → said_owner p a ≡ Some k → said_owner p b ≡ Some j → ⊥
  pub vpe : (v p q : ℕ) → said_pe v a ≡ Some p → said_pe v b ≡ Some q → ⊥
  pub on : (p : ℕ) → says_on p a ≡ true → says_on p b ≡ true → ⊥
  pub root : (v : ℕ) (r s : Root) → said_root v a ≡ Some r → said_root v b ≡ Some s → r.sel ≡ s.sel → ⊥
  pub service : (n : ℕ) → says_service n a ≡ true → says_service n b ≡ true → ⊥
  pub offer : (n i s t : ℕ) → said_offer n i a ≡ Some s → said_offer n i b ≡ Some t → ⊥
  pub deny : (v w : ℕ) → says_deny v w a ≡ true → says_deny v w b ≡ true → ⊥
  pub kill : (v m n : ℕ) → said_kill v a ≡ Some m → said_kill v b ≡ Some n → ⊥

-- of which rank a line is that says something
rank_window : (e : Declaration) (n : ℕ) → said_window e ≡ Some n → rank e ≡ 0
rank_window (Window m) n some = refl
rank_window e n some = absurd (none-some n some)

rank_owner : (p : ℕ) (e : Declaration) (k : ℕ) → said_owner p e ≡ Some k → rank e ≡ 0
rank_owner p (Pe q j) k some = refl
rank_owner p e k some = absurd (none-some k some)

rank_pe : (v : ℕ) (e : Declaration) (p : ℕ) → said_pe v e ≡ Some p → rank e ≡ 1
rank_pe v (Vpe w q) p some = refl
rank_pe v e p some = absurd (none-some p some)

rank_on : (p : ℕ) (e : Declaration) → says_on p e ≡ true → rank e ≡ 1
rank_on p (Vpe w q) some = refl
rank_on p e some = absurd (true≢false (sym some))

rank_root : (v : ℕ) (e : Declaration) (r : Root) → said_root v e ≡ Some r → rank e ≡ 2
rank_root v (Memory w s b l g) r some = refl
rank_root v (Receive w s n) r some = refl
rank_root v (Service w s n) r some = refl
rank_root v e r some = absurd (none-some r some)

rank_service : (n : ℕ) (e : Declaration) → says_service n e ≡ true → rank e ≡ 2
rank_service n (Service w s m) some = refl
rank_service n e some = absurd (true≢false (sym some))

rank_offer : (n i : ℕ) (e : Declaration) (s : ℕ) → said_offer n i e ≡ Some s → rank e ≡ 3
rank_offer n i (Offer m j t) s some = refl
rank_offer n i e s some = absurd (none-some s some)

rank_deny : (v w : ℕ) (e : Declaration) → says_deny v w e ≡ true → rank e ≡ 4
rank_deny v w (Deny x y) some = refl
rank_deny v w e some = absurd (true≢false (sym some))

rank_kill : (v : ℕ) (e : Declaration) (n : ℕ) → said_kill v e ≡ Some n → rank e ≡ 5
rank_kill v (Kill w m) n some = refl
rank_kill v e n some = absurd (none-some n some)

-- lines of different ranks
pub differ_ranks : (a b : Declaration) → rank a ≢ rank b → Differ a b
differ_ranks a b other = record {
  window = λ m n x y. other (rank_window a m x ∙ sym (rank_window b n y));
  pe = λ p k j x y. other (rank_owner p a k x ∙ sym (rank_owner p b j y));
  vpe = λ v p q x y. other (rank_pe v a p x ∙ sym (rank_pe v b q y));
  on = λ p x y. other (rank_on p a x ∙ sym (rank_on p b y));
  root = λ v r s x y same. other (rank_root v a r x ∙ sym (rank_root v b s y));
  service = λ n x y. other (rank_service n a x ∙ sym (rank_service n b y));
  offer = λ n i s t x y. other (rank_offer n i a s x ∙ sym (rank_offer n i b t y));
  deny = λ v w x y. other (rank_deny v w a x ∙ sym (rank_deny v w b y));
  kill = λ v m n x y. other (rank_kill v a m x ∙ sym (rank_kill v b n y));
}

apart : (m n k : ℕ) → k ≡ m → k ≡ n → m ≢ n → ⊥
apart m n k a b other = other (sym a ∙ b)

-- two lines of rank 0
differ_pe : (a b : Declaration) → rank a ≡ 0 → ((m n : ℕ) → said_window a ≡ Some m → said_window b ≡ Some n → ⊥) →
    ((p k j : ℕ) → said_owner p a ≡ Some k → said_owner p b ≡ Some j → ⊥) → Differ a b
differ_pe a b is own_window own_pe = record {
  window = own_window;
  pe = own_pe;
  vpe = λ v p q x y. apart 0 1 (rank a) is (rank_pe v a p x) (λ e. absurd (omega arith));
  on = λ p x y. apart 0 1 (rank a) is (rank_on p a x) (λ e. absurd (omega arith));
  root = λ v g h x y same. apart 0 2 (rank a) is (rank_root v a g x) (λ e. absurd (omega arith));
  service = λ n x y. apart 0 2 (rank a) is (rank_service n a x) (λ e. absurd (omega arith));
  offer = λ n i s t x y. apart 0 3 (rank a) is (rank_offer n i a s x) (λ e. absurd (omega arith));
  deny = λ v w x y. apart 0 4 (rank a) is (rank_deny v w a x) (λ e. absurd (omega arith));
  kill = λ v m n x y. apart 0 5 (rank a) is (rank_kill v a m x) (λ e. absurd (omega arith));
}

-- two lines of rank 1
differ_vpe : (a b : Declaration) → rank a ≡ 1 → ((v p q : ℕ) → said_pe v a ≡ Some p → said_pe v b ≡ Some q → ⊥) →
    ((p : ℕ) → says_on p a ≡ true → says_on p b ≡ true → ⊥) → Differ a b
differ_vpe a b is own_vpe own_on = record {
  window = λ m n x y. apart 1 0 (rank a) is (rank_window a m x) (λ e. absurd (omega arith));
  pe = λ p k j x y. apart 1 0 (rank a) is (rank_owner p a k x) (λ e. absurd (omega arith));
  vpe = own_vpe;
  on = own_on;
  root = λ v g h x y same. apart 1 2 (rank a) is (rank_root v a g x) (λ e. absurd (omega arith));
  service = λ n x y. apart 1 2 (rank a) is (rank_service n a x) (λ e. absurd (omega arith));
  offer = λ n i s t x y. apart 1 3 (rank a) is (rank_offer n i a s x) (λ e. absurd (omega arith));
  deny = λ v w x y. apart 1 4 (rank a) is (rank_deny v w a x) (λ e. absurd (omega arith));
  kill = λ v m n x y. apart 1 5 (rank a) is (rank_kill v a m x) (λ e. absurd (omega arith));
}

-- two lines of rank 2
differ_root : (a b : Declaration) → rank a ≡ 2 → ((v : ℕ) (r s : Root) → said_root v a ≡ Some r → said_root v b ≡ Some s → r.sel ≡ s.sel → ⊥) →
    ((n : ℕ) → says_service n a ≡ true → says_service n b ≡ true → ⊥) → Differ a b
differ_root a b is own_root own_service = record {
  window = λ m n x y. apart 2 0 (rank a) is (rank_window a m x) (λ e. absurd (omega arith));
  pe = λ p k j x y. apart 2 0 (rank a) is (rank_owner p a k x) (λ e. absurd (omega arith));
  vpe = λ v p q x y. apart 2 1 (rank a) is (rank_pe v a p x) (λ e. absurd (omega arith));
  on = λ p x y. apart 2 1 (rank a) is (rank_on p a x) (λ e. absurd (omega arith));
  root = own_root;
  service = own_service;
  offer = λ n i s t x y. apart 2 3 (rank a) is (rank_offer n i a s x) (λ e. absurd (omega arith));
  deny = λ v w x y. apart 2 4 (rank a) is (rank_deny v w a x) (λ e. absurd (omega arith));
  kill = λ v m n x y. apart 2 5 (rank a) is (rank_kill v a m x) (λ e. absurd (omega arith));
}

-- two lines of rank 3
differ_offer : (a b : Declaration) → rank a ≡ 3 → ((n i s t : ℕ) → said_offer n i a ≡ Some s → said_offer n i b ≡ Some t → ⊥) → Differ a b
differ_offer a b is own_offer = record {
  window = λ m n x y. apart 3 0 (rank a) is (rank_window a m x) (λ e. absurd (omega arith));
  pe = λ p k j x y. apart 3 0 (rank a) is (rank_owner p a k x) (λ e. absurd (omega arith));
  vpe = λ v p q x y. apart 3 1 (rank a) is (rank_pe v a p x) (λ e. absurd (omega arith));
  on = λ p x y. apart 3 1 (rank a) is (rank_on p a x) (λ e. absurd (omega arith));
  root = λ v g h x y same. apart 3 2 (rank a) is (rank_root v a g x) (λ e. absurd (omega arith));
  service = λ n x y. apart 3 2 (rank a) is (rank_service n a x) (λ e. absurd (omega arith));
  offer = own_offer;
  deny = λ v w x y. apart 3 4 (rank a) is (rank_deny v w a x) (λ e. absurd (omega arith));
  kill = λ v m n x y. apart 3 5 (rank a) is (rank_kill v a m x) (λ e. absurd (omega arith));
}

-- two lines of rank 4
differ_deny : (a b : Declaration) → rank a ≡ 4 → ((v w : ℕ) → says_deny v w a ≡ true → says_deny v w b ≡ true → ⊥) → Differ a b
differ_deny a b is own_deny = record {
  window = λ m n x y. apart 4 0 (rank a) is (rank_window a m x) (λ e. absurd (omega arith));
  pe = λ p k j x y. apart 4 0 (rank a) is (rank_owner p a k x) (λ e. absurd (omega arith));
  vpe = λ v p q x y. apart 4 1 (rank a) is (rank_pe v a p x) (λ e. absurd (omega arith));
  on = λ p x y. apart 4 1 (rank a) is (rank_on p a x) (λ e. absurd (omega arith));
  root = λ v g h x y same. apart 4 2 (rank a) is (rank_root v a g x) (λ e. absurd (omega arith));
  service = λ n x y. apart 4 2 (rank a) is (rank_service n a x) (λ e. absurd (omega arith));
  offer = λ n i s t x y. apart 4 3 (rank a) is (rank_offer n i a s x) (λ e. absurd (omega arith));
  deny = own_deny;
  kill = λ v m n x y. apart 4 5 (rank a) is (rank_kill v a m x) (λ e. absurd (omega arith));
}

-- two lines of rank 5
differ_kill : (a b : Declaration) → rank a ≡ 5 → ((v m n : ℕ) → said_kill v a ≡ Some m → said_kill v b ≡ Some n → ⊥) → Differ a b
differ_kill a b is own_kill = record {
  window = λ m n x y. apart 5 0 (rank a) is (rank_window a m x) (λ e. absurd (omega arith));
  pe = λ p k j x y. apart 5 0 (rank a) is (rank_owner p a k x) (λ e. absurd (omega arith));
  vpe = λ v p q x y. apart 5 1 (rank a) is (rank_pe v a p x) (λ e. absurd (omega arith));
  on = λ p x y. apart 5 1 (rank a) is (rank_on p a x) (λ e. absurd (omega arith));
  root = λ v g h x y same. apart 5 2 (rank a) is (rank_root v a g x) (λ e. absurd (omega arith));
  service = λ n x y. apart 5 2 (rank a) is (rank_service n a x) (λ e. absurd (omega arith));
  offer = λ n i s t x y. apart 5 3 (rank a) is (rank_offer n i a s x) (λ e. absurd (omega arith));
  deny = λ v w x y. apart 5 4 (rank a) is (rank_deny v w a x) (λ e. absurd (omega arith));
  kill = own_kill;
}

-- two lines of rank 6
differ_other : (a b : Declaration) → rank a ≡ 6 → Differ a b
differ_other a b is = record {
  window = λ m n x y. apart 6 0 (rank a) is (rank_window a m x) (λ e. absurd (omega arith));
  pe = λ p k j x y. apart 6 0 (rank a) is (rank_owner p a k x) (λ e. absurd (omega arith));
  vpe = λ v p q x y. apart 6 1 (rank a) is (rank_pe v a p x) (λ e. absurd (omega arith));
  on = λ p x y. apart 6 1 (rank a) is (rank_on p a x) (λ e. absurd (omega arith));
  root = λ v g h x y same. apart 6 2 (rank a) is (rank_root v a g x) (λ e. absurd (omega arith));
  service = λ n x y. apart 6 2 (rank a) is (rank_service n a x) (λ e. absurd (omega arith));
  offer = λ n i s t x y. apart 6 3 (rank a) is (rank_offer n i a s x) (λ e. absurd (omega arith));
  deny = λ v w x y. apart 6 4 (rank a) is (rank_deny v w a x) (λ e. absurd (omega arith));
  kill = λ v m n x y. apart 6 5 (rank a) is (rank_kill v a m x) (λ e. absurd (omega arith));
}

if_same : {X : Type 0} (m n : ℕ) (x y : X) → cond (m == n) (Some x) None ≡ Some y → (m ≡ n) × (x ≡ y)
if_same m n x y some =
    elim (cases_Bool (m == n)) [
      | inl same ↦ let e : Some x ≡ Some y = rw same at some in (eqb-true m n same, same_Some x y e)
      | inr other ↦ let e : None ≡ Some y = rw other at some in absurd (none-some y e)
    ]

both_same : (a b c d : ℕ) → ((a == b) && (c == d)) ≡ true → (a ≡ b) × (c ≡ d)
both_same a b c d both =
    elim (cases_Bool (a == b)) [
      | inl same ↦ let e : (c == d) ≡ true = rw same at both in (eqb-true a b same, eqb-true c d e)
      | inr other ↦ let e : false ≡ true = rw other at both in absurd (true≢false (sym e))
    ]

if_both : (a b c d x y : ℕ) → cond ((a == b) && (c == d)) (Some x) None ≡ Some y → (a ≡ b) × (c ≡ d)
if_both a b c d x y some =
    elim (cases_Bool ((a == b) && (c == d))) [
      | inl same ↦ both_same a b c d same
      | inr other ↦ let e : None ≡ Some y = rw other at some in absurd (none-some y e)
    ]

pe_apart : (p k q j : ℕ) → p ≢ q → Differ (Pe p k) (Pe q j)
pe_apart p k q j other = differ_pe (Pe p k) (Pe q j) refl (λ m n a b. absurd (none-some m a)) (λ x m n a b. other ((if_same p x k m a).0
    ∙ sym (if_same q x j n b).0))

-- the line of the window and one of a PE
window_apart : (w q j : ℕ) → Differ (Window w) (Pe q j)
window_apart w q j = differ_pe (Window w) (Pe q j) refl (λ m n a b. absurd (none-some n b)) (λ x m n a b. absurd (none-some m a))

vpe_apart : (v p w q : ℕ) → v ≢ w → p ≢ q → Differ (Vpe v p) (Vpe w q)
vpe_apart v p w q other on = differ_vpe (Vpe v p) (Vpe w q) refl (λ x m n a b. other ((if_same v x p m a).0 ∙ sym (if_same w x q n b).0))
    (λ x a b. on (eqb-true p x a ∙ sym (eqb-true q x b)))

offer_apart : (n i s m j t : ℕ) → ((n ≡ m) × (i ≡ j) → ⊥) → Differ (Offer n i s) (Offer m j t)
offer_apart n i s m j t other = differ_offer (Offer n i s) (Offer m j t) refl (λ x y a b c d. let e = if_both n x i y s a c in let f = if_both m x j y t b d in
    other (e.0 ∙ sym f.0, e.1 ∙ sym f.1))

deny_apart : (v w x y : ℕ) → ((v ≡ x) × (w ≡ y) → ⊥) → Differ (Deny v w) (Deny x y)
deny_apart v w x y other = differ_deny (Deny v w) (Deny x y) refl (λ a b c d. let e = both_same v a w b c in let f = both_same x a y b d in
    other (e.0 ∙ sym f.0, e.1 ∙ sym f.1))

kill_apart : (v m w n : ℕ) → v ≢ w → Differ (Kill v m) (Kill w n)
kill_apart v m w n other = differ_kill (Kill v m) (Kill w n) refl (λ x a b c d. other ((if_same v x m a c).0 ∙ sym (if_same w x n b d).0))

-- what stands before in the order of pairs is another pair
before_differs : (a b : ℕ × ℕ) → ComesBefore a b → (a.0 ≡ b.0) × (a.1 ≡ b.1) → ⊥
before_differs a b (inl less) same = let e : a.0 ≡ b.0 = same.0 in absurd (omega arith)
before_differs a b (inr less) same = let e : a.1 ≡ b.1 = same.1 in let l : a.1 < b.1 = less.1 in absurd (omega arith)

-- what the line of a root says
said_of_object : (v w s : ℕ) (o : Object) (t : Root) → said_root v (root_says w s o) ≡ Some t → (w ≡ v) × (s ≡ t.sel)
said_of_object v w s (Mem b l g) t some = let e = if_same w v (record { sel = s; object = Mem b l g }) t some in (e.0, ap (λ (x : Root). x.sel) e.1)
said_of_object v w s (Recv n) t some = let e = if_same w v (record { sel = s; object = Recv n }) t some in (e.0, ap (λ (x : Root). x.sel) e.1)
said_of_object v w s (Serv n) t some = let e = if_same w v (record { sel = s; object = Serv n }) t some in (e.0, ap (λ (x : Root). x.sel) e.1)
said_of_object v w s (Send g l c) t some = absurd (none-some t some)
said_of_object v w s (Sess k i) t some = absurd (none-some t some)

service_of_object : (n w s : ℕ) (o : Object) → says_service n (root_says w s o) ≡ true → o ≡ Serv n
service_of_object n w s (Mem b l g) some = absurd (true≢false (sym some))
service_of_object n w s (Recv m) some = absurd (true≢false (sym some))
service_of_object n w s (Serv m) some = ap Serv (eqb-true m n some)
service_of_object n w s (Send g l c) some = absurd (true≢false (sym some))
service_of_object n w s (Sess k i) some = absurd (true≢false (sym some))

said_of_root : (v w : ℕ) (r s : Root) → said_root v (root_decl w r) ≡ Some s → (w ≡ v) × (r.sel ≡ s.sel)
said_of_root v w r s some = said_of_object v w r.sel r.object s some

service_of_root : (n w : ℕ) (r : Root) → says_service n (root_decl w r) ≡ true → r.object ≡ Serv n
service_of_root n w r some = service_of_object n w r.sel r.object some

abbrev keyed : ℕ → KeyName → ServiceData
keyed n k = record { name = n; key = k }

key_here : (o : Object) (k : KeyName) (n : ℕ) → o ≡ Serv n → Contains (service_with o k) (keyed n k)
key_here o k n is = rw is (here (keyed n k) [])

-- a root that is a service makes its VPE serve
has_service_key : (d : VpeDecl) (a : ℕ) (rs : List Root) (i n : ℕ) (r : Root) → slice_get rs i ≡ Some r → r.object ≡ Serv n →
    Contains (services_from d a rs) (record { name = n; key = root_key d (a + i) r })
unfolding services_from
has_service_key d a [] i n r at is = absurd (none-some r at)
has_service_key d a (s ∷ rs) zero n r at is =
    let e : a + 0 ≡ a = omega arith in
    let same : s ≡ r = same_Some s r at in
    let object : s.object ≡ Serv n = ap (λ (x : Root). x.object) same ∙ is in
    rw e (Contains-append_left (service_with s.object (root_key d a s)) (services_from d (a + 1) rs) (keyed n (root_key d a r))
    (subst (λ (x : Root). Contains (service_with s.object (root_key d a s)) (keyed n (root_key d a x))) same (key_here s.object (root_key d a s) n object)))
has_service_key d a (s ∷ rs) (suc i) n r at is =
    let e : a + suc i ≡ (a + 1) + i = omega arith in
    rw e (Contains-append_right (service_with s.object (root_key d a s)) (services_from d (a + 1) rs) (keyed n (root_key d ((a + 1) + i) r))
    (has_service_key d (a + 1) rs i n r at is))

-- names that rise are names of one service each
one_of_name : (services : List ServiceData) → AllPairs (λ a b. a.name < b.name) services → (s t : ServiceData) → Contains services s → Contains services t →
    s.name ≡ t.name → s ≡ t
one_of_name services rise s t (i, lt, is) (j, lt', is') same =
    elim (cases_order i j) [
      | inl e ↦ sym is ∙ (get_or_default services i s t lt ∙ (ap (λ (k : ℕ). get_or services k t) e ∙ is'))
      | inr order ↦ elim order [
        | inl less ↦
            let r : (get_or services i s).name < (get_or services j s).name = rise i j s less lt' in
            let x : (get_or services i s).name ≡ s.name = ap (λ (y : ServiceData). y.name) is in
            let y : (get_or services j s).name ≡ t.name = ap (λ (z : ServiceData). z.name) (get_or_default services j s t lt' ∙ is') in
            absurd (omega arith)
        | inr less ↦
            let r : (get_or services j s).name < (get_or services i s).name = rise j i s less lt in
            let x : (get_or services i s).name ≡ s.name = ap (λ (y : ServiceData). y.name) is in
            let y : (get_or services j s).name ≡ t.name = ap (λ (z : ServiceData). z.name) (get_or_default services j s t lt' ∙ is') in
            absurd (omega arith)
      ]
    ]

-- a service that a VPE of the setup has at a place
pub record Has (T : Setup) (d : VpeDecl) (i n : ℕ) : Type 0 where
  pub declared : Contains T.vpes d
  pub root : Root
  pub at : slice_get d.roots i ≡ Some root
  pub serves : root.object ≡ Serv n

pub has_once : (T : Setup) → IsSetup T → (d e : VpeDecl) (i j n : ℕ) → Has T d i n → Has T e j n → (d.vpe ≡ e.vpe) × (i ≡ j)
has_once T fits d e i j n a b =
    let s : Contains (declared_services T) (keyed n (root_key d (0 + i) a.root)) = joins (λ (x : VpeDecl). services_from x 0 x.roots) T.vpes d _ a.declared
    (has_service_key d 0 d.roots i n a.root a.at a.serves) in
    let t : Contains (declared_services T) (keyed n (root_key e (0 + j) b.root)) = joins (λ (x : VpeDecl). services_from x 0 x.roots) T.vpes e _ b.declared
    (has_service_key e 0 e.roots j n b.root b.at b.serves) in
    let same = one_of_name T.services fits.services_rise _ _ ((fits.services _).1 s) ((fits.services _).1 t) refl in
    let number : 0 + i ≡ 0 + j = ap (λ (x : ServiceData). x.key.number) same in
    (ap (λ (x : ServiceData). x.key.vpe) same, omega arith)

pub at_place : {X : Type 0} (xs : List X) (i : ℕ) (d : X) → i < length xs → slice_get xs i ≡ Some (get_or xs i d)
at_place [] i d within = absurd (omega arith)
at_place (x ∷ xs) zero d within = refl
at_place (x ∷ xs) (suc i) d within = at_place xs i d (omega arith)

root_ranked : (v : ℕ) (r : Root) → IsRoot r → rank (root_decl v r) ≡ 2
root_ranked v r valid = root_rank v r valid.kind

one_pe : (p : ℕ) (o : Option ℕ) → AllPairs Differ (pe_decls (p, o))
one_pe p None = pairs_nil Differ
one_pe p (Some k) = λ i j d lt within. absurd (omega arith)

-- two roots of the setup in their order
roots_apart : (T : Setup) → IsSetup T → (d e : VpeDecl) (i j : ℕ) (r s : Root) → Contains T.vpes d → Contains T.vpes e → slice_get d.roots i ≡ Some r →
    slice_get e.roots j ≡ Some s → IsRoot r → ((d.vpe ≡ e.vpe) × (i ≡ j) → ⊥) → (d.vpe ≡ e.vpe → r.sel ≡ s.sel → ⊥) →
    Differ (root_decl d.vpe r) (root_decl e.vpe s)
roots_apart T fits d e i j r s declared declared' at at' valid other sel =
    differ_root (root_decl d.vpe r) (root_decl e.vpe s) (root_ranked d.vpe r valid)
    (λ v x y a b same. let m = said_of_root v d.vpe r x a in let n = said_of_root v e.vpe s y b in sel (m.0 ∙ sym n.0) (m.1 ∙ (same ∙ sym n.1)))
    (λ n a b. other (has_once T fits d e i j n (record { declared = declared; root = r; at = at; serves = service_of_root n d.vpe r a })
    (record { declared = declared'; root = s; at = at'; serves = service_of_root n e.vpe s b })))

pub place_of : {X : Type 0} (xs : List X) (x : X) → Contains xs x → (i : ℕ) × (slice_get xs i ≡ Some x)
place_of xs x (i, lt, is) = (i, at_place xs i x lt ∙ ap Some is)

-- each section by itself
pub pairs_differ : (T : Setup) → IsSetup T → (k : ℕ) → AllPairs Differ (section T k)
pairs_differ T fits zero =
    pairs_append Differ (window_decls T) (all_pes T)
    (elim (cases_Bool (T.version == 1)) [
      | inl one ↦ rw one (pairs_nil Differ)
      | inr other ↦ rw other (λ i j d lt within. absurd (omega arith))
    ])
    (pairs_joined pe_decls (λ (x y : ℕ × Option ℕ). x.0 < y.0) Differ (enumerate_from 0 T.owners.owners) (enumerate_rises 0 T.owners.owners)
    (λ x within. one_pe x.0 x.1)
    (λ x y e f less a b.
    let m = in_pe x.0 x.1 e a in
    let n = in_pe y.0 y.1 f b in
    rw (m.2, n.2) (pe_apart x.0 m.0 y.0 n.0 (λ same. let l : x.0 < y.0 = less in absurd (omega arith)))))
    (λ a b within within'.
    let n = in_pes T b within' in
    rw (in_window T a within, n.2) (window_apart T.window n.0 n.1))
pairs_differ T fits (suc zero) = pairs_mapped vpe_decl Differ T.vpes (λ i j d lt within. vpe_apart _ _ _ _ (λ same. let l = fits.vpes_rise i j d lt within in
    absurd (omega arith)) (fits.pes_differ i j d lt within))
pairs_differ T fits (suc (suc zero)) =
    pairs_joined (λ (d : VpeDecl). map (root_decl d.vpe) d.roots) (λ (a b : VpeDecl). Contains T.vpes a × Contains T.vpes b × (a.vpe < b.vpe)) Differ T.vpes
    (λ i j d lt within. (Contains-get_or T.vpes i d (omega arith), Contains-get_or T.vpes j d within, fits.vpes_rise i j d lt within))
    (λ d declared.
    let v = All-contains (IsVpeDecl T) T.vpes d fits.vpes declared in
    pairs_mapped (root_decl d.vpe) Differ d.roots (λ i j x lt within.
    roots_apart T fits d d i j (get_or d.roots i x) (get_or d.roots j x) declared declared (at_place d.roots i x (omega arith)) (at_place d.roots j x within)
    (v.roots i x (omega arith)) (λ same. let e : i ≡ j = same.1 in absurd (omega arith)) (λ same. v.selectors_differ i j x lt within)))
    (λ d e a b cross within within'.
    let v = All-contains (IsVpeDecl T) T.vpes d fits.vpes cross.0 in
    let m = in_map (root_decl d.vpe) d.roots a within in
    let n = in_map (root_decl e.vpe) e.roots b within' in
    let x = place_of d.roots m.0 m.1 in
    let y = place_of e.roots n.0 n.1 in
    let less : d.vpe < e.vpe = cross.2 in
    rw (← m.2, ← n.2) (roots_apart T fits d e x.0 y.0 m.0 n.0 cross.0 cross.1 x.1 y.1 (All-contains IsRoot d.roots m.0 v.roots m.1) (λ same. let f : d.vpe
    ≡ e.vpe = same.0 in absurd (omega arith)) (λ same sel. absurd (omega arith))))
pairs_differ T fits (suc (suc (suc zero))) =
    pairs_mapped offer_decl Differ T.offers
    (λ i j d lt within. offer_apart _ _ _ _ _ _ (before_differs (offer_place (get_or T.offers i d)) (offer_place (get_or T.offers j d))
    (fits.offers_rise i j d lt within)))
pairs_differ T fits (suc (suc (suc (suc zero)))) =
    pairs_mapped deny_decl Differ T.denies
    (λ i j d lt within. deny_apart _ _ _ _ (before_differs (get_or T.denies i d) (get_or T.denies j d) (fits.denies_rise i j d lt within)))
pairs_differ T fits (suc (suc (suc (suc (suc zero))))) =
    pairs_mapped kill_decl Differ T.kills (λ i j d lt within. kill_apart _ _ _ _ (λ same. let l = fits.kills_rise i j d lt within in absurd (omega arith)))
pairs_differ T fits (suc (suc (suc (suc (suc (suc zero)))))) = λ i j d lt within.
    let x = Contains-get_or (section T 6) i d (omega arith) in
    differ_other _ _ (ranked T fits 6 (omega arith) _ x)
pairs_differ T fits (suc (suc (suc (suc (suc (suc (suc k))))))) = λ i j d lt within. absurd (omega arith)

-- a line stands before another
pub record Precedes (a b : Declaration) : Type 0 where
  pub differ : Differ a b
  pub order : rank a ≤ rank b

pub in_order : (T : Setup) → IsSetup T → AllPairs Precedes (said_by T)
unfolding said_by
in_order T fits =
    pairs_joined (section T) (λ (k l : ℕ). (l < 8) × (k < l)) Precedes (range_with_len 0 8)
    (λ i j d lt within. let r = in_range 0 8 (get_or (range_with_len 0 8) j d) (Contains-get_or (range_with_len 0 8) j d within) in
    (omega arith, range_rises 0 8 i j d lt within))
    (λ k within.
    let r = in_range 0 8 k within in
    λ i j d lt inside.
    let x = ranked T fits k (omega arith) _ (Contains-get_or (section T k) i d (omega arith)) in
    let y = ranked T fits k (omega arith) _ (Contains-get_or (section T k) j d inside) in
    record { differ = pairs_differ T fits k i j d lt inside; order = omega arith })
    (λ k l a b small within within'.
    let x = ranked T fits k (let s : l < 8 = small.0 in let t : k < l = small.1 in omega arith) a within in
    let y = ranked T fits l small.0 b within' in
    let t : k < l = small.1 in
    record { differ = differ_ranks a b (λ same. absurd (omega arith)); order = omega arith })
