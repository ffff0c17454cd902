-- What holds of lines that are accepted one after another.
use Rattle.std.proofs.Common.{◌≡◌, ◌≢◌, ℕ, zero, suc, ◌+◌, ◌<◌, ◌≤◌, ◌==◌, ◌⊎◌, Bool, true, false, not, cond, true≢false, ◌||◌, ◌&&◌, List, [], ◌∷◌, ◌++◌}
use Rattle.std.proofs.Common.{length, get_or, Option, Some, None, refl, ap, sym, ◌∙◌, subst, arith, append_assoc, append-nil, eqb-true, eq-eqb, ltb-false}
use Rattle.std.proofs.Common.{leb-false, inl, inr}
use Rattle.std.specs.List.{All, AllPairs, slice_get}
use Rattle.std.specs.Option.{option_or, is_some, is_none, IsSome}
use Rattle.std.proofs.lemmas.Bool.{cases_Bool}
use Rattle.std.proofs.lemmas.Option.{none-some, same_Some}
use Rattle.std.proofs.lemmas.List.Elements.{All-nil, All-push}
use Rattle.std.proofs.lemmas.List.Quantifiers.{all_pairs_push}
use Rattle.sem_key.specs.declared.object.Object.{Object}
use Rattle.sem_key.specs.declared.object.Object.TheVariants.{Mem, Recv, Serv}
use Rattle.sem_msg.specs.declared.call.Call.{Call}
use Rattle.sem_msg.specs.declared.setup.Root.{Root}
use Rattle.sem_msg.specs.Calls.{IsWord, IsValidCall}
use Rattle.sem_msg.specs.Setup.{IsRoot}
use Rattle.sem_msg.specs.Versions.{most_vpes, IsWindow}
use Rattle.sem_trace.specs.declared.declaration.Declaration.{Declaration}
use Rattle.sem_trace.specs.declared.declaration.Declaration.TheVariants.{Window, Pe, Vpe, Memory, Receive, Service, Offer, Deny, Kill, Call as Calls}
use Rattle.sem_trace.specs.Earlier.{said_window, window_in, said_owner, owner_in, said_pe, pe_in, is_pe_taken, said_root, roots_in, holds_at, said_call, calls_in}
use Rattle.sem_trace.specs.Earlier.{says_service, has_service, said_offer, offer_in, says_deny, is_denied, said_kill, kill_in, call_number, is_call_line}
use Rattle.sem_trace.specs.Context.{context_fault}
use Rattle.sem_trace.specs.Ranges.{IsInRange}
use Rattle.sem_reader.specs.Accepted.{AreAccepted}
use Rattle.sem_reader.proofs.OneMore.{window_in-more, no_fault, is_denied-same, has_service-same, is_taken-new, roots_in-same, roots_in-new, calls_in-same}
use Rattle.sem_reader.proofs.OneMore.{calls_in-new, has_service-new, call_number-more, is_taken-kept, has_service-kept, offer_in-more, owner_in-more}
use Rattle.sem_reader.proofs.OneMore.{pe_in-more, kill_in-more}

-- what holds of no lines, and of one more where it holds of those before it, holds of accepted lines
module _ (version kernels : ℕ) (P : List Declaration → Type 0) (none : P []) (more : (ds : List Declaration) (d : Declaration) → P ds →
    IsInRange version kernels d → context_fault ds d ≡ None → P (ds ++ d ∷ [])) where
  from_front : (before after : List Declaration) → AreAccepted version kernels (before ++ after) → P before → P (before ++ after)
  from_front before [] accepted so_far = subst P (sym (append-nil before)) so_far
  from_front before (d ∷ after) accepted so_far =
      let here : IsInRange version kernels d × (context_fault before d ≡ None) = accepted before after d refl in
      let whole : (before ++ d ∷ []) ++ after ≡ before ++ d ∷ after = append_assoc before (d ∷ []) after in
      subst P whole (from_front (before ++ d ∷ []) after (subst (AreAccepted version kernels) (sym whole) accepted) (more before d so_far here.0 here.1))

  pub by_lines : (ds : List Declaration) → AreAccepted version kernels ds → P ds
  by_lines ds accepted = from_front [] ds accepted none

pub some_or_none : {X : Type 0} (o : Option X) → (o ≡ None) ⊎ ((x : X) × (o ≡ Some x))
some_or_none None = inl refl
some_or_none (Some x) = inr (x, refl)

-- a test on numbers that gave something
if_same : {X : Type 0} (m n : ℕ) (x y : X) → cond (m == n) (Some x) None ≡ Some y → (m ≡ n) × (x ≡ y)
if_same m n x y some =
    elim (cases_Bool (m == n)) [
      | inl same ↦ let e : Some x ≡ Some y = rw same at some in (eqb-true m n same, same_Some x y e)
      | inr other ↦ let e : None ≡ Some y = rw other at some in absurd (none-some y e)
    ]

-- the first that is told is told by the lines before, or by the last
or_last : {X : Type 0} (o p : Option X) (x : X) → option_or o p ≡ Some x → (o ≡ Some x) ⊎ ((o ≡ None) × (p ≡ Some x))
or_last None p x some = inr (refl, some)
or_last (Some y) p x some = inl some

some_or : {X : Type 0} (o p : Option X) → IsSome o → IsSome (option_or o p)
some_or None p some = absurd (true≢false (sym some))
some_or (Some x) p some = some

not_none : {X : Type 0} (o : Option X) → not (is_some o) ≡ false → IsSome o
not_none None some = absurd (true≢false some)
not_none (Some x) some = refl

and_left : (a b : Bool) → (a || b) ≡ false → a ≡ false
and_left true b none = absurd (true≢false none)
and_left false b none = refl

or_right : (a b : Bool) → (a || b) ≡ false → b ≡ false
or_right true b none = absurd (true≢false none)
or_right false b none = none

-- each owner is one of the kernels
said_owner_range : (version kernels p : ℕ) (d : Declaration) (kernel : ℕ) → IsInRange version kernels d → said_owner p d ≡ Some kernel → kernel < kernels
said_owner_range version kernels p (Pe q k) kernel ranges some = let same = if_same q p k kernel some in rw (← same.1) ranges.1
said_owner_range version kernels p d kernel ranges some = absurd (none-some kernel some)

nobody : (p x : ℕ) → owner_in [] p ≡ Some x → ⊥
unfolding owner_in
nobody p x some = none-some x some

pub owners_exist : (version kernels : ℕ) (ds : List Declaration) → AreAccepted version kernels ds → (p kernel : ℕ) → owner_in ds p ≡ Some kernel →
    kernel < kernels
owners_exist version kernels = by_lines version kernels (λ ds. (p kernel : ℕ) → owner_in ds p ≡ Some kernel → kernel < kernels)
    (λ p kernel some. absurd (nobody p kernel some))
    (λ ds d so_far ranges fault p kernel some.
    elim (or_last (owner_in ds p) (said_owner p d) kernel (sym (owner_in-more ds d p) ∙ some)) [
      | inl old ↦ so_far p kernel old
      | inr new ↦ said_owner_range version kernels p d kernel ranges new.1
    ])

-- each PE that has an owner is one of which a text can speak
said_owner_small : (version kernels p : ℕ) (d : Declaration) (kernel : ℕ) → IsInRange version kernels d → said_owner p d ≡ Some kernel → p < most_vpes version
said_owner_small version kernels p (Pe q k) kernel ranges some = let same = if_same q p k kernel some in rw (← same.0) ranges.0
said_owner_small version kernels p d kernel ranges some = absurd (none-some kernel some)

pub owners_small : (version kernels : ℕ) (ds : List Declaration) → AreAccepted version kernels ds → (p kernel : ℕ) → owner_in ds p ≡ Some kernel →
    p < most_vpes version
owners_small version kernels = by_lines version kernels (λ ds. (p kernel : ℕ) → owner_in ds p ≡ Some kernel → p < most_vpes version)
    (λ p kernel some. absurd (nobody p kernel some))
    (λ ds d so_far ranges fault p kernel some.
    elim (or_last (owner_in ds p) (said_owner p d) kernel (sym (owner_in-more ds d p) ∙ some)) [
      | inl old ↦ so_far p kernel old
      | inr new ↦ said_owner_small version kernels p d kernel ranges new.1
    ])

-- a VPE is declared by its line
said_vpe : (v : ℕ) (d : Declaration) (p : ℕ) → said_pe v d ≡ Some p → d ≡ Vpe v p
said_vpe v (Vpe w q) p some = let same = if_same w v q p some in rw (same.0, same.1) refl
said_vpe v d p some = absurd (none-some p some)

no_vpe : (v x : ℕ) → pe_in [] v ≡ Some x → ⊥
unfolding pe_in
no_vpe v x some = none-some x some

-- the PE of a VPE is a PE that has an owner, and is taken
pub record IsPlaced (version : ℕ) (ds : List Declaration) (v p : ℕ) : Type 0 where
  pub vpe : v < most_vpes version
  pub pe : p < most_vpes version
  pub owned : IsSome (owner_in ds p)
  pub taken : is_pe_taken ds p ≡ true

still_placed : (version : ℕ) (ds : List Declaration) (d : Declaration) (v p : ℕ) → IsPlaced version ds v p → IsPlaced version (ds ++ d ∷ []) v p
still_placed version ds d v p placed = record {
  vpe = placed.vpe;
  pe = placed.pe;
  owned = rw (owner_in-more ds d p) (some_or (owner_in ds p) (said_owner p d) placed.owned);
  taken = is_taken-kept ds d p placed.taken;
}

new_placed : (version kernels : ℕ) (ds : List Declaration) (v p : ℕ) → IsInRange version kernels (Vpe v p) → context_fault ds (Vpe v p) ≡ None →
    IsPlaced version (ds ++ Vpe v p ∷ []) v p
new_placed version kernels ds v p ranges fault =
    let owned : IsSome (owner_in ds p) = not_none (owner_in ds p) (no_fault ds (Vpe v p) fault).1 in
    record {
      vpe = ranges.0;
      pe = ranges.1;
      owned = rw (owner_in-more ds (Vpe v p) p) (some_or (owner_in ds p) None owned);
      taken = is_taken-new ds (Vpe v p) p (eq-eqb p p refl);
    }

pub placed : (version kernels : ℕ) (ds : List Declaration) → AreAccepted version kernels ds → (v p : ℕ) → pe_in ds v ≡ Some p → IsPlaced version ds v p
placed version kernels = by_lines version kernels (λ ds. (v p : ℕ) → pe_in ds v ≡ Some p → IsPlaced version ds v p)
    (λ v p some. absurd (no_vpe v p some))
    (λ ds d so_far ranges fault v p some.
    elim (or_last (pe_in ds v) (said_pe v d) p (sym (pe_in-more ds d v) ∙ some)) [
      | inl old ↦ still_placed version ds d v p (so_far v p old)
      | inr new ↦
          let is : d ≡ Vpe v p = said_vpe v d p new.1 in
          rw is (new_placed version kernels ds v p (rw is at ranges) (rw is at fault))
    ])

vpe_number : Declaration → ℕ
vpe_number (Vpe v p) = v
vpe_number d = 0

same_vpe : (v w p : ℕ) → Vpe v p ≡ Vpe w p → v ≡ w
unfolding vpe_number
same_vpe v w p same = ap vpe_number same

-- no two VPEs are on one PE
pub record AreApart (ds : List Declaration) : Type 0 where
  pub on : (v p : ℕ) → pe_in ds v ≡ Some p → is_pe_taken ds p ≡ true
  pub apart : (v w p : ℕ) → pe_in ds v ≡ Some p → pe_in ds w ≡ Some p → v ≡ w

one_vpe_more : (version kernels : ℕ) (ds : List Declaration) (d : Declaration) → AreApart ds → IsInRange version kernels d → context_fault ds d ≡ None →
    AreApart (ds ++ d ∷ [])
one_vpe_more version kernels ds d so_far ranges fault =
    let told = λ (v p : ℕ) (some : pe_in (ds ++ d ∷ []) v ≡ Some p). or_last (pe_in ds v) (said_pe v d) p (sym (pe_in-more ds d v) ∙ some) in
    let free : (v p : ℕ) → said_pe v d ≡ Some p → is_pe_taken ds p ≡ false = λ v p new. let is : d ≡ Vpe v p = said_vpe v d p new in
    or_right _ _ (no_fault ds (Vpe v p) (rw is at fault)).2 in
    record {
      on = λ v p some.
          elim (told v p some) [
            | inl old ↦ is_taken-kept ds d p (so_far.on v p old)
            | inr new ↦ let is : d ≡ Vpe v p = said_vpe v d p new.1 in rw is (is_taken-new ds (Vpe v p) p (eq-eqb p p refl))
          ];
      apart = λ v w p some some'.
          elim (told v p some) [
            | inl old ↦ elim (told w p some') [
              | inl old' ↦ so_far.apart v w p old old'
              | inr new ↦ absurd (true≢false (sym (so_far.on v p old) ∙ free w p new.1))
            ]
            | inr new ↦ elim (told w p some') [
              | inl old ↦ absurd (true≢false (sym (so_far.on w p old) ∙ free v p new.1))
              | inr new' ↦ same_vpe v w p (sym (said_vpe v d p new.1) ∙ said_vpe w d p new'.1)
            ]
          ];
    }

pub apart : (version kernels : ℕ) (ds : List Declaration) → AreAccepted version kernels ds → AreApart ds
apart version kernels = by_lines version kernels AreApart
    (record { on = λ v p some. absurd (no_vpe v p some); apart = λ v w p some some'. absurd (no_vpe v p some) })
    (one_vpe_more version kernels)

-- a root that a line declares is one, and nothing stood at its selector
pub record IsNewRoot (ds : List Declaration) (v : ℕ) (r : Root) : Type 0 where
  pub valid : IsRoot r
  pub free : holds_at (roots_in ds v) r.sel ≡ false

new_memory : (version kernels : ℕ) (ds : List Declaration) (v s b l g : ℕ) → IsInRange version kernels (Memory v s b l g) →
    context_fault ds (Memory v s b l g) ≡ None → IsNewRoot ds v (record { sel = s; object = Mem b l g })
new_memory version kernels ds v s b l g ranges fault =
    let tests = no_fault ds (Memory v s b l g) fault in
    let short : b + l ≤ 4294967296 = ltb-false 4294967296 (b + l) tests.0 in
    record { valid = record { selector = ranges.1; kind = tt; ranges = (ranges.2, ranges.3, ranges.4, short) }; free = tests.2 }

new_receive : (version kernels : ℕ) (ds : List Declaration) (v s n : ℕ) → IsInRange version kernels (Receive v s n) → context_fault ds (Receive v s n) ≡ None →
    IsNewRoot ds v (record { sel = s; object = Recv n })
new_receive version kernels ds v s n ranges fault =
    record { valid = record { selector = ranges.1; kind = tt; ranges = (ranges.2, ranges.3) }; free = (no_fault ds (Receive v s n) fault).2 }

new_service : (version kernels : ℕ) (ds : List Declaration) (v s n : ℕ) → IsInRange version kernels (Service v s n) → context_fault ds (Service v s n) ≡ None →
    IsNewRoot ds v (record { sel = s; object = Serv n })
new_service version kernels ds v s n ranges fault =
    record { valid = record { selector = ranges.1; kind = tt; ranges = ranges.2 }; free = and_left _ _ (no_fault ds (Service v s n) fault).2 }

new_root : (version kernels : ℕ) (ds : List Declaration) (d : Declaration) (v : ℕ) (r : Root) → IsInRange version kernels d → context_fault ds d ≡ None →
    said_root v d ≡ Some r → IsNewRoot ds v r
new_root version kernels ds (Memory w s b l g) v r ranges fault some =
    let same = if_same w v (record { sel = s; object = Mem b l g }) r some in
    subst (λ (x : ℕ). IsNewRoot ds x r) same.0 (subst (IsNewRoot ds w) same.1 (new_memory version kernels ds w s b l g ranges fault))
new_root version kernels ds (Receive w s n) v r ranges fault some =
    let same = if_same w v (record { sel = s; object = Recv n }) r some in
    subst (λ (x : ℕ). IsNewRoot ds x r) same.0 (subst (IsNewRoot ds w) same.1 (new_receive version kernels ds w s n ranges fault))
new_root version kernels ds (Service w s n) v r ranges fault some =
    let same = if_same w v (record { sel = s; object = Serv n }) r some in
    subst (λ (x : ℕ). IsNewRoot ds x r) same.0 (subst (IsNewRoot ds w) same.1 (new_service version kernels ds w s n ranges fault))
new_root version kernels ds d v r ranges fault some = absurd (none-some r some)

not_held : (roots : List Root) (s : ℕ) → holds_at roots s ≡ false → (k : ℕ) (d : Root) → k < length roots → (get_or roots k d).sel ≢ s
not_held [] s free k d within = absurd (omega arith)
not_held (r ∷ rs) s free zero d within = λ same. true≢false (sym (eq-eqb _ _ same) ∙ and_left _ _ free)
not_held (r ∷ rs) s free (suc k) d within = not_held rs s (or_right _ _ free) k d (omega arith)

no_roots : (v : ℕ) → roots_in [] v ≡ []
unfolding roots_in
no_roots v = refl

-- the roots of a VPE are roots, at selectors of their own
pub record AreRoots (roots : List Root) : Type 0 where
  pub valid : All IsRoot roots
  pub differ : AllPairs (λ a b. a.sel ≢ b.sel) roots

one_root_more : (version kernels : ℕ) (ds : List Declaration) (d : Declaration) → ((v : ℕ) → AreRoots (roots_in ds v)) → IsInRange version kernels d →
    context_fault ds d ≡ None → (v : ℕ) → AreRoots (roots_in (ds ++ d ∷ []) v)
one_root_more version kernels ds d so_far ranges fault v =
    elim (some_or_none (said_root v d)) [
      | inl none ↦ rw (roots_in-same ds d v none) (so_far v)
      | inr some ↦
          let new = new_root version kernels ds d v some.0 ranges fault some.1 in
          rw (roots_in-new ds d v some.0 some.1) (record {
            valid = All-push IsRoot (roots_in ds v) some.0 (so_far v).valid new.valid;
            differ = all_pairs_push (λ (a b : Root). a.sel ≢ b.sel) (roots_in ds v) some.0 (so_far v).differ (not_held (roots_in ds v) some.0.sel new.free);
          })
    ]

pub roots : (version kernels : ℕ) (ds : List Declaration) → AreAccepted version kernels ds → (v : ℕ) → AreRoots (roots_in ds v)
roots version kernels = by_lines version kernels (λ ds. (v : ℕ) → AreRoots (roots_in ds v))
    (λ v. rw (no_roots v) (record { valid = All-nil IsRoot; differ = λ i j d lt within. absurd (omega arith) }))
    (one_root_more version kernels)

-- the calls of a VPE are calls
said_call_is : (version kernels : ℕ) (v : ℕ) (d : Declaration) (call : Call) → IsInRange version kernels d → said_call v d ≡ Some call →
    IsValidCall (most_vpes version) call
said_call_is version kernels v (Calls w c) call ranges some = subst (IsValidCall (most_vpes version)) (if_same w v c call some).1 ranges.1
said_call_is version kernels v d call ranges some = absurd (none-some call some)

no_calls : (v : ℕ) → calls_in [] v ≡ []
unfolding calls_in
no_calls v = refl

pub calls : (version kernels : ℕ) (ds : List Declaration) → AreAccepted version kernels ds → (v : ℕ) → All (IsValidCall (most_vpes version)) (calls_in ds v)
calls version kernels = by_lines version kernels (λ ds. (v : ℕ) → All (IsValidCall (most_vpes version)) (calls_in ds v))
    (λ v. rw (no_calls v) (All-nil (IsValidCall (most_vpes version))))
    (λ ds d so_far ranges fault v.
    elim (some_or_none (said_call v d)) [
      | inl none ↦ rw (calls_in-same ds d v none) (so_far v)
      | inr some ↦ rw (calls_in-new ds d v some.0 some.1) (All-push (IsValidCall (most_vpes version)) (calls_in ds v) some.0 (so_far v)
          (said_call_is version kernels v d some.0 ranges some.1))
    ])

-- the selectors of offers, and the numbers of kills
if_both : (a b : Bool) (x y : ℕ) → cond (a && b) (Some x) None ≡ Some y → x ≡ y
if_both true true x y some = same_Some x y some
if_both true false x y some = absurd (none-some y some)
if_both false b x y some = absurd (none-some y some)

said_offer_range : (version kernels name index : ℕ) (d : Declaration) (s : ℕ) → IsInRange version kernels d → said_offer name index d ≡ Some s → s < 256
said_offer_range version kernels name index (Offer n i t) s ranges some = rw (← if_both (n == name) (i == index) t s some) ranges.2
said_offer_range version kernels name index d s ranges some = absurd (none-some s some)

no_offer : (name index s : ℕ) → offer_in [] name index ≡ Some s → ⊥
unfolding offer_in
no_offer name index s some = none-some s some

pub offers : (version kernels : ℕ) (ds : List Declaration) → AreAccepted version kernels ds → (name index s : ℕ) → offer_in ds name index ≡ Some s → s < 256
offers version kernels = by_lines version kernels (λ ds. (name index s : ℕ) → offer_in ds name index ≡ Some s → s < 256)
    (λ name index s some. absurd (no_offer name index s some))
    (λ ds d so_far ranges fault name index s some.
    elim (or_last (offer_in ds name index) (said_offer name index d) s (sym (offer_in-more ds d name index) ∙ some)) [
      | inl old ↦ so_far name index s old
      | inr new ↦ said_offer_range version kernels name index d s ranges new.1
    ])

said_kill_range : (version kernels v : ℕ) (d : Declaration) (n : ℕ) → IsInRange version kernels d → said_kill v d ≡ Some n → IsWord n
said_kill_range version kernels v (Kill w m) n ranges some = rw (← (if_same w v m n some).1) ranges.1
said_kill_range version kernels v d n ranges some = absurd (none-some n some)

no_kill : (v n : ℕ) → kill_in [] v ≡ Some n → ⊥
unfolding kill_in
no_kill v n some = none-some n some

pub kills : (version kernels : ℕ) (ds : List Declaration) → AreAccepted version kernels ds → (v n : ℕ) → kill_in ds v ≡ Some n → IsWord n
kills version kernels = by_lines version kernels (λ ds. (v n : ℕ) → kill_in ds v ≡ Some n → IsWord n)
    (λ v n some. absurd (no_kill v n some))
    (λ ds d so_far ranges fault v n some.
    elim (or_last (kill_in ds v) (said_kill v d) n (sym (kill_in-more ds d v) ∙ some)) [
      | inl old ↦ so_far v n old
      | inr new ↦ said_kill_range version kernels v d n ranges new.1
    ])

-- a window that is told is one of the version
said_window_range : (version kernels : ℕ) (d : Declaration) (n : ℕ) → IsInRange version kernels d → said_window d ≡ Some n → IsWindow version n
said_window_range version kernels (Window w) n ranges some = subst (IsWindow version) (same_Some w n some) ranges
said_window_range version kernels d n ranges some = absurd (none-some n some)

no_window : (n : ℕ) → window_in [] ≡ Some n → ⊥
unfolding window_in
no_window n some = none-some n some

pub windows : (version kernels : ℕ) (ds : List Declaration) → AreAccepted version kernels ds → (n : ℕ) → window_in ds ≡ Some n → IsWindow version n
windows version kernels = by_lines version kernels (λ ds. (n : ℕ) → window_in ds ≡ Some n → IsWindow version n)
    (λ n some. absurd (no_window n some))
    (λ ds d so_far ranges fault n some.
    elim (or_last (window_in ds) (said_window d) n (sym (window_in-more ds d) ∙ some)) [
      | inl old ↦ so_far n old
      | inr new ↦ said_window_range version kernels d n ranges new.1
    ])

-- there are few calls
call_fits : (ds : List Declaration) (d : Declaration) → call_number ds ≤ 20000 → context_fault ds d ≡ None → call_number ds + cond (is_call_line d) 1 0 ≤ 20000
call_fits ds (Calls v c) so_far fault = let few : call_number ds < 20000 = leb-false 20000 (call_number ds) (no_fault ds (Calls v c) fault).3 in omega arith
call_fits ds d so_far fault = omega arith

no_call : call_number [] ≡ 0
unfolding call_number
no_call = refl

pub few_calls : (version kernels : ℕ) (ds : List Declaration) → AreAccepted version kernels ds → call_number ds ≤ 20000
few_calls version kernels = by_lines version kernels (λ ds. call_number ds ≤ 20000) (rw no_call (omega arith))
    (λ ds d so_far ranges fault. rw (call_number-more ds d) (call_fits ds d so_far fault))

-- a service that a VPE has at a place of its roots
pub record Serves (ds : List Declaration) (v i name : ℕ) : Type 0 where
  pub root : Root
  pub at : slice_get (roots_in ds v) i ≡ Some root
  pub is : root.object ≡ Serv name

get_last : {X : Type 0} (xs : List X) (y x : X) (i : ℕ) → slice_get (xs ++ y ∷ []) i ≡ Some x → (slice_get xs i ≡ Some x) ⊎ ((i ≡ length xs) × (y ≡ x))
get_last [] y x zero some = inr (refl, same_Some y x some)
get_last [] y x (suc i) some = absurd (none-some x some)
get_last (z ∷ zs) y x zero some = inl some
get_last (z ∷ zs) y x (suc i) some =
    elim (get_last zs y x i some) [
      | inl old ↦ inl old
      | inr new ↦ inr (ap suc new.0, new.1)
    ]

is_serv : Object → Bool
is_serv (Serv name) = true
is_serv object = false

mem_serv : (b l g name : ℕ) → Mem b l g ≡ Serv name → ⊥
unfolding is_serv
mem_serv b l g name same = true≢false (sym (ap is_serv same))

recv_serv : (n name : ℕ) → Recv n ≡ Serv name → ⊥
unfolding is_serv
recv_serv n name same = true≢false (sym (ap is_serv same))

server : Declaration → ℕ
server (Service v s name) = v
server d = 0

same_server : (v w s t m n : ℕ) → Service v s m ≡ Service w t n → v ≡ w
unfolding server
same_server v w s t m n same = ap server same

no_server : (v i name : ℕ) → Serves [] v i name → ⊥
no_server v i name serves = let e : slice_get (roots_in [] v) i ≡ Some serves.root = serves.at in none-some serves.root (rw (no_roots v) at e)

-- a line declares a service of a VPE
said_service : (v : ℕ) (d : Declaration) (r : Root) (name : ℕ) → said_root v d ≡ Some r → r.object ≡ Serv name → d ≡ Service v r.sel name
said_service v (Memory w s b l g) r name some is =
    let same = if_same w v (record { sel = s; object = Mem b l g }) r some in
    let e : Mem b l g ≡ Serv name = ap (λ (x : Root). x.object) same.1 ∙ is in absurd (mem_serv b l g name e)
said_service v (Receive w s n) r name some is =
    let same = if_same w v (record { sel = s; object = Recv n }) r some in
    let e : Recv n ≡ Serv name = ap (λ (x : Root). x.object) same.1 ∙ is in absurd (recv_serv n name e)
said_service v (Service w s n) r name some is =
    let same = if_same w v (record { sel = s; object = Serv n }) r some in
    let sel : s ≡ r.sel = ap (λ (x : Root). x.sel) same.1 in
    let e : Serv n ≡ Serv name = ap (λ (x : Root). x.object) same.1 ∙ is in
    let named : n ≡ name = cc in
    rw (same.0, sel, named) refl
said_service v d r name some is = absurd (none-some r some)

-- a service at a place is one that was there, or that the last line declares at the end
served : (ds : List Declaration) (d : Declaration) (v i name : ℕ) → Serves (ds ++ d ∷ []) v i name →
    Serves ds v i name ⊎ ((s : ℕ) × (d ≡ Service v s name) × (i ≡ length (roots_in ds v)))
served ds d v i name serves =
    elim (some_or_none (said_root v d)) [
      | inl none ↦ inl (record { root = serves.root; at = rw (roots_in-same ds d v none) at serves.at; is = serves.is })
      | inr some ↦
          let at : slice_get (roots_in ds v ++ some.0 ∷ []) i ≡ Some serves.root = rw (roots_in-new ds d v some.0 some.1) at serves.at in
          elim (get_last (roots_in ds v) some.0 serves.root i at) [
            | inl old ↦ inl (record { root = serves.root; at = old; is = serves.is })
            | inr new ↦ inr (serves.root.sel, said_service v d serves.root name (some.1 ∙ ap Some new.1) serves.is, new.0)
          ]
    ]

-- no two services have one name
pub record AreNamed (ds : List Declaration) : Type 0 where
  pub named : (v i name : ℕ) → Serves ds v i name → has_service ds name ≡ true
  pub once : (v i w j name : ℕ) → Serves ds v i name → Serves ds w j name → (v ≡ w) × (i ≡ j)
  pub small : (v i name : ℕ) → Serves ds v i name → name ≤ 255

one_service_more : (version kernels : ℕ) (ds : List Declaration) (d : Declaration) → AreNamed ds → IsInRange version kernels d → context_fault ds d ≡ None →
    AreNamed (ds ++ d ∷ [])
one_service_more version kernels ds d so_far ranges fault =
    let free : (v s name : ℕ) → d ≡ Service v s name →
    has_service ds name ≡ false = λ v s name is. or_right _ _ (no_fault ds (Service v s name) (rw is at fault)).2 in
    record {
      named = λ v i name serves.
          elim (served ds d v i name serves) [
            | inl old ↦ has_service-kept ds d name (so_far.named v i name old)
            | inr new ↦ rw new.1 (has_service-new ds (Service v new.0 name) name (eq-eqb name name refl))
          ];
      once = λ v i w j name serves serves'.
          elim (served ds d v i name serves) [
            | inl old ↦ elim (served ds d w j name serves') [
              | inl old' ↦ so_far.once v i w j name old old'
              | inr new ↦ absurd (true≢false (sym (so_far.named v i name old) ∙ free w new.0 name new.1))
            ]
            | inr new ↦ elim (served ds d w j name serves') [
              | inl old ↦ absurd (true≢false (sym (so_far.named w j name old) ∙ free v new.0 name new.1))
              | inr new' ↦
                  let same : v ≡ w = same_server v w new.0 new'.0 name name (sym new.1 ∙ new'.1) in
                  (same, new.2 ∙ (ap (λ (u : ℕ). length (roots_in ds u)) same ∙ sym new'.2))
            ]
          ];
      small = λ v i name serves.
          elim (served ds d v i name serves) [
            | inl old ↦ so_far.small v i name old
            | inr new ↦ let r : IsInRange version kernels (Service v new.0 name) = rw new.1 at ranges in r.2
          ];
    }

pub named : (version kernels : ℕ) (ds : List Declaration) → AreAccepted version kernels ds → AreNamed ds
named version kernels = by_lines version kernels AreNamed
    (record {
      named = λ v i name serves. absurd (no_server v i name serves);
      once = λ v i w j name serves serves'. absurd (no_server v i name serves);
      small = λ v i name serves. absurd (no_server v i name serves);
    })
    (one_service_more version kernels)

-- the VPEs of a denied pair are declared
both_true : (a b : Bool) → (a && b) ≡ true → (a ≡ true) × (b ≡ true)
both_true true b some = (refl, some)
both_true false b some = absurd (true≢false (sym some))

says_declared : (ds : List Declaration) (d : Declaration) (v w : ℕ) → says_deny v w d ≡ true → context_fault ds d ≡ None →
    IsSome (pe_in ds v) × IsSome (pe_in ds w)
says_declared ds (Deny a b) v w says fault =
    let none = (no_fault ds (Deny a b) fault).1 in
    let same = both_true (a == v) (b == w) says in
    let first : IsSome (pe_in ds a) = not_none (pe_in ds a) (and_left (is_none (pe_in ds a)) (is_none (pe_in ds b)) none) in
    let second : IsSome (pe_in ds b) = not_none (pe_in ds b) (or_right (is_none (pe_in ds a)) (is_none (pe_in ds b)) none) in
    (subst (λ (n : ℕ). IsSome (pe_in ds n)) (eqb-true a v same.0) first, subst (λ (n : ℕ). IsSome (pe_in ds n)) (eqb-true b w same.1) second)
says_declared ds d v w says fault = absurd (true≢false (sym says))

nobody_denied : (v w : ℕ) → is_denied [] v w ≡ true → ⊥
unfolding is_denied
nobody_denied v w some = true≢false (sym some)

still_declared : (ds : List Declaration) (d : Declaration) (v : ℕ) → IsSome (pe_in ds v) → IsSome (pe_in (ds ++ d ∷ []) v)
still_declared ds d v some = rw (pe_in-more ds d v) (some_or (pe_in ds v) (said_pe v d) some)

pub denied : (version kernels : ℕ) (ds : List Declaration) → AreAccepted version kernels ds → (v w : ℕ) → is_denied ds v w ≡ true →
    IsSome (pe_in ds v) × IsSome (pe_in ds w)
denied version kernels = by_lines version kernels (λ ds. (v w : ℕ) → is_denied ds v w ≡ true → IsSome (pe_in ds v) × IsSome (pe_in ds w))
    (λ v w some. absurd (nobody_denied v w some))
    (λ ds d so_far ranges fault v w some.
    let both : IsSome (pe_in ds v) × IsSome (pe_in ds w) =
    elim (cases_Bool (says_deny v w d)) [
      | inl says ↦ says_declared ds d v w says fault
      | inr other ↦ so_far v w (sym (is_denied-same ds d v w other) ∙ some)
    ]
    in
    (still_declared ds d v both.0, still_declared ds d w both.1))

-- what is offered has a service and a small index
said_offer_declared : (version kernels : ℕ) (ds : List Declaration) (d : Declaration) (name index s : ℕ) → IsInRange version kernels d →
    context_fault ds d ≡ None → said_offer name index d ≡ Some s → (has_service ds name ≡ true) × (index ≤ 255)
said_offer_declared version kernels ds (Offer n i t) name index s ranges fault some =
    elim (cases_Bool ((n == name) && (i == index))) [
      | inl same ↦
          let both = both_true (n == name) (i == index) same in
          let small : i ≤ 255 = ranges.1 in (
            subst (λ (m : ℕ). has_service ds m ≡ true) (eqb-true n name both.0) (not_false (has_service ds n) (no_fault ds (Offer n i t) fault).1),
            subst (λ (j : ℕ). j ≤ 255) (eqb-true i index both.1) small,
          )
      | inr other ↦ let e : None ≡ Some s = rw other at some in absurd (none-some s e)
    ]
  where
    not_false : (b : Bool) → not b ≡ false → b ≡ true
    not_false true no' = refl
    not_false false no' = absurd (true≢false no')
said_offer_declared version kernels ds d name index s ranges fault some = absurd (none-some s some)

pub offer_declared : (version kernels : ℕ) (ds : List Declaration) → AreAccepted version kernels ds → (name index s : ℕ) → offer_in ds name index ≡ Some s →
    (has_service ds name ≡ true) × (index ≤ 255)
offer_declared version kernels = by_lines version kernels (λ ds. (name index s : ℕ) → offer_in ds name index ≡ Some s →
    (has_service ds name ≡ true) × (index ≤ 255))
    (λ name index s some. absurd (no_offer name index s some))
    (λ ds d so_far ranges fault name index s some.
    let both : (has_service ds name ≡ true) × (index ≤ 255) =
    elim (or_last (offer_in ds name index) (said_offer name index d) s (sym (offer_in-more ds d name index) ∙ some)) [
      | inl old ↦ so_far name index s old
      | inr new ↦ said_offer_declared version kernels ds d name index s ranges fault new.1
    ]
    in
    (has_service-kept ds d name both.0, both.1))

-- a service that is named is one of the roots of a VPE that is declared
pub record IsServedBy (ds : List Declaration) (name : ℕ) : Type 0 where
  pub vpe : ℕ
  pub place : ℕ
  pub serves : Serves ds vpe place name
  pub declared : IsSome (pe_in ds vpe)

get_kept : {X : Type 0} (xs ys : List X) (x : X) (i : ℕ) → slice_get xs i ≡ Some x → slice_get (xs ++ ys) i ≡ Some x
get_kept [] ys x i some = absurd (none-some x some)
get_kept (z ∷ zs) ys x zero some = some
get_kept (z ∷ zs) ys x (suc i) some = get_kept zs ys x i some

get_end : {X : Type 0} (xs : List X) (x : X) → slice_get (xs ++ x ∷ []) (length xs) ≡ Some x
get_end [] x = refl
get_end (z ∷ zs) x = get_end zs x

still_serves : (ds : List Declaration) (d : Declaration) (v i name : ℕ) → Serves ds v i name → Serves (ds ++ d ∷ []) v i name
still_serves ds d v i name serves =
    elim (some_or_none (said_root v d)) [
      | inl none ↦ record { root = serves.root; at = rw (roots_in-same ds d v none) serves.at; is = serves.is }
      | inr some ↦ record {
        root = serves.root;
        at = rw (roots_in-new ds d v some.0 some.1) (get_kept (roots_in ds v) (some.0 ∷ []) serves.root i serves.at);
        is = serves.is;
      }
    ]

now_serves : (ds : List Declaration) (d : Declaration) (name : ℕ) → says_service name d ≡ true → context_fault ds d ≡ None → IsServedBy (ds ++ d ∷ []) name
now_serves ds (Service v s n) name says fault =
    let root : Root = record { sel = s; object = Serv n } in
    let said : said_root v (Service v s n) ≡ Some root = rw (eq-eqb v v refl) refl in
    let there' : IsSome (pe_in ds v) = not_none (pe_in ds v) (no_fault ds (Service v s n) fault).1 in
    record {
      vpe = v;
      place = length (roots_in ds v);
      serves = record {
        root = root;
        at = rw (roots_in-new ds (Service v s n) v root said) (get_end (roots_in ds v) root);
        is = ap Serv (eqb-true n name says);
      };
      declared = still_declared ds (Service v s n) v there';
    }
now_serves ds d name says fault = absurd (true≢false (sym says))

no_name : (name : ℕ) → has_service [] name ≡ true → ⊥
unfolding has_service
no_name name some = true≢false (sym some)

pub served_by : (version kernels : ℕ) (ds : List Declaration) → AreAccepted version kernels ds → (name : ℕ) → has_service ds name ≡ true → IsServedBy ds name
served_by version kernels = by_lines version kernels (λ ds. (name : ℕ) → has_service ds name ≡ true → IsServedBy ds name)
    (λ name some. absurd (no_name name some))
    (λ ds d so_far ranges fault name some.
    elim (cases_Bool (says_service name d)) [
      | inl says ↦ now_serves ds d name says fault
      | inr other ↦
          let old = so_far name (sym (has_service-same ds d name other) ∙ some) in
          record {
            vpe = old.vpe;
            place = old.place;
            serves = still_serves ds d old.vpe old.place name old.serves;
            declared = still_declared ds d old.vpe old.declared;
          }
    ])
