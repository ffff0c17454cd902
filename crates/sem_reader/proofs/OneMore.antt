-- What is declared where one line more is said.
use Rattle.std.proofs.Common.{◌≡◌, ℕ, ◌+◌, ◌<◌, ◌==◌, ◌⊎◌, inl, inr, Bool, true, false, cond, ◌||◌, ◌&&◌, List, [], ◌∷◌, ◌++◌, length, get_or, set, Option}
use Rattle.std.proofs.Common.{Some, None, true≢false, subst, refl, ap, sym, ◌∙◌, eq-eqb, ne_eqb}
use Rattle.std.specs.List.{filter_map, list_any, cons_option}
use Rattle.std.specs.Option.{option_or, is_some}
use Rattle.std.proofs.lemmas.Bool.{cases_eq}
use Rattle.std.proofs.lemmas.Option.{none-some}
use Rattle.std.proofs.lemmas.List.Sums.{sum_by_push}
use Rattle.std.proofs.lemmas.List.{get_or-set_same, get_or-set_other}
use Rattle.sem_trace.specs.declared.declaration.Declaration.{Declaration}
use Rattle.sem_trace.specs.Earlier.{first_some, said_window, window_in, said_owner, owner_in, said_pe, pe_in, says_on, is_pe_taken, said_root, roots_in, said_call}
use Rattle.sem_trace.specs.Earlier.{calls_in, says_service, has_service, said_offer, offer_in, says_deny, is_denied, said_kill, kill_in, is_call_line, call_number}
use Rattle.sem_trace.specs.Earlier.{is_end, is_ended}
use Rattle.sem_msg.specs.declared.call.Call.{Call}
use Rattle.sem_msg.specs.declared.setup.Root.{Root}
use Rattle.sem_trace.specs.Ranges.{IsInRange}
use Rattle.sem_trace.specs.Context.{context_fault, is_too_long, is_undeclared, is_twice, is_call_too_many}
use Rattle.sem_trace.proofs.ReadText.{first_same}
use Rattle.sem_reader.specs.Accepted.{AreAccepted}

-- where the first of two is not there, the second is told
or_none : {Y : Type 0} (o p q : Option Y) (y : Y) → option_or o p ≡ None → (p ≡ None → q ≡ Some y) → option_or o q ≡ Some y
or_none None p q y none then' = then' none
or_none (Some x) p q y none then' = absurd (none-some x (sym none))

or_nothing : {Y : Type 0} (o : Option Y) → option_or o None ≡ o
or_nothing None = refl
or_nothing (Some y) = refl

or_or : {Y : Type 0} (o p q : Option Y) → option_or (option_or o p) q ≡ option_or o (option_or p q)
or_or None p q = refl
or_or (Some y) p q = refl

or_false : (b : Bool) → (b || false) ≡ b
or_false true = refl
or_false false = refl

or_or_bool : (a b c : Bool) → (a || (b || c)) ≡ ((a || b) || c)
or_or_bool true b c = refl
or_or_bool false b c = refl

or_true : (b : Bool) → (b || true) ≡ true
or_true true = refl
or_true false = refl

cons_option-append : {Y : Type 0} (o : Option Y) (ys zs : List Y) → cons_option o (ys ++ zs) ≡ cons_option o ys ++ zs
cons_option-append None ys zs = refl
cons_option-append (Some x) ys zs = refl

-- a test that does not hold
no_cond : {Y : Type 0} (b : Bool) (y : Y) (o : Option Y) → cond b (Some y) o ≡ None → (b ≡ false) × (o ≡ None)
no_cond true y o none = absurd (none-some y (sym none))
no_cond false y o none = (refl, none)

abbrev is_cons : {Y : Type 0} → List Y → Bool
is_cons [] = false
is_cons (y ∷ ys) = true

cons_nil : {Y : Type 0} (x : Y) (xs : List Y) → x ∷ xs ≡ [] → ⊥
cons_nil x xs is = true≢false (ap is_cons is)

module _ {X : Type 0} where
  pub first_more : {Y : Type 0} (h : X → Option Y) (xs : List X) (x : X) → first_some h (xs ++ x ∷ []) ≡ option_or (first_some h xs) (h x)
  first_more h [] x = or_nothing (h x)
  first_more h (y ∷ ys) x = ap (option_or (h y)) (first_more h ys x) ∙ sym (or_or (h y) (first_some h ys) (h x))

  first_new : {Y : Type 0} (h : X → Option Y) (xs : List X) (x : X) (y : Y) → first_some h xs ≡ None → h x ≡ Some y → first_some h (xs ++ x ∷ []) ≡ Some y
  first_new h [] x y none some = rw some refl
  first_new h (z ∷ zs) x y none some = or_none (h z) (first_some h zs) (first_some h (zs ++ x ∷ [])) y none (λ rest. first_new h zs x y rest some)

  any_same : (p : X → Bool) (xs : List X) (x : X) → p x ≡ false → list_any p (xs ++ x ∷ []) ≡ list_any p xs
  any_same p [] x no' = rw no' refl
  any_same p (y ∷ ys) x no' = ap (λ b. p y || b) (any_same p ys x no')

  pub any_more : (p : X → Bool) (xs : List X) (x : X) → list_any p (xs ++ x ∷ []) ≡ (list_any p xs || p x)
  any_more p [] x = or_false (p x)
  any_more p (y ∷ ys) x = ap (λ b. p y || b) (any_more p ys x) ∙ or_or_bool (p y) (list_any p ys) (p x)

  any_new : (p : X → Bool) (xs : List X) (x : X) → p x ≡ true → list_any p (xs ++ x ∷ []) ≡ true
  any_new p [] x yes' = rw yes' refl
  any_new p (y ∷ ys) x yes' = rw (any_new p ys x yes') (or_true (p y))

  all_same : {Y : Type 0} (h : X → Option Y) (xs : List X) (x : X) → h x ≡ None → filter_map h (xs ++ x ∷ []) ≡ filter_map h xs
  all_same h [] x none = rw none refl
  all_same h (y ∷ ys) x none = ap (cons_option (h y)) (all_same h ys x none)

  all_new : {Y : Type 0} (h : X → Option Y) (xs : List X) (x : X) (y : Y) → h x ≡ Some y → filter_map h (xs ++ x ∷ []) ≡ filter_map h xs ++ y ∷ []
  all_new h [] x y some = rw some refl
  all_new h (z ∷ zs) x y some = rw (all_new h zs x y some) (cons_option-append (h z) (filter_map h zs) (y ∷ []))

and_false : (b : Bool) → (b && false) ≡ false
and_false true = refl
and_false false = refl

-- a number is itself and no other
pub same_number : {Y : Type 0} (n : ℕ) (x y : Y) → cond (n == n) x y ≡ x
same_number n x y = rw (eq-eqb n n refl) refl

pub other_number : {Y : Type 0} (m n : ℕ) (x y : Y) → (n ≡ m → ⊥) → cond (m == n) x y ≡ y
other_number m n x y other = rw (ne_eqb m n (λ e. other (sym e))) refl

-- a table in which one entry is written
pub table_set : {Y : Type 0} (table : List Y) (i : ℕ) (x d : Y) (f g : ℕ → Y) → i < length table → ((u : ℕ) → get_or table u d ≡ f u) → g i ≡ x →
    ((u : ℕ) → (u ≡ i → ⊥) → g u ≡ f u) → (u : ℕ) → get_or (set table i x) u d ≡ g u
table_set table i x d f g within tells here others u =
    elim (cases_eq u i) [
      | inl same ↦ rw (same, get_or-set_same table i x d within) (sym here)
      | inr other ↦ rw (get_or-set_other table i u x d other) (tells u ∙ sym (others u other))
    ]

pub is_none : {Y : Type 0} (o : Option Y) → is_some o ≡ false → o ≡ None
is_none None none = refl
is_none (Some x) none = absurd (true≢false none)

pub owner_in-same : (ds : List Declaration) (d : Declaration) (p : ℕ) → said_owner p d ≡ None → owner_in (ds ++ d ∷ []) p ≡ owner_in ds p
unfolding owner_in
owner_in-same ds d p nothing = first_same (said_owner p) ds d nothing

pub owner_in-new : (ds : List Declaration) (d : Declaration) (p x : ℕ) → owner_in ds p ≡ None → said_owner p d ≡ Some x → owner_in (ds ++ d ∷ []) p ≡ Some x
unfolding owner_in
owner_in-new ds d p x none some = first_new (said_owner p) ds d x none some

pub pe_in-same : (ds : List Declaration) (d : Declaration) (v : ℕ) → said_pe v d ≡ None → pe_in (ds ++ d ∷ []) v ≡ pe_in ds v
unfolding pe_in
pe_in-same ds d v nothing = first_same (said_pe v) ds d nothing

pub pe_in-new : (ds : List Declaration) (d : Declaration) (v x : ℕ) → pe_in ds v ≡ None → said_pe v d ≡ Some x → pe_in (ds ++ d ∷ []) v ≡ Some x
unfolding pe_in
pe_in-new ds d v x none some = first_new (said_pe v) ds d x none some

pub window_in-same : (ds : List Declaration) (d : Declaration) → said_window d ≡ None → window_in (ds ++ d ∷ []) ≡ window_in ds
unfolding window_in
window_in-same ds d nothing = first_same said_window ds d nothing

pub window_in-new : (ds : List Declaration) (d : Declaration) (x : ℕ) → window_in ds ≡ None → said_window d ≡ Some x → window_in (ds ++ d ∷ []) ≡ Some x
unfolding window_in
window_in-new ds d x none some = first_new said_window ds d x none some

pub kill_in-same : (ds : List Declaration) (d : Declaration) (v : ℕ) → said_kill v d ≡ None → kill_in (ds ++ d ∷ []) v ≡ kill_in ds v
unfolding kill_in
kill_in-same ds d v nothing = first_same (said_kill v) ds d nothing

pub kill_in-new : (ds : List Declaration) (d : Declaration) (v x : ℕ) → kill_in ds v ≡ None → said_kill v d ≡ Some x → kill_in (ds ++ d ∷ []) v ≡ Some x
unfolding kill_in
kill_in-new ds d v x none some = first_new (said_kill v) ds d x none some

pub is_taken-same : (ds : List Declaration) (d : Declaration) (p : ℕ) → says_on p d ≡ false → is_pe_taken (ds ++ d ∷ []) p ≡ is_pe_taken ds p
unfolding is_pe_taken
is_taken-same ds d p nothing = any_same (says_on p) ds d nothing

pub is_taken-new : (ds : List Declaration) (d : Declaration) (p : ℕ) → says_on p d ≡ true → is_pe_taken (ds ++ d ∷ []) p ≡ true
unfolding is_pe_taken
is_taken-new ds d p some = any_new (says_on p) ds d some

pub has_service-same : (ds : List Declaration) (d : Declaration) (name : ℕ) → says_service name d ≡ false →
    has_service (ds ++ d ∷ []) name ≡ has_service ds name
unfolding has_service
has_service-same ds d name nothing = any_same (says_service name) ds d nothing

pub has_service-new : (ds : List Declaration) (d : Declaration) (name : ℕ) → says_service name d ≡ true → has_service (ds ++ d ∷ []) name ≡ true
unfolding has_service
has_service-new ds d name some = any_new (says_service name) ds d some

pub roots_in-same : (ds : List Declaration) (d : Declaration) (v : ℕ) → said_root v d ≡ None → roots_in (ds ++ d ∷ []) v ≡ roots_in ds v
unfolding roots_in
roots_in-same ds d v nothing = all_same (said_root v) ds d nothing

pub roots_in-new : (ds : List Declaration) (d : Declaration) (v : ℕ) (x : Root) → said_root v d ≡ Some x → roots_in (ds ++ d ∷ []) v ≡ roots_in ds v ++ x ∷ []
unfolding roots_in
roots_in-new ds d v x some = all_new (said_root v) ds d x some

pub calls_in-same : (ds : List Declaration) (d : Declaration) (v : ℕ) → said_call v d ≡ None → calls_in (ds ++ d ∷ []) v ≡ calls_in ds v
unfolding calls_in
calls_in-same ds d v nothing = all_same (said_call v) ds d nothing

pub calls_in-new : (ds : List Declaration) (d : Declaration) (v : ℕ) (x : Call) → said_call v d ≡ Some x → calls_in (ds ++ d ∷ []) v ≡ calls_in ds v ++ x ∷ []
unfolding calls_in
calls_in-new ds d v x some = all_new (said_call v) ds d x some

pub offer_in-same : (ds : List Declaration) (d : Declaration) (name index : ℕ) → said_offer name index d ≡ None →
    offer_in (ds ++ d ∷ []) name index ≡ offer_in ds name index
unfolding offer_in
offer_in-same ds d name index nothing = first_same (said_offer name index) ds d nothing

pub offer_in-new : (ds : List Declaration) (d : Declaration) (name index x : ℕ) → offer_in ds name index ≡ None → said_offer name index d ≡ Some x →
    offer_in (ds ++ d ∷ []) name index ≡ Some x
unfolding offer_in
offer_in-new ds d name index x none some = first_new (said_offer name index) ds d x none some

pub is_denied-same : (ds : List Declaration) (d : Declaration) (v asker : ℕ) → says_deny v asker d ≡ false →
    is_denied (ds ++ d ∷ []) v asker ≡ is_denied ds v asker
unfolding is_denied
is_denied-same ds d v asker nothing = any_same (says_deny v asker) ds d nothing

pub is_denied-new : (ds : List Declaration) (d : Declaration) (v asker : ℕ) → says_deny v asker d ≡ true → is_denied (ds ++ d ∷ []) v asker ≡ true
unfolding is_denied
is_denied-new ds d v asker some = any_new (says_deny v asker) ds d some

pub is_ended-same : (ds : List Declaration) (d : Declaration) → is_end d ≡ false → is_ended (ds ++ d ∷ []) ≡ is_ended ds
unfolding is_ended
is_ended-same ds d nothing = any_same is_end ds d nothing

pub is_ended-new : (ds : List Declaration) (d : Declaration) → is_end d ≡ true → is_ended (ds ++ d ∷ []) ≡ true
unfolding is_ended
is_ended-new ds d some = any_new is_end ds d some

-- one call more, or none
pub call_number-more : (ds : List Declaration) (d : Declaration) → call_number (ds ++ d ∷ []) ≡ call_number ds + cond (is_call_line d) 1 0
unfolding call_number
call_number-more ds d = sum_by_push (λ d. cond (is_call_line d) 1 0) ds d

-- where nothing is wrong with a line, none of its tests holds
pub no_fault : (ds : List Declaration) (d : Declaration) → context_fault ds d ≡ None → (is_too_long d ≡ false) × (is_undeclared ds d ≡ false)
    × (is_twice ds d ≡ false) × (is_call_too_many ds d ≡ false)
unfolding context_fault
no_fault ds d none =
    let a = no_cond (is_too_long d) _ _ none in
    let b = no_cond (is_undeclared ds d) _ _ a.1 in
    let c = no_cond (is_twice ds d) _ _ b.1 in
    let e = no_cond (is_call_too_many ds d) _ _ c.1 in
    (a.0, b.0, c.0, e.0)

-- the last of a list with one element more, or one before it
last_or_before : (ds before after : List Declaration) (d e : Declaration) → ds ++ d ∷ [] ≡ before ++ e ∷ after →
    ((ds ≡ before) × (d ≡ e)) ⊎ ((rest : List Declaration) × (ds ≡ before ++ e ∷ rest))
last_or_before [] [] after d e is = inl (refl, cc)
last_or_before [] (x ∷ []) after d e is = absurd (cons_nil e after (cc))
last_or_before [] (x ∷ y ∷ xs) after d e is = absurd (cons_nil y (xs ++ e ∷ after) (cc))
last_or_before (x ∷ xs) [] after d e is = inr (xs, cc)
last_or_before (x ∷ xs) (y ∷ ys) after d e is =
    let head : x ≡ y = cc in
    elim (last_or_before xs ys after d e (cc)) [
      | inl last ↦ inl (rw (head, last.0) refl, last.1)
      | inr before ↦ inr (before.0, rw (head, before.1) refl)
    ]

-- a line more with which nothing is wrong
pub accepted_more : (version kernels : ℕ) (ds : List Declaration) (d : Declaration) → AreAccepted version kernels ds → IsInRange version kernels d →
    context_fault ds d ≡ None → AreAccepted version kernels (ds ++ d ∷ [])
accepted_more version kernels ds d accepted ranges fault before after e is =
    elim (last_or_before ds before after d e is) [
      | inl last ↦ (subst (IsInRange version kernels) last.1 ranges, rw (← last.0, ← last.1) fault)
      | inr earlier ↦ accepted before earlier.0 e earlier.1
    ]

pub accepted_none : (version kernels : ℕ) → AreAccepted version kernels []
accepted_none version kernels [] after d is = absurd (cons_nil d after (sym is))
accepted_none version kernels (x ∷ xs) after d is = absurd (cons_nil x (xs ++ d ∷ after) (sym is))

pub owner_in-more : (ds : List Declaration) (d : Declaration) (p : ℕ) → owner_in (ds ++ d ∷ []) p ≡ option_or (owner_in ds p) (said_owner p d)
unfolding owner_in
owner_in-more ds d p = first_more (said_owner p) ds d

pub pe_in-more : (ds : List Declaration) (d : Declaration) (v : ℕ) → pe_in (ds ++ d ∷ []) v ≡ option_or (pe_in ds v) (said_pe v d)
unfolding pe_in
pe_in-more ds d v = first_more (said_pe v) ds d

pub window_in-more : (ds : List Declaration) (d : Declaration) → window_in (ds ++ d ∷ []) ≡ option_or (window_in ds) (said_window d)
unfolding window_in
window_in-more ds d = first_more said_window ds d

pub kill_in-more : (ds : List Declaration) (d : Declaration) (v : ℕ) → kill_in (ds ++ d ∷ []) v ≡ option_or (kill_in ds v) (said_kill v d)
unfolding kill_in
kill_in-more ds d v = first_more (said_kill v) ds d

pub offer_in-more : (ds : List Declaration) (d : Declaration) (name index : ℕ) →
    offer_in (ds ++ d ∷ []) name index ≡ option_or (offer_in ds name index) (said_offer name index d)
unfolding offer_in
offer_in-more ds d name index = first_more (said_offer name index) ds d

pub is_taken-kept : (ds : List Declaration) (d : Declaration) (p : ℕ) → is_pe_taken ds p ≡ true → is_pe_taken (ds ++ d ∷ []) p ≡ true
unfolding is_pe_taken
is_taken-kept ds d p yes' = any_more (says_on p) ds d ∙ (rw yes' refl)

pub has_service-kept : (ds : List Declaration) (d : Declaration) (name : ℕ) → has_service ds name ≡ true → has_service (ds ++ d ∷ []) name ≡ true
unfolding has_service
has_service-kept ds d name yes' = any_more (says_service name) ds d ∙ (rw yes' refl)
