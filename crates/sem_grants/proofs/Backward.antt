-- What entries cut off, gathered from the last entry to the first.
use Rattle.std.proofs.Common.{◌≡◌, ℕ, suc, ◌-◌, ◌<◌, ◌≤◌, ◌&&◌, ◌||◌, Bool, true, false, cond, List, [], ◌∷◌, ◌++◌, length, drop, get_or, map}
use Rattle.std.proofs.Common.{Option, Some, None, refl, sym, ◌∙◌, ap, arith}
use Rattle.std.specs.List.{filter, cons_option, list_any}
use Rattle.std.specs.Option.{IfSome, option_map_or}
use Rattle.std.proofs.Math.Seq.{drop-cons}
use Rattle.std.proofs.lemmas.List.{drop_all}
use Rattle.std.proofs.lemmas.List.Folds.{list_any-append}
use Rattle.std.proofs.lemmas.List.Elements.{filter_map-append}
use Rattle.indexmap.specs.IndexSet.{IndexSet}
use Rattle.sem_key.specs.KeyName.{KeyName, IsValidKey, key_eq}
use Rattle.sem_key.specs.Region.{has_key}
use Rattle.sem_msg.specs.declared.call.Call.TheVariants.{Revoke, Clear}
use Rattle.sem_msg.specs.declared.entry.Detail.{Detail}
use Rattle.sem_msg.specs.declared.entry.Detail.TheVariants.{Called}
use Rattle.sem_msg.specs.declared.entry.Entry.{Entry}
use Rattle.sem_machine.specs.Journals.{grants, children_in, cut_off, cut_by, cut_from}
use Rattle.sem_grants.specs.Backward.{clears, revoked, cleared_child}
use Rattle.sem_grants.specs.Words.{has_word, HasWords}

abbrev Grant : Type 0
Grant = KeyName × KeyName

-- whether one of the entries clears the key
abbrev pub cleared_in : List Entry → KeyName → Bool
cleared_in es p = list_any (λ e. clears e.detail e.cut p) es

-- whether the entries cut off a key that they revoke, or that they grant before they clear its parent
abbrev pub cuts_own : List Entry → KeyName → Bool
cuts_own [] k = false
cuts_own (e ∷ es) k = has_key (cleared_child (cleared_in es) e.grant) k || (has_key (revoked e.detail e.cut) k || cuts_own es k)

-- whether a grant gives the key a parent that is cleared
abbrev under : (KeyName → Bool) → List Grant → KeyName → Bool
under is_cleared gs k = list_any (λ g. key_eq k g.1 && is_cleared g.0) gs

and_true : (b : Bool) → (b && true) ≡ b
and_true true = refl
and_true false = refl

and_false : (b : Bool) → (b && false) ≡ false
and_false true = refl
and_false false = refl

or_false : (b : Bool) → (b || false) ≡ b
or_false true = refl
or_false false = refl

under-none : (gs : List Grant) (k : KeyName) → under (λ p. false) gs k ≡ false
under-none [] k = refl
under-none (g ∷ gs) k = rw (and_false (key_eq k g.1)) (under-none gs k)

spread : (a b c s t : Bool) → ((a && (b || c)) || (s || t)) ≡ (((a && b) || s) || ((a && c) || t))
spread true true c s t = refl
spread true false true true t = refl
spread true false true false t = refl
spread true false false s t = refl
spread false b c s t = refl

under-either : (p q : KeyName → Bool) (gs : List Grant) (k : KeyName) → under (λ x. p x || q x) gs k ≡ (under p gs k || under q gs k)
under-either p q [] k = refl
under-either p q (g ∷ gs) k = ap (λ (b : Bool). (key_eq k g.1 && (p g.0 || q g.0)) || b) (under-either p q gs k)
    ∙ spread (key_eq k g.1) (p g.0) (q g.0) (under p gs k) (under q gs k)

-- the children of a cleared key
children-has : (gs : List Grant) (p k : KeyName) → has_key (children_in gs p) k ≡ under (λ x. key_eq x p) gs k
children-has [] p k = refl
children-has (g ∷ gs) p k = from (key_eq g.0 p) (children-has gs p k)
  where
    from : (b : Bool) → has_key (children_in gs p) k ≡ under (λ x. key_eq x p) gs k →
        has_key (map (λ (x : Grant). x.1) (cond b (g ∷ filter (λ x. key_eq x.0 p) gs) (filter (λ x. key_eq x.0 p) gs))) k
        ≡ ((key_eq k g.1 && b) || under (λ x. key_eq x p) gs k)
    from true same = rw (and_true (key_eq k g.1)) (ap (λ (b : Bool). key_eq k g.1 || b) same)
    from false same = rw (and_false (key_eq k g.1)) same

cut_off-has : (gs : List Grant) (d : Detail) (cut : Option KeyName) (k : KeyName) →
    has_key (option_map_or (cut_off gs d) cut []) k ≡ (has_key (revoked d cut) k || under (clears d cut) gs k)
cut_off-has gs (Called index (Revoke src)) (Some q) k = rw (under-none gs k) (sym (or_false (has_key (q ∷ []) k)))
cut_off-has gs (Called index (Clear src)) (Some q) k = children-has gs q k
cut_off-has gs d (Some q) k = sym (under-none gs k)
cut_off-has gs d None k = nothing d
  where
    nothing : (d : Detail) → false ≡ (has_key (revoked d None) k || under (clears d None) gs k)
    nothing (Called index (Revoke src)) = sym (under-none gs k)
    nothing (Called index (Clear src)) = sym (under-none gs k)
    nothing d = sym (under-none gs k)

granted-has : (p : KeyName → Bool) (o : Option Grant) (k : KeyName) → under p (cons_option o []) k ≡ has_key (cleared_child p o) k
granted-has p None k = refl
granted-has p (Some g) k = from (p g.0)
  where
    from : (b : Bool) → ((key_eq k g.1 && b) || false) ≡ has_key (cond b (g.1 ∷ []) []) k
    from true = rw (and_true (key_eq k g.1)) refl
    from false = rw (and_false (key_eq k g.1)) refl

shuffle : (r a o b g : Bool) → ((r || a) || (o || (b || g))) ≡ ((g || (r || o)) || (a || b))
shuffle r a o b g = grind arith

-- One entry, before the entries after it.
module _ (before es : List Entry) (e : Entry) (k : KeyName) where
  abbrev R : Bool
  R = has_key (revoked e.detail e.cut) k

  abbrev A : Bool
  A = under (clears e.detail e.cut) (grants before) k

  abbrev B : Bool
  B = under (cleared_in es) (grants before) k

  abbrev G : Bool
  G = has_key (cleared_child (cleared_in es) e.grant) k

  joined : under (cleared_in es) (grants (before ++ e ∷ [])) k ≡ (B || G)
  joined = ap (λ (gs : List Grant). under (cleared_in es) gs k) (filter_map-append (λ (x : Entry). x.grant) before (e ∷ []))
      ∙ (list_any-append (λ (g : Grant). key_eq k g.1 && cleared_in es g.0) (grants before) (cons_option e.grant [])
      ∙ ap (λ (b : Bool). B || b) (granted-has (cleared_in es) e.grant k))

  cut_by-has : (later : Bool) (rest : List KeyName) → has_key rest k ≡ (later || under (cleared_in es) (grants (before ++ e ∷ [])) k) →
      has_key (cut_by before e ++ rest) k ≡ ((G || (R || later)) || under (cleared_in (e ∷ es)) (grants before) k)
  cut_by-has later rest same =
      list_any-append (key_eq k) (cut_by before e) rest
      ∙ (ap (λ (b : Bool). b || has_key rest k) (cut_off-has (grants before) e.detail e.cut k)
      ∙ (ap (λ (b : Bool). (R || A) || b) (same ∙ ap (λ (b : Bool). later || b) joined)
      ∙ (shuffle R A later B G
      ∙ ap (λ (b : Bool). (G || (R || later)) || b) (sym (under-either (clears e.detail e.cut) (cleared_in es) (grants before) k)))))

-- The entries cut a key off if they do so by themselves, or clear the parent that an entry before them gave it.
cut_from-has : (before es : List Entry) (k : KeyName) →
    has_key (cut_from before es) k ≡ (cuts_own es k || under (cleared_in es) (grants before) k)
unfolding cut_from
cut_from-has before [] k = sym (under-none (grants before) k)
cut_from-has before (e ∷ es) k = cut_by-has before es e k (cuts_own es k) (cut_from (before ++ e ∷ []) es) (cut_from-has (before ++ e ∷ []) es k)

-- the last entries are gone through: what they cut off by themselves was found, and what they clear is known
pub record IsGathered {S : Type 0} (es : List Entry) (found : List KeyName) (cleared : IndexSet ℕ S) : Type 0 where
  pub has : (k : KeyName) → has_key found k ≡ cuts_own es k
  pub words : HasWords cleared (cleared_in es)

or_comm : (a b : Bool) → (a || b) ≡ (b || a)
or_comm true true = refl
or_comm true false = refl
or_comm false true = refl
or_comm false false = refl

turned : (o g r : Bool) → ((o || g) || r) ≡ (g || (r || o))
turned o g r = grind arith

same_child : {S : Type 0} (es : List Entry) (cleared : IndexSet ℕ S) (o : Option Grant) → IfSome o (λ g. IsValidKey g.0) → HasWords cleared (cleared_in es) →
    cleared_child (has_word cleared) o ≡ cleared_child (cleared_in es) o
same_child es cleared None ok so_far = refl
same_child es cleared (Some g) ok so_far = ap (λ (b : Bool). cond b (g.1 ∷ []) []) (so_far g.0 ok)

-- one entry more
step : {S : Type 0} (es : List Entry) (e : Entry) (found more all : List KeyName) (cleared wider : IndexSet ℕ S) → IfSome e.grant (λ g. IsValidKey g.0) →
    IsGathered es found cleared → more ≡ found ++ cleared_child (has_word cleared) e.grant → all ≡ more ++ revoked e.detail e.cut →
    HasWords wider (λ k. has_word cleared k || clears e.detail e.cut k) → IsGathered (e ∷ es) all wider
step es e found more all cleared wider valid so_far granted cut added = record {
  has = λ k. rw (
    cut,
    granted,
    list_any-append (key_eq k) (found ++ cleared_child (has_word cleared) e.grant) (revoked e.detail e.cut),
    list_any-append (key_eq k) found (cleared_child (has_word cleared) e.grant),
    so_far.has k,
    same_child es cleared e.grant valid so_far.words,
  )
      (turned (cuts_own es k) (has_key (cleared_child (cleared_in es) e.grant) k) (has_key (revoked e.detail e.cut) k));
  words = λ k ok. added k ok ∙ (ap (λ (b : Bool). b || clears e.detail e.cut k) (so_far.words k ok) ∙ or_comm (cleared_in es k) (clears e.detail e.cut k));
}

pub gathered-more : {S : Type 0} (J : List Entry) (i : ℕ) (e : Entry) (found more all : List KeyName) (cleared wider : IndexSet ℕ S) → 0 < i → i ≤ length J →
    e ≡ get_or J (i - 1) e → IfSome e.grant (λ g. IsValidKey g.0) → IsGathered (drop i J) found cleared →
    more ≡ found ++ cleared_child (has_word cleared) e.grant → all ≡ more ++ revoked e.detail e.cut →
    HasWords wider (λ k. has_word cleared k || clears e.detail e.cut k) → IsGathered (drop (i - 1) J) all wider
gathered-more J i e found more all cleared wider some within at valid so_far granted cut added =
    let next : suc (i - 1) ≡ i = omega arith in
    rw (drop-cons J (i - 1) e (omega arith), ← at, next) (step (drop i J) e found more all cleared wider valid so_far granted cut added)

-- no entry
pub gathered-none : {S : Type 0} (J : List Entry) (found : List KeyName) (cleared : IndexSet ℕ S) → found ≡ [] →
    ((k : KeyName) → has_word cleared k ≡ false) → IsGathered (drop (length J) J) found cleared
gathered-none J found cleared none empty = rw (none, drop_all (length J) J (omega arith)) (record { has = λ k. refl; words = λ k ok. empty k })

-- all entries
pub gathered-all : {S : Type 0} (J : List Entry) (i : ℕ) (found : List KeyName) (cleared : IndexSet ℕ S) → i ≤ 0 → IsGathered (drop i J) found cleared →
    (k : KeyName) → has_key found k ≡ has_key (cut_from [] J) k
gathered-all J i found cleared done so_far k =
    let first : i ≡ 0 = omega arith in
    rw first at (so_far.has k) ∙ sym (cut_from-has [] J k ∙ or_false (cuts_own J k))
