-- The history of a journal tells what the definitions say of the journal.
use Rattle.std.proofs.Common.{◌≡◌, ℕ, ◌+◌, Bool, true, false, not, ◌&&◌, ◌||◌, if◌then◌else◌, List, [], ◌∷◌, ◌++◌, length, Option, Some, None, refl, sym, ◌∙◌}
use Rattle.std.proofs.Common.{ap, inl, inr, arith, append_assoc, append-nil, ◌⊎◌}
use Rattle.std.specs.Prelude.{◌==◌, filter_map, flat_map, fold, option_to_list}
use Rattle.std.specs.List.{cons_option, filter, find, list_any}
use Rattle.std.specs.Option.{option_map, option_map_or}
use Rattle.std.proofs.lemmas.Bool.{cases_Bool, cond-true, cond-false}
use Rattle.sem_key.specs.KeyName.{KeyName, key_eq}
use Rattle.sem_msg.specs.declared.call.Call.TheVariants.{Derive, Gate, Obtain, Delegate, OpenSession, AskOffer, Revoke, Bind, Read, Write, Send as SendCall}
use Rattle.sem_msg.specs.declared.call.Call.TheVariants.{Credit, Exit, Clear}
use Rattle.sem_msg.specs.declared.event.Act.{Act}
use Rattle.sem_msg.specs.declared.event.Act.TheVariants.{Call as Calls, Fetch, Handle, Upcall, Resume, Flush, Kill}
use Rattle.sem_msg.specs.declared.entry.Detail.{Detail}
use Rattle.sem_msg.specs.declared.entry.Detail.TheVariants.{Called, Carried, Asked, Nothing}
use Rattle.sem_msg.specs.declared.entry.Entry.{Entry}
use Rattle.sem_msg.specs.declared.entry.Reply.{Reply}
use Rattle.sem_msg.specs.Journal.{replies}
use Rattle.sem_key.specs.Region.{has_key}
use Rattle.sem_machine.specs.Journals.{grants, ends, has_ended, cut_by, cut_from, first_reply, is_success, succeeds as succeeds_in, answered, answered_from}
use Rattle.sem_safety.specs.History.{History, no_history, ended_by, cut_at, call_by, replies_to, replies_ok, note, history}

-- what is collected of entries one after the other
module _ {X : Type 0} (field : History → List X) (part : Entry → Option X) (more : (h : History) (e : Entry) →
    field (note h e) ≡ field h ++ option_to_list (part e)) where
  collected : (h : History) (J : List Entry) → field (fold note h J) ≡ field h ++ filter_map part J
  collected h [] = sym (append-nil (field h))
  collected h (e ∷ J) = collected (note h e) J
      ∙ (ap (λ xs. xs ++ filter_map part J) (more h e)
      ∙ (append_assoc (field h) (option_to_list (part e)) (filter_map part J) ∙ ap (λ xs. field h ++ xs) (one (part e))))
    where
      one : (o : Option X) → option_to_list o ++ filter_map part J ≡ cons_option o (filter_map part J)
      one None = refl
      one (Some x) = refl

pub history-grants : (J : List Entry) → (history J).grants ≡ grants J
history-grants J = collected (λ h. h.grants) (λ e. e.grant) (λ h e. refl) no_history J

pub history-cuts : (J : List Entry) → (history J).cuts ≡ filter_map (λ e. e.cut) J
history-cuts J = collected (λ h. h.cuts) (λ e. e.cut) (λ h e. refl) no_history J

history-ended_list : (J : List Entry) → (history J).ended ≡ filter_map (λ e. ended_by e.event.act e.detail) J
history-ended_list J = collected (λ h. h.ended) (λ e. ended_by e.event.act e.detail) (λ h e. refl) no_history J

-- the VPEs that have ended
ends-by : (v : ℕ) (a : Act) (d : Detail) → ends v a d ≡ option_map_or (λ w. w == v) (ended_by a d) false
ends-by v (Kill w) d = refl
ends-by v (Calls w) (Called index Exit) = refl
ends-by v (Calls w) (Called index (Derive src dst off len rights)) = refl
ends-by v (Calls w) (Called index (Gate src dst label credits)) = refl
ends-by v (Calls w) (Called index (Obtain dst x src)) = refl
ends-by v (Calls w) (Called index (Delegate src x dst)) = refl
ends-by v (Calls w) (Called index (OpenSession dst name)) = refl
ends-by v (Calls w) (Called index (AskOffer dst session offer)) = refl
ends-by v (Calls w) (Called index (Revoke src)) = refl
ends-by v (Calls w) (Called index (Bind ep src)) = refl
ends-by v (Calls w) (Called index (Read ep off len)) = refl
ends-by v (Calls w) (Called index (Write ep off len)) = refl
ends-by v (Calls w) (Called index (SendCall ep len)) = refl
ends-by v (Calls w) (Called index (Credit ep)) = refl
ends-by v (Calls w) (Called index (Clear src)) = refl
ends-by v (Calls w) (Carried peer message) = refl
ends-by v (Calls w) (Asked asker answer) = refl
ends-by v (Calls w) Nothing = refl
ends-by v (Fetch j) d = refl
ends-by v Handle d = refl
ends-by v (Upcall w) d = refl
ends-by v (Resume w) d = refl
ends-by v (Flush j) d = refl

any-ended : (v : ℕ) (J : List Entry) → list_any (λ w. w == v) (filter_map (λ e. ended_by e.event.act e.detail) J) ≡ has_ended J v
any-ended v [] = refl
any-ended v (e ∷ J) = first (ended_by e.event.act e.detail) (any-ended v J) ∙ ap (λ b. b || has_ended J v) (sym (ends-by v e.event.act e.detail))
  where
    first : (o : Option ℕ) → list_any (λ w. w == v) (filter_map (λ e. ended_by e.event.act e.detail) J) ≡ has_ended J v →
        list_any (λ w. w == v) (cons_option o (filter_map (λ e. ended_by e.event.act e.detail) J)) ≡ (option_map_or (λ w. w == v) o false || has_ended J v)
    first None rest = rest
    first (Some w) rest = ap (λ b. (w == v) || b) rest

pub history-ended : (J : List Entry) (v : ℕ) → list_any (λ w. w == v) (history J).ended ≡ has_ended J v
history-ended J v = ap (list_any (λ w. w == v)) (history-ended_list J) ∙ any-ended v J

pub history-entries : (J : List Entry) → (history J).entries ≡ length J
history-entries J = from no_history J ∙ omega arith
  where
    from : (h : History) (J : List Entry) → (fold note h J).entries ≡ h.entries + length J
    from h [] = omega arith
    from h (e ∷ J) = from (note h e) J ∙ omega arith

-- The answered keys.

-- the keys that these calls cut off whose first reply in the journal is success
abbrev answered_in : List Entry → List (ℕ × List KeyName) → List KeyName
answered_in J [] = []
answered_in J (w ∷ ws) = (if is_success (first_reply J w.0) then w.1 else []) ++ answered_in J ws

has_key-append : (ks more : List KeyName) (k : KeyName) → has_key (ks ++ more) k ≡ (has_key ks k || has_key more k)
has_key-append [] more k = refl
has_key-append (q ∷ ks) more k = elim (cases_Bool (key_eq k q)) [
  | inl same ↦ rw same refl
  | inr other ↦ rw other (has_key-append ks more k)
]

answered_in-append : (J : List Entry) (ws vs : List (ℕ × List KeyName)) → answered_in J (ws ++ vs) ≡ answered_in J ws ++ answered_in J vs
answered_in-append J [] vs = refl
answered_in-append J (w ∷ ws) vs = ap (λ xs. (if is_success (first_reply J w.0) then w.1 else []) ++ xs) (answered_in-append J ws vs)
    ∙ sym (append_assoc (if is_success (first_reply J w.0) then w.1 else []) (answered_in J ws) (answered_in J vs))

-- Either of several.
grouped : (x n l : Bool) → (x || (n || l)) ≡ ((x || n) || l)
grouped true n l = refl
grouped false n l = refl

swapped : (x n l : Bool) → (x || (n || l)) ≡ (n || (x || l))
swapped true true l = refl
swapped true false l = refl
swapped false true l = refl
swapped false false l = refl

regrouped : (a n w r j : Bool) → ((a || n) || ((w || r) || j)) ≡ (a || ((n || w) || (r || j)))
regrouped true n w r j = refl
regrouped false true w r j = refl
regrouped false false true r j = refl
regrouped false false false r j = refl

or-false : (a : Bool) → (a || false) ≡ a
or-false true = refl
or-false false = refl

-- nothing is answered in the empty journal
nothing-answered : (k : KeyName) (ws : List (ℕ × List KeyName)) → (has_key (answered_in [] ws) k || false) ≡ false
nothing-answered k [] = refl
nothing-answered k (w ∷ ws) = nothing-answered k ws

-- a call that begins is answered as the definition says
call_by-is : (a : Act) (ks : List KeyName) (J : List Entry) → (if succeeds_in a J then ks else []) ≡ answered_in J (call_by a ks)
call_by-is (Calls v) ks J = sym (append-nil (if is_success (first_reply J v) then ks else []))
call_by-is (Fetch j) ks J = refl
call_by-is Handle ks J = refl
call_by-is (Upcall w) ks J = refl
call_by-is (Resume w) ks J = refl
call_by-is (Flush j) ks J = refl
call_by-is (Kill w) ks J = refl

-- the first reply, by whether the first entry has it
first_reply-here : (e : Entry) (J : List Entry) (v : ℕ) → replies_to e v ≡ true → is_success (first_reply (e ∷ J) v) ≡ replies_ok e
first_reply-here e J v here = from e.reply here
  where
    from : (o : Option Reply) → option_map_or (λ r. r.vpe == v) o false ≡ true →
        is_success (option_map (λ (r : Reply). r.code) (find (λ (r : Reply). r.vpe == v) (cons_option o (replies J))))
        ≡ option_map_or (λ r. r.code == 0) o false
    from None here = absurd cc
    from (Some r) here =
        ap (λ o. is_success (option_map (λ (r : Reply). r.code) o)) (cond-true (r.vpe == v) (Some r) (find (λ (r : Reply). r.vpe == v) (replies J)) here)

first_reply-later : (e : Entry) (J : List Entry) (v : ℕ) → replies_to e v ≡ false → first_reply (e ∷ J) v ≡ first_reply J v
first_reply-later e J v later = from e.reply later
  where
    from : (o : Option Reply) → option_map_or (λ r. r.vpe == v) o false ≡ false →
        option_map (λ (r : Reply). r.code) (find (λ (r : Reply). r.vpe == v) (cons_option o (replies J))) ≡ first_reply J v
    from None later = refl
    from (Some r) later = ap (option_map (λ (r : Reply). r.code)) (cond-false (r.vpe == v) (Some r) (find (λ (r : Reply). r.vpe == v) (replies J)) later)

-- what an entry answers, and what waits on
abbrev answered_now : Entry → List (ℕ × List KeyName) → List KeyName
answered_now e ws = flat_map (λ (w : ℕ × List KeyName). w.1) (filter (λ (w : ℕ × List KeyName). replies_to e w.0 && replies_ok e) ws)

abbrev waiting_on : Entry → List (ℕ × List KeyName) → List (ℕ × List KeyName)
waiting_on e ws = filter (λ (w : ℕ × List KeyName). not (replies_to e w.0)) ws

answered_in-more : (e : Entry) (J : List Entry) (ws : List (ℕ × List KeyName)) (k : KeyName) →
    has_key (answered_in (e ∷ J) ws) k ≡ (has_key (answered_now e ws) k || has_key (answered_in J (waiting_on e ws)) k)
answered_in-more e J [] k = refl
answered_in-more e J (w ∷ ws) k =
    let rest = answered_in-more e J ws k in
    has_key-append (if is_success (first_reply (e ∷ J) w.0) then w.1 else []) (answered_in (e ∷ J) ws) k
    ∙ (ap (λ b. has_key (if is_success (first_reply (e ∷ J) w.0) then w.1 else []) k || b) rest ∙ by_reply (cases_Bool (replies_to e w.0)))
  where
    now : Bool
    now = has_key (answered_now e ws) k

    later : Bool
    later = has_key (answered_in J (waiting_on e ws)) k

    -- the first revoke is answered, or not, or waits on
    now-yes : (replies_to e w.0 && replies_ok e) ≡ true → answered_now e (w ∷ ws) ≡ w.1 ++ answered_now e ws
    now-yes test = ap (flat_map (λ (x : ℕ × List KeyName). x.1))
        (cond-true (replies_to e w.0 && replies_ok e) (w ∷ filter (λ (x : ℕ × List KeyName). replies_to e x.0 && replies_ok e) ws)
        (filter (λ (x : ℕ × List KeyName). replies_to e x.0 && replies_ok e) ws) test)

    now-no : (replies_to e w.0 && replies_ok e) ≡ false → answered_now e (w ∷ ws) ≡ answered_now e ws
    now-no test = ap (flat_map (λ (x : ℕ × List KeyName). x.1))
        (cond-false (replies_to e w.0 && replies_ok e) (w ∷ filter (λ (x : ℕ × List KeyName). replies_to e x.0 && replies_ok e) ws)
        (filter (λ (x : ℕ × List KeyName). replies_to e x.0 && replies_ok e) ws) test)

    on-no : replies_to e w.0 ≡ true → waiting_on e (w ∷ ws) ≡ waiting_on e ws
    on-no test = cond-false (not (replies_to e w.0)) (w ∷ waiting_on e ws) (waiting_on e ws) (ap not test)

    on-yes : replies_to e w.0 ≡ false → waiting_on e (w ∷ ws) ≡ w ∷ waiting_on e ws
    on-yes test = cond-true (not (replies_to e w.0)) (w ∷ waiting_on e ws) (waiting_on e ws) (ap not test)

    Goal : List KeyName → List (ℕ × List KeyName) → Bool → Type 0
    Goal nows ons first = (has_key (if first then w.1 else []) k || (now || later)) ≡ (has_key nows k || has_key (answered_in J ons) k)

    whole : {nows : List KeyName} {ons : List (ℕ × List KeyName)} {first : Bool} → answered_now e (w ∷ ws) ≡ nows → waiting_on e (w ∷ ws) ≡ ons →
        is_success (first_reply (e ∷ J) w.0) ≡ first → Goal nows ons first →
        Goal (answered_now e (w ∷ ws)) (waiting_on e (w ∷ ws)) (is_success (first_reply (e ∷ J) w.0))
    whole nows ons first goal = rw (nows, ons, first) goal

    by_success : replies_to e w.0 ≡ true → ((replies_ok e ≡ true) ⊎ (replies_ok e ≡ false)) →
        Goal (answered_now e (w ∷ ws)) (waiting_on e (w ∷ ws)) (is_success (first_reply (e ∷ J) w.0))
    by_success here (inl good) = whole (now-yes (rw (here, good) refl)) (on-no here) (first_reply-here e J w.0 here
        ∙ good) (rw (has_key-append w.1 (answered_now e ws) k) (grouped (has_key w.1 k) now later))
    by_success here (inr bad) = whole (now-no (rw (here, bad) refl)) (on-no here) (first_reply-here e J w.0 here ∙ bad) refl

    by_reply : ((replies_to e w.0 ≡ true) ⊎ (replies_to e w.0 ≡ false)) →
        Goal (answered_now e (w ∷ ws)) (waiting_on e (w ∷ ws)) (is_success (first_reply (e ∷ J) w.0))
    by_reply (inl here) = by_success here (cases_Bool (replies_ok e))
    by_reply (inr other) =
        whole (now-no (rw other refl)) (on-yes other) (ap is_success (first_reply-later e J w.0 other))
        (swapped (has_key (if is_success (first_reply J w.0) then w.1 else []) k) now later
        ∙ ap (λ b. now || b) (sym (has_key-append (if is_success (first_reply J w.0) then w.1 else []) (answered_in J (waiting_on e ws)) k)))

-- one entry more
grants-snoc : (before : List Entry) (e : Entry) → grants (before ++ e ∷ []) ≡ grants before ++ option_to_list e.grant
grants-snoc [] e = one e.grant
  where
    one : (o : Option (KeyName × KeyName)) → cons_option o [] ≡ option_to_list o
    one None = refl
    one (Some g) = refl
grants-snoc (b ∷ before) e = from b.grant (grants-snoc before e)
  where
    from : (o : Option (KeyName × KeyName)) → grants (before ++ e ∷ []) ≡ grants before ++ option_to_list e.grant →
        cons_option o (grants (before ++ e ∷ [])) ≡ cons_option o (grants before) ++ option_to_list e.grant
    from None rest = rest
    from (Some g) rest = ap (λ gs. g ∷ gs) rest

-- what a journal cuts off behind the entries before it
cut-behind : (h : History) (before : List Entry) → h.grants ≡ grants before → (J : List Entry) → (fold note h J).cut ≡ h.cut ++ cut_from before J
unfolding cut_from
cut-behind h before same [] = sym (append-nil h.cut)
cut-behind h before same (e ∷ J) =
    cut-behind (note h e) (before ++ e ∷ []) (ap (λ gs. gs ++ option_to_list e.grant) same ∙ sym (grants-snoc before e)) J
    ∙ (append_assoc h.cut (cut_at h.grants e) (cut_from (before ++ e ∷ []) J) ∙ ap (λ gs. h.cut ++ (cut_at gs e ++ cut_from (before ++ e ∷ []) J)) same)

pub history-cut : (J : List Entry) → (history J).cut ≡ cut_from [] J
history-cut J = cut-behind no_history [] refl J

-- what a journal answers of what waited, and of the calls in it
answered-behind : (h : History) (before : List Entry) → h.grants ≡ grants before → (J : List Entry) (k : KeyName) →
    has_key (fold note h J).answered k ≡ (has_key h.answered k || (has_key (answered_in J h.waiting) k || has_key (answered_from before J) k))
unfolding answered_from
answered-behind h before same [] k = sym (or-false (has_key h.answered k)) ∙ ap (λ b. has_key h.answered k || b) (sym (nothing-answered k h.waiting))
answered-behind h before same (e ∷ J) k =
    answered-behind (note h e) more (ap (λ gs. gs ++ option_to_list e.grant) same ∙ sym (grants-snoc before e)) J k
    ∙ (ap (λ b. b || (has_key (answered_in J (note h e).waiting) k || has_key (answered_from more J) k))
    (has_key-append h.answered (answered_now e h.waiting) k)
    ∙ (ap (λ b. (has_key h.answered k || has_key (answered_now e h.waiting) k) || (b || has_key (answered_from more J) k)) waits
    ∙ (regrouped (has_key h.answered k) (has_key (answered_now e h.waiting) k) (has_key (answered_in J (waiting_on e h.waiting)) k)
    (has_key (answered_in J (call_by e.event.act ks)) k) (has_key (answered_from more J) k)
    ∙ (ap (λ b. has_key h.answered k || (b || (has_key (answered_in J (call_by e.event.act ks)) k || has_key (answered_from more J) k)))
    (sym (answered_in-more e J h.waiting k))
    ∙ ap (λ b. has_key h.answered k || (has_key (answered_in (e ∷ J) h.waiting) k || b)) (sym begun)))))
  where
    more : List Entry
    more = before ++ e ∷ []

    ks : List KeyName
    ks = cut_at h.grants e

    waits : has_key (answered_in J (note h e).waiting) k
        ≡ (has_key (answered_in J (waiting_on e h.waiting)) k || has_key (answered_in J (call_by e.event.act ks)) k)
    waits = ap (λ xs. has_key xs k) (answered_in-append J (waiting_on e h.waiting) (call_by e.event.act ks))
        ∙ has_key-append (answered_in J (waiting_on e h.waiting)) (answered_in J (call_by e.event.act ks)) k

    begun : has_key ((if succeeds_in e.event.act J then cut_by before e else []) ++ answered_from more J) k
        ≡ (has_key (answered_in J (call_by e.event.act ks)) k || has_key (answered_from more J) k)
    begun =
        has_key-append (if succeeds_in e.event.act J then cut_by before e else []) (answered_from more J) k
        ∙ (ap (λ gs. has_key (if succeeds_in e.event.act J then cut_at gs e else []) k || has_key (answered_from more J) k) (sym same)
        ∙ ap (λ xs. has_key xs k || has_key (answered_from more J) k) (call_by-is e.event.act ks J))

-- the answered keys of a journal
pub history-answered : (J : List Entry) (k : KeyName) → has_key (history J).answered k ≡ has_key (answered J) k
history-answered J k = answered-behind no_history [] refl J k
