-- Journals: where a call was made, and that a call with a reply behind it was answered.
use Rattle.std.proofs.Common.{◌≡◌, ℕ, zero, suc, ◌+◌, ◌<◌, ◌≤◌, ◌++◌, Bool, true, List, [], ◌∷◌, filter, find, length, length-append, slice_get, Option, Some}
use Rattle.std.proofs.Common.{None, append-nil, append_assoc, refl, sym, ap, ◌∙◌, subst, inl, inr, arith, eq-eqb}
use Rattle.std.specs.Prelude.{◌==◌, if◌then◌else◌}
use Rattle.std.specs.List.{Contains, cons_option, filter_map}
use Rattle.std.specs.Option.{option_map}
use Rattle.std.proofs.lemmas.Bool.{cases_Bool, cases_lt, cond-true, cond-false, eqb-true}
use Rattle.std.proofs.lemmas.List.Elements.{filter-append, filter_map-append, Contains-append_left, Contains-append_right}
use Rattle.sem_key.specs.KeyName.{KeyName}
use Rattle.sem_key.proofs.Members.{Contains-nil, Contains-head, Contains-tail, Contains-cons_cases}
use Rattle.sem_msg.specs.declared.entry.Entry.{Entry}
use Rattle.sem_msg.specs.declared.entry.Reply.{Reply}
use Rattle.sem_msg.specs.declared.event.Act.{Act}
use Rattle.sem_msg.specs.declared.event.Act.TheVariants.{Call as Calls, Fetch, Handle, Upcall, Resume, Flush, Kill}
use Rattle.sem_msg.specs.Journal.{replies}
use Rattle.sem_machine.specs.Living.{reply_count}
use Rattle.sem_machine.specs.Journals.{cut_by, is_success, succeeds, answered_from}
use Rattle.sem_fs.specs.Openings.{is_call_of, call_count_of}
use Rattle.sem_fs.proofs.AskedCalls.{counted-on, counted-so}

-- Lists.

pub get-behind : {X : Type 0} (xs ys : List X) (n : ℕ) → slice_get (xs ++ ys) (length xs + n) ≡ slice_get ys n
get-behind [] ys n = ap (slice_get ys) (omega arith)
get-behind (x ∷ xs) ys n = ap (slice_get (x ∷ xs ++ ys)) (next (length xs) n) ∙ get-behind xs ys n
  where
    next : (a b : ℕ) → suc a + b ≡ suc (a + b)
    next a b = omega arith

pub get-within : {X : Type 0} (xs ys : List X) (n : ℕ) → n < length xs → slice_get (xs ++ ys) n ≡ slice_get xs n
get-within [] ys n less = absurd (omega (arith, less))
get-within (x ∷ xs) ys zero less = refl
get-within (x ∷ xs) ys (suc n) less = get-within xs ys n (omega (arith, less))

-- A call of a VPE was made by some entry.

pub record IsMade (J : List Entry) (v r : ℕ) : Type 0 where
  pub before : List Entry
  pub later : List Entry
  pub entry : Entry
  pub among : J ≡ before ++ entry ∷ later
  pub act : entry.event.act ≡ Calls v
  pub count : call_count_of before v ≡ r

call-act : (v : ℕ) (a : Act) → is_call_of v a ≡ true → a ≡ Calls v
call-act v (Calls w) is = ap Calls (eqb-true w v is)
call-act v (Fetch j) is = absurd cc
call-act v Handle is = absurd cc
call-act v (Upcall u) is = absurd cc
call-act v (Resume u) is = absurd cc
call-act v (Flush j) is = absurd cc
call-act v (Kill u) is = absurd cc

pub call-made : (v r : ℕ) (before later : List Entry) → call_count_of before v ≤ r → r < call_count_of (before ++ later) v → IsMade (before ++ later) v r
call-made v r before [] low high = (let same = ap (λ K. call_count_of K v) (append-nil before) in absurd (omega (arith, same, low, high)))
call-made v r before (e ∷ es) low high =
    let same : before ++ e ∷ es ≡ (before ++ e ∷ []) ++ es = sym (append_assoc before (e ∷ []) es) in
    let high' : r < call_count_of ((before ++ e ∷ []) ++ es) v = subst (λ K. r < call_count_of K v) same high in
    elim (cases_Bool (is_call_of v e.event.act)) [
      | inr other ↦
          let stays = counted-so before e v other in
          subst (λ K. IsMade K v r) (sym same) (call-made v r (before ++ e ∷ []) es (omega (arith, stays, low)) high')
      | inl calls ↦
          let more = counted-on before e v calls in
          elim (cases_lt r (call_count_of (before ++ e ∷ []) v)) [
            | inr above ↦ subst (λ K. IsMade K v r) (sym same) (call-made v r (before ++ e ∷ []) es above high')
            | inl here ↦ record {
              before = before;
              later = es;
              entry = e;
              among = refl;
              act = call-act v e.event.act calls;
              count = omega (arith, more, low, here);
            }
          ]
    ]

-- Replies.

pub replies-append : (xs ys : List Entry) (v : ℕ) → reply_count (xs ++ ys) v ≡ reply_count xs v + reply_count ys v
replies-append xs ys v =
    ap (λ rs. length (filter (λ (r : Reply). r.vpe == v) rs)) (filter_map-append (λ (e : Entry). e.reply) xs ys)
    ∙ (ap length (filter-append (λ (r : Reply). r.vpe == v) (replies xs) (replies ys))
    ∙ length-append (filter (λ (r : Reply). r.vpe == v) (replies xs)) (filter (λ (r : Reply). r.vpe == v) (replies ys)))

some-found : {X : Type 0} (p : X → Bool) (xs : List X) → 1 ≤ length (filter p xs) → (x : X) × (find p xs ≡ Some x) × Contains xs x
some-found p [] none = absurd (omega (arith, none))
some-found p (x ∷ xs) some = elim (cases_Bool (p x)) [
  | inl passes ↦ (x, cond-true (p x) (Some x) (find p xs) passes, Contains-head x xs)
  | inr fails ↦
      let rest = some-found p xs (subst (λ ys. 1 ≤ length ys) (cond-false (p x) (x ∷ filter p xs) (filter p xs) fails) some) in
      (rest.0, cond-false (p x) (Some x) (find p xs) fails ∙ rest.1, Contains-tail x xs rest.0 rest.2)
]

chosen-step : {X Y : Type 0} (h : X → Option Y) (x : X) (xs : List X) (y : Y) (o : Option Y) → h x ≡ o → Contains (cons_option o (filter_map h xs)) y
    → (Contains (filter_map h xs) y → (z : X) × Contains xs z × (h z ≡ Some y)) → (z : X) × Contains (x ∷ xs) z × (h z ≡ Some y)
chosen-step h x xs y None none there rest = let z = rest there in (z.0, Contains-tail x xs z.0 z.1, z.2)
chosen-step h x xs y (Some w) some there rest = elim (Contains-cons_cases w (filter_map h xs) y there) [
  | inl same ↦ (x, Contains-head x xs, some ∙ ap Some same)
  | inr behind ↦ (let z = rest behind in (z.0, Contains-tail x xs z.0 z.1, z.2))
]

from-chosen : {X Y : Type 0} (h : X → Option Y) (xs : List X) (y : Y) → Contains (filter_map h xs) y → (x : X) × Contains xs x × (h x ≡ Some y)
from-chosen h [] y among = absurd (Contains-nil y among)
from-chosen h (x ∷ xs) y among = chosen-step h x xs y (h x) refl among (λ there. from-chosen h xs y there)

-- a call whose VPE has a reply later is answered with success, where all replies are successes
pub later-succeeds : (v : ℕ) (later : List Entry) → ((e : Entry) (r : Reply) → Contains later e → e.reply ≡ Some r → r.code ≡ 0) → 1 ≤ reply_count later v
    → succeeds (Calls v) later ≡ true
later-succeeds v later well some =
    let x = some-found (λ (r : Reply). r.vpe == v) (replies later) some in
    let e = from-chosen (λ (e : Entry). e.reply) later x.0 x.2 in
    let zero' : x.0.code ≡ 0 = well e.0 x.0 e.1 e.2 in
    ap is_success (ap (option_map (λ (r : Reply). r.code)) x.1) ∙ eq-eqb x.0.code 0 zero'

pub answered-at : (before b : List Entry) (e : Entry) (later : List Entry) (k : KeyName) → succeeds e.event.act later ≡ true →
    Contains (cut_by (before ++ b) e) k
    → Contains (answered_from before (b ++ e ∷ later)) k
unfolding answered_from
answered-at before [] e later k is cut =
    let now : Contains (if succeeds e.event.act later then cut_by before e else []) k =
    subst (λ ks. Contains ks k) (sym (cond-true (succeeds e.event.act later) (cut_by before e) [] is))
    (subst (λ K. Contains (cut_by K e) k) (append-nil before) cut) in
    Contains-append_left (if succeeds e.event.act later then cut_by before e else []) (answered_from (before ++ e ∷ []) later) k now
answered-at before (x ∷ b) e later k is cut =
    Contains-append_right (if succeeds x.event.act (b ++ e ∷ later) then cut_by before x else []) (answered_from (before ++ x ∷ []) (b ++ e ∷ later)) k
    (answered-at (before ++ x ∷ []) b e later k is (subst (λ K. Contains (cut_by K e) k) (sym (append_assoc before (x ∷ []) b)) cut))
