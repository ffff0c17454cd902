-- Where the accesses of a journal stand: each is that of the entry at its place.
use Rattle.std.proofs.Common.{◌≡◌, ℕ, ◌+◌, Bool, true, false, List, [], ◌∷◌, ◌++◌, length, take, Option, Some, None, refl, sym, ◌∙◌, ap, subst, inl, inr, arith}
use Rattle.std.specs.List.{Contains}
use Rattle.std.specs.Option.{option_map, option_to_list}
use Rattle.std.proofs.lemmas.Bool.{cases_Bool, cond-true, cond-false}
use Rattle.std.proofs.lemmas.List.Elements.{Contains-append_cases}
use Rattle.std.proofs.Math.Seq.{take-append_seam}
use Rattle.sem_key.proofs.Members.{Contains-nil, Contains-cons_cases}
use Rattle.sem_msg.specs.declared.call.Call.{Call}
use Rattle.sem_msg.specs.declared.call.Call.TheVariants.{Derive, Gate, Obtain, Delegate, OpenSession, AskOffer, Revoke, Bind, Read, Write, Send as SendCall}
use Rattle.sem_msg.specs.declared.call.Call.TheVariants.{Credit, Exit, Clear}
use Rattle.sem_msg.specs.declared.event.Act.{Act}
use Rattle.sem_msg.specs.declared.event.Act.TheVariants.{Call as Calls, Fetch, Handle, Upcall, Resume, Flush, Kill}
use Rattle.sem_msg.specs.declared.entry.Detail.{Detail}
use Rattle.sem_msg.specs.declared.entry.Detail.TheVariants.{Called, Carried, Asked, Nothing}
use Rattle.sem_msg.specs.declared.entry.Entry.{Entry}
use Rattle.sem_msg.specs.Rows.{Endpoint}
use Rattle.sem_msg.specs.Setup.{Setup}
use Rattle.sem_machine.specs.Sides.{Side, endpoint}
use Rattle.sem_machine.specs.Machine.{World, side, start, after}
use Rattle.sem_machine.specs.Schedules.{run, world_after}
use Rattle.sem_access.specs.declared.access.Access.{Access}
use Rattle.sem_access.specs.Accesses.{access_through, call_access, act_access, is_answered_at_once, access_of, accesses_from, accesses}

-- The place of an access is that of its entry.

through-place : (n v : ℕ) (w : Bool) (off len : ℕ) (o : Option Endpoint) (x : Access) → option_map (access_through n v w off len) o ≡ Some x → x.entry ≡ n
through-place n v w off len None x is = absurd (cc)
through-place n v w off len (Some e) x is = let same : access_through n v w off len e ≡ x = cc in sym (ap (λ (y : Access). y.entry) same)

call-place : (s : Side) (n v : ℕ) (call : Call) (x : Access) → call_access s n v call ≡ Some x → x.entry ≡ n
call-place s n v (Read ep off len) x is = through-place n v false off len (endpoint s v ep) x is
call-place s n v (Write ep off len) x is = through-place n v true off len (endpoint s v ep) x is
call-place s n v (Derive a b c d e) x is = absurd (cc)
call-place s n v (Gate a b c d) x is = absurd (cc)
call-place s n v (Obtain a b c) x is = absurd (cc)
call-place s n v (Delegate a b c) x is = absurd (cc)
call-place s n v (OpenSession a b) x is = absurd (cc)
call-place s n v (AskOffer a b c) x is = absurd (cc)
call-place s n v (Revoke a) x is = absurd (cc)
call-place s n v (Bind a b) x is = absurd (cc)
call-place s n v (SendCall a b) x is = absurd (cc)
call-place s n v (Credit a) x is = absurd (cc)
call-place s n v Exit x is = absurd (cc)
call-place s n v (Clear a) x is = absurd (cc)

detail-place : (s : Side) (n v : ℕ) (d : Detail) (x : Access) → act_access s n (Calls v) d ≡ Some x → x.entry ≡ n
detail-place s n v (Called index call) x is = call-place s n v call x is
detail-place s n v (Carried peer message) x is = absurd (cc)
detail-place s n v (Asked asker answer) x is = absurd (cc)
detail-place s n v Nothing x is = absurd (cc)

act-place : (s : Side) (n : ℕ) (a : Act) (d : Detail) (x : Access) → act_access s n a d ≡ Some x → x.entry ≡ n
act-place s n (Calls v) d x is = detail-place s n v d x is
act-place s n (Fetch from) d x is = absurd (cc)
act-place s n Handle d x is = absurd (cc)
act-place s n (Upcall v) d x is = absurd (cc)
act-place s n (Resume v) d x is = absurd (cc)
act-place s n (Flush to) d x is = absurd (cc)
act-place s n (Kill v) d x is = absurd (cc)

-- an access is that of an act that was answered at once
pub access-is : (W : World) (n : ℕ) (e : Entry) (x : Access) → access_of W n e ≡ Some x →
    (is_answered_at_once e ≡ true) × (act_access (side W e.event.kernel) n e.event.act e.detail ≡ Some x)
access-is W n e x is = elim (cases_Bool (is_answered_at_once e)) [
  | inl done ↦ (done, sym (cond-true (is_answered_at_once e) (act_access (side W e.event.kernel) n e.event.act e.detail) None done) ∙ is)
  | inr refused ↦ let none : None ≡ Some x = sym (cond-false (is_answered_at_once e) (act_access (side W e.event.kernel) n e.event.act e.detail) None refused)
      ∙ is in absurd (cc)
]

pub entry-place : (W : World) (n : ℕ) (e : Entry) (x : Access) → access_of W n e ≡ Some x → x.entry ≡ n
entry-place W n e x is = act-place (side W e.event.kernel) n e.event.act e.detail x (access-is W n e x is).1

-- The entry of an access, among the entries from a place on.
pub record StandsIn (T : Setup) (W : World) (n : ℕ) (J : List Entry) (x : Access) : Type 0 where
  pub before : List Entry
  pub entry : Entry
  pub later : List Entry
  pub parts : J ≡ before ++ entry ∷ later
  pub place : x.entry ≡ n + length before
  pub is : access_of (run T W before) x.entry entry ≡ Some x

stands-in : (T : Setup) (J : List Entry) (W : World) (n : ℕ) (x : Access) → Contains (accesses_from T W n J) x → StandsIn T W n J x
unfolding accesses_from
stands-in T [] W n x among = absurd (Contains-nil x among)
stands-in T (e ∷ es) W n x among = elim (Contains-append_cases (option_to_list (access_of W n e)) (accesses_from T (after T W e.event) (n + 1) es) x among) [
  | inl here ↦ at-once (access_of W n e) refl here
  | inr behind ↦
      let rest = stands-in T es (after T W e.event) (n + 1) x behind in
      record {
        before = e ∷ rest.before;
        entry = rest.entry;
        later = rest.later;
        parts = ap (λ (xs : List Entry). e ∷ xs) rest.parts;
        place = let there = rest.place in omega (arith, there);
        is = rest.is;
      }
]
  where
    at-once : (o : Option Access) → access_of W n e ≡ o → Contains (option_to_list o) x → StandsIn T W n (e ∷ es) x
    at-once None none among = absurd (Contains-nil x among)
    at-once (Some y) some among = elim (Contains-cons_cases y [] x among) [
      | inl same ↦
          let is : access_of W n e ≡ Some x = some ∙ ap Some same in
          let place : x.entry ≡ n = entry-place W n e x is in
          record {
            before = [];
            entry = e;
            later = es;
            parts = refl;
            place = omega (arith, place);
            is = subst (λ m. access_of W m e ≡ Some x) (sym place) is;
          }
      | inr rest ↦ absurd (Contains-nil x rest)
    ]

-- the entry of an access of a journal
pub stands : (T : Setup) (J : List Entry) (x : Access) → Contains (accesses T J) x → StandsIn T (start T) 0 J x
stands T J x among = stands-in T J (start T) 0 x among

-- the entries before an access are those before its place
pub before-is : (T : Setup) (J : List Entry) (x : Access) (at : StandsIn T (start T) 0 J x) → take x.entry J ≡ at.before
before-is T J x at =
    let place : x.entry ≡ length at.before = let there = at.place in omega (arith, there) in
    ap (λ n. take n J) place ∙ (ap (take (length at.before)) at.parts ∙ take-append_seam at.before (at.entry ∷ at.later))

pub of-entries : (T : Setup) (J : List Entry) (x : Access) → Contains (accesses T J) x → (e : Entry) × (later : List Entry) × (J ≡ take x.entry J ++ e ∷ later)
    × (access_of (world_after T (take x.entry J)) x.entry e ≡ Some x)
of-entries T J x among =
    let at = stands T J x among in
    let before : take x.entry J ≡ at.before = before-is T J x at in (
      at.entry,
      at.later,
      at.parts ∙ ap (λ (xs : List Entry). xs ++ at.entry ∷ at.later) (sym before),
      subst (λ (xs : List Entry). access_of (world_after T xs) x.entry at.entry ≡ Some x) (sym before) at.is,
    )
