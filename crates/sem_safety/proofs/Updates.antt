-- How each change of a side shows in what is seen of it.
use Rattle.std.proofs.Common.{◌≡◌, ℕ, zero, suc, ◌+◌, Bool, true, false, not, if◌then◌else◌, List, [], ◌∷◌, ◌++◌, map, drop, get_or, Option, Some, None, refl}
use Rattle.std.proofs.Common.{sym, ◌∙◌, ap, inl, inr, eq-eqb, arith}
use Rattle.std.specs.Prelude.{◌==◌}
use Rattle.std.specs.List.{Contains, filter, find}
use Rattle.std.specs.Option.{option_map, option_or}
use Rattle.std.proofs.lemmas.Bool.{cases_Bool, cases_eq, cond-true, cond-false, cond_both, false_from_ne_true, ne_eqb, eqb-true}
use Rattle.std.proofs.lemmas.List.Folds.{find-append}
use Rattle.sem_key.specs.KeyName.{KeyName, key_eq}
use Rattle.sem_key.specs.Lists.{change, put}
use Rattle.sem_key.specs.Capability.{Capability}
use Rattle.sem_key.specs.CapList.{is_marked_by}
use Rattle.sem_msg.specs.declared.message.Message.{Message}
use Rattle.sem_msg.specs.declared.state.Parked.{Parked}
use Rattle.sem_msg.specs.declared.state.Pending.{Pending}
use Rattle.sem_msg.specs.declared.state.Up.{Up}
use Rattle.sem_msg.specs.Rows.{Endpoint, JobRow, VpeRow, no_vpe}
use Rattle.sem_msg.specs.EndpointRows.{with_endpoint_in, all_unbound_from}
use Rattle.sem_machine.specs.Sides.{Side, row, cap, job, pending, outbox, parked, with_row, with_endpoint, parked_as, unparked, unbind_all, cap_added}
use Rattle.sem_machine.specs.Sides.{cap_changed, mark_all, caps_removed, pending_added, pending_removed, job_opened, job_changed, job_removed, send, sent}
use Rattle.sem_machine.specs.Sides.{with_inbox}
use Rattle.sem_key.specs.Region.{has_key}
use Rattle.sem_key.proofs.Finds.{held-with_cap_same, held-with_cap_other}
use Rattle.sem_key.proofs.KeyTests.{key_eq-true, key_eq-from}
use Rattle.sem_key.proofs.Members.{find_none, Contains-from_filter}
use Rattle.sem_key.proofs.Puts.{get_or-put_same, get_or-put_other}
use Rattle.sem_safety.specs.Observations.{seen, at, at_key, endpoints, caps_changed, if_kept, AreDistinct}

-- functions that are equal at each place are equal
pub ext : {A B : Type 0} (f g : A → B) → ((x : A) → f x ≡ g x) → f ≡ g
ext f g same = λ t x. same x t

-- what is read after a write, at every place
read-put : {X : Type 0} (d : X) (xs : List X) (i : ℕ) (x : X) (j : ℕ) → get_or (put d xs i x) j d ≡ at i x (λ n. get_or xs n d) j
read-put d xs i x j = elim (cases_eq j i) [
  | inl same ↦ rw same (get_or-put_same d xs i x ∙ sym (cond-true (i == i) x (get_or xs i d) (eq-eqb i i refl)))
  | inr other ↦ get_or-put_other d xs i j x other ∙ sym (cond-false (j == i) x (get_or xs j d) (ne_eqb j i other))
]

pub reads-put : {X : Type 0} (d : X) (xs : List X) (i : ℕ) (x : X) → (λ j. get_or (put d xs i x) j d) ≡ at i x (λ j. get_or xs j d)
reads-put d xs i x = ext _ _ (read-put d xs i x)

-- Rows of VPEs.

pub seen-with_row : (v : ℕ) (f : VpeRow → VpeRow) (s : Side) → seen (with_row v f s) ≡ record (seen s) { row = at v (f (row s v)) (row s) }
seen-with_row v f s = ap (λ (rows : ℕ → VpeRow). record (seen s) { row = rows }) (reads-put no_vpe s.vpes v (f (row s v)))

-- Endpoints and parked calls.

-- all changed in the same way, which leaves what is read past the end
pub reads-map : {X : Type 0} (d : X) (f : X → X) (xs : List X) (i : ℕ) → f d ≡ d → get_or (map f xs) i d ≡ f (get_or xs i d)
reads-map d f [] i same = sym same
reads-map d f (x ∷ xs) zero same = refl
reads-map d f (x ∷ xs) (suc i) same = reads-map d f xs i same

pub seen-unbind_all : (ks : List KeyName) (s : Side) → seen (unbind_all ks s) ≡ record (seen s) { endpoints = λ v. all_unbound_from ks (endpoints s v) }
seen-unbind_all ks s = ap (λ (rows : ℕ → List (Option Endpoint)). record (seen s) { endpoints = rows })
    (ext _ _ (λ v. reads-map [] (all_unbound_from ks) s.endpoints v refl))

pub seen-with_endpoint : (v ep : ℕ) (e : Option Endpoint) (s : Side) →
    seen (with_endpoint v ep e s) ≡ record (seen s) { endpoints = at v (with_endpoint_in (endpoints s v) ep e) (endpoints s) }
seen-with_endpoint v ep e s = ap (λ (rows : ℕ → List (Option Endpoint)). record (seen s) { endpoints = rows })
    (reads-put [] s.endpoints v (with_endpoint_in (endpoints s v) ep e))

pub seen-parked_as : (v : ℕ) (p : Parked) (s : Side) → seen (parked_as v p s) ≡ record (seen s) { parked = at v (Some p) (parked s) }
seen-parked_as v p s = ap (λ (calls : ℕ → Option Parked). record (seen s) { parked = calls }) (reads-put None s.parks v (Some p))

pub seen-unparked : (v : ℕ) (s : Side) → seen (unparked v s) ≡ record (seen s) { parked = at v None (parked s) }
seen-unparked v s = ap (λ (calls : ℕ → Option Parked). record (seen s) { parked = calls }) (reads-put None s.parks v None)

-- Capabilities.

pub seen-cap_added : (c : Capability) (s : Side) → seen (cap_added c s) ≡ record (seen s) { cap = at_key c.key (Some c) (cap s) }
seen-cap_added c s = ap (λ (caps : KeyName → Option Capability). record (seen s) { cap = caps }) (ext _ _ here)
  where
    here : (q : KeyName) → cap (cap_added c s) q ≡ at_key c.key (Some c) (cap s) q
    here q = elim (cases_Bool (key_eq q c.key)) [
      | inl same ↦ held-with_cap_same s.caps c q (key_eq-from c.key q (sym (key_eq-true q c.key same)))
          ∙ sym (cond-true (key_eq q c.key) (Some c) (cap s q) same)
      | inr other ↦ held-with_cap_other s.caps c q (turned q c.key other) ∙ sym (cond-false (key_eq q c.key) (Some c) (cap s q) other)
    ]
      where
        turned : (a b : KeyName) → key_eq a b ≡ false → key_eq b a ≡ false
        turned a b other = false_from_ne_true (key_eq b a) (λ same. absurd (cc (other, key_eq-from a b (sym (key_eq-true b a same)))))

-- what is found under a key after those were changed whose keys pass a test
find-change : (t : KeyName → Bool) (f : Capability → Capability) (q : KeyName) (cs : List Capability) → ((c : Capability) → (f c).key ≡ c.key) →
    find (λ c. key_eq c.key q) (change (λ c. t c.key) f cs) ≡ (if t q then option_map f (find (λ c. key_eq c.key q) cs) else find (λ c. key_eq c.key q) cs)
find-change t f q [] keeps = sym (cond_both (t q) None None (λ o. o ≡ None) (λ _. refl) (λ _. refl))
find-change t f q (c ∷ cs) keeps =
    let rest = find-change t f q cs keeps in
    let key : (if t c.key then f c else c).key ≡ c.key = cond_both (t c.key) (f c) c (λ x. x.key ≡ c.key) (λ _. keeps c) (λ _. refl) in
    elim (cases_Bool (key_eq c.key q)) [
      | inl pass ↦
          let found : key_eq (if t c.key then f c else c).key q ≡ true = rw key pass in
          let same : t c.key ≡ t q = ap t (key_eq-true c.key q pass) in
          elim (cases_Bool (t q)) [
            | inl yes' ↦ let head : (if t c.key then f c else c) ≡ f c = cond-true (t c.key) (f c) c (same ∙ yes') in cc
            | inr no' ↦ let head : (if t c.key then f c else c) ≡ c = cond-false (t c.key) (f c) c (same ∙ no') in cc
          ]
      | inr fail ↦
          let absent : key_eq (if t c.key then f c else c).key q ≡ false = rw key fail in
          cc (rest)
    ]

pub seen-cap_changed : (k : KeyName) (f : Capability → Capability) (s : Side) → ((c : Capability) → (f c).key ≡ c.key) →
    seen (cap_changed k f s) ≡ record (seen s) { cap = caps_changed (λ q. key_eq q k) f (cap s) }
seen-cap_changed k f s keeps = ap (λ (caps : KeyName → Option Capability). record (seen s) { cap = caps })
    (ext _ _ (λ q. find-change (λ x. key_eq x k) f q s.caps keeps))

pub seen-mark_all : (ks : List KeyName) (j : ℕ) (s : Side) →
    seen (mark_all ks j s) ≡ record (seen s) { cap = caps_changed (has_key ks) (λ c. record c { mark = Some j }) (cap s) }
seen-mark_all ks j s = ap (λ (caps : KeyName → Option Capability). record (seen s) { cap = caps })
    (ext _ _ (λ q. find-change (has_key ks) (λ c. record c { mark = Some j }) q s.caps (λ c. refl)))

-- Pending delegations.

find-last : {X : Type 0} (p : X → Bool) (xs : List X) (x : X) → find p (xs ++ x ∷ []) ≡ option_or (find p xs) (if p x then Some x else None)
find-last p xs x = find-append p xs (x ∷ [])

-- where all that pass a test are taken out, a search finds none of them and all others
find-without : {X : Type 0} (p q : X → Bool) (xs : List X) → ((x : X) → p x ≡ true → q x ≡ true) → find p (filter (λ x. not (q x)) xs) ≡ None
find-without p q [] covers = refl
find-without p q (x ∷ xs) covers =
    let rest = find-without p q xs covers in
    elim (cases_Bool (p x)) [
      | inl pass ↦ let gone = covers x pass in cc
      | inr fail ↦ elim (cases_Bool (q x)) [
        | inl lost ↦ cc
        | inr kept ↦ cc
      ]
    ]

find-others : {X : Type 0} (p q : X → Bool) (xs : List X) → ((x : X) → p x ≡ true → q x ≡ false) → find p (filter (λ x. not (q x)) xs) ≡ find p xs
find-others p q [] apart = refl
find-others p q (x ∷ xs) apart =
    let rest = find-others p q xs apart in
    elim (cases_Bool (p x)) [
      | inl pass ↦ let stays = apart x pass in cc
      | inr fail ↦ elim (cases_Bool (q x)) [
        | inl lost ↦ cc
        | inr kept ↦ cc
      ]
    ]

pub seen-pending_added : (p : Pending) (s : Side) →
    seen (pending_added p s) ≡ record (seen s) { pending = λ k. option_or (pending s k) (if key_eq p.key k then Some p else None) }
seen-pending_added p s = ap (λ (ps : KeyName → Option Pending). record (seen s) { pending = ps }) (ext _ _ (λ k. find-last (λ x. key_eq x.key k) s.pendings p))

pub seen-pending_removed : (k : KeyName) (s : Side) → seen (pending_removed k s) ≡ record (seen s) { pending = at_key k None (pending s) }
seen-pending_removed k s = ap (λ (ps : KeyName → Option Pending). record (seen s) { pending = ps }) (ext _ _ here)
  where
    here : (q : KeyName) → pending (pending_removed k s) q ≡ at_key k None (pending s) q
    here q = elim (cases_Bool (key_eq q k)) [
      | inl same ↦ find-without (λ p. key_eq p.key q) (λ p. key_eq p.key k) s.pendings (λ p pass. key_eq-from p.key k (key_eq-true p.key q pass
          ∙ key_eq-true q k same)) ∙ sym (cond-true (key_eq q k) None (pending s q) same)
      | inr other ↦ find-others (λ p. key_eq p.key q) (λ p. key_eq p.key k) s.pendings (λ p pass. ap (λ x. key_eq x k) (key_eq-true p.key q pass) ∙ other)
          ∙ sym (cond-false (key_eq q k) None (pending s q) other)
    ]

-- Jobs.

pub seen-job_opened : (root : KeyName) (up : Option Up) (waiters : List ℕ) (keep : Bool) (s : Side) →
    seen (job_opened root up waiters keep s)
    ≡ record (seen s) {
      job = λ j. option_or (job s j) (if s.next_job == j
          then Some (record { id = s.next_job; root = root; up = up; waiters = waiters; count = 0; keep = keep }) else None);
      next_job = s.next_job + 1;
    }
seen-job_opened root up waiters keep s = ap (λ (jobs : ℕ → Option JobRow). record (seen s) { job = jobs; next_job = s.next_job + 1 })
    (ext _ _ (λ j. find-last (λ x. x.id == j) s.jobs (record { id = s.next_job; root = root; up = up; waiters = waiters; count = 0; keep = keep })))

find-job_changed : (j : ℕ) (f : JobRow → JobRow) (q : ℕ) (xs : List JobRow) → ((x : JobRow) → (f x).id ≡ x.id) →
    find (λ x. x.id == q) (change (λ x. x.id == j) f xs) ≡ (if q == j then option_map f (find (λ x. x.id == q) xs) else find (λ x. x.id == q) xs)
find-job_changed j f q [] keeps = sym (cond_both (q == j) None None (λ o. o ≡ None) (λ _. refl) (λ _. refl))
find-job_changed j f q (x ∷ xs) keeps =
    let rest = find-job_changed j f q xs keeps in
    let id : (if x.id == j then f x else x).id ≡ x.id = cond_both (x.id == j) (f x) x (λ y. y.id ≡ x.id) (λ _. keeps x) (λ _. refl) in
    elim (cases_Bool (x.id == q)) [
      | inl pass ↦
          let found : ((if x.id == j then f x else x).id == q) ≡ true = rw id pass in
          let same : (x.id == j) ≡ (q == j) = ap (λ n. n == j) (eqb-true x.id q pass) in
          elim (cases_Bool (q == j)) [
            | inl yes' ↦ let head : (if x.id == j then f x else x) ≡ f x = cond-true (x.id == j) (f x) x (same ∙ yes') in cc
            | inr no' ↦ let head : (if x.id == j then f x else x) ≡ x = cond-false (x.id == j) (f x) x (same ∙ no') in cc
          ]
      | inr fail ↦
          let absent : ((if x.id == j then f x else x).id == q) ≡ false = rw id fail in
          cc (rest)
    ]

pub seen-job_changed : (j : ℕ) (f : JobRow → JobRow) (s : Side) → ((x : JobRow) → (f x).id ≡ x.id) →
    seen (job_changed j f s) ≡ record (seen s) { job = λ q. if q == j then option_map f (job s q) else job s q }
seen-job_changed j f s keeps = ap (λ (jobs : ℕ → Option JobRow). record (seen s) { job = jobs }) (ext _ _ (λ q. find-job_changed j f q s.jobs keeps))

pub seen-job_removed : (j : ℕ) (s : Side) → seen (job_removed j s) ≡ record (seen s) { job = at j None (job s) }
seen-job_removed j s = ap (λ (jobs : ℕ → Option JobRow). record (seen s) { job = jobs }) (ext _ _ here)
  where
    here : (q : ℕ) → job (job_removed j s) q ≡ at j None (job s) q
    here q = elim (cases_Bool (q == j)) [
      | inl same ↦ find-without (λ (x : JobRow). x.id == q) (λ x. x.id == j) s.jobs (λ x pass. ap (λ n. n == j) (eqb-true x.id q pass) ∙ same)
          ∙ sym (cond-true (q == j) None (job s q) same)
      | inr other ↦ find-others (λ (x : JobRow). x.id == q) (λ x. x.id == j) s.jobs (λ x pass. ap (λ n. n == j) (eqb-true x.id q pass) ∙ other)
          ∙ sym (cond-false (q == j) None (job s q) other)
    ]

-- Messages.

pub seen-send : (j : ℕ) (m : Message) (s : Side) → seen (send j m s) ≡ record (seen s) { outbox = at j (outbox s j ++ m ∷ []) (outbox s) }
seen-send j m s = ap (λ (outs : ℕ → List Message). record (seen s) { outbox = outs }) (reads-put [] s.outs j (outbox s j ++ m ∷ []))

pub seen-sent : (j : ℕ) (s : Side) → seen (sent j s) ≡ record (seen s) { outbox = at j (drop 1 (outbox s j)) (outbox s) }
seen-sent j s = ap (λ (outs : ℕ → List Message). record (seen s) { outbox = outs }) (reads-put [] s.outs j (drop 1 (outbox s j)))

pub seen-with_inbox : (message : Option (ℕ × Message)) (s : Side) → seen (with_inbox message s) ≡ record (seen s) { inbox = message }
seen-with_inbox message s = refl

-- What is held of distinct keys, once some are taken out.

distinct-head : (c : Capability) (cs : List Capability) → AreDistinct (c ∷ cs) → (x : Capability) → Contains cs x → key_eq c.key x.key ≡ false
distinct-head c cs distinct x (k, within, same) = ap (λ (y : Capability). key_eq c.key y.key) (sym same) ∙ distinct zero (suc k) x (omega arith) (omega arith)

distinct-tail : (c : Capability) (cs : List Capability) → AreDistinct (c ∷ cs) → AreDistinct cs
distinct-tail c cs distinct = λ i j d lt within. distinct (suc i) (suc j) d (omega arith) (omega arith)

find-kept : (p : Capability → Bool) (q : KeyName) (cs : List Capability) → AreDistinct cs →
    find (λ c. key_eq c.key q) (filter p cs) ≡ if_kept p (find (λ c. key_eq c.key q) cs)
find-kept p q [] distinct = refl
find-kept p q (c ∷ cs) distinct =
    let rest = find-kept p q cs (distinct-tail c cs distinct) in
    elim (cases_Bool (key_eq c.key q)) [
      | inl pass ↦ elim (cases_Bool (p c)) [
        | inl kept ↦ cc
        | inr lost ↦
            let none : find (λ x. key_eq x.key q) (filter p cs) ≡ None =
            find_none (λ x. key_eq x.key q) (filter p cs) (λ x in_rest. false_from_ne_true (key_eq x.key q) (λ same.
            let there = Contains-from_filter p cs x in_rest in
            let apart = distinct-head c cs distinct x there.0 in
            let equal : key_eq c.key x.key ≡ true = key_eq-from c.key x.key (key_eq-true c.key q pass ∙ sym (key_eq-true x.key q same)) in
            absurd (cc (apart, equal)))) in
            cc
      ]
      | inr fail ↦ elim (cases_Bool (p c)) [
        | inl kept ↦ cc
        | inr lost ↦ cc
      ]
    ]

pub seen-caps_removed : (j : ℕ) (s : Side) → AreDistinct s.caps →
    seen (caps_removed j s) ≡ record (seen s) { cap = λ q. if_kept (λ c. not (is_marked_by j c)) (cap s q) }
seen-caps_removed j s distinct = ap (λ (caps : KeyName → Option Capability). record (seen s) { cap = caps })
    (ext _ _ (λ q. find-kept (λ c. not (is_marked_by j c)) q s.caps distinct))
