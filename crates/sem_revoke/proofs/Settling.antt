-- A job that has begun settles the children of its region: the remote ones are asked for, and of the local ones those that another job has marked are waited
-- for.
use Rattle.std.proofs.lemmas.Option.{same_Some}
use Rattle.std.proofs.Common.{◌≡◌, ◌≢◌, ◌⊎◌, ℕ, ◌+◌, ◌≤◌, Bool, true, false, not, ◌&&◌, List, [], ◌∷◌, Option}
use Rattle.std.proofs.Common.{Some, None, refl, sym, ap, ◌∙◌, subst, inl, inr}
use Rattle.std.proofs.Common.{arith, eq-eqb}
use Rattle.std.specs.Prelude.{◌==◌, if◌then◌else◌}
use Rattle.std.specs.Option.{option_map, option_and_then}
use Rattle.std.proofs.lemmas.Bool.{cases_Bool, cond-true, cond-false, eqb-true, ne_eqb, eqb-false, and_parts, and_from, or_cases, or_left, or_right, true≢false}
use Rattle.std.proofs.lemmas.Bool.{not_from_false, false_from_ne_true}
use Rattle.sem_key.specs.KeyName.{KeyName, key_eq}
use Rattle.sem_key.specs.Lists.{in_turn}
use Rattle.sem_key.specs.Capability.{Capability}
use Rattle.sem_msg.specs.declared.message.Message.TheVariants.{RevokeReq}
use Rattle.sem_msg.specs.declared.state.Up.TheVariants.{Local}
use Rattle.sem_msg.specs.Rows.{JobRow}
use Rattle.sem_msg.specs.Lookups.{is_local}
use Rattle.sem_machine.specs.Sides.{Side, cap, job, job_changed, send}
use Rattle.sem_key.specs.Region.{has_key}
use Rattle.sem_machine.specs.Revokes.{count_raised, with_up, other_marker, adopted, request_or_adopt}
use Rattle.sem_key.proofs.KeyTests.{key_eq-same, key_eq-true, key_eq-from}
use Rattle.sem_safety.proofs.Lives.{lives-send}
use Rattle.sem_safety.proofs.JobIds.{HasIds, ids}
use Rattle.sem_revoke.specs.Views.{no_obligations, children, Caught}
use Rattle.sem_revoke.specs.Scales.{of_side, bit, names, requesting, naming, counting, noticing, straying}
use Rattle.sem_revoke.proofs.Keeping.{holds-same, same-mark}
use Rattle.sem_revoke.proofs.Scaling.{side-send, side-changed}
use Rattle.sem_revoke.proofs.Viewing.{on_its_way, Scene, one-true, one-false, owner, view, IsAlive, IsMarked, IsUnder, Row, hold-here, job-here, under-lost}
use Rattle.sem_revoke.proofs.Viewing.{job-weighs, job-id, changed-job, changed-roots, roots-joined, no-roots, sent-more, step, obligations-changed}

-- a count that grows
pub count-one : (t : Bool) (n : ℕ) → (if t then n + 1 else 0) ≡ (if t then n else 0) + bit t
count-one true n = refl
count-one false n = refl

pub count-same : (t u : Bool) (n : ℕ) → t ≡ u → (if t then n else 0) ≡ (if u then n else 0)
count-same t u n same = ap (λ b. if b then n else 0) same

-- each key stands once among these
abbrev pub AreApart : List KeyName → Type 0
AreApart [] = Unit {0}
AreApart (k ∷ ks) = (has_key ks k ≡ false) × AreApart ks

-- what stands behind the first is another key
other-first : (k : KeyName) (ks : List KeyName) (q : KeyName) → has_key ks k ≡ false → has_key ks q ≡ true → key_eq k q ≡ false
other-first k ks q first has = false_from_ne_true (key_eq k q) (λ same. true≢false (sym (ap (has_key ks) (key_eq-true k q same) ∙ has) ∙ first))

module _ (C : Scene) where
  abbrev i : ℕ
  i = C.kernel

  abbrev raise : JobRow → JobRow
  raise x = record x { count = x.count + 1 }

  pub changed-same : (s : Side) (m : ℕ) (f : JobRow → JobRow) (x : JobRow) → ((x : JobRow) → ((f x).id ≡ x.id) × ((f x).root ≡ x.root))
      → job s m ≡ Some x →
      job (job_changed m f s) m ≡ Some (f x)
  changed-same s m f x same open_ = changed-job C s m f same m ∙ (cond-true (m == m) (option_map f (job s m)) (job s m) (eq-eqb m m refl)
      ∙ ap (option_map f) open_)

  pub changed-other : (s : Side) (m : ℕ) (f : JobRow → JobRow) (n : ℕ) → ((x : JobRow) → ((f x).id ≡ x.id) × ((f x).root ≡ x.root)) → n ≢ m →
      job (job_changed m f s) n ≡ job s n
  changed-other s m f n same other = changed-job C s m f same n ∙ cond-false (n == m) (option_map f (job s n)) (job s n) (ne_eqb n m other)

  -- the count of a job that was raised
  pub raised-count : (s : Side) (j a b : ℕ) (x : JobRow) → HasIds s → job s j ≡ Some x →
      of_side (counting a b) i (count_raised j s) ≡ of_side (counting a b) i s + bit ((i == a) && (j == b))
  raised-count s j a b x is open_ =
      let sum = side-changed (counting a b) i s j raise x is.rise open_ in
      let more = count-one ((i == a) && (x.id == b)) x.count in
      let id : bit ((i == a) && (x.id == b)) ≡ bit ((i == a) && (j == b)) = ap (λ n. bit ((i == a) && (n == b))) (job-id C s j x open_) in
      omega (arith, sum, more, id)

  -- the job of an id, by the test of kernel and id
  at-both : (a b c d : ℕ) → ((a == c) && (b == d)) ≡ true → (a ≡ c) × (b ≡ d)
  at-both a b c d pass = let parts = and_parts (a == c) (b == d) pass in (eqb-true a c parts.0, eqb-true b d parts.1)

  from-both : (a b c d : ℕ) → a ≡ c → b ≡ d → ((a == c) && (b == d)) ≡ true
  from-both a b c d one two = and_from (a == c) (b == d) (eq-eqb a c one) (eq-eqb b d two)

  -- A request for a remote child.
  module _ (s : Side) (j : ℕ) (k : KeyName) (ks : List KeyName) (x : JobRow) (open_ : job s j ≡ Some x) (away : owner C k ≡ i →
      ⊥) (under : IsUnder C s k i j) (first : has_key ks k ≡ false) (R : Row C (children i j (k ∷ ks)) s) where
    abbrev asked_for : Side
    asked_for = send (owner C k) (RevokeReq k j) s

    abbrev requested : Side
    requested = count_raised j asked_for

    requested-asks : (q : KeyName) (a b : ℕ) → of_side (requesting q a b) i requested ≡ of_side (requesting q a b) i s + bit (key_eq k q && ((i == a) && (j == b)))
    requested-asks q a b =
        let sent = side-send (requesting q a b) i s (owner C k) (RevokeReq k j) in
        let raised = side-changed (requesting q a b) i asked_for j raise x R.ids.rise open_ in
        omega (arith, sent, raised)

    requested-tokens : (a b : ℕ) → of_side (naming a b) i requested ≡ of_side (naming a b) i s + bit ((i == a) && (j == b))
    requested-tokens a b =
        let sent = side-send (naming a b) i s (owner C k) (RevokeReq k j) in
        let raised = side-changed (naming a b) i asked_for j raise x R.ids.rise open_ in
        omega (arith, sent, raised)

    requested-placed : of_side (straying (owner C)) i requested ≡ of_side (straying (owner C)) i s
    requested-placed =
        let sent = side-send (straying (owner C)) i s (owner C k) (RevokeReq k j) in
        let raised = side-changed (straying (owner C)) i asked_for j raise x R.ids.rise open_ in
        let there : ((owner C k == owner C k) && not (owner C k == i)) ≡ true =
        and_from (owner C k == owner C k) (not (owner C k == i)) (eq-eqb (owner C k) (owner C k) refl)
        (not_from_false (owner C k == i) (ne_eqb (owner C k) i away)) in
        let none : bit (not ((owner C k == owner C k) && not (owner C k == i))) ≡ 0 = ap (λ t. bit (not t)) there in
        omega (arith, sent, raised, none)

    pub row-requested : Row C (children i j ks) requested
    row-requested =
        step C (children i j (k ∷ ks)) (children i j ks) s requested
        (holds-same (owner C) C.parent C.one_parent C.made (view C s) (view C requested) (λ q. refl) (λ q. let sent =
        lives-send q on_its_way s (owner C k) (RevokeReq k j) in omega (arith, sent)))
        (roots-joined C s asked_for requested (no-roots C s asked_for refl)
        (changed-roots C asked_for j raise (λ x. (refl, refl)) (λ x there. (λ is. is, λ is. is))))
        R.rises (ids.keeps_changed asked_for (record { rise = R.ids.rise; drawn = R.ids.drawn }) j raise (λ x. (refl, refl))) R.homes (let S =
        sent-more C s (owner C k) (RevokeReq k j) (λ q. refl) R.sent in record { inbox = S.inbox; sends = S.sends })
        (λ q a b alive under' before. caught q a b before)
        (λ q a b more. elim (cases_Bool (key_eq k q && ((i == a) && (j == b)))) [
          | inl pass ↦
              let parts = and_parts (key_eq k q) ((i == a) && (j == b)) pass in
              let at = at-both i j a b parts.1 in
              inr (subst (λ c. IsUnder C s q c b) at.0 (subst (λ d. IsUnder C s q i d) at.1 (subst (λ z. IsUnder C s z i j) (key_eq-true k q parts.0) under)))
          | inr fail ↦ let sum = requested-asks q a b in let none = one-false (key_eq k q && ((i == a) && (j == b))) fail in
              inl (omega (arith, sum, none, more))
        ])
        (λ a n loose. loose)
        (λ a b. let sum = requested-tokens a b in let more = raised-count asked_for j a b x (record { rise = R.ids.rise; drawn = R.ids.drawn }) open_ in
        let sent = side-send (counting a b) i s (owner C k) (RevokeReq k j) in let is = R.revokes.counted a b in omega (arith, sum, more, sent, is))
        (once, unasked)
        (λ q more. let sent = side-send (noticing q) i s (owner C k) (RevokeReq k j) in
        let raised = side-changed (noticing q) i asked_for j raise x R.ids.rise open_ in inl (omega (arith, sent, raised, more)))
        (let sum = requested-placed in let is = R.revokes.placed in omega (arith, sum, is))
        R
      where
        once : (q : KeyName) (a b : ℕ) → (view C requested).asked q a b ≤ 1
        once q a b =
            let sum = requested-asks q a b in
            let most = R.revokes.single.0 q a b in
            elim (cases_Bool (key_eq k q && ((i == a) && (j == b)))) [
              | inl pass ↦
                  let parts = and_parts (key_eq k q) ((i == a) && (j == b)) pass in
                  let at = at-both i j a b parts.1 in
                  let none = R.revokes.single.1 q a b (
                    sym at.0,
                    sym at.1,
                    or_left (key_eq q k) (has_key ks q) (key_eq-from q k (sym (key_eq-true k q parts.0))),
                  ) in
                  let one = one-true (key_eq k q && ((i == a) && (j == b))) pass in
                  omega (arith, sum, none, one)
              | inr fail ↦ let one = one-false (key_eq k q && ((i == a) && (j == b))) fail in omega (arith, sum, most, one)
            ]

        unasked : (q : KeyName) (a b : ℕ) → (a ≡ i) × (b ≡ j) × (has_key ks q ≡ true) → (view C requested).asked q a b ≡ 0
        unasked q a b (at, job', has) =
            let sum = requested-asks q a b in
            let none = R.revokes.single.1 q a b (at, job', or_right (key_eq q k) (has_key ks q) has) in
            let zero' : bit (key_eq k q && ((i == a) && (j == b))) ≡ 0 = ap (λ t. bit (t && ((i == a) && (j == b)))) (other-first k ks q first has) in
            omega (arith, sum, none, zero')

        caught : (q : KeyName) (a b : ℕ) → (1 ≤ (view C s).asked q a b) ⊎ ((a ≡ i) × (b ≡ j) × (has_key (k ∷ ks) q ≡ true)) →
            Caught (owner C) C.parent C.made (children i j ks) (view C requested) a b q
        caught q a b (inl more) = let sum = requested-asks q a b in inr (inl (omega (arith, sum, more)))
        caught q a b (inr (at, job', has)) = elim (or_cases (key_eq q k) (has_key ks q) has) [
          | inl same ↦
              let sum = requested-asks q a b in
              let one = one-true (key_eq k q && ((i == a) && (j == b)))
              (and_from (key_eq k q) ((i == a) && (j == b)) (key_eq-from k q (sym (key_eq-true q k same))) (from-both i j a b (sym at) (sym job'))) in
              inr (inl (omega (arith, sum, one)))
          | inr later ↦ inr (inr (at, job', later))
        ]

  -- A local child that another job has marked: that job is waited for.
  module _ (s : Side) (j m : ℕ) (k : KeyName) (ks : List KeyName) (y x : JobRow) (open_ : job s j ≡ Some y) (other : job s m ≡ Some x) (apart : j ≢ m)
      (root : x.root ≡ k) (under : IsUnder C s k i j) (first : has_key ks k ≡ false) (R : Row C (children i j (k ∷ ks)) s) where
    abbrev wait : JobRow → JobRow
    wait z = record z { up = Some (Local j); keep = false }

    abbrev waited : Side
    waited = with_up (Local j) m s

    abbrev adopting : Side
    adopting = count_raised j waited

    waited-ids : HasIds waited
    waited-ids = ids.keeps_changed s R.ids m wait (λ x. (refl, refl))

    waited-open : job waited j ≡ Some y
    waited-open = changed-other s m wait j (λ x. (refl, refl)) apart ∙ open_

    adopting-asks : (q : KeyName) (a b : ℕ) → of_side (requesting q a b) i adopting + bit (key_eq x.root q && names i x.up a b)
        ≡ of_side (requesting q a b) i s + bit (key_eq x.root q && ((i == a) && (j == b)))
    adopting-asks q a b =
        let first = side-changed (requesting q a b) i s m wait x R.ids.rise other in
        let raised = side-changed (requesting q a b) i waited j raise y waited-ids.rise waited-open in
        omega (arith, first, raised)

    adopting-tokens : (a b : ℕ) → of_side (naming a b) i adopting + bit (names i x.up a b) ≡ of_side (naming a b) i s + bit ((i == a) && (j == b))
    adopting-tokens a b =
        let first = side-changed (naming a b) i s m wait x R.ids.rise other in
        let raised = side-changed (naming a b) i waited j raise y waited-ids.rise waited-open in
        omega (arith, first, raised)

    pub row-adopting : Row C (children i j ks) adopting
    row-adopting =
        step C (children i j (k ∷ ks)) (children i j ks) s adopting
        (holds-same (owner C) C.parent C.one_parent C.made (view C s) (view C adopting) (λ q. refl) (λ q. omega arith))
        (roots-joined C s waited adopting
        (changed-roots C s m wait (λ x. (refl, refl)) (λ z there. (λ is kept. absurd cc, λ is. (λ leaves. root-lost z there, is.1))))
        (changed-roots C waited j raise (λ x. (refl, refl)) (λ x there. (λ is. is, λ is. is))))
        R.rises (ids.keeps_changed waited waited-ids j raise (λ x. (refl, refl))) R.homes (record { inbox = R.sent.inbox; sends = R.sent.sends })
        (λ q a b alive under' before. caught q a b under' before)
        (λ q a b more. elim (cases_Bool (key_eq x.root q && ((i == a) && (j == b)))) [
          | inl pass ↦
              let parts = and_parts (key_eq x.root q) ((i == a) && (j == b)) pass in
              let at = at-both i j a b parts.1 in
              inr (subst (λ c. IsUnder C s q c b) at.0 (subst (λ d. IsUnder C s q i d) at.1 (subst (λ z. IsUnder C s z i j) (sym root
              ∙ key_eq-true x.root q parts.0) under)))
          | inr fail ↦ let sum = adopting-asks q a b in let none = one-false (key_eq x.root q && ((i == a) && (j == b))) fail in
              inl (omega (arith, sum, none, more))
        ])
        (λ a n loose. loose)
        (λ a b.
        let sum = adopting-tokens a b in
        let more = raised-count waited j a b y waited-ids waited-open in
        let first' = side-changed (counting a b) i s m wait x R.ids.rise other in
        let is = R.revokes.counted a b in
        let none : bit (names i x.up a b) ≡ 0 = one-false (names i x.up a b) (alone a b) in
        omega (arith, sum, more, first', is, none))
        (once, unasked)
        (λ q more. let first = side-changed (noticing q) i s m wait x R.ids.rise other in
        let raised = side-changed (noticing q) i waited j raise y waited-ids.rise waited-open in inl (omega (arith, first, raised, more)))
        (let first = side-changed (straying (owner C)) i s m wait x R.ids.rise other in
        let raised = side-changed (straying (owner C)) i waited j raise y waited-ids.rise waited-open in let is = R.revokes.placed in
        omega (arith, first, raised, is))
        R
      where
        -- no job waits for it yet
        alone : (a b : ℕ) → names i x.up a b ≡ false
        alone a b = false_from_ne_true (names i x.up a b) (λ named.
            let weighs = job-weighs C (requesting k a b) s m x other in
            let one = one-true (key_eq x.root k && names i x.up a b) (and_from (key_eq x.root k) (names i x.up a b) (key_eq-from x.root k root) named) in
            let asked : 1 ≤ (view C s).asked k a b = omega (arith, weighs, one) in
            let mark = same-mark (owner C) C.parent C.one_parent C.made (view C s) k a b i j (R.revokes.asking k a b asked) under in
            let none = R.revokes.single.1 k a b (mark.0, mark.1, or_left (key_eq k k) (has_key ks k) (key_eq-same k)) in
            omega (arith, asked, none))

        once : (q : KeyName) (a b : ℕ) → (view C adopting).asked q a b ≤ 1
        once q a b =
            let sum = adopting-asks q a b in
            let most = R.revokes.single.0 q a b in
            elim (cases_Bool (key_eq x.root q && ((i == a) && (j == b)))) [
              | inl pass ↦
                  let parts = and_parts (key_eq x.root q) ((i == a) && (j == b)) pass in
                  let at = at-both i j a b parts.1 in
                  let none = R.revokes.single.1 q a b (
                    sym at.0,
                    sym at.1,
                    or_left (key_eq q k) (has_key ks q) (key_eq-from q k (sym (sym root ∙ key_eq-true x.root q parts.0))),
                  ) in
                  let one = one-true (key_eq x.root q && ((i == a) && (j == b))) pass in
                  omega (arith, sum, none, one)
              | inr fail ↦ let one = one-false (key_eq x.root q && ((i == a) && (j == b))) fail in omega (arith, sum, most, one)
            ]

        unasked : (q : KeyName) (a b : ℕ) → (a ≡ i) × (b ≡ j) × (has_key ks q ≡ true) → (view C adopting).asked q a b ≡ 0
        unasked q a b (at, job', has) =
            let sum = adopting-asks q a b in
            let none = R.revokes.single.1 q a b (at, job', or_right (key_eq q k) (has_key ks q) has) in
            let zero' : bit (key_eq x.root q && ((i == a) && (j == b))) ≡ 0 = ap (λ t. bit (t && ((i == a) && (j == b)))) (ap (λ z. key_eq z q) root
            ∙ other-first k ks q first has) in
            omega (arith, sum, none, zero')

        -- the root of the job that is waited for is below a mark
        root-lost : (z : JobRow) → job s m ≡ Some z → C.lost z.root
        root-lost z there = subst C.lost (sym (ap (λ (w : JobRow). w.root) (same_Some z x (sym there ∙ other)) ∙ root))
            (under-lost C (children i j (k ∷ ks)) s R k i j under)

        -- the job that is waited for is asked for
        now : (q : KeyName) → key_eq x.root q ≡ true → 1 ≤ (view C adopting).asked q i j
        now q same =
            let sum = adopting-asks q i j in
            let one = one-true (key_eq x.root q && ((i == i) && (j == j)))
            (and_from (key_eq x.root q) ((i == i) && (j == j)) same (from-both i j i j refl refl)) in
            let weighs = job-weighs C (requesting q i j) s m x other in
            omega (arith, sum, one, weighs)

        caught : (q : KeyName) (a b : ℕ) → IsUnder C s q a b → (1 ≤ (view C s).asked q a b) ⊎ ((a ≡ i) × (b ≡ j) × (has_key (k ∷ ks) q ≡ true)) →
            Caught (owner C) C.parent C.made (children i j ks) (view C adopting) a b q
        caught q a b under' before = elim (cases_Bool (key_eq x.root q)) [
          | inl same ↦
              let mark = same-mark (owner C) C.parent C.one_parent C.made (view C s) q i j a b (subst (λ z. IsUnder C s z i j) (sym root
              ∙ key_eq-true x.root q same) under) under' in
              inr (inl (subst (λ c. 1 ≤ (view C adopting).asked q c b) mark.0 (subst (λ d. 1 ≤ (view C adopting).asked q i d) mark.1 (now q same))))
          | inr differ ↦ old before differ
        ]
          where
            old : (1 ≤ (view C s).asked q a b) ⊎ ((a ≡ i) × (b ≡ j) × (has_key (k ∷ ks) q ≡ true)) → key_eq x.root q ≡ false →
                Caught (owner C) C.parent C.made (children i j ks) (view C adopting) a b q
            old (inl more) differ =
                let sum = adopting-asks q a b in
                let none : bit (key_eq x.root q && names i x.up a b) ≡ 0 = ap (λ t. bit (t && names i x.up a b)) differ in
                let none' : bit (key_eq x.root q && ((i == a) && (j == b))) ≡ 0 = ap (λ t. bit (t && ((i == a) && (j == b)))) differ in
                inr (inl (omega (arith, sum, none, none', more)))
            old (inr (at, job', has)) differ = elim (or_cases (key_eq q k) (has_key ks q) has) [
              | inl same ↦ absurd (true≢false (sym (key_eq-from x.root q (root ∙ sym (key_eq-true q k same))) ∙ differ))
              | inr later ↦ inr (inr (at, job', later))
            ]

  -- The children are settled one after the other.
  pub record Settling (j : ℕ) (ks : List KeyName) (s : Side) : Type 0 where
    pub row : Row C (children i j ks) s
    pub open_ : (x : JobRow) × (job s j ≡ Some x)
    pub under : (k : KeyName) → has_key ks k ≡ true → IsUnder C s k i j
    -- what is held here of them is marked
    pub closed : (k : KeyName) (c : Capability) → has_key ks k ≡ true → owner C k ≡ i → cap s k ≡ Some c → c.mark ≡ None → ⊥
    -- each stands there once
    pub distinct : AreApart ks

  adopt-one : (s : Side) (j : ℕ) (k : KeyName) (ks : List KeyName) → owner C k ≡ i → Settling j (k ∷ ks) s → (o : Option Capability) → cap s k ≡ o →
      Settling j ks (adopted j (other_marker j o) s)
  adopt-one s j k ks here S o held = from o held
    where
      first : has_key (k ∷ ks) k ≡ true
      first = or_left (key_eq k k) (has_key ks k) (key_eq-same k)

      at_k : (view C s).hold k ≡ cap s k
      at_k = hold-here C s k here

      -- nothing is done
      stays : (IsAlive C s k → IsMarked C s k j) → Settling j ks s
      stays marked = record {
        row = obligations-changed C (children i j (k ∷ ks)) (children i j ks) s
            (λ q a b alive under' (at, job', has). elim (or_cases (key_eq q k) (has_key ks q) has) [
              | inl same ↦
                  let is_k : q ≡ k = key_eq-true q k same in
                  inl (
                    ap (owner C) is_k
                        ∙ (here ∙ sym at),
                    subst (λ z. IsMarked C s z b) (sym is_k) (subst (IsMarked C s k) (sym job') (marked (subst (IsAlive C s) is_k alive))),
                  )
              | inr later ↦ inr (inr (at, job', later))
            ])
            (λ q a b (at, job', has). (at, job', or_right (key_eq q k) (has_key ks q) has))
            (λ a n loose. loose) (λ a b. refl) S.row;
        open_ = S.open_;
        under = λ q has. S.under q (or_right (key_eq q k) (has_key ks q) has);
        closed = λ q c has. S.closed q c (or_right (key_eq q k) (has_key ks q) has);
        distinct = S.distinct.1;
      }

      -- nothing of a local child is on its way, since its parent is here too
      none_coming : (view C s).gifts k ≡ 0
      none_coming = let u = S.under k first in S.row.fit.near u.0 k u.1 (u.2 ∙ sym here)

      taken : (m : ℕ) → j ≢ m → IsMarked C s k m → Settling j ks (count_raised j (with_up (Local j) m s))
      taken m apart marked =
          let job' = S.row.revokes.marks k m marked in
          let other : job s m ≡ Some job'.0 = sym (job-here C s m) ∙ (ap (λ a. (view C s).job a m) (sym here) ∙ job'.1) in
          let root : job'.0.root ≡ k = elim job'.2 [
            | inl is ↦ is
            | inr under' ↦ absurd (apart (same-mark (owner C) C.parent C.one_parent C.made (view C s) k i j (owner C k) m (S.under k first) under').1)
          ] in
          record {
            row = row-adopting s j m k ks S.open_.0 job'.0 S.open_.1 other apart root (S.under k first) S.distinct.0 S.row;
            open_ = (
              raise S.open_.0,
              changed-same (with_up (Local j) m s) j raise S.open_.0 (λ x. (refl, refl))
                  (changed-other s m (λ z. record z { up = Some (Local j); keep = false }) j (λ x. (refl, refl)) apart ∙ S.open_.1),
            );
            under = λ q has. S.under q (or_right (key_eq q k) (has_key ks q) has);
            closed = λ q c has. S.closed q c (or_right (key_eq q k) (has_key ks q) has);
            distinct = S.distinct.1;
          }

      by_mark : (c : Capability) → cap s k ≡ Some c → (m : Option ℕ) → c.mark ≡ m →
          Settling j ks (adopted j (option_and_then (λ m. if m == j then None else Some m) m) s)
      by_mark c held None unmarked = absurd (S.closed k c first here held unmarked)
      by_mark c held (Some m) marked = elim (cases_Bool (m == j)) [
        | inl same ↦
            let none : (if m == j then None else Some m) ≡ None = cond-true (m == j) None (Some m) same in
            subst (λ o. Settling j ks (adopted j o s)) (sym none) (stays (λ alive. (c, at_k ∙ held, marked ∙ ap Some (eqb-true m j same))))
        | inr differ ↦
            let some : (if m == j then None else Some m) ≡ Some m = cond-false (m == j) None (Some m) differ in
            subst (λ o. Settling j ks (adopted j o s)) (sym some) (taken m (λ same. eqb-false m j differ (sym same)) (c, at_k ∙ held, marked))
      ]

      from : (o : Option Capability) → cap s k ≡ o → Settling j ks (adopted j (other_marker j o) s)
      from None none = stays (λ alive. elim alive [
        | inl (c, held') ↦ let no' : None ≡ Some c = sym none ∙ (sym at_k ∙ held') in absurd cc
        | inr more ↦ let zero' = none_coming in absurd (omega (arith, more, zero'))
      ])
      from (Some c) held = by_mark c held c.mark refl

  settle-one : (s : Side) (j : ℕ) (k : KeyName) (ks : List KeyName) → Settling j (k ∷ ks) s → Settling j ks (request_or_adopt C.setup i j k s)
  settle-one s j k ks S = elim (cases_Bool (is_local C.setup i k)) [
    | inl here ↦ subst (Settling j ks)
        (sym (cond-true (is_local C.setup i k) (adopted j (other_marker j (cap s k)) s) (count_raised j (send (owner C k) (RevokeReq k j) s)) here))
        (adopt-one s j k ks (eqb-true (owner C k) i here) S (cap s k) refl)
    | inr away ↦ subst (Settling j ks)
        (sym (cond-false (is_local C.setup i k) (adopted j (other_marker j (cap s k)) s) (count_raised j (send (owner C k) (RevokeReq k j) s)) away)) (record {
          row = row-requested s j k ks S.open_.0 S.open_.1 (eqb-false (owner C k) i away) (S.under k (or_left (key_eq k k) (has_key ks k) (key_eq-same k)))
              S.distinct.0 S.row;
          open_ = (raise S.open_.0, changed-same (send (owner C k) (RevokeReq k j) s) j raise S.open_.0 (λ x. (refl, refl)) S.open_.1);
          under = λ q has. S.under q (or_right (key_eq q k) (has_key ks q) has);
          closed = λ q c has. S.closed q c (or_right (key_eq q k) (has_key ks q) has);
          distinct = S.distinct.1;
        })
  ]

  pub settle-all : (j : ℕ) (ks : List KeyName) (s : Side) → Settling j ks s → Settling j [] (in_turn (request_or_adopt C.setup i j) ks s)
  unfolding in_turn
  settle-all j [] s S = S
  settle-all j (k ∷ ks) s S = settle-all j ks (request_or_adopt C.setup i j k s) (settle-one s j k ks S)

  -- no child is left
  pub settled-all : (j : ℕ) (s : Side) → Settling j [] s → Row C no_obligations s
  settled-all j s S = obligations-changed C (children i j []) no_obligations s (λ k a b alive under (at, job', has). absurd cc)
      (λ k a b care. absurd care) (λ a n loose. loose)
      (λ a b. refl) S.row
