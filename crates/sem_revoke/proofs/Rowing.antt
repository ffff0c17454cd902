-- The rows that revoke: a revoke, a request from another kernel, a token that comes back, a notice, and the end of a VPE.
use Rattle.sem_key.specs.CapList
use Rattle.sem_key.proofs.Members.{Contains-from_filter}
use Rattle.std.proofs.Common.{◌≡◌, ◌≢◌, ◌⊎◌, ℕ, ◌+◌, ◌≤◌, Bool, true, false, not, ◌&&◌, List, [], ◌∷◌, map, Option, Some, None, refl, sym, ap, ◌∙◌, subst, inl}
use Rattle.std.proofs.Common.{inr, arith, eq-eqb, append-nil}
use Rattle.std.specs.Prelude.{◌==◌, if◌then◌else◌}
use Rattle.std.specs.List.{find}
use Rattle.std.specs.Option.{option_map, option_map_or}
use Rattle.std.proofs.lemmas.Bool.{cases_Bool, cases_eq, cond-true, cond_both, eqb-true, and_parts, and_from, true≢false, not-false, false_from_ne_true}
use Rattle.std.proofs.lemmas.Option.{same_Some}
use Rattle.sem_key.specs.KeyName.{KeyName, key_eq}
use Rattle.sem_key.specs.Lists.{in_turn, put}
use Rattle.sem_key.specs.Capability.{Capability}
use Rattle.sem_msg.specs.declared.message.Message.{Message}
use Rattle.sem_msg.specs.declared.message.Message.TheVariants.{ObtainNo, DelegateNo, Ack, Orphan, RevokeDone}
use Rattle.sem_msg.specs.declared.state.Ask.{Ask}
use Rattle.sem_msg.specs.declared.state.Ask.TheVariants.{Obtain as ObtainAsk, Delegate as DelegateAsk}
use Rattle.sem_msg.specs.declared.state.Parked.{Parked}
use Rattle.sem_msg.specs.declared.state.Parked.TheVariants.{ObtainWait, ObtainReady, ObtainCancelled, DelegateWait, DelegateReady, RevokeWait, Ready}
use Rattle.sem_msg.specs.declared.state.Up.TheVariants.{Remote}
use Rattle.sem_msg.specs.Rows.{JobRow, no_vpe}
use Rattle.sem_msg.specs.JobRows.{with_number, without_number}
use Rattle.sem_msg.specs.ParkedStates.{is_ready_with}
use Rattle.sem_msg.specs.Setup.{Setup}
use Rattle.sem_msg.specs.Lookups.{place_owner, kernel_of}
use Rattle.sem_msg.specs.declared.code.Code.{Code}
use Rattle.sem_msg.specs.declared.code.Code.TheVariants.{Dead}
use Rattle.sem_msg.specs.Codes.{code_number}
use Rattle.sem_machine.specs.Sides.{Side, row, cap, job, parked, outbox, parked_as, unparked, buried, send, with_inbox}
use Rattle.sem_machine.specs.Asks.{asker, is_unawaited, promise_freed, call_refused, refusal_sent, ask_refused}
use Rattle.sem_machine.specs.Revokes.{begin, count_lowered, with_up, waiter_added, waiter_left, revoke_begun, clear_begun, ready_freed, obtain_cancelled}
use Rattle.sem_machine.specs.Revokes.{request_begun, revoke_requested, revoke_done, settled, opened}
use Rattle.sem_machine.specs.Ends.{ask_ended, call_ended, revoked_if_left, keys_of_vpe, ended_but_held, ended}
use Rattle.sem_key.proofs.KeyTests.{key_eq-same, key_eq-true, key_eq-from}
use Rattle.sem_machine.proofs.Folds.{in_turn-keeps, in_turn-keeps_each}
use Rattle.sem_machine.proofs.Weighing.{weigh-map}
use Rattle.sem_safety.proofs.Lives.{at_parked, lives-parked, lives-unparked, lives-inbox}
use Rattle.sem_safety.proofs.JobIds.{HasIds, ids}
use Rattle.sem_revoke.specs.Views.{Obligations, IsCaused, no_obligations, token, request}
use Rattle.sem_revoke.specs.Scales.{Scale, of_side, of_inbox, bit, names, requesting, naming, counting, noticing, straying, requesting_message, token_message}
use Rattle.sem_revoke.proofs.Keeping.{holds-same, same-mark, cases_Option, not-gone}
use Rattle.sem_revoke.proofs.Scaling.{side-changed, side-inbox}
use Rattle.sem_revoke.proofs.Viewing.{on_its_way, Scene, one-more, one-true, one-false, owner, view, IsAlive, IsGone, IsMarked, IsUnder, Row, hold-here}
use Rattle.sem_revoke.proofs.Viewing.{job-here, job-weighs, StaysSo, under-lost, same-roots, changed-roots, no-roots, IsSent, step_from, step, rows-changed}
use Rattle.sem_revoke.proofs.Viewing.{row-sent}
use Rattle.sem_revoke.proofs.Opening.{row-opened}
use Rattle.sem_revoke.proofs.Closing.{row-lowered, counted-open}
use Rattle.sem_revoke.proofs.Chaining.{freed-row, parked-row, row-settled}

-- a job that is found, where all are changed and keep their ids
find-mapped : (g : JobRow → JobRow) → ((x : JobRow) → (g x).id ≡ x.id) → (n : ℕ) (xs : List JobRow) →
    find (λ x. x.id == n) (map g xs) ≡ option_map g (find (λ x. x.id == n) xs)
find-mapped g same n [] = refl
find-mapped g same n (x ∷ xs) =
    let test : ((g x).id == n) ≡ (x.id == n) = ap (λ m. m == n) (same x) in
    let rest = find-mapped g same n xs in
    elim (cases_Bool (x.id == n)) [ inl here ↦ cc | inr other ↦ cc ]

-- the job settled, and the capability revoked, if it is there
abbrev pub settled_if_there : Setup → ℕ → ℕ → Option JobRow → Side → Side
settled_if_there T i j None s = s
settled_if_there T i j (Some x) s = settled T i j (count_lowered j s)

abbrev pub revoked_if_there : Setup → ℕ → KeyName → Option Capability → Side → Side
revoked_if_there T i k None s = s
revoked_if_there T i k (Some c) s = option_map_or (λ m. s) c.mark (begin T i k None [] false s)

module _ (C : Scene) where
  abbrev i : ℕ
  i = C.kernel

  -- Who waits for a job changes.
  module _ (h : Obligations) (s : Side) (g : JobRow → JobRow) (same : (x : JobRow) → ((g x).id ≡ x.id) × ((g x).root ≡ x.root)) (ups : (x : JobRow) →
      (g x).up ≡ x.up) (counts : (x : JobRow) → (g x).count ≡ x.count) (so : (x : JobRow) →
      StaysSo C x (g x)) (is : HasIds (record s { jobs = map g s.jobs })) (R : Row C h s) where
    abbrev t : Side
    t = record s { jobs = map g s.jobs }

    job-t : (n : ℕ) → job t n ≡ option_map g (job s n)
    job-t n = find-mapped g (λ x. (same x).0) n s.jobs

    mapped : (o : Option JobRow) (y : JobRow) → option_map g o ≡ Some y → (x : JobRow) × (o ≡ Some x) × (x.root ≡ y.root) × StaysSo C x y
    mapped None y none = absurd cc
    mapped (Some x) y some = (
      x,
      refl,
      sym (same x).1 ∙ ap (λ (z : JobRow). z.root) (same_Some (g x) y some),
      subst (StaysSo C x) (same_Some (g x) y some) (so x),
    )

    asked-same : (k : KeyName) (a b : ℕ) → of_side (requesting k a b) i t ≡ of_side (requesting k a b) i s
    asked-same k a b = let sum = weigh-map (λ (x : JobRow). bit (key_eq x.root k && names i x.up a b)) g
        (λ x. ap (λ q. bit (key_eq q k && names i (g x).up a b)) (same x).1 ∙ ap (λ u. bit (key_eq x.root k && names i u a b)) (ups x)) s.jobs in
        omega (arith, sum)

    pub row-mapped : Row C h t
    row-mapped =
        step C h h s t (holds-same (owner C) C.parent C.one_parent C.made (view C s) (view C t) (λ k. refl) (λ k. omega arith))
        (same-roots C s t (λ n x open_. (g x, job-t n ∙ ap (option_map g) open_, (same x).1)) (λ n y open_. mapped (job s n) y (sym (job-t n) ∙ open_)))
        R.rises is R.homes (record { inbox = R.sent.inbox; sends = R.sent.sends })
        (λ k a b alive under before. inr (elim before [ inl more ↦ (let sum = asked-same k a b in inl (omega (arith, sum, more))) | inr care ↦ inr care ]))
        (λ k a b more. let sum = asked-same k a b in inl (omega (arith, sum, more)))
        (λ a n loose. loose)
        (λ a b.
        let tokens = weigh-map (λ (x : JobRow). bit (names i x.up a b)) g (λ x. ap (λ u. bit (names i u a b)) (ups x)) s.jobs in
        let count = weigh-map (λ (x : JobRow). if (i == a) && (x.id == b) then x.count
        else 0) g (λ x. ap (λ n. if (i == a) && (n == b) then (g x).count else 0) (same x).0
        ∙ ap (λ c. if (i == a) && (x.id == b) then c else 0) (counts x)) s.jobs in
        let before = R.revokes.counted a b in
        omega (arith, tokens, count, before)) (
          λ k a b. let sum = asked-same k a b in let most = R.revokes.single.0 k a b in omega (arith, sum, most),
          λ k a b care. let sum = asked-same k a b in
              let none = R.revokes.single.1 k a b care in omega (arith, sum, none),
        )
        (λ k more. let sum = weigh-map (λ (x : JobRow). 0) g (λ x. refl) s.jobs in inl (omega (arith, sum, more)))
        (let sum = weigh-map (λ (x : JobRow). 0) g (λ x. refl) s.jobs in let before = R.revokes.placed in omega (arith, sum, before))
        R

  -- where the VPE has ended, what it had is lost
  pub row-unwaited : (h : Obligations) (j v : ℕ) (s : Side) → ((k : KeyName) → k.vpe ≡ v → C.lost k) → Row C h s → Row C h (waiter_left j v s)
  row-unwaited h j v s ends R =
      row-mapped h s (λ (x : JobRow). record x { waiters = without_number x.waiters v; keep = x.keep && not ((x.id == j) && (x.root.vpe == v)) })
      (λ x. (refl, refl)) (λ x. refl) (λ x. refl)
      (λ x. (λ is keeps. is (and_parts x.keep (not ((x.id == j) && (x.root.vpe == v))) keeps).0, λ is. (λ leaves. root-lost x is leaves, is.1)))
      (ids.keeps_left s R.ids j v) R
    where
      root-lost : (x : JobRow) → IsCaused C.parent C.lost x → (x.keep && not ((x.id == j) && (x.root.vpe == v))) ≡ false → C.lost x.root
      root-lost x is leaves = elim (cases_Bool x.keep) [
        | inr fails ↦ is.0 fails
        | inl keeps ↦
            let test : ((x.id == j) && (x.root.vpe == v)) ≡ true =
            not-false ((x.id == j) && (x.root.vpe == v)) (sym (ap (λ b. b && not ((x.id == j) && (x.root.vpe == v))) keeps) ∙ leaves) in
            ends x.root (eqb-true x.root.vpe v (and_parts (x.id == j) (x.root.vpe == v) test).1)
      ]

  pub row-waiting : (h : Obligations) (j v : ℕ) (s : Side) → Row C h s → Row C h (waiter_added j v s)
  row-waiting h j v s R =
      let f : JobRow → JobRow = λ (x : JobRow). record x { waiters = with_number x.waiters v } in
      row-mapped h s (λ (x : JobRow). if x.id == j then f x else x)
      (λ x. cond_both (x.id == j) (f x) x (λ (y : JobRow). (y.id ≡ x.id) × (y.root ≡ x.root)) (λ _. (refl, refl)) (λ _. (refl, refl)))
      (λ x. cond_both (x.id == j) (f x) x (λ (y : JobRow). y.up ≡ x.up) (λ _. refl) (λ _. refl))
      (λ x. cond_both (x.id == j) (f x) x (λ (y : JobRow). y.count ≡ x.count) (λ _. refl) (λ _. refl))
      (λ x. cond_both (x.id == j) (f x) x (StaysSo C x) (λ _. (λ is. is, λ is. is)) (λ _. (λ is. is, λ is. is)))
      (ids.keeps_changed s R.ids j f (λ x. (refl, refl))) R

  -- a call is parked in a state that installs nothing
  pub row-parked : (h : Obligations) (v : ℕ) (p : Parked) (s : Side) → ((k : KeyName) → at_parked k (Some p) ≡ 0) → Row C h s → Row C h (parked_as v p s)
  row-parked h v p s none R = rows-changed C h s s.vpes s.endpoints (put None s.parks v (Some p)) (λ k. let less = lives-parked k on_its_way s v p in
      let zero' = none k in omega (arith, less, zero')) R

  -- Begin.

  -- what is lost is a cause
  all-lost : (k : KeyName) → C.lost k → {b : Bool} → (b ≡ false → C.lost k) × ((q : KeyName) → C.parent k q → C.lost q)
  all-lost k is = (λ leaves. is, λ q granted. C.lower k q granted is)

  -- a job is opened
  pub row-opened_at : (root : KeyName) (waiters : List ℕ) (keep : Bool) → (keep ≡ false → C.lost root) × ((k : KeyName) → C.parent root k → C.lost k)
      → (s : Side) (c : Capability) → cap s root ≡ Some c → c.mark ≡ None → Row C no_obligations s → Row C no_obligations (opened C.setup i root None waiters keep s)
  unfolding opened
  row-opened_at root waiters keep caused s c held unmarked R = row-opened C no_obligations root None waiters keep (λ _. refl) caused s R c held unmarked
      (λ a b loose. loose) (λ k a b care. absurd care) (λ k a b pass. let parts = and_parts (key_eq root k) false pass in
      absurd (true≢false (sym parts.1))) (λ a b. refl) (λ a b no'. absurd cc)

  pub row-begun : (root : KeyName) (waiters : List ℕ) (keep : Bool) → (keep ≡ false → C.lost root) × ((k : KeyName) → C.parent root k → C.lost k)
      → (s : Side) (c : Capability) → cap s root ≡ Some c → c.mark ≡ None → Row C no_obligations s → Row C no_obligations (begin C.setup i root None waiters keep s)
  row-begun root waiters keep caused s c held unmarked R =
      row-settled C s.next_job (opened C.setup i root None waiters keep s) (row-opened_at root waiters keep caused s c held unmarked R)

  pub row-opened_for : (root : KeyName) (from j : ℕ) (s : Side) (c : Capability) → cap s root ≡ Some c → c.mark ≡ None → IsUnder C s root from j
      → Row C (request root from j) s → Row C no_obligations (opened C.setup i root (Some (Remote from j)) [] false s)
  unfolding opened
  row-opened_for root from j s c held unmarked under R =
      row-opened C (request root from j) root (Some (Remote from j)) [] false (λ no'. absurd cc)
      (all-lost root (under-lost C (request root from j) s R root from j under)) s R c held unmarked (λ a b loose. loose)
      (λ k a b (at, job', same). and_from (key_eq root k) ((from == a) && (j == b)) (key_eq-from root k (sym same))
      (and_from (from == a) (j == b) (eq-eqb from a (sym at)) (eq-eqb j b (sym job'))))
      (λ k a b pass. let outer = and_parts (key_eq root k) ((from == a) && (j == b)) pass in let inner = and_parts (from == a) (j == b) outer.1 in
      (sym (eqb-true from a inner.0), sym (eqb-true j b inner.1), sym (key_eq-true root k outer.0)))
      (λ a b. refl)
      (λ a b pass. let parts = and_parts (from == a) (j == b) pass in
      subst (λ c. IsUnder C s root c b) (eqb-true from a parts.0) (subst (λ d. IsUnder C s root from d) (eqb-true j b parts.1) under))

  row-begun_for : (root : KeyName) (from j : ℕ) (s : Side) (c : Capability) → cap s root ≡ Some c → c.mark ≡ None → IsUnder C s root from j
      → Row C (request root from j) s → Row C no_obligations (begin C.setup i root (Some (Remote from j)) [] false s)
  row-begun_for root from j s c held unmarked under R = row-settled C s.next_job (opened C.setup i root (Some (Remote from j)) [] false s)
      (row-opened_for root from j s c held unmarked under R)

  pub row-revoked : (v : ℕ) (k : KeyName) (s : Side) (c : Capability) → cap s k ≡ Some c → C.lost k → Row C no_obligations s →
      Row C no_obligations (revoke_begun C.setup i v k c.mark s)
  row-revoked v k s c held is_lost R = from c.mark refl
    where
      from : (m : Option ℕ) → c.mark ≡ m → Row C no_obligations (revoke_begun C.setup i v k m s)
      from None unmarked = row-begun k (v ∷ []) false (all-lost k is_lost) (parked_as v (RevokeWait s.next_job) s) c held unmarked
          (row-parked no_obligations v (RevokeWait s.next_job) s (λ q. refl) R)
      from (Some j) marked = row-waiting no_obligations j v (parked_as v (RevokeWait j) s) (row-parked no_obligations v (RevokeWait j) s (λ q. refl) R)

  pub row-cleared : (v : ℕ) (k : KeyName) (s : Side) (c : Capability) → cap s k ≡ Some c → c.mark ≡ None → ((q : KeyName) → C.parent k q → C.lost q) →
      Row C no_obligations s → Row C no_obligations (clear_begun C.setup i v k s)
  row-cleared v k s c held unmarked lost R = row-begun k (v ∷ []) true (λ no'. absurd cc, lost) (parked_as v (RevokeWait s.next_job) s) c held unmarked
      (row-parked no_obligations v (RevokeWait s.next_job) s (λ q. refl) R)

  -- A request from another kernel.
  module _ (k : KeyName) (from j : ℕ) (s : Side) (here : owner C k ≡ i) (away : from ≢ i) (under : IsUnder C s k from j) (R : Row C (request k from j) s) where
    -- the key is marked by another job: its root, which nobody waits for yet
    upped : (c : Capability) (m : ℕ) → cap s k ≡ Some c → c.mark ≡ Some m → Row C no_obligations (with_up (Remote from j) m s)
    upped c m held marked =
        let is_marked : IsMarked C s k m = (c, hold-here C s k here ∙ held, marked) in
        let found = R.revokes.marks k m is_marked in
        let open_ : job s m ≡ Some found.0 = sym (job-here C s m) ∙ (ap (λ a. (view C s).job a m) (sym here) ∙ found.1) in
        let root : found.0.root ≡ k = elim found.2 [
          | inl is ↦ is
          | inr under' ↦ absurd (away ((same-mark (owner C) C.parent C.one_parent C.made (view C s) k from j (owner C k) m under under').0 ∙ here))
        ] in
        with_it found.0 open_ root
      where
        f : JobRow → JobRow
        f x = record x { up = Some (Remote from j); keep = false }

        with_it : (x : JobRow) → job s m ≡ Some x → x.root ≡ k → Row C no_obligations (with_up (Remote from j) m s)
        with_it x open_ root =
            step C (request k from j) no_obligations s t
            (holds-same (owner C) C.parent C.one_parent C.made (view C s) (view C t) (λ q. refl) (λ q. omega arith))
            (changed-roots C s m f (λ x. (refl, refl)) (λ z there. (λ is kept. absurd cc, λ is. (λ leaves. root-lost z there, is.1))))
            R.rises (ids.keeps_changed s R.ids m f (λ x. (refl, refl))) R.homes (record { inbox = R.sent.inbox; sends = R.sent.sends })
            (λ q a b alive under' before. inr (inl (still q a b under' before)))
            (λ q a b more. let sum = asks q a b in elim (cases_Bool (key_eq x.root q && ((from == a) && (j == b)))) [
              | inl pass ↦
                  let parts = and_parts (key_eq x.root q) ((from == a) && (j == b)) pass in
                  let at = and_parts (from == a) (j == b) parts.1 in
                  inr (subst (λ z. IsUnder C s z a b) (sym root
                  ∙ key_eq-true x.root q parts.0)
                  (subst (λ d. IsUnder C s k d b) (eqb-true from a at.0) (subst (λ d. IsUnder C s k from d) (eqb-true j b at.1) under)))
              | inr fail ↦ let none = one-false (key_eq x.root q && ((from == a) && (j == b))) fail in inl (omega (arith, sum, none, more))
            ])
            (λ a n loose. loose)
            (λ a b.
            let tokens = side-changed (naming a b) i s m f x R.ids.rise open_ in
            let count = side-changed (counting a b) i s m f x R.ids.rise open_ in
            let before = R.revokes.counted a b in
            let none : bit (names i x.up a b) ≡ 0 = one-false (names i x.up a b) (alone a b) in
            omega (arith, tokens, count, before, none))
            (λ q a b. once q a b, λ q a b care. absurd care)
            (λ q more. let sum = side-changed (noticing q) i s m f x R.ids.rise open_ in inl (omega (arith, sum, more)))
            (let sum = side-changed (straying (owner C)) i s m f x R.ids.rise open_ in let before = R.revokes.placed in omega (arith, sum, before))
            R
          where
            t : Side
            t = with_up (Remote from j) m s

            root-lost : (z : JobRow) → job s m ≡ Some z → C.lost z.root
            root-lost z there = subst C.lost (sym (ap (λ (w : JobRow). w.root) (same_Some z x (sym there ∙ open_)) ∙ root))
                (under-lost C (request k from j) s R k from j under)

            -- no job waits for it yet
            alone : (a b : ℕ) → names i x.up a b ≡ false
            alone a b = false_from_ne_true (names i x.up a b) (λ named.
                let weighs = job-weighs C (requesting k a b) s m x open_ in
                let one = one-true (key_eq x.root k && names i x.up a b) (and_from (key_eq x.root k) (names i x.up a b) (key_eq-from x.root k root) named) in
                let asked : 1 ≤ (view C s).asked k a b = omega (arith, weighs, one) in
                let mark = same-mark (owner C) C.parent C.one_parent C.made (view C s) k a b from j (R.revokes.asking k a b asked) under in
                let none = R.revokes.single.1 k a b (mark.0, mark.1, refl) in
                omega (arith, asked, none))

            asks : (q : KeyName) (a b : ℕ) → of_side (requesting q a b) i t + bit (key_eq x.root q && names i x.up a b)
                ≡ of_side (requesting q a b) i s + bit (key_eq x.root q && ((from == a) && (j == b)))
            asks q a b = side-changed (requesting q a b) i s m f x R.ids.rise open_

            once : (q : KeyName) (a b : ℕ) → (view C t).asked q a b ≤ 1
            once q a b =
                let sum = asks q a b in
                let most = R.revokes.single.0 q a b in
                elim (cases_Bool (key_eq x.root q && ((from == a) && (j == b)))) [
                  | inl pass ↦
                      let parts = and_parts (key_eq x.root q) ((from == a) && (j == b)) pass in
                      let at = and_parts (from == a) (j == b) parts.1 in
                      let none = R.revokes.single.1 q a b (
                        sym (eqb-true from a at.0),
                        sym (eqb-true j b at.1),
                        sym (sym root ∙ key_eq-true x.root q parts.0),
                      ) in
                      let one = one-true (key_eq x.root q && ((from == a) && (j == b))) pass in
                      omega (arith, sum, none, one)
                  | inr fail ↦ let one = one-false (key_eq x.root q && ((from == a) && (j == b))) fail in omega (arith, sum, most, one)
                ]

            now : 1 ≤ (view C t).asked k from j
            now =
                let sum = asks k from j in
                let one = one-true (key_eq x.root k && ((from == from) && (j == j)))
                (and_from (key_eq x.root k) ((from == from) && (j == j)) (key_eq-from x.root k root)
                (and_from (from == from) (j == j) (eq-eqb from from refl) (eq-eqb j j refl))) in
                let weighs = job-weighs C (requesting k from j) s m x open_ in
                omega (arith, sum, one, weighs)

            still : (q : KeyName) (a b : ℕ) → IsUnder C s q a b → (1 ≤ (view C s).asked q a b) ⊎ ((a ≡ from) × (b ≡ j) × (q ≡ k)) → 1 ≤ (view C t).asked q a b
            still q a b under' before = elim (cases_Bool (key_eq x.root q)) [
              | inl same ↦
                  let is_q : k ≡ q = sym root ∙ key_eq-true x.root q same in
                  let mark = same-mark (owner C) C.parent C.one_parent C.made (view C s) q from j a b (subst (λ z. IsUnder C s z from j) is_q under) under' in
                  subst (λ z. 1 ≤ (view C t).asked z a b) is_q
                  (subst (λ c. 1 ≤ (view C t).asked k c b) mark.0 (subst (λ d. 1 ≤ (view C t).asked k from d) mark.1 now))
              | inr differ ↦ old before differ
            ]
              where
                old : (1 ≤ (view C s).asked q a b) ⊎ ((a ≡ from) × (b ≡ j) × (q ≡ k)) → key_eq x.root q ≡ false → 1 ≤ (view C t).asked q a b
                old (inl more) differ =
                    let sum = asks q a b in
                    let none : bit (key_eq x.root q && names i x.up a b) ≡ 0 = ap (λ t. bit (t && names i x.up a b)) differ in
                    let none' : bit (key_eq x.root q && ((from == a) && (j == b))) ≡ 0 = ap (λ t. bit (t && ((from == a) && (j == b)))) differ in
                    omega (arith, sum, none, none', more)
                old (inr (at, job', same)) differ = absurd (true≢false (sym (key_eq-from x.root q (root ∙ sym same)) ∙ differ))

    cancelled : Row C (request k from j) (obtain_cancelled k s)
    cancelled = cond_both (is_ready_with k (parked s k.vpe)) _ s (Row C (request k from j))
        (λ _. row-parked (request k from j) k.vpe ObtainCancelled (ready_freed (parked s k.vpe) k.vpe s) (λ q. refl) (freed-ready (parked s k.vpe))) (λ _. R)
      where
        freed-ready : (p : Option Parked) → Row C (request k from j) (ready_freed p k.vpe s)
        freed-ready None = R
        freed-ready (Some (ObtainReady key parent object sel)) = freed-row C (request k from j) k.vpe sel s R
        freed-ready (Some (ObtainWait number sel)) = R
        freed-ready (Some ObtainCancelled) = R
        freed-ready (Some (DelegateWait parent)) = R
        freed-ready (Some (DelegateReady parent key)) = R
        freed-ready (Some (RevokeWait j)) = R
        freed-ready (Some (Ready code)) = R

    -- the key is not held: nothing of it is on its way once a ready obtain is cancelled
    missed : IsGone C (obtain_cancelled k s) k → Row C no_obligations (send from (RevokeDone j) (obtain_cancelled k s))
    missed gone =
        row-sent C (request k from j) no_obligations (obtain_cancelled k s) from (RevokeDone j) (λ q a b. refl) (λ q. refl) refl (λ a b. omega arith)
        (λ a b q alive (at, job', same). not-gone (owner C) C.parent C.one_parent C.made (view C (obtain_cancelled k s)) k gone
        (subst (IsAlive C (obtain_cancelled k s)) same alive))
        (λ a b q care. absurd care)
        (λ a n loose. loose) (λ q more. absurd (omega (arith, more))) cancelled

    pub row-requested : ((cap s k ≡ None) → IsGone C (obtain_cancelled k s) k) → Row C no_obligations (revoke_requested C.setup i from j k (cap s k) s)
    row-requested late = by_cap (cap s k) refl
      where
        by_mark : (c : Capability) → cap s k ≡ Some c → (m : Option ℕ) → c.mark ≡ m → Row C no_obligations (request_begun C.setup i from j k m s)
        by_mark c held None unmarked = row-begun_for k from j s c held unmarked under R
        by_mark c held (Some m) marked = upped c m held marked

        by_cap : (o : Option Capability) → cap s k ≡ o → Row C no_obligations (revoke_requested C.setup i from j k o s)
        by_cap None none = missed (late none)
        by_cap (Some c) held = by_mark c held c.mark refl

  -- A token that comes back.
  pub row-done : (j : ℕ) (s : Side) → Row C (token i j) s → Row C no_obligations (revoke_done C.setup i j s)
  row-done j s R = from (job s j) refl
    where
      from : (o : Option JobRow) → job s j ≡ o → Row C no_obligations (settled_if_there C.setup i j o s)
      from None none =
          let is = R.revokes.counted i j in
          let one = one-true ((i == i) && (j == j)) (and_from (i == i) (j == j) (eq-eqb i i refl) (eq-eqb j j refl)) in
          let there = counted-open C s j (omega (arith, is, one)) in
          let no' : None ≡ Some there.0 = sym none ∙ there.1 in
          absurd cc
      from (Some x) some = row-settled C j (count_lowered j s) (row-lowered C s j x some R)

  -- The end of a VPE.

  pub row-refused : (code : Code) (a : Ask) (s : Side) → Row C no_obligations s → Row C no_obligations (ask_refused C.setup i code a s)
  row-refused code a s R = cond_both (kernel_of C.setup (asker a) == i) (call_refused (code_number code) (asker a) s) (refusal_sent C.setup code a s)
      (Row C no_obligations) (λ _. parked-row C no_obligations (asker a) (code_number code) (promise_freed (parked s (asker a)) (asker a) s)
      (freed-promise (parked s (asker a)) (asker a))) (λ _. refusal a)
    where
      freed-promise : (p : Option Parked) (v : ℕ) → Row C no_obligations (promise_freed p v s)
      freed-promise None v = R
      freed-promise (Some (ObtainWait number sel)) v = freed-row C no_obligations v sel s R
      freed-promise (Some (ObtainReady key parent object sel)) v = R
      freed-promise (Some ObtainCancelled) v = R
      freed-promise (Some (DelegateWait parent)) v = R
      freed-promise (Some (DelegateReady parent key)) v = R
      freed-promise (Some (RevokeWait j)) v = R
      freed-promise (Some (Ready code)) v = R

      refusal : (a : Ask) → Row C no_obligations (refusal_sent C.setup code a s)
      refusal (ObtainAsk place target) = row-sent C no_obligations no_obligations s (place_owner C.setup place) (ObtainNo place (code_number code)) (λ k a b. refl)
          (λ k. refl) refl (λ a b. refl) (λ a b k alive care. care) (λ a b k care. care) (λ a n loose. loose) (λ k more. absurd (omega (arith, more))) R
      refusal (DelegateAsk parent object sel) = row-sent C no_obligations no_obligations s (owner C parent) (DelegateNo parent (code_number code)) (λ k a b. refl)
          (λ k. refl) refl (λ a b. refl) (λ a b k alive care. care) (λ a b k care. care) (λ a n loose. loose) (λ k more. absurd (omega (arith, more))) R

  unparked-row : (v : ℕ) (s : Side) → Row C no_obligations s → Row C no_obligations (unparked v s)
  unparked-row v s R = rows-changed C no_obligations s s.vpes s.endpoints (put None s.parks v None) (λ k. let less = lives-unparked k on_its_way s v in
      omega (arith, less)) R

  -- what the parked call of the dead VPE owes
  row-call_ended : (v : ℕ) (s : Side) → ((k : KeyName) → k.vpe ≡ v → C.lost k) → Row C no_obligations s →
      Row C no_obligations (call_ended C.setup (parked s v) v (unparked v s))
  row-call_ended v s ends R = from (parked s v) refl
    where
      t : Side
      t = unparked v s

      U : Row C no_obligations t
      U = unparked-row v s R

      -- the key of an install that does not come is gone
      orphan : (key parent : KeyName) (p : Option Parked) → parked s v ≡ p → at_parked key p ≡ 1 → IsGone C t key × C.made key
      orphan key parent p is one =
          let sum = lives-unparked key on_its_way s v in
          let weight : at_parked key (parked s v) ≡ 1 = ap (at_parked key) is ∙ one in
          let most = R.fit.few key in (
            (
              (elim (cases_Option ((view C s).hold key)) [
                | inl (c, held) ↦ let none = R.fit.apart key c held in absurd (omega (arith, sum, weight, none))
                | inr none ↦ none
              ]),
              omega (arith, sum, weight, most),
            ),
            R.fit.made key (inr (omega (arith, sum, weight))),
          )

      from : (p : Option Parked) → parked s v ≡ p → Row C no_obligations (call_ended C.setup p v t)
      from None is = U
      from (Some (ObtainWait number sel)) is = U
      from (Some (ObtainReady key parent object sel)) is =
          let gone = orphan key parent (Some (ObtainReady key parent object sel)) is (cond-true (key_eq key key) 1 0 (key_eq-same key)) in
          row-sent C no_obligations no_obligations t (owner C parent) (Orphan parent key) (λ k a b. refl) (λ k. refl) refl (λ a b. refl) (λ a b k alive care. care)
          (λ a b k care. care) (λ a n loose. loose)
          (λ k more. let same : key ≡ k = key_eq-true key k (one-more (key_eq key k) more) in subst (λ z. IsGone C t z × C.made z) same gone) U
      from (Some ObtainCancelled) is = U
      from (Some (DelegateWait parent)) is = U
      from (Some (DelegateReady parent key)) is = row-sent C no_obligations no_obligations t (owner C key) (Ack key false) (λ k a b. refl) (λ k. refl) refl (λ a b. refl)
          (λ a b k alive care. care) (λ a b k care. care) (λ a n loose. loose) (λ k more. absurd (omega (arith, more))) U
      from (Some (RevokeWait j)) is = row-unwaited no_obligations j v t ends U
      from (Some (Ready code)) is = U

  pub row-left : (k : KeyName) (s : Side) → C.lost k → Row C no_obligations s → Row C no_obligations (revoked_if_left C.setup i k s)
  row-left k s is_lost R = from (cap s k) refl
    where
      by_mark : (c : Capability) → cap s k ≡ Some c → (m : Option ℕ) → c.mark ≡ m →
          Row C no_obligations (option_map_or (λ m. s) m (begin C.setup i k None [] false s))
      by_mark c held None unmarked = row-begun k [] false (all-lost k is_lost) s c held unmarked R
      by_mark c held (Some m) marked = R

      from : (o : Option Capability) → cap s k ≡ o → Row C no_obligations (revoked_if_there C.setup i k o s)
      from None none = R
      from (Some c) held = by_mark c held c.mark refl

  pub row-ended_but_held : (v : ℕ) (s : Side) → ((k : KeyName) → k.vpe ≡ v → C.lost k) → Row C no_obligations s → Row C no_obligations (ended_but_held C.setup i v s)
  row-ended_but_held v s ends R =
      let asks : List Ask = (row s v).asks in
      let dead : Row C no_obligations (buried v s) = rows-changed C no_obligations s (put no_vpe s.vpes v (record (row s v) { alive = false; asks = [] })) s.endpoints
      s.parks (λ k. omega arith) R in
      let answered : Side = in_turn (ask_ended C.setup i) asks (buried v s) in
      let told : Row C no_obligations answered =
      in_turn-keeps (Row C no_obligations) (ask_ended C.setup i) (λ a t here. cond_both (is_unawaited C.setup i t a) t (ask_refused C.setup i Dead a t)
      (Row C no_obligations) (λ _. here) (λ _. row-refused Dead a t here)) asks (buried v s) dead in
      row-call_ended v answered ends told

  pub row-ended : (v : ℕ) (s : Side) → ((k : KeyName) → k.vpe ≡ v → C.lost k) → Row C no_obligations s → Row C no_obligations (ended C.setup i v s)
  unfolding ended
  row-ended v s ends R =
      let last : Side = ended_but_held C.setup i v s in
      in_turn-keeps_each (Row C no_obligations) (revoked_if_left C.setup i) (keys_of_vpe last v)
      (λ k among t here. row-left k t (ends k (eqb-true k.vpe v (Contains-from_filter (λ (q : KeyName). q.vpe == v) (CapList.keys_of last.caps) k among).1))
      here) last (row-ended_but_held v s ends R)

  -- A message is taken out of the inbox.
  pub row-taken : (h : Obligations) (s : Side) (from : ℕ) (m : Message) → s.inbox ≡ Some (from, m)
      → ((k : KeyName) (a b : ℕ) → 1 ≤ requesting_message k a b from i m → h.cares a b k)
      → ((a b : ℕ) → h.owed a b ≡ token_message a b from i m)
      → ((k : KeyName) (a b : ℕ) → h.cares a b k → 1 ≤ requesting_message k a b from i m)
      → Row C no_obligations s → Row (record C { before = with_inbox None s }) h (with_inbox None s)
  row-taken h s from m full cares owed cared R =
      step_from D no_obligations h s t
      (holds-same (owner C) C.parent C.one_parent C.made (view C s) (view C t) (λ k. refl) (λ k. let sum = lives-inbox k on_its_way s None in
      omega (arith, sum)))
      (no-roots D s t refl) R.rises (record { rise = R.ids.rise; drawn = R.ids.drawn }) R.homes here
      (λ k a b alive under before. inr (elim before [
        | inl more ↦ elim (cases_eq (requesting_message k a b from i m) 0) [
          | inl none ↦ let sum = out (requesting k a b) in inl (omega (arith, sum, none, more))
          | inr some ↦ inr (cares k a b (omega (arith, some)))
        ]
        | inr care ↦ absurd care
      ]))
      (λ k a b more. let sum = out (requesting k a b) in inl (omega (arith, sum, more)))
      (λ a n loose. absurd loose)
      (λ a b. let sum = out (naming a b) in let count = out (counting a b) in let few = owed a b in let before = R.revokes.counted a b in
      omega (arith, sum, count, few, before)) (
        λ k a b. let sum = out (requesting k a b) in let most = R.revokes.single.0 k a b in omega (arith, sum, most),
        λ k a b care. let sum = out (requesting k a b) in
            let most = R.revokes.single.0 k a b in let some = cared k a b care in omega (arith, sum, most, some),
      )
      (λ k more. let sum = out (noticing k) in inl (omega (arith, sum, more)))
      (let sum = out (straying (owner C)) in let before = R.revokes.placed in omega (arith, sum, before))
      R.caused (λ k c was. inl (c, was)) R.fit R.revokes
    where
      D : Scene
      D = record C { before = with_inbox None s }

      t : Side
      t = with_inbox None s

      here : IsSent D t
      here = record { inbox = refl; sends = λ j. ([], sym (append-nil (outbox t j)), λ k. refl) }

      out : (S : Scale) → of_side S i t + S.message from i m ≡ of_side S i s
      out S = let sum = side-inbox S i s None in let weight : of_inbox S i s.inbox ≡ S.message from i m = ap (of_inbox S i) full in omega (arith, sum, weight)
