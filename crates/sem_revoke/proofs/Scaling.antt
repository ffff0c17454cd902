-- What the changes of a side, and the moves of messages between kernels, do to a sum over messages and jobs.
use Rattle.std.proofs.Common.{◌≡◌, ℕ, zero, suc, ◌+◌, ◌<◌, Bool, true, false, not, List, [], ◌∷◌, ◌++◌, drop, get_or, replicate, Option, Some, slice_get, refl}
use Rattle.std.proofs.Common.{sym, ap, ◌∙◌, subst, inl, inr, arith}
use Rattle.std.specs.Prelude.{◌==◌, if◌then◌else◌}
use Rattle.std.specs.List.{AllPairs, Contains, filter, sum_by}
use Rattle.std.proofs.lemmas.Bool.{cases_Bool, cond-true, cond-false, eqb-true, ne_eqb}
use Rattle.std.proofs.lemmas.Option.{same_Some}
use Rattle.std.proofs.lemmas.List.Sums.{sum_by-cons, sum_by_push}
use Rattle.sem_key.specs.KeyName.{KeyName}
use Rattle.sem_key.specs.Lists.{change, put}
use Rattle.sem_msg.specs.declared.message.Message.{Message}
use Rattle.sem_msg.specs.declared.state.Up.{Up}
use Rattle.sem_msg.specs.Rows.{JobRow}
use Rattle.sem_msg.specs.JobRows.{job_of}
use Rattle.sem_machine.specs.Sides.{Side, no_side, outbox, job, job_opened, job_changed, job_removed, send, sent, with_inbox}
use Rattle.sem_machine.specs.Machine.{World, side, link, with_side, with_link}
use Rattle.sem_key.proofs.Members.{Contains-head, Contains-tail}
use Rattle.sem_machine.proofs.Weighing.{of_option, weigh-drop}
use Rattle.sem_safety.proofs.JobIds.{IdsRise}
use Rattle.sem_revoke.specs.Scales.{Scale, sum_from, of_messages, of_inbox, of_side, of_world}

-- Sums by place.

module _ {X : Type 0} (f : ℕ → X → ℕ) (d : X) (none : (n : ℕ) → f n d ≡ 0) where
  -- what is written at a place comes in for what stood there
  pub from-put : (n : ℕ) (xs : List X) (i : ℕ) (x : X) → sum_from f n (put d xs i x) + f (n + i) (get_or xs i d) ≡ sum_from f n xs + f (n + i) x
  unfolding put
  from-put n [] zero x = let here = none (n + 0) in let same : f (n + 0) x ≡ f n x = ap (λ m. f m x) (omega arith) in omega (arith, here, same)
  from-put n [] (suc i) x =
      let rest = from-put (n + 1) [] i x in
      let here = none n in
      let nothing = none (n + suc i) in
      let same : f ((n + 1) + i) x ≡ f (n + suc i) x = ap (λ m. f m x) (omega arith) in
      let empty = none ((n + 1) + i) in
      omega (arith, rest, here, nothing, same, empty)
  from-put n (y ∷ ys) zero x =
      let one : f (n + 0) x ≡ f n x = ap (λ m. f m x) (omega arith) in
      let two : f (n + 0) y ≡ f n y = ap (λ m. f m y) (omega arith) in
      omega (arith, one, two)
  from-put n (y ∷ ys) (suc i) x =
      let rest = from-put (n + 1) ys i x in
      let one : f ((n + 1) + i) x ≡ f (n + suc i) x = ap (λ m. f m x) (omega arith) in
      let two : f ((n + 1) + i) (get_or ys i d) ≡ f (n + suc i) (get_or ys i d) = ap (λ m. f m (get_or ys i d)) (omega arith) in
      omega (arith, rest, one, two)

  pub put-from : (xs : List X) (i : ℕ) (x : X) → sum_from f 0 (put d xs i x) + f i (get_or xs i d) ≡ sum_from f 0 xs + f i x
  put-from xs i x =
      let at = from-put 0 xs i x in
      let one : f (0 + i) x ≡ f i x = ap (λ m. f m x) (omega arith) in
      let two : f (0 + i) (get_or xs i d) ≡ f i (get_or xs i d) = ap (λ m. f m (get_or xs i d)) (omega arith) in
      omega (arith, at, one, two)

  -- copies of what weighs nothing weigh nothing
  pub from-replicate : (n m : ℕ) (x : X) → ((i : ℕ) → f i x ≡ 0) → sum_from f n (replicate m x) ≡ 0
  from-replicate n zero x each = refl
  from-replicate n (suc m) x each = let here = each n in let rest = from-replicate (n + 1) m x each in omega (arith, here, rest)

-- Jobs.

-- the first of a list of which each two are so, and the others
pub pairs-head : {X : Type 0} (S : X → X → Type 0) (x : X) (xs : List X) → AllPairs S (x ∷ xs) → (y : X) → Contains xs y → S x y
pairs-head S x xs pairs y (k, within, same) = subst (S x) same (pairs zero (suc k) y (omega arith) (omega arith))

pub pairs-tail : {X : Type 0} (S : X → X → Type 0) (x : X) (xs : List X) → AllPairs S (x ∷ xs) → AllPairs S xs
pairs-tail S x xs pairs = λ i j d lt within. pairs (suc i) (suc j) d (omega arith) (omega arith)

-- a change of what is not there leaves a sum
change-none : {X : Type 0} (w : X → ℕ) (test : X → Bool) (f : X → X) (xs : List X) → ((x : X) → Contains xs x → test x ≡ false) →
    sum_by w (change test f xs) ≡ sum_by w xs
change-none w test f [] none = refl
change-none w test f (x ∷ xs) none =
    let rest = change-none w test f xs (λ y among. none y (Contains-tail x xs y among)) in
    let new = sum_by-cons w (if test x then f x else x) (change test f xs) in
    let old = sum_by-cons w x xs in
    let here : w (if test x then f x else x) ≡ w x = ap w (cond-false (test x) (f x) x (none x (Contains-head x xs))) in
    omega (arith, rest, new, old, here)

module _ (w : JobRow → ℕ) where
  id-none : (m : ℕ) (x : JobRow) (xs : List JobRow) → IdsRise (x ∷ xs) → (x.id == m) ≡ true → (y : JobRow) → Contains xs y → (y.id == m) ≡ false
  id-none m x xs rise here y among = ne_eqb y.id m (λ same. let below = pairs-head (λ (a b : JobRow). a.id < b.id) x xs rise y among in
      let at = eqb-true x.id m here in omega (arith, below, at, same))

  -- the job of an id changed
  pub jobs-changed : (f : JobRow → JobRow) (m : ℕ) (xs : List JobRow) (x : JobRow) → IdsRise xs → job_of xs m ≡ Some x →
      sum_by w (change (λ x. x.id == m) f xs) + w x ≡ sum_by w xs + w (f x)
  jobs-changed f m [] x rise none = absurd cc
  jobs-changed f m (y ∷ ys) x rise open_ =
      let new = sum_by-cons w (if y.id == m then f y else y) (change (λ x. x.id == m) f ys) in
      let old = sum_by-cons w y ys in
      elim (cases_Bool (y.id == m)) [
        | inl pass ↦
            let same : y ≡ x = same_Some y x (sym (cond-true (y.id == m) (Some y) (job_of ys m) pass) ∙ open_) in
            let here : w (if y.id == m then f y else y) ≡ w (f x) = ap w (cond-true (y.id == m) (f y) y pass) ∙ ap (λ z. w (f z)) same in
            let this : w y ≡ w x = ap w same in
            let rest = change-none w (λ x. x.id == m) f ys (id-none m y ys rise pass) in
            omega (arith, new, old, here, this, rest)
        | inr fail ↦
            let here : w (if y.id == m then f y else y) ≡ w y = ap w (cond-false (y.id == m) (f y) y fail) in
            let rest = jobs-changed f m ys x (pairs-tail (λ (a b : JobRow). a.id < b.id) y ys rise) (sym (cond-false (y.id == m) (Some y) (job_of ys m) fail)
            ∙ open_) in
            omega (arith, new, old, here, rest)
      ]

  kept-all : (m : ℕ) (xs : List JobRow) → ((y : JobRow) → Contains xs y → (y.id == m) ≡ false) → sum_by w (filter (λ x. not (x.id == m)) xs) ≡ sum_by w xs
  kept-all m [] none = refl
  kept-all m (y ∷ ys) none =
      let rest = kept-all m ys (λ z among. none z (Contains-tail y ys z among)) in
      let fail = none y (Contains-head y ys) in
      let first : filter (λ x. not (x.id == m)) (y ∷ ys) ≡ y ∷ filter (λ x. not (x.id == m)) ys =
      cond-true (not (y.id == m)) (y ∷ filter (λ x. not (x.id == m)) ys) (filter (λ x. not (x.id == m)) ys) (ap not fail) in
      let one = ap (sum_by w) first in
      let two = sum_by-cons w y (filter (λ x. not (x.id == m)) ys) in
      let all = sum_by-cons w y ys in
      omega (arith, rest, one, two, all)

  -- the job of an id removed
  pub jobs-removed : (m : ℕ) (xs : List JobRow) (x : JobRow) → IdsRise xs → job_of xs m ≡ Some x →
      sum_by w (filter (λ x. not (x.id == m)) xs) + w x ≡ sum_by w xs
  jobs-removed m [] x rise none = absurd cc
  jobs-removed m (y ∷ ys) x rise open_ =
      let all = sum_by-cons w y ys in
      elim (cases_Bool (y.id == m)) [
        | inl pass ↦
            let same : y ≡ x = same_Some y x (sym (cond-true (y.id == m) (Some y) (job_of ys m) pass) ∙ open_) in
            let this : w y ≡ w x = ap w same in
            let first : filter (λ x. not (x.id == m)) (y ∷ ys) ≡ filter (λ x. not (x.id == m)) ys =
            cond-false (not (y.id == m)) (y ∷ filter (λ x. not (x.id == m)) ys) (filter (λ x. not (x.id == m)) ys) (ap not pass) in
            let one = ap (sum_by w) first in
            let rest = kept-all m ys (id-none m y ys rise pass) in
            omega (arith, all, this, one, rest)
        | inr fail ↦
            let first : filter (λ x. not (x.id == m)) (y ∷ ys) ≡ y ∷ filter (λ x. not (x.id == m)) ys =
            cond-true (not (y.id == m)) (y ∷ filter (λ x. not (x.id == m)) ys) (filter (λ x. not (x.id == m)) ys) (ap not fail) in
            let one = ap (sum_by w) first in
            let two = sum_by-cons w y (filter (λ x. not (x.id == m)) ys) in
            let rest = jobs-removed m ys x (pairs-tail (λ (a b : JobRow). a.id < b.id) y ys rise) (sym (cond-false (y.id == m) (Some y) (job_of ys m) fail)
            ∙ open_) in
            omega (arith, all, one, two, rest)
      ]

-- Sides.

module _ (S : Scale) where
  empty-none : (i : ℕ) (n : ℕ) → of_messages S i n [] ≡ 0
  empty-none i n = refl

  pub side-send : (i : ℕ) (s : Side) (j : ℕ) (m : Message) → of_side S i (send j m s) ≡ of_side S i s + S.message i j m
  side-send i s j m =
      let outs = put-from (of_messages S i) [] (empty-none i) s.outs j (outbox s j ++ m ∷ []) in
      let push = sum_by_push (S.message i j) (outbox s j) m in
      omega (arith, outs, push)

  pub side-sent : (i : ℕ) (s : Side) (j : ℕ) → of_side S i (sent j s) + of_option (S.message i j) (slice_get (outbox s j) 0) ≡ of_side S i s
  side-sent i s j =
      let outs = put-from (of_messages S i) [] (empty-none i) s.outs j (drop 1 (outbox s j)) in
      let front = weigh-drop (S.message i j) (outbox s j) in
      omega (arith, outs, front)

  pub side-inbox : (i : ℕ) (s : Side) (message : Option (ℕ × Message)) →
      of_side S i (with_inbox message s) + of_inbox S i s.inbox ≡ of_side S i s + of_inbox S i message
  side-inbox i s message = omega arith

  pub side-opened : (i : ℕ) (s : Side) (root : KeyName) (up : Option Up) (waiters : List ℕ) (keep : Bool) →
      of_side S i (job_opened root up waiters keep s)
      ≡ of_side S i s + S.job i (record { id = s.next_job; root = root; up = up; waiters = waiters; count = 0; keep = keep })
  side-opened i s root up waiters keep = let push =
      sum_by_push (S.job i) s.jobs (record { id = s.next_job; root = root; up = up; waiters = waiters; count = 0; keep = keep }) in omega (arith, push)

  pub side-changed : (i : ℕ) (s : Side) (m : ℕ) (f : JobRow → JobRow) (x : JobRow) → IdsRise s.jobs → job s m ≡ Some x →
      of_side S i (job_changed m f s) + S.job i x ≡ of_side S i s + S.job i (f x)
  side-changed i s m f x rise open_ = let jobs = jobs-changed (S.job i) f m s.jobs x rise open_ in omega (arith, jobs)

  pub side-removed : (i : ℕ) (s : Side) (m : ℕ) (x : JobRow) → IdsRise s.jobs → job s m ≡ Some x → of_side S i (job_removed m s) + S.job i x ≡ of_side S i s
  side-removed i s m x rise open_ = let jobs = jobs-removed (S.job i) m s.jobs x rise open_ in omega (arith, jobs)

  -- Worlds.

  nothing-kept : (n : ℕ) → of_side S n no_side ≡ 0
  nothing-kept n = refl

  pub world-side : (W : World) (i : ℕ) (t : Side) → of_world S (with_side i t W) + of_side S i (side W i) ≡ of_world S W + of_side S i t
  world-side W i t = let sides = put-from (of_side S) no_side nothing-kept W.sides i t in omega (arith, sides)

  -- a world without the side of kernel i, and the side
  pub world-parts : (W : World) (i : ℕ) (t : Side) → of_world S (with_side i t W) ≡ of_world S (with_side i no_side W) + of_side S i t
  world-parts W i t =
      let one = world-side W i t in
      let two = world-side W i no_side in
      let none = nothing-kept i in
      omega (arith, one, two, none)

  pub world-whole : (W : World) (i : ℕ) → of_world S W ≡ of_world S (with_side i no_side W) + of_side S i (side W i)
  world-whole W i = let one = world-side W i no_side in let none = nothing-kept i in omega (arith, one, none)

  no-row : (n : ℕ) → sum_from (of_messages S n) 0 [] ≡ 0
  no-row n = refl

  pub world-link : (W : World) (i j : ℕ) (ms : List Message) →
      of_world S (with_link i j ms W) + of_messages S i j (link W i j) ≡ of_world S W + of_messages S i j ms
  world-link W i j ms =
      let row : List (List Message) = get_or W.links i [] in
      let rows = put-from (λ i ls. sum_from (of_messages S i) 0 ls) [] no-row W.links i (put [] row j ms) in
      let inner = put-from (of_messages S i) [] (empty-none i) row j ms in
      omega (arith, rows, inner)
