-- How many calls are parked, and how many tokens are out: what is done to parked calls parks no more, where those were parked already, and counts stay where
-- they fit.
use Rattle.std.proofs.Common.{◌-◌, not, map, ◌≡◌, ℕ, zero, suc, ◌+◌, ◌<◌, ◌≤◌, List, [], ◌∷◌, length, get_or, Option, Some, None, refl, ap, ◌∙◌, inl, inr}
use Rattle.std.proofs.Common.{arith, Bool}
use Rattle.std.specs.List.{Contains, sum_by}
use Rattle.std.proofs.lemmas.Bool.{cases_eq, cond_both}
use Rattle.std.proofs.lemmas.List.Sums.{sum_by-cons}
use Rattle.sem_key.specs.KeyName.{KeyName}
use Rattle.sem_key.specs.Lists.{put}
use Rattle.sem_msg.specs.declared.code.Code.TheVariants.{Ok as OkCode}
use Rattle.sem_msg.specs.Codes.{code_number}
use Rattle.sem_msg.specs.declared.message.Message.TheVariants.{RevokeReq, Unlink}
use Rattle.sem_msg.specs.declared.state.Parked.{Parked}
use Rattle.sem_msg.specs.declared.state.Parked.TheVariants.{Ready}
use Rattle.sem_msg.specs.declared.state.Up.{Up}
use Rattle.sem_msg.specs.declared.state.Up.TheVariants.{Local, Remote}
use Rattle.sem_msg.specs.Rows.{JobRow}
use Rattle.sem_msg.specs.ParkedStates
use Rattle.sem_msg.specs.Setup.{Setup}
use Rattle.sem_msg.specs.Lookups.{owner_of, is_local}
use Rattle.sem_machine.specs.Sound.{one_if}
use Rattle.sem_machine.specs.Sides.{Side, cap, parked, unparked, unlinked, job_removed, send}
use Rattle.sem_sound.specs.SoundWorlds.{CountsFit}
use Rattle.sem_key.specs.Lists.{change}
use Rattle.std.specs.Prelude.{◌==◌, if◌then◌else◌}
use Rattle.sem_key.proofs.Members.{Contains-from_map, Contains-from_filter}
use Rattle.sem_machine.specs.Revokes.{count_lowered, adopted, other_marker, count_raised, request_or_adopt, swept, woken, parent_left, left_parent, up_told}
use Rattle.sem_machine.specs.Revokes.{closed_here, closed, opened}
use Rattle.sem_machine.proofs.Folds.{in_turn-keeps, in_turn-keeps_each}
use Rattle.sem_key.proofs.Puts.{get_or-put_same, get_or-put_other}

-- no call is parked in t that was not in s, and counts that fit still do
abbrev pub NoMore : Side → Side → Type 0
NoMore s t = ((w : ℕ) → one_if (parked t w) ≤ one_if (parked s w)) × (CountsFit s → CountsFit t)

-- the same but for VPE v
abbrev pub NoMoreBut : ℕ → Side → Side → Type 0
NoMoreBut v s t = ((w : ℕ) → (w ≡ v → ⊥) → one_if (parked t w) ≤ one_if (parked s w)) × (CountsFit s → CountsFit t)

pub no-more : (s : Side) → NoMore s s
no-more s = ((λ w. omega arith), (λ fit. fit))

pub chained : (s t u : Side) → NoMore s t → NoMore t u → NoMore s u
chained s t u one two = ((λ w. let first = one.0 w in let second = two.0 w in omega (arith, first, second)), (λ fit. two.1 (one.1 fit)))

pub one-most : (o : Option Parked) → one_if o ≤ 1
one-most None = omega arith
one-most (Some p) = omega arith

pub is-one : (s : Side) (v : ℕ) (p : Parked) → parked s v ≡ Some p → one_if (parked s v) ≡ 1
is-one s v p at = ap (λ (o : Option Parked). one_if o) at

-- a call is parked otherwise, or no longer
pub parked-again : (s : Side) (v : ℕ) (o : Option Parked) → one_if o ≤ one_if (parked s v) → NoMore s (record s { parks = put None s.parks v o })
parked-again s v o fewer = (
  (λ w. elim (cases_eq w v) [
    | inl same ↦
        let now = ap (λ (p : Option Parked). one_if p) (ap (λ u. get_or (put None s.parks v o) u None) same ∙ get_or-put_same None s.parks v o) in
        let was = ap (λ u. one_if (parked s u)) same in
        omega (arith, fewer, now, was)
    | inr other ↦ let now = ap (λ (p : Option Parked). one_if p) (get_or-put_other None s.parks v w o other) in omega (arith, now)
  ]),
  (λ fit. fit),
)

-- of the other VPEs nothing changes
pub parked-but : (s : Side) (v : ℕ) (o : Option Parked) → NoMoreBut v s (record s { parks = put None s.parks v o })
parked-but s v o = ((λ w other. let now = ap (λ (p : Option Parked). one_if p) (get_or-put_other None s.parks v w o other) in omega (arith, now)), (λ fit. fit))

-- those who wait are woken
woken-no_more : (vs : List ℕ) (s : Side) → ((v : ℕ) → Contains vs v → one_if (parked s v) ≡ 1) → NoMore s (woken vs s)
woken-no_more vs s waits = in_turn-keeps_each (λ ps. NoMore s (record s { parks = ps })) (λ v ps. ParkedStates.parked_as ps v (Ready (code_number OkCode))) vs
    (λ v among ps here. ((λ w. woken-one v ps w here (waits v among)), (λ fit. fit))) s.parks (no-more s)
  where
    woken-one : (v : ℕ) (ps : List (Option Parked)) (w : ℕ) → NoMore s (record s { parks = ps }) → one_if (parked s v) ≡ 1 →
        one_if (get_or (put None ps v (Some (Ready (code_number OkCode)))) w None) ≤ one_if (parked s w)
    woken-one v ps w here one = elim (cases_eq w v) [
      | inl same ↦
          let most = one-most (get_or (put None ps v (Some (Ready (code_number OkCode)))) w None) in
          let was = ap (λ u. one_if (parked s u)) same in
          omega (arith, most, was, one)
      | inr other ↦
          let now = ap (λ (p : Option Parked). one_if p) (get_or-put_other None ps v w (Some (Ready (code_number OkCode))) other) in
          let before = here.0 w in
          omega (arith, now, before)
    ]

-- Counts.

-- a change of jobs that raises no count
pub mapped-fit : (s : Side) (f : JobRow → JobRow) → ((x : JobRow) → (f x).count ≤ x.count) → CountsFit s → CountsFit (record s { jobs = map f s.jobs })
mapped-fit s f less fit x among =
    let o = Contains-from_map f s.jobs x among in
    let before = fit o.0 o.1 in
    let now = ap (λ (y : JobRow). y.count) o.2 in
    let lower = less o.0 in
    omega (arith, before, now, lower)

-- of one job alone
pub changed-fit : (s : Side) (j : ℕ) (f : JobRow → JobRow) → ((x : JobRow) → (f x).count ≤ x.count) → CountsFit s →
    CountsFit (record s { jobs = change (λ (x : JobRow). x.id == j) f s.jobs })
changed-fit s j f less = mapped-fit s (λ x. if x.id == j then f x
    else x) (λ x. cond_both (x.id == j) (f x) x (λ (y : JobRow). y.count ≤ x.count) (λ _. less x) (λ _. omega arith))

removed-fit : (s : Side) (j : ℕ) → CountsFit s → CountsFit (job_removed j s)
removed-fit s j fit x among = fit x (Contains-from_filter (λ (y : JobRow). not (y.id == j)) s.jobs x among).0

pub lowered-no_more : (s : Side) (j : ℕ) → NoMore s (count_lowered j s)
lowered-no_more s j = ((λ w. omega arith), changed-fit s j (λ x. record x { count = x.count - 1 }) (λ x. omega arith))

module _ (T : Setup) (i : ℕ) where
  told-no_more : (up : Option Up) (s t : Side) → NoMore s t → NoMore s (up_told up t)
  told-no_more None s t is = is
  told-no_more (Some (Local j)) s t is = chained s t (count_lowered j t) is (lowered-no_more t j)
  told-no_more (Some (Remote kernel j)) s t is = is

  left-no_more : (id count : ℕ) (root : KeyName) (up : Option Up) (waiters : List ℕ) (keep : Bool) (o : Option KeyName) (s t : Side) → NoMore s t →
      NoMore s (parent_left T i (record { id = id; root = root; up = up; waiters = waiters; count = count; keep = keep }) o t)
  left-no_more id count root up waiters keep None s t is = is
  left-no_more id count root None waiters keep (Some p) s t is = cond_both (is_local T i p) (unlinked p root t) (send (owner_of T p) (Unlink p root) t)
      (NoMore s) (λ _. is) (λ _. is)
  left-no_more id count root (Some (Local n)) waiters keep (Some p) s t is =
      cond_both (is_local T i p) (unlinked p root t) (send (owner_of T p) (Unlink p root) t) (NoMore s) (λ _. is) (λ _. is)
  left-no_more id count root (Some (Remote kernel n)) waiters keep (Some p) s t is =
      cond_both (is_local T i p) (unlinked p root t) t (NoMore s) (λ _. is) (λ _. is)

  -- a job is closed, for which only parked calls wait
  pub closed-no_more : (x : JobRow) (s : Side) → ((v : ℕ) → Contains x.waiters v → one_if (parked s v) ≡ 1) → NoMore s (closed T i x s)
  unfolding closed_here
  closed-no_more x s waits =
      let r : Side = job_removed x.id s in
      let wakes = woken-no_more x.waiters (swept x r) waits in
      told-no_more x.up s (closed_here T i x r) (left-no_more x.id x.count x.root x.up x.waiters x.keep (left_parent r x) s (woken x.waiters (swept x r))
      (wakes.0, (λ fit. wakes.1 (removed-fit s x.id fit))))

  -- a job that opens leaves parked calls as they are
  pub opened-parks : (root : KeyName) (up : Option Up) (ws : List ℕ) (keep : Bool) (s : Side) → (opened T i root up ws keep s).parks ≡ s.parks
  unfolding opened
  opened-parks root up ws keep s = in_turn-keeps (λ t. t.parks ≡ s.parks) (request_or_adopt T i s.next_job) asked-parks _ _ refl
    where
      adopts : (j : ℕ) (o : Option ℕ) (t : Side) → t.parks ≡ s.parks → (adopted j o t).parks ≡ s.parks
      adopts j None t here = here
      adopts j (Some m) t here = here

      asked-parks : (k : KeyName) (t : Side) → t.parks ≡ s.parks → (request_or_adopt T i s.next_job k t).parks ≡ s.parks
      asked-parks k t here = cond_both (is_local T i k) (adopted s.next_job (other_marker s.next_job (cap t k)) t)
          (count_raised s.next_job (send (owner_of T k) (RevokeReq k s.next_job) t)) (λ u. u.parks ≡ s.parks)
          (λ _. adopts s.next_job (other_marker s.next_job (cap t k)) t here) (λ _. here)

-- Sums.

-- sums over lists of one length, place by place
pub sums-less : {X : Type 0} (w : X → ℕ) (d : X) (xs ys : List X) → length xs ≡ length ys → ((k : ℕ) → w (get_or xs k d) ≤ w (get_or ys k d)) →
    sum_by w xs ≤ sum_by w ys
sums-less w d [] [] same less = omega arith
sums-less w d [] (y ∷ ys) same less = omega arith
sums-less w d (x ∷ xs) [] same less = absurd (omega (arith, same))
sums-less w d (x ∷ xs) (y ∷ ys) same less =
    let left = sum_by-cons w x xs in
    let right = sum_by-cons w y ys in
    let first = less zero in
    let rest = sums-less w d xs ys (omega (arith, same)) (λ k. less (suc k)) in
    omega (arith, left, right, first, rest)

-- and where one place has so much more
pub sums-but : {X : Type 0} (w : X → ℕ) (d : X) (a b : ℕ) (xs ys : List X) (v : ℕ) → length xs ≡ length ys → v < length ys →
    ((k : ℕ) → (k ≡ v → ⊥) → w (get_or xs k d) ≤ w (get_or ys k d)) → w (get_or xs v d) + a ≤ w (get_or ys v d) + b → sum_by w xs + a ≤ sum_by w ys + b
sums-but w d a b xs [] v same within less here = absurd (omega (arith, within))
sums-but w d a b [] (y ∷ ys) v same within less here = absurd (omega (arith, same))
sums-but w d a b (x ∷ xs) (y ∷ ys) zero same within less here =
    let left = sum_by-cons w x xs in
    let right = sum_by-cons w y ys in
    let rest = sums-less w d xs ys (omega (arith, same)) (λ k. less (suc k) (λ none. absurd cc)) in
    omega (arith, left, right, here, rest)
sums-but w d a b (x ∷ xs) (y ∷ ys) (suc v) same within less here =
    let left = sum_by-cons w x xs in
    let right = sum_by-cons w y ys in
    let first = less zero (λ none. absurd cc) in
    let rest = sums-but w d a b xs ys v (omega (arith, same)) (omega (arith, within)) (λ k other. less (suc k) (λ at. other (suc-same k v at))) here in
    omega (arith, left, right, first, rest)
  where
    suc-same : (a b : ℕ) → suc a ≡ suc b → a ≡ b
    suc-same a b at = cc

-- Where a call is parked no longer.

pub unparked-both : (s t : Side) (v : ℕ) → NoMore s t → NoMore (unparked v s) (unparked v t)
unparked-both s t v is = (
  (λ w. elim (cases_eq w v) [
    | inl same ↦ let now = ap (λ (p : Option Parked). one_if p) (ap (λ u. get_or (put None t.parks v None) u None) same
        ∙ get_or-put_same None t.parks v None) in omega (arith, now)
    | inr other ↦
        let now = ap (λ (p : Option Parked). one_if p) (get_or-put_other None t.parks v w None other) in
        let was = ap (λ (p : Option Parked). one_if p) (get_or-put_other None s.parks v w None other) in
        let less = is.0 w in
        omega (arith, now, was, less)
  ]),
  is.1,
)

pub unparked-but : (s t : Side) (v : ℕ) → NoMore (unparked v s) t → NoMoreBut v s t × (one_if (parked t v) ≤ 0)
unparked-but s t v is =
    let none = ap (λ (p : Option Parked). one_if p) (get_or-put_same None s.parks v None) in
    let here = is.0 v in (
      (
        (λ w other. let less = is.0 w in let was = ap (λ (p : Option Parked). one_if p) (get_or-put_other None s.parks v w None other) in
            omega (arith, less, was)),
        is.1,
      ),
      omega (arith, here, none),
    )

pub unparked-no_more : (s : Side) (v : ℕ) → NoMore s (unparked v s)
unparked-no_more s v = parked-again s v None (omega arith)
