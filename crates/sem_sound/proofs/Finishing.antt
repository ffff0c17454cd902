-- Finishing jobs keeps a side sound.
use Rattle.std.proofs.lemmas.List.Sums.{sum_by-cons}
use Rattle.sem_msg.specs.JobRows.{if_done, next_done}
use Rattle.std.proofs.Common.{◌≡◌, ℕ, zero, suc, ◌+◌, ◌-◌, ◌<◌, ◌≤◌, ◌⊎◌, Bool, true, false, not, List, [], ◌∷◌, length, Option, Some, None, refl, sym, ap}
use Rattle.std.proofs.Common.{subst, ◌∙◌, inl, inr, arith, eq-eqb}
use Rattle.std.specs.Prelude.{◌==◌, if◌then◌else◌}
use Rattle.std.specs.List.{Contains, filter, AllPairs, sum_by}
use Rattle.std.specs.Option.{option_and_then}
use Rattle.std.proofs.lemmas.Bool.{cases_eq, cases_Bool, cond_both, cond-true, cond-false, eqb-true}
use Rattle.std.proofs.lemmas.Option.{same_Some}
use Rattle.std.proofs.lemmas.List.{length-map}
use Rattle.sem_key.specs.KeyName.{KeyName}
use Rattle.sem_key.specs.Lists.{change}
use Rattle.sem_key.specs.Capability.{Capability}
use Rattle.sem_machine.proofs.Late.{closed_here-late}
use Rattle.sem_msg.specs.declared.message.Message.TheVariants.{RevokeDone, Unlink}
use Rattle.sem_msg.specs.declared.state.Parked.TheVariants.{RevokeWait, Ready}
use Rattle.sem_msg.specs.declared.state.Up.{Up}
use Rattle.sem_msg.specs.declared.state.Up.TheVariants.{Local, Remote}
use Rattle.sem_msg.specs.Rows.{JobRow}
use Rattle.sem_msg.specs.ParkedStates
use Rattle.sem_msg.specs.Setup.{Setup, IsSetup}
use Rattle.sem_msg.specs.Lookups.{kernel_of, owner_of, is_local}
use Rattle.sem_msg.specs.declared.code.Code.TheVariants.{Ok as OkCode}
use Rattle.sem_msg.specs.Codes.{code_number}
use Rattle.sem_machine.specs.Sound.{IsNamed, IsSoundUp, IsSoundCall, kept, IsSoundBut, IsSound, bit, ids_owed, ids_paid}
use Rattle.sem_machine.specs.Sides.{Side, cap, job, parked, unlinked, job_removed, send, ready}
use Rattle.sem_machine.specs.Revokes.{swept, woken, parent_left, left_parent, up_told, closed, finish, settled, closed_here}
use Rattle.sem_key.proofs.Puts.{get_or-put_same, get_or-put_other}
use Rattle.sem_key.proofs.Members.{found, Contains-nil, Contains-cons_cases, Contains-filter, Contains-map}
use Rattle.sem_machine.proofs.Folds.{in_turn-keeps_each}
use Rattle.sem_machine.proofs.Lengths.{apart-shorter, weigh-map_less}
use Rattle.sem_sound.proofs.Named.{named-owner}
use Rattle.sem_sound.proofs.Changing.{parked-same}
use Rattle.sem_sound.proofs.Holding.{cap-among, unlinked-sound, send-sound}
use Rattle.sem_sound.proofs.Parking.{NoMore, no-more, chained, is-one, closed-no_more}
use Rattle.sem_sound.proofs.Jobbing.{parked-local, waits-not, lowered-sound, undone, removed-sound, jobs-mapped}
use Rattle.sem_sound.proofs.Sweeping.{swept-sound}

-- the job that may be done after one with that `up` was finished
abbrev pub done_after : Option Up → Option ℕ
done_after None = None
done_after (Some (Local j)) = Some j
done_after (Some (Remote kernel j)) = None

contains-some : {X : Type 0} (xs : List X) (x : X) → Contains xs x → 1 ≤ length xs
contains-some [] x among = absurd (Contains-nil x among)
contains-some (y ∷ ys) x among = omega arith

removed-shorter : (xs : List JobRow) (y : JobRow) (j : ℕ) → Contains xs y → y.id ≡ j → length (filter (λ (z : JobRow). not (z.id == j)) xs) + 1 ≤ length xs
removed-shorter xs y j among id =
    let both = apart-shorter (λ (z : JobRow). z.id == j) (λ (z : JobRow). not (z.id == j)) (λ z pass. ap not pass) xs in
    let some = contains-some (filter (λ (z : JobRow). z.id == j) xs) y (Contains-filter (λ (z : JobRow). z.id == j) xs y among (eq-eqb y.id j id)) in
    omega (arith, both, some)

done-is : (o : Option JobRow) (y : JobRow) → if_done o ≡ Some y → o ≡ Some y
done-is None y done = absurd cc
done-is (Some x) y done = elim (cases_Bool (x.count == 0)) [
  | inl zero' ↦ sym (cond-true (x.count == 0) (Some x) None zero') ∙ done
  | inr more ↦ let none : None ≡ Some y = sym (cond-false (x.count == 0) (Some x) None more) ∙ done in absurd cc
]

module _ (T : Setup) (valid : IsSetup T) (i : ℕ) (few : i < T.kernels) where
  -- Those who wait are woken.
  record Waking (ws : List ℕ) (j : ℕ) (xs : List JobRow) (t : Side) : Type 0 where
    sound : IsSoundBut T i None None (Some j) None 0 t
    jobs : t.jobs ≡ xs
    waits : (w : ℕ) → Contains ws w → (parked t w ≡ Some (RevokeWait j)) ⊎ (parked t w ≡ Some (Ready (code_number OkCode)))

  woken-waking : (ws : List ℕ) (j : ℕ) (xs : List JobRow) (w : ℕ) → Contains ws w → (t : Side) → Waking ws j xs t →
      Waking ws j xs (ready (code_number OkCode) w t)
  woken-waking ws j xs w among t is = record {
    sound = parked-same T valid i few None None (Some j) None t is.sound w local (Some (Ready (code_number OkCode)))
        (λ q same. subst (IsSoundCall T i w) (same_Some (Ready (code_number OkCode)) q same) (omega arith))
        (waits-not T i None None (Some j) None t is.sound w no_other) keeps;
    jobs = is.jobs;
    waits = λ v in_ws. elim (cases_eq v w) [
      | inl same ↦ inr (ap (parked (ready (code_number OkCode) w t)) same ∙ get_or-put_same None t.parks w (Some (Ready (code_number OkCode))))
      | inr other ↦ subst (λ o. (o ≡ Some (RevokeWait j)) ⊎ (o ≡ Some (Ready (code_number OkCode))))
          (sym (get_or-put_other None t.parks w v (Some (Ready (code_number OkCode))) other)) (is.waits v in_ws)
    ];
  }
    where
      local : kernel_of T w ≡ i
      local = elim (is.waits w among) [
        | inl at ↦ parked-local T i None None (Some j) None t is.sound w (RevokeWait j) at
        | inr at ↦ parked-local T i None None (Some j) None t is.sound w (Ready (code_number OkCode)) at
      ]

      keeps : None ≡ kept (parked t w)
      keeps = elim (is.waits w among) [ inl at ↦ sym (ap kept at) | inr at ↦ sym (ap kept at) ]

      no_other : (m : ℕ) → parked t w ≡ Some (RevokeWait m) → Some j ≡ Some m
      no_other m at = elim (is.waits w among) [ inl at' ↦ same-job j m (sym at' ∙ at) | inr at' ↦ absurd (clash m (sym at' ∙ at)) ]
        where
          same-job : (a b : ℕ) → Some (RevokeWait a) ≡ Some (RevokeWait b) → Some a ≡ Some b
          same-job a b same = cc

          clash : (m : ℕ) → Some (Ready (code_number OkCode)) ≡ Some (RevokeWait m) → ⊥
          clash m same = cc

  -- The parent of the root is left.
  module _ (g d : Option ℕ) (t : Side) (is : IsSoundBut T i None None g d 0 t) where
    abbrev Left : Side → Type 0
    Left u = IsSoundBut T i None None g d 0 u × (u.jobs ≡ t.jobs)

    told-left : (p root : KeyName) → IsNamed T p → IsNamed T root → is_local T i p ≡ false → Left (send (owner_of T p) (Unlink p root) t)
    told-left p root named_p named_root remote = let to = named-owner T valid i p named_p.1 remote in
        (send-sound T valid i few None None g d t is (owner_of T p) (Unlink p root) ((named_p.0, named_root.0), to.0, to.1), refl)

    left-sound : (id count : ℕ) (root : KeyName) (up : Option Up) (waiters : List ℕ) (keep : Bool) (o : Option KeyName) → IsNamed T root →
        ((p : KeyName) → o ≡ Some p → IsNamed T p) →
        Left (parent_left T i (record { id = id; root = root; up = up; waiters = waiters; count = count; keep = keep }) o t)
    left-sound id count root up waiters keep None named_root named = (is, refl)
    left-sound id count root (Some (Remote kernel j)) waiters keep (Some p) named_root named =
        cond_both (is_local T i p) (unlinked p root t) t Left (λ _. (unlinked-sound T valid i few None None g d t is p root, refl)) (λ _. (is, refl))
    left-sound id count root (Some (Local j)) waiters keep (Some p) named_root named =
        cond_both (is_local T i p) (unlinked p root t) (send (owner_of T p) (Unlink p root) t) Left
        (λ _. (unlinked-sound T valid i few None None g d t is p root, refl)) (λ remote. told-left p root (named p refl) named_root remote)
    left-sound id count root None waiters keep (Some p) named_root named =
        cond_both (is_local T i p) (unlinked p root t) (send (owner_of T p) (Unlink p root) t) Left
        (λ _. (unlinked-sound T valid i few None None g d t is p root, refl)) (λ remote. told-left p root (named p refl) named_root remote)

  -- The job above is told.
  told-sound : (g : Option ℕ) (up : Option Up) (t : Side) → IsSoundUp T i up → IsSoundBut T i None None g None 0 t →
      IsSoundBut T i None None g (done_after up) 0 (up_told up t)
  told-sound g None t sound is = is
  told-sound g (Some (Local j)) t sound is = lowered-sound T i None None g t is j
  told-sound g (Some (Remote kernel j)) t sound is = send-sound T valid i few None None g None t is kernel (RevokeDone j) (sound.2, sound.0, sound.1)

  told-length : (up : Option Up) (t : Side) → length (up_told up t).jobs ≡ length t.jobs
  told-length None t = refl
  told-length (Some (Local j)) t = length-map t.jobs (λ (x : JobRow). if x.id == j then record x { count = x.count - 1 } else x)
  told-length (Some (Remote kernel j)) t = refl

  -- A job is closed, from a side where it is there and keeps its root no longer: what it kept is paid for.
  closing-sound : (x : JobRow) (s : Side) → IsSoundBut T i None None None (Some x.id) 0 s → Contains s.jobs (record x { keep = false }) →
      ids_owed s + bit x.keep ≤ ids_paid s → IsSoundBut T i None None None (done_after x.up) 0 (closed T i x s)
      × (length (closed T i x s).jobs + 1 ≤ length s.jobs)
  unfolding closed_here
  closing-sound x s is among slack =
      let a : Side = swept x s in
      let b : Side = woken x.waiters a in
      let c : Side = parent_left T i x (left_parent s x) b in
      let d : Side = job_removed x.id c in
      let root = is.roots (record x { keep = false }) among (λ none. absurd cc) in
      let start : Waking x.waiters x.id s.jobs a = record {
        sound = swept-sound T valid i few s x.id is x.root root x.up x.waiters x.count x.keep slack;
        jobs = refl;
        waits = λ w in_waiters. inl (is.waiters (record x { keep = false }) w among (λ none. absurd cc) in_waiters);
      } in
      let woke = in_turn-keeps_each (λ parks. Waking x.waiters x.id s.jobs (record a { parks = parks }))
      (λ w parks. ParkedStates.parked_as parks w (Ready (code_number OkCode))) x.waiters
      (λ w in_ws parks here. woken-waking x.waiters x.id s.jobs w in_ws (record a { parks = parks }) here) a.parks start in
      let left = left-sound (Some x.id) None b woke.sound x.id x.count x.root x.up x.waiters x.keep (left_parent s x) root-named (λ p at. parent-named p at) in
      let told = told-sound None x.up d (is.ups (record x { keep = false }) among) (removed-sound T i None None None c x.id left.0) in
      let jobs : c.jobs ≡ s.jobs = left.1 ∙ woke.jobs in
      let shorter = removed-shorter c.jobs (record x { keep = false }) x.id (subst (λ xs. Contains xs (record x { keep = false })) (sym jobs) among) refl in
      let long = told-length x.up d in
      let same = ap length jobs in
      subst (λ t. IsSoundBut T i None None None (done_after x.up) 0 (up_told x.up t) × (length (up_told x.up t).jobs + 1 ≤ length s.jobs))
      (sym (closed_here-late T i x x.id s)) (told, omega (arith, shorter, long, same))
    where
      root-named : IsNamed T x.root
      root-named = let r = is.roots (record x { keep = false }) among (λ none. absurd cc) in subst (IsNamed T) r.2 (is.caps r.0 r.1).own.0

      parent-named : (p : KeyName) → left_parent s x ≡ Some p → IsNamed T p
      parent-named p = by_keep x.keep
        where
          from : (o : Option Capability) → cap s x.root ≡ o → option_and_then (λ c. c.parent) o ≡ Some p → IsNamed T p
          from None none no' = absurd cc
          from (Some c) held parent = (is.caps c (cap-among T valid i few None None None (Some x.id) s is x.root c held).0).parent p parent

          by_keep : (keep : Bool) → (if keep then None else option_and_then (λ c. c.parent) (cap s x.root)) ≡ Some p → IsNamed T p
          by_keep true none = absurd cc
          by_keep false at = from (cap s x.root) refl at

  -- what a job keeps is given up before it is closed, which the closing does not see
  filter-given_up : (j : ℕ) (xs : List JobRow) → filter (λ y. not (y.id == j)) (change (λ (y : JobRow). y.id == j) (λ y. record y { keep = false }) xs)
      ≡ filter (λ y. not (y.id == j)) xs
  filter-given_up j [] = refl
  filter-given_up j (y ∷ ys) = elim (cases_Bool (y.id == j)) [
    | inl here ↦
        let first : (if y.id == j then record y { keep = false } else y) ≡ record y { keep = false } =
        cond-true (y.id == j) (record y { keep = false }) y here in
        let fails : not (y.id == j) ≡ false = ap not here in
        let rest = filter-given_up j ys in
        ap (λ (z : JobRow). filter (λ w. not (w.id == j)) (z ∷ change (λ (w : JobRow). w.id == j) (λ w. record w { keep = false }) ys)) first
        ∙ (cond-false (not (y.id == j))
        (record y { keep = false } ∷ filter (λ w. not (w.id == j)) (change (λ (w : JobRow). w.id == j) (λ w. record w { keep = false }) ys))
        (filter (λ w. not (w.id == j)) (change (λ (w : JobRow). w.id == j) (λ w. record w { keep = false }) ys)) fails
        ∙ (rest ∙ sym (cond-false (not (y.id == j)) (y ∷ filter (λ w. not (w.id == j)) ys) (filter (λ w. not (w.id == j)) ys) fails)))
    | inr other ↦
        let first : (if y.id == j then record y { keep = false } else y) ≡ y = cond-false (y.id == j) (record y { keep = false }) y other in
        let passes : not (y.id == j) ≡ true = ap not other in
        let rest = filter-given_up j ys in
        ap (λ (z : JobRow). filter (λ w. not (w.id == j)) (z ∷ change (λ (w : JobRow). w.id == j) (λ w. record w { keep = false }) ys)) first
        ∙ (cond-true (not (y.id == j)) (y ∷ filter (λ w. not (w.id == j)) (change (λ (w : JobRow). w.id == j) (λ w. record w { keep = false }) ys))
        (filter (λ w. not (w.id == j)) (change (λ (w : JobRow). w.id == j) (λ w. record w { keep = false }) ys)) passes
        ∙ (ap (λ zs. y ∷ zs) rest ∙ sym (cond-true (not (y.id == j)) (y ∷ filter (λ w. not (w.id == j)) ys) (filter (λ w. not (w.id == j)) ys) passes)))
  ]

  given_up-pays : (j : ℕ) (xs : List JobRow) (x : JobRow) → Contains xs x → x.id ≡ j →
      sum_by (λ (y : JobRow). bit y.keep) (change (λ (y : JobRow). y.id == j) (λ y. record y { keep = false }) xs) + bit x.keep
      ≤ sum_by (λ (y : JobRow). bit y.keep) xs
  given_up-pays j [] x among id = absurd (Contains-nil x among)
  given_up-pays j (y ∷ ys) x among id =
      let new = sum_by-cons (λ (z : JobRow). bit z.keep) (if y.id == j then record y { keep = false }
      else y) (change (λ (z : JobRow). z.id == j) (λ z. record z { keep = false }) ys) in
      let old = sum_by-cons (λ (z : JobRow). bit z.keep) y ys in
      let fewer : (z : JobRow) → bit (if z.id == j then record z { keep = false } else z).keep ≤ bit z.keep =
      λ z. cond_both (z.id == j) (record z { keep = false }) z (λ (w : JobRow). bit w.keep ≤ bit z.keep) (λ _. omega arith) (λ _. omega arith) in
      elim (Contains-cons_cases y ys x among) [
        | inl same ↦
            let here : bit (if y.id == j then record y { keep = false } else y).keep ≡ 0 =
            ap (λ (z : JobRow). bit z.keep) (cond-true (y.id == j) (record y { keep = false }) y (eq-eqb y.id j (ap (λ (z : JobRow). z.id) same ∙ id))) in
            let keep : bit y.keep ≡ bit x.keep = ap (λ (z : JobRow). bit z.keep) same in
            let rest = weigh-map_less (λ (z : JobRow). bit z.keep) (λ z. if z.id == j then record z { keep = false } else z) fewer ys in
            omega (arith, new, old, here, keep, rest)
        | inr later ↦
            let here = fewer y in
            let rest = given_up-pays j ys x later id in
            omega (arith, new, old, here, rest)
      ]

  pub closed-sound : (x : JobRow) (s : Side) → IsSoundBut T i None None None (Some x.id) 0 s → Contains s.jobs x →
      IsSoundBut T i None None None (done_after x.up) 0 (closed T i x s) × (length (closed T i x s).jobs + 1 ≤ length s.jobs)
  closed-sound x s is among =
      let j : ℕ = x.id in
      let f : JobRow → JobRow = λ y. if y.id == j then record y { keep = false } else y in
      let s0 : Side = record s { jobs = change (λ (y : JobRow). y.id == j) (λ y. record y { keep = false }) s.jobs } in
      let is0 : IsSoundBut T i None None None (Some j) 0 s0 = given-sound j s is in
      let among0 : Contains s0.jobs (record x { keep = false }) =
      subst (Contains s0.jobs) (cond-true (x.id == j) (record x { keep = false }) x (eq-eqb x.id x.id refl)) (Contains-map f s.jobs x among) in
      let pays = given_up-pays j s.jobs x among refl in
      let before = is.ids in
      let closing = closing-sound x s0 is0 among0 (omega (arith, pays, before)) in
      let long : length s0.jobs ≡ length s.jobs = length-map s.jobs f in
      let same : closed T i x s0 ≡ closed T i x s = ap (λ (xs : List JobRow). up_told x.up (closed_here T i x (record s { jobs = xs })))
      (filter-given_up j s.jobs) in
      subst (λ t. IsSoundBut T i None None None (done_after x.up) 0 t × (length t.jobs + 1 ≤ length s.jobs)) same (
        closing.0,
        (let less = closing.1 in omega (arith, less, long)),
      )
    where
      given-sound : (j : ℕ) (s : Side) → IsSoundBut T i None None None (Some j) 0 s →
          IsSoundBut T i None None None (Some j) 0 (record s { jobs = change (λ (y : JobRow). y.id == j) (λ y. record y { keep = false }) s.jobs })
      given-sound j s is =
          let g : JobRow → JobRow = λ y. record y { keep = false } in
          jobs-mapped T i None None None (Some j) (Some j) s is (λ y. if y.id == j then g y else y)
          (λ x. cond_both (x.id == j) (g x) x (λ (y : JobRow). (y.id ≡ x.id) × (y.root ≡ x.root)) (λ _. (refl, refl)) (λ _. (refl, refl)))
          (λ x among. cond_both (x.id == j) (g x) x (λ (y : JobRow). IsSoundUp T i y.up) (λ _. is.ups x among) (λ _. is.ups x among))
          (λ x among. cond_both (x.id == j) (g x) x (λ (y : JobRow). AllPairs (λ v w. v < w) y.waiters) (λ _. is.waiters_rise x among)
          (λ _. is.waiters_rise x among))
          (λ x v among still. cond_both (x.id == j) (g x) x (λ (y : JobRow). Contains y.waiters v →
          parked s v ≡ Some (RevokeWait x.id)) (λ _. is.waiters x v among still) (λ _. is.waiters x v among still))
          (λ x among still. cond_both (x.id == j) (g x) x (λ (y : JobRow). (0 < y.count) ⊎ (Some j ≡ Some x.id)) (λ _. is.counted x among still)
          (λ _. is.counted x among still))
          (λ x. cond_both (x.id == j) (g x) x (λ (y : JobRow). bit y.keep ≤ bit x.keep) (λ _. omega arith) (λ _. omega arith))

  -- The chain.
  abbrev Fine : Option JobRow → Side → Type 0
  Fine None s = IsSound T i s
  Fine (Some x) s = IsSoundBut T i None None None (Some x.id) 0 s × Contains s.jobs x

  done-fine : (j : ℕ) (s : Side) → IsSoundBut T i None None None (Some j) 0 s → Fine (if_done (job s j)) s
  done-fine j s is = from (if_done (job s j)) refl
    where
      from : (o : Option JobRow) → if_done (job s j) ≡ o → Fine o s
      from None none = undone T i None None s j is none
      from (Some x) done =
          let at = found (λ (y : JobRow). y.id == j) s.jobs x (done-is (job s j) x done) in
          (subst (λ n. IsSoundBut T i None None None (Some n) 0 s) (sym (eqb-true x.id j at.1)) is, at.0)

  next-fine : (up : Option Up) (s : Side) → IsSoundBut T i None None None (done_after up) 0 s → Fine (next_done up s.jobs) s
  next-fine None s is = is
  next-fine (Some (Local j)) s is = done-fine j s is
  next-fine (Some (Remote kernel j)) s is = is

  finish-sound : (n : ℕ) (o : Option JobRow) (s : Side) → Fine o s → length s.jobs ≤ n → IsSound T i (finish T i n o s) × NoMore s (finish T i n o s)
  unfolding finish
  finish-sound zero None s fine short = (fine, no-more s)
  finish-sound zero (Some x) s fine short = let some = contains-some s.jobs x fine.1 in absurd (omega (arith, some, short))
  finish-sound (suc n) None s fine short = (fine, no-more s)
  finish-sound (suc n) (Some x) s fine short =
      let s2 : Side = closed T i x s in
      let one = closed-sound x s fine.0 fine.1 in
      let less = one.1 in
      let rest = finish-sound n (next_done x.up s2.jobs) s2 (next-fine x.up s2 one.0) (omega (arith, less, short)) in
      let woken = closed-no_more T i x s (λ v in_waiters. is-one s v (RevokeWait x.id) (fine.0.waiters x v fine.1 (λ none. absurd cc) in_waiters)) in
      (rest.0, chained s s2 (finish T i n (next_done x.up s2.jobs) s2) woken rest.1)

  pub settled-sound : (j : ℕ) (s : Side) → IsSoundBut T i None None None (Some j) 0 s → IsSound T i (settled T i j s) × NoMore s (settled T i j s)
  settled-sound j s is = finish-sound (length s.jobs) (if_done (job s j)) s (done-fine j s is) (omega arith)
