-- Revokes, requests and tokens keep a side sound; so does a parked call that gives up what it kept.
use Rattle.std.proofs.Common.{◌≡◌, ◌≢◌, ℕ, zero, suc, ◌+◌, ◌<◌, ◌≤◌, true, false, List, [], ◌∷◌, Option, Some, None, refl, sym, ap, subst, ◌∙◌, inl, inr, arith}
use Rattle.std.specs.Prelude.{if◌then◌else◌}
use Rattle.std.proofs.lemmas.Bool.{cond_both}
use Rattle.std.proofs.lemmas.Option.{same_Some}
use Rattle.sem_key.specs.declared.object.Object.{Object}
use Rattle.sem_key.specs.KeyName.{KeyName}
use Rattle.sem_key.specs.Lists.{put}
use Rattle.sem_key.specs.Capability.{Capability}
use Rattle.sem_key.specs.CapList.{fresh}
use Rattle.sem_msg.specs.declared.message.Message.TheVariants.{RevokeDone}
use Rattle.sem_msg.specs.declared.state.Slot.{Slot}
use Rattle.sem_msg.specs.declared.state.Slot.TheVariants.{Free}
use Rattle.sem_msg.specs.declared.state.Parked.{Parked}
use Rattle.sem_msg.specs.declared.state.Parked.TheVariants.{ObtainWait, ObtainReady, ObtainCancelled, DelegateWait, DelegateReady, RevokeWait, Ready}
use Rattle.sem_msg.specs.declared.state.Up.TheVariants.{Remote}
use Rattle.sem_msg.specs.Rows.{JobRow, VpeRow, no_vpe}
use Rattle.sem_msg.specs.Message.{IsJobId}
use Rattle.sem_msg.specs.ParkedStates.{is_ready_with}
use Rattle.sem_msg.specs.Setup.{Setup, IsSetup}
use Rattle.sem_msg.specs.Lookups.{kernel_of}
use Rattle.sem_machine.proofs.Weighing.{weigh-put}
use Rattle.sem_machine.specs.Sound.{IsSoundCall, kept, IsSoundCap, IsSound, bit, one_if, ids_owed, ids_paid}
use Rattle.sem_machine.specs.Sides.{Side, row, cap, job, parked, with_row, with_slot, freed, parked_as, installed}
use Rattle.sem_machine.specs.Revokes.{count_lowered, settled, revoke_begun, clear_begun, ready_freed, obtain_cancelled, request_begun, revoke_requested}
use Rattle.sem_machine.specs.Revokes.{revoke_done}
use Rattle.sem_key.proofs.Puts.{get_or-put_same}
use Rattle.sem_key.proofs.Members.{Contains-nil, Contains-cons_cases}
use Rattle.sem_sound.proofs.Changing.{parked-same, parked-giving, freed-sound, number-dropped}
use Rattle.sem_sound.proofs.Holding.{cap-among, send-sound, installed-sound}
use Rattle.sem_sound.proofs.Jobbing.{parked-local, waits-not, up-sound, waiting-sound, lowered-sound}
use Rattle.sem_sound.proofs.Parking.{NoMore, NoMoreBut, no-more, chained, is-one, parked-again, parked-but, changed-fit, lowered-no_more}
use Rattle.sem_msg.specs.JobRows.{with_number}
use Rattle.sem_sound.proofs.Finishing.{settled-sound}
use Rattle.sem_sound.proofs.Opening.{next-job, begin-sound}

-- Two changes of one row.

put-twice : {X : Type 0} (d : X) (xs : List X) (k : ℕ) (a b : X) → put d (put d xs k a) k b ≡ put d xs k b
unfolding put
put-twice d [] zero a b = refl
put-twice d [] (suc k) a b = ap (λ ys. d ∷ ys) (put-twice d [] k a b)
put-twice d (x ∷ xs) zero a b = refl
put-twice d (x ∷ xs) (suc k) a b = ap (λ ys. x ∷ ys) (put-twice d xs k a b)

pub row-twice : (v : ℕ) (f g : VpeRow → VpeRow) (s : Side) → with_row v f (with_row v g s) ≡ with_row v (λ r. f (g r)) s
row-twice v f g s =
    ap (λ (rows : List VpeRow). record s { vpes = rows }) (ap (λ (r : VpeRow). put no_vpe (put no_vpe s.vpes v (g (row s v))) v (f r))
    (get_or-put_same no_vpe s.vpes v (g (row s v))) ∙ put-twice no_vpe s.vpes v (g (row s v)) (f (g (row s v))))

-- a parked call and a selector of the same VPE are changed in either order
pub parked-slot : (v sel : ℕ) (state : Slot) (o : Option Parked) (s : Side) →
    record (with_slot v sel state s) { parks = put None s.parks v o } ≡ with_slot v sel state (record s { parks = put None s.parks v o })
parked-slot v sel state o s = refl

module _ (T : Setup) (valid : IsSetup T) (i : ℕ) (few : i < T.kernels) where
  -- A parked call gives up what it kept, and its selector is free.
  pub released-sound : (s : Side) → IsSound T i s → (v : ℕ) (q : Parked) → parked s v ≡ Some q → (m sel : ℕ) → kept (Some q) ≡ Some (m, sel) →
      (o : Option Parked) → ((x : Parked) → o ≡ Some x → IsSoundCall T i v x) → kept o ≡ None →
      IsSound T i (record (freed v sel s) { parks = put None s.parks v o })
  released-sound s is v q at m sel keeps o sound now =
      let local = parked-local T i None None None None s is v q at in
      let gives = parked-giving T valid i few None None s v local o sound m sel is
      (waits-not T i None None None None s is v (λ j waits. absurd (clash (m, sel) (sym keeps ∙ ap kept (sym at ∙ waits))))) (ap kept at ∙ keeps) now in
      subst (IsSound T i) (sym (parked-slot v sel Free o s))
      (number-dropped T valid i few None None None (with_slot v sel Free (record s { parks = put None s.parks v o })) v local (Some (v, m))
      (freed-sound T valid i few (Some (v, m)) None None (record s { parks = put None s.parks v o }) v local sel gives))
    where
      clash : (p : ℕ × ℕ) → Some p ≡ None → ⊥
      clash p none = cc

  -- A parked call gives up what it kept, and a capability is installed in its place.
  pub granted-sound : (s : Side) → IsSound T i s → (k : KeyName) (q : Parked) → parked s k.vpe ≡ Some q → (sel : ℕ) → kept (Some q) ≡ Some (k.number, sel) →
      (parent : Option KeyName) (object : Object) → IsSoundCap T i (fresh k parent sel object) → (o : Option Parked) →
      ((x : Parked) → o ≡ Some x → IsSoundCall T i k.vpe x) → kept o ≡ None →
      IsSound T i (installed k parent sel object (record s { parks = put None s.parks k.vpe o }))
  granted-sound s is k q at sel keeps parent object sound_cap o sound now =
      let local = parked-local T i None None None None s is k.vpe q at in
      let gives = parked-giving T valid i few None None s k.vpe local o sound k.number sel is
      (waits-not T i None None None None s is k.vpe (λ j waits. absurd (clash (k.number, sel) (sym keeps ∙ ap kept (sym at ∙ waits))))) (ap kept at
      ∙ keeps) now in
      installed-sound T valid i few (Some (k.vpe, sel)) None None (record s { parks = put None s.parks k.vpe o }) k parent sel object gives (inr refl) sound_cap
    where
      clash : (p : ℕ × ℕ) → Some p ≡ None → ⊥
      clash p none = cc

  -- Revokes.

  -- another parked call where none of a job waited, and nothing was kept
  pub reparked-sound : (s : Side) → IsSound T i s → (v : ℕ) → kernel_of T v ≡ i → (p : Option Parked) → parked s v ≡ p →
      ((j : ℕ) → p ≡ Some (RevokeWait j) → ⊥) → (o : Option Parked) → ((x : Parked) → o ≡ Some x → IsSoundCall T i v x) → kept o ≡ kept p →
      IsSound T i (record s { parks = put None s.parks v o })
  reparked-sound s is v local p at none o sound same =
      parked-same T valid i few None None None None s is v local o sound
      (waits-not T i None None None None s is v (λ j waits. absurd (none j (sym at ∙ waits)))) (same ∙ ap kept (sym at))

  -- a job that keeps nothing is paid for as it is
  pub slack-of : (s : Side) → IsSound T i s → ids_owed s + bit false ≤ ids_paid s
  slack-of s is = let before = is.ids in omega (arith, before)

  -- what begins for a call that is parked now parks no other
  also : (s : Side) (v : ℕ) (p : Parked) (t : Side) → IsSound T i t × NoMore (parked_as v p s) t → IsSound T i t × NoMoreBut v s t
  also s v p t both = (both.0, ((λ w other. let now = both.1.0 w in let before = (parked-but s v (Some p)).0 w other in omega (arith, now, before)), both.1.1))

  waits-now : (s : Side) (v j : ℕ) → parked (parked_as v (RevokeWait j) s) v ≡ Some (RevokeWait j)
  waits-now s v j = get_or-put_same None s.parks v (Some (RevokeWait j))

  pub begun-sound : (s : Side) → IsSound T i s → (v : ℕ) → kernel_of T v ≡ i → parked s v ≡ None → (k : KeyName) (mark : Option ℕ) (c : Capability) →
      cap s k ≡ Some c → c.mark ≡ mark → IsSound T i (revoke_begun T i v k mark s) × NoMoreBut v s (revoke_begun T i v k mark s)
  begun-sound s is v local free k None c held unmarked =
      let small = next-job T valid i None None None None s is in
      let waiting : Side = parked_as v (RevokeWait s.next_job) s in
      let parks : IsSound T i waiting = reparked-sound s is v local None free (λ j none. absurd cc) (Some (RevokeWait s.next_job))
      (λ x same. subst (IsSoundCall T i v) (same_Some (RevokeWait s.next_job) x same) (omega (arith, small))) refl in
      also s v (RevokeWait s.next_job) (revoke_begun T i v k None s) (begin-sound T valid i few waiting parks k None (v ∷ []) false c held unmarked tt
      (λ a b e lt within. absurd (omega (arith, lt, within)))
      (λ w in_ws. elim (Contains-cons_cases v [] w in_ws) [
        | inl same ↦ subst (λ x. parked waiting x ≡ Some (RevokeWait s.next_job)) same
            (waits-now s v s.next_job)
        | inr none ↦ absurd (Contains-nil w none)
      ]) (slack-of waiting parks))
  begun-sound s is v local free k (Some j) c held marked =
      let small = next-job T valid i None None None None s is in
      let x = (is.marker c j (cap-among T valid i few None None None None s is k c held).0 marked).0 in
      let below = is.ids_drawn x.0 x.1 in
      let id = x.2 in
      let waiting : Side = parked_as v (RevokeWait j) s in
      let parks : IsSound T i waiting = reparked-sound s is v local None free (λ j none. absurd cc) (Some (RevokeWait j))
      (λ y same. subst (IsSoundCall T i v) (same_Some (RevokeWait j) y same) (omega (arith, small, below, id))) refl in (
        waiting-sound T i None None None None waiting parks j v (waits-now s v j),
        ((parked-but s v (Some (RevokeWait j))).0, changed-fit waiting j (λ y. record y { waiters = with_number y.waiters v }) (λ y. omega arith)),
      )

  -- a clear is paid for by the call
  pub cleared-sound : (s : Side) → IsSound T i s → ids_owed s + 1 ≤ ids_paid s → (v : ℕ) → kernel_of T v ≡ i → parked s v ≡ None →
      (k : KeyName) (c : Capability) → cap s k ≡ Some c → c.mark ≡ None → IsSound T i (clear_begun T i v k s) × NoMoreBut v s (clear_begun T i v k s)
  cleared-sound s is slack v local free k c held unmarked =
      let small = next-job T valid i None None None None s is in
      let waiting : Side = parked_as v (RevokeWait s.next_job) s in
      let parks : IsSound T i waiting = reparked-sound s is v local None free (λ j none. absurd cc) (Some (RevokeWait s.next_job))
      (λ x same. subst (IsSoundCall T i v) (same_Some (RevokeWait s.next_job) x same) (omega (arith, small))) refl in
      let weight = weigh-put (λ (p : Option Parked). one_if (kept p)) None refl s.parks v (Some (RevokeWait s.next_job)) in
      let none = ap (λ (p : Option Parked). one_if (kept p)) free in
      also s v (RevokeWait s.next_job) (clear_begun T i v k s) (begin-sound T valid i few waiting parks k None (v ∷ []) true c held unmarked tt
      (λ a b e lt within. absurd (omega (arith, lt, within)))
      (λ w in_ws. elim (Contains-cons_cases v [] w in_ws) [
        | inl same ↦ subst (λ x. parked waiting x ≡ Some (RevokeWait s.next_job)) same
            (waits-now s v s.next_job)
        | inr none' ↦ absurd (Contains-nil w none')
      ]) (omega (arith, slack, weight, none)))

  -- A request: begin, wait, or cancel.
  module _ (s : Side) (is : IsSound T i s) where
    cancelled-sound : (k : KeyName) → IsSound T i (obtain_cancelled k s) × NoMore s (obtain_cancelled k s)
    cancelled-sound k = from (parked s k.vpe) refl
      where
        from : (p : Option Parked) → parked s k.vpe ≡ p → IsSound T i (if is_ready_with k p then parked_as k.vpe ObtainCancelled (ready_freed p k.vpe s) else s)
            × NoMore s (if is_ready_with k p then parked_as k.vpe ObtainCancelled (ready_freed p k.vpe s) else s)
        from None at = (is, no-more s)
        from (Some (ObtainReady key parent object sel)) at =
            cond_both (is_ready_with k (Some (ObtainReady key parent object sel))) (parked_as k.vpe ObtainCancelled (freed k.vpe sel s)) s (λ t. IsSound T i t
            × NoMore s t) (λ _. (
              released-sound s is k.vpe (ObtainReady key parent object sel) at key.number sel refl (Some ObtainCancelled)
                  (λ x same. subst (IsSoundCall T i k.vpe) (same_Some ObtainCancelled x same) tt) refl,
              parked-again s k.vpe (Some ObtainCancelled) (let was = is-one s k.vpe (ObtainReady key parent object sel) at in omega (arith, was)),
            ))
            (λ _. (is, no-more s))
        from (Some (ObtainWait number sel)) at = (is, no-more s)
        from (Some ObtainCancelled) at = (is, no-more s)
        from (Some (DelegateWait parent)) at = (is, no-more s)
        from (Some (DelegateReady parent key)) at = (is, no-more s)
        from (Some (RevokeWait j)) at = (is, no-more s)
        from (Some (Ready code)) at = (is, no-more s)

    request-sound : (from j : ℕ) → from < T.kernels → from ≢ i → IsJobId j → (k : KeyName) (mark : Option ℕ) (c : Capability) → cap s k ≡ Some c →
        c.mark ≡ mark → IsSound T i (request_begun T i from j k mark s) × NoMore s (request_begun T i from j k mark s)
    request-sound from j kernel other id k None c held unmarked = begin-sound T valid i few s is k (Some (Remote from j)) [] false c held unmarked (
      kernel,
      other,
      id,
    ) (λ a b e lt within. absurd (omega (arith, lt, within))) (λ w none. absurd (Contains-nil w none)) (slack-of s is)
    request-sound from j kernel other id k (Some m) c held marked = (
      up-sound T i None None None None s is (Remote from j) m (kernel, other, id),
      ((no-more s).0, changed-fit s m (λ y. record y { up = Some (Remote from j); keep = false }) (λ y. omega arith)),
    )

    pub requested-sound : (from j : ℕ) → from < T.kernels → from ≢ i → IsJobId j → (k : KeyName) (o : Option Capability) → cap s k ≡ o →
        IsSound T i (revoke_requested T i from j k o s) × NoMore s (revoke_requested T i from j k o s)
    requested-sound from j kernel other id k (Some c) held = request-sound from j kernel other id k c.mark c held refl
    requested-sound from j kernel other id k None none = let cancels = cancelled-sound k in
        (send-sound T valid i few None None None None (obtain_cancelled k s) cancels.0 from (RevokeDone j) (id, kernel, other), cancels.1)

    pub done-sound : (j : ℕ) → IsSound T i (revoke_done T i j s) × NoMore s (revoke_done T i j s)
    done-sound j = by_job (job s j) s is
      where
        settled_if_there : Setup → ℕ → ℕ → Option JobRow → Side → Side
        settled_if_there T i j None s = s
        settled_if_there T i j (Some x) s = settled T i j (count_lowered j s)

        by_job : (o : Option JobRow) (t : Side) → IsSound T i t → IsSound T i (settled_if_there T i j o t) × NoMore t (settled_if_there T i j o t)
        by_job None t here = (here, no-more t)
        by_job (Some x) t here = let ends = settled-sound T valid i few j (count_lowered j t) (lowered-sound T i None None None t here j) in
            (ends.0, chained t (count_lowered j t) (settled T i j (count_lowered j t)) (lowered-no_more t j) ends.1)
