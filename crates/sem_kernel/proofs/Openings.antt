-- A job that was opened leaves a sound side but for itself, and a sound side but for a job can be swept.
use Rattle.std.proofs.Common.{◌≡◌, ◌≢◌, ℕ, ◌+◌, ◌<◌, ◌≤◌, Bool, true, false, List, [], ◌∷◌, Option, Some, None, refl, sym, ◌∙◌, ap, subst, get_or, length}
use Rattle.std.proofs.Common.{eq-eqb, true≢false, inl, inr, arith}
use Rattle.std.specs.Prelude.{IfSome, IsSome, IsSomeAnd}
use Rattle.std.specs.List.{Contains, All}
use Rattle.std.specs.Option.{is_some}
use Rattle.std.specs.Prelude.{◌==◌}
use Rattle.std.proofs.lemmas.Option.{same_Some}
use Rattle.std.proofs.lemmas.List.Elements.{Contains-get_or}
use Rattle.sem_key.specs.KeyName.{KeyName}
use Rattle.sem_key.specs.Capability.{Capability}
use Rattle.sem_key.proofs.Members.{Contains-nil, Contains-cons_cases, not_found}
use Rattle.sem_key.specs.Region.{region}
use Rattle.sem_key.proofs.Puts.{get_or-put_same}
use Rattle.sem_msg.specs.declared.state.Parked.{Parked}
use Rattle.sem_msg.specs.declared.state.Parked.TheVariants.{RevokeWait}
use Rattle.sem_msg.specs.declared.state.Up.{Up}
use Rattle.sem_msg.specs.declared.state.Up.TheVariants.{Local, Remote}
use Rattle.sem_msg.specs.Message.{IsJobId}
use Rattle.sem_msg.specs.Rows.{JobRow}
use Rattle.sem_msg.specs.JobRows.{job_of, count_lowered}
use Rattle.sem_msg.specs.ParkedStates.{is_ready_with}
use Rattle.sem_msg.specs.Setup.{Setup, IsSetup}
use Rattle.sem_msg.specs.Lookups.{kernel_of}
use Rattle.sem_machine.specs.Sides.{Side, cap, own, parked, parked_as}
use Rattle.sem_machine.specs.Revokes.{HasOwner, opened}
use Rattle.sem_machine.specs.Sound.{IsNamed, IsSound, IsSoundBut, IsSoundCall, IsSoundUp, bit, kept, one_if, ids_owed, ids_paid}
use Rattle.sem_machine.proofs.Weighing.{weigh-put}
use Rattle.sem_mark.specs.Marking.{LeadsHome}
use Rattle.sem_sweep.specs.Sweeping.{CanSweepCap, IsUpOf}
use Rattle.sem_sound.proofs.Opening.{next-job, opened-sound}
use Rattle.sem_sound.proofs.Revoking.{reparked-sound, slack-of}
use Rattle.sem_sound.proofs.Holding.{own-local}
use Rattle.sem_sound.proofs.Calling.{own-among}
use Rattle.sem_sound.proofs.Jobbing.{lowered-sound}
use Rattle.sem_jobs.specs.JobStore.{JobStore}
use Rattle.sem_mark.proofs.Opened.{marked-length}
use Rattle.sem_kernel.proofs.Meets.{owner-below}
use Rattle.sem_kernel.proofs.Lengths.{opened-jobs, opened-caps}

-- a list of which each element is so
pub All-each : {X : Type 0} (P : X → Type 0) (xs : List X) → ((x : X) → Contains xs x → P x) → All P xs
All-each P xs each k d within = each (get_or xs k d) (Contains-get_or xs k d within)

module _ (T : Setup) (valid : IsSetup T) (i : ℕ) (few : i < T.kernels) where
  -- what is made from a capability has owners
  pub lead-home : (s : Side) → IsSound T i s → All (LeadsHome T) s.caps
  lead-home s is = All-each (LeadsHome T) s.caps
      (λ c among. All-each (HasOwner T) c.children (λ k child. owner-below T valid i few k ((is.caps c among).children k child)))

  -- capabilities can be swept, and whoever waits for a job is there
  pub can-sweep : (n p : Option (ℕ × ℕ)) (g d : Option ℕ) (s : Side) → IsSoundBut T i n p g d 0 s → All (CanSweepCap T i) s.caps
  can-sweep n p g d s is = All-each (CanSweepCap T i) s.caps (λ c among. let sound = is.caps c among in
      record { own = own-local T valid i few c sound; parent = from c.parent sound.parent })
    where
      from : (o : Option KeyName) → ((k : KeyName) → o ≡ Some k → IsNamed T k) → IfSome o (HasOwner T)
      from None named = tt
      from (Some k) named = owner-below T valid i few k (named k refl)

  pub ups-of : (n p : Option (ℕ × ℕ)) (g d : Option ℕ) (s : Side) → IsSoundBut T i n p g d 0 s → All (λ (x : JobRow). IsUpOf T x.up) s.jobs
  ups-of n p g d s is = All-each (λ (x : JobRow). IsUpOf T x.up) s.jobs (λ x among. from x.up (is.ups x among))
    where
      from : (o : Option Up) → IsSoundUp T i o → IsUpOf T o
      from None sound = tt
      from (Some (Local j)) sound = tt
      from (Some (Remote kernel j)) sound = sound.0

  module _ (s : Side) (is : IsSound T i s) where
    -- a job that is opened for a call
    pub called-opened : (v : ℕ) → kernel_of T v ≡ i → parked s v ≡ None → (k : KeyName) (c : Capability) → cap s k ≡ Some c → c.mark ≡ None → (keep : Bool) →
        ids_owed s + bit keep ≤ ids_paid s →
        IsSoundBut T i None None None (Some s.next_job) 0 (opened T i k None (v ∷ []) keep (parked_as v (RevokeWait s.next_job) s))
    called-opened v local free k c held unmarked keep slack =
        let small = next-job T valid i None None None None s is in
        let waiting : Side = parked_as v (RevokeWait s.next_job) s in
        let parks : IsSound T i waiting = reparked-sound T valid i few s is v local None free (λ j none. absurd cc) (Some (RevokeWait s.next_job))
        (λ x same. subst (IsSoundCall T i v) (same_Some (RevokeWait s.next_job) x same) (omega (arith, small))) refl in
        let weight = weigh-put (λ (p : Option Parked). one_if (kept p)) None refl s.parks v (Some (RevokeWait s.next_job)) in
        let none = ap (λ (p : Option Parked). one_if (kept p)) free in
        opened-sound T valid i few waiting parks k None (v ∷ []) keep c held unmarked tt (λ a b e lt within. absurd (omega (arith, lt, within)))
        (λ w in_ws. elim (Contains-cons_cases v [] w in_ws) [
          | inl same ↦ subst (λ x. parked waiting x ≡ Some (RevokeWait s.next_job)) same
              (get_or-put_same None s.parks v (Some (RevokeWait s.next_job)))
          | inr none' ↦ absurd (Contains-nil w none')
        ]) (omega (arith, slack, weight, none))

    -- where a job is to be finished at once, that is the one
    pub call-middle : (v sel : ℕ) → kernel_of T v ≡ i → parked s v ≡ None → (keep : Bool) → ids_owed s + bit keep ≤ ids_paid s → (o : Option ℕ) (t : Side) →
        IfSome o (λ j. j ≡ s.next_job) → (IsSome o → IsSomeAnd (own s v sel) (λ c. c.mark ≡ None)) →
        (IsSome o → (c : Capability) → own s v sel ≡ Some c → t ≡ opened T i c.key None (v ∷ []) keep (parked_as v (RevokeWait s.next_job) s)) →
        IfSome o (λ j. IsSoundBut T i None None None (Some j) 0 t)
    call-middle v sel local free keep slack None t same unmarked is_opened = tt
    call-middle v sel local free keep slack (Some j) t same unmarked is_opened = from (own s v sel) refl (unmarked refl)
      where
        from : (a : Option Capability) → own s v sel ≡ a → IsSomeAnd a (λ c. c.mark ≡ None) → IsSoundBut T i None None None (Some j) 0 t
        from None at none = absurd none
        from (Some c) at mark =
            let there = own-among T valid i few s is v sel c at in
            let middle = called-opened v local free c.key c there.2 mark keep slack in
            subst (λ n. IsSoundBut T i None None None (Some n) 0 t) (sym same)
            (subst (IsSoundBut T i None None None (Some s.next_job) 0) (sym (is_opened refl c at)) middle)

    pub request-middle : (from job : ℕ) → from < T.kernels → from ≢ i → IsJobId job → (k : KeyName) (o : Option ℕ) (t : Side) → IfSome o (λ j. j ≡ s.next_job) →
        (IsSome o → IsSomeAnd (cap s k) (λ c. c.mark ≡ None)) → (IsSome o → t ≡ opened T i k (Some (Remote from job)) [] false s) →
        IfSome o (λ j. IsSoundBut T i None None None (Some j) 0 t)
    request-middle from job kernel other id k None t same unmarked is_opened = tt
    request-middle from job kernel other id k (Some j) t same unmarked is_opened = by_cap (cap s k) refl (unmarked refl)
      where
        by_cap : (a : Option Capability) → cap s k ≡ a → IsSomeAnd a (λ c. c.mark ≡ None) → IsSoundBut T i None None None (Some j) 0 t
        by_cap None at none = absurd none
        by_cap (Some c) at mark =
            let middle = opened-sound T valid i few s is k (Some (Remote from job)) [] false c at mark (
              kernel,
              other,
              id,
            ) (λ a b e lt within. absurd (omega (arith, lt, within))) (λ w none. absurd (Contains-nil w none)) (slack-of T valid i few s is) in
            subst (λ n. IsSoundBut T i None None None (Some n) 0 t) (sym same)
            (subst (IsSoundBut T i None None None (Some s.next_job) 0) (sym (is_opened refl)) middle)

module _ (T : Setup) (valid : IsSetup T) (i : ℕ) (few : i < T.kernels) (s : Side) (is : IsSound T i s) where
  -- the job that marks a capability is there
  pub marker-there : (p : Capability) → Contains s.caps p → IfSome p.mark (λ j. IsSome (job_of s.jobs j))
  marker-there p among = from p.mark refl
    where
      from : (o : Option ℕ) → p.mark ≡ o → IfSome o (λ j. IsSome (job_of s.jobs j))
      from None none = tt
      from (Some j) marked = let open_job = (is.marker p j among marked).0 in by_job j open_job.0 open_job.1 open_job.2 (job_of s.jobs j) refl
        where
          by_job : (j : ℕ) (x : JobRow) → Contains s.jobs x → x.id ≡ j → (o : Option JobRow) → job_of s.jobs j ≡ o → IsSome (job_of s.jobs j)
          by_job j x there id None none = absurd (true≢false (sym (eq-eqb x.id j id) ∙ not_found (λ (y : JobRow). y.id == j) s.jobs x none there))
          by_job j x there id (Some y) some = ap (λ (o : Option JobRow). is_some o) some

  -- a call that is about to install a key is of this kernel
  pub ready-here : (k : KeyName) → is_ready_with k (parked s k.vpe) ≡ true → kernel_of T k.vpe ≡ i
  ready-here k ready = from (parked s k.vpe) refl ready
    where
      from : (o : Option Parked) → parked s k.vpe ≡ o → is_ready_with k o ≡ true → kernel_of T k.vpe ≡ i
      from None at none = absurd cc
      from (Some p) at some = (is.calls k.vpe p at).0

  -- where a call opened a job, there is one job more, and as many capabilities
  pub call-jobs : (v sel : ℕ) (keep : Bool) (o : Option ℕ) (t : Side) → (IsSome o → IsSomeAnd (own s v sel) (λ c. c.mark ≡ None)) →
      (IsSome o → (c : Capability) → own s v sel ≡ Some c → t ≡ opened T i c.key None (v ∷ []) keep (parked_as v (RevokeWait s.next_job) s)) → IsSome o →
      length t.jobs ≡ length s.jobs + 1
  call-jobs v sel keep o t unmarked is_opened some = from (own s v sel) refl (unmarked some)
    where
      from : (a : Option Capability) → own s v sel ≡ a → IsSomeAnd a (λ c. c.mark ≡ None) → length t.jobs ≡ length s.jobs + 1
      from None at none = absurd none
      from (Some c) at mark = ap (λ (u : Side). length u.jobs) (is_opened some c at)
          ∙ opened-jobs T i c.key None (v ∷ []) keep (parked_as v (RevokeWait s.next_job) s)

  pub call-caps : (v sel : ℕ) (keep : Bool) (o : Option ℕ) (t : Side) → (IsSome o → IsSomeAnd (own s v sel) (λ c. c.mark ≡ None)) →
      (IsSome o → (c : Capability) → own s v sel ≡ Some c → t ≡ opened T i c.key None (v ∷ []) keep (parked_as v (RevokeWait s.next_job) s)) → IsSome o →
      length t.caps ≡ length s.caps
  call-caps v sel keep o t unmarked is_opened some = from (own s v sel) refl (unmarked some)
    where
      from : (a : Option Capability) → own s v sel ≡ a → IsSomeAnd a (λ c. c.mark ≡ None) → length t.caps ≡ length s.caps
      from None at none = absurd none
      from (Some c) at mark = ap (λ (u : Side). length u.caps) (is_opened some c at)
          ∙ (ap length (opened-caps T i c.key None (v ∷ []) keep (parked_as v (RevokeWait s.next_job) s))
          ∙ marked-length (region s.caps c.key) s.next_job s.caps)

-- and where a request opened one
pub request-jobs : (T : Setup) (i : ℕ) (s : Side) (from job : ℕ) (k : KeyName) (t : Side) → t ≡ opened T i k (Some (Remote from job)) [] false s →
    length t.jobs ≡ length s.jobs + 1
request-jobs T i s from job k t is_opened = ap (λ (u : Side). length u.jobs) is_opened ∙ opened-jobs T i k (Some (Remote from job)) [] false s

pub request-caps : (T : Setup) (i : ℕ) (s : Side) (from job : ℕ) (k : KeyName) (t : Side) → t ≡ opened T i k (Some (Remote from job)) [] false s →
    length t.caps ≡ length s.caps
request-caps T i s from job k t is_opened = ap (λ (u : Side). length u.caps) is_opened
    ∙ (ap length (opened-caps T i k (Some (Remote from job)) [] false s) ∙ marked-length (region s.caps k) s.next_job s.caps)

-- a token that came back leaves a sound side but for the job
pub done-middle : (T : Setup) (i : ℕ) (s : Side) → IsSound T i s → (j : ℕ) (o : Option ℕ) (x : JobStore) → x.jobs ≡ count_lowered j s.jobs →
    x.next ≡ s.next_job → IfSome o (λ k. k ≡ j) → IfSome o (λ k. IsSoundBut T i None None None (Some k) 0 (record s { jobs = x.jobs; next_job = x.next }))
done-middle T i s is j None x jobs next same = tt
done-middle T i s is j (Some k) x jobs next same =
    let lowered = lowered-sound T i None None None s is j in
    subst (λ n. IsSoundBut T i None None None (Some n) 0 (record s { jobs = x.jobs; next_job = x.next })) (sym same)
    (subst (λ (xs : List JobRow). IsSoundBut T i None None None (Some j) 0 (record s { jobs = xs; next_job = x.next })) (sym jobs)
    (subst (λ n. IsSoundBut T i None None None (Some j) 0 (record s { jobs = count_lowered j s.jobs; next_job = n })) (sym next) lowered))
