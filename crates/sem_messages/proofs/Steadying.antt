-- Where neither jobs nor the messages of a revoke count, a revoke changes nothing that counts.
use Rattle.std.proofs.Common.{◌≡◌, ℕ, ◌+◌, Bool, true, false, List, [], ◌∷◌, Option, None, refl, arith}
use Rattle.std.specs.List.{sum_by}
use Rattle.sem_key.specs.KeyName.{KeyName}
use Rattle.sem_msg.specs.declared.message.Message.{Message}
use Rattle.sem_msg.specs.declared.message.Message.TheVariants.{RevokeReq, RevokeDone}
use Rattle.sem_msg.specs.declared.state.Slot.TheVariants.{Free}
use Rattle.sem_msg.specs.declared.state.Parked.TheVariants.{RevokeWait}
use Rattle.sem_msg.specs.declared.state.Up.{Up}
use Rattle.sem_msg.specs.Rows.{JobRow}
use Rattle.sem_msg.specs.Setup.{Setup}
use Rattle.sem_machine.specs.Sides.{Side, cap, parked_as, job_opened}
use Rattle.sem_machine.specs.Revokes.{waiter_added}
use Rattle.sem_machine.proofs.Weighing.{weigh-none}
use Rattle.sem_revoke.proofs.Growing.{is_plain}
use Rattle.sem_revoke.proofs.Steady.{IsSteady, begin-steady, cleared-steady, requested-steady}
use Rattle.sem_revoke.proofs.Steady.{done-steady, left_job-steady}
use Rattle.sem_key.specs.Capability.{Capability}
use Rattle.sem_key.specs.CapList.{restored}
use Rattle.sem_messages.proofs.Links.{IsBare, side-bare}
use Rattle.sem_messages.proofs.Tallies.{Tally, of_side, side-send, side-slot, side-opened}
use Rattle.sem_messages.proofs.Falling.{Revokings}

-- a tally in which no revoke counts
pub record IsSettled (P N : Tally) : Type 0 where
  pub links : IsBare P × IsBare N
  pub jobs : (x : JobRow) → (P.job x ≡ 0) × (N.job x ≡ 0)
  pub sends : (m : Message) → is_plain m ≡ false → P.out m ≡ N.out m
  pub requests : (key : KeyName) (job : ℕ) → P.on (RevokeReq key job) ≡ N.on (RevokeReq key job)
  pub dones : (job : ℕ) → P.on (RevokeDone job) ≡ N.on (RevokeDone job)

jobs-none : (K : Tally) → ((x : JobRow) → K.job x ≡ 0) → (t : Side) → sum_by K.job t.jobs ≡ 0
jobs-none K none t = weigh-none K.job t.jobs (λ x among. none x)

module _ (T : Setup) (P N : Tally) (S : IsSettled P N) (i : ℕ) where
  module _ (s : Side) where
    -- since the side s
    abbrev Same : Side → Type 0
    Same t = of_side T P i t + of_side T N i s ≡ of_side T P i s + of_side T N i t

    caps-same : (t : Side) (cs : List Capability) → Same t → Same (record t { caps = cs })
    caps-same t cs is =
        let p = side-bare T P i S.links.0 t cs in let n = side-bare T N i S.links.1 t cs in omega (arith, is, p, n)

    opened-same : (t : Side) (root : KeyName) (up : Option Up) (ws : List ℕ) (keep : Bool) → Same t →
        Same (job_opened root up ws keep t)
    opened-same t root up ws keep is =
        let x : JobRow = record { id = t.next_job; root = root; up = up; waiters = ws; count = 0; keep = keep } in
        let p = side-opened T P i t root up ws keep in
        let n = side-opened T N i t root up ws keep in
        let one = (S.jobs x).0 in
        let two = (S.jobs x).1 in
        omega (arith, is, p, n, one, two)

    steady : IsSteady Same
    steady = record {
      caps = λ t cs thins is. caps-same t cs is;
      restores = λ u t x was among keeps is. caps-same t (restored t.caps x.root) is;
      bound = λ t es is. is;
      jobs = λ t js less is.
          let p = jobs-none P (λ x. (S.jobs x).0) t in
          let n = jobs-none N (λ x. (S.jobs x).1) t in
          let q = weigh-none P.job js (λ x among. (S.jobs x).0) in
          let m = weigh-none N.job js (λ x among. (S.jobs x).1) in
          omega (arith, is, p, n, q, m);
      opens = λ t root up ws is.
          opened-same t root up ws false is;
      frees = λ t v sel is. let p = side-slot T P i t v sel Free in let n = side-slot T N i t v sel Free in
          omega (arith, is, p, n);
      wakes = λ t v is. is;
      sends = λ t j m none is. let p = side-send T P i t j m in let n = side-send T N i t j m in
          let same = S.sends m none in omega (arith, is, p, n, same);
    }

  pub settled-revokings : Revokings T P N i
  settled-revokings = record {
    begins = λ s has root ws. let same = begin-steady (Same s) (steady s) T i root None ws s refl in
        omega (arith, same);
    clears = λ s has v k.
        let same = cleared-steady (Same s) (steady s) T i v k s
        (opened-same s (parked_as v (RevokeWait s.next_job) s) k None (v ∷ []) true refl) in
        omega (arith, same);
    waits = λ s j v. let p = jobs-none P (λ x. (S.jobs x).0) s in let n = jobs-none N (λ x. (S.jobs x).1) s in
        let q = jobs-none P (λ x. (S.jobs x).0) (waiter_added j v s) in
        let m = jobs-none N (λ x. (S.jobs x).1) (waiter_added j v s) in
        omega (arith, p, n, q, m);
    leaves = λ s j v. let same = left_job-steady (Same s) (steady s) j v s refl in omega (arith, same);
    requests = λ s has from j key.
        let same = requested-steady (Same s) (steady s) T i from j key (cap s key) s (λ u ready parks is. is) refl in
        let on = S.requests key j in
        omega (arith, same, on);
    dones = λ s has j. let same = done-steady (Same s) (steady s) T i j s refl in let on = S.dones j in
        omega (arith, same, on);
  }
