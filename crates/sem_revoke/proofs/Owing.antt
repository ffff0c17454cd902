-- A call that waits for the answer to an ask has something that stirs: an ask in a queue or a message on its way.
use Rattle.std.proofs.Common.{◌≡◌, refl, ℕ, ◌≤◌, ◌<◌, List, Some, None, sym, ap, ◌∙◌, inl, inr, arith, eq-eqb}
use Rattle.std.specs.List.{sum_by}
use Rattle.std.proofs.lemmas.Bool.{cases_eq, cases_lt}
use Rattle.sem_key.proofs.KeyTests.{key_eq-same}
use Rattle.sem_msg.specs.declared.entry.Entry.{Entry}
use Rattle.sem_msg.specs.declared.state.Parked.{Parked}
use Rattle.sem_msg.specs.declared.state.Parked.TheVariants.{ObtainWait, ObtainReady, ObtainCancelled, DelegateWait, DelegateReady, RevokeWait, Ready}
use Rattle.sem_msg.specs.Rows.{no_vpe}
use Rattle.sem_msg.specs.Setup.{Setup, IsSetup}
use Rattle.sem_msg.specs.Lookups.{kernel_of}
use Rattle.sem_machine.specs.Sides.{Side, no_side, row, parked}
use Rattle.sem_machine.specs.Machine.{World, side}
use Rattle.sem_machine.specs.Schedules.{IsSchedule, world_after}
use Rattle.sem_revoke.specs.Resting.{IsStirring, IsExchange}
use Rattle.sem_revoke.specs.Resting.IsStirring.{by_message, by_ask}
use Rattle.sem_sound.proofs.Scheduling.{schedule-sound}
use Rattle.sem_revoke.specs.Exchanges.{Exchange, is_waiting, of_ask, of_row, of_rows, exchanging, tokens}
use Rattle.sem_revoke.specs.Exchanges.Exchange.{Obtaining, Delegating}
use Rattle.sem_revoke.specs.Scales.{of_world}
use Rattle.sem_revoke.proofs.Alive.{some-at}
use Rattle.sem_revoke.proofs.ExchangeWorlds.{all-owed}
use Rattle.sem_revoke.proofs.JobTokens.{positive, world-some}
use Rattle.sem_revoke.proofs.Readying.{schedule-past}

-- a kernel at which a call is parked is one of the setup
pub parked-low : (T : Setup) (J : List Entry) → IsSchedule T J → (i v : ℕ) (p : Parked) → parked (side (world_after T J) i) v ≡ Some p → i < T.kernels
parked-low T J runs i v p at = elim (cases_lt i T.kernels) [
  | inl low ↦ low
  | inr high ↦ let none : None ≡ Some p = sym (ap (λ (s : Side). parked s v) (schedule-past T J runs i high)) ∙ at in absurd cc
]

-- a token of an exchange stirs
token-stirs : (x : Exchange) (W : World) → 1 ≤ tokens x W → IsStirring W
token-stirs x W some = elim (cases_eq (of_world (exchanging x) W) 0) [
  | inl none ↦
      let i = some-at (of_rows x) no_side W.sides (omega (arith, some, none)) in
      let v = some-at (of_row x) no_vpe (side W i.0).vpes i.1 in
      by_ask i.0 v.0 (λ empty. let zero' : of_row x (row (side W i.0) v.0) ≡ 0 = ap (sum_by (of_ask x)) empty in let weighs = v.1 in
      omega (arith, zero', weighs))
  | inr more ↦ elim (world-some (exchanging x) W (positive (of_world (exchanging x) W) more)) [
    | inl (a, b, m, among, weighs) ↦ by_message m (a, b, among)
    | inr (i, y, among, weighs) ↦ absurd (omega (arith, weighs))
  ]
]

pub exchanges-owed : (T : Setup) → IsSetup T → (J : List Entry) → IsSchedule T J → (i v : ℕ) (p : Parked) → parked (side (world_after T J) i) v ≡ Some p →
    IsExchange p → IsStirring (world_after T J)
exchanges-owed T valid J runs i v (ObtainWait number sel) at is =
    let W : World = world_after T J in
    let call = ((schedule-sound T valid J runs).sides i (parked-low T J runs i v (ObtainWait number sel) at)).calls v (ObtainWait number sel) at in
    let there : parked (side W (kernel_of T v)) v ≡ Some (ObtainWait number sel) = ap (λ n. parked (side W n) v) call.0 ∙ at in
    token-stirs (Obtaining v number) W (all-owed T valid (Obtaining v number) J runs (ap (is_waiting (Obtaining v number)) there ∙ eq-eqb number number refl)).1
exchanges-owed T valid J runs i v (DelegateWait parent) at is =
    let W : World = world_after T J in
    let call = ((schedule-sound T valid J runs).sides i (parked-low T J runs i v (DelegateWait parent) at)).calls v (DelegateWait parent) at in
    let who : parent.vpe ≡ v = call.1.0 in
    let there : parked (side W (kernel_of T parent.vpe)) parent.vpe ≡ Some (DelegateWait parent) = ap (λ n. parked (side W (kernel_of T n)) n) who
    ∙ (ap (λ n. parked (side W n) v) call.0 ∙ at) in
    token-stirs (Delegating parent) W (all-owed T valid (Delegating parent) J runs (ap (is_waiting (Delegating parent)) there ∙ key_eq-same parent)).1
exchanges-owed T valid J runs i v (ObtainReady key parent object sel) at is = absurd is
exchanges-owed T valid J runs i v ObtainCancelled at is = absurd is
exchanges-owed T valid J runs i v (DelegateReady parent key) at is = absurd is
exchanges-owed T valid J runs i v (RevokeWait j) at is = absurd is
exchanges-owed T valid J runs i v (Ready code) at is = absurd is
