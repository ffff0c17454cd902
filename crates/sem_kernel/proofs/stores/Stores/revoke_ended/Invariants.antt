use Rattle.std.proofs.Common.{◌≡◌, ℕ, ◌+◌, length, take}
use Rattle.sem_key.specs.Lists.{in_turn}
use Rattle.sem_machine.specs.Ends.{revoked_if_left}
use Rattle.sem_kernel.specs.KernelStores.{side_of, AreSound}
use Rattle.sem_kernel.specs.Rooms.{HasRoomForJobs}
use Rattle.sem_kernel.proofs.stores.Stores.revoke_ended.Given as goal

-- those so far were revoked, and there is room for the others
abbrev pub invariant-loop-at : goal.invariant-loop-at
invariant-loop-at l = record {
  row : side_of l.self ≡ in_turn (revoked_if_left l.setup l.kernel) (take l.at l.initial.self.ended.items) (side_of l.initial.self);
  are : AreSound l.setup l.kernel l.self;
  room : (n : ℕ) → n + l.at ≡ length l.initial.self.ended.items → HasRoomForJobs n l.self;
  ended : l.self.ended ≡ l.initial.self.ended;
}
