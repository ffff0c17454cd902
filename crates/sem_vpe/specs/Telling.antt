-- What a step of a VPE needs of the VPEs and the outboxes of its kernel.
use Rattle.std.specs.Prelude.{◌≡◌, ℕ, true}
use Rattle.sem_msg.specs.Prelude.{Setup, kernel_of}
use Rattle.sem_msg.specs.Lookups.{is_declared}
use Rattle.sem_msg.specs.Outboxes.{OutboxList, CanSend}
use Rattle.sem_vpe.specs.VpeTable.{VpeTable, AreOurs, IsOurs}

-- the table is that of kernel i, and VPE v has its place there
pub record IsKept (T : Setup) (i v : ℕ) (vpes : VpeTable) : Type 0 where
  pub home : AreOurs T i vpes
  pub ours : IsOurs vpes v

-- VPE v is one of kernel i, whose VPEs and outboxes these are, and a message can be sent
pub record CanTell (T : Setup) (i v : ℕ) (vpes : VpeTable) (outs : OutboxList) : Type 0 where
  pub home : AreOurs T i vpes
  pub vpe : kernel_of T v ≡ i
  pub sends : CanSend T outs

-- VPE v can ask another VPE: besides, it is declared
pub record CanAsk (T : Setup) (i v : ℕ) (vpes : VpeTable) (outs : OutboxList) : Type 0 where
  pub tells : CanTell T i v vpes outs
  pub declared : is_declared T v ≡ true
