-- The VPEs that end in a journal ("Derived notions" in docs/machine.md).
pub use Rattle.sem_machine.specs.Journals.{ended_by}
