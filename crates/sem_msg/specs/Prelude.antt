-- What nearly all definitions above sem_msg cite, passed on from one place. Declares nothing.
pub use Rattle.sem_key.specs.Capability.{Capability}
pub use Rattle.sem_key.specs.KeyName.{KeyName, key_eq, kind_number}
pub use Rattle.sem_key.specs.Lists.{in_turn, put}
pub use Rattle.sem_key.specs.PlaceName.{PlaceName}
pub use Rattle.sem_key.specs.declared.key.Kind.{Kind}
pub use Rattle.sem_key.specs.declared.key.Kind.TheVariants.{Serv as ServKind, Sess as SessKind}
pub use Rattle.sem_key.specs.declared.limits.TheConstants.{ADDRESSES, NUMBERS, PES, RIGHTS, SLOTS, VPES}
pub use Rattle.sem_key.specs.declared.object.Object.{Object}
pub use Rattle.sem_key.specs.declared.object.Object.TheVariants.{Mem, Recv, Send, Serv, Sess}
pub use Rattle.sem_msg.specs.Calls.{IsSelector, IsValidCall}
pub use Rattle.sem_msg.specs.Codes.{code_number}
pub use Rattle.sem_msg.specs.Fabric.{FabricValue}
pub use Rattle.sem_msg.specs.Lookups.{calls_of, kernel_of, owner_of}
pub use Rattle.sem_msg.specs.Rows.{Endpoint, JobRow, VpeRow, no_vpe}
pub use Rattle.sem_msg.specs.Setup.{Setup}
pub use Rattle.sem_msg.specs.Versions.{most_vpes}
