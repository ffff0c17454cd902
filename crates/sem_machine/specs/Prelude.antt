-- What nearly all definitions above sem_machine cite, passed on from one place. Declares nothing.
pub use Rattle.sem_key.specs.CapList.{cap_of, with_cap}
pub use Rattle.sem_key.specs.Capability.{Capability}
pub use Rattle.sem_key.specs.KeyName.{IsValidKey, KeyName, key_eq, packed}
pub use Rattle.sem_key.specs.Lists.{in_turn}
pub use Rattle.sem_key.specs.PlaceName.{PlaceName}
pub use Rattle.sem_key.specs.Region.{has_key}
pub use Rattle.sem_key.specs.declared.key.Kind.{Kind}
pub use Rattle.sem_key.specs.declared.key.Kind.TheVariants.{Mem as MemKind, Recv as RecvKind, Send as SendKind}
pub use Rattle.sem_key.specs.declared.key.Kind.TheVariants.{Serv as ServKind, Sess as SessKind}
pub use Rattle.sem_key.specs.declared.limits.TheConstants.{PES}
pub use Rattle.sem_key.specs.declared.object.Object.{Object}
pub use Rattle.sem_key.specs.declared.object.Object.TheVariants.{Mem, Recv, Send, Serv, Sess}
pub use Rattle.sem_msg.specs.Fabric.{FabricValue}
pub use Rattle.sem_msg.specs.Journal.{part, replies}
pub use Rattle.sem_msg.specs.Lookups.{decl, kernel_of, owner_of}
pub use Rattle.sem_msg.specs.Outboxes.{OutboxList}
pub use Rattle.sem_msg.specs.ParkedStates.{is_ready_with}
pub use Rattle.sem_msg.specs.Rows.{JobRow, VpeRow}
pub use Rattle.sem_msg.specs.Setup.{IsSetup, Setup}
pub use Rattle.sem_msg.specs.declared.audit.Audit.{Audit}
pub use Rattle.sem_msg.specs.declared.call.Call.{Call}
pub use Rattle.sem_msg.specs.declared.call.Call.TheVariants.{AskOffer, Bind, Clear, Credit, Delegate, Derive, Exit}
pub use Rattle.sem_msg.specs.declared.call.Call.TheVariants.{Gate, Obtain, OpenSession, Read, Revoke}
pub use Rattle.sem_msg.specs.declared.call.Call.TheVariants.{Send as SendCall, Write}
pub use Rattle.sem_msg.specs.declared.code.Code.TheVariants.{Dead, Ok as OkCode, Revoking}
pub use Rattle.sem_msg.specs.declared.entry.Consent.TheVariants.{No, Yes}
pub use Rattle.sem_msg.specs.declared.entry.Detail.{Detail}
pub use Rattle.sem_msg.specs.declared.entry.Detail.TheVariants.{Asked, Called, Carried, Nothing}
pub use Rattle.sem_msg.specs.declared.entry.Entry.{Entry}
pub use Rattle.sem_msg.specs.declared.entry.Reply.{Reply}
pub use Rattle.sem_msg.specs.declared.event.Act.{Act}
pub use Rattle.sem_msg.specs.declared.event.Act.TheVariants.{Call as Calls, Fetch, Flush, Handle, Kill, Resume}
pub use Rattle.sem_msg.specs.declared.event.Act.TheVariants.{Upcall}
pub use Rattle.sem_msg.specs.declared.event.Event.{Event}
pub use Rattle.sem_msg.specs.declared.message.Message.{Message}
pub use Rattle.sem_msg.specs.declared.message.Message.TheVariants.{Ack, DelegateNo, DelegatePrepared, DelegateReq}
pub use Rattle.sem_msg.specs.declared.message.Message.TheVariants.{ObtainNo, ObtainOk, ObtainReq, Orphan, RevokeDone}
pub use Rattle.sem_msg.specs.declared.message.Message.TheVariants.{RevokeReq, Unlink}
pub use Rattle.sem_msg.specs.declared.message.Target.TheVariants.{Offer as OfferTarget, Sel as SelTarget}
pub use Rattle.sem_msg.specs.declared.message.Target.TheVariants.{Serv as ServTarget}
pub use Rattle.sem_msg.specs.declared.setup.Root.{Root}
pub use Rattle.sem_msg.specs.declared.setup.VpeDecl.{VpeDecl}
pub use Rattle.sem_msg.specs.declared.state.Ask.{Ask}
pub use Rattle.sem_msg.specs.declared.state.Ask.TheVariants.{Delegate as DelegateAsk, Obtain as ObtainAsk}
pub use Rattle.sem_msg.specs.declared.state.Parked.{Parked}
pub use Rattle.sem_msg.specs.declared.state.Parked.TheVariants.{DelegateReady, DelegateWait, ObtainCancelled}
pub use Rattle.sem_msg.specs.declared.state.Parked.TheVariants.{ObtainReady, ObtainWait, Ready, RevokeWait}
pub use Rattle.sem_msg.specs.declared.state.Pending.{Pending}
pub use Rattle.sem_msg.specs.declared.state.Slot.{Slot}
pub use Rattle.sem_msg.specs.declared.state.Slot.TheVariants.{Free, Held, Promised}
pub use Rattle.sem_msg.specs.declared.state.Up.{Up}
pub use Rattle.sem_msg.specs.declared.state.Up.TheVariants.{Local, Remote}
pub use Rattle.sem_machine.specs.Asks.{is_obtain_wait}
pub use Rattle.sem_machine.specs.Journals.{ancestry, answered, cut, cut_from, forest, grants, has_ended, made}
pub use Rattle.sem_machine.specs.Journals.{root_keys}
pub use Rattle.sem_machine.specs.Living.{HoldsCap, InFlight, IsComplete, IsLive}
pub use Rattle.sem_machine.specs.Machine.{World, after, enabled, entry_of, event, is_enabled, is_locally_enabled}
pub use Rattle.sem_machine.specs.Machine.{link, local_entry, local_step, side, start, start_side}
pub use Rattle.sem_machine.specs.Schedules.{IsSchedule, world_after}
pub use Rattle.sem_machine.specs.Seeded.{seeded}
pub use Rattle.sem_machine.specs.Sides.{Side, cap, endpoint, job, outbox, parked, pending, row, send, slot}
pub use Rattle.sem_machine.specs.Sound.{IsSound}
pub use Rattle.sem_machine.specs.Stores.{with_caps, with_outs, with_parks, with_vpes}
