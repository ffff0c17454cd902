use Rattle.sem_kernel.proofs.Nexts.{does-call, does-handle, does-upcall, does-resume, does-flush, does-kill}
use Rattle.sem_kernel.proofs.Enabled.{can-act}
use Rattle.sem_kernel.proofs.stores.Stores.act.Goals as goal

pub returns-in-Call : goal.returns-in-Call
returns-in-Call c = does-call c.args.setup.now c.args.kernel c.args.self.now c.args.input.now _ _ _ c.in-Call.vpe c.args.act c.in-Call.is c.call_next.ensures

pub returns-in-Handle : goal.returns-in-Handle
returns-in-Handle c = does-handle c.args.setup.now c.args.kernel c.args.self.now c.args.input.now _ _ _ 0 c.args.act c.in-Handle.is c.handle_next.ensures

pub returns-in-Upcall : goal.returns-in-Upcall
returns-in-Upcall c = does-upcall c.args.setup.now c.args.kernel c.args.self.now c.args.input.now _ _ _ c.in-Upcall.vpe c.args.act c.in-Upcall.is
    c.upcall_next.ensures

pub returns-in-Resume : goal.returns-in-Resume
returns-in-Resume c = does-resume c.args.setup.now c.args.kernel c.args.self.now c.args.input.now _ _ _ c.in-Resume.vpe c.args.act c.in-Resume.is
    c.resume_parked.ensures

pub returns-in-Flush : goal.returns-in-Flush
returns-in-Flush c = does-flush c.args.setup.now c.args.kernel c.args.self.now c.args.input.now _ _ _ c.in-Flush.to c.args.act c.in-Flush.is c.flush.ensures

pub returns-in-Kill : goal.returns-in-Kill
returns-in-Kill c = does-kill c.args.setup.now c.args.kernel c.args.self.now c.args.input.now _ _ _ c.in-Kill.vpe c.args.act c.in-Kill.is c.kill.ensures

pub call_next-requires : goal.call_next-requires
call_next-requires c = record {
  can = can-act c.args.setup.now c.args.kernel c.args.self.now c.args.act _ c.in-Call.is
      c.requires.are c.requires.enabled c.requires.ready;
}

pub handle_next-requires : goal.handle_next-requires
handle_next-requires c = record {
  can = can-act c.args.setup.now c.args.kernel c.args.self.now c.args.act _ c.in-Handle.is
      c.requires.are c.requires.enabled c.requires.ready;
}

pub upcall_next-requires : goal.upcall_next-requires
upcall_next-requires c = record {
  can = can-act c.args.setup.now c.args.kernel c.args.self.now c.args.act _ c.in-Upcall.is
      c.requires.are c.requires.enabled c.requires.ready;
}

pub resume_parked-requires : goal.resume_parked-requires
resume_parked-requires c = record {
  can = can-act c.args.setup.now c.args.kernel c.args.self.now c.args.act _ c.in-Resume.is
      c.requires.are c.requires.enabled c.requires.ready;
}

pub flush-requires : goal.flush-requires
flush-requires c = record {
  can = can-act c.args.setup.now c.args.kernel c.args.self.now c.args.act _ c.in-Flush.is
      c.requires.are c.requires.enabled c.requires.ready;
}

pub kill-requires : goal.kill-requires
kill-requires c = record {
  can = can-act c.args.setup.now c.args.kernel c.args.self.now c.args.act _ c.in-Kill.is
      c.requires.are c.requires.enabled c.requires.ready;
}
