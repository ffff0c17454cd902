-- A setup of version 1 as one of version 2: what it keeps, and what it runs.
use Rattle.std.proofs.Common.{◌≡◌, ℕ, ◌≤◌, List, refl, inr, arith}
use Rattle.std.proofs.lemmas.List.Elements.{All-weaker}
use Rattle.sem_msg.specs.declared.call.Call.{Call}
use Rattle.sem_msg.specs.declared.call.Call.TheVariants.{Derive, Gate, Obtain, Delegate, OpenSession, AskOffer, Revoke, Bind, Read, Write, Send as SendCall}
use Rattle.sem_msg.specs.declared.call.Call.TheVariants.{Credit, Exit, Clear}
use Rattle.sem_msg.specs.declared.entry.Entry.{Entry}
use Rattle.sem_msg.specs.declared.setup.VpeDecl.{VpeDecl}
use Rattle.sem_msg.specs.Calls.{IsValidCall}
use Rattle.sem_msg.specs.Setup.{Setup, IsSetup, IsVpeDecl, IsOffer}
use Rattle.sem_msg.specs.Versions.{most_kernels, most_vpes, IsWindow}
use Rattle.sem_machine.specs.Calls.{call_row}
use Rattle.sem_machine.specs.Upcalls.{upcall_row}
use Rattle.sem_machine.specs.Handles.{handle_row}
use Rattle.sem_machine.specs.Resumes.{resume_row}
use Rattle.sem_machine.specs.Revokes.{closed_here, finish, opened}
use Rattle.sem_machine.specs.Ends.{ended}
use Rattle.sem_machine.specs.Machine.{start_side, start, local_step, local_entry, is_locally_enabled, is_enabled, after, entry_of}
use Rattle.sem_machine.specs.Schedules.{IsRun, IsSchedule}

-- the version is read nowhere in a run
pub runs-same : (T : Setup) (J : List Entry) (n : ℕ) → IsSchedule (record T { version = n }) J ≡ IsSchedule T J
unfolding IsRun start start_side is_enabled is_locally_enabled after entry_of local_entry local_step call_row upcall_row handle_row resume_row ended opened
    finish closed_here
runs-same T J n = refl

-- where there may be more VPEs, a call that is valid stays so
call-wider : (few more : ℕ) → few ≤ more → (call : Call) → IsValidCall few call → IsValidCall more call
call-wider few more wider (Derive src dst off len rights) valid = valid
call-wider few more wider (Gate src dst label credits) valid = valid
call-wider few more wider (Obtain dst vpe src) valid = (valid.0, omega (arith, wider, valid.1), valid.2)
call-wider few more wider (Delegate src vpe dst) valid = (valid.0, omega (arith, wider, valid.1), valid.2)
call-wider few more wider (OpenSession dst name) valid = valid
call-wider few more wider (AskOffer dst session index) valid = valid
call-wider few more wider (Revoke src) valid = valid
call-wider few more wider (Bind ep src) valid = valid
call-wider few more wider (Read ep off len) valid = valid
call-wider few more wider (Write ep off len) valid = valid
call-wider few more wider (SendCall ep len) valid = valid
call-wider few more wider (Credit ep) valid = valid
call-wider few more wider Exit valid = valid
call-wider few more wider (Clear src) valid = valid

module _ (T : Setup) (valid : IsSetup T) (first : T.version ≡ 1) where
  vpes-first : most_vpes T.version ≡ 64
  vpes-first = rw first refl

  kernels-first : most_kernels T.version ≡ 16
  kernels-first = rw first refl

  window-within : IsWindow 1 T.window
  window-within = rw first at valid.windowed

  pub window-four : T.window ≡ 4
  window-four = let within = window-within in omega (arith, within.0, within.1)

  decl-second : (d : VpeDecl) → IsVpeDecl T d → IsVpeDecl (record T { version = 2 }) d
  decl-second d is =
      let few = vpes-first in
      let vpe = is.vpe in
      let pe = is.pe in
      record {
        vpe = omega (arith, few, vpe);
        pe = omega (arith, few, pe);
        owned = is.owned;
        selectors_differ = is.selectors_differ;
        roots = is.roots;
        calls = All-weaker (IsValidCall (most_vpes T.version)) (IsValidCall 128) (call-wider (most_vpes T.version) 128 (omega (arith, few))) d.calls is.calls;
      }

  pub setup-second : IsSetup (record T { version = 2 })
  setup-second =
      let four = window-four in
      let few = kernels-first in
      let kernels = valid.few_kernels in
      record {
        versioned = inr refl;
        windowed = (omega (arith, four), omega (arith, four));
        some_kernel = valid.some_kernel;
        few_kernels = omega (arith, few, kernels);
        membership = valid.membership;
        same_kernels = valid.same_kernels;
        owned_pes = λ pe some. let below = valid.owned_pes pe some in let most = vpes-first in omega (arith, below, most);
        vpes = All-weaker (IsVpeDecl T) (IsVpeDecl (record T { version = 2 })) decl-second T.vpes valid.vpes;
        vpes_rise = valid.vpes_rise;
        pes_differ = valid.pes_differ;
        services_rise = valid.services_rise;
        services = valid.services;
        offers = All-weaker (IsOffer T) (IsOffer (record T { version = 2 })) (λ o is. record {
          index = is.index;
          selector = is.selector;
          declared = is.declared;
        }) T.offers valid.offers;
        offers_rise = valid.offers_rise;
        denies = valid.denies;
        denies_rise = valid.denies_rise;
        kills = valid.kills;
        kills_rise = valid.kills_rise;
        few_calls = valid.few_calls;
      }
