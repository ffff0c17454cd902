-- The entry of an act, and the message that it is handed.
use Rattle.std.proofs.Common.{◌≡◌, ℕ, Option, Some, None, refl, ap}
use Rattle.std.specs.Option.{option_map}
use Rattle.sem_msg.specs.declared.event.Act.{Act}
use Rattle.sem_msg.specs.declared.event.Act.TheVariants.{Call as Calls, Fetch, Handle, Upcall, Resume, Flush, Kill}
use Rattle.sem_msg.specs.declared.message.Message.{Message}
use Rattle.sem_msg.specs.declared.entry.Detail.{Detail}
use Rattle.sem_msg.specs.declared.entry.Entry.{Entry}
use Rattle.sem_msg.specs.declared.entry.Outcome.{Outcome}
use Rattle.sem_msg.specs.declared.entry.Reply.{Reply}
use Rattle.sem_msg.specs.Setup.{Setup}
use Rattle.sem_machine.specs.Sides.{Side}
use Rattle.sem_machine.specs.Steps.{Step}
use Rattle.sem_machine.specs.Machine.{local_step, local_entry, detail_of, replied_vpe}
use Rattle.sem_sound.specs.SoundWorlds.{IsSoundInput}
use Rattle.sem_kernel.specs.KernelValue.{IsInput}

-- what an act is handed is sound
pub sound-input : (act : Act) (input : Option Message) → IsInput act input → IsSoundInput act input
sound-input (Fetch from) None none = absurd none
sound-input (Fetch from) (Some m) fits = fits
sound-input (Calls v) input is = tt
sound-input Handle input is = tt
sound-input (Upcall v) input is = tt
sound-input (Resume v) input is = tt
sound-input (Flush to) input is = tt
sound-input (Kill v) input is = tt

-- the entry tells what was done
pub entry-is : (T : Setup) (i : ℕ) (s : Side) (act : Act) (input : Option Message) (d : Detail) (o : Outcome) (r : Option Reply) (t : Side) →
    ◌≡◌ {A = Step} (record { side = t; outcome = o }) (local_step T i s act input) → d ≡ detail_of T s act input o →
    r ≡ option_map (λ n. record { vpe = replied_vpe act; code = n }) o.reply →
    ◌≡◌ {A = Entry} (record { event = record { kernel = i; act = act }; detail = d; grant = o.grant; cut = o.cut; reply = r }) (local_entry T i s act input)
unfolding local_entry
entry-is T i s act input d o r t step detail reply =
    let same : o ≡ (local_step T i s act input).outcome = ap (λ (x : Step). x.outcome) step in
    rw (detail, reply, same) refl
