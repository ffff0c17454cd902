-- The step of a kernel, with its entry in the pass, keeps that the pass tells the kernel's run.
use Rattle.std.proofs.Common.{◌≡◌, ℕ, ◌<◌, ◌&&◌, Bool, true, false, List, [], ◌∷◌, ◌++◌, Option, None, Some, refl, sym, ◌∙◌, ap, subst}
use Rattle.std.specs.Prelude.{is_some, if◌then◌else◌}
use Rattle.std.proofs.lemmas.Bool.{and_parts}
use Rattle.sem_msg.specs.declared.message.Message.{Message}
use Rattle.sem_msg.specs.declared.event.Act.{Act}
use Rattle.sem_msg.specs.declared.event.Act.TheVariants.{Call as Calls, Fetch, Handle, Upcall, Resume, Flush, Kill}
use Rattle.sem_msg.specs.declared.event.Event.{Event}
use Rattle.sem_msg.specs.declared.entry.Entry.{Entry}
use Rattle.sem_msg.specs.Setup.{Setup}
use Rattle.sem_msg.specs.Fabric.{IsOwnAct}
use Rattle.sem_machine.specs.Sides.{Side}
use Rattle.sem_machine.specs.Machine.{is_locally_enabled, local_step, local_entry}
use Rattle.sem_machine.specs.Sound.{IsSound}
use Rattle.sem_sound.specs.SoundWorlds.{IsSoundInput}
use Rattle.sem_sound.proofs.Stepping.{step-sound}
use Rattle.sem_kernel.specs.KernelValue.{KernelValue, is_timely, IsInput}
use Rattle.sem_turn.specs.Passes.{PassValue}
use Rattle.sem_parts.specs.Parts.{IsHanded, RunsTo}
use Rattle.sem_parts.proofs.LocalRuns.{entry-event, runs-step}
use Rattle.sem_node.specs.Running.{HasRun}
use Rattle.sem_node.specs.declared.cell.Progress.TheVariants.{Done, Replied}
use Rattle.sem_node.specs.Telling.{TellsProgress}

-- for which act there is room changes nothing of the run
pub run-readied : (T : Setup) (k r : KernelValue) (p : PassValue) → r ≡ record k { ready = r.ready } → HasRun T k p → HasRun T r p
run-readied T k r p same run = subst (λ (x : KernelValue). HasRun T x p) (sym same) (record {
  valid = run.valid;
  setup = run.setup;
  id = run.id;
  few = run.few;
  runs = run.runs;
  sound = run.sound;
})

pub run-roomed : (T : Setup) (k r : KernelValue) (p : PassValue) (act : Act) → HasRun T k p → r ≡ record k { ready = Some act } → HasRun T r p
run-roomed T k r p act run same =
    run-readied T k r p (same ∙ ap (λ (x : KernelValue). record k { ready = x.ready }) (sym same)) run

-- what is enabled before there is room is enabled then
pub enabled-roomed : (k r : KernelValue) (act : Act) (replies : ℕ) → r ≡ record k { ready = Some act }
    → (is_locally_enabled k.setup k.id k.side act && is_timely k.setup replies act) ≡ true → is_locally_enabled r.setup r.id r.side act ≡ true
enabled-roomed k r act replies same enabled =
    subst (λ (x : KernelValue). is_locally_enabled x.setup x.id x.side act ≡ true) (sym same)
    (and_parts (is_locally_enabled k.setup k.id k.side act) (is_timely k.setup replies act) enabled).0

-- an act that a kernel does alone is handed nothing
pub own-handed : (a : Act) → IsOwnAct a → IsHanded a None
own-handed (Calls v) own = refl
own-handed Handle own = refl
own-handed (Upcall v) own = refl
own-handed (Resume v) own = refl
own-handed (Fetch j) own = absurd own
own-handed (Flush j) own = absurd own
own-handed (Kill v) own = absurd own

-- what is handed to a step is handed to the machine's step, and fits
pub input-handed : (a : Act) (input : Option Message) → IsInput a input → IsHanded a input
input-handed (Fetch j) None is = absurd is
input-handed (Fetch j) (Some m) is = refl
input-handed (Calls v) None is = refl
input-handed (Calls v) (Some m) is = absurd is
input-handed Handle None is = refl
input-handed Handle (Some m) is = absurd is
input-handed (Upcall v) None is = refl
input-handed (Upcall v) (Some m) is = absurd is
input-handed (Resume v) None is = refl
input-handed (Resume v) (Some m) is = absurd is
input-handed (Flush j) None is = refl
input-handed (Flush j) (Some m) is = absurd is
input-handed (Kill v) None is = refl
input-handed (Kill v) (Some m) is = absurd is

pub input-sound : (a : Act) (input : Option Message) → IsInput a input → IsSoundInput a input
input-sound (Fetch j) None is = absurd is
input-sound (Fetch j) (Some m) is = is
input-sound (Calls v) input is = tt
input-sound Handle input is = tt
input-sound (Upcall v) input is = tt
input-sound (Resume v) input is = tt
input-sound (Flush j) input is = tt
input-sound (Kill v) input is = tt

-- an act that a kernel does alone needs no message
pub own-input : (a : Act) → IsOwnAct a → IsInput a None
own-input (Calls v) own = tt
own-input Handle own = tt
own-input (Upcall v) own = tt
own-input (Resume v) own = tt
own-input (Fetch j) own = absurd own
own-input (Flush j) own = absurd own
own-input (Kill v) own = absurd own

-- The kernel k, with the pass p, made the entry e and became l.
module _ (T : Setup) (k l : KernelValue) (p : PassValue) (act : Act) (input : Option Message) (e : Entry)
    (run : HasRun T k p) (enabled : is_locally_enabled k.setup k.id k.side act ≡ true) (handed : IsInput act input)
    (made : e ≡ local_entry k.setup k.id k.side act input) (stepped : l ≡ record k {
      side = (local_step k.setup k.id k.side act input).side;
      ready = None;
    }) where
  made-event : e.event ≡ record { kernel = k.id; act = act }
  made-event = ap (λ (x : Entry). x.event) made ∙ entry-event k.setup k.id k.side act input

  -- the entry is of the pass's kernel
  pub made-kernel : e.event.kernel ≡ p.kernel
  made-kernel = ap (λ (x : Event). x.kernel) made-event ∙ run.id

  -- and tells the act
  pub made-act : e.event.act ≡ act
  made-act = ap (λ (x : Event). x.act) made-event

  -- the pass with the entry tells the run
  pub run-goes-on : (q : PassValue) → q.kernel ≡ p.kernel → q.entries ≡ p.entries ++ e ∷ [] → HasRun T l q
  run-goes-on q same pushed =
      let id : l.id ≡ k.id = ap (λ (x : KernelValue). x.id) stepped in
      let able : is_locally_enabled T k.id k.side act ≡ true = subst (λ (S : Setup). is_locally_enabled S k.id k.side act ≡ true) run.setup enabled in
      let entries : q.entries ≡ p.entries ++ local_entry T k.id k.side act input ∷ [] = pushed
      ∙ ap (λ (x : Entry). p.entries ++ x ∷ []) (made ∙ ap (λ (S : Setup). local_entry S k.id k.side act input) run.setup) in
      let side : l.side ≡ (local_step T k.id k.side act input).side = ap (λ (x : KernelValue). x.side) stepped
      ∙ ap (λ (S : Setup). (local_step S k.id k.side act input).side) run.setup in
      record {
        valid = run.valid;
        setup = ap (λ (x : KernelValue). x.setup) stepped ∙ run.setup;
        id = id ∙ (run.id ∙ sym same);
        few = subst (λ n. n < T.kernels) (sym id) run.few;
        runs = subst (λ (x : ℕ × (List Entry × Side)). RunsTo T x.0 x.1.0 x.1.1) (λ i. (sym id i, (sym entries i, sym side i)))
            (runs-step T k.id p.entries k.side act input run.runs (input-handed act input handed) able);
        sound = subst (λ (x : ℕ × Side). IsSound T x.0 x.1) (λ i. (sym id i, sym side i))
            (step-sound T run.valid k.id run.few k.side run.sound act able input (input-sound act input handed)).0;
      }

-- the entry e is one more of the pass's kernel, which is l after it
pub record IsMade (T : Setup) (l : KernelValue) (p : PassValue) (a : Act) (e : Entry) : Type 0 where
  pub kernel : e.event.kernel ≡ p.kernel
  pub act : e.event.act ≡ a
  pub on : (q : PassValue) → q.kernel ≡ p.kernel → q.entries ≡ p.entries ++ e ∷ [] → HasRun T l q

-- a kernel tells that an act is enabled, makes room for it, and steps
pub step-made : (T : Setup) (k r l : KernelValue) (p : PassValue) (act : Act) (replies : ℕ) (b : Bool) (input : Option Message) (e : Entry)
    → HasRun T k p → b ≡ (is_locally_enabled k.setup k.id k.side act && is_timely k.setup replies act) → b ≡ true → r ≡ record k { ready = Some act } →
    IsInput act input
    → e ≡ local_entry r.setup r.id r.side act input → l ≡ record r { side = (local_step r.setup r.id r.side act input).side; ready = None } → IsMade T l p act e
step-made T k r l p act replies b input e run told on roomed handed made stepped =
    let now : HasRun T r p = run-roomed T k r p act run roomed in
    let able : is_locally_enabled r.setup r.id r.side act ≡ true = enabled-roomed k r act replies roomed (sym told ∙ on) in
    record {
      kernel = made-kernel T r l p act input e now able handed made stepped;
      act = made-act T r l p act input e now able handed made stepped;
      on = run-goes-on T r l p act input e now able handed made stepped;
    }

-- the same with the pass as it was before a place was made sure of
pub made-on : (T : Setup) (l : KernelValue) (p w q : PassValue) (act : Act) (e : Entry) → IsMade T l p act e
    → w ≡ record p { placed = w.placed } → q.kernel ≡ w.kernel → q.entries ≡ w.entries ++ e ∷ [] → HasRun T l q
made-on T l p w q act e made same kernel pushed =
    made.on q (kernel ∙ ap (λ (x : PassValue). x.kernel) same) (pushed ∙ ap (λ (x : PassValue). x.entries ++ e ∷ []) same)

pub made-kernel-on : (T : Setup) (l : KernelValue) (p w : PassValue) (act : Act) (e : Entry) → IsMade T l p act e → w ≡ record p { placed = w.placed } →
    e.event.kernel ≡ w.kernel
made-kernel-on T l p w act e made same = made.kernel ∙ sym (ap (λ (x : PassValue). x.kernel) same)

-- what an act that a kernel did alone says of its entry
pub tells-alone : (act : Act) (old new : List Entry) (e : Entry) (b : Bool) (n : ℕ) → new ≡ old ++ e ∷ [] → e.event.act ≡ act → b ≡ is_some e.reply →
    TellsProgress act old new (if b then Replied n else Done)
tells-alone act old new e true n came tells replied = record { entry = e; came = came; tells = tells; reply = sym replied }
tells-alone act old new e false n came tells replied = record { entry = e; came = came; tells = tells; reply = sym replied }
