use Rattle.std.proofs.Common.{◌≡◌, Some, refl, rules}
use Rattle.std.proofs.lemmas.Bool.{false≢true}
use Rattle.sem_cli.specs.Commands.{command_of}
use Rattle.sem_cli.specs.declared.forms.Command.TheVariants.{Threads, Generate, Soak}
use Rattle.sem_cli.proofs.Loads.{can-generate}
use Rattle.sem_run.proofs.responses.respond.Goals as goal

-- the load of the words can be generated
pub generate_trace-requires-clause-vpes : goal.generate_trace-requires-clause-vpes
generate_trace-requires-clause-vpes g c =
    let e = c.in-Some-Generate in
    let is : command_of c.requires.asked.0 ≡ Some (Generate e.seed e.vpes e.calls) = search rules in
    let loaded = can-generate c.requires.asked.0 e.seed e.vpes e.calls is in
    (loaded.0, loaded.1)

pub generate_trace-requires-clause-calls : goal.generate_trace-requires-clause-calls
generate_trace-requires-clause-calls g c =
    let e = c.in-Some-Generate in
    let is : command_of c.requires.asked.0 ≡ Some (Generate e.seed e.vpes e.calls) = search rules in
    (can-generate c.requires.asked.0 e.seed e.vpes e.calls is).2

-- it is generated
pub returns-in-Some-Generate : goal.returns-in-Some-Generate
returns-in-Some-Generate g c =
    let e = c.in-Some-Generate in
    let is : c.args.asked ≡ Some (Generate e.seed e.vpes e.calls) = search rules in
    c.generate_trace.ensures _ is (record { unread = refl; quiet = refl })

-- no words ask one thread for what takes others
pub returns-in-Some-Threads : goal.returns-in-Some-Threads
returns-in-Some-Threads g c =
    let t = c.in-Some-Threads in
    let is : c.args.asked ≡ Some (Threads t.field-0-0) = search rules in
    absurd (false≢true (c.requires.alone (Threads t.field-0-0) is))

pub returns-in-Some-Soak : goal.returns-in-Some-Soak
returns-in-Some-Soak g c =
    let s = c.in-Some-Soak in
    let is : c.args.asked ≡ Some (Soak s.field-0-0 s.field-0-1 s.field-0-2) = search rules in
    absurd (false≢true (c.requires.alone (Soak s.field-0-0 s.field-0-1 s.field-0-2) is))

-- the words are no command
pub returns-in-None : goal.returns-in-None
returns-in-None g c = c.tell_usage-in-None.ensures _ c.in-None.is (record { unread = refl; quiet = refl })
