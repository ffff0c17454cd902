use Rattle.std.proofs.Common.{◌≡◌, Some, refl, rules}
use Rattle.sem_cli.specs.Commands.{command_of}
use Rattle.sem_cli.specs.declared.forms.Command.TheVariants.{Soak}
use Rattle.sem_cli.proofs.Loads.{can-soak}
use Rattle.sem_run.proofs.responses.respond_to.Goals as goal

-- the load of the words can be generated
pub soak_load-requires-clause-vpes : goal.soak_load-requires-clause-vpes
soak_load-requires-clause-vpes g c κs within =
    let e = c.in-Some-Soak in
    let is : command_of c.requires.0 ≡ Some (Soak e.seed e.vpes e.calls) = search rules in
    let loaded = can-soak c.requires.0 e.seed e.vpes e.calls is in
    (loaded.0, loaded.1)

pub soak_load-requires-clause-calls : goal.soak_load-requires-clause-calls
soak_load-requires-clause-calls g c κs within =
    let e = c.in-Some-Soak in
    let is : command_of c.requires.0 ≡ Some (Soak e.seed e.vpes e.calls) = search rules in
    (can-soak c.requires.0 e.seed e.vpes e.calls is).2

-- it was run
pub returns-in-Some-Soak : goal.returns-in-Some-Soak
returns-in-Some-Soak g c =
    let e = c.in-Some-Soak in
    let is : c.args.asked ≡ Some (Soak e.seed e.vpes e.calls) = search rules in
    c.soak_load.ensures _ is (record { unread = refl; quiet = refl })
