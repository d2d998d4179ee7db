use Rattle.lapin_joint.specs.Joint.{Joint, new_joint}
use Rattle.lapin_machine.specs.World.{World, new_world}
use Rattle.lapin_concord.proofs.Running.{Sound, new_sound, sound_run}
use Rattle.lapin_clients.specs.Joined.{machine_to}
use Rattle.lapin_clients.proofs.Ended.{new_quiet, quiet_both, run_quiet}
use Rattle.lapin_clients.proofs.Wires.{reads_goes, sends_goes, strays_joined}
use Rattle.lapin_clients.proofs.a_broker_of_octets_is_the_free_broker.Goals as goal

pub returns-clause-reads : goal.returns-clause-reads
returns-clause-reads c = λ n x y j p is does. let g = reads_goes n x y j is p does.0 does.1 does.2 does.3 in (g.steps, g.joined)

pub returns-clause-sends : goal.returns-clause-sends
returns-clause-sends c = λ n x y j p is does. let g = sends_goes n x y j is does.1 does.2 p does.0 does.3 does.4 in (g.steps, g.joined)

pub returns-clause-strays : goal.returns-clause-strays
returns-clause-strays c = λ n large x y steps f is does.
    let j : Joint World = machine_to n steps in
    let sound : Sound j = sound_run steps (new_joint (new_world n) n) (new_sound n large) in
    strays_joined n x y j is does.1 does.3 f (quiet_both j sound (run_quiet steps (new_joint (new_world n) n) (new_quiet n))) does.0.0 does.0.1 does.2 does.4 does.5
