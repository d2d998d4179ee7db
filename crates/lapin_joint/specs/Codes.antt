-- How a joined run is stored as a tuple of its fields, by which a proof tells two of them apart. No clause cites this.
use Rattle.std.specs.Prelude.{ℕ, Bool, List, refl}
use Rattle.std.specs.Coded.{Coded, code_by, coded×, coded_ℕ, coded_bool, coded_list}
use Rattle.lapin_types.specs.Types.{Frame}
use Rattle.lapin_types.specs.declared.leaving.Left.{Left}
use Rattle.lapin_methods.specs.contracts.frame.Frame as frame_row
use Rattle.lapin_types.specs.contracts.leaving.Left as left_row
use Rattle.lapin_machine.specs.World.{World}
use Rattle.lapin_machine.specs.Codes.{world_code}
use Rattle.lapin_broker.specs.States.{Broker}
use Rattle.lapin_broker.specs.contracts.broker.Broker as broker_row
use Rattle.lapin_joint.specs.Joint.{Joint}
use Rattle.lapin_joint.specs.JoinedRun.{JoinedRun}

-- a joined run of the machine, stored as its session, its broker, its link up and its link down
abbrev pub joint_code : Coded (Joint World)
joint_code =
    code_by
    (World × (Broker × (List Left × List Frame)))
    (coded× world_code (coded× broker_row.the_row.coded (coded× (coded_list left_row.the_row.coded) (coded_list frame_row.the_row.coded))))
    (λ j. (j.session, (j.broker, (j.up, j.down))))
    (λ p. record { session = p.0; broker = p.1.0; up = p.1.1.0; down = p.1.1.1 })
    (λ _. refl)

-- a joined run as contracts see it, stored as its parts, its count of steps and whether it stopped
abbrev pub kept_code : Coded JoinedRun
kept_code =
    code_by
    (Joint World × (ℕ × Bool))
    (coded× joint_code (coded× coded_ℕ coded_bool))
    (λ k. (k.joint, (k.steps, k.stopped)))
    (λ p. record { joint = p.0; steps = p.1.0; stopped = p.1.1 })
    (λ _. refl)
