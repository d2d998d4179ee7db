-- What holds of every joined run.
use Rattle.std.specs.Prelude.{ℕ, List, [], ◌∷◌}
use Rattle.lapin_types.specs.declared.leaving.Left.{Left}
use Rattle.lapin_types.specs.Types.{Frame}
use Rattle.lapin_machine.specs.World.{World}
use Rattle.lapin_broker.specs.Frames.{client_frame, broker_frame}
use Rattle.lapin_joint.specs.Joint.{Joint}
use Rattle.lapin_pairs.specs.Every.{All}
use Rattle.lapin_pairs.specs.Asking.{asking}
use Rattle.lapin_concord.specs.Frames.{IsSent, IsGiven}
use Rattle.lapin_concord.specs.Wires.{pair_as}

-- a joined run, as the pair of machines has it
abbrev pub pair_of : Joint World → All asking
pair_of j = pair_as j.session.wire j.broker j.up j.down

-- what is on the way up is what a client sends
abbrev pub AreUpSent : ℕ → List Left → Type 0
AreUpSent most [] = Unit {0}
AreUpSent most (l ∷ ls) = IsSent most (client_frame l.frame) × AreUpSent most ls

-- what is on the way down is what a broker sends
abbrev pub AreDownGiven : List Frame → Type 0
AreDownGiven [] = Unit {0}
AreDownGiven (f ∷ fs) = IsGiven (broker_frame f) × AreDownGiven fs
