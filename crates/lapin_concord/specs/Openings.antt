-- In which opening of its channel a publish left.
use Rattle.std.specs.Prelude.{ℕ, List}
use Rattle.lapin_rules.specs.ConfirmMarks.{ConfirmMark}
use Rattle.lapin_rules.specs.ConfirmReadings.{begins, leaves, channel_of}
use Rattle.lapin_rules.specs.History.{past}
use Rattle.lapin_rules.specs.Words.{many, through}
use Rattle.lapin_joint.specs.declared.step.Step.{Step}
use Rattle.lapin_joint.specs.Joint.{joined_to}

-- the method frame of publish n left in the k-th opening of its channel: this is k
abbrev pub opening_of : ℕ → List ConfirmMark → ℕ
opening_of n ms = many (begins (channel_of n ms)) (through (leaves n) ms)

-- all that happened to confirms in a joined run
abbrev pub confirms_in : ℕ → List Step → List ConfirmMark
confirms_in frame_max steps = (past frame_max (joined_to frame_max steps).session).confirms
