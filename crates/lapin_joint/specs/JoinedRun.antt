-- What contracts see of a joined run: the two sides and the links, how many steps were made, and whether one found no memory.
use Rattle.std.specs.Prelude.{◌≡◌, ℕ, ◌-◌, ◌^◌, Bool, false, None, List, length}
use Rattle.lapin_rules.specs.History.{History}
use Rattle.lapin_machine.specs.World.{World}
use Rattle.lapin_machine.specs.Stands.{Stands}
use Rattle.lapin_machine.specs.Numbers.{HasNumbersFor}
use Rattle.lapin_joint.specs.declared.step.Step.{Step}
use Rattle.lapin_joint.specs.Joint.{Joint, joined_to}

-- a joined run of the machine, the number of steps that were made, and whether a step found no memory
pub record JoinedRun : Type 0 where
  pub joint : Joint World
  pub steps : ℕ
  pub stopped : Bool

-- the same broker and links, and a session that stands for the history
pub record AreAlike (frame_max : ℕ) (j : Joint History) (k : Joint World) : Type 0 where
  pub session : Stands frame_max j.session k.session
  pub broker : k.broker ≡ j.broker
  pub up : k.up ≡ j.up
  pub down : k.down ≡ j.down

-- A joined run stands for the list of its steps. Of one that stopped the steps are known, those before the one that failed, and
-- nothing is said of its parts.
pub record StandsFor (frame_max : ℕ) (steps : List Step) (k : JoinedRun) : Type 0 where
  pub count : k.steps ≡ length steps
  pub alike : k.stopped ≡ false → AreAlike frame_max (joined_to frame_max steps) k.joint

-- the session has a number of each counter for every step that may still be made, and no frame was given back to it
pub record GoesOn (steps : ℕ) (w : World) : Type 0 where
  pub numbers : HasNumbersFor (2 ^ 64 - 1 - steps) w
  pub unreturned : w.returned ≡ None

-- so it is as long as no step found that there is no memory
abbrev pub IsKept : Bool → ℕ → World → Type 0
IsKept stopped steps w = stopped ≡ false → GoesOn steps w

-- so many steps may still be made: the session has a number of each counter for each of them, and no frame was given back to it
abbrev pub CanTake : ℕ → Joint World → Type 0
CanTake n j = HasNumbersFor n j.session × (j.session.returned ≡ None)
