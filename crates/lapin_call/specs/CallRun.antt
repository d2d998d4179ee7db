-- What contracts see of calls over queues: the requester, how many steps were made, and whether one found no memory.
use Rattle.std.specs.Prelude.{◌≡◌, ◌≤◌, ℕ, ◌-◌, ◌*◌, ◌^◌, Bool, false, None, List, length}
use Rattle.lapin_rules.specs.History.{History}
use Rattle.lapin_machine.specs.World.{World}
use Rattle.lapin_machine.specs.Stands.{Stands}
use Rattle.lapin_machine.specs.Numbers.{HasNumbersFor}
use Rattle.lapin_call.specs.declared.step.CallStep.{CallStep}
use Rattle.lapin_call.specs.Calls.{Requester, calls_to}

-- a requester of the machine, the number of steps that were made, and whether a step found no memory
pub record CallRun : Type 0 where
  pub requester : Requester World
  pub steps : ℕ
  pub stopped : Bool

-- the same but for the session, which stands for the history
pub record AreAlike (frame_max : ℕ) (j : Requester History) (k : Requester World) : Type 0 where
  pub session : Stands frame_max j.session k.session
  pub queue : k.queue ≡ j.queue
  pub consumes : k.consumes ≡ j.consumes
  pub consumer : k.consumer ≡ j.consumer
  pub fates : k.fates ≡ j.fates

-- Calls stand for the list of their steps. Of those that stopped the steps are known, those before the one that failed, and nothing
-- is said of the rest.
pub record StandsFor (frame_max : ℕ) (queue : List ℕ) (steps : List CallStep) (k : CallRun) : Type 0 where
  pub count : k.steps ≡ length steps
  pub alike : k.stopped ≡ false → AreAlike frame_max (calls_to frame_max queue steps) k.requester

-- The session has two numbers of each counter for every step that may still be made, and no frame was given back to it.
pub record GoesOn (steps : ℕ) (w : World) : Type 0 where
  pub numbers : HasNumbersFor (2 ^ 64 - 2 - 2 * steps) w
  pub unreturned : w.returned ≡ None

-- so it is as long as no step found that there is no memory, and no more than 2^62 were made
pub record IsKept (stopped : Bool) (steps : ℕ) (w : World) : Type 0 where
  pub few : steps ≤ 2 ^ 62
  pub goes_on : stopped ≡ false → GoesOn steps w
