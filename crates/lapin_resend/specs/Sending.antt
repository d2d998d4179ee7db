-- What contracts see of a publisher that sends again: its parts, which messages were stored after the last step that was made, how
-- many steps were made, and whether one found no memory.
use Rattle.std.specs.Prelude.{◌≡◌, ◌≤◌, ℕ, ◌+◌, ◌*◌, Bool, false, List, length, map}
use Rattle.lapin_resend.specs.declared.step.ResendStep.{ResendStep}
use Rattle.lapin_resend.specs.declared.publisher.Publisher as code
use Rattle.lapin_resend.specs.Resend.{publisher_after}
use Rattle.lapin_resend.specs.Keeping.{FollowsBut}

-- so many steps use no number up
abbrev pub most_steps : ℕ
most_steps = 2147483648

pub record Sending : Type 0 where
  pub frame_max : ℕ
  pub publisher : code.Publisher
  pub known : List Bool
  pub steps : ℕ
  pub stopped : Bool

-- as many joined steps as so many steps make at most: each makes twice as many as there are messages, and three more
abbrev pub joined_steps : ℕ → ℕ
joined_steps s = s * s + (s + s + s + s + 2)

-- no step made more messages than one, nor more joined steps than it may
pub record IsWithin (s : Sending) : Type 0 where
  pub max : 4096 ≤ s.frame_max
  pub messages : length s.publisher.messages.items ≤ s.steps
  pub known : length s.known ≤ s.steps
  pub joined : s.publisher.joined.steps ≤ joined_steps s.steps

-- so it is as long as no step found that there is no memory
abbrev pub IsKept : Sending → Type 0
IsKept s = s.stopped ≡ false → IsWithin s

-- A publisher stands for the list of its steps. Of one that stopped the steps are known, those before the one that failed, and which
-- messages were stored after them.
pub record StandsForSteps (n : ℕ) (steps : List ResendStep) (s : Sending) : Type 0 where
  pub max : s.frame_max ≡ n
  pub count : s.steps ≡ length steps
  pub known : s.known ≡ map (λ t. t.stored) (publisher_after n steps).messages
  pub follows : s.stopped ≡ false → FollowsBut n s.known (publisher_after n steps) s.publisher
