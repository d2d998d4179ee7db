-- How the code's publisher stands for that of the definition.
use Rattle.std.specs.Prelude.{◌≡◌, ℕ, false, map}
use Rattle.lapin_joint.specs.JoinedRun.{StandsFor}
use Rattle.lapin_resend.specs.declared.publisher.Publisher as code
use Rattle.lapin_resend.specs.Publisher.{Publisher}
use Rattle.lapin_resend.specs.Follows.{standing}

-- the joined run stands for the present one, the messages came as far, and no step found that there is no memory
pub record Follows (n : ℕ) (p : Publisher) (c : code.Publisher) : Type 0 where
  pub joined : StandsFor n p.present c.joined
  pub running : c.joined.stopped ≡ false
  pub messages : map standing c.messages.items ≡ p.messages
  pub selects : c.selects ≡ p.selects

-- what stood for a publisher stands for what the definition makes of it
abbrev pub GoesTo : (ℕ → Publisher → Publisher) → code.Publisher → code.Publisher → Type 0
GoesTo goes old new = (n : ℕ) (p : Publisher) → Follows n p old → Follows n (goes n p) new
