-- The frames that a client took.
use Rattle.std.specs.Prelude.{◌≡◌, ℕ, zero, suc, List, [], ◌∷◌, ◌++◌, Option, Some, None}
use Rattle.lapin_client.specs.declared.client.Client.{Client}
use Rattle.lapin_client.specs.Receiving.{IsTurnOf}
use Rattle.lapin_types.specs.Types.{Frame}

-- the frame, if there is one
abbrev pub frames_in : Option Frame → List Frame
frames_in None = []
frames_in (Some f) = f ∷ []

-- n heads of what came were taken, one after the other, and these are the frames among them, oldest first
abbrev pub Took : ℕ → List Frame → Client → Client → Type 0
Took zero fs c d = (fs ≡ []) × (d ≡ c)
Took (suc n) fs c d = (b : Client) × (gs : List Frame) × (o : Option Frame) × Took n gs c b × IsTurnOf o b d × (fs ≡ gs ++ frames_in o)
