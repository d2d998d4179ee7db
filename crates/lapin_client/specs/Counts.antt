-- How many steps a call uses up.
use Rattle.std.specs.Prelude.{◌≡◌, ◌+◌, ◌⊎◌, ℕ, Result, Ok, Err}
use Rattle.lapin_client.specs.declared.client.Client.{Client}
use Rattle.lapin_client.specs.declared.status.Status.{Status}
use Rattle.lapin_client.specs.declared.status.Status.TheVariants as status

-- so many steps were used up
abbrev pub Uses : ℕ → Client → Client → Type 0
Uses n c d = d.left + n ≡ c.left

-- a call uses one; where it fails none
abbrev pub CallCounts : Result ℕ Status → Client → Client → Type 0
CallCounts (Ok n) c d = d.left + 1 ≡ c.left
CallCounts (Err s) c d = d.left ≡ c.left

-- what uses one step where it is done, and none else
abbrev pub OneWhereDone : Status → Client → Client → Type 0
OneWhereDone status.Done c d = d.left + 1 ≡ c.left
OneWhereDone _ c d = d.left ≡ c.left

-- a publish uses two; where it fails none
abbrev pub PublishCounts : Result ℕ Status → Client → Client → Type 0
PublishCounts (Ok n) c d = d.left + 2 ≡ c.left
PublishCounts (Err s) c d = d.left ≡ c.left

-- a poll uses one; where there was no memory for a message the client ends
abbrev pub PollCounts : {A : Type 0} → Result A Status → Client → Client → Type 0
PollCounts (Err status.NoMemory) c d = d.left ≡ 0
PollCounts (Err status.Ended) c d = d.left ≡ c.left
PollCounts _ c d = d.left + 1 ≡ c.left

-- a message that is shown uses none
abbrev pub ShowCounts : {A : Type 0} → Result A Status → Client → Client → Type 0
ShowCounts (Ok m) c d = d.left ≡ c.left
ShowCounts (Err s) c d = d.left ≡ 0

-- an outcome that is told uses one; where none is told none is used
abbrev pub OutcomeCounts : ℕ → Client → Client → Type 0
OutcomeCounts code c d = ((code ≡ 0) × (d.left ≡ c.left)) ⊎ (d.left + 1 ≡ c.left)

-- what a call of an acker uses
abbrev pub SettleCounts : Status → Client → Client → Type 0
SettleCounts status.Done c d = d.left + 2 ≡ c.left
SettleCounts status.Refused c d = d.left + 1 ≡ c.left
SettleCounts _ c d = d.left ≡ c.left

-- what is unclaimed is told by one; where nothing was done none are used
abbrev pub UnclaimedCounts : Result ℕ Status → Client → Client → Type 0
UnclaimedCounts (Err status.NoMemory) c d = d.left ≡ c.left
UnclaimedCounts (Err status.Ended) c d = d.left ≡ c.left
UnclaimedCounts _ c d = d.left + 1 ≡ c.left
