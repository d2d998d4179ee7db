-- How the set of full channels is kept beside the confirm modes. No public clause cites this module.
use Rattle.std.specs.Prelude.{◌≡◌, ◌≢◌, ℕ, ◌<◌, nat_lt, nat_le, Bool, false, ◌&&◌, List, Option, Some, None, IsSome}
use Rattle.lapin_tables.specs.ByChannel.{at_channel}
use Rattle.lapin_full.specs.ChannelSet.{is_in, reach}
use Rattle.lapin_confirm.specs.declared.confirm_mode.ConfirmMode.{ConfirmMode}

-- no further publish of this opening begins: it is selected, and its pending tags have reached its limit, which is above 0
abbrev pub is_full_mode : ConfirmMode → Bool
is_full_mode l = l.selected && (nat_lt 0 l.limit && nat_le l.limit l.pending)

-- the same of a channel's confirm mode; a channel without one isn't full
abbrev pub full_in : Option ConfirmMode → Bool
full_in None = false
full_in (Some l) = is_full_mode l

-- the set has channel c exactly where it is full, and reaches it where it has a confirm mode
pub record ShowsAt (full : List ℕ) (c : ℕ) (o : Option ConfirmMode) : Type 0 where
  pub shown : is_in c full ≡ full_in o
  pub placed : IsSome o → c < reach full

-- the set has the full channels
abbrev pub ShowsFull : List ℕ → List (ℕ × ConfirmMode) → Type 0
ShowsFull full es = (c : ℕ) → ShowsAt full c (at_channel c es)

-- channel c is in the set now, or isn't, as b says; nothing else of the set changed
pub record Shown (c : ℕ) (b : Bool) (old new : List ℕ) : Type 0 where
  pub here : is_in c new ≡ b
  pub others : (d : ℕ) → d ≢ c → is_in d new ≡ is_in d old
  pub reached : reach new ≡ reach old
