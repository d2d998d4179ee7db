-- What a session keeps true of its parts, and the room that a call uses.
use Rattle.std.specs.Prelude.{◌≡◌, ℕ, ◌&&◌, Bool, true, false, List, [], Option, None, IsSome}
use Rattle.std.specs.List.{list_any}
use Rattle.lapin_types.specs.declared.leaving.Publish.{Publish}
use Rattle.lapin_tables.specs.ByChannel.{at_channel}
use Rattle.lapin_rules.specs.Words.{is_some}
use Rattle.lapin_rules.specs.declared.phases.ChannelPhase.{ChannelPhase}
use Rattle.lapin_rules.specs.declared.phases.ConnectionPhase.{ConnectionPhase}
use Rattle.lapin_rules.specs.Phases.{is_live, is_up, phase_in}
use Rattle.lapin_outbox.specs.Outgoing.{OutboxState}
use Rattle.lapin_outstanding.specs.Queued.{AreQueued}
use Rattle.lapin_confirm.specs.PublishStates.{PublishStates, is_open_on}

-- whether a channel has a live opening: none has once the connection is not open
abbrev pub is_live_on : ConnectionPhase → Option ChannelPhase → Bool
is_live_on l p = is_up l && is_live (phase_in p)

-- States, waiting publishes and confirms hang together: a publish that waits is queued, a channel that was ever opened has a
-- line, a channel without a live opening has nothing unresolved, and no channel stands open once the connection does not.
pub record IsTied (l : ConnectionPhase) (phases : List (ℕ × ChannelPhase)) (publishes : List Publish) (b : PublishStates) : Type 0 where
  pub queued : AreQueued b.cells publishes
  pub confirm_modes : (c : ℕ) → is_some (at_channel c phases) ≡ true → IsSome (at_channel c b.confirm_modes)
  pub done : (c : ℕ) → is_live_on l (at_channel c phases) ≡ false → list_any (is_open_on c) b.cells ≡ false
  pub down : is_up l ≡ false → phases ≡ []

-- nobody poisons the outbox: what is queued is queued
abbrev pub NotPoisoned : OutboxState → Type 0
NotPoisoned o = (o.poison ≡ None) × (o.errors ≡ [])

-- what a session keeps true of its parts
pub record IsKept (l : ConnectionPhase) (phases : List (ℕ × ChannelPhase)) (o : OutboxState) (b : PublishStates) : Type 0 where
  pub tied : IsTied l phases o.lists.publishes b
  pub unpoisoned : NotPoisoned o
