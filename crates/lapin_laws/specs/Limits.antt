-- The limit of a channel's outstanding confirms: which record begins a publish of the channel, and when its pending tags keep within
-- the limit. Said once of what the session keeps, and once of what the history shows.
use Rattle.std.specs.Prelude.{◌≡◌, ◌≤◌, ◌<◌, ℕ, ◌==◌, ◌&&◌, Bool, true, false, not, List, zip}
use Rattle.lapin_types.specs.declared.event.Event.{Event}
use Rattle.lapin_types.specs.declared.record.Record.{Record}
use Rattle.lapin_types.specs.declared.record.Record.TheVariants as record_
use Rattle.lapin_types.specs.declared.leaving.Publish.{Publish}
use Rattle.lapin_rules.specs.ConfirmMarks.{ConfirmMark}
use Rattle.lapin_rules.specs.ConfirmReadings.{is_selected, limit_of}
use Rattle.lapin_rules.specs.ConfirmReadings as read
use Rattle.lapin_rules.specs.Drops.{frame_channel}
use Rattle.lapin_rules.specs.History.{History, longer, past, rec, run}
use Rattle.lapin_confirm.specs.PublishStates.{PublishStates, selected_on, limit_on, pending_count}
use Rattle.lapin_confirm.specs.ConfirmState.{ConfirmState}
use Rattle.lapin_machine.specs.World.{full_in}
use Rattle.lapin_laws.specs.Unbroken.{is_publish}

-- the record is the method frame of a publish of the channel, which so begins
abbrev pub is_publish_on : ℕ → Record → Bool
is_publish_on c (record_.Frame f) = is_publish f && frame_channel f == c
is_publish_on c _ = false

-- where the channel's opening is selected and has a limit, at most that many of its tags are pending
abbrev pub IsWithinLimit : ℕ → PublishStates → Type 0
IsWithinLimit c b = selected_on c b ≡ true → 0 < limit_on c b → pending_count c b ≤ limit_on c b

-- the same as the history shows it: on a selected opening with a limit at most that many tags are pending
abbrev pub AreWithinLimit : ℕ → List ConfirmMark → Type 0
AreWithinLimit c ms = is_selected c ms ≡ true → 0 < limit_of c ms → read.pending_count c ms ≤ limit_of c ms

-- the publish's channel is not full
abbrev pub is_free_in : ConfirmState → Publish → Bool
is_free_in k p = not (full_in k p.channel)

-- ---- the history of a run

-- the events of a run of a new session, each with its record
abbrev pub history_of : ℕ → List Event → History
history_of frame_max events = zip events (run frame_max events)

-- the record of one more event, and all that happened to confirms, before it and with it
abbrev pub told_behind : ℕ → List Event → Event → Record
told_behind frame_max events e = rec frame_max (history_of frame_max events) e

-- all that happened to confirms in the run of these events
abbrev pub confirms_of : ℕ → List Event → List ConfirmMark
confirms_of frame_max events = (past frame_max (history_of frame_max events)).confirms

-- all that happened to confirms in the run of these events and of one more
abbrev pub confirms_behind : ℕ → List Event → Event → List ConfirmMark
confirms_behind frame_max events e = (longer (past frame_max (history_of frame_max events)) e (told_behind frame_max events e)).confirms
