-- That the two sides of a joined run are in one opening of a channel: while the session hears frames on it, the broker has read its
-- last `channel.open`, and all that is on the way down on the channel was sent since.
use Rattle.std.specs.Prelude.{◌≡◌, ℕ, ◌==◌, Bool, true, false, ◌&&◌, List, ◌++◌, filter}
use Rattle.std.specs.List.{list_any}
use Rattle.lapin_rules.specs.Words.{many}
use Rattle.lapin_types.specs.declared.leaving.Left.{Left}
use Rattle.lapin_types.specs.Types.{Frame}
use Rattle.lapin_types.specs.Types.frame
use Rattle.lapin_rules.specs.Frames.{MethodEntry}
use Rattle.lapin_rules.specs.History.{past}
use Rattle.lapin_rules.specs.ConfirmReadings.{begins}
use Rattle.lapin_rules.specs.Wire.{state_of, receives_on}
use Rattle.lapin_broker.specs.Frames.{channel_of}
use Rattle.lapin_joint.specs.declared.step.Step.{Step}
use Rattle.lapin_joint.specs.Joint.{joined_to}
use Rattle.lapin_verdicts.specs.Deeds.{deeds, on_channel, opens, is_open, last_opening, sents}

-- the frame is on this channel
abbrev pub is_frame_on : ℕ → Frame → Bool
is_frame_on c f = channel_of f == c

-- the frame opens this channel
abbrev pub is_open_on : ℕ → Left → Bool
is_open_on c l = is_frame_on c l.frame && is_open l.frame

-- the method that waits opens this channel
abbrev pub is_open_waiting : ℕ → MethodEntry → Bool
is_open_waiting c m = (m.channel == c) && is_open (frame.Method m.channel m.method)

-- in this run, of this channel: no `channel.open` waits or is on the way up, the broker read as many as the session began openings, and
-- what is on the way down is the last of what it sent since
pub record AreTogether (frame_max : ℕ) (steps : List Step) (c : ℕ) : Type 0 where
  pub left : list_any (is_open_waiting c) (past frame_max (joined_to frame_max steps).session).wire.methods ≡ false
  pub read : list_any (is_open_on c) (joined_to frame_max steps).up ≡ false
  pub count : many opens (on_channel c (deeds frame_max steps)) ≡ many (begins c) (past frame_max (joined_to frame_max steps).session).confirms
  pub came : List Frame
  pub way : sents (last_opening c (deeds frame_max steps)) ≡ came ++ filter (is_frame_on c) (joined_to frame_max steps).down

-- so it is in every run, on every channel on which the session hears replies, settlements and contents
abbrev pub InStep : ℕ → Type 0
InStep frame_max = (steps : List Step) (c : ℕ) → receives_on (state_of c (past frame_max (joined_to frame_max steps).session).wire) ≡ true → AreTogether frame_max steps c
