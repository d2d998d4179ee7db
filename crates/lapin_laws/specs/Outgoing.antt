-- What matters to the frames handed out, in order: publishes that are accepted, requests for a frame with what they gave, and
-- ends of openings.
use Rattle.std.specs.Prelude.{ℕ, ◌==◌, Bool, List, [], ◌∷◌, ◌++◌, map, filter_map, Option, Some, None}
use Rattle.lapin_types.specs.declared.event.Event.{Event}
use Rattle.lapin_types.specs.declared.event.Event.TheVariants as event
use Rattle.lapin_types.specs.declared.record.Record.{Record}
use Rattle.lapin_types.specs.declared.record.Record.TheVariants as record_
use Rattle.lapin_types.specs.declared.leaving.Publish.{Publish}
use Rattle.lapin_types.specs.Types.{Frame}
use Rattle.lapin_rules.specs.declared.calls.Asked.{Asked}
use Rattle.lapin_rules.specs.declared.calls.Asked.TheVariants as ask
use Rattle.lapin_rules.specs.Asking.{asked_by}
use Rattle.lapin_rules.specs.ConfirmMarks.{ConfirmMark}
use Rattle.lapin_rules.specs.ConfirmMarks as mark
use Rattle.lapin_rules.specs.Events.{confirm_marks}
use Rattle.lapin_rules.specs.History.{History, Past, longer, past}

-- one thing that matters to the frames handed out
pub data Point : Type 0 where
  -- a publish was accepted
  Called : (publish : Publish) → Point
  -- a frame was requested, and what was given
  Requested : (given : Option Frame) → Point
  -- the opening of a channel ended
  Ended : (channel : ℕ) → Point

-- ---- accepted publishes

-- the publish of an accepted call, by the numbers of its record
abbrev pub published_by : ℕ → Asked → Record → List Publish
published_by c (ask.Publish exchange key o payload properties) (record_.Publish ticket confirm) = record {
  confirm = confirm;
  ticket = ticket;
  channel = c;
  exchange = exchange;
  routing_key = key;
  options = o;
  payload = payload;
  properties = properties;
} ∷ []
published_by c _ _ = []

-- the publish that an event brings, if it is an accepted call of one
abbrev pub called_by : Event → Record → List Publish
called_by (event.Call c k) r = published_by c (asked_by k r) r
called_by _ _ = []

-- ---- frames

-- the frame that a record hands out, if it is one
abbrev pub given_by : Record → Option Frame
given_by (record_.Frame f) = Some f
given_by _ = None

-- the request for a frame with what it gave, if the event is one
abbrev pub requested_by : Event → Record → List Point
requested_by (event.Next flow) r = Requested (given_by r) ∷ []
requested_by _ _ = []

-- ---- ends of openings

-- the channel whose opening a mark ends, if it ends one
abbrev pub ended_by : ConfirmMark → Option ℕ
ended_by (mark.Ended c e) = Some c
ended_by _ = None

-- the channels whose openings these marks end, in order
abbrev pub ended_in : List ConfirmMark → List ℕ
ended_in ms = filter_map ended_by ms

-- whether the channel is among those whose openings end
abbrev pub is_channel : ℕ → ℕ → Bool
is_channel c d = d == c

-- ---- a history

-- the points of a history that goes on from this past: of each event the ends, then the accepted publish, then the frame request
abbrev pub points_on : Past → History → List Point
points_on p [] = []
points_on p (x ∷ h) = map Ended (ended_in (confirm_marks p.wire x.0 x.1)) ++ (map Called (called_by x.0 x.1) ++ (requested_by x.0 x.1 ++ points_on (longer p x.0 x.1) h))

-- the points of a history
abbrev pub points : ℕ → History → List Point
points frame_max h = points_on (past frame_max []) h

-- the frames handed out, in order
abbrev pub given_in : List Point → List Frame
given_in [] = []
given_in (Requested (Some f) ∷ ps) = f ∷ given_in ps
given_in (p ∷ ps) = given_in ps

-- the frames among records
abbrev pub frames_in : List Record → List Frame
frames_in rs = filter_map given_by rs
