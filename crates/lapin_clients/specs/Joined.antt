-- The joined run that a run of a client is.
use Rattle.std.specs.Prelude.{◌≡◌, ℕ, List, [], ◌∷◌, ◌++◌, map, Option, Some, None, Ok}
use Rattle.lapin_types.specs.declared.call.Call.{Call as SessionCall}
use Rattle.lapin_types.specs.declared.event.Event.TheVariants as event
use Rattle.lapin_types.specs.declared.leaving.Left.{Left}
use Rattle.lapin_types.specs.declared.record.Record.TheVariants as record_
use Rattle.lapin_types.specs.Types.{Frame}
use Rattle.lapin_effects.specs.Effects.{hears}
use Rattle.lapin_joint.specs.declared.step.Step.{Step}
use Rattle.lapin_joint.specs.Joint.{Joint, run, new_joint, joined_to}
use Rattle.lapin_machine.specs.Way.{by_machine}
use Rattle.lapin_machine.specs.World.{World, new_world}
use Rattle.lapin_rules.specs.History.{History}
use Rattle.lapin_rules.specs.Phases.{is_up}
use Rattle.lapin_verdicts.specs.Deeds.{Deed, deeds}
use Rattle.lapin_verdicts.specs.Deeds as deed
use Rattle.lapin_verdicts.specs.Verdicts.{at_place, messages_in}
use Rattle.lapin_frames.specs.Carried.{carrying, frame_again}
use Rattle.lapin_client.specs.Asking.{called_in}
use Rattle.lapin_clients.specs.Calls.{Ask, Publish}
use Rattle.lapin_clients.specs.Nets.{Act, Calls, Reads, Sends, Net}
use Rattle.lapin_clients.specs.Pieces.{Of, ArePieces, frames_left}
use Rattle.lapin_clients.specs.Strays.{AreComing, Hearing}

-- where steps lead from a new session and a new broker, by the machine
abbrev pub machine_to : ℕ → List Step → Joint World
machine_to frame_max steps = run by_machine steps (new_joint (new_world frame_max) frame_max)

-- the frame that a client holds since it found no memory for its octets, if it holds one
abbrev pub held_frames : Option Left → List Frame
held_frames None = []
held_frames (Some l) = l.frame ∷ []

-- The octets are the first of these frames, whole and in order; only the one that the client holds, if it holds one, has no octets yet.
pub record AreSent (most : ℕ) (octets : List ℕ) (held : Option Left) (frames : List Frame) : Type 0 where
  pub on_way : List Frame
  pub written : ArePieces most octets on_way
  pub all : frames ≡ on_way ++ held_frames held

-- what a session hears
abbrev pub hearing : World → Hearing
hearing w = record { up = is_up w.wire.link; on = λ c. hears c w.wire }

-- A session, a broker and two links are those of a client, a broker and their streams: the octets on their way, with those that the client has,
-- are the frames on the links, whole and in order, with heartbeats, notices and contents that the client passes over between them, of these no more
-- than the broker sent; and those on the way down are carried, as octets give them.
pub record IsJoined (frame_max : ℕ) (x : Net) (j : Joint World) : Type 0 where
  pub most : x.client.frame_max ≡ frame_max
  pub session : x.client.session ≡ j.session
  pub broker : x.broker ≡ j.broker
  pub up : AreSent frame_max (x.up ++ x.client.leaving.items) x.client.unsent (frames_left j.up)
  pub down : AreComing frame_max (x.client.came ++ x.down) (hearing j.session) x.besides j.down

-- further steps lead to this client, this broker and these streams
abbrev pub LeadsOn : ℕ → Net → Joint World → Type 0
LeadsOn frame_max y j = (steps : List Step) × IsJoined frame_max y (run by_machine steps j)

-- ---- what the broker did

-- A frame that the broker dealt with, as its octets give it: a table and properties that were given by their values are there as the octets that
-- carry them.
pub data Dealt : Type 0 where
  -- it read it
  Got : (frame : Frame) → Dealt
  -- it sent it
  Gave : (frame : Frame) → Dealt

-- what an act has the broker deal with, read from octets and sent as octets; contents behind its close are none of the free broker's
abbrev pub dealt_in : Act → List Dealt
dealt_in (Reads (Of f)) = Got f ∷ []
dealt_in (Sends (Of f)) = Gave (frame_again f) ∷ []
dealt_in _ = []

-- all of it, in order
abbrev pub dealt : List Act → List Dealt
dealt [] = []
dealt (a ∷ more) = dealt_in a ++ dealt more

-- the same of a joined run, in which a frame is known with the numbers of its call
abbrev pub as_dealt : Deed → Dealt
as_dealt (deed.Read l) = Got (frame_again l.frame)
as_dealt (deed.Sent f) = Gave f

-- ---- what the client did, by the numbers that it was given

-- the history has this call on the channel, which was given this ticket
pub record IsMade (channel : ℕ) (call : SessionCall) (ticket : ℕ) (h : History) : Type 0 where
  pub before : History
  pub behind : History
  pub all : h ≡ before ++ (event.Call channel call, record_.Ticket ticket) ∷ behind

-- The message of a publish that answered with a number is the one of that number among those that the session accepted; it carries the list of
-- properties that was given. The call of a method's octets that answered with a ticket was given that ticket.
abbrev pub IsNumbered : Act → History → Type 0
IsNumbered (Calls (Publish channel exchange key options payload properties (Ok k))) h =
    at_place k (messages_in h) ≡ Some (record { exchange = exchange; routing_key = key; mandatory = options.mandatory; immediate = options.immediate; properties = carrying properties; payload = payload })
IsNumbered (Calls (Ask channel octets (Ok ticket))) h = (call : SessionCall) × (called_in octets ≡ Some call) × IsMade channel call ticket h
IsNumbered _ h = Unit {0}

abbrev pub AreNumbered : List Act → History → Type 0
AreNumbered [] h = Unit {0}
AreNumbered (a ∷ more) h = IsNumbered a h × AreNumbered more h

-- Acts from a new client to this one are a joined run of these steps: it leads to where the acts do; in it the broker reads and sends the same
-- frames, in the same order, as it does from octets and to octets; and each publish of the acts is the one of its number, each call that of its
-- ticket.
pub record IsRun (frame_max : ℕ) (acts : List Act) (z : Net) (steps : List Step) : Type 0 where
  pub joined : IsJoined frame_max z (machine_to frame_max steps)
  pub dealt_is : map as_dealt (deeds frame_max steps) ≡ dealt acts
  pub numbered : AreNumbered acts (joined_to frame_max steps).session
