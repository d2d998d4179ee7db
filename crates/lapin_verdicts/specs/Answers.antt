-- Which request of an opening a reply of the broker is to: the one at its place.
use Rattle.std.specs.Prelude.{◌≡◌, suc, Bool, true, false, List, length, filter, Option, Some, None}
use Rattle.lapin_types.specs.Types.{Frame}
use Rattle.lapin_types.specs.Types.frame
use Rattle.lapin_types.specs.Types.method
use Rattle.lapin_types.specs.Types.channel
use Rattle.lapin_types.specs.declared.leaving.Left.{Left}
use Rattle.lapin_broker.specs.declared.request.RequestKind.{RequestKind}
use Rattle.lapin_broker.specs.declared.request.RequestKind.TheVariants as kind
use Rattle.lapin_broker.specs.Requests.{same_kind}
use Rattle.lapin_broker.specs.Frames.{client_frame, broker_frame}
use Rattle.lapin_broker.specs.declared.frames.ClientFrame.{ClientFrame}
use Rattle.lapin_broker.specs.declared.frames.ClientFrame.TheVariants as client
use Rattle.lapin_broker.specs.declared.frames.BrokerFrame.{BrokerFrame}
use Rattle.lapin_broker.specs.declared.frames.BrokerFrame.TheVariants as broker
use Rattle.lapin_verdicts.specs.Deeds.{Deed, lefts, sents}
use Rattle.lapin_verdicts.specs.Verdicts.{at_place}

-- ---- requests and replies of an opening: the reply at a place answers the request at the same place

-- a client's frame of this kind awaits a reply
abbrev pub awaits_as : ClientFrame → Bool
awaits_as (client.Ask k) = true
awaits_as (client.Select awaits) = awaits
awaits_as _ = false

-- the client's frame is a request: a method that awaits a reply, but for `channel.open` and the closes, which have their own answers
abbrev pub awaits : Left → Bool
awaits l = awaits_as (client_frame l.frame)

-- a broker's frame of this kind is a reply
abbrev pub replies_as : BrokerFrame → Bool
replies_as (broker.Reply k) = true
replies_as broker.ConsumeOk = true
replies_as broker.CancelOk = true
replies_as broker.GetOk = true
replies_as _ = false

-- the broker's frame is a reply to a request
abbrev pub replies : Frame → Bool
replies f = replies_as (broker_frame f)

-- the requests that the broker read, and the replies that it sent
abbrev pub requests_in : List Deed → List Left
requests_in ds = filter awaits (lefts ds)

-- the replies that it sent, in order
abbrev pub replies_in : List Deed → List Frame
replies_in ds = filter replies (sents ds)

-- of which kind of request a client's frame is, and of which kind of request a broker's frame is the reply
abbrev pub kind_asked : ClientFrame → Option RequestKind
kind_asked (client.Ask k) = Some k
kind_asked (client.Select true) = Some kind.Select
kind_asked _ = None

abbrev pub kind_answered : BrokerFrame → Option RequestKind
kind_answered (broker.Reply k) = Some k
kind_answered broker.ConsumeOk = Some kind.Consume
kind_answered broker.CancelOk = Some kind.Cancel
kind_answered broker.GetOk = Some kind.Get
kind_answered _ = None

-- both are of one kind
abbrev pub are_same : Option RequestKind → Option RequestKind → Bool
are_same (Some a) (Some b) = same_kind a b
are_same _ _ = false

-- What was done in an opening before a reply was sent: a request of the reply's kind was read, after as many requests as replies were
-- sent before this one.
pub record IsAnswer (before : List Deed) (reply : Frame) : Type 0 where
  pub request : Left
  pub was_read : at_place (suc (length (replies_in before))) (requests_in before) ≡ Some request
  pub kind : are_same (kind_asked (client_frame request.frame)) (kind_answered (broker_frame reply)) ≡ true

-- ---- opens

-- the frame is `channel.open-ok` (AMQP 0-9-1, channel class)
abbrev pub is_open_ok : Frame → Bool
is_open_ok (frame.Method c (method.Channel channel.OpenOk)) = true
is_open_ok _ = false
