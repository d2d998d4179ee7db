-- What channels declare and bind (AMQP 0-9-1, classes exchange and queue): which request gets its answer, and when. What a request
-- records as it gets its answer stands in `lapin_registry`.
use Rattle.std.specs.Prelude.{ℕ, List, [], ◌∷◌, Option, Some, None}
use Rattle.lapin_types.specs.declared.answer.Answer.{Answer}
use Rattle.lapin_types.specs.declared.request.Request.{Request}
use Rattle.lapin_types.specs.declared.request.ReplyKind.{ReplyKind}
use Rattle.lapin_types.specs.Types.{Method}
use Rattle.lapin_types.specs.Types.method
use Rattle.lapin_delivery.specs.Marks.{DeliveryMark}
use Rattle.lapin_delivery.specs.Marks as deliveries
use Rattle.lapin_rules.specs.declared.calls.Answered.{Answered}
use Rattle.lapin_rules.specs.declared.calls.Answered.TheVariants as answered
use Rattle.lapin_rules.specs.Requests.{first_request}
use Rattle.lapin_rules.specs.Wire.{Wire, requests_of}
use Rattle.lapin_rules.specs.Consumers.{called_deliveries}

-- ---- calls

-- a call without wait gets its answer as it is made
abbrev pub at_once_deliveries : ℕ → Answered → List DeliveryMark
at_once_deliveries c (answered.AtOnce r a) = deliveries.Completed c r a ∷ []
at_once_deliveries c _ = []

-- what a line of the table says: of the class basic of consumers, of every other class of what is declared
abbrev pub line_deliveries : ℕ → Method → Answered → List DeliveryMark
line_deliveries c (method.Basic m) a = called_deliveries c m
line_deliveries c _ a = at_once_deliveries c a

-- ---- the broker's replies: the oldest open request of the kind gets its answer

-- this request of channel c gets this answer, if there is such a request
abbrev pub request_deliveries : ℕ → Answer → Option Request → List DeliveryMark
request_deliveries c a None = []
request_deliveries c a (Some r) = deliveries.Completed c r.reply a ∷ []

-- a reply of this kind came with this answer: the oldest open request of the kind on channel c gets it
abbrev pub reply_deliveries : ℕ → ReplyKind → Answer → Wire → List DeliveryMark
reply_deliveries c k a b = request_deliveries c a (first_request k (requests_of c b))
