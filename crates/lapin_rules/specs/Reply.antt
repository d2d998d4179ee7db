-- A reply of the broker: it answers the oldest open request of its kind on its channel, whether or not the request's frame has
-- left (AMQP 0-9-1: replies come in the order of the requests of their channel).
use Rattle.std.specs.Prelude.{ℕ, Bool, ◌&&◌, if◌then◌else◌, List, Option, Ok}
use Rattle.lapin_types.specs.declared.answer.Answer.{Answer}
use Rattle.lapin_types.specs.declared.request.Request.{Request}
use Rattle.lapin_types.specs.declared.request.ReplyKind.{ReplyKind}
use Rattle.lapin_types.specs.Types.{ChannelState}
use Rattle.lapin_rules.specs.TicketReadings.{TicketMark}
use Rattle.lapin_rules.specs.Words.{is_some}
use Rattle.lapin_rules.specs.Requests.{first_request, without_request, ticket_of, resolved_with}
use Rattle.lapin_rules.specs.Wire.{Wire, state_of, requests_of, is_opening, receives_on}
use Rattle.lapin_rules.specs.Opening.{opens, phases_with}

-- the state in which a reply is received
abbrev pub receives : ReplyKind → ChannelState → Bool
receives k s = if opens k then is_opening s else receives_on s

-- it is received in its state where a request of its kind is open
abbrev pub receives_reply : ℕ → ReplyKind → Wire → Bool
receives_reply c k b = receives k (state_of c b) && is_some (first_request k (requests_of c b))

-- it takes the request; `channel.open-ok` opens the channel
abbrev pub after_reply : ℕ → ReplyKind → Wire → Wire
after_reply c k b = record b { phases = phases_with c k b.phases; requests = without_request c k b.requests }

-- it answers the request's ticket, if somebody holds it, with its own data
abbrev pub reply_marks : Answer → Option Request → List TicketMark
reply_marks a r = resolved_with (Ok a) (ticket_of r)

-- the ticket of the oldest open request of the kind on channel c gets the answer, if somebody holds it
abbrev pub reply_tickets : ℕ → ReplyKind → Answer → Wire → List TicketMark
reply_tickets c k a b = reply_marks a (first_request k (requests_of c b))
