-- The open requests of each channel, and which one a reply takes (AMQP 0-9-1: replies come in the order of the requests of
-- their channel).
use Rattle.std.specs.Prelude.{ℕ, Bool, List, [], ◌∷◌, ◌++◌, Option, Some, None, find, Result}
use Rattle.lapin_tables.specs.ByChannel.{at_channel}
use Rattle.lapin_types.specs.declared.request.Request.{Request}
use Rattle.lapin_types.specs.declared.request.ReplyKind.{ReplyKind}
use Rattle.lapin_types.specs.declared.answer.Answer.{Answer}
use Rattle.lapin_types.specs.Types.{Error}
use Rattle.lapin_types.specs.Requests.{kind_of}
use Rattle.lapin_types.specs.contracts.request.ReplyKindPartialEq.TheImpl as it
use Rattle.lapin_types.specs.declared.request.ReplyKind.TheVariants as reply_kind
use Rattle.lapin_rules.specs.TicketReadings.{TicketMark}
use Rattle.lapin_rules.specs.TicketReadings as ticket
use Rattle.lapin_rules.specs.Words.{without_first, with_channel}

-- the open requests of a channel's entry, none where it has no entry
abbrev pub requests_in : Option (List Request) → List Request
requests_in None = []
requests_in (Some rs) = rs

-- the two are replies of one kind
abbrev pub same_kind : ReplyKind → ReplyKind → Bool
same_kind a b = it.ghosts.eq a b

-- the request awaits a reply of this kind
abbrev pub is_kind : ReplyKind → Request → Bool
is_kind k r = same_kind (kind_of r.reply) k

-- the oldest open request of its kind, and what stays
abbrev pub first_request : ReplyKind → List Request → Option Request
first_request k rs = find (is_kind k) rs

-- without the oldest of a kind, if there is one
abbrev pub without_kind : ReplyKind → List Request → List Request
without_kind k rs = without_first (is_kind k) rs

-- none of these requests stays open
abbrev pub no_requests : List Request → List Request
no_requests rs = []

-- the request alone, if there is one
abbrev pub request_alone : Option Request → List Request
request_alone None = []
request_alone (Some r) = r ∷ []

-- the request of a close of this side alone, if there is one
abbrev pub close_alone : List Request → List Request
close_alone rs = request_alone (first_request reply_kind.ChannelCloseOk rs)

-- the ticket of a request, if there is a request and somebody holds its ticket
abbrev pub ticket_of : Option Request → Option ℕ
ticket_of None = None
ticket_of (Some r) = r.ticket

-- one more request is open on channel c, behind its others
abbrev pub with_request : ℕ → Request → List (ℕ × List Request) → List (ℕ × List Request)
with_request c r all = with_channel c (requests_in (at_channel c all) ++ r ∷ []) all

-- the oldest open request of this kind on channel c is open no more, if there is one
abbrev pub without_request : ℕ → ReplyKind → List (ℕ × List Request) → List (ℕ × List Request)
without_request c k all = with_channel c (without_first (is_kind k) (requests_in (at_channel c all))) all

-- a ticket is answered, if somebody holds it
abbrev pub resolved_with : Result Answer Error → Option ℕ → List TicketMark
resolved_with a None = []
resolved_with a (Some n) = ticket.Answered n a ∷ []
