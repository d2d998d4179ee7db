-- The end of an opening: what it leaves, and what it does to confirms and tickets. When an opening ends, and with which error,
-- stands with the rule that ends it.
use Rattle.std.specs.Prelude.{ℕ, zero, suc, max, if◌then◌else◌, List, [], ◌∷◌, ◌++◌, Option, Some, None, Ok}
use Rattle.std.specs.List.{filter}
use Rattle.lapin_tables.specs.ByChannel.{at_channel, on_channel}
use Rattle.lapin_types.specs.declared.request.Request.{Request}
use Rattle.lapin_types.specs.declared.answer.Answer.TheVariants as answer
use Rattle.lapin_types.specs.declared.request.ReplyKind.TheVariants as reply_kind
use Rattle.lapin_types.specs.Types.{Error}
use Rattle.lapin_delivery.specs.Marks.{DeliveryMark}
use Rattle.lapin_delivery.specs.Marks as deliveries
use Rattle.lapin_content.specs.Channels.{after_mark}
use Rattle.lapin_content.specs.Marks as content
use Rattle.lapin_rules.specs.declared.phases.ChannelPhase.{ChannelPhase}
use Rattle.lapin_rules.specs.declared.phases.ConnectionPhase.{ConnectionPhase}
use Rattle.lapin_rules.specs.ConfirmMarks.{ConfirmMark}
use Rattle.lapin_rules.specs.ConfirmMarks as mark
use Rattle.lapin_rules.specs.TicketReadings.{TicketMark}
use Rattle.lapin_rules.specs.TicketReadings as ticket
use Rattle.lapin_rules.specs.Words.{with_channel}
use Rattle.lapin_rules.specs.Drops.{no_lists, without_channel}
use Rattle.lapin_rules.specs.Phases.{is_live, phase_in}
use Rattle.lapin_rules.specs.Requests.{is_kind, requests_in, resolved_with}
use Rattle.lapin_rules.specs.Wire.{Wire, lists_of, with_lists}

-- ---- what an end leaves

-- The opening of a channel ends: nothing of the channel leaves any more, none of its requests stays open but those that are kept,
-- and none of its contents is expected.
abbrev pub ended : ℕ → ChannelPhase → (List Request → List Request) → Wire → Wire
ended c p kept b = record (with_lists (without_channel c (lists_of b)) b) {
  phases = with_channel c p b.phases;
  requests = on_channel c kept b.requests;
  contents = after_mark b.contents (content.Dropped c);
}

-- The connection leaves the open state, or is lost: no opening is live, nothing waits any more, no request is open, and no content is
-- expected.
abbrev pub down : ConnectionPhase → Wire → Wire
down l b = record (with_lists no_lists b) { link = l; phases = []; requests = []; contents = [] }

-- ---- confirms

-- one above the greatest number of a channel that was opened
abbrev pub beyond : List (ℕ × ChannelPhase) → ℕ
beyond [] = 0
beyond (x ∷ xs) = max (suc x.0) (beyond xs)

-- the channels below n that have a live opening, in rising number
abbrev pub live_below : ℕ → List (ℕ × ChannelPhase) → List ℕ
live_below zero all = []
live_below (suc c) all = live_below c all ++ (if is_live (phase_in (at_channel c all)) then c ∷ [] else [])

-- the channels that have a live opening, in rising number
abbrev pub live_channels : List (ℕ × ChannelPhase) → List ℕ
live_channels all = live_below (beyond all) all

-- the openings of these channels end, one after another
abbrev pub ends : Error → List ℕ → List ConfirmMark
ends e [] = []
ends e (c ∷ cs) = mark.Ended c e ∷ ends e cs

-- each live opening ends, in rising number of its channel; once the connection is not open none is live
abbrev pub ends_all : Error → Wire → List ConfirmMark
ends_all e b = ends e (live_channels b.phases)

-- the opening ends, if there is an error with which it does
abbrev pub end_with : ℕ → Option Error → List ConfirmMark
end_with c None = []
end_with c (Some e) = mark.Ended c e ∷ []

-- ---- consumers: each registered one of the channel gets the error and its end, and the ackers of the opening are over

-- the opening ends for the consumers and ackers of the channel, if there is an error with which it does
abbrev pub deliveries_end_with : ℕ → Option Error → List DeliveryMark
deliveries_end_with c None = []
deliveries_end_with c (Some e) = deliveries.Ended c (Some e) ∷ []

-- the openings of these channels end, one after another
abbrev pub deliveries_ends : Error → List ℕ → List DeliveryMark
deliveries_ends e [] = []
deliveries_ends e (c ∷ cs) = deliveries.Ended c (Some e) ∷ deliveries_ends e cs

-- each live opening ends for its consumers and ackers, in rising number of its channel
abbrev pub deliveries_ends_all : Error → Wire → List DeliveryMark
deliveries_ends_all e b = deliveries_ends e (live_channels b.phases)

-- ---- tickets

-- an open `basic.cancel` is done: with its opening the consumer is gone
abbrev pub done_with : List Request → List TicketMark
done_with [] = []
done_with (r ∷ rs) = resolved_with (Ok answer.Done) r.ticket ++ done_with rs

-- every open `basic.cancel` among these requests is done
abbrev pub cancels_in : List Request → List TicketMark
cancels_in rs = done_with (filter (is_kind reply_kind.BasicCancelOk) rs)

-- every open `basic.cancel` of channel c is done, where these are the open requests of each channel
abbrev pub cancels_at : ℕ → List (ℕ × List Request) → List TicketMark
cancels_at c all = cancels_in (requests_in (at_channel c all))

-- every open `basic.cancel` of channel c is done, as the opening of its channel ends
abbrev pub cancels_done : ℕ → Wire → List TicketMark
cancels_done c b = cancels_at c b.requests

-- those of these channels, one after another
abbrev pub cancels_on : List ℕ → List (ℕ × List Request) → List TicketMark
cancels_on [] all = []
cancels_on (c ∷ cs) all = cancels_at c all ++ cancels_on cs all

-- every open ticket of the channel fails, if there is an error with which its opening ends
abbrev pub end_tickets : ℕ → Option Error → Wire → List TicketMark
end_tickets c None b = []
end_tickets c (Some e) b = cancels_done c b ++ ticket.OpeningFailed c None e ∷ []

-- every open ticket fails
abbrev pub all_failed : Error → Wire → List TicketMark
all_failed e b = cancels_on (live_channels b.phases) b.requests ++ ticket.AllFailed e ∷ []
