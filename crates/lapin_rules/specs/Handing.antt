-- A frame request: the frame that leaves is its record, and what its leaving does to lists, states, confirms and tickets.
use Rattle.std.specs.Prelude.{ℕ, ◌==◌, Bool, true, false, List, [], ◌∷◌, ◌++◌, Option, Some, None}
use Rattle.lapin_types.specs.declared.leaving.Left.{Left}
use Rattle.lapin_types.specs.declared.record.Record.{Record}
use Rattle.lapin_types.specs.Types.{Frame}
use Rattle.lapin_types.specs.declared.record.Record.TheVariants as record_
use Rattle.lapin_types.specs.Types.frame
use Rattle.lapin_rules.specs.ConfirmMarks.{ConfirmMark}
use Rattle.lapin_rules.specs.ConfirmMarks as mark
use Rattle.lapin_rules.specs.TicketReadings.{TicketMark}
use Rattle.lapin_rules.specs.TicketReadings as ticket
use Rattle.lapin_rules.specs.Drops.{frame_channel}
use Rattle.lapin_rules.specs.Leaving.{handed_of, left_lists}
use Rattle.lapin_rules.specs.Wire.{Wire, lists_of, with_lists}
use Rattle.lapin_rules.specs.ChannelClose.{phases_sent}
use Rattle.lapin_rules.specs.ConnectionClose.{link_sent}
use Rattle.lapin_rules.specs.Flow.{begins_on}
use Rattle.lapin_rules.specs.Select.{method_marks}

-- what leaves, where t tells on which channels a publish may begin
abbrev pub handed_out : (ℕ → Bool) → Wire → Option Left
handed_out t b = handed_of t b.rest b.methods b.publishes

-- what a frame request hands out, where full tells the full channels
abbrev pub handed : Bool → (ℕ → Bool) → Wire → Option Left
handed flow full b = handed_out (begins_on flow full b) b

-- the record of a frame request: the frame that leaves, or that there is none
abbrev pub frame_record : Option Left → Record
frame_record None = record_.NoFrame
frame_record (Some l) = record_.Frame l.frame

-- ---- what it leaves: the record tells on which channel a publish began, if one did, and there it was the first

-- whether channel c is that of the frame in the record: there alone a publish can have begun by this request
abbrev pub began_on : Record → ℕ → Bool
began_on (record_.Frame f) c = c == frame_channel f
began_on _ c = false

-- the frame that left by a request with this record, with the numbers of its call
abbrev pub handed_as : Record → Wire → Option Left
handed_as r b = handed_out (began_on r) b

-- a close of this side is known to have left
abbrev pub sent : Option Left → Wire → Wire
sent None b = b
sent (Some l) b = record b { link = link_sent l.frame b.link; phases = phases_sent l.frame b.phases }

-- what a frame request leaves of states and lists, where t tells on which channels a publish may begin
abbrev pub after_handing : (ℕ → Bool) → Wire → Wire
after_handing t b = sent (handed_out t b) (with_lists (left_lists b.frame_max t (lists_of b)) b)

-- what the frame request with this record leaves of states and lists
abbrev pub after_next : Record → Wire → Wire
after_next r b = after_handing (began_on r) b

-- ---- confirms: a method leaves, a publish begins, or a frame behind its method leaves

-- a frame that is of no publish leaves: one of `confirm.select` is told, every other says nothing of confirms
abbrev pub frame_marks : Frame → List ConfirmMark
frame_marks (frame.Method c m) = method_marks c m
frame_marks _ = []

-- a frame leaves, of the publish with this number or of none: of a publish its first frame alone, the method, is told
abbrev pub entry_marks : Frame → Option ℕ → Bool → List ConfirmMark
entry_marks f None first = frame_marks f
entry_marks f (Some n) true = mark.Left (frame_channel f) n ∷ []
entry_marks f (Some n) false = []

-- what happens to confirms as this frame leaves, if one does
abbrev pub left_marks : Option Left → List ConfirmMark
left_marks None = []
left_marks (Some l) = entry_marks l.frame l.publish l.first

-- ---- tickets: the first frame of a publish leaves, or the last one of a call

-- a frame leaves, the first of its call or not: where it is the first of a publish, the publish of this ticket has begun
abbrev pub begun_ticket : Bool → Option ℕ → Option ℕ → List TicketMark
begun_ticket true (Some t) (Some n) = ticket.Begun t ∷ []
begun_ticket _ _ _ = []

-- a frame leaves, the last of its call or not: where it is the last, the call of this ticket has left whole, if it has a ticket
abbrev pub last_ticket : Bool → Option ℕ → List TicketMark
last_ticket true (Some t) = ticket.LastLeft t ∷ []
last_ticket _ _ = []

-- what happens to tickets as this frame leaves, if one does
abbrev pub left_tickets : Option Left → List TicketMark
left_tickets None = []
left_tickets (Some l) = begun_ticket l.first l.ticket l.publish ++ last_ticket l.last l.ticket
