-- Tickets as a machine: what each mark does to the slots, and what a poll meets.
use Rattle.std.specs.Prelude.{ℕ, ◌==◌, nat_lt, nat_le, Bool, true, false, not, ◌&&◌, if◌then◌else◌, List, [], ◌∷◌, ◌++◌, length, map, Option, Some, None, Result, Ok, Err}
use Rattle.lapin_types.specs.declared.answer.Answer.{Answer}
use Rattle.lapin_types.specs.Types.{Error}
use Rattle.lapin_types.specs.Types.error
use Rattle.lapin_tables.specs.Numbered.{under, with_under}
use Rattle.lapin_rules.specs.TicketReadings.{TicketMark, is_publish, answer_at}
use Rattle.lapin_rules.specs.TicketReadings as mark
use Rattle.lapin_ticket.specs.declared.Slot.{Slot}
use Rattle.lapin_ticket.specs.declared.Slot.TheVariants as slot

-- an open ticket holds the answer from now on; another stays as it is
abbrev pub answered_slot : Result Answer Error → Option Slot → Option Slot
answered_slot a (Some (slot.Open c l b)) = Some (slot.Held a)
answered_slot a o = o

-- the method frame of a publish leaves
abbrev pub begun_slot : Option Slot → Option Slot
begun_slot (Some (slot.Open c l b)) = Some (slot.Open c l true)
begun_slot o = o

-- the last frame leaves: an open ticket holds the answer that this gives, if it gives one
abbrev pub held_or : Slot → Option Answer → Slot
held_or s None = s
held_or s (Some a) = slot.Held (Ok a)

-- the last frame of a ticket's call leaves: an open one holds the answer that is given then, if any; another stays as it is
abbrev pub left_slot : Option Slot → Option Slot
left_slot (Some (slot.Open c l b)) = Some (held_or (slot.Open c l b) (answer_at l))
left_slot o = o

-- a close of this side: an open ticket of a publish of the channel that has not begun fails
abbrev pub closed_slot : ℕ → Error → Option Slot → Option Slot
closed_slot d e (Some (slot.Open c l b)) = if d == c && (is_publish l && not b) then Some (slot.Held (Err e)) else Some (slot.Open c l b)
closed_slot d e o = o

-- an open ticket of a publish of the channel that has not begun
abbrev pub rejects : ℕ → Option Slot → Bool
rejects d (Some (slot.Open c l b)) = d == c && (is_publish l && not b)
rejects d o = false

-- the end of an opening: an open ticket of the channel fails
abbrev pub failed_slot : ℕ → Error → Option Slot → Option Slot
failed_slot d e (Some (slot.Open c l b)) = if d == c then Some (slot.Held (Err e)) else Some (slot.Open c l b)
failed_slot d e o = o

-- but for one that is kept
abbrev pub keeping : Option ℕ → List (Option Slot) → List (Option Slot) → List (Option Slot)
keeping None old new = new
keeping (Some n) old new = with_under n (under n old) new

-- the opening of channel c ends: its open tickets fail with this error, but for the spared one
abbrev pub failed : ℕ → Option ℕ → Error → List (Option Slot) → List (Option Slot)
failed c spared e slots = keeping spared slots (map (failed_slot c e) slots)

-- the slots after a mark: one more that is open, one or some of them answered, or one given out or let go
abbrev pub after_mark : List (Option Slot) → TicketMark → List (Option Slot)
after_mark slots (mark.Given c l) = slots ++ Some (slot.Open c l false) ∷ []
after_mark slots (mark.Begun n) = with_under n (begun_slot (under n slots)) slots
after_mark slots (mark.LastLeft n) = with_under n (left_slot (under n slots)) slots
after_mark slots (mark.Answered n a) = with_under n (answered_slot a (under n slots)) slots
after_mark slots (mark.ClosedHere c e) = map (closed_slot c e) slots
after_mark slots (mark.OpeningFailed c spared e) = failed c spared e slots
after_mark slots (mark.AllFailed e) = map (answered_slot (Err e)) slots
after_mark slots (mark.Collected n) = with_under n None slots
after_mark slots (mark.SetAside n) = with_under n None slots

-- whether the ticket was given
abbrev pub is_given : ℕ → List (Option Slot) → Bool
is_given n slots = nat_lt 0 n && nat_le n (length slots)

-- the ticket is open: it has no answer yet
abbrev pub is_awaited : Option Slot → Bool
is_awaited (Some (slot.Open c l b)) = true
is_awaited o = false

-- the ticket has its answer, which was not given out yet
abbrev pub is_held : Option Slot → Bool
is_held (Some (slot.Held a)) = true
is_held o = false

-- an open ticket of the channel
abbrev pub is_open_on : ℕ → Option Slot → Bool
is_open_on d (Some (slot.Open c l b)) = d == c
is_open_on d o = false

-- what a poll of a ticket that was given answers
abbrev pub polled_slot : Option Slot → Result (Option (Result Answer Error)) Error
polled_slot None = Err error.AlreadyTaken
polled_slot (Some (slot.Open c l b)) = Ok None
polled_slot (Some (slot.Held a)) = Ok (Some a)

-- what a poll of ticket n answers; a number that was never given is refused as `UnknownTicket`
abbrev pub polled : ℕ → List (Option Slot) → Result (Option (Result Answer Error)) Error
polled n slots = if is_given n slots then polled_slot (under n slots) else Err error.UnknownTicket

-- a poll that gives the answer takes it
abbrev pub after_poll : ℕ → List (Option Slot) → List (Option Slot)
after_poll n slots = if is_held (under n slots) then after_mark slots (mark.Collected n) else slots

-- setting a ticket aside is refused as a poll is, where its answer was given or it was never given
abbrev pub laid_slot : Option Slot → Result (Unit {0}) Error
laid_slot None = Err error.AlreadyTaken
laid_slot (Some s) = Ok tt

-- what setting ticket n aside answers; a number that was never given is refused as `UnknownTicket`
abbrev pub laid : ℕ → List (Option Slot) → Result (Unit {0}) Error
laid n slots = if is_given n slots then laid_slot (under n slots) else Err error.UnknownTicket
