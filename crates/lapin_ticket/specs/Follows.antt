-- When the slots are what the marks of a history say.
use Rattle.std.specs.Prelude.{◌≡◌, ℕ, suc, ◌<◌, ◌≤◌, Bool, false, if◌then◌else◌, List, Option, Some, None, Result, length, slice_get}
use Rattle.std.specs.List.{list_any}
use Rattle.lapin_types.specs.declared.answer.Answer.{Answer}
use Rattle.lapin_types.specs.Types.{Error}
use Rattle.lapin_rules.specs.declared.marks.AtLeaving.{AtLeaving}
use Rattle.lapin_rules.specs.TicketReadings.{TicketMark, given, channel_of, leaving_of, life, begins, first_answer, closes}
use Rattle.lapin_ticket.specs.declared.Slot.{Slot}
use Rattle.lapin_ticket.specs.declared.Slot.TheVariants as slot

-- the slot of a ticket of channel c that is still kept: open, or with the answer that it has by now
abbrev pub held : ℕ → AtLeaving → Bool → Option (Result Answer Error) → Slot
held c l b None = slot.Open c l b
held c l b (Some a) = slot.Held a

-- the slot of ticket n of channel c, by the marks after it was given
abbrev pub slot_in : ℕ → ℕ → AtLeaving → List TicketMark → Option Slot
slot_in n c l later = if list_any (closes n) later then None else Some (held c l (list_any (begins n) later) (first_answer n c l false later))

-- the slot of ticket n, by the readings; none where its answer was given or it was set aside
abbrev pub slot_of : ℕ → List TicketMark → Option Slot
slot_of n ms = slot_in n (channel_of n ms) (leaving_of n ms) (life n ms)

-- each ticket that was given has its slot, and it is the one that the readings give
pub record Follows (ms : List TicketMark) (slots : List (Option Slot)) : Type 0 where
  pub count : length slots ≡ given ms
  pub slot : (k : ℕ) → k < given ms → slice_get slots k ≡ Some (slot_of (suc k) ms)

-- the ticket was given
abbrev pub WasGiven : ℕ → List TicketMark → Type 0
WasGiven n ms = (1 ≤ n) × (n ≤ given ms)
