-- What a contract sees of the tickets, and the room for the next.
use Rattle.std.specs.Prelude.{ℕ, ◌<◌, List, Option, Some, None, refl}
use Rattle.std.specs.Coded.{Coded, code_by, coded×, coded_ℕ, coded_list, coded_option}
use Rattle.lapin_ticket.specs.declared.Slot.{Slot}
use Rattle.lapin_ticket.specs.contracts.Slot as slot_row

-- the slots in order of their numbers, and the channel for whose next ticket there is room
pub record Issued : Type 0 where
  pub slots : List (Option Slot)
  pub ready : Option ℕ

-- it is stored as the pair of its fields
abbrev pub issued_code : Coded Issued
issued_code = code_by (List (Option Slot) × Option ℕ) (coded× (coded_list (coded_option slot_row.the_row.coded)) (coded_option coded_ℕ)) (λ i. (i.slots, i.ready)) (λ p. record { slots = p.0; ready = p.1 }) (λ _. refl)

-- where there is room for a ticket, there is room for its slot
abbrev pub HasSlot : Option ℕ → ℕ → Type 0
HasSlot None spare = Unit {0}
HasSlot (Some c) spare = 0 < spare
