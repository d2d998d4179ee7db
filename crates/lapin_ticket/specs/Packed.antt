-- How answers stand that nobody asked for in a while: a byte each. No public clause cites this module.
use Rattle.std.specs.Prelude.{◌≡◌, ℕ, suc, ◌+◌, ◌-◌, ◌*◌, ◌/◌, ◌%◌, ◌^◌, ◌==◌, ◌<◌, ◌≤◌, if◌then◌else◌, List, [], ◌∷◌, length, Option, Some, None, Result, Ok, slice_index_or, slice_set}
use Rattle.lapin_types.specs.declared.answer.Answer.{Answer}
use Rattle.lapin_types.specs.declared.answer.Answer.TheVariants as answer
use Rattle.lapin_types.specs.Types.{Error}
use Rattle.lapin_tables.specs.Numbered.{under}
use Rattle.lapin_ticket.specs.declared.Slot.{Slot}
use Rattle.lapin_ticket.specs.declared.Slot.TheVariants as slot
use Rattle.lapin_ticket.specs.declared.packed.Block.{Block}

-- the answer that a byte stands for, in a block whose confirms are counted from this one
abbrev pub read_mark : ℕ → ℕ → Option (Result Answer Error)
read_mark first m =
    if m == 0 then None else
    if m == 1 then Some (Ok answer.Done) else
    if m == 2 then Some (Ok answer.Yes) else
    Some (Ok (answer.Confirm ((first + (m - 3)) % 2 ^ 64)))

-- the answer at a place of a block
abbrev pub packed_in : ℕ → Option Block → Option (Result Answer Error)
packed_in p None = None
packed_in p (Some b) = read_mark b.first (slice_index_or b.marks p 0)

-- the answer of a ticket, where it stands in its block
abbrev pub packed_at : ℕ → List (Option Block) → Option (Result Answer Error)
packed_at n bs = if n == 0 then None else packed_in ((n - 1) % 64) (under (suc ((n - 1) / 64)) bs)

-- a block with another byte at a place
abbrev pub with_mark : ℕ → ℕ → Option Block → Option Block
with_mark p m None = None
with_mark p m (Some b) = Some (record b { marks = slice_set b.marks p m })

-- no answer stands in the block
abbrev pub IsEmpty : List ℕ → Type 0
IsEmpty marks = (p : ℕ) → slice_index_or marks p 0 ≡ 0

-- a ticket's slot, beside the answer that stands in its block
abbrev pub or_slot : Option (Result Answer Error) → Option Slot → Option Slot
or_slot None o = o
or_slot (Some a) o = Some (slot.Held a)

-- the slots of the tickets behind the first i
abbrev pub shown : ℕ → List (Option Block) → List (Option Slot) → List (Option Slot)
shown i bs [] = []
shown i bs (o ∷ os) = or_slot (packed_at (suc i) bs) o ∷ shown (suc i) bs os

-- a ticket whose answer stands in a block has no slot, and blocks are of tickets that were given
pub record IsPacked (bs : List (Option Block)) (xs : List (Option Slot)) : Type 0 where
  pub apart : (n : ℕ) (a : Result Answer Error) → packed_at n bs ≡ Some a → under n xs ≡ None
  pub covers : 64 * length bs ≤ length xs

-- the mark stands for the answer in the block of the ticket, which is there and has a place for it
abbrev pub IsMarkFor : ℕ → Result Answer Error → ℕ → List (Option Block) → Type 0
IsMarkFor m a n bs = (b : Block) × ((under (suc ((n - 1) / 64)) bs ≡ Some b) × (((n - 1) % 64 < length b.marks) × (read_mark b.first m ≡ Some a)))

-- a block is there, and no answer stands in it
abbrev pub IsSpent : Option Block → Type 0
IsSpent None = ⊥
IsSpent (Some b) = IsEmpty b.marks

-- the answer that a slot holds
abbrev pub held_in : Option Slot → Option (Result Answer Error)
held_in (Some (slot.Held a)) = Some a
held_in o = None
