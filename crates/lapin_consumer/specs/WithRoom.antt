-- What contracts see of consumers: the subscriptions, and beside it the room.
use Rattle.std.specs.Prelude.{◌≡◌, ◌≢◌, ℕ, zero, suc, ◌+◌, ◌≤◌, ◌*◌, Bool, true, List, Option, Some, None, length, map, slice_get}
use Rattle.std.specs.List.{count_by}
use Rattle.lapin_consumer.specs.Subscriptions.{Consumer, Subscriptions}

-- for how many more items of a consumer there is room, and whether what it is handed next has room that was promised
pub record Reserved : Type 0 where
  pub items : ℕ
  pub promised : Bool

-- the subscriptions; the room of each consumer; and for how many more jobs there is room
pub record WithRoom : Type 0 where
  pub subscriptions : Subscriptions
  pub rooms : List Reserved
  pub spare : ℕ

-- to which consumers room was promised
abbrev pub promises : WithRoom → List Bool
promises k = map (λ r. r.promised) k.rooms

-- whether room was promised to the consumer of this number; None where no consumer has the number
abbrev pub promised_at : ℕ → List Bool → Option Bool
promised_at zero bs = None
promised_at (suc p) bs = slice_get bs p

-- room was promised; there is nothing to promise where no consumer has the number
abbrev pub IsPromised : Option Bool → Type 0
IsPromised None = Unit {0}
IsPromised (Some b) = b ≡ true

-- what the consumer is handed next has room, as an item and as a job, whatever is handed to others before
abbrev pub HasRoom : ℕ → WithRoom → Type 0
HasRoom n k = IsPromised (promised_at n (promises k))

-- the room that was promised to each consumer is there still
abbrev pub KeepsRoom : WithRoom → WithRoom → Type 0
KeepsRoom old new = (n : ℕ) → HasRoom n old → HasRoom n new

-- the same of every consumer but this one
abbrev pub KeepsOthers : Option ℕ → WithRoom → WithRoom → Type 0
KeepsOthers o old new = (n : ℕ) → Some n ≢ o → HasRoom n old → HasRoom n new

-- the consumer is registered
abbrev pub is_registered_one : Consumer → Bool
is_registered_one x = x.registered

-- an error and an end of every registered consumer have room, as items and as jobs, beside what is promised
pub record HasEnds (k : WithRoom) : Type 0 where
  pub items : (p : ℕ) (r : Reserved) (x : Consumer) → slice_get k.subscriptions.consumers p ≡ Some x → slice_get k.rooms p ≡ Some r → x.registered ≡ true → 3 ≤ r.items
  pub jobs : length k.subscriptions.consumers + 2 * count_by is_registered_one k.subscriptions.consumers ≤ k.spare
