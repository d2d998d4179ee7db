-- What becomes of a call, read off the items that the collecting of replies heard once it was asked.
use Rattle.std.specs.Prelude.{ℕ, ◌+◌, ◌==◌, Bool, false, if◌then◌else◌, List, [], ◌∷◌, Option, Some, None, Result, Ok, Err}
use Rattle.lapin_types.specs.Types.{Error}
use Rattle.lapin_types.specs.declared.message.Delivery.{Delivery}
use Rattle.lapin_call.specs.Fates.{named_by, match_in, counted, after_delivery, after_error}
use Rattle.lapin_call.specs.declared.fates.Fate.{Fate}
use Rattle.lapin_call.specs.declared.fates.Fate.TheVariants as fate
use Rattle.lapin_call.specs.declared.fates.Tally.{Tally}

-- what the consumer of the replies gave: a delivery, or the error that ended its channel
abbrev pub Item : Type 0
Item = Result Delivery Error

-- the number is n
abbrev pub is_number : ℕ → Option ℕ → Bool
is_number n None = false
is_number n (Some m) = m == n

-- what becomes of call n, which waits, by the items that come: the first delivery with its id answers it, the first error ends it
abbrev pub outcome : ℕ → List Item → Fate
outcome n [] = fate.Waiting
outcome n (Ok d ∷ items) = if is_number n (named_by d) then fate.Answered d.payload else outcome n items
outcome n (Err e ∷ items) = fate.Ended e

-- the calls after these items
abbrev pub after_items : List Item → List Fate → List Fate
after_items [] fates = fates
after_items (Ok d ∷ items) fates = after_items items (after_delivery d fates)
after_items (Err e ∷ items) fates = after_items items (after_error e fates)

-- what is counted of these items
abbrev pub counted_items : List Item → List Fate → Tally → Tally
counted_items [] fates t = t
counted_items (Ok d ∷ items) fates t = counted_items items (after_delivery d fates) (counted (match_in d fates) t)
counted_items (Err e ∷ items) fates t = counted_items items (after_error e fates) t

-- all that was counted
abbrev pub sum_of : Tally → ℕ
sum_of t = t.answers + t.repeats + t.strangers

-- how many of the items are deliveries
abbrev pub deliveries : List Item → ℕ
deliveries [] = 0
deliveries (Ok d ∷ items) = 1 + deliveries items
deliveries (Err e ∷ items) = deliveries items
