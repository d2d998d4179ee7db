-- In which opening of its channel a consumer was registered, and what happened to consumers in that opening (AMQP 0-9-1, class channel,
-- `open`; class basic, `consume`). All of it is counted in what a session's history says of consumers and channels, oldest first.
use Rattle.std.specs.Prelude.{ℕ, zero, suc, ◌==◌, ◌&&◌, Bool, true, false, if◌then◌else◌, List, [], ◌∷◌}
use Rattle.lapin_rules.specs.Words.{many, after_nth}
use Rattle.lapin_broker.specs.Tags.{same_text}
use Rattle.lapin_delivery.specs.Marks.{DeliveryMark}
use Rattle.lapin_delivery.specs.Marks as mark
use Rattle.lapin_verdicts.specs.Deeds.{until}

-- ---- which mark is it

-- an opening of channel c begins: its call `channel.open` was accepted
abbrev pub begins : ℕ → DeliveryMark → Bool
begins c (mark.Opened d) = d == c
begins c _ = false

-- a consumer is registered, by consume-ok or by the call without wait; it takes the next number
abbrev pub registers : DeliveryMark → Bool
registers (mark.Consumed d u q) = true
registers _ = false

-- one is registered on channel c under this tag
abbrev pub registers_as : ℕ → List ℕ → DeliveryMark → Bool
registers_as c t (mark.Consumed d u q) = (d == c) && same_text u t
registers_as c t _ = false

-- what the consumers of channel c were handed before is void
abbrev pub discards : ℕ → DeliveryMark → Bool
discards c (mark.Discarded d) = d == c
discards c _ = false

-- ---- before the n-th

-- what stands before the element that passes after so many that do; all where there is no such element
abbrev pub all_before : {X : Type 0} → (X → Bool) → ℕ → List X → List X
all_before p k [] = []
all_before p zero (x ∷ xs) = if p x then [] else x ∷ all_before p zero xs
all_before p (suc k) (x ∷ xs) = x ∷ (if p x then all_before p k xs else all_before p (suc k) xs)

-- what stands before the n-th element that passes, counted from 1
abbrev pub before_nth : {X : Type 0} → (X → Bool) → ℕ → List X → List X
before_nth p zero xs = []
before_nth p (suc k) xs = all_before p k xs

-- ---- openings

-- consumer n, which is of channel c, was registered in the k-th opening of its channel: this is k, as many as had begun by then
abbrev pub registered_in : ℕ → ℕ → List DeliveryMark → ℕ
registered_in c n ms = many (begins c) (before_nth registers n ms)

-- what happened in the k-th opening of channel c, counted from 1: after it began, up to the next
abbrev pub in_opening : ℕ → ℕ → List DeliveryMark → List DeliveryMark
in_opening c k ms = until (begins c) (after_nth (begins c) k ms)

-- how many consumers were registered under this tag in the k-th opening of channel c
abbrev pub registrations : ℕ → ℕ → List ℕ → List DeliveryMark → ℕ
registrations c k t ms = many (registers_as c t) (in_opening c k ms)
