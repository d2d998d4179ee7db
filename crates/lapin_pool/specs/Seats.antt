-- What callers bring to their seats and leave there, the last seat first.
use Rattle.std.specs.Prelude.{◌≡◌, ℕ, List, [], ◌∷◌, ◌++◌, None, All, option_to_list}
use Rattle.lapin_shared.specs.Grown.{Seen}
use Rattle.lapin_pool.specs.declared.card.Card.{Card}
use Rattle.lapin_pool.specs.declared.seat.Seat.{Seat}
use Rattle.lapin_pool.specs.Turns.{Standing, standing}

-- the caller of a seat
abbrev pub caller_of : {L : Type 0} → Seat L → Seen
caller_of s = s.caller

-- what stands of the caller of a seat
abbrev pub of_seat : {L : Type 0} → Seat L → Standing
of_seat s = standing s.caller s.cards.items s.unread

-- no seat has a card or an unread step yet
abbrev pub AreNew : {L : Type 0} → List (Seat L) → Type 0
AreNew ss = All (λ s. (s.cards.items ≡ []) × (s.unread ≡ None)) ss

-- the cards of all seats
abbrev pub cards_of : {L : Type 0} → List (Seat L) → List Card
cards_of [] = []
cards_of (s ∷ ss) = cards_of ss ++ s.cards.items

-- the unread steps of all seats
abbrev pub unread_of : {L : Type 0} → List (Seat L) → List ℕ
unread_of [] = []
unread_of (s ∷ ss) = unread_of ss ++ option_to_list s.unread
