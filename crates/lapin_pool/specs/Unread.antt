-- The cards of job steps whose record there was no memory to read: the history says which of them took a delivery.
use Rattle.std.specs.Prelude.{ℕ, zero, suc, List, [], ◌∷◌, ◌++◌, Option, Some, None, option_to_list, slice_get}
use Rattle.lapin_types.specs.declared.message.Delivery.{Delivery}
use Rattle.lapin_locked.specs.declared.entry.Entry.{Entry}
use Rattle.lapin_pool.specs.declared.card.Card.{Card}
use Rattle.lapin_pool.specs.declared.card.Sent.TheVariants as sent
use Rattle.lapin_pool.specs.Cards.{delivery_told}

-- the entry at a place, from 1
abbrev pub at_place : List Entry → ℕ → Option Entry
at_place h zero = None
at_place h (suc k) = slice_get h k

-- a card without a verdict, of this delivery, if there is one
abbrev pub blank_card : ℕ → ℕ → Option Delivery → Option Card
blank_card n p None = None
blank_card n p (Some d) = Some (record { caller = n; place = p; acker = d.acker.number; verdict = None; sent = sent.Unsent })

-- that of an entry
abbrev pub card_in : ℕ → Option Entry → Option Card
card_in p None = None
card_in p (Some x) = blank_card x.caller p (delivery_told x.answer)

-- those of the entries at these places
abbrev pub unread_cards : List Entry → List ℕ → List Card
unread_cards h [] = []
unread_cards h (p ∷ ps) = option_to_list (card_in p (at_place h p)) ++ unread_cards h ps
