-- What contracts see of a channel's returned messages, and beside them the room. How code finds one of them.
use Rattle.std.specs.Prelude.{Box, box_value, ℕ, suc, ◌<◌, ◌==◌, Bool, true, false, if◌then◌else◌, List, [], ◌∷◌, Option, Some, None, option_map, refl}
use Rattle.std.specs.Coded.{Coded, code_by, coded×, coded_ℕ, coded_list}
use Rattle.lapin_types.specs.declared.message.BasicReturnMessage.{BasicReturnMessage}
use Rattle.lapin_types.specs.contracts.message.BasicReturnMessage as message_row
use Rattle.std.specs.List.{range_with_len}
use Rattle.lapin_rules.specs.ReturnLists.{ReturnLists, no_return_lists}
use Rattle.lapin_rules.specs.ReturnReadings.{taking}
use Rattle.lapin_tables.specs.Numbered.{under}

-- the return lists, and for how many more messages there is room: to wait, to be attached once they wait, and unconfirmed
pub record ReturnedMessages : Type 0 where
  pub return_lists : ReturnLists
  pub to_wait : ℕ
  pub to_attach : ℕ
  pub to_stay : ℕ

-- one more message has room, wherever it goes
abbrev pub HasPlace : ReturnedMessages → Type 0
HasPlace t = (0 < t.to_wait) × (0 < t.to_attach) × (0 < t.to_stay)

-- no message, and no room for one
abbrev pub no_messages : ReturnedMessages
no_messages = record { return_lists = no_return_lists; to_wait = 0; to_attach = 0; to_stay = 0 }

-- what stands in a box, where there is one
abbrev pub boxed : {Z : Type 0} → Option (Box ReturnedMessages Z) → ReturnedMessages
boxed None = no_messages
boxed (Some b) = box_value b

-- a returned message, stored by its fields
abbrev pub message_code : Coded BasicReturnMessage
message_code = message_row.the_row.coded

-- the return lists of a channel, stored as the pairs of their lists
abbrev pub return_lists_code : Coded ReturnLists
return_lists_code =
    code_by
    (List (ℕ × BasicReturnMessage) × (List BasicReturnMessage × (List BasicReturnMessage × (List BasicReturnMessage × List ℕ))))
    (coded× (coded_list (coded× coded_ℕ message_code)) (coded× (coded_list message_code) (coded× (coded_list message_code) (coded× (coded_list message_code) (coded_list coded_ℕ)))))
    (λ l. (l.attached, (l.waiting, (l.unconfirmed, (l.kept, l.aside)))))
    (λ p. record { attached = p.0; waiting = p.1.0; unconfirmed = p.1.1.0; kept = p.1.1.1.0; aside = p.1.1.1.1 })
    (λ _. refl)

-- the return lists with their room, stored as the pairs of their parts
abbrev pub returned_messages_code : Coded ReturnedMessages
returned_messages_code =
    code_by
    (ReturnLists × (ℕ × (ℕ × ℕ)))
    (coded× return_lists_code (coded× coded_ℕ (coded× coded_ℕ coded_ℕ)))
    (λ t. (t.return_lists, (t.to_wait, (t.to_attach, t.to_stay))))
    (λ p. record { return_lists = p.0; to_wait = p.1.0; to_attach = p.1.1.0; to_stay = p.1.1.1 })
    (λ _. refl)

-- where the message of confirm n stands
abbrev pub place_in : ℕ → List (ℕ × BasicReturnMessage) → Option ℕ
place_in n [] = None
place_in n (x ∷ xs) = if x.0 == n then Some 0 else option_map suc (place_in n xs)

-- the message, if there is one, is that of confirm n
abbrev pub is_of : ℕ → Option (ℕ × BasicReturnMessage) → Bool
is_of n None = false
is_of n (Some x) = x.0 == n

-- the publishes that are pending with the tags from one on, so many of them, in rising order; by tag stands who is pending with it
abbrev pub pending_from : ℕ → ℕ → List (Option ℕ) → List ℕ
pending_from t n tags = taking (λ _. true) (λ u. under u tags) (range_with_len t n)

-- the publishes that are pending with the tags from 1 up to a limit, in rising order; by tag stands who is pending with it
abbrev pub pending_through : ℕ → List (Option ℕ) → List ℕ
pending_through limit tags = pending_from 1 limit tags
