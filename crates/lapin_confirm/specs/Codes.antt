-- How the values that contracts see are stored as tuples of their fields, by which a proof tells two of them apart. No clause
-- cites this.
use Rattle.std.specs.Prelude.{ℕ, Bool, List, Option, refl}
use Rattle.std.specs.Coded.{Coded, code_by, coded×, coded_ℕ, coded_bool, coded_list, coded_option}
use Rattle.lapin_types.specs.declared.message.BasicReturnMessage.{BasicReturnMessage}
use Rattle.lapin_rules.specs.ReturnLists.{ReturnLists}
use Rattle.lapin_confirm.specs.declared.cell.Cell.{Cell}
use Rattle.lapin_confirm.specs.contracts.cell.Cell as cell_row
use Rattle.lapin_confirm.specs.declared.origin.Origin.{Origin}
use Rattle.lapin_confirm.specs.contracts.origin.Origin as origin_row
use Rattle.lapin_confirm.specs.PublishStates.{PublishStates, ConfirmModeState}
use Rattle.lapin_confirm.specs.ConfirmState.{ConfirmState}
use Rattle.lapin_confirm.specs.ReturnedMessages.{message_code, return_lists_code}

-- a channel's opening
abbrev pub confirm_mode_code : Coded ConfirmModeState
confirm_mode_code =
    code_by
    (Bool × (ℕ × (Bool × ℕ)))
    (coded× coded_bool (coded× coded_ℕ (coded× coded_bool coded_ℕ)))
    (λ l. (l.selected, (l.last, (l.asked, l.limit))))
    (λ p. record { selected = p.0; last = p.1.0; asked = p.1.1.0; limit = p.1.1.1 })
    (λ _. refl)

-- tags and outcomes
abbrev pub publish_states_code : Coded PublishStates
publish_states_code =
    code_by
    (List (ℕ × ConfirmModeState) × List (Option Cell))
    (coded× (coded_list (coded× coded_ℕ confirm_mode_code)) (coded_list (coded_option cell_row.the_row.coded)))
    (λ b. (b.confirm_modes, b.cells))
    (λ p. record { confirm_modes = p.0; cells = p.1 })
    (λ _. refl)

-- the confirms with the returned messages
abbrev pub confirm_state_code : Coded ConfirmState
confirm_state_code =
    code_by
    (PublishStates × (List (ℕ × ReturnLists) × (List (ℕ × BasicReturnMessage) × List (Option Origin))))
    (coded× publish_states_code (coded× (coded_list (coded× coded_ℕ return_lists_code)) (coded× (coded_list (coded× coded_ℕ message_code)) (coded_list (coded_option origin_row.the_row.coded)))))
    (λ p. (p.publish_states, (p.returned_by_channel, (p.early, p.origins))))
    (λ p. record { publish_states = p.0; returned_by_channel = p.1.0; early = p.1.1.0; origins = p.1.1.1 })
    (λ _. refl)
