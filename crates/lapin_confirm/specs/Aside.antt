-- Results, and confirms that are set aside: what is answered, and what becomes of them.
use Rattle.std.specs.Prelude.{ℕ, Bool, true, false, not, ◌&&◌, if◌then◌else◌, List, Option, Some, None, Result, Ok, Err}
use Rattle.lapin_types.specs.declared.Error.{Error}
use Rattle.lapin_types.specs.declared.Error.TheVariants as error
use Rattle.lapin_types.specs.declared.confirmation.Confirmation.{Confirmation}
use Rattle.lapin_rules.specs.ReturnLists.{set_by}
use Rattle.lapin_tables.specs.Numbered.{under, with_under}
use Rattle.lapin_confirm.specs.declared.origin.Origin.{Origin}
use Rattle.lapin_confirm.specs.PublishStates.{is_resolved, is_unresolved, taken}
use Rattle.lapin_confirm.specs.ConfirmState.{ConfirmState, on_origin, message_of}
use Rattle.lapin_confirm.specs.Answers.{answer_at, answer_with}

-- what is kept of the publish says that it was set aside; nothing says so where nothing is kept
abbrev pub is_aside_in : Option Origin → Bool
is_aside_in None = false
is_aside_in (Some h) = h.aside

-- confirm n was set aside while it was unresolved
abbrev pub is_set_aside : ℕ → ConfirmState → Bool
is_set_aside n p = is_aside_in (under n p.origins)

-- a poll gives the result of confirm n
abbrev pub is_giving : ℕ → ConfirmState → Bool
is_giving n p = not (is_set_aside n p) && is_resolved (under n p.publish_states.cells)

-- a poll of confirm n gives none: it is unresolved, and not set aside
abbrev pub is_waiting : ℕ → ConfirmState → Bool
is_waiting n p = not (is_set_aside n p) && is_unresolved (under n p.publish_states.cells)

-- what a poll answers
abbrev pub taken_answer : ℕ → ConfirmState → Result (Option (Result Confirmation Error)) Error
taken_answer n p = if is_set_aside n p then Err error.AlreadyTaken else answer_with (message_of n p) (answer_at n p.publish_states)

-- setting aside is refused with the error with which a poll would be, and else it is done
abbrev pub refused_as : Result (Option (Result Confirmation Error)) Error → Result (Unit {0}) Error
refused_as (Ok o) = Ok tt
refused_as (Err e) = Err e

-- setting aside is refused as a poll is
abbrev pub set_answer : ℕ → ConfirmState → Result (Unit {0}) Error
set_answer n p = refused_as (taken_answer n p)

-- ---- what becomes of a confirm that is set aside

-- resolved: its message is kept, and nothing else of it
abbrev pub kept_by : ℕ → ConfirmState → ConfirmState
kept_by n p = record { publish_states = taken n p.publish_states; returned_by_channel = on_origin (under n p.origins) (set_by n true) p.returned_by_channel; early = p.early; origins = with_under n None p.origins }

-- the origins with publish n set aside, where this is its origin; the same where it has none
abbrev pub marked : ℕ → Option Origin → List (Option Origin) → List (Option Origin)
marked n None hs = hs
marked n (Some h) hs = with_under n (Some (record h { aside = true })) hs

-- unresolved: its number stands aside
abbrev pub laid_by : ℕ → ConfirmState → ConfirmState
laid_by n p = record { publish_states = p.publish_states; returned_by_channel = on_origin (under n p.origins) (set_by n false) p.returned_by_channel; early = p.early; origins = marked n (under n p.origins) p.origins }

-- confirm n is set aside: where it is resolved its message, if it took one, is kept; else its number stands aside
abbrev pub put_aside : ℕ → ConfirmState → ConfirmState
put_aside n p = if is_resolved (under n p.publish_states.cells) then kept_by n p else laid_by n p
