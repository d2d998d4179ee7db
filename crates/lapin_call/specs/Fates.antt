-- What became of calls, each known by its number from 1 in the order of asking.
use Rattle.std.specs.Prelude.{ℕ, zero, suc, ◌+◌, ◌^◌, Bool, true, false, List, Option, Some, None, map, slice_get, slice_set}
use Rattle.lapin_types.specs.Types.{Error}
use Rattle.lapin_types.specs.declared.message.Delivery.{Delivery}
use Rattle.lapin_scalars.specs.Reading.{scalar_of}
use Rattle.lapin_scalars.specs.Scalars.Scalar.{number as number_of}
use Rattle.lapin_call.specs.declared.fates.Fate.{Fate}
use Rattle.lapin_call.specs.declared.fates.Fate.TheVariants as fate
use Rattle.lapin_call.specs.declared.fates.Match.{Match}
use Rattle.lapin_call.specs.declared.fates.Match.TheVariants as matched
use Rattle.lapin_call.specs.declared.fates.Tally.{Tally}
use Rattle.lapin_call.specs.declared.step.CallReport.{CallReport}
use Rattle.lapin_call.specs.declared.step.CallReport.TheVariants as reported

-- no delivery was counted yet
abbrev pub no_tally : Tally
no_tally = record { answers = 0; repeats = 0; strangers = 0 }

-- ---- whose reply a delivery is

-- the number whose decimal a correlation id is, if it is one's
abbrev pub number_named : Option (List ℕ) → Option ℕ
number_named None = None
number_named (Some id) = scalar_of (number_of (2 ^ 64)) id

-- the call that a number names
abbrev pub fate_at : ℕ → List Fate → Option Fate
fate_at zero fates = None
fate_at (suc p) fates = slice_get fates p

-- there is such a call
abbrev pub is_call : Option Fate → Bool
is_call None = false
is_call (Some f) = true

-- the call whose number's decimal is the delivery's correlation id
abbrev pub fate_named : Option ℕ → List Fate → Option Fate
fate_named None fates = None
fate_named (Some n) fates = fate_at n fates

-- ---- what a delivery does

-- what a delivery is, by what became of the call that it names
abbrev pub match_of : Option Fate → Match
match_of (Some fate.Waiting) = matched.Answer
match_of (Some (fate.Answered payload)) = matched.Repeat
match_of (Some (fate.Given true)) = matched.Repeat
match_of _ = matched.Stranger

-- one delivery more of its kind
abbrev pub counted : Match → Tally → Tally
counted matched.Answer t = record { answers = t.answers + 1; repeats = t.repeats; strangers = t.strangers }
counted matched.Repeat t = record { answers = t.answers; repeats = t.repeats + 1; strangers = t.strangers }
counted matched.Stranger t = record { answers = t.answers; repeats = t.repeats; strangers = t.strangers + 1 }

-- the calls, where the one of this number now has this fate
abbrev pub with_fate : ℕ → Fate → List Fate → List Fate
with_fate zero f fates = fates
with_fate (suc p) f fates = slice_set fates p f

-- the calls after a delivery with this payload that is this to the call of this number: an answer answers it
abbrev pub after_match : Match → Option ℕ → List ℕ → List Fate → List Fate
after_match matched.Answer (Some n) payload fates = with_fate n (fate.Answered payload) fates
after_match _ _ payload fates = fates

-- the call that a delivery names, by its correlation id
abbrev pub named_by : Delivery → Option ℕ
named_by d = number_named d.properties.correlation_id

-- what a delivery is to the calls
abbrev pub match_in : Delivery → List Fate → Match
match_in d fates = match_of (fate_named (named_by d) fates)

-- the calls after a delivery
abbrev pub after_delivery : Delivery → List Fate → List Fate
after_delivery d fates = after_match (match_in d fates) (named_by d) d.payload fates

-- ---- what an error does: a call that waits is ended by it

-- a call after an error
abbrev pub ended_by : Error → Fate → Fate
ended_by e fate.Waiting = fate.Ended e
ended_by e f = f

-- the calls after an error
abbrev pub after_error : Error → List Fate → List Fate
after_error e fates = map (ended_by e) fates

-- ---- what is taken: a result is given once

-- what taking a call reports
abbrev pub take_report : Option Fate → CallReport
take_report None = reported.Unknown
take_report (Some fate.Waiting) = reported.Waiting
take_report (Some (fate.Answered payload)) = reported.Reply payload
take_report (Some (fate.Ended e)) = reported.Ended e
take_report (Some (fate.Given answered)) = reported.Taken

-- what taking leaves of a call: its result is given
abbrev pub taken : Fate → Fate
taken (fate.Answered payload) = fate.Given true
taken (fate.Ended e) = fate.Given false
taken f = f

-- what taking the call of this number leaves of all
abbrev pub after_take : Option Fate → ℕ → List Fate → List Fate
after_take None n fates = fates
after_take (Some f) n fates = with_fate n (taken f) fates
