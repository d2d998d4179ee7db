-- What the outcome of a publish makes of its message.
use Rattle.std.specs.Prelude.{ℕ, ◌==◌, ◌-◌, Bool, true, false, ◌&&◌, not, if◌then◌else◌, Option, Some, None, Result, Ok, Err}
use Rattle.std.specs.Option.{is_some}
use Rattle.lapin_types.specs.declared.outcome.Outcome.{Outcome}
use Rattle.lapin_types.specs.declared.outcome.Outcome.TheVariants as outcome
use Rattle.lapin_types.specs.declared.confirmation.Confirmation.{Confirmation}
use Rattle.lapin_types.specs.declared.confirmation.Confirmation.TheVariants as confirmation
use Rattle.lapin_types.specs.Types.{Error}
use Rattle.lapin_types.specs.Types.error
use Rattle.lapin_keeping.specs.declared.fate.Fate.{Fate}
use Rattle.lapin_keeping.specs.declared.fate.Fate.TheVariants as fate
use Rattle.lapin_keeping.specs.declared.kept.Kept.{Kept}

-- it is to be published: it isn't settled and has no outstanding publish
abbrev pub waits : Kept → Bool
waits k = not (is_some k.fate) && not (is_some k.outstanding)

-- the reply code by which an error may be the message's own doing: that of a close by the broker, but for the one of its own end
abbrev pub blame : Error → Option ℕ
blame (error.ProtocolError code) = if code == 320 then None else Some code
blame _ = None

-- its publish is outstanding
abbrev pub published : ℕ → Kept → Kept
published confirm k = record k { outstanding = Some confirm; came_back = false; failed = false }

-- nothing is known of its publish: it waits
abbrev pub forgotten : Kept → Kept
forgotten k = record k { outstanding = None }

-- Its session has ended: it waits. An ack that was polled and not settled yet counts for nothing, since a message may have come back that was not polled; any other
-- fate stays.
abbrev pub begun_anew_at : Option Fate → Kept → Kept
begun_anew_at (Some fate.Stored) k = record k { fate = None; outstanding = None }
begun_anew_at _ k = forgotten k

abbrev pub begun_anew : Kept → Kept
begun_anew k = begun_anew_at k.fate k

-- The broker failed it. Where that was once too often, this is its fate.
abbrev pub tried : Fate → Kept → Kept
tried f k = record k { outstanding = None; failed = true; fate = if k.left == 1 then Some f else k.fate; left = k.left - 1 }

-- The broker closed while it was outstanding, or it was lost. The first close makes a suspect of it, which waits and goes alone from then on; a close while it was alone
-- is its own doing.
abbrev pub of_blame : Option ℕ → Kept → Kept
of_blame None k = forgotten k
of_blame (Some code) k = if k.suspect then tried (fate.Closed code) k else record k { outstanding = None; suspect = true }

-- its opening ended before there was an outcome
abbrev pub of_error : Error → Kept → Kept
of_error e k = of_blame (blame e) k

-- a broker answered for its publish: it is stored, where it didn't come back
abbrev pub acked : Kept → Kept
acked k = if k.came_back then tried fate.Returned k else record k { outstanding = None; fate = Some fate.Stored }

-- Ack stores it, where it didn't come back; it waits again else, unless the broker failed it as often as it may
abbrev pub of_outcome : Outcome → Kept → Kept
of_outcome outcome.Ack k = acked k
of_outcome outcome.Nack k = tried fate.Refused k
of_outcome outcome.NotRequested k = forgotten k
of_outcome (outcome.Failed e) k = of_error e k

-- the same of what a poll gives, whichever message it gives
abbrev pub of_result : Result Confirmation Error → Kept → Kept
of_result (Ok (confirmation.Ack m)) k = acked k
of_result (Ok (confirmation.Nack m)) k = tried fate.Refused k
of_result (Ok confirmation.NotRequested) k = forgotten k
of_result (Err e) k = of_error e k

-- its publish came back: an ack of it, before or behind, doesn't store it
abbrev pub returned_at : Option Fate → Kept → Kept
returned_at (Some fate.Stored) k = tried fate.Returned (record k { fate = None })
returned_at (Some f) k = k
returned_at None k = record k { came_back = true }

abbrev pub returned : Kept → Kept
returned k = returned_at k.fate k
