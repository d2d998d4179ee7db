-- What the Collects of a run heard, read off the history of its session.
use Rattle.std.specs.Prelude.{◌≡◌, ℕ, ◌+◌, List, [], ◌∷◌, ◌++◌, Option, Some, None}
use Rattle.lapin_types.specs.declared.event.Event.{Event}
use Rattle.lapin_types.specs.declared.event.Event.TheVariants as event
use Rattle.lapin_types.specs.declared.record.Record.{Record}
use Rattle.lapin_rules.specs.History.{History}
use Rattle.lapin_machine.specs.Way.{by_history}
use Rattle.lapin_call.specs.declared.step.CallStep.{CallStep}
use Rattle.lapin_call.specs.declared.step.CallStep.TheVariants as step
use Rattle.lapin_call.specs.declared.step.CallReport.{CallReport}
use Rattle.lapin_call.specs.declared.step.CallReport.TheVariants as reported
use Rattle.lapin_call.specs.Fates.{take_report}
use Rattle.lapin_call.specs.Calls.{Requester, item_of, after, report, calls_to}
use Rattle.lapin_call.specs.Outcome.{Item, outcome}

-- an item, or none
abbrev pub listed : Option Item → List Item
listed None = []
listed (Some x) = x ∷ []

-- what an event and its record say that a consumer gave, where the event is a poll of one
abbrev pub heard_of : Event → Record → List Item
heard_of (event.PollConsumer n) r = listed (item_of r)
heard_of _ r = []

-- all that polls of consumers gave in a history, oldest first. In a run of calls only Collects poll, and only the consumer of the replies.
abbrev pub heard_in : History → List Item
heard_in [] = []
heard_in (x ∷ h) = heard_of x.0 x.1 ++ heard_in h

-- each take of call n among these steps was told that it waits
abbrev pub WaitedAtTakes : ℕ → ℕ → List CallStep → Requester History → Type 0
WaitedAtTakes frame_max n [] d = Unit {0}
WaitedAtTakes frame_max n (s ∷ ss) d = (s ≡ step.Take n → report (by_history frame_max) s d ≡ reported.Waiting) × WaitedAtTakes frame_max n ss (after (by_history frame_max) s d)

-- Behind some steps call n was asked; then further steps were made, and each take of the call among them was told that it waits. What a
-- take reports now is what becomes of the call by all that was heard since it was asked: the payload of the first delivery with its id,
-- or the first error where that came before, or else that it waits.
abbrev pub HasFirstReply : ℕ → List ℕ → List CallStep → CallStep → List CallStep → ℕ → Type 0
HasFirstReply frame_max queue before ask later n =
    (since : History) × ((calls_to frame_max queue ((before ++ ask ∷ []) ++ later)).session ≡ (calls_to frame_max queue (before ++ ask ∷ [])).session ++ since)
    × (report (by_history frame_max) (step.Take n) (calls_to frame_max queue ((before ++ ask ∷ []) ++ later)) ≡ take_report (Some (outcome n (heard_in since))))

-- how many deliveries the reports of Collects counted, as answers, repeats and strangers
abbrev pub counted_in : List CallReport → ℕ
counted_in [] = 0
counted_in (reported.Collected answers repeats strangers ∷ rs) = answers + repeats + strangers + counted_in rs
counted_in (_ ∷ rs) = counted_in rs
