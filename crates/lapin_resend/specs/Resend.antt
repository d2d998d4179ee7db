-- The steps of a publisher that sends again, and what they report.
use Rattle.std.specs.Prelude.{ℕ, suc, ◌-◌, nat_lt, Bool, true, false, if◌then◌else◌, List, [], ◌∷◌, ◌++◌, length, map, Option, Some, None, slice_get}
use Rattle.lapin_types.specs.declared.event.Event.TheVariants as event
use Rattle.lapin_joint.specs.declared.step.Step as joined_step
use Rattle.lapin_joint.specs.declared.step.Step.TheVariants as joined
use Rattle.lapin_joint.specs.Joint.{report, joined_to}
use Rattle.lapin_machine.specs.Way.{by_history}
use Rattle.lapin_resend.specs.declared.step.ResendStep.{ResendStep}
use Rattle.lapin_resend.specs.declared.step.ResendStep.TheVariants as step
use Rattle.lapin_resend.specs.declared.step.ResendReport.{ResendReport}
use Rattle.lapin_resend.specs.declared.step.ResendReport.TheVariants as told
use Rattle.lapin_resend.specs.Messages.{Standing, submitted, forgotten}
use Rattle.lapin_resend.specs.Publisher.{Publisher, Steps, tended}

-- ---- What a step does by itself, before the publisher tends its channel.

-- a step of the present joined run
abbrev pub with_step : joined_step.Step → Publisher → Publisher
with_step s p = record p { present = p.present ++ s ∷ [] }

-- The present joined run ends with the joined step Lose, and a new one begins, with a new session and a new broker. Every outstanding
-- publish is forgotten.
abbrev pub after_loss : Publisher → Publisher
after_loss p = record { earlier = p.earlier ++ (p.present ++ joined.Lose ∷ []) ∷ []; present = []; messages = map forgotten p.messages; selects = false }

-- Submit gives the next number. Next, Read, Send and Deliver are steps of the joined run. A question changes nothing.
abbrev pub begun : ResendStep → Publisher → Publisher
begun (step.Submit m) p = record p { messages = p.messages ++ submitted m ∷ [] }
begun step.Next p = with_step (joined.Client (event.Next true)) p
begun step.Read p = with_step joined.Read p
begun (step.Send f) p = with_step (joined.Send f) p
begun step.Deliver p = with_step joined.Deliver p
begun step.Lose p = after_loss p
begun (step.Status n) p = p

-- ---- What it reports.

-- the message of this number, where numbers count from 1
abbrev pub message_at : ℕ → List Standing → Option Standing
message_at n ss = if nat_lt 0 n then slice_get ss (n - 1) else None

-- whether the message of this number is stored, where this is so of each message; None where the number was never given
abbrev pub whether_stored : ℕ → List Bool → Option Bool
whether_stored n known = if nat_lt 0 n then slice_get known (n - 1) else None

-- the same of messages
abbrev pub stored_in : ℕ → List Standing → Option Bool
stored_in n ss = whether_stored n (map (λ s. s.stored) ss)

-- Unknown where the number was never given, Stored where the message is stored, else Waiting
abbrev pub status_of : Option Standing → ResendReport
status_of None = told.Unknown
status_of (Some s) = if s.stored then told.Stored else told.Waiting

-- what the present joined run reports of a step
abbrev pub joined_report : ℕ → joined_step.Step → Publisher → ResendReport
joined_report frame_max s p = told.Joined (report (by_history frame_max) s (joined_to frame_max p.present))

-- what a step reports
abbrev pub report_of : ℕ → ResendStep → Publisher → ResendReport
report_of frame_max (step.Submit m) p = told.Message (suc (length p.messages))
report_of frame_max step.Next p = joined_report frame_max (joined.Client (event.Next true)) p
report_of frame_max step.Read p = joined_report frame_max joined.Read p
report_of frame_max (step.Send f) p = joined_report frame_max (joined.Send f) p
report_of frame_max step.Deliver p = joined_report frame_max joined.Deliver p
report_of frame_max step.Lose p = joined_report frame_max joined.Lose p
report_of frame_max (step.Status n) p = status_of (message_at n p.messages)

-- ---- Whole runs.

-- the publisher after a step: what the step does, and then it tends its channel
abbrev pub after_step : ℕ → ResendStep → Publisher → Publisher
after_step frame_max s p = tended frame_max (begun s p)

-- a publisher without a message over a new joined run
abbrev pub no_publisher : Publisher
no_publisher = record { earlier = []; present = []; messages = []; selects = false }

-- that publisher, which tends its channel at once
abbrev pub new_publisher : ℕ → Publisher
new_publisher frame_max = tended frame_max no_publisher

-- where steps lead from a publisher
abbrev pub publisher_from : ℕ → List ResendStep → Publisher → Publisher
publisher_from frame_max [] p = p
publisher_from frame_max (s ∷ ss) p = publisher_from frame_max ss (after_step frame_max s p)

-- where they lead from a new one
abbrev pub publisher_after : ℕ → List ResendStep → Publisher
publisher_after frame_max steps = publisher_from frame_max steps (new_publisher frame_max)

-- what each step reports, in order
abbrev pub reports_from : ℕ → List ResendStep → Publisher → List ResendReport
reports_from frame_max [] p = []
reports_from frame_max (s ∷ ss) p = report_of frame_max s p ∷ reports_from frame_max ss (after_step frame_max s p)

-- the reports of a run that begins new
abbrev pub resend : ℕ → List ResendStep → List ResendReport
resend frame_max steps = reports_from frame_max steps (new_publisher frame_max)

-- the joined runs of a publisher, in order: the earlier ones and the present one
abbrev pub runs_of : Publisher → List Steps
runs_of p = p.earlier ++ p.present ∷ []
