-- Whatever a line is, it is the line of an event or it is none's, and the same of a step of a joined run: so every input prints
-- something.
use Rattle.std.proofs.Common.{◌≡◌, ◌≢◌, ◌⊎◌, inl, inr, ℕ, List, ◌++◌, Option, Some, None, refl}
use Rattle.std.specs.Prelude.{codes}
use Rattle.lapin_types.specs.declared.event.Event.{Event}
use Rattle.lapin_types.specs.Types.{Frame}
use Rattle.lapin_machine.specs.World.{World, outputs}
use Rattle.lapin_machine.specs.Way.{by_machine}
use Rattle.lapin_text.specs.LineReading.{line_at, frame_text_at}
use Rattle.lapin_text.specs.Events as events
use Rattle.lapin_text.specs.Records.{records_text}
use Rattle.lapin_text.proofs.LineLaws.{line_found, refused, text_found, text_refused}
use Rattle.lapin_joint.specs.declared.step.Step.TheVariants as step
use Rattle.lapin_joint.specs.Joint.{Joint, reports}
use Rattle.lapin_joint_text.specs.Steps.{step_line, HasLine}
use Rattle.lapin_joint_text.specs.Reports.{reports_text}
use Rattle.lapin_joint_text.proofs.StepLaws.{client_found, client_none, send_found, send_none, bare_found, bare_none}
use Rattle.lapin_inputs.specs.LineLaws.{Step?, some_steps, begins, is_word}
use Rattle.lapin_commands.specs.Session.{SessionGoesOn}
use Rattle.lapin_commands.specs.Joined.{JoinedGoesOn}

-- ---- events

-- a line is the line of an event or none's
an_event : (line : List ℕ) → Step? events.line_of events.HasLine line
an_event line = with_event (line_at line) refl
  where
    with_event : (read : Option Event) → line_at line ≡ read → Step? events.line_of events.HasLine line
    with_event None e = inr (λ event fit is. refused line event fit is e)
    with_event (Some event) e = inl (event, line_found line event e)

-- for lines, whatever they are, a session that goes on prints some text
pub session_goes : (w : World) (n : ℕ) (lines : List (List ℕ)) → (bad : Option ℕ) × (text : List ℕ) × SessionGoesOn w n lines bad text
session_goes w n lines =
    let some = some_steps events.line_of events.HasLine an_event n lines in
    (some.1, records_text (outputs w some.0), record { steps = some.0; are = some.2; printed = refl })

-- ---- steps

-- the line is the line of some step of a joined run, or it is none's
abbrev JointStep? : List ℕ → Type 0
JointStep? line = Step? step_line HasLine line

-- a line that begins with `client ` is the line of a step or none's
a_client : (line rest : List ℕ) → line ≡ codes "client " ++ rest → JointStep? line
a_client line rest is = with_event (line_at rest) refl
  where
    with_event : (read : Option Event) → line_at rest ≡ read → JointStep? line
    with_event None e = inr (client_none line rest is (λ event fit same. refused rest event fit same e))
    with_event (Some event) e = inl (step.Client event, client_found line rest event is (line_found rest event e))

-- a line that begins with `send ` is the line of a step or none's
a_send : (line rest : List ℕ) → line ≡ codes "send " ++ rest → JointStep? line
a_send line rest is = with_frame (frame_text_at rest) refl
  where
    with_frame : (read : Option Frame) → frame_text_at rest ≡ read → JointStep? line
    with_frame None e = inr (send_none line rest is (λ frame fit same. text_refused rest frame fit same e))
    with_frame (Some frame) e = inl (step.Send frame, send_found line rest frame is (text_found rest frame e))

-- a line that begins with neither is the line of a step or none's
a_bare : (line : List ℕ) → ((rest : List ℕ) → line ≢ codes "client " ++ rest) → ((rest : List ℕ) → line ≢ codes "send " ++ rest) → JointStep? line
a_bare line client send = read_first (is_word (codes "read") line)
  where
    lose_third : line ≢ codes "read" → line ≢ codes "deliver" → (line ≡ codes "lose") ⊎ (line ≢ codes "lose") → JointStep? line
    lose_third read deliver (inl is) = inl (step.Lose, bare_found line step.Lose is)
    lose_third read deliver (inr lose) = inr (bare_none line client send (read, deliver, lose))

    deliver_second : line ≢ codes "read" → (line ≡ codes "deliver") ⊎ (line ≢ codes "deliver") → JointStep? line
    deliver_second read (inl is) = inl (step.Deliver, bare_found line step.Deliver is)
    deliver_second read (inr deliver) = lose_third read deliver (is_word (codes "lose") line)

    read_first : (line ≡ codes "read") ⊎ (line ≢ codes "read") → JointStep? line
    read_first (inl is) = inl (step.Read, bare_found line step.Read is)
    read_first (inr read) = deliver_second read (is_word (codes "deliver") line)

-- a line is the line of a step or none's
step_of : (line : List ℕ) → JointStep? line
step_of line = client_first (begins (codes "client ") line)
  where
    send_second : ((rest : List ℕ) → line ≢ codes "client " ++ rest) → ((rest : List ℕ) × (line ≡ codes "send " ++ rest)) ⊎ ((rest : List ℕ) → line ≢ codes "send " ++ rest) → JointStep? line
    send_second client (inl send) = a_send line send.0 send.1
    send_second client (inr send) = a_bare line client send

    client_first : ((rest : List ℕ) × (line ≡ codes "client " ++ rest)) ⊎ ((rest : List ℕ) → line ≢ codes "client " ++ rest) → JointStep? line
    client_first (inl client) = a_client line client.0 client.1
    client_first (inr client) = send_second client (begins (codes "send ") line)

-- for lines, whatever they are, a joined run that goes on prints some text
pub joined_goes : (j : Joint World) (n : ℕ) (lines : List (List ℕ)) → (bad : Option ℕ) × (text : List ℕ) × JoinedGoesOn j n lines bad text
joined_goes j n lines =
    let some = some_steps step_line HasLine step_of n lines in
    (some.1, reports_text (reports by_machine some.0 j), record { steps = some.0; are = some.2; printed = refl })
