-- Whatever a line is, it is the line of a step of calls over queues or none's: so every input prints something.
use Rattle.std.proofs.Common.{◌≡◌, ◌≢◌, ◌⊎◌, inl, inr, ℕ, List, ◌++◌, Option, Some, None, refl, sym, ap, ◌∙◌}
use Rattle.std.specs.Prelude.{codes}
use Rattle.lapin_types.specs.declared.event.Event.{Event}
use Rattle.lapin_machine.specs.Way.{by_machine}
use Rattle.lapin_tokens.specs.Fields.{wide_number}
use Rattle.lapin_tokens.specs.Reading.{value_of}
use Rattle.lapin_tokens.proofs.FieldLaws.{value_found, value_again}
use Rattle.lapin_text.specs.LineReading.{line_at}
use Rattle.lapin_text.proofs.LineLaws.{line_found, refused}
use Rattle.lapin_call.specs.declared.step.CallStep.{CallStep}
use Rattle.lapin_call.specs.declared.step.CallStep.TheVariants as step
use Rattle.lapin_call.specs.Calls.{reports}
use Rattle.lapin_call.specs.CallRun.{CallRun}
use Rattle.lapin_call_text.specs.Steps.{step_line, HasLine}
use Rattle.lapin_call_text.specs.Reading.{asked_in, step_of_event}
use Rattle.lapin_call_text.specs.Reports.{reports_text}
use Rattle.lapin_call_text.proofs.StepLaws.{asked_found, asked_none, take_found, take_none, bare_none, other_none, event_found}
use Rattle.lapin_inputs.specs.LineLaws.{Step?, some_steps, begins, is_word}
use Rattle.lapin_commands.specs.Call.{CallsGoOn}

-- the line is the line of some step of calls, or it is none's
abbrev CallStep? : List ℕ → Type 0
CallStep? line = Step? step_line HasLine line

-- a line that begins with `ask ` is the line of a step or none's
an_ask : (line rest : List ℕ) → line ≡ codes "ask " ++ rest → CallStep? line
an_ask line rest is = with_step (asked_in rest) refl
  where
    with_step : (read : Option CallStep) → asked_in rest ≡ read → CallStep? line
    with_step None e = inr (asked_none line rest is e)
    with_step (Some s) e = inl (s, asked_found line rest s is e)

-- a line that begins with `take ` is the line of a step or none's
a_take : (line rest : List ℕ) → line ≡ codes "take " ++ rest → CallStep? line
a_take line rest is = with_number (value_of wide_number rest) refl
  where
    with_number : (read : Option ℕ) → value_of wide_number rest ≡ read → CallStep? line
    with_number None e = inr (take_none line rest is (λ n fit same. let again = sym e ∙ ap (value_of wide_number) same ∙ value_again wide_number n fit in cc))
    with_number (Some n) e = let found = value_found wide_number rest n e in inl (step.Take n, take_found line rest n is found.is found.fits)

-- a line that begins with neither, and isn't `collect`, is the line of a step or none's
an_event : (line : List ℕ) → ((rest : List ℕ) → line ≢ codes "ask " ++ rest) → ((rest : List ℕ) → line ≢ codes "take " ++ rest) → line ≢ codes "collect" → CallStep? line
an_event line ask take collect = with_event (line_at line) refl
  where
    with_step : (event : Event) (o : Option CallStep) → line_at line ≡ Some event → step_of_event event ≡ o → CallStep? line
    with_step event None e none = let found = line_found line event e in inr (other_none line event ask take collect found.0 found.1 none)
    with_step event (Some s) e made = let found = line_found line event e in inl (s, event_found line event s found.0 found.1 made)

    with_event : (read : Option Event) → line_at line ≡ read → CallStep? line
    with_event None e = inr (bare_none line ask take collect (λ event fit same. refused line event fit same e))
    with_event (Some event) e = with_step event (step_of_event event) e refl

-- a line is the line of a step of calls or none's
step_of : (line : List ℕ) → CallStep? line
step_of line = ask_first (begins (codes "ask ") line)
  where
    collect_third : ((rest : List ℕ) → line ≢ codes "ask " ++ rest) → ((rest : List ℕ) → line ≢ codes "take " ++ rest) → (line ≡ codes "collect") ⊎ (line ≢ codes "collect") → CallStep? line
    collect_third ask take (inl is) = inl (step.Collect, (is, tt))
    collect_third ask take (inr collect) = an_event line ask take collect

    take_second : ((rest : List ℕ) → line ≢ codes "ask " ++ rest) → ((rest : List ℕ) × (line ≡ codes "take " ++ rest)) ⊎ ((rest : List ℕ) → line ≢ codes "take " ++ rest) → CallStep? line
    take_second ask (inl take) = a_take line take.0 take.1
    take_second ask (inr take) = collect_third ask take (is_word (codes "collect") line)

    ask_first : ((rest : List ℕ) × (line ≡ codes "ask " ++ rest)) ⊎ ((rest : List ℕ) → line ≢ codes "ask " ++ rest) → CallStep? line
    ask_first (inl ask) = an_ask line ask.0 ask.1
    ask_first (inr ask) = take_second ask (begins (codes "take ") line)

-- for lines, whatever they are, calls that go on print some text
pub calls_go : (k : CallRun) (n : ℕ) (lines : List (List ℕ)) → (bad : Option ℕ) × (text : List ℕ) × CallsGoOn k n lines bad text
calls_go k n lines =
    let some = some_steps step_line HasLine step_of n lines in
    (some.1, reports_text (reports by_machine some.0 k.requester), record { steps = some.0; are = some.2; printed = refl })
