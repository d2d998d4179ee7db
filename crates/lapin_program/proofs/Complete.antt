-- Where all that is read is in the format, no line of it is bad; and in memory what was written is what is printed for the input.
use Rattle.std.proofs.Common.{◌≡◌, ℕ, ◌≤◌, List, [], ◌++◌, length, Option, Some, None, refl, sym, ap, ◌∙◌, subst, append-nil}
use Rattle.lapin_text.specs.Input.{lines_of}
use Rattle.lapin_inputs.specs.Reading.{longest_input}
use Rattle.lapin_inputs.specs.Printing.{PrintsBy, text_behind, bad_line_text}
use Rattle.lapin_inputs.specs.Outcome.{HasRead, WroteToBadLine}
use Rattle.lapin_inputs.specs.Format.{Tells, SaysEvents}
use Rattle.lapin_commands.specs.Session.{session_text, PrintsSession}
use Rattle.lapin_commands.specs.Joined.{joined_text, PrintsJoined}
use Rattle.lapin_commands.specs.Check.{checked_text, PrintsCheck}
use Rattle.lapin_commands.specs.Resend.{resend_text, PrintsResend}
use Rattle.lapin_commands.specs.Call.{calls_text, PrintsCalls}
use Rattle.lapin_commands.specs.Generate.{PrintsGenerated}
use Rattle.lapin_program.specs.Outcome.{HasRun, PrintsToBadLine}
use Rattle.lapin_commands.specs.declared.words.Command.{Command}
use Rattle.lapin_commands.specs.declared.words.Command.TheVariants as command
use Rattle.lapin_program.specs.Format.{SaysSteps, SaysResends, SaysCalls, SaysSeen}

-- what the source tells, with what follows from it
pub told_so : (P Q : List ℕ → Type 0) → ((input : List ℕ) → P input → Q input) → (a : Option (List ℕ)) → Tells a P → Tells a Q
told_so P Q so None told = told
told_so P Q so (Some input) told = (told.0, so input told.1)

-- where the lines say so much, something is printed for all
said_prints : {E : Type 0} (AreParsed : List (List ℕ) → Option ℕ → List E → Option ℕ → Type 0) (text_of : ℕ → List E → List ℕ) (input : List ℕ) → ((frame_max : ℕ) × (steps : List E) × AreParsed (lines_of input) (Some frame_max) steps None) → (text : List ℕ) × PrintsBy E AreParsed text_of input None text
said_prints AreParsed text_of input said = (text_behind text_of (Some said.0) said.1 ++ bad_line_text None, record { frame_max = Some said.0; steps = said.1; parsed = said.2; printed = refl })

-- where the lines are events, `session` prints the records of all
pub told_events : (a : Option (List ℕ)) → Tells a SaysEvents → Tells a (λ input. (text : List ℕ) × PrintsSession input None text)
told_events a told = told_so SaysEvents (λ input. (text : List ℕ) × PrintsSession input None text) (λ input said. said_prints _ session_text input said) a told

-- where they are steps, `joined` prints the reports of all
pub told_steps : (a : Option (List ℕ)) → Tells a SaysSteps → Tells a (λ input. (text : List ℕ) × PrintsJoined input None text)
told_steps a told = told_so SaysSteps (λ input. (text : List ℕ) × PrintsJoined input None text) (λ input said. said_prints _ joined_text input said) a told

-- so does `resend`
pub told_resends : (a : Option (List ℕ)) → Tells a SaysResends → Tells a (λ input. (text : List ℕ) × PrintsResend input None text)
told_resends a told = told_so SaysResends (λ input. (text : List ℕ) × PrintsResend input None text) (λ input said. said_prints _ resend_text input said) a told

-- and `call`
pub told_calls : (queue : List ℕ) (a : Option (List ℕ)) → Tells a SaysCalls → Tells a (λ input. (text : List ℕ) × PrintsCalls queue input None text)
told_calls queue a told = told_so SaysCalls (λ input. (text : List ℕ) × PrintsCalls queue input None text) (λ input said. said_prints _ (calls_text queue) input said) a told

-- where they are frames that were seen, `check` prints what is found in them
pub told_seen : (a : Option (List ℕ)) → Tells a SaysSeen → Tells a (λ input. (text : List ℕ) × PrintsCheck input None text)
told_seen a told = told_so SaysSeen (λ input. (text : List ℕ) × PrintsCheck input None text) (λ input said. said_prints _ checked_text input said) a told

-- what was written up to a bad line, where nothing was before, is what is printed for the input
bad_read : (P : List ℕ → Option ℕ → List ℕ → Type 0) (input rest old sink : List ℕ) (g k : ℕ) → old ≡ [] → HasRead (Some input) (Some rest) g k (λ i. WroteToBadLine (Some old) (Some sink) (P i))
    → (line : ℕ) × (length input ≤ longest_input) × P input (Some line) sink
bad_read P input rest old sink g k empty h =
    let is : input ≡ h.bytes = h.all.0 ∙ ap (λ (l : List ℕ). h.bytes ++ l) h.all.1 ∙ append-nil h.bytes in
    let whole : sink ≡ h.says.1 = h.says.3 ∙ ap (λ (o : List ℕ). o ++ h.says.1) empty in
    let Q : List ℕ → Type 0 = λ i. (length i ≤ longest_input) × P i (Some h.says.0) sink in
    let there : Q h.bytes = (h.short, subst (λ (t : List ℕ). P h.bytes (Some h.says.0) t) (sym whole) h.says.2) in
    let here : Q input = subst Q (sym is) there in
    (h.says.0, here.0, here.1)

pub told_bad_line : (d : Command) (input rest old sink : List ℕ) (g k : ℕ) → old ≡ [] → HasRun d (Some input) (Some rest) g k (WroteToBadLine (Some old) (Some sink)) → PrintsToBadLine d input sink
told_bad_line command.Session input rest old sink g k empty h = let b = bad_read PrintsSession input rest old sink g k empty h in (b.0, (b.1, b.2))
told_bad_line command.Joined input rest old sink g k empty h = let b = bad_read PrintsJoined input rest old sink g k empty h in (b.0, (b.1, b.2))
told_bad_line command.Check input rest old sink g k empty h = let b = bad_read PrintsCheck input rest old sink g k empty h in (b.0, (b.1, b.2))
told_bad_line command.Resend input rest old sink g k empty h = let b = bad_read PrintsResend input rest old sink g k empty h in (b.0, (b.1, b.2))
told_bad_line (command.Call queue) input rest old sink g k empty h = let b = bad_read (PrintsCalls queue) input rest old sink g k empty h in (b.0, (b.1, b.2))
told_bad_line (command.Generate n) input rest old sink g k empty h =
    (h.0, subst (λ (t : List ℕ). PrintsGenerated n (Some h.0) t) (sym (h.3 ∙ ap (λ (o : List ℕ). o ++ h.1) empty)) h.2)
