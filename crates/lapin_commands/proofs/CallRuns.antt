-- What calls over queues owe as a run that an input drives.
use Rattle.std.proofs.Common.{◌≡◌, ◌∙◌, ℕ, ◌+◌, ◌≤◌, ◌^◌, List, [], ◌∷◌, ◌++◌, Option, Some, false, refl, sym, ap, subst, arith}
use Rattle.std.specs.Prelude.{Result, Ok, Err, IfOk}
use Rattle.lapin_machine.specs.World.{new_world}
use Rattle.lapin_machine.specs.Way.{by_machine}
use Rattle.lapin_text.specs.Input.{lines_of, max_line, IsMax, AreSteps, LinesSay}
use Rattle.lapin_text.specs.Records.{line_onto}
use Rattle.lapin_call.specs.declared.step.CallStep.{CallStep}
use Rattle.lapin_call.specs.Calls.{new_requester, after, report, reports}
use Rattle.lapin_call.specs.CallRun.{CallRun}
use Rattle.lapin_call.proofs.Alike.{reports_calls}
use Rattle.lapin_call_text.specs.Steps.{step_line, HasLine, NoLine}
use Rattle.lapin_call_text.specs.Reports.{report_tokens, report_line, reports_text}
use Rattle.lapin_inputs.specs.Printing.{Adds, bad_line_text}
use Rattle.lapin_inputs.proofs.Streaming.{adds_by, prints_by}
use Rattle.lapin_commands.specs.Call.{calls_text, PrintsCalls, CallsGoOn}
use Rattle.lapin_commands.proofs.Runs.{line_grown}

calls_add : (k m : CallRun) (s : CallStep) (line old new : List ℕ) → HasLine s → line ≡ step_line s → m ≡ record { requester = after by_machine s k.requester; steps = k.steps + 1; stopped = false } → new ≡ line_onto old (report_tokens (report by_machine s k.requester)) ++ 10 ∷ [] → Adds (CallsGoOn k) (CallsGoOn m) line old new
calls_add k m s line old new fit is made grown =
    subst (λ (x : CallRun). Adds (CallsGoOn k) (CallsGoOn x) line old new) (sym made)
    (adds_by (AreSteps step_line HasLine) report_line (λ ss. reports by_machine ss k.requester) (λ ss. reports by_machine ss (after by_machine s k.requester)) s (report by_machine s k.requester) line old new (λ n lines ss bad are. (fit, is, are)) (λ ss. refl) (grown ∙ line_grown old (report_tokens (report by_machine s k.requester))))

-- calls that stand where these stand add what these add
pub calls_add_from : (k m : CallRun) (s : CallStep) (line old new : List ℕ) → HasLine s → line ≡ step_line s → m ≡ record { requester = after by_machine s k.requester; steps = k.steps + 1; stopped = false } → new ≡ line_onto old (report_tokens (report by_machine s k.requester)) ++ 10 ∷ [] → (past : CallRun) → past ≡ k → (now : CallRun) × (now ≡ m) × Adds (CallsGoOn past) (CallsGoOn now) line old new
calls_add_from k m s line old new fit is made grown past here = (m, refl, subst (λ (x : CallRun). Adds (CallsGoOn x) (CallsGoOn m) line old new) (sym here) (calls_add k m s line old new fit is made grown))

pub calls_stop : (k : CallRun) (n : ℕ) (lines : List (List ℕ)) (line : List ℕ) → NoLine line → CallsGoOn k n (line ∷ lines) (Some n) []
calls_stop k n lines line none = record { steps = []; are = (refl, none); printed = refl }

-- calls that were just made, with the queue of the replies
abbrev pub new_calls : ℕ → List ℕ → CallRun
new_calls m queue = record { requester = new_requester by_machine (new_world m) queue; steps = 0; stopped = false }

calls_whole : (m : ℕ) (queue : List ℕ) (k : CallRun) (input : List ℕ) (lines : List (List ℕ)) (bad : Option ℕ) (text : List ℕ) → k ≡ new_calls m queue → IsMax m → lines_of input ≡ max_line m ∷ lines → CallsGoOn k 2 lines bad text → PrintsCalls queue input bad (text ++ bad_line_text bad)
calls_whole m queue k input lines bad text new ok is p =
    prints_by (LinesSay step_line HasLine) (AreSteps step_line HasLine) (calls_text queue) (λ ss. reports_text (reports by_machine ss k.requester)) m input lines bad text
    (λ ss are. subst (λ (ls : List (List ℕ)). LinesSay step_line HasLine ls (Some m) ss bad) (sym is) (ok, refl, are))
    (λ ss. ap reports_text (ap (λ (x : CallRun). reports by_machine ss x.requester) new ∙ reports_calls m queue ss))
    p

pub calls_begin : {E : Type 0} (r : Result CallRun E) (m : ℕ) (queue argument : List ℕ) → queue ≡ argument → IfOk r (λ k. k ≡ new_calls m queue) → IfOk r (λ k. (past : CallRun) × (past ≡ k) × ((input : List ℕ) (lines : List (List ℕ)) (bad : Option ℕ) (text : List ℕ) → IsMax m → lines_of input ≡ max_line m ∷ lines → CallsGoOn past 2 lines bad text → PrintsCalls argument input bad (text ++ bad_line_text bad)))
calls_begin (Ok k) m queue argument same new = (k, refl, λ input lines bad text ok is p. calls_whole m argument k input lines bad text (new ∙ ap (new_calls m) same) ok is p)
calls_begin (Err e) m queue argument same new = tt

pub calls_take : {E : Type 0} (r : Result CallRun E) (m : ℕ) (queue : List ℕ) → IfOk r (λ k. k ≡ new_calls m queue) → IfOk r (λ k. (n : ℕ) → n ≤ 2 ^ 31 → k.steps + n ≤ 2 ^ 31)
calls_take (Ok k) m queue new = λ n few. let none : k.steps ≡ 0 = ap (λ (x : CallRun). x.steps) new in omega (arith, none, few)
calls_take (Err e) m queue new = tt
