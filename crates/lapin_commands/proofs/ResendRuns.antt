-- What a publisher that sends again owes as a run that an input drives.
use Rattle.std.proofs.Common.{◌≡◌, ◌∙◌, ℕ, ◌+◌, ◌≤◌, ◌^◌, List, [], ◌∷◌, ◌++◌, Option, Some, refl, sym, ap, subst, arith}
use Rattle.std.specs.Prelude.{Result, Ok, Err, IfOk}
use Rattle.lapin_text.specs.Input.{lines_of, max_line, IsMax, AreSteps, LinesSay}
use Rattle.lapin_text.specs.Records.{line_onto}
use Rattle.lapin_resend.specs.declared.step.ResendStep.{ResendStep}
use Rattle.lapin_resend.specs.declared.step.ResendReport.{ResendReport}
use Rattle.lapin_resend.specs.Publisher.{Publisher}
use Rattle.lapin_resend.specs.Resend.{report_of, after_step, new_publisher, publisher_after, reports_from, resend}
use Rattle.lapin_resend.specs.Sending.{Sending, StandsForSteps, most_steps}
use Rattle.lapin_resend_text.specs.Steps.{step_line, HasLine, NoLine}
use Rattle.lapin_resend_text.specs.Reports.{resend_tokens, resend_line}
use Rattle.lapin_inputs.specs.Printing.{Adds, bad_line_text}
use Rattle.lapin_commands.specs.Resend.{PrintsResend, ResendGoesOn, resend_text, text_after}
use Rattle.lapin_commands.proofs.Runs.{line_grown}
use Rattle.lapin_inputs.proofs.Streaming.{adds_by, prints_by}
use Rattle.lapin_resend.proofs.Sending.{from-push, reports-push}

-- ---- one step more

last_same : (rs : List ResendReport) (a b : ResendReport) → rs ++ a ∷ [] ≡ rs ++ b ∷ [] → a ≡ b
last_same [] a b e = cc
last_same (r ∷ rs) a b e = last_same rs a b (behind e)
  where
    behind : r ∷ (rs ++ a ∷ []) ≡ r ∷ (rs ++ b ∷ []) → rs ++ a ∷ [] ≡ rs ++ b ∷ []
    behind e = cc

-- its report comes first, and then those of the steps behind it
one_first : (m : ℕ) (made : List ResendStep) (s : ResendStep) (r : ResendReport) → resend m (made ++ s ∷ []) ≡ resend m made ++ r ∷ [] → (ss : List ResendStep) → reports_from m (s ∷ ss) (publisher_after m made) ≡ r ∷ reports_from m ss (publisher_after m (made ++ s ∷ []))
one_first m made s r last ss =
    let p : Publisher = publisher_after m made in
    let same : report_of m s p ≡ r = last_same (resend m made) (report_of m s p) r (sym (reports-push m made s (new_publisher m)) ∙ last) in
    ap (λ (x : ResendReport). x ∷ reports_from m ss (after_step m s p)) same
    ∙ ap (λ (q : Publisher). r ∷ reports_from m ss q) (sym (from-push m made s (new_publisher m)))

pub resend_adds : (m : ℕ) (made : List ResendStep) (s : ResendStep) (r : ResendReport) (line old new : List ℕ) → HasLine s → line ≡ step_line s → resend m (made ++ s ∷ []) ≡ resend m made ++ r ∷ [] → new ≡ line_onto old (resend_tokens r) ++ 10 ∷ [] → Adds (ResendGoesOn m made) (ResendGoesOn m (made ++ s ∷ [])) line old new
resend_adds m made s r line old new fit is last grown =
    adds_by (AreSteps step_line HasLine) resend_line (λ ss. reports_from m ss (publisher_after m made)) (λ ss. reports_from m ss (publisher_after m (made ++ s ∷ []))) s r line old new (λ n lines ss bad are. (fit, is, are)) (one_first m made s r last) (grown ∙ line_grown old (resend_tokens r))

pub resend_stops : (m : ℕ) (made : List ResendStep) (n : ℕ) (lines : List (List ℕ)) (line : List ℕ) → NoLine line → ResendGoesOn m made n (line ∷ lines) (Some n) []
resend_stops m made n lines line none = record { steps = []; are = (refl, none); printed = refl }

-- ---- it begins

-- what stands for these steps prints, behind a first line, what a publisher prints that begins new
abbrev Begins : ℕ → ℕ × List ResendStep → Type 0
Begins m past = (input : List ℕ) (lines : List (List ℕ)) (bad : Option ℕ) (text : List ℕ) → IsMax m → lines_of input ≡ max_line m ∷ lines → ResendGoesOn past.0 past.1 2 lines bad text → PrintsResend input bad (text ++ bad_line_text bad)

pub resend_begins : {E : Type 0} (r : Result Sending E) (m : ℕ) → IfOk r (λ k. StandsForSteps m [] k) → IfOk r (λ k. (past : ℕ × List ResendStep) × StandsForSteps past.0 past.1 k × ((input : List ℕ) (lines : List (List ℕ)) (bad : Option ℕ) (text : List ℕ) → IsMax m → lines_of input ≡ max_line m ∷ lines → ResendGoesOn past.0 past.1 2 lines bad text → PrintsResend input bad (text ++ bad_line_text bad)))
resend_begins (Ok k) m stands = ((m, []), stands, whole)
  where
    whole : Begins m (m, [])
    whole input lines bad text ok is p =
        prints_by (LinesSay step_line HasLine) (AreSteps step_line HasLine) resend_text (text_after m []) m input lines bad text
        (λ ss are. subst (λ (ls : List (List ℕ)). LinesSay step_line HasLine ls (Some m) ss bad) (sym is) (ok, refl, are))
        (λ ss. refl)
        p
resend_begins (Err e) m stands = tt

pub resend_takes : {E : Type 0} (r : Result Sending E) (m : ℕ) → IfOk r (λ k. StandsForSteps m [] k) → IfOk r (λ k. (n : ℕ) → n ≤ 2 ^ 31 → k.steps + n ≤ most_steps)
resend_takes (Ok k) m stands = λ n few. let none : k.steps ≡ 0 = stands.count in omega (arith, none, few)
resend_takes (Err e) m stands = tt
