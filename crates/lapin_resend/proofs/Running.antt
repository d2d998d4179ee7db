-- The loop over the steps of a run: the reports so far are those of the steps made.
use Rattle.std.proofs.Common.{◌≡◌, ◌∙◌, ℕ, ◌+◌, ◌<◌, List, [], ◌∷◌, ◌++◌, length, refl, sym, ap, append_assoc, append-nil, arith, length-append}
use Rattle.lapin_resend.specs.declared.step.ResendStep.{ResendStep}
use Rattle.lapin_resend.specs.declared.step.ResendReport.{ResendReport}
use Rattle.lapin_resend.specs.Publisher.{Publisher}
use Rattle.lapin_resend.specs.Resend.{report_of, after_step, new_publisher, publisher_from, publisher_after, reports_from, resend}
use Rattle.lapin_resend.specs.Sending.{Sending, StandsForSteps}
use Rattle.lapin_machine.specs.Growing.{IsStarted}
use Rattle.lapin_resend.specs.Running.{GoesOnBy}

-- these steps were made, and the rest is left
pub record IsAt (n : ℕ) (all : List ResendStep) (start now : List ResendReport) (rest : List ResendStep) (run : Sending) : Type 0 where
  pub made : List ResendStep
  pub split : made ++ rest ≡ all
  pub stands : StandsForSteps n made run
  pub new_is : now ≡ start ++ resend n made

pub at_start : (n : ℕ) (all : List ResendStep) (start : List ResendReport) (run : Sending) → StandsForSteps n [] run → IsAt n all start start all run
at_start n all start run stands = record { made = []; split = refl; stands = stands; new_is = sym (append-nil start) }

pub at_next : (n : ℕ) (all : List ResendStep) (start now new : List ResendReport) (x : ResendStep) (here rest : List ResendStep) (run later : Sending) → IsAt n all start now here run → here ≡ x ∷ rest → ((m : ℕ) (steps : List ResendStep) → StandsForSteps m steps run → GoesOnBy m steps x now new × StandsForSteps m (steps ++ x ∷ []) later) → IsAt n all start new rest later
at_next n all start now new x here rest run later h is told =
    let one = told n h.made h.stands in
    record {
      made = h.made ++ x ∷ [];
      split = append_assoc h.made (x ∷ []) rest ∙ ap (λ (ss : List ResendStep). h.made ++ ss) (sym is) ∙ h.split;
      stands = one.1;
      new_is = one.0.new_is ∙ ap (λ (rs : List ResendReport). rs ++ one.0.told ∷ []) h.new_is ∙ append_assoc start (resend n h.made) (one.0.told ∷ []) ∙ ap (λ (rs : List ResendReport). start ++ rs) (sym one.0.last);
    }

-- fewer steps were made than there are
pub few_made : (n : ℕ) (all : List ResendStep) (start now : List ResendReport) (x : ResendStep) (here rest : List ResendStep) (run : Sending) → IsAt n all start now here run → here ≡ x ∷ rest → run.steps < length all
few_made n all start now x here rest run h is =
    let long : length (h.made ++ here) ≡ length h.made + length here = length-append h.made here in
    let whole : length (h.made ++ here) ≡ length all = ap length h.split in
    let one : length here ≡ length (x ∷ rest) = ap length is in
    omega (arith, h.stands.count, long, whole, one)

pub at_end : (n : ℕ) (all : List ResendStep) (start now : List ResendReport) (here : List ResendStep) (run : Sending) → IsAt n all start now here run → here ≡ [] → now ≡ start ++ resend n all
at_end n all start now here run h is =
    let whole : h.made ≡ all = sym (append-nil h.made) ∙ ap (λ (ss : List ResendStep). h.made ++ ss) (sym is) ∙ h.split in
    h.new_is ∙ ap (λ (ss : List ResendStep). start ++ resend n ss) whole

from-append : (n : ℕ) (ss more : List ResendStep) (p : Publisher) → reports_from n (ss ++ more) p ≡ reports_from n ss p ++ reports_from n more (publisher_from n ss p)
from-append n [] more p = refl
from-append n (s ∷ ss) more p = ap (λ (rs : List ResendReport). report_of n s p ∷ rs) (from-append n ss more (after_step n s p))

-- where a step found no memory, the first reports are there
pub at_stop : (n : ℕ) (all : List ResendStep) (start now new : List ResendReport) (here : List ResendStep) (run : Sending) → IsAt n all start now here run → new ≡ now → IsStarted start new (resend n all)
at_stop n all start now new here run h same = (
  reports_from n here (publisher_after n h.made),
  record {
    done = resend n h.made;
    whole = sym (from-append n h.made here (new_publisher n)) ∙ ap (resend n) h.split;
    new_is = same ∙ h.new_is;
  },
)
