-- A list that gets the reports of a run, one by one.
use Rattle.std.specs.Prelude.{◌≡◌, ℕ, List, [], ◌∷◌, ◌++◌}
use Rattle.lapin_resend.specs.declared.step.ResendStep.{ResendStep}
use Rattle.lapin_resend.specs.declared.step.ResendReport.{ResendReport}
use Rattle.lapin_resend.specs.Resend.{resend}

-- one report is at the end, the last one of the longer list of steps
pub record GoesOnBy (n : ℕ) (steps : List ResendStep) (step : ResendStep) (old new : List ResendReport) : Type 0 where
  pub told : ResendReport
  pub last : resend n (steps ++ step ∷ []) ≡ resend n steps ++ told ∷ []
  pub new_is : new ≡ old ++ told ∷ []
