use Rattle.std.proofs.Common.{ℕ, ◌≤◌, arith}
use Rattle.lapin_verdicts.specs.Session.{Numbers}
use Rattle.lapin_verdicts.proofs.Whole.{whole, delivered}
use Rattle.lapin_verdicts.proofs.Numbered.{numbers_hold}
use Rattle.lapin_verdicts.proofs.Together.{in_step}
use Rattle.lapin_verdicts.proofs.verdicts.a_confirm_is_a_verdict.Goals as goal

numbers : (n : ℕ) → 4096 ≤ n → Numbers n
numbers n most = numbers_hold n (omega (arith, most))

pub returns-clause-run : goal.returns-clause-run
returns-clause-run c = λ n most. whole n (numbers n most) (in_step n most)

pub returns-clause-step : goal.returns-clause-step
returns-clause-step c = λ n most. delivered n (numbers n most) (in_step n most)
