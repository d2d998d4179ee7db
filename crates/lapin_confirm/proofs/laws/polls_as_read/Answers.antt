use Rattle.std.proofs.Common.{ap}
use Rattle.lapin_confirm.specs.Aside.{refused_as}
use Rattle.lapin_confirm.proofs.Polling.{polled-read}
use Rattle.lapin_confirm.proofs.laws.polls_as_read.Goals as goal

pub returns : goal.returns
returns a = record { polled = polled-read; aside = λ n ms p f. ap refused_as (polled-read n ms p f) }
