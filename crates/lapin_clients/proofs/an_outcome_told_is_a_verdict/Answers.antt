use Rattle.lapin_clients.proofs.Outcomes.{verdicts_told}
use Rattle.lapin_clients.proofs.an_outcome_told_is_a_verdict.Goals as goal

pub returns : goal.returns
returns c = λ n acts. verdicts_told n (c.a_session_and_an_honest_broker.ensures n) acts
