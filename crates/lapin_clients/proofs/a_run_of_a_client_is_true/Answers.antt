use Rattle.lapin_clients.proofs.Published.{run_is}
use Rattle.lapin_clients.proofs.a_run_of_a_client_is_true.Goals as goal

pub returns : goal.returns
returns c = λ n acts x z new leads alive.
    let g = run_is n acts x z new leads alive in
    (g.0, record { run = g.1; is_true = c.a_session_and_an_honest_broker.ensures n new.large g.0 })
