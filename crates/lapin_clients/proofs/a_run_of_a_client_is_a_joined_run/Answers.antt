use Rattle.std.proofs.Common.{◌++◌, ℕ, subst}
use Rattle.lapin_clients.specs.Joined.{hearing}
use Rattle.lapin_clients.specs.Strays.{AreComing}
use Rattle.lapin_clients.proofs.Published.{run_is}
use Rattle.lapin_clients.proofs.Strays.{alone_coming}
use Rattle.lapin_clients.proofs.a_run_of_a_client_is_a_joined_run.Goals as goal

pub returns-clause-run : goal.returns-clause-run
returns-clause-run c = run_is

pub returns-clause-alone : goal.returns-clause-alone
returns-clause-alone c = λ n x j is none.
    alone_coming n (x.client.came ++ x.down) (hearing j.session) j.down (subst (λ (m : ℕ). AreComing n (x.client.came ++ x.down) (hearing j.session) m j.down) none is.down)
