-- A request that a poll gave is the one that is served.
use Rattle.std.proofs.Common.{◌≡◌, ℕ, List, None, subst}
use Rattle.std.specs.Prelude.{Result}
use Rattle.lapin_types.specs.Types.{Error}
use Rattle.lapin_types.specs.declared.message.Delivery.{Delivery}
use Rattle.lapin_machine.specs.World.{World}
use Rattle.lapin_call.specs.declared.server.Served.{Served}
use Rattle.lapin_call.specs.declared.server.Server.{Server}
use Rattle.lapin_call.specs.declared.server.Polled.{Polled}
use Rattle.lapin_call.specs.declared.server.Polled.TheVariants as polled
use Rattle.lapin_call.specs.Serving.{IsTried, IsNext}

pub next_request : (may : List ℕ → List ℕ → Type 0) (s : Server) (d : Delivery) (p : Polled) (r : Result Served Error) (t : Server) (u v w : World) → polled.Request d ≡ p → u ≡ v → IsTried may s (record { delivery = d; sent = None }) r t u w → IsNext may s p r t v w
next_request may s d p r t u v w told stepped tried =
    subst (λ (x : Polled). IsNext may s x r t v w) told (subst (λ (x : World). IsTried may s (record { delivery = d; sent = None }) r t x w) stepped tried)
