-- That a client behind a handle is sound is one fact.
use Rattle.std.specs.Prelude.{Option}
use Rattle.std.proofs.Props.{props}
use Rattle.std.specs.Option.{ForSome}
use Rattle.lapin_client.specs.declared.client.Client.{Client}
use Rattle.lapin_client.specs.Clients.{IsSound, HasRoomFor}

pub sound_once : (o : Option Client) → IsProp (ForSome o (λ c. IsSound c))
unfolding HasRoomFor
sound_once o = hlevel props
