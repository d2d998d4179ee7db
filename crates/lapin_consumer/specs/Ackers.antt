-- The ackers of what consumers were handed. What becomes of an acker stands in the crate of ackers.
use Rattle.std.specs.Prelude.{ℕ, if◌then◌else◌, List, [], ◌∷◌, Some, Ok}
use Rattle.lapin_consumer.specs.Words.{gather_at}
use Rattle.lapin_consumer.specs.Subscriptions.{Handed, Consumer, is_on}

-- the ackers of the deliveries among things that were handed
abbrev pub ackers_of : List Handed → List ℕ
ackers_of [] = []
ackers_of (Ok (Some d) ∷ ys) = d.acker.number ∷ ackers_of ys
ackers_of (y ∷ ys) = ackers_of ys

-- the ackers of what is queued for the registered consumers of a channel, in rising number of consumers
abbrev pub ackers_on : ℕ → List Consumer → List ℕ
ackers_on c xs = gather_at (λ _ x. if is_on c x then ackers_of x.items else []) xs
