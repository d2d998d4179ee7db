-- What of a consumer's log its items and jobs carry.
use Rattle.std.specs.Prelude.{Bool, true, false, List, [], ◌∷◌}
use Rattle.lapin_consumer.specs.Subscriptions.{Handed}
use Rattle.lapin_consumer.specs.Readings.{Entry, Waiting, Given, MadeJob, Void}

-- it is marked as discarded
abbrev pub is_void : Entry → Bool
is_void (Void y) = true
is_void _ = false

-- what came as an item, which waits for a poll or was given by one, or as a job, in order of arrival; a discarded thing is neither
abbrev pub carried : List Entry → List Handed
carried [] = []
carried (Waiting y ∷ es) = y ∷ carried es
carried (Given y ∷ es) = y ∷ carried es
carried (MadeJob y ∷ es) = y ∷ carried es
carried (Void y ∷ es) = carried es
