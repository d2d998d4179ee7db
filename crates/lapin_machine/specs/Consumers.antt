-- A consumer that is let go: where its cancel goes, and under which tag.
use Rattle.std.specs.Prelude.{ℕ, if◌then◌else◌, List, [], Option, Some, None}
use Rattle.lapin_consumer.specs.Subscriptions.{Consumer}
use Rattle.lapin_rules.specs.Wire.{Wire, state_of, is_open}

-- the channel of the consumer, where it is open
abbrev pub let_go_on : Option Consumer → Wire → Option ℕ
let_go_on None b = None
let_go_on (Some x) b = if is_open (state_of x.channel b) then Some x.channel else None

-- the tag under which the consumer's cancel goes, empty where there is no such consumer
abbrev pub let_go_tag : Option Consumer → List ℕ
let_go_tag None = []
let_go_tag (Some x) = x.tag
