-- The room that a call on a channel uses, and the room for an answer that a call makes itself.
use Rattle.std.specs.Prelude.{◌≡◌, ℕ, ◌<◌, Option, Some, IsSome}
use Rattle.lapin_rules.specs.declared.calls.Answered.{Answered}
use Rattle.lapin_rules.specs.declared.calls.Answered.TheVariants as answered
use Rattle.lapin_ticket.specs.declared.held.Place.{Place}
use Rattle.lapin_outbox.specs.Open.{spare_on}
use Rattle.lapin_outstanding.specs.declared.outstanding.Outstanding.{Outstanding}

-- room for one call on a channel
pub record HasRoom (c : ℕ) (d : Outstanding) : Type 0 where
  pub outbox : 0 < d.outbox.spare
  pub replies : 0 < spare_on c d.replies
  pub tickets : d.tickets.ready ≡ Some c

-- nothing but the room differs
pub record SameOutstanding (old new : Outstanding) : Type 0 where
  pub outbox : new.outbox.what ≡ old.outbox.what
  pub requests : new.replies.what ≡ old.replies.what
  pub slots : new.tickets.slots ≡ old.tickets.slots

-- there is room for the answer of a line that is answered at once; another needs none
abbrev pub HasPlace : Answered → Option Place → Type 0
HasPlace (answered.AtOnce r a) place = IsSome place
HasPlace _ place = Unit {0}
