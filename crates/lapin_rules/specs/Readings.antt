-- What the rules need to know of confirms and tickets beside the states, lists and requests.
use Rattle.std.specs.Prelude.{ℕ, Bool, List}
use Rattle.lapin_types.specs.declared.message.BasicReturnMessage.{BasicReturnMessage}
use Rattle.lapin_types.specs.declared.record.Record.{Record}

-- It is made once from the marks of a history, and once from what a session keeps.
pub record Readings : Type 0 where
  -- whether the channel's opening is selected, and its last tag taken
  pub selected : ℕ → Bool
  pub last : ℕ → ℕ
  -- whether a tag is pending on a channel
  pub pending : ℕ → ℕ → Bool
  -- what a poll of a confirm's or a ticket's number gives
  pub confirm : ℕ → Record
  pub ticket : ℕ → Record
  -- what setting a confirm or a ticket of this number aside gives
  pub confirm_aside : ℕ → Record
  pub ticket_aside : ℕ → Record
  -- whether the channel's live opening accepted a `confirm.select` call, and whether one of its publishes is then queued or pending
  pub asked : ℕ → Bool
  pub waited : ℕ → Bool
  -- whether the channel is full, so that no further publish of it begins; its limit, 0 for none, and whether it is at its limit
  pub full : ℕ → Bool
  pub limit : ℕ → ℕ
  pub at_limit : ℕ → Bool
  -- the returned messages of the channel that are asked for once none is
  pub returned : ℕ → List BasicReturnMessage
