-- What happens to ackers. A history gives a list of these, oldest first. An acker is named by its number: they are numbered from
-- 1 in the order in which they are added.
use Rattle.std.specs.Prelude.{ℕ, List}

-- one thing that happens to ackers: one is given or called, what some acknowledge is void, or the opening of a channel ended
pub data AckerMark : Type 0 where
  -- a delivery of an opening is whole, and gets the next acker
  Added : (channel opening delivery_tag : ℕ) → AckerMark
  -- a call is made on an acker
  Spent : (number : ℕ) → AckerMark
  -- what these ackers acknowledge is void
  Voided : (numbers : List ℕ) → AckerMark
  -- the channel's opening ended
  Ended : (channel : ℕ) → AckerMark
