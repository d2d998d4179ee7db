-- What happens to contents, in the words of the protocol (AMQP 0-9-1, section 4.2.6). A history gives a list of these, oldest
-- first.
use Rattle.std.specs.Prelude.{ℕ, List}
use Rattle.lapin_methods.specs.declared.frame.ContentHeader.{ContentHeader}
use Rattle.lapin_content.specs.declared.start.Start.{Start}

-- what happened to the contents that a channel expects
pub data ContentMark : Type 0 where
  -- a method that carries a content of a class came on a channel
  Awaited : (channel class_id : ℕ) (start : Start) → ContentMark
  -- a header came
  Header : (channel : ℕ) (header : ContentHeader) → ContentMark
  -- a body came
  Body : (channel : ℕ) (bytes : List ℕ) → ContentMark
  -- the content at the front was given up
  Reset : (channel : ℕ) → ContentMark
  -- the channel's opening ended
  Dropped : (channel : ℕ) → ContentMark
