use Rattle.std.proofs.Common.{◌≡◌, ◌+◌, ◌≤◌, ◌++◌, length, vec_len, vec_capacity}
use Rattle.std.specs.Prelude.{reverse}
use Rattle.lapin_pool.specs.Unread.{unread_cards}
use Rattle.lapin_pool.proofs.ending.with_unread.Given as goal

-- the cards so far and those of the steps that are left are all; there is room for the latter
abbrev pub invariant-loop-place : goal.invariant-loop-place
invariant-loop-place l = record {
  all : l.cards.items ++ unread_cards l.history (reverse l.unread.items) ≡ l.fn.cards.items ++ unread_cards l.history (reverse l.fn.unread.items);
  room : length l.cards.items + length l.unread.items ≤ vec_capacity l.cards;
}

abbrev pub decreases-loop-place : goal.decreases-loop-place
decreases-loop-place l = vec_len l.unread
