use Rattle.std.proofs.Common.{◌≡◌, ◌+◌, ◌≤◌, ◌++◌, false, map, length, vec_len, vec_capacity}
use Rattle.std.specs.Prelude.{reverse}
use Rattle.lapin_pool.specs.Seats.{caller_of, cards_of, unread_of}
use Rattle.lapin_pool.proofs.seating.unseat.Given as goal

-- the callers of the seats that are left are the next ones, and so are their cards and unread steps; there is room for them
abbrev pub invariant-loop-seat : goal.invariant-loop-seat
invariant-loop-seat g l = record {
  callers : l.callers.items ++ reverse (map caller_of l.seats.items) ≡ l.initial.callers.items ++ reverse (map caller_of l.fn.seats.items);
  cards : l.dealt.short ≡ false → l.dealt.cards.items ++ cards_of l.seats.items ≡ l.initial.dealt.cards.items ++ cards_of l.fn.seats.items;
  left : l.dealt.unread.items ++ unread_of l.seats.items ≡ l.initial.dealt.unread.items ++ unread_of l.fn.seats.items;
  room : length l.callers.items + length l.seats.items ≤ vec_capacity l.callers;
  noted : length l.dealt.unread.items + length l.seats.items ≤ vec_capacity l.dealt.unread;
}

abbrev pub decreases-loop-seat : goal.decreases-loop-seat
decreases-loop-seat g l = vec_len l.seats
