use Rattle.std.proofs.Common.{◌≡◌, ◌++◌, length, take}
use Rattle.std.specs.List.{flat_map}
use Rattle.lapin_pool_commands.specs.Printed.{card_line, count_line}
use Rattle.lapin_pool_commands.proofs.printing.put_cards.Given as goal

-- the number of cards and the first k lines are written
abbrev pub invariant-loop-k : goal.invariant-loop-k
invariant-loop-k l = l.text.items ≡ (l.fn.text.items ++ count_line (length l.cards)) ++ flat_map card_line (take l.k l.cards)
