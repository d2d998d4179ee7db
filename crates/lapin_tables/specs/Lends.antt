-- What a table ends as, where a `&mut` to one of its values is returned.
use Rattle.std.specs.Prelude.{ℕ, Option, Some}
use Rattle.std.specs.Borrow.{Lends, LendsIf, Fml, RattleType, MutBor}
use Rattle.lapin_tables.specs.ByChannel.{Table, on_channel}
use Rattle.lapin_tables.specs.Numbered.{Slots, with_under}
use Rattle.lapin_tables.specs.contracts.by_channel.ByChannel.{the_row}
use Rattle.lapin_tables.specs.contracts.numbered.Numbered.{the_row as numbered_row}

-- the table after a write of the value of a channel
abbrev pub with_value : {T : Type 0} → ℕ → Table T → T → Table T
with_value c t w = record t { entries = on_channel c (λ _. w) t.entries }

module _ (T : RattleType) (s : MutBor (Table T.Denot)) (c : ℕ) where
  -- once the borrow r ends, the channel has the last value written through r
  abbrev pub LendsValue : MutBor T.Denot → Fml
  LendsValue r = Lends (the_row T) T s r (with_value c s.now)

  -- the same where r is a reference, and at `None` the table stays as it is
  abbrev pub LendsFound : Option (MutBor T.Denot) → Fml
  LendsFound r = LendsIf (the_row T) T s r (with_value c s.now) s.now

-- the slots after a write of the value under a number
abbrev pub with_number : {T : Type 0} → ℕ → Slots T → T → Slots T
with_number n s w = record s { slots = with_under n (Some w) s.slots }

-- once the borrow r ends, the number has the last value written through r, and at `None` the slots stay as they are
abbrev pub LendsUnder : (T : RattleType) → MutBor (Slots T.Denot) → ℕ → Option (MutBor T.Denot) → Fml
LendsUnder T s n r = LendsIf (numbered_row T) T s r (with_number n s.now) s.now
