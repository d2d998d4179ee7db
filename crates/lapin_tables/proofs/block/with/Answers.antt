use Rattle.std.proofs.Common.{ap, ◌==◌, w32}
use Rattle.std.proofs.lemmas.Nat.Bits.{bit_at_set_same, bit_at_set_other, bit_at_clear_same, bit_at_clear_other}
use Rattle.lapin_tables.proofs.block.with.Goals as goal

pub returns-then-set-clause-here : goal.returns-then-set-clause-here
returns-then-set-clause-here c = rw c.if-set.true (ap (λ b. b == 1) (bit_at_set_same w32 c.args.word c.args.place c.requires))

pub returns-then-set-clause-others : goal.returns-then-set-clause-others
returns-then-set-clause-others c = λ p low apart. bit_at_set_other w32 c.args.word c.args.place c.requires p apart

pub returns-else-set-clause-here : goal.returns-else-set-clause-here
returns-else-set-clause-here c = rw c.if-set.false (ap (λ b. b == 1) (bit_at_clear_same w32 c.args.word c.args.place c.requires))

pub returns-else-set-clause-others : goal.returns-else-set-clause-others
returns-else-set-clause-others c = bit_at_clear_other w32 c.args.word c.args.place c.requires
