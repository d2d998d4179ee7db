use Rattle.std.proofs.Common.{refl}
use Rattle.std.proofs.lemmas.Nat.Bits.{bit_at-zero}
use Rattle.lapin_tables.specs.declared.block.Block.{Block}
use Rattle.lapin_tables.proofs.Halves.{both-empty}
use Rattle.lapin_tables.proofs.block.Block.new.Goals as goal

pub returns : goal.returns
returns c =
    let b : Block = record { alike = c.args.alike; first = record { low = 0; high = 0 }; second = record { low = 0; high = 0 } } in
    both-empty b (λ p. rw (bit_at-zero p) refl) (λ p. rw (bit_at-zero p) refl)
