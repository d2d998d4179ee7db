use Rattle.std.proofs.Common.{refl, ◌∙◌, arith}
use Rattle.lapin_tables.specs.declared.block.Block.{Block}
use Rattle.lapin_tables.proofs.Halves.{in-first, in-second, first-changed, second-changed}
use Rattle.lapin_tables.proofs.block.Block.put.Goals as goal

pub returns-then-place-lt-IN_A_HALF-clause-here : goal.returns-then-place-lt-IN_A_HALF-clause-here
returns-then-place-lt-IN_A_HALF-clause-here c =
    let d : Block = record c.args.self.now { first = c.put.new.self } in
    in-first c.args.place d (omega arith) ∙ c.put.ensures.here

pub returns-then-place-lt-IN_A_HALF-clause-others : goal.returns-then-place-lt-IN_A_HALF-clause-others
returns-then-place-lt-IN_A_HALF-clause-others c = λ p small apart.
    let d : Block = record c.args.self.now { first = c.put.new.self } in
    first-changed c.args.place c.args.self.now d c.put.ensures.others refl p apart

pub returns-else-place-lt-IN_A_HALF-clause-here : goal.returns-else-place-lt-IN_A_HALF-clause-here
returns-else-place-lt-IN_A_HALF-clause-here c =
    let d : Block = record c.args.self.now { second = c.put-else-place-lt-IN_A_HALF.new.self } in
    in-second c.args.place d (omega arith) ∙ c.put-else-place-lt-IN_A_HALF.ensures.here

pub returns-else-place-lt-IN_A_HALF-clause-others : goal.returns-else-place-lt-IN_A_HALF-clause-others
returns-else-place-lt-IN_A_HALF-clause-others c =
    let d : Block = record c.args.self.now { second = c.put-else-place-lt-IN_A_HALF.new.self } in
    second-changed c.args.place c.args.self.now d (omega arith) c.put-else-place-lt-IN_A_HALF.ensures.others refl
