use Rattle.std.proofs.Common.{arith}
use Rattle.lapin_machine.specs.World.{next}
use Rattle.lapin_bounded.specs.Made.{limiting}
use Rattle.lapin_bounded.proofs.Steps.{limited, stepped}
use Rattle.lapin_bounded.proofs.Publisher.limit.Goals as goal

pub invariant_of-self : goal.invariant_of-self
invariant_of-self c = record {
  guarded = stepped c.call.result c.args.self.now.session c.call.new.self (next c.args.self.now.session limiting) c.call.ensures.ok c.call.ensures.err c.args.self.now.guarded
      (c.a_careful_caller_is_guarded.ensures.next 100 1 c.args.self.now.session limiting c.args.self.now.guarded (λ _. (omega arith, omega arith)));
}

pub returns-clause-may : goal.returns-clause-may
returns-clause-may c = limited c.call.result c.call.new.self (next c.args.self.now.session limiting) c.call.ensures.ok
    (c.a_careful_caller_is_guarded.ensures.set 100 1 100 c.args.self.now.session (omega arith) (omega arith) c.args.self.now.guarded)

pub returns-clause-bound : goal.returns-clause-bound
returns-clause-bound c = c.a_careful_caller_is_guarded.ensures.bound 100 1 c.call.new.self (
    stepped c.call.result c.args.self.now.session c.call.new.self (next c.args.self.now.session limiting) c.call.ensures.ok c.call.ensures.err c.args.self.now.guarded
    (c.a_careful_caller_is_guarded.ensures.next 100 1 c.args.self.now.session limiting c.args.self.now.guarded (λ _. (omega arith, omega arith)))
    )
