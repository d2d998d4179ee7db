use Rattle.lapin_machine.specs.World.{next}
use Rattle.lapin_bounded.proofs.Steps.{made, stepped}
use Rattle.lapin_bounded.proofs.Publisher.make.Goals as goal

pub invariant_of-self : goal.invariant_of-self
invariant_of-self c = record {
  guarded = stepped c.step.result c.args.self.now.session c.step.new.self (next c.args.self.now.session c.args.event) c.step.ensures.ok c.step.ensures.err c.args.self.now.guarded
      (c.a_careful_caller_is_guarded.ensures.next 100 1 c.args.self.now.session c.args.event c.args.self.now.guarded c.requires.careful);
}

pub returns-clause-made : goal.returns-clause-made
returns-clause-made c = made c.step.result c.args.self.now.session c.step.new.self c.args.event c.step.ensures.told c.step.ensures.ok c.step.ensures.err c.step.ensures.cause

pub returns-clause-bound : goal.returns-clause-bound
returns-clause-bound c = c.a_careful_caller_is_guarded.ensures.bound 100 1 c.step.new.self (
    stepped c.step.result c.args.self.now.session c.step.new.self (next c.args.self.now.session c.args.event) c.step.ensures.ok c.step.ensures.err c.args.self.now.guarded
    (c.a_careful_caller_is_guarded.ensures.next 100 1 c.args.self.now.session c.args.event c.args.self.now.guarded c.requires.careful)
    )
