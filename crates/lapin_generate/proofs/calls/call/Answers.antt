use Rattle.lapin_generate.proofs.Growing.{call_passed}
use Rattle.lapin_generate.proofs.calls.call.Goals as goal

pub returns : goal.returns
returns c = call_passed c.args.call c.args.run.now c.make.new.self c.requires.quiet c.in_ok-reported.ensures.ok
