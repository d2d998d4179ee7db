use Rattle.lapin_generate.proofs.Growing.{read_passed}
use Rattle.lapin_generate.proofs.calls.read.Goals as goal

pub returns : goal.returns
returns c = read_passed c.args.run.now c.read_next.new.self c.in_ok-_some.ensures.ok
