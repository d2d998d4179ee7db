use Rattle.lapin_generate.proofs.Growing.{delivered_passed}
use Rattle.lapin_generate.proofs.calls.deliver.Goals as goal

pub returns : goal.returns
returns c = delivered_passed c.args.run.now c.deliver_next.new.self c.in_ok-heard.ensures.ok
