use Rattle.lapin_types.specs.Types.frame
use Rattle.lapin_generate.proofs.Growing.{sent_passed}
use Rattle.lapin_generate.proofs.calls.send.Goals as goal

pub returns : goal.returns
returns c = sent_passed (frame.Method 1 c.args.method) c.args.run.now c.try_send.new.self c.in_ok-_sent.ensures.ok
