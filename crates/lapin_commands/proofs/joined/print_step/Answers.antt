use Rattle.lapin_commands.proofs.JoinedRuns.{made_reported}
use Rattle.lapin_commands.proofs.joined.print_step.Goals as goal

pub returns : goal.returns
returns c =
    made_reported c.put_line-put.result c.args.step c.args.run.now c.make.new.self c.in_ok-reported.reported c.args.text.now.items c.put_line-put.new.text.items c.in_ok-reported.ensures.ok c.in_ok-reported.ensures.told c.put_line-put.ensures
