use Rattle.lapin_commands.proofs.JoinedRuns.{made_delivered}
use Rattle.lapin_commands.proofs.joined.print_delivered.Goals as goal

pub returns : goal.returns
returns c =
    made_delivered c.put_heard.result c.in_ok-heard.heard c.args.run.now c.deliver_next.new.self c.args.text.now.items c.put_heard.new.text.items c.in_ok-heard.ensures.ok c.in_ok-heard.ensures.told c.put_heard.ensures
