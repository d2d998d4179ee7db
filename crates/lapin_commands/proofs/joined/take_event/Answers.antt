use Rattle.lapin_commands.proofs.JoinedRuns.{event_made}
use Rattle.lapin_commands.proofs.joined.take_event.Goals as goal

pub returns : goal.returns
returns c =
    event_made c.take_line.result c.args.line.now c.args.said.now _ c.args.run.now c.take_line.new.session c.args.text.now.items c.take_line.new.text.items c.run.view_is c.requires.behind c.requires.request c.requires.frame c.requires.loss c.take_line.ensures
