use Rattle.lapin_tables.proofs.Channels.{at-on_other}
use Rattle.lapin_consumer.specs.Indexed.{HasLeft}
use Rattle.lapin_consumer.proofs.Lines.{written_as}
use Rattle.lapin_consumer.proofs.line.leave.Goals as goal

pub returns-clause-here : goal.returns-clause-here
returns-clause-here c = written_as (HasLeft c.args.tag.now) c.args.channel c.in-Some.line.now c.leave.new.self c.args.lines.now.entries c.in-Some.ensures.value c.leave.ensures

pub returns-clause-others : goal.returns-clause-others
returns-clause-others c = λ d apart. at-on_other c.args.channel d (λ _. c.leave.new.self) c.args.lines.now.entries apart
