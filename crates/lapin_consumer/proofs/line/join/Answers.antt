use Rattle.std.specs.Prelude.{string_bytes}
use Rattle.lapin_tables.proofs.Channels.{at-on_other}
use Rattle.lapin_consumer.specs.Indexed.{HasJoined}
use Rattle.lapin_consumer.proofs.Lines.{written_as}
use Rattle.lapin_consumer.proofs.line.join.Goals as goal

pub returns-clause-here : goal.returns-clause-here
returns-clause-here c = written_as (HasJoined c.args.place (string_bytes c.args.tag)) c.args.channel c.in-Some.line.now c.join.new.self c.args.lines.now.entries c.in-Some.ensures.value c.join.ensures

pub returns-clause-others : goal.returns-clause-others
returns-clause-others c = λ d apart. at-on_other c.args.channel d (λ _. c.join.new.self) c.args.lines.now.entries apart
