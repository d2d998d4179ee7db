use Rattle.std.proofs.Common.{◌∙◌, sym}
use Rattle.lapin_check.proofs.Places.{places-written, places-beside}
use Rattle.lapin_check.proofs.unsettled.begin.Goals as goal

pub returns-in-Some-clause-here : goal.returns-in-Some-clause-here
returns-in-Some-clause-here c = places-written c.args.channel c.new.result c.args.unsettled.now.entries c.in-Some.places.now (sym (c.in-Some.ensures.value)) ∙ c.new.ensures

pub returns-in-Some-clause-others : goal.returns-in-Some-clause-others
returns-in-Some-clause-others c = places-beside c.args.channel c.new.result c.args.unsettled.now.entries
