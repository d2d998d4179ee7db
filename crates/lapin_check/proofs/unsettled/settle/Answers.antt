use Rattle.std.proofs.Common.{sym}
use Rattle.lapin_check.proofs.Places.{settled_there, settled_nowhere}
use Rattle.lapin_check.proofs.unsettled.settle.Goals as goal

pub returns-in-Some : goal.returns-in-Some
returns-in-Some c = settled_there c.args.settlement c.args.opening c.args.place c.args.unsettled.now.entries c.args.account.now.items c.in-Some.places.now c.settle_in.new.places c.settle_in.new.account.items (sym (c.in-Some.ensures.value)) c.settle_in.ensures.marked c.settle_in.ensures.long c.settle_in.ensures.points

pub returns-in_default : goal.returns-in_default
returns-in_default c = settled_nowhere c.args.settlement c.args.opening c.args.place c.args.unsettled.now.entries c.args.account.now.items (sym (c.in_default.ensures.value)) c.requires
