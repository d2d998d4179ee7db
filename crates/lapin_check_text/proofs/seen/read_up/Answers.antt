use Rattle.lapin_check_text.proofs.SeenLaws.{up_found, up_none}
use Rattle.lapin_check_text.proofs.seen.read_up.Goals as goal

pub returns-in-Some-clause-found : goal.returns-in-Some-clause-found
returns-in-Some-clause-found c = up_found c.args.line.now c.args.rest.now c.in-Some.frame c.requires (rw c.in-Some.is at c.in_ok-frame.ensures.found)

pub returns-in-None-clause-none : goal.returns-in-None-clause-none
returns-in-None-clause-none c = up_none c.args.line.now c.args.rest.now c.requires (rw c.in-None.is at c.in_ok-frame.ensures.none)
