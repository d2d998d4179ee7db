use Rattle.lapin_ticket.proofs.Ending.{ended-answered}
use Rattle.lapin_ticket.proofs.an_end_leaves_no_ticket_open.Goals as goal

pub returns : goal.returns
returns c = ended-answered
