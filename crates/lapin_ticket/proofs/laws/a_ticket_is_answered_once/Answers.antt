use Rattle.lapin_ticket.proofs.Once.{answer-stays, closed-now, closed-still}
use Rattle.lapin_ticket.proofs.laws.a_ticket_is_answered_once.Goals as goal

pub returns : goal.returns
returns c = record { stays = answer-stays; closes = closed-now; stays_closed = closed-still }
