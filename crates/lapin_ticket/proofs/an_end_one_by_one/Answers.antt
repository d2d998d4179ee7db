use Rattle.lapin_ticket.proofs.Ending.{end-next, end-done, close-next, close-done}
use Rattle.lapin_ticket.proofs.an_end_one_by_one.Goals as goal

pub returns : goal.returns
returns c = record { next = end-next; done = end-done; closing = close-next; closed = close-done }
