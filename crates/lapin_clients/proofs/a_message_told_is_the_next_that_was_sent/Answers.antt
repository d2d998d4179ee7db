use Rattle.lapin_clients.proofs.Messages.{messages_told}
use Rattle.lapin_clients.proofs.a_message_told_is_the_next_that_was_sent.Goals as goal

pub returns : goal.returns
returns c = λ n acts. messages_told n (c.a_session_and_an_honest_broker.ensures n) acts
