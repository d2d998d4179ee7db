use Rattle.lapin_clients.proofs.Replies.{replies_told}
use Rattle.lapin_clients.proofs.an_answer_told_is_the_reply_to_its_call.Goals as goal

pub returns : goal.returns
returns c = λ n acts. replies_told n (c.a_session_and_an_honest_broker.ensures n) acts
