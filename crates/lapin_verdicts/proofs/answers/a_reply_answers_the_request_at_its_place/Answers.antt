use Rattle.lapin_verdicts.proofs.Answering.{answers_in, answer_comes}
use Rattle.lapin_verdicts.proofs.answers.a_reply_answers_the_request_at_its_place.Goals as goal

pub returns-clause-sent : goal.returns-clause-sent
returns-clause-sent c = answers_in

pub returns-clause-received : goal.returns-clause-received
returns-clause-received c = answer_comes
