use Rattle.lapin_messages.proofs.Laws.{logs_sent, logs_carried}
use Rattle.lapin_messages.proofs.a_consumer_has_what_was_sent_to_its_tag.Goals as goal

pub returns-clause-prefix : goal.returns-clause-prefix
returns-clause-prefix c = logs_sent

pub returns-clause-kept : goal.returns-clause-kept
returns-clause-kept c = logs_carried
