use Rattle.lapin_concord.proofs.Laws.{whole_broker, none_refused, tags_in}
use Rattle.lapin_concord.proofs.session_and_broker_are_in_concord.Goals as goal

pub returns-clause-unrefused : goal.returns-clause-unrefused
returns-clause-unrefused c n ts r = none_refused n ts r

pub returns-clause-unbroken : goal.returns-clause-unbroken
returns-clause-unbroken c n ts r = whole_broker n ts r

pub returns-clause-apart : goal.returns-clause-apart
returns-clause-apart c n ts r k l t = tags_in n ts k l t
