use Rattle.lapin_fields.proofs.PartLaws.{part_more, whole_more, around_more}
use Rattle.lapin_fields.proofs.laws.what_is_wanted_is_wanted.Goals as goal

pub returns-clause-part : goal.returns-clause-part
returns-clause-part c = part_more

pub returns-clause-whole : goal.returns-clause-whole
returns-clause-whole c = whole_more

pub returns-clause-found : goal.returns-clause-found
returns-clause-found c = around_more
