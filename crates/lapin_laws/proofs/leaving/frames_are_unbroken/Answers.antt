use Rattle.lapin_laws.proofs.Parsing.{unbroken}
use Rattle.lapin_laws.proofs.Given.{given_are}
use Rattle.lapin_laws.proofs.Kept.{ends_leave_none}
use Rattle.lapin_laws.proofs.leaving.frames_are_unbroken.Goals as goal

pub returns-clause-frames : goal.returns-clause-frames
returns-clause-frames c = given_are

pub returns-clause-unbroken : goal.returns-clause-unbroken
returns-clause-unbroken c = unbroken

pub returns-clause-ended : goal.returns-clause-ended
returns-clause-ended c = ends_leave_none
