use Rattle.lapin_verdicts.proofs.Called.{leaves_where_called}
use Rattle.lapin_verdicts.proofs.verdicts.a_publish_leaves_in_the_opening_of_its_call.Goals as goal

pub returns : goal.returns
returns c frame_max big k steps left = leaves_where_called frame_max big k steps left
