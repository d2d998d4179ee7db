use Rattle.lapin_pairs.specs.Every.{run_a, start_a, conn_a}
use Rattle.lapin_pairs.specs.Tagging.{tagging}
use Rattle.lapin_pairs.proofs.Pairs.{not_refused, not_broken}
use Rattle.lapin_pairs.proofs.Every.{joint_run, joint_start}
use Rattle.lapin_pairs.proofs.Tagging.{Tagged, Calm3, tags_fact}
use Rattle.lapin_pairs.proofs.connection_stays_whole.Goals as goal

pub returns-clause-connection : goal.returns-clause-connection
returns-clause-connection c ss = not_refused (conn_a tagging (run_a tagging ss (start_a tagging))) (joint_run tagging Tagged Calm3 tags_fact (start_a tagging) ss (joint_start tagging Tagged Calm3 tags_fact)).conn

pub returns-clause-broker : goal.returns-clause-broker
returns-clause-broker c ss = not_broken (conn_a tagging (run_a tagging ss (start_a tagging))) (joint_run tagging Tagged Calm3 tags_fact (start_a tagging) ss (joint_start tagging Tagged Calm3 tags_fact)).conn
