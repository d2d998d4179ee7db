use Rattle.lapin_pairs.specs.Every.{run_a, start_a, of_u, chan_a}
use Rattle.lapin_pairs.specs.Tagging.{tagging}
use Rattle.lapin_pairs.proofs.Asking.{calm_now}
use Rattle.lapin_pairs.proofs.Every.{joint_run, joint_start}
use Rattle.lapin_pairs.proofs.Tagging.{Tagged, Calm3, tags_fact, tags_settled, tags_sess, tags_data}
use Rattle.lapin_pairs.proofs.channels_stay_whole.Goals as goal

pub returns-clause-states : goal.returns-clause-states
returns-clause-states c ss d opened =
    let w = run_a tagging ss (start_a tagging) in
    let g = (joint_run tagging Tagged Calm3 tags_fact (start_a tagging) ss (joint_start tagging Tagged Calm3 tags_fact)).chans opened d in
    tags_sess (chan_a tagging d w g.side g.link) g.good

pub returns-clause-expected : goal.returns-clause-expected
returns-clause-expected c ss d opened =
    let w = run_a tagging ss (start_a tagging) in
    let g = (joint_run tagging Tagged Calm3 tags_fact (start_a tagging) ss (joint_start tagging Tagged Calm3 tags_fact)).chans opened d in
    tags_data (chan_a tagging d w g.side g.link) g.good

pub returns-clause-settlements : goal.returns-clause-settlements
returns-clause-settlements c ss d opened =
    let w = run_a tagging ss (start_a tagging) in
    let g = (joint_run tagging Tagged Calm3 tags_fact (start_a tagging) ss (joint_start tagging Tagged Calm3 tags_fact)).chans opened d in
    tags_settled (chan_a tagging d w g.side g.link) g.good

pub returns-clause-peers : goal.returns-clause-peers
returns-clause-peers c ss d up =
    let w = run_a tagging ss (start_a tagging) in
    (calm_now (w.sides d).base (of_u d w.up) ((joint_run tagging Tagged Calm3 tags_fact (start_a tagging) ss (joint_start tagging Tagged Calm3 tags_fact)).sides up d)).0
