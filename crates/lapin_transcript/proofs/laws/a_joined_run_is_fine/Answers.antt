use Rattle.lapin_transcript.proofs.Fine.{transcript_fine}
use Rattle.lapin_transcript.proofs.laws.a_joined_run_is_fine.Goals as goal

pub returns : goal.returns
returns c = λ n steps most. transcript_fine c.down_for_good.ensures.stays_lost c.down_for_good.ensures.lost n (λ made. c.broker_is_never_broken.ensures n made most) steps
