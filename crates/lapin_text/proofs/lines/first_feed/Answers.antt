use Rattle.std.proofs.Common.{eqb}
use Rattle.lapin_tokens.proofs.FirstPlace.{first_is_position}
use Rattle.lapin_text.proofs.lines.first_feed.Goals as goal

pub returns : goal.returns
returns c = first_is_position (λ b. eqb b 10) c.args.bytes.now c.memchr.result c.memchr.ensures
