use Rattle.std.proofs.Common.{ap, sym, ◌∙◌}
use Rattle.lapin_content.specs.Contents.{heard_header}
use Rattle.lapin_content.specs.Readings.{contents}
use Rattle.lapin_content.proofs.Messages.{by-header}
use Rattle.lapin_content.proofs.laws.message_by_header.Goals as goal

pub returns : goal.returns
returns c = λ ms all ch h w follows told. by-header h (contents ch ms) w (sym (ap (heard_header h) (follows ch)) ∙ told)
