use Rattle.std.proofs.Common.{ap, sym, ◌∙◌}
use Rattle.lapin_content.specs.Contents.{heard_body}
use Rattle.lapin_content.specs.Readings.{contents}
use Rattle.lapin_content.proofs.Fitting.{contents-fit}
use Rattle.lapin_content.proofs.Messages.{by-body}
use Rattle.lapin_content.proofs.laws.message_by_body.Goals as goal

pub returns : goal.returns
returns c = λ ms all ch bytes w follows told. by-body bytes (contents ch ms) w (contents-fit ch ms) (sym (ap (heard_body bytes) (follows ch)) ∙ told)
