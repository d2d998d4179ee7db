use Rattle.std.proofs.Common.{◌∙◌, sym}
use Rattle.lapin_fields.proofs.ReadableLaws.{readable_text}
use Rattle.lapin_fields.proofs.texts.readable_text.Goals as goal

pub returns-in_ok-literal-in-Ok : goal.returns-in_ok-literal-in-Ok
returns-in_ok-literal-in-Ok c = c.in_ok-literal-in-Ok.ensures ∙ c.in-Ok.ensures.cases.0 ∙ sym (readable_text c.args.bytes.now c.in-Ok.ensures.cases.1)
