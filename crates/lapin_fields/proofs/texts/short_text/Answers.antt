use Rattle.std.proofs.Common.{◌∙◌}
use Rattle.std.proofs.lemmas.Str.{is_utf8-from_IsUtf8, IsUtf8-from_is_utf8}
use Rattle.lapin_fields.proofs.texts.short_text.Goals as goal
use Rattle.std.proofs.lemmas.Bool.{false_from_ne_true}

pub returns-in-Ok-new : goal.returns-in-Ok-new
returns-in-Ok-new c = (c.in-Ok-new.ensures.ok ∙ c.in-Ok.ensures.cases.0, is_utf8-from_IsUtf8 c.args.bytes.now c.in-Ok.ensures.cases.1)

pub returns-in-Err : goal.returns-in-Err
returns-in-Err c = false_from_ne_true _ (λ e. c.in-Err.ensures.cases.0 (IsUtf8-from_is_utf8 c.args.bytes.now e))
