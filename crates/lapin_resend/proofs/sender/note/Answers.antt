use Rattle.std.proofs.Common.{rules}
use Rattle.std.proofs.lemmas.Fn.{filter_same}
use Rattle.lapin_resend.specs.Follows.{is_kept}
use Rattle.lapin_resend.proofs.sender.note.Goals as goal

pub returns-clause-messages : goal.returns-clause-messages
returns-clause-messages c = filter_same _ is_kept _ (λ x b f' k. search rules) _ _ c.retain.ensures.filtered
