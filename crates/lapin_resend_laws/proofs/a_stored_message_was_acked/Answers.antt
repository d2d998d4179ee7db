use Rattle.lapin_resend_laws.proofs.Truth.{truly_stored}
use Rattle.lapin_resend_laws.proofs.a_stored_message_was_acked.Goals as goal

pub returns : goal.returns
returns c = λ n most steps. truly_stored n (λ ch k t kind ss. c.a_confirm_is_a_verdict.ensures.run n most ch k t kind ss) steps
