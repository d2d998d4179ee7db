use Rattle.lapin_resend_text.proofs.MessageLaws.{message_found, message_refused}
use Rattle.lapin_resend_text.proofs.messages.read_message.Goals as goal

pub returns-in-Ok-clause-found : goal.returns-in-Ok-clause-found
returns-in-Ok-clause-found c = message_found c.args.piece.now c.in-Ok.message c.in-Ok.ensures

pub returns-in-Err-Bad-clause-none : goal.returns-in-Err-Bad-clause-none
returns-in-Err-Bad-clause-none c = λ m fit is. message_refused c.args.piece.now m fit is (rw c.in-Err-Bad.field-0-is at c.in-Err-Bad.ensures)
