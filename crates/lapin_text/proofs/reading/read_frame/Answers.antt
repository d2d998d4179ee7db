use Rattle.lapin_text.proofs.LineLaws.{text_found, text_refused}
use Rattle.lapin_text.proofs.reading.read_frame.Goals as goal

pub returns-in-Ok-clause-found : goal.returns-in-Ok-clause-found
returns-in-Ok-clause-found c = text_found c.args.piece.now c.in-Ok.frame c.in-Ok.ensures

pub returns-in-Err-Bad-clause-none : goal.returns-in-Err-Bad-clause-none
returns-in-Err-Bad-clause-none c = λ f fit is. text_refused c.args.piece.now f fit is (rw c.in-Err-Bad.field-0-is at c.in-Err-Bad.ensures)
