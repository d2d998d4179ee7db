use Rattle.lapin_text.proofs.LineLaws.{line_found, refused}
use Rattle.lapin_text.proofs.reading.read_event.Goals as goal

pub returns-in-Ok-clause-found : goal.returns-in-Ok-clause-found
returns-in-Ok-clause-found c = line_found c.args.line.now c.in-Ok.event c.in-Ok.ensures

pub returns-in-Err-Bad-clause-none : goal.returns-in-Err-Bad-clause-none
returns-in-Err-Bad-clause-none c = λ e fit is. refused c.args.line.now e fit is (rw c.in-Err-Bad.field-0-is at c.in-Err-Bad.ensures)
