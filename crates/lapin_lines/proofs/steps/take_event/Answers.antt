use Rattle.lapin_text.specs.LineReading.{line_at}
use Rattle.lapin_lines.proofs.Taking.{said_by, unsaid, taken, left}
use Rattle.lapin_lines.proofs.steps.take_event.Goals as goal

pub returns-in_ok-print_step-in-Some : goal.returns-in_ok-print_step-in-Some
returns-in_ok-print_step-in-Some c =
    let found = rw c.in-Some.is at c.in_ok-event.ensures.found in
    taken (line_at c.args.line.now) c.in-Some.event c.args.session.now c.print_step.new.session c.args.text.now.items c.print_step.new.text.items (said_by c.args.line.now c.in-Some.event found.1 found.0) c.in_ok-print_step-in-Some.ensures

pub returns-in-None : goal.returns-in-None
returns-in-None c =
    let none = rw c.in-None.is at c.in_ok-event.ensures.none in
    left (line_at c.args.line.now) c.args.session.now c.args.text.now.items (unsaid c.args.line.now none)
