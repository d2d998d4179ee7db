use Rattle.lapin_commands.proofs.JoinedRuns.{request_made}
use Rattle.lapin_commands.proofs.joined.take_request.Goals as goal

pub returns-in_ok-print_request-in-Some : goal.returns-in_ok-print_request-in-Some
returns-in_ok-print_request-in-Some c =
    request_made c.args.line.now c.args.said.now c.in-Some.flow c.args.run.now c.print_request.new.run c.args.text.now.items c.print_request.new.text.items c.requires.behind c.in-Some.ensures c.in_ok-print_request-in-Some.ensures
