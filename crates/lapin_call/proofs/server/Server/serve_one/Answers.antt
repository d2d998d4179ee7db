use Rattle.lapin_call.proofs.Logs.{logged}
use Rattle.lapin_call.proofs.server.Server.serve_one.Goals as goal

pub returns-clause-logged : goal.returns-clause-logged
returns-clause-logged g c = logged _ c.args.self.now c.serve_machine.result c.serve_machine.new.self c.args.session.now c.serve_machine.new.session c.serve_machine.ensures
