use Rattle.lapin_call.proofs.Requests.{next_request}
use Rattle.lapin_call.proofs.server.Server.serve_next.Goals as goal

pub returns-in-Request : goal.returns-in-Request
returns-in-Request g c = next_request _ c.args.self.now c.in-Request.delivery _ c.serve_held.result c.serve_held.new.self c.poll.new.session _ c.serve_held.new.session c.in-Request.ensures.told c.in-Request.ensures.ok c.serve_held.ensures
