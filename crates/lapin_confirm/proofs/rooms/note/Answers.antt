use Rattle.lapin_confirm.proofs.Roomy.{spare-joined, known-joined}
use Rattle.lapin_confirm.proofs.rooms.note.Goals as goal

pub returns-clause-same : goal.returns-clause-same
returns-clause-same c = λ d. rw c.in_ok-insert.ensures.ok (spare-joined c.args.channel d c.args.rooms.now.entries)

pub returns-clause-known : goal.returns-clause-known
returns-clause-known c = rw c.in_ok-insert.ensures.ok (known-joined c.args.channel c.args.rooms.now.entries)
