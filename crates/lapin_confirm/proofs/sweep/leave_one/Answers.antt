use Rattle.std.proofs.Common.{sym}
use Rattle.lapin_confirm.proofs.Asides.{forget-tied}
use Rattle.lapin_confirm.proofs.sweep.leave_one.Goals as goal

pub returns-clause-tied : goal.returns-clause-tied
returns-clause-tied c = λ es tied. rw c.take.ensures.slots (forget-tied c.args.number es c.args.cells.now.slots (sym c.if-not-is_over.ensures) tied)
