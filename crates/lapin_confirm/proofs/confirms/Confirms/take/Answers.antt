use Rattle.std.proofs.Common.{ap, sym, arith}
use Rattle.lapin_confirm.specs.PublishStates.{is_resolved}
use Rattle.lapin_confirm.proofs.Asides.{forget-kept}
use Rattle.lapin_confirm.proofs.Polling.{zero-stays, past-stays}
use Rattle.lapin_confirm.proofs.confirms.Confirms.take.Goals as goal
use Rattle.lapin_confirm.proofs.confirms.Confirms.take.Goals.{then-number-eq0-via-then-number-eq0, then-number-eq0-via-else-number-eq0+then-number-count}

pub invariant_of-self : goal.invariant_of-self
invariant_of-self c =
    let kept = c.take_message-message.ensures in
    let cell = sym (rw c.in-Some-Resolved.field-0-is at c.in-Some-Resolved.ensures).value in
    forget-kept c.args.number _ _ _ _ _ _ _ _ (ap is_resolved cell) c.take.ensures.slots c.take.ensures.kept kept.origins kept.spare (kept.room c.self.inside.rooms.entries) c.self.invariant

pub returns-then-number-eq0-clause-what : goal.returns-then-number-eq0-clause-what
returns-then-number-eq0-clause-what c =
    elim c.then-number-eq0.branch [
      | then-number-eq0-via-then-number-eq0 w ↦ zero-stays c.args.number c.args.self.now.what (omega (arith, w.if-number-eq0.true))
      | then-number-eq0-via-else-number-eq0+then-number-count w ↦ rw (← c.self.view_is) (past-stays c.args.number _ (omega (arith, w.count.ensures, w.if-number-count.true)))
    ]
