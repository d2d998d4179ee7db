-- The first piece leaves: a copy of the first bytes where more follow, else the bytes that are left.
use Rattle.std.proofs.Common.{drop, Some, sym, ◌∙◌, ap}
use Rattle.lapin_outbox.proofs.Pieces.{left-more, left-one, first-left}
use Rattle.lapin_outbox.proofs.bodies.Bodies.next.Goals as goal

pub returns-then-unsent-self-clause-ok : goal.returns-then-unsent-self-clause-ok
returns-then-unsent-self-clause-ok c =
    let from = c.split_at.ensures.back ∙ ap (drop c.self.inside.sent) c.as_bytes.ensures in
    left-more _ _ _ _ _ _ c.in-Some.is c.self.view_is from c.self.invariant.0 c.if-unsent-self.true

pub returns-then-self-eq0-clause-told : goal.returns-then-self-eq0-clause-told
returns-then-self-eq0-clause-told c =
    let from = c.split_at.ensures.back ∙ ap (drop c.self.inside.sent) c.as_bytes.ensures in
    let one = left-one _ _ _ _ _ _ c.in-Some.is c.self.view_is from c.self.invariant.0 (sym c.is_empty.ensures ∙ c.if-is_empty.false) c.if-unsent-self.false in
    c.take.ensures.value ∙ c.in-Some.is ∙ first-left _ _ _ _ c.if-self-eq0.true from one

pub returns-then-self-eq0-clause-ok : goal.returns-then-self-eq0-clause-ok
returns-then-self-eq0-clause-ok c =
    let from = c.split_at.ensures.back ∙ ap (drop c.self.inside.sent) c.as_bytes.ensures in
    let one = left-one _ _ _ _ _ _ c.in-Some.is c.self.view_is from c.self.invariant.0 (sym c.is_empty.ensures ∙ c.if-is_empty.false) c.if-unsent-self.false in
    rw (c.take.ensures.after) (sym (ap (drop 1) one))

pub returns-clause-told : goal.returns-clause-told
returns-clause-told c =
    let from = c.split_at.ensures.back ∙ ap (drop c.self.inside.sent) c.as_bytes.ensures in
    let one = left-one _ _ _ _ _ _ c.in-Some.is c.self.view_is from c.self.invariant.0 (sym c.is_empty.ensures ∙ c.if-is_empty.false) c.if-unsent-self.false in
    rw (one) (ap Some c.in_ok-body-2.ensures)

pub returns-clause-ok : goal.returns-clause-ok
returns-clause-ok c =
    let from = c.split_at.ensures.back ∙ ap (drop c.self.inside.sent) c.as_bytes.ensures in
    let one = left-one _ _ _ _ _ _ c.in-Some.is c.self.view_is from c.self.invariant.0 (sym c.is_empty.ensures ∙ c.if-is_empty.false) c.if-unsent-self.false in
    rw (c.take-2.ensures.after) (sym (ap (drop 1) one))
