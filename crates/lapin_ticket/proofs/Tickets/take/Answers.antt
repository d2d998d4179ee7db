use Rattle.std.proofs.Common.{◌≡◌, ℕ, length, sym, subst, refl, arith}
use Rattle.lapin_ticket.specs.Slots.{after_poll}
use Rattle.lapin_ticket.proofs.Shown.{length_shown, untaken}
use Rattle.lapin_ticket.proofs.Tickets.take.Goals.{then-number-eq0-via-then-number-eq0, then-number-eq0-via-else-number-eq0+then-number-count}
use Rattle.lapin_ticket.proofs.Tickets.take.Goals as goal

pub returns-then-number-eq0-clause-slots : goal.returns-then-number-eq0-clause-slots
returns-then-number-eq0-clause-slots c =
    let P : ℕ → Type 0 = λ n. c.args.self.now.slots ≡ after_poll n c.args.self.now.slots in
    let long : length c.args.self.now.slots ≡ length c.self.inside.slots.slots = rw (← c.self.view_is) (length_shown 0 c.self.inside.blocks.slots c.self.inside.slots.slots) in
    elim c.then-number-eq0.branch [
      | then-number-eq0-via-then-number-eq0 w ↦ subst P (sym w.if-number-eq0.true) refl
      | then-number-eq0-via-else-number-eq0+then-number-count w ↦ untaken c.args.number c.args.self.now.slots (omega (arith, w.count.ensures, w.if-number-count.true, long))
    ]
