use Rattle.std.proofs.Common.{sym, arith}
use Rattle.lapin_confirm.proofs.Places.{found, nowhere}
use Rattle.lapin_confirm.proofs.lists.place_of.Goals as goal

pub returns-then-is_of : goal.returns-then-is_of
returns-then-is_of c = sym (found c.args.number c.loop-place.place c.args.attached.now.items c.loop-place.invariant (sym c.if-is_of.ensures))

pub returns : goal.returns
returns c = sym (nowhere c.args.number c.args.attached.now.items (λ k lt. c.loop-place.invariant k (omega (arith, lt, c.len.ensures))))
