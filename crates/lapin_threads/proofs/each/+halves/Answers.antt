use Rattle.std.proofs.Common.{Bool, true, subst, get_or}
use Rattle.lapin_threads.specs.Each.{Leaves}
use Rattle.lapin_threads.proofs.Sides.{left_one, left_append}
use Rattle.lapin_threads.proofs.each.+halves.Goals as goal

pub each_mut-returns-then-s-eq1 : goal.each_mut-returns-then-s-eq1
each_mut-returns-then-s-eq1 g t c = λ is.
    let at : Bool → Type 0 = λ r. Leaves g.F.Fn c.args.f.now (get_or c.args.s.now 0 c.index-s-0.result) r c.at_one.new.it in
    left_one (λ x y. Leaves g.F.Fn c.args.f.now x true y) c.args.s.now c.index-s-0.result c.at_one.new.it c.if-s-eq1.true (subst at is c.at_one.ensures)

pub each_mut-returns-then-x : goal.each_mut-returns-then-x
each_mut-returns-then-x g t c = λ is.
    let a = c.split_at_mut-a.result.0.now in
    let b = c.split_at_mut-a.result.1.now in
    rw c.split_at_mut-a.ensures.value
    (left_append (λ x y. Leaves g.F.Fn c.args.f.now x true y) a c.both-x.new.a b c.both-x.new.b (c.both-x.ensures.front c.if-x.true) (c.both-x.ensures.back is))
