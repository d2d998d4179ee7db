use Rattle.lapin_threads.specs.Each.{Leaves}
use Rattle.lapin_threads.proofs.Sums.{tallied_one, tallied_append}
use Rattle.lapin_threads.proofs.tally.+tally_halves.Goals as goal

pub tally_mut-returns-then-s-eq1 : goal.tally_mut-returns-then-s-eq1
tally_mut-returns-then-s-eq1 g t c =
    tallied_one (Leaves g.F.Fn c.args.f.now) c.args.s.now c.index-s-0.result c.at_one.new.it c.at_one.result c.if-s-eq1.true c.at_one.ensures.leaves c.at_one.ensures.fits

pub tally_mut-returns : goal.tally_mut-returns
tally_mut-returns g t c =
    let a = c.split_at_mut-a.result.0.now in
    let b = c.split_at_mut-a.result.1.now in
    rw (c.split_at_mut-a.ensures.value, c.sum_of.ensures)
    (tallied_append (Leaves g.F.Fn c.args.f.now) a c.both.new.a b c.both.new.b c.both.result.0 c.both.result.1 c.both.ensures.front c.both.ensures.back)
