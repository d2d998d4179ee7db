use Rattle.std.proofs.Common.{◌≡◌, Some, arith}
use Rattle.lapin_tables.proofs.Passed.{rises-push, push-value, push-other}
use Rattle.lapin_tables.proofs.numbered.stand.Goals as goal

pub returns-in-Some-clause-value : goal.returns-in-Some-clause-value
returns-in-Some-clause-value g c =
    let is : c.args.slot ≡ Some c.in-Some.value = c.in-Some.is in
    rw (c.push_back_reserved.ensures.items, is) (push-value c.args.number c.in-Some.value c.args.behind.now.items (c.requires.above c.args.number (omega arith)))

pub returns-in-Some-clause-others : goal.returns-in-Some-clause-others
returns-in-Some-clause-others g c = λ n apart. rw c.push_back_reserved.ensures.items (push-other _ n _ _ apart)

pub returns-in-Some-clause-rises : goal.returns-in-Some-clause-rises
returns-in-Some-clause-rises g c = rw c.push_back_reserved.ensures.items (rises-push 0 _ _ _ c.requires.rises c.requires.first c.requires.above)
