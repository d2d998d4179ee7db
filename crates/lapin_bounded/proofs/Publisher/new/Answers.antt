use Rattle.std.proofs.Common.{sym, subst}
use Rattle.lapin_reached.specs.Limited.{IsGuarded}
use Rattle.lapin_bounded.proofs.Publisher.new.Goals as goal

pub invariant_of-result : goal.invariant_of-result
invariant_of-result c = record { guarded = subst (IsGuarded 100 1) (sym c.in_ok-session.ensures.value) (c.a_careful_caller_is_guarded.ensures.new 131072 100 1) }
