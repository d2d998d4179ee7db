use Rattle.std.proofs.Common.{refl}
use Rattle.std.proofs.lemmas.Bool.{eq-eqb}
use Rattle.lapin_acker.specs.Marks as mark
use Rattle.lapin_acker.proofs.Following.{used-for-good}
use Rattle.lapin_acker.proofs.laws.used_once.Goals as goal

pub returns-clause-spent : goal.returns-clause-spent
returns-clause-spent c = λ n ms later given. used-for-good n ms later (mark.Spent n) given (eq-eqb n n refl)

pub returns-clause-void : goal.returns-clause-void
returns-clause-void c = λ n ks ms later given named. used-for-good n ms later (mark.Voided ks) given named
