use Rattle.lapin_laws.specs.Limits.{history_of, told_behind}
use Rattle.lapin_told.proofs.Lines.{kept_alike}
use Rattle.lapin_told.proofs.Runs.{told_fits}
use Rattle.lapin_told.proofs.laws.a_line_fixes_what_sessions_keep.Goals as goal

pub returns : goal.returns
returns c = λ m n es fs e a b p q line x y. kept_alike c.a_line_fixes_what_is_kept.ensures (history_of m es) (history_of n fs) e (told_behind m es e) (told_behind n fs e) a b (told_fits m es e p) (told_fits n fs e q) line x y
