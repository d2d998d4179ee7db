use Rattle.lapin_lines.proofs.KeptLines.{line_fixes}
use Rattle.lapin_lines.proofs.laws.a_line_fixes_what_is_kept.Goals as goal

pub returns : goal.returns
returns a = line_fixes
