use Rattle.std.proofs.Common.{◌≡◌, drop}
use Rattle.lapin_joint_text.specs.Reports.{reports_onto}
use Rattle.lapin_joint_text.proofs.reports.put_reports.Given as goal

abbrev pub invariant-loop-report : goal.invariant-loop-report
invariant-loop-report l = reports_onto l.out.items (drop l.report-index l.reports) ≡ reports_onto l.fn.out.items l.reports
