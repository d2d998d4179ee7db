use Rattle.std.proofs.Common.{◌≡◌, drop}
use Rattle.lapin_check_text.specs.Findings.{account_onto}
use Rattle.lapin_check_text.proofs.findings.put_account.Given as goal

abbrev pub invariant-loop-counted : goal.invariant-loop-counted
invariant-loop-counted l = account_onto l.out.items (drop l.counted-index l.account) ≡ account_onto l.fn.out.items l.account
