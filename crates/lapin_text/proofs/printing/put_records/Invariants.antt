use Rattle.std.proofs.Common.{◌≡◌, drop}
use Rattle.lapin_text.specs.Records.{records_onto}
use Rattle.lapin_text.proofs.printing.put_records.Given as goal

abbrev pub invariant-loop-record : goal.invariant-loop-record
invariant-loop-record l = records_onto l.out.items (drop l.record-index l.records) ≡ records_onto l.fn.out.items l.records
