use Rattle.std.proofs.Common.{◌≡◌, ◌+◌, length}
use Rattle.lapin_shared.specs.Grown.{AreFresh}
use Rattle.lapin_shared.proofs.client.Client.new.Given as goal

abbrev pub invariant-loop-i : goal.invariant-loop-i
invariant-loop-i g l = record { parts : l.rest.parts + l.i ≡ l.callers; amount : l.rest.amount ≡ 0; count : length l.all.items ≡ l.i; fresh : AreFresh 1 l.all.items }
