use Rattle.std.proofs.Common.{sym, arith}
use Rattle.std.proofs.lemmas.Option.{slice_get-get_or, slice_get_past}
use Rattle.lapin_method_text.proofs.kinds.kind_in.Goals as goal

pub returns-then-place-kinds : goal.returns-then-place-kinds
returns-then-place-kinds c = sym (slice_get-get_or c.args.kinds.now c.args.place _ c.if-place-kinds.true)

pub returns-else-place-kinds : goal.returns-else-place-kinds
returns-else-place-kinds c = sym (slice_get_past c.args.kinds.now c.args.place (omega (arith, c.if-place-kinds.false)))
