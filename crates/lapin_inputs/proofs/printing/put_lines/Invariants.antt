use Rattle.std.proofs.Common.{◌≡◌, ◌+◌, ◌≤◌, ◌^◌, length}
use Rattle.lapin_inputs.proofs.Streaming.{Reaches}
use Rattle.lapin_inputs.proofs.printing.put_lines.Given as goal

-- what was written and what is held leads on from here
abbrev pub invariant-loop-line : goal.invariant-loop-line
invariant-loop-line g l = record {
  reaches : (past : g.R.Run.Past) → g.R.Run.stands past l.initial.run → (now : g.R.Run.Past) × g.R.Run.stands now l.run × Reaches g.R.Run.goes_on past l.initial.lines (g.K.Sink.written l.initial.sink) (g.K.Sink.written l.sink) now l.number l.lines l.held.items;
  takes : g.R.Run.takes (length l.lines) l.run;
  lines : l.number + length l.lines ≤ 2 ^ 31 + 2;
  faults : g.K.Sink.faults l.sink ≡ g.K.Sink.faults l.initial.sink;
}

abbrev pub decreases-loop-line : goal.decreases-loop-line
decreases-loop-line g l = length l.lines
