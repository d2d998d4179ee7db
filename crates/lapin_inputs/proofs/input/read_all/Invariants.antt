use Rattle.std.proofs.Common.{◌≡◌, ◌+◌, ◌-◌, ◌≤◌, length, vec_len}
use Rattle.std.specs.Io.KnownBytes.{Consumes}
use Rattle.lapin_io.specs.Numbers.{RoseBy}
use Rattle.lapin_inputs.specs.Reading.{longest_input}
use Rattle.lapin_inputs.proofs.input.read_all.Given as goal

-- what was taken stands in `bytes`, and the source counted it
abbrev pub invariant-loop-bytes : goal.invariant-loop-bytes
invariant-loop-bytes g l = record {
  taken : Consumes (g.S.Source.left l.initial.source) (g.S.Source.left l.source) l.bytes.items;
  counted : RoseBy (length l.bytes.items) (g.S.Source.given l.initial.source) (g.S.Source.given l.source);
  faults : g.S.Source.faults l.initial.source ≤ g.S.Source.faults l.source;
  chunk : vec_len l.chunk ≡ 4032;
  within : vec_len l.bytes ≤ longest_input + 1;
}

abbrev pub decreases-loop-bytes : goal.decreases-loop-bytes
decreases-loop-bytes g l = longest_input + 1 - vec_len l.bytes
