use Rattle.std.proofs.Common.{Some, inr, subst}
use Rattle.lapin_io.specs.declared.sink.SinkError.TheVariants as sink_error
use Rattle.lapin_inputs.specs.Printing.{NoFirst, bad_line_text}
use Rattle.lapin_inputs.proofs.Ending.{at_error}
use Rattle.lapin_inputs.proofs.Streaming.{few_behind}
use Rattle.lapin_inputs.proofs.printing.write_input.Goals as goal

pub write_lines-requires-clause-few : goal.write_lines-requires-clause-few
write_lines-requires-clause-few g c = few_behind c.args.input.now c.new-lines.result c.take_max.new.lines _ c.new-lines.ensures c.in-Some.ensures.some.1 c.requires.short

pub write_lines-requires-clause-takes : goal.write_lines-requires-clause-takes
write_lines-requires-clause-takes g c = c.in-Ok.ensures.takes _ (few_behind c.args.input.now c.new-lines.result c.take_max.new.lines _ c.new-lines.ensures c.in-Some.ensures.some.1 c.requires.short)

pub returns-in-None-clause-cut_short : goal.returns-in-None-clause-cut_short
returns-in-None-clause-cut_short g c = λ failed. (
  Some 1,
  bad_line_text (Some 1),
  g.met.R.Run.first c.args.argument.now c.args.input.now (subst NoFirst c.new-lines.ensures c.in-None.ensures.none),
  at_error c.write_rest.result sink_error.Failed _ (rw c.new.ensures.items at c.write_rest.ensures.err) failed,
)

pub returns-in-None-clause-no_memory : goal.returns-in-None-clause-no_memory
returns-in-None-clause-no_memory g c = λ short. inr (
  Some 1,
  bad_line_text (Some 1),
  g.met.R.Run.first c.args.argument.now c.args.input.now (subst NoFirst c.new-lines.ensures c.in-None.ensures.none),
  at_error c.write_rest.result sink_error.NoMemory _ (rw c.new.ensures.items at c.write_rest.ensures.err) short,
)
