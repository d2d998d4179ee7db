use Rattle.std.proofs.Common.{arith}
use Rattle.lapin_commands.proofs.Commands.{no_generated}
use Rattle.lapin_commands.proofs.words.numbered.Goals as goal

pub returns-in-Some-clause-none : goal.returns-in-Some-clause-none
returns-in-Some-clause-none c = no_generated c.generated.result c.args.word.now c.args.number.now c.in-Some.publishes c.requires c.in-Some.ensures.found (omega arith) c.generated.ensures.none
