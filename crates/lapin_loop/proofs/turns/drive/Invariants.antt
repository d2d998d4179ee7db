use Rattle.lapin_loop.specs.Driving.{AreTurns}
use Rattle.lapin_loop.proofs.turns.drive.Given as goal

-- after each turn so far the loop went on
abbrev pub invariant-loop-made : goal.invariant-loop-made
invariant-loop-made g l = AreTurns g.W.Wire.takes g.W.Wire.gives l.made l.initial.session l.session l.initial.wire l.wire
