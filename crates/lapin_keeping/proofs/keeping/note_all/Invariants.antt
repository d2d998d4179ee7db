use Rattle.std.proofs.Common.{List, drop}
use Rattle.lapin_keeping.specs.declared.kept.Kept.{Kept}
use Rattle.lapin_keeping.specs.Returns.{AreNoted}
use Rattle.lapin_keeping.proofs.keeping.note_all.Given as goal

abbrev pub invariant-loop-message : goal.invariant-loop-message
invariant-loop-message l = (to : List Kept) → AreNoted (drop l.message-index l.back) l.messages.items to → AreNoted l.back l.fn.messages.items to
